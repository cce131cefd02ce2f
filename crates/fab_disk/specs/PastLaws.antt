-- Laws of what a crash may leave after a past.
use Rattle.std.proofs.Common.{◌≡◌, inl, inr, ℕ, ◌+◌, ◌-◌, ◌<◌, ◌≤◌, List, [], ◌∷◌, length, get_or, refl, sym, subst, arith}
use Rattle.std.proofs.lemmas.List.{places}
use Rattle.fab_disk.specs.Disk.{Torn, IsOutside}
use Rattle.fab_disk.specs.Settled.{rolled_back}
use Rattle.fab_disk.specs.Past.{PastWrite, Past, wrote, synced, undone, IsImage, HadImage, IsPlaced, Fits}

-- what undoing a write gives, at each place
pub undone_below : (w : PastWrite) (content : List ℕ) (i : ℕ) → w.at + length w.before ≤ length content → i < w.length_before → i < w.at
    → get_or (undone w content) i 0 ≡ get_or content i 0
undone_below w content i fits lt below = grind (arith, places)

pub undone_within : (w : PastWrite) (content : List ℕ) (i : ℕ) → w.at + length w.before ≤ length content → i < w.length_before → w.at ≤ i
    → i < w.at + length w.before → get_or (undone w content) i 0 ≡ get_or w.before (i - w.at) 0
undone_within w content i fits lt low high = grind (arith, places)

pub undone_above : (w : PastWrite) (content : List ℕ) (i : ℕ) → w.at + length w.before ≤ length content → i < w.length_before
    → w.at + length w.before ≤ i → get_or (undone w content) i 0 ≡ get_or content i 0
undone_above w content i fits lt above = grind (arith, places)

pub length-undone : (w : PastWrite) (content : List ℕ) → w.at + length w.before ≤ length content → w.length_before ≤ length content
    → length (undone w content) ≡ w.length_before
length-undone w content fits long = grind (arith, places)

-- content may be what a write that was torn left of what was there before
pub torn_undone : (w : PastWrite) (content : List ℕ) → IsPlaced w (length content) → Torn w.at w.len (undone w content) content
torn_undone w content placed =
    let size = length-undone w content placed.within placed.no_shorter in
    record {
      kept = λ i lt out. kept i (omega arith) out;
      no_shorter = omega (arith, placed.no_shorter);
      no_longer = omega (arith, placed.no_longer);
    }
  where
    kept : (i : ℕ) → i < w.length_before → IsOutside w.at w.len i → get_or content i 0 ≡ get_or (undone w content) i 0
    kept i lt (inl below) = sym (undone_below w content i placed.within lt below)
    kept i lt (inr above) = sym (undone_above w content i placed.within lt (omega (arith, placed.no_more)))

-- what is there now may be left
pub content_is_image : (past : List Past) (content : List ℕ) → Fits past (length content) → IsImage past content content
content_is_image [] content fits = refl
content_is_image (synced ∷ older) content fits = refl
content_is_image (wrote w ∷ older) content fits =
    let size = length-undone w content fits.0.within fits.0.no_shorter in
    (undone w content, content_is_image older (undone w content) (subst (Fits older) (sym size) fits.1), torn_undone w content fits.0)

-- what the last sync left may be left
pub rolled_back_is_image : (past : List Past) (content : List ℕ) → IsImage past content (rolled_back past content)
rolled_back_is_image [] content = refl
rolled_back_is_image (synced ∷ older) content = refl
rolled_back_is_image (wrote w ∷ older) content = (
  rolled_back older (undone w content),
  rolled_back_is_image older (undone w content),
  record { kept = λ i lt out. refl; no_shorter = omega arith; no_longer = omega arith },
)

-- what may be left now is left at this moment, and so at one since an earlier one
pub image_had : (past : List Past) (content : List ℕ) (t : ℕ) (image : List ℕ) → IsImage past content image → HadImage past content t image
image_had [] content t image now = now
image_had (call ∷ older) content t image now = inl now

-- since this moment there is no other
pub had_now : (past : List Past) (content image : List ℕ) → HadImage past content (length past) image → IsImage past content image
had_now [] content image now = now
had_now (call ∷ older) content image (inl now) = now
had_now (call ∷ older) content image (inr earlier) = absurd (omega (arith, earlier.0))
