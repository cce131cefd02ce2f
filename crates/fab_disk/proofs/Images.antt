-- What a crash may leave after each call.
use Rattle.std.proofs.Common.{◌≡◌, ◌⊎◌, inl, inr, ℕ, ◌+◌, ◌<◌, ◌≤◌, Bool, false, ◌||◌, ◌&&◌, List, [], ◌∷◌, length, get_or, sym, ◌∙◌, ap, subst, arith, nat_lt}
use Rattle.std.specs.Prelude.{nat_le}
use Rattle.std.proofs.lemmas.Bool.{cases_lt}
use Rattle.std.proofs.lemmas.Bool.Decides.{nat_tests}
use Rattle.std.proofs.lemmas.Grind.{same_number_lists}
use Rattle.fab_disk.specs.Disk.{Torn, IsOutside}
use Rattle.fab_disk.specs.Past.{PastWrite, Past, wrote, synced, undone, IsImage, IsPlaced, Fits}
use Rattle.fab_disk.specs.PastLaws.{length-undone, undone_below, undone_within, undone_above, torn_undone}
use Rattle.fab_disk.specs.Settled.{rolled_back, is_uncertain}
use Rattle.fab_disk.specs.Medium.{IsWrittenOver}

-- one write more tears what might have been left before
pub write_crash : (at n : ℕ) (old new : List Past) (content after : List ℕ) → IsWrittenOver at n old new content after → (image : List ℕ)
    → IsImage new after image
    → (before : List ℕ) × IsImage old content before × Torn at n before image
write_crash at n old new content after over image left =
    let torn : IsImage (wrote over.change ∷ old) after image = subst (λ (p : List Past). IsImage p after image) over.remembered left in
    (torn.0, subst (λ (c : List ℕ). IsImage old c torn.0) over.comes_back torn.1, over.torn torn.0 image torn.2)

-- a write of no bytes tears nothing
pub torn_none : (at : ℕ) (old new : List ℕ) → Torn at 0 old new → at ≤ length old → new ≡ old
torn_none at old new torn within =
    same_number_lists new old (omega (arith, torn.no_shorter, torn.no_longer)) (λ i lt. torn.kept i (omega (arith, torn.no_longer)) (outside i (cases_lt i at)))
  where
    outside : (i : ℕ) → (i < at) ⊎ (at ≤ i) → IsOutside at 0 i
    outside i (inl below) = inl below
    outside i (inr above) = inr (omega arith)

-- a write leaves what the last sync left
pub certain_wrote : (at n : ℕ) (old new : List Past) (content after : List ℕ) → IsWrittenOver at n old new content after
    → rolled_back new after ≡ rolled_back old content
certain_wrote at n old new content after over =
    ap (λ (p : List Past). rolled_back p after) over.remembered ∙ ap (rolled_back old) over.comes_back

-- the bytes are those of the content at each place that is certain
pub record IsSameWhereCertain (past : List Past) (content image : List ℕ) : Type 0 where
  pub size : length image ≡ length content
  pub certain : (i : ℕ) → i < length content → is_uncertain past (length content) i ≡ false → get_or image i 0 ≡ get_or content i 0

same_if_certain : (content image : List ℕ) → length image ≡ length content → ((i : ℕ) → i < length content → nat_le (length content) i ≡ false
    → get_or image i 0 ≡ get_or content i 0) → image ≡ content
same_if_certain content image size certain =
    same_number_lists image content size (λ i lt. let within : i < length content = omega arith in certain i within (below (length content) i within))
  where
    below : (n i : ℕ) → i < n → nat_le n i ≡ false
    below n i lt = grind (arith, nat_tests)

-- so too before a write
certain_before : (w : PastWrite) (older : List Past) (content image : List ℕ) → IsPlaced w (length content)
    → IsSameWhereCertain (wrote w ∷ older) content image
    → IsSameWhereCertain older (undone w content) (undone w image)
certain_before w older content image placed same =
    let size = length-undone w content placed.within placed.no_shorter in
    let image_size : length (undone w image) ≡ w.length_before = length-undone w image (omega (arith, same.size, placed.within))
    (omega (arith, same.size, placed.no_shorter)) in
    record {
      size = image_size ∙ sym size;
      certain = λ i lt is. place i (omega arith) (subst (λ (n : ℕ). is_uncertain older n i ≡ false) size is);
    }
  where
    outside : (i : ℕ) → (i < w.at) ⊎ (w.at + w.len ≤ i) → (nat_le w.at i && nat_lt i (w.at + w.len)) ≡ false
    outside i (inl low) = grind (arith, nat_tests)
    outside i (inr high) = grind (arith, nat_tests)

    stays : (i : ℕ) → i < w.length_before → (i < w.at) ⊎ (w.at + w.len ≤ i) → is_uncertain older w.length_before i ≡ false
        → get_or image i 0 ≡ get_or content i 0
    stays i lt out is =
        same.certain i (omega (arith, placed.no_shorter)) (ap (λ (t : Bool). t || is_uncertain older w.length_before i) (outside i out) ∙ is)

    place : (i : ℕ) → i < w.length_before → is_uncertain older w.length_before i ≡ false → get_or (undone w image) i 0 ≡ get_or (undone w content) i 0
    place i lt is =
        let fits : w.at + length w.before ≤ length image = omega (arith, same.size, placed.within) in
        elim (cases_lt i w.at) [
          | inl low ↦ undone_below w image i fits lt low ∙ stays i lt (inl low) is ∙ sym (undone_below w content i placed.within lt low)
          | inr high ↦ elim (cases_lt i (w.at + length w.before)) [
            | inl within ↦ undone_within w image i fits lt high within ∙ sym (undone_within w content i placed.within lt high within)
            | inr above ↦ undone_above w image i fits lt above ∙ stays i lt (inr (omega (arith, placed.all_kept))) is ∙ sym (undone_above w content i placed.within lt above)
          ]
        ]

-- any bytes at the places that are uncertain may be left
pub drawn_is_image : (past : List Past) (content image : List ℕ) → Fits past (length content) → IsSameWhereCertain past content image
    → IsImage past content image
drawn_is_image [] content image fits same = same_if_certain content image same.size same.certain
drawn_is_image (synced ∷ older) content image fits same = same_if_certain content image same.size same.certain
drawn_is_image (wrote w ∷ older) content image fits same =
    let size = length-undone w content fits.0.within fits.0.no_shorter in (
      undone w image,
      drawn_is_image older (undone w content) (undone w image) (subst (Fits older) (sym size) fits.1)
          (certain_before w older content image fits.0 same),
      torn_undone w image (subst (IsPlaced w) (sym same.size) fits.0),
    )
