-- How the bytes that a crash may change are drawn.
use Rattle.std.proofs.Common.{◌≡◌, ◌≢◌, reverse, inl, inr, ℕ, zero, suc, ◌+◌, ◌%◌, ◌<◌, Bool, true, false, List, [], ◌∷◌, ◌++◌, length, get_or, set, take, drop, refl, sym, ◌∙◌, ap, subst, arith, if◌then◌else◌}
use Rattle.std.specs.Prelude.{◌==◌}
use Rattle.std.proofs.lemmas.Bool.{cases_Bool}
use Rattle.std.proofs.lemmas.Bool.Decides.{nat_tests}
use Rattle.std.proofs.lemmas.List.{take_more, take_more_set, drop_more, drop-set-lt, append_assoc}
use Rattle.rand_pcg.specs.Lcg.{Lcg}
use Rattle.rand_pcg.specs.Pcg.{pcg32}
use Rattle.fab_disk.specs.declared.medium.Step.{Step}
use Rattle.fab_disk.proofs.Uncertain.{same_places}
use Rattle.fab_disk.specs.Past.{Past, Fits, IsImage, past_of}
use Rattle.fab_disk.specs.PastLaws.{rolled_back_is_image, content_is_image}
use Rattle.fab_disk.specs.Settled.{filled, rolled_back, is_uncertain, seeded, settled_at}
use Rattle.fab_disk.proofs.Images.{IsSameWhereCertain, drawn_is_image}

-- one place that is drawn
pub filled_drawn : (uncertain : ℕ → Bool) (random : Lcg) (i byte : ℕ) (rest : List ℕ) → uncertain i ≡ true
    → filled uncertain random i (byte ∷ rest) ≡ (pcg32 random).0 % 256 ∷ filled uncertain (pcg32 random).1 (i + 1) rest
filled_drawn uncertain random i byte rest is =
    ap (λ (b : Bool). if b then ((pcg32 random).0 % 256) ∷ filled uncertain (pcg32 random).1 (i + 1) rest else byte ∷ filled uncertain random
    (i + 1) rest) is

-- one place that stays
pub filled_kept : (uncertain : ℕ → Bool) (random : Lcg) (i byte : ℕ) (rest : List ℕ) → uncertain i ≡ false
    → filled uncertain random i (byte ∷ rest) ≡ byte ∷ filled uncertain random (i + 1) rest
filled_kept uncertain random i byte rest is =
    ap (λ (b : Bool). if b then ((pcg32 random).0 % 256) ∷ filled uncertain (pcg32 random).1 (i + 1) rest else byte ∷ filled uncertain random
    (i + 1) rest) is

module _ (uncertain : ℕ → Bool) (random : Lcg) (content : List ℕ) (start i : ℕ) (within : i < length content) where
  up : start + (i + 1) ≡ start + i + 1
  up = omega arith

  -- a step of the loop at a place that is drawn
  pub step_drawn : uncertain (start + i) ≡ true → take (i + 1) (set content i ((pcg32 random).0 % 256)) ++ filled uncertain (pcg32 random).1
      (start + (i + 1)) (drop (i + 1) (set content i ((pcg32 random).0 % 256)))
      ≡ take i content ++ filled uncertain random (start + i) (drop i content)
  step_drawn is =
      ap (λ (j : ℕ). take (i + 1) (set content i ((pcg32 random).0 % 256)) ++ filled uncertain (pcg32 random).1 j
      (drop (i + 1) (set content i ((pcg32 random).0 % 256)))) up
      ∙ ap (λ (l : List ℕ). l ++ filled uncertain (pcg32 random).1 (start + i + 1) (drop (i + 1) (set content i ((pcg32 random).0 % 256))))
      (take_more_set content i ((pcg32 random).0 % 256) within)
      ∙ ap (λ (l : List ℕ). (take i content ++ (pcg32 random).0 % 256 ∷ []) ++ filled uncertain (pcg32 random).1 (start + i + 1) l)
      (drop-set-lt (i + 1) content i ((pcg32 random).0 % 256) (omega arith))
      ∙ append_assoc (take i content) ((pcg32 random).0 % 256 ∷ []) (filled uncertain (pcg32 random).1 (start + i + 1) (drop (i + 1) content))
      ∙ ap (λ (l : List ℕ). take i content ++ l) (sym (filled_drawn uncertain random (start + i) (get_or content i 0) (drop (i + 1) content) is))
      ∙ ap (λ (l : List ℕ). take i content ++ filled uncertain random (start + i) l) (sym (drop_more content i 0 within))

  -- and at one that stays
  pub step_kept : uncertain (start + i) ≡ false → take (i + 1) content ++ filled uncertain random (start + (i + 1))
      (drop (i + 1) content) ≡ take i content ++ filled uncertain random (start + i) (drop i content)
  step_kept is =
      ap (λ (j : ℕ). take (i + 1) content ++ filled uncertain random j (drop (i + 1) content)) up
      ∙ ap (λ (l : List ℕ). l ++ filled uncertain random (start + i + 1) (drop (i + 1) content)) (take_more content i 0 within)
      ∙ append_assoc (take i content) (get_or content i 0 ∷ []) (filled uncertain random (start + i + 1) (drop (i + 1) content))
      ∙ ap (λ (l : List ℕ). take i content ++ l) (sym (filled_kept uncertain random (start + i) (get_or content i 0) (drop (i + 1) content) is))
      ∙ ap (λ (l : List ℕ). take i content ++ filled uncertain random (start + i) l) (sym (drop_more content i 0 within))

  pub goes_on_drawn : (new : List ℕ) (word : ℕ) (after : Lcg) → (word, after) ≡ pcg32 random → new ≡ set content i (word % 256)
      → uncertain (start + i) ≡ true → take (i + 1) new ++ filled uncertain after (start + (i + 1)) (drop (i + 1) new)
      ≡ take i content ++ filled uncertain random (start + i) (drop i content)
  goes_on_drawn new word after drawn is place =
      ap (λ (l : List ℕ). take (i + 1) l ++ filled uncertain after (start + (i + 1)) (drop (i + 1) l)) is
      ∙ ap (λ (p : ℕ × Lcg). take (i + 1) (set content i (p.0 % 256)) ++ filled uncertain p.1 (start + (i + 1))
      (drop (i + 1) (set content i (p.0 % 256)))) drawn
      ∙ step_drawn place

  pub goes_on_kept : (new : List ℕ) (after : Lcg) → after ≡ random → new ≡ content → uncertain (start + i) ≡ false
      → take (i + 1) new ++ filled uncertain after (start + (i + 1)) (drop (i + 1) new)
      ≡ take i content ++ filled uncertain random (start + i) (drop i content)
  goes_on_kept new after same is place =
      ap (λ (l : List ℕ). take (i + 1) l ++ filled uncertain after (start + (i + 1)) (drop (i + 1) l)) is
      ∙ ap (λ (r : Lcg). take (i + 1) content ++ filled uncertain r (start + (i + 1)) (drop (i + 1) content)) same
      ∙ step_kept place

-- as many bytes as before
pub length-filled : (uncertain : ℕ → Bool) (random : Lcg) (i : ℕ) (bytes : List ℕ) → length (filled uncertain random i bytes) ≡ length bytes
length-filled uncertain random i [] = refl
length-filled uncertain random i (byte ∷ bytes) = elim (cases_Bool (uncertain i)) [
  | inl drawn ↦ ap length (filled_drawn uncertain random i byte bytes drawn) ∙ ap suc (length-filled uncertain (pcg32 random).1 (i + 1) bytes)
  | inr kept ↦ ap length (filled_kept uncertain random i byte bytes kept) ∙ ap suc (length-filled uncertain random (i + 1) bytes)
]

-- a place that is certain stays
pub get_or-filled : (uncertain : ℕ → Bool) (random : Lcg) (i : ℕ) (bytes : List ℕ) (k : ℕ) → uncertain (i + k) ≡ false
    → get_or (filled uncertain random i bytes) k 0 ≡ get_or bytes k 0
get_or-filled uncertain random i [] k is = refl
get_or-filled uncertain random i (byte ∷ bytes) zero is =
    let kept : uncertain i ≡ false = ap uncertain (let same : i ≡ i + 0 = omega arith in same) ∙ is in
    ap (λ (l : List ℕ). get_or l 0 0) (filled_kept uncertain random i byte bytes kept)
get_or-filled uncertain random i (byte ∷ bytes) (suc k) is =
    let later : uncertain (i + 1 + k) ≡ false = ap uncertain (let same : i + 1 + k ≡ i + suc k = omega arith in same) ∙ is in
    elim (cases_Bool (uncertain i)) [
      | inl drawn ↦ ap (λ (l : List ℕ). get_or l (suc k) 0) (filled_drawn uncertain random i byte bytes drawn) ∙ get_or-filled uncertain (pcg32 random).1 (i + 1) bytes k later
      | inr kept ↦ ap (λ (l : List ℕ). get_or l (suc k) 0) (filled_kept uncertain random i byte bytes kept) ∙ get_or-filled uncertain random (i + 1) bytes k later
    ]

-- above 1 the bytes are drawn
pub settled_drawn : (pick : ℕ) (past : List Past) (content : List ℕ) → (pick == 0) ≡ false → (pick == 1) ≡ false
    → settled_at pick past content ≡ filled (is_uncertain past (length content)) (seeded pick) 0 content
settled_drawn pick past content not_zero not_one =
    ap (λ (b : Bool). if b then rolled_back past content else (if pick == 1 then content else filled (is_uncertain past (length content))
    (seeded pick) 0 content)) not_zero
    ∙ ap (λ (b : Bool). if b then content else filled (is_uncertain past (length content)) (seeded pick) 0 content) not_one

drawn_bytes : (pick : ℕ) (past : List Past) (content : List ℕ) → IsSameWhereCertain past content
    (filled (is_uncertain past (length content)) (seeded pick) 0 content)
drawn_bytes pick past content = record {
  size = length-filled (is_uncertain past (length content)) (seeded pick) 0 content;
  certain = λ i lt is. get_or-filled (is_uncertain past (length content)) (seeded pick) 0 content i
      (ap (is_uncertain past (length content)) (let same : 0 + i ≡ i = omega arith in same) ∙ is);
}

-- What is made of a stopped disk is one of the images.
pub settled_is_image : (pick : ℕ) (past : List Past) (content : List ℕ) → Fits past (length content)
    → IsImage past content (settled_at pick past content)
settled_is_image zero past content fits = rolled_back_is_image past content
settled_is_image (suc zero) past content fits = content_is_image past content fits
settled_is_image (suc (suc pick)) past content fits =
    subst (IsImage past content) (sym (settled_drawn (suc (suc pick)) past content (grind (arith, nat_tests)) (grind (arith, nat_tests))))
    (drawn_is_image past content (filled (is_uncertain past (length content)) (seeded (suc (suc pick))) 0 content) fits
    (drawn_bytes (suc (suc pick)) past content))

-- the bytes that are drawn by the steps, whatever was saved
pub drawn_by_steps : (pick : ℕ) (steps : List Step) (saved content : List ℕ) → pick ≢ 0 → pick ≢ 1
    → filled (is_uncertain (past_of (reverse steps) []) (length content)) (seeded pick) 0 content ≡ settled_at pick
    (past_of (reverse steps) saved) content
drawn_by_steps pick steps saved content not_zero not_one =
    ap (λ (u : ℕ → Bool). filled u (seeded pick) 0 content) (λ j i. same_places (reverse steps) [] saved (length content) i j)
    ∙ sym (settled_drawn pick (past_of (reverse steps) saved) content (grind (arith, nat_tests)) (grind (arith, nat_tests)))
