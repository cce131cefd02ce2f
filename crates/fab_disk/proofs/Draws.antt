-- What a generator draws.
use Rattle.std.proofs.Common.{◌≡◌, ℕ, zero, suc, ◌+◌, ◌%◌, List, [], ◌∷◌, ◌++◌, refl, ◌∙◌, ap, arith}
use Rattle.rand_pcg.specs.Lcg.{Lcg, advance, state_after}
use Rattle.rand_pcg.specs.Pcg.{pcg32, multiplier_64}
use Rattle.fab_disk.specs.Draws.{drawn, skipped}
pub use Rattle.fab_disk.specs.PageLaws.{length-drawn}

-- a jump ahead is as many words
pub advance_is : (n : ℕ) (random : Lcg) → advance 64 multiplier_64 n random ≡ skipped n random
unfolding state_after skipped
advance_is zero random = refl
advance_is (suc n) random = advance_is n (pcg32 random).1

-- one word more
skipped_suc : (n : ℕ) (random : Lcg) → skipped (suc n) random ≡ (pcg32 (skipped n random)).1
unfolding skipped
skipped_suc zero random = refl
skipped_suc (suc n) random = skipped_suc n (pcg32 random).1

pub skipped_more : (n : ℕ) (random : Lcg) → skipped (n + 1) random ≡ (pcg32 (skipped n random)).1
skipped_more n random = ap (λ (k : ℕ). skipped k random) (let same : n + 1 ≡ suc n = omega arith in same) ∙ skipped_suc n random

drawn_suc : (n : ℕ) (random : Lcg) → drawn (suc n) random ≡ drawn n random ++ ((pcg32 (skipped n random)).0 % 256) ∷ []
unfolding drawn skipped
drawn_suc zero random = refl
drawn_suc (suc n) random = ap (λ (l : List ℕ). ((pcg32 random).0 % 256) ∷ l) (drawn_suc n (pcg32 random).1)

pub drawn_more : (n : ℕ) (random : Lcg) → drawn (n + 1) random ≡ drawn n random ++ ((pcg32 (skipped n random)).0 % 256) ∷ []
drawn_more n random = ap (λ (k : ℕ). drawn k random) (let same : n + 1 ≡ suc n = omega arith in same) ∙ drawn_suc n random

-- some words, and then others
pub drawn_add : (n more : ℕ) (random : Lcg) → drawn (n + more) random ≡ drawn n random ++ drawn more (skipped n random)
unfolding drawn skipped
drawn_add zero more random = ap (λ (k : ℕ). drawn k random) (let same : 0 + more ≡ more = omega arith in same)
drawn_add (suc n) more random =
    ap (λ (k : ℕ). drawn k random) (let same : suc n + more ≡ suc (n + more) = omega arith in same)
    ∙ ap (λ (l : List ℕ). ((pcg32 random).0 % 256) ∷ l) (drawn_add n more (pcg32 random).1)
