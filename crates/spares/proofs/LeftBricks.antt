-- The bricks that are left, from one on.
use Rattle.std.proofs.Common.{◌≡◌, ℕ, zero, suc, ◌+◌, ◌-◌, ◌<◌, ◌≤◌, Bool, true, false, cond, List, [], ◌∷◌, ap, ◌∙◌, arith}
use Rattle.std.specs.Prelude.{filter}
use Rattle.fab_base.specs.declared.identities.BrickId.{BrickId}
use Rattle.spares.specs.Suspicions.{Suspicions}
use Rattle.spares.specs.Replacements.{is_left, bricks_from, left_from}

-- the first brick is left, or it is not and the others stay
pub left_from-step : (s : Suspicions) (by : BrickId) (members : List BrickId) (first : ℕ) → first < s.bricks
    → left_from s by members first
    ≡ cond (is_left s by members (record { 0 = first })) (record { 0 = first } ∷ left_from s by members (first + 1))
    (left_from s by members (first + 1))
unfolding left_from
left_from-step s by members first within =
    let e : s.bricks - first ≡ suc (s.bricks - (first + 1)) = omega arith in
    ap (λ (n : ℕ). filter (is_left s by members) (bricks_from first n)) e

-- past the last brick none is left
pub left_from-end : (s : Suspicions) (by : BrickId) (members : List BrickId) (first : ℕ) → s.bricks ≤ first
    → left_from s by members first ≡ []
unfolding left_from
left_from-end s by members first past =
    let e : s.bricks - first ≡ zero = omega arith in
    ap (λ (n : ℕ). filter (is_left s by members) (bricks_from first n)) e

-- the first brick that is left is the first of them
pub left_from-found : (s : Suspicions) (by : BrickId) (members : List BrickId) (first : ℕ) → first < s.bricks
    → is_left s by members (record { 0 = first }) ≡ true
    → left_from s by members first ≡ record { 0 = first } ∷ left_from s by members (first + 1)
left_from-found s by members first within is =
    left_from-step s by members first within
    ∙ ap
    (λ (t : Bool). cond t (record { 0 = first } ∷ left_from s by members (first + 1)) (left_from s by members (first + 1)))
    is

-- a brick that is not left is none of them
pub left_from-passed : (s : Suspicions) (by : BrickId) (members : List BrickId) (first : ℕ) → first < s.bricks
    → is_left s by members (record { 0 = first }) ≡ false
    → left_from s by members first ≡ left_from s by members (first + 1)
left_from-passed s by members first within is =
    left_from-step s by members first within
    ∙ ap
    (λ (t : Bool). cond t (record { 0 = first } ∷ left_from s by members (first + 1)) (left_from s by members (first + 1)))
    is
