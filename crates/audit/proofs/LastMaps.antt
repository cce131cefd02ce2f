-- The last marks of stripes in a map.
use Rattle.std.proofs.Common.{◌≡◌, ℕ, ◌≤◌, max, Bool, true, false, cond, ◌&&◌, nat_eq, Option, Some, unwrap_or, refl, ap, ◌∙◌, arith}
use Rattle.std.specs.declared.cmp.Ordering.{Ordering}
use Rattle.std.specs.declared.cmp.Ordering.TheVariants.{Less, Equal, Greater}
use Rattle.std.specs.Ordering.{is_eq, nat_cmp, ordering_then}
use Rattle.std.specs.BTreeMap.{BTreeMap, get, is_at, Updates}
use Rattle.std.proofs.lemmas.Bool.Decides.{nat_tests}
use Rattle.audit.specs.Lasts.{pair_cmp}

is_at_number : (k q : ℕ) → is_eq (nat_cmp k q) ≡ nat_eq k q
is_at_number k q = grind (arith, nat_tests)

then_is_eq : (a b : Ordering) → is_eq (ordering_then a b) ≡ (is_eq a && is_eq b)
then_is_eq Less b = refl
then_is_eq Equal b = refl
then_is_eq Greater b = refl

-- a query for a stripe is at its own group and number
at_stripe : (p q g s : ℕ) → is_at (pair_cmp (p, q)) (g, s) ≡ (nat_eq p g && nat_eq q s)
at_stripe p q g s =
    then_is_eq (nat_cmp p g) (nat_cmp q s) ∙ ap (λ x. x && is_eq (nat_cmp q s)) (is_at_number p g) ∙ ap (λ x. nat_eq p g && x) (is_at_number q s)

chosen : (b : Bool) (past crash : ℕ) (old : Option ℕ)
    → max (unwrap_or (cond b (Some past) old) 0) crash ≡ cond b (max past crash) (max (unwrap_or old 0) crash)
chosen true past crash old = refl
chosen false past crash old = refl

-- a stripe whose last mark has come
pub touched_at : (old new : BTreeMap (ℕ × ℕ) ℕ) (p q past crash : ℕ) → Updates pair_cmp old new (p, q) (Some past)
    → (g s : ℕ) → max (unwrap_or (get pair_cmp new (g, s)) 0) crash
    ≡ cond (nat_eq p g && nat_eq q s) (max past crash) (max (unwrap_or (get pair_cmp old (g, s)) 0) crash)
touched_at old new p q past crash updates g s =
    ap (λ (o : Option ℕ). max (unwrap_or o 0) crash)
    (updates.0 (g, s) ∙ ap (λ (b : Bool). cond b (Some past) (get pair_cmp old (g, s))) (at_stripe p q g s))
    ∙ chosen (nat_eq p g && nat_eq q s) past crash (get pair_cmp old (g, s))

-- one past the last mark is no less than that of a crash before it
pub past_high : (past crash : ℕ) → crash ≤ past → max past crash ≡ past
past_high past crash le = omega arith
