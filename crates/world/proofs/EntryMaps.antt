-- The entries of stripes in a map, and stamps in a set.
use Rattle.std.proofs.Common.{◌≡◌, ℕ, Bool, true, false, cond, ◌&&◌, ◌||◌, nat_eq, List, [], ◌∷◌, ◌++◌, Option, Some, None, option_map, unwrap_or, Ordering, Vec, refl, sym, ap, ◌∙◌, arith}
use Rattle.std.specs.Ordering.{is_eq, nat_cmp, ordering_then}
use Rattle.std.specs.BTreeMap.{BTreeMap, get, is_at, Updates}
use Rattle.std.specs.BTreeSet.{BTreeSet, contains, Updates as Gains}
use Rattle.std.proofs.lemmas.Bool.{and_parts, eqb-true}
use Rattle.std.proofs.lemmas.Bool.Decides.{nat_tests}
use Rattle.std.proofs.lemmas.List.{append-nil}
use Rattle.fab_base.specs.declared.stamps.Stamp.{Stamp}
use Rattle.fab_base.specs.Stamps.{stamp_same}
use Rattle.reg_model.specs.declared.entries.Entry.{Entry}
use Rattle.world.specs.Shown.{pair_cmp}
use Rattle.world.specs.Walks.{Holds, stamp_cmp}
use Rattle.world.proofs.Places.{is_at_call}

-- equal numbers are equal both ways
nat_eq_turned : (a b : ℕ) → nat_eq a b ≡ nat_eq b a
nat_eq_turned a b = grind (arith, nat_tests)

-- a query for a stripe is at its own group and number
at_stripe : (p q g s : ℕ) → is_at (pair_cmp (p, q)) (g, s) ≡ nat_eq p g && nat_eq q s
at_stripe p q g s =
    is_at_call p q g s ∙ ap (λ b. b && nat_eq s q) (nat_eq_turned g p) ∙ ap (λ b. nat_eq p g && b) (nat_eq_turned s q)

-- what a list is, or none
or_none : {Z : Type 0} (o : Option (Vec Entry Z)) (none : Vec Entry Z) → none.items ≡ []
    → (unwrap_or o none).items ≡ unwrap_or (option_map (λ (v : Vec Entry Z). v.items) o) []
or_none None none empty = empty
or_none (Some v) none empty = refl

-- a stripe that was taken out and put back with one entry more
pub added_at : {Z : Type 0} (old mid new : BTreeMap (ℕ × ℕ) (Vec Entry Z)) (p q : ℕ) (list none : Vec Entry Z) (e : Entry)
    → Updates pair_cmp old mid (p, q) None → Updates pair_cmp mid new (p, q) (Some list) → none.items ≡ []
    → list.items ≡ (unwrap_or (get pair_cmp old (p, q)) none).items ++ e ∷ []
    → (g s : ℕ) → unwrap_or (option_map (λ (v : Vec Entry Z). v.items) (get pair_cmp new (g, s))) []
    ≡ unwrap_or (option_map (λ (v : Vec Entry Z). v.items) (get pair_cmp old (g, s))) [] ++ cond (nat_eq p g && nat_eq q s) (e ∷ []) []
added_at {Z} old mid new p q list none e removes inserts empty pushed g s = by_place (nat_eq p g && nat_eq q s) refl
  where
    by_place : (b : Bool) → (nat_eq p g && nat_eq q s) ≡ b
        → unwrap_or (option_map (λ (v : Vec Entry Z). v.items) (get pair_cmp new (g, s))) []
        ≡ unwrap_or (option_map (λ (v : Vec Entry Z). v.items) (get pair_cmp old (g, s))) [] ++ cond b (e ∷ []) []
    by_place true is =
        let parts = and_parts _ _ is in
        let here : get pair_cmp new (g, s) ≡ Some list =
        inserts.0 (g, s) ∙ ap (λ (x : Bool). cond x (Some list) (get pair_cmp mid (g, s))) (at_stripe p q g s ∙ is) in
        ap (λ (o : Option (Vec Entry Z)). unwrap_or (option_map (λ (v : Vec Entry Z). v.items) o) []) here ∙ pushed
        ∙ ap (λ (l : List Entry). l ++ e ∷ []) (or_none (get pair_cmp old (p, q)) none empty)
        ∙ ap (λ (n : ℕ). unwrap_or (option_map (λ (v : Vec Entry Z). v.items) (get pair_cmp old (n, q))) [] ++ e ∷ []) (eqb-true p g parts.0)
        ∙ ap (λ (n : ℕ). unwrap_or (option_map (λ (v : Vec Entry Z). v.items) (get pair_cmp old (g, n))) [] ++ e ∷ []) (eqb-true q s parts.1)
    by_place false is =
        let apart = at_stripe p q g s ∙ is in
        ap (λ (o : Option (Vec Entry Z)). unwrap_or (option_map (λ (v : Vec Entry Z). v.items) o) [])
        (inserts.2 (g, s) apart ∙ removes.2 (g, s) apart)
        ∙ sym (append-nil (unwrap_or (option_map (λ (v : Vec Entry Z). v.items) (get pair_cmp old (g, s))) []))

-- nothing was added
pub no_entry : (b : Bool) (xs : List Entry) → xs ≡ xs ++ cond b [] []
no_entry true xs = sym (append-nil xs)
no_entry false xs = sym (append-nil xs)

-- by one field and then the rest: the same where both are
is_eq_then : (o r : Ordering) → is_eq (ordering_then o r) ≡ (is_eq o && is_eq r)
is_eq_then o r = grind arith

is_eq-nat_cmp : (x y : ℕ) → is_eq (nat_cmp x y) ≡ nat_eq x y
is_eq-nat_cmp x y = grind (arith, nat_tests)

is_eq-stamp_cmp : (a b : Stamp) → is_eq (stamp_cmp a b) ≡ stamp_same a b
unfolding stamp_same
is_eq-stamp_cmp a b = simp (is_eq_then, is_eq-nat_cmp)

true_or : (b x : Bool) → cond b true x ≡ (b || x)
true_or true x = refl
true_or false x = refl

-- a set with one stamp more
pub holds_more : (old new : BTreeSet Stamp) (u : Stamp) (stamps : List Stamp) → Gains stamp_cmp old new u true → Holds old stamps
    → Holds new (u ∷ stamps)
holds_more old new u stamps gains holds t =
    gains.0 t ∙ ap (λ b. cond b true (contains stamp_cmp old t)) (is_eq-stamp_cmp u t)
    ∙ true_or (stamp_same u t) (contains stamp_cmp old t) ∙ ap (λ b. stamp_same u t || b) (holds t)
