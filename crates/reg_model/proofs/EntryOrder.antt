-- The order of entries is a strict order in which any two compare, and it is that of the derived `cmp`.
use Rattle.std.proofs.Common.{◌≡◌, ℕ, Bool, true, false, ◌&&◌, ◌||◌, nat_lt, nat_eq, List, Ordering, refl, sym, ◌∙◌, subst, ⊎_elim, arith}
use Rattle.std.proofs.lemmas.Bool.{or_parts, or_cases, or_from, and_parts, and_cases, and_left, and_right, cases_Bool}
use Rattle.std.proofs.lemmas.Bool.Decides.{nat_tests}
use Rattle.std.specs.Cmp.{IsStrictWeakOrder}
use Rattle.std.specs.List.Sorted.{IsSorted, IsSortedBy}
use Rattle.std.specs.Ordering.{is_lt, is_eq, nat_cmp, bool_cmp, ordering_then}
use Rattle.fab_base.specs.declared.stamps.Stamp.{Stamp}
use Rattle.fab_base.specs.Stamps.{stamp_below, stamp_same}
use Rattle.fab_base.proofs.StampOrder.{stamp_below_irrefl, stamp_below_asym, stamp_not_below_trans, stamp_neither_below, stamp_same_refl, stamp_same_true}
use Rattle.reg_model.specs.declared.entries.Entry.{Entry}
use Rattle.reg_model.specs.contracts.entries.EntryOrd.TheImpl.{cmp-value}
use Rattle.reg_model.specs.Walk.{turn_below, entry_below}

-- of one version, "not before" is transitive
turn_not_below_trans : (p q r : Bool) (k l n : ℕ) → turn_below p k q l ≡ false → turn_below q l r n ≡ false → turn_below p k r n ≡ false
turn_not_below_trans false false false k l n g h = grind (arith, nat_tests)
turn_not_below_trans false false true k l n g h = h
turn_not_below_trans false true r k l n g h = cc
turn_not_below_trans true false false k l n g h = refl
turn_not_below_trans true false true k l n g h = cc
turn_not_below_trans true true false k l n g h = refl
turn_not_below_trans true true true k l n g h = grind (arith, nat_tests)

-- of one version, no two are before each other
turn_below_asym : (p q : Bool) (k l : ℕ) → turn_below p k q l ≡ true → turn_below q l p k ≡ false
turn_below_asym false false k l h = grind (arith, nat_tests)
turn_below_asym false true k l h = refl
turn_below_asym true false k l h = cc
turn_below_asym true true k l h = grind (arith, nat_tests)

-- where a is not before b, its stamp is not below, and of one version its turn is not before
pub not_before_parts : (a b : Entry) → entry_below a b ≡ false
    → (stamp_below a.stamp b.stamp ≡ false) × (a.stamp ≡ b.stamp → turn_below a.reader a.operation b.reader b.operation ≡ false)
unfolding entry_below
not_before_parts a b h =
    let parts = or_parts _ _ h in (
      parts.0,
      λ e. ⊎_elim
          (λ (differ : stamp_same a.stamp b.stamp ≡ false).
          let same : stamp_same a.stamp b.stamp ≡ true = subst (λ (s : Stamp). stamp_same a.stamp s ≡ true) e (stamp_same_refl a.stamp) in cc)
          (λ turn. turn)
          (and_cases _ _ parts.1),
    )

-- and these make a not before b
not_before_from : (a b : Entry) → stamp_below a.stamp b.stamp ≡ false
    → (a.stamp ≡ b.stamp → turn_below a.reader a.operation b.reader b.operation ≡ false) → entry_below a b ≡ false
unfolding entry_below
not_before_from a b g h =
    or_from _ _ g (⊎_elim
    (λ (same : stamp_same a.stamp b.stamp ≡ true). and_right _ _ (h (stamp_same_true a.stamp b.stamp same)))
    (λ differ. and_left _ _ differ)
    (cases_Bool (stamp_same a.stamp b.stamp)))

-- "not before" is transitive
not_before_trans : (a b c : Entry) → entry_below a b ≡ false → entry_below b c ≡ false → entry_below a c ≡ false
not_before_trans a b c g h =
    let first = not_before_parts a b g in
    let second = not_before_parts b c h in
    not_before_from a c (stamp_not_below_trans c.stamp b.stamp a.stamp second.0 first.0)
    (λ e. let back : stamp_below b.stamp a.stamp ≡ false = subst (λ (s : Stamp). stamp_below b.stamp s ≡ false) (sym e) second.0 in
    let same : a.stamp ≡ b.stamp = stamp_neither_below a.stamp b.stamp first.0 back in
    turn_not_below_trans a.reader b.reader c.reader a.operation b.operation c.operation (first.1 same) (second.1 (sym same ∙ e)))

-- no two entries are before each other
before_asym : (a b : Entry) → entry_below a b ≡ true → entry_below b a ≡ false
unfolding entry_below
before_asym a b h =
    ⊎_elim
    (λ (below : stamp_below a.stamp b.stamp ≡ true). not_before_from b a (stamp_below_asym a.stamp b.stamp below)
    (λ e. let itself : stamp_below a.stamp a.stamp ≡ true = subst (λ (s : Stamp). stamp_below a.stamp s ≡ true) e below in
    let never = stamp_below_irrefl a.stamp in cc))
    (λ (both : (stamp_same a.stamp b.stamp && turn_below a.reader a.operation b.reader b.operation) ≡ true).
    let parts = and_parts _ _ both in
    let same : a.stamp ≡ b.stamp = stamp_same_true a.stamp b.stamp parts.0 in
    not_before_from b a (subst (λ (s : Stamp). stamp_below s a.stamp ≡ false) same (stamp_below_irrefl a.stamp))
    (λ e. turn_below_asym a.reader b.reader a.operation b.operation parts.1))
    (or_cases _ _ h)

-- the order of entries is an order in which any two compare
pub entry_order : IsStrictWeakOrder entry_below
entry_order = record { one_way = before_asym; chain = not_before_trans }

-- what stands after in an order by entries has no smaller stamp, and is no maker of the version that the first reads
pub after_entry : (a b : Entry) → entry_below b a ≡ false
    → (stamp_below b.stamp a.stamp ≡ false) × (a.reader ≡ true → b.reader ≡ false → a.stamp ≡ b.stamp → ⊥)
after_entry a b h =
    let parts = not_before_parts b a h in (
      parts.0,
      λ reads makes same.
          let turn = parts.1 (sym same) in
          let first : turn_below false b.operation a.reader a.operation ≡ false =
          subst (λ (r : Bool). turn_below r b.operation a.reader a.operation ≡ false) makes turn in
          let second : turn_below false b.operation true a.operation ≡ false =
          subst (λ (r : Bool). turn_below false b.operation r a.operation ≡ false) reads first in
          cc,
    )

-- by one field and then the rest: less where the field is less, or the same and the rest is less
is_lt_then : (o r : Ordering) → is_lt (ordering_then o r) ≡ (is_lt o || (is_eq o && is_lt r))
is_lt_then o r = grind arith

-- and the same where both are
is_eq_then : (o r : Ordering) → is_eq (ordering_then o r) ≡ (is_eq o && is_eq r)
is_eq_then o r = grind arith

-- the order of numbers
is_lt-nat_cmp : (x y : ℕ) → is_lt (nat_cmp x y) ≡ nat_lt x y
is_lt-nat_cmp x y = grind (arith, nat_tests)

is_eq-nat_cmp : (x y : ℕ) → is_eq (nat_cmp x y) ≡ nat_eq x y
is_eq-nat_cmp x y = grind (arith, nat_tests)

-- the derived order of stamps
stamp_cmp : Stamp → Stamp → Ordering
stamp_cmp a b =
    ordering_then (nat_cmp a.view.0 b.view.0) (ordering_then (nat_cmp a.time b.time)
    (ordering_then (nat_cmp a.brick.0 b.brick.0) (nat_cmp a.boot b.boot)))

is_lt-stamp_cmp : (a b : Stamp) → is_lt (stamp_cmp a b) ≡ stamp_below a b
unfolding stamp_cmp stamp_below
is_lt-stamp_cmp a b = simp (is_lt_then, is_lt-nat_cmp, is_eq-nat_cmp)

is_eq-stamp_cmp : (a b : Stamp) → is_eq (stamp_cmp a b) ≡ stamp_same a b
unfolding stamp_cmp stamp_same
is_eq-stamp_cmp a b = simp (is_eq_then, is_eq-nat_cmp)

-- the derived order of turns
turn_cmp : (p q : Bool) (k l : ℕ) → is_lt (ordering_then (bool_cmp p q) (nat_cmp k l)) ≡ turn_below p k q l
turn_cmp false false k l = is_lt-nat_cmp k l
turn_cmp false true k l = refl
turn_cmp true false k l = refl
turn_cmp true true k l = is_lt-nat_cmp k l

-- the derived order is that of entries
is_lt-entry_cmp : (a b : Entry)
    → is_lt (ordering_then (stamp_cmp a.stamp b.stamp)
    (ordering_then (bool_cmp a.reader b.reader) (nat_cmp a.operation b.operation))) ≡ entry_below a b
unfolding entry_below
is_lt-entry_cmp a b =
    simp (is_lt_then (stamp_cmp a.stamp b.stamp), is_lt-stamp_cmp, is_eq-stamp_cmp, turn_cmp)

pub is_lt-cmp : (a b : Entry) → is_lt (cmp-value.it a b) ≡ entry_below a b
unfolding stamp_cmp
is_lt-cmp a b = is_lt-entry_cmp a b

-- a sort by the derived order puts entries in order
pub IsSortedBy-from_sort : (entries : List Entry) → IsSorted cmp-value.it entries → IsSortedBy entry_below entries
IsSortedBy-from_sort entries sorted k d low high = sym (is_lt-cmp _ _) ∙ sorted k d low high
