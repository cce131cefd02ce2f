-- Entries have one ascending order, and a sort gives it.
use Rattle.std.proofs.Common.{◌≡◌, ℕ, suc, ◌+◌, Bool, true, false, cond, List, [], ◌∷◌, refl, sym, ap, ap₂, ◌∙◌, arith}
use Rattle.std.specs.List.{All, sum_by}
use Rattle.std.specs.List.Sorted.{IsPermutation, IsSorted}
use Rattle.std.proofs.lemmas.Bool.Decides.{nat_tests}
use Rattle.std.proofs.lemmas.List.Elements.{All-cons, All-head, All-tail}
use Rattle.std.proofs.lemmas.List.Sums.{sum_by-cons}
use Rattle.std.proofs.lemmas.List.Sorted.{sorted_far, sum_by-IsPermutation}
use Rattle.fab_base.specs.declared.stamps.Stamp.{Stamp}
use Rattle.fab_base.proofs.StampOrder.{stamp_neither_below}
use Rattle.reg_model.specs.declared.entries.Entry.{Entry}
use Rattle.reg_model.specs.contracts.entries.EntryOrd.TheImpl.{cmp-value}
use Rattle.reg_model.specs.Walk.{turn_below, entry_below}
use Rattle.reg_model.proofs.EntryOrder.{not_before_parts, entry_order, IsSortedBy-from_sort}
use Rattle.protocol.specs.Happenings.{ascending}
use Rattle.protocol_laws.proofs.Sorting.{InOrder, AllPairs-tail, ascending_permutation, ascending_order}

-- turns of which neither is before the other are the same
same_turn : (p q : Bool) (k n : ℕ) → turn_below p k q n ≡ false → turn_below q n p k ≡ false → (p ≡ q) × (k ≡ n)
same_turn false false k n g h = (refl, grind (arith, nat_tests))
same_turn false true k n g h = absurd (let never : true ≡ false = g in cc)
same_turn true false k n g h = absurd (let never : true ≡ false = h in cc)
same_turn true true k n g h = (refl, grind (arith, nat_tests))

entry_from : (a b : Entry) → a.stamp ≡ b.stamp → (a.reader ≡ b.reader) × (a.operation ≡ b.operation) → a ≡ b
entry_from a b stamp turn =
    ap (λ (t : Stamp). let e : Entry = record { stamp = t; reader = a.reader; operation = a.operation } in e) stamp
    ∙ ap (λ (r : Bool). let e : Entry = record { stamp = b.stamp; reader = r; operation = a.operation } in e) turn.0
    ∙ ap (λ (n : ℕ). let e : Entry = record { stamp = b.stamp; reader = b.reader; operation = n } in e) turn.1

-- entries of which neither is before the other are the same
same_entry : (a b : Entry) → entry_below a b ≡ false → entry_below b a ≡ false → a ≡ b
same_entry a b g h =
    let first = not_before_parts a b g in
    let second = not_before_parts b a h in
    let stamp : a.stamp ≡ b.stamp = stamp_neither_below a.stamp b.stamp first.0 second.0 in
    entry_from a b stamp (same_turn a.reader b.reader a.operation b.operation (first.1 stamp) (second.1 (sym stamp)))

-- the entries of these lists are the same, each as often
abbrev Alike : List Entry → List Entry → Type 0
Alike xs ys = (f : Entry → ℕ) → sum_by f xs ≡ sum_by f ys

-- one for an entry that is before this one
abbrev before_one : Entry → Entry → ℕ
before_one e x = cond (entry_below x e) 1 0

-- none of these is before the entry
none_before : (e : Entry) (xs : List Entry) → All (λ (x : Entry). entry_below x e ≡ false) xs → sum_by (before_one e) xs ≡ 0
none_before e [] none = refl
none_before e (x ∷ xs) none =
    let first : before_one e x ≡ 0 = ap (λ (b : Bool). cond b 1 0) (All-head (λ (x : Entry). entry_below x e ≡ false) x xs none) in
    let rest : sum_by (before_one e) xs ≡ 0 = none_before e xs (All-tail (λ (x : Entry). entry_below x e ≡ false) x xs none) in
    let sum : sum_by (before_one e) (x ∷ xs) ≡ before_one e x + sum_by (before_one e) xs = sum_by-cons (before_one e) x xs in
    omega arith

-- the first is before none of the rest, nor before itself
order_head : (x : Entry) (xs : List Entry) → InOrder (x ∷ xs) → All (λ (y : Entry). entry_below y x ≡ false) (x ∷ xs)
order_head x xs order =
    All-cons (λ (y : Entry). entry_below y x ≡ false) x xs (not_itself (entry_below x x) refl)
    (λ k d lt. order 0 (suc k) d (omega arith) (omega arith))
  where
    not_itself : (b : Bool) → entry_below x x ≡ b → entry_below x x ≡ false
    not_itself true below = entry_order.one_way x x below
    not_itself false above = above

-- of lists that are alike, the first of one in order is not after the first of the other
first_not_after : (x y : Entry) (xs ys : List Entry) → InOrder (x ∷ xs) → Alike (x ∷ xs) (y ∷ ys) → entry_below y x ≡ false
first_not_after x y xs ys order alike = go (entry_below y x) refl
  where
    go : (b : Bool) → entry_below y x ≡ b → entry_below y x ≡ false
    go false above = above
    go true below =
        let none : sum_by (before_one x) (x ∷ xs) ≡ 0 = none_before x (x ∷ xs) (order_head x xs order) in
        let same : sum_by (before_one x) (x ∷ xs) ≡ sum_by (before_one x) (y ∷ ys) = alike (before_one x) in
        let one : before_one x y ≡ 1 = ap (λ (b : Bool). cond b 1 0) below in
        let sum : sum_by (before_one x) (y ∷ ys) ≡ before_one x y + sum_by (before_one x) ys = sum_by-cons (before_one x) y ys in
        absurd (omega arith)

-- lists in order that are alike are equal
one_order : (xs ys : List Entry) → InOrder xs → InOrder ys → Alike xs ys → xs ≡ ys
one_order [] [] order other alike = refl
one_order [] (y ∷ ys) order other alike =
    let same : sum_by (λ (e : Entry). 1) [] ≡ sum_by (λ (e : Entry). 1) (y ∷ ys) = alike (λ (e : Entry). 1) in
    let none : sum_by (λ (e : Entry). 1) [] ≡ 0 = refl in
    let sum : sum_by (λ (e : Entry). 1) (y ∷ ys) ≡ 1 + sum_by (λ (e : Entry). 1) ys = sum_by-cons (λ (e : Entry). 1) y ys in
    absurd (omega arith)
one_order (x ∷ xs) [] order other alike =
    let same : sum_by (λ (e : Entry). 1) (x ∷ xs) ≡ sum_by (λ (e : Entry). 1) [] = alike (λ (e : Entry). 1) in
    let none : sum_by (λ (e : Entry). 1) [] ≡ 0 = refl in
    let sum : sum_by (λ (e : Entry). 1) (x ∷ xs) ≡ 1 + sum_by (λ (e : Entry). 1) xs = sum_by-cons (λ (e : Entry). 1) x xs in
    absurd (omega arith)
one_order (x ∷ xs) (y ∷ ys) order other alike =
    let IsNotAfter : Entry → Entry → Type 0 = λ a b. entry_below b a ≡ false in
    let first : x ≡ y = same_entry x y (first_not_after y x ys xs other (λ f. sym (alike f))) (first_not_after x y xs ys order alike) in
    let rest : Alike xs ys = λ f.
    (let same : sum_by f (x ∷ xs) ≡ sum_by f (y ∷ ys) = alike f in
    let one : sum_by f (x ∷ xs) ≡ f x + sum_by f xs = sum_by-cons f x xs in
    let two : sum_by f (y ∷ ys) ≡ f y + sum_by f ys = sum_by-cons f y ys in
    let heads : f x ≡ f y = ap f first in
    omega arith) in
    ap₂ (λ (e : Entry) (l : List Entry). e ∷ l) first
    (one_order xs ys (AllPairs-tail IsNotAfter x xs order) (AllPairs-tail IsNotAfter y ys other) rest)

-- what a sort makes of entries is their ascending order
pub sorted_ascends : (xs ys : List Entry) → IsPermutation xs ys → IsSorted cmp-value.it ys → ys ≡ ascending xs
sorted_ascends xs ys same sorted =
    one_order ys (ascending xs)
    (λ i j d lt le. sorted_far entry_below entry_order ys (IsSortedBy-from_sort ys sorted) i j d (omega arith) le)
    (ascending_order xs)
    (λ f. sum_by-IsPermutation f xs ys same ∙ sym (sum_by-IsPermutation f xs (ascending xs) (ascending_permutation xs)))
