-- Entries of operations that have marks, by the numbers of these: the same entries, in the same order.
use Rattle.std.proofs.Common.{◌≡◌, ◌≢◌, ℕ, zero, suc, ◌<◌, ◌≤◌, ⊎_elim, Bool, true, false, nat_lt, List, [], ◌∷◌, length, get_or, map, Option, Some, refl, sym, ap, ◌∙◌, subst, arith}
use Rattle.std.specs.List.{AllPairs, Contains}
use Rattle.std.proofs.lemmas.Bool.{cases_eq, cases_lt, cases_Bool, and_left, and_right, or_from}
use Rattle.std.proofs.lemmas.Bool.Decides.{nat_tests}
use Rattle.std.proofs.lemmas.Option.{same_Some}
use Rattle.std.proofs.lemmas.List.{get_or-map, length-map}
use Rattle.fab_base.specs.Stamps.{stamp_below, stamp_same}
use Rattle.fab_base.proofs.StampOrder.{stamp_same_true}
use Rattle.reg_model.specs.declared.entries.Entry.{Entry}
use Rattle.reg_model.specs.Walk.{turn_below, entry_below}
use Rattle.protocol.specs.Worlds.{Operation}
use Rattle.protocol_laws.specs.Marked.{AreOwnMarks}
use Rattle.protocol_laws.proofs.Effects.{has_front, has_behind}

-- what a list has that was made of another, element by element, is made of what that has
pub mapped_from : {A B : Type 0} (f : A → B) (xs : List A) (y : B) → Contains (map f xs) y → (x : A) × Contains xs x × (f x ≡ y)
mapped_from f [] y (k, inside, is) = absurd (omega arith)
mapped_from f (x ∷ xs) y (zero, inside, is) = (x, has_front x xs, is)
mapped_from f (x ∷ xs) y (suc k, inside, is) = let rest = mapped_from f xs y (k, omega arith, is) in (rest.0, has_behind x xs rest.0 rest.1, rest.2)

pub mapped_has : {A B : Type 0} (f : A → B) (xs : List A) (x : A) → Contains xs x → Contains (map f xs) (f x)
mapped_has f xs x (k, inside, is) =
    let long : length (map f xs) ≡ length xs = length-map xs f in
    (k, omega arith, get_or-map f xs k x (f x) inside ∙ ap f is)

-- what holds of each and each later one once they are made
pub mapped_pairs : {A : Type 0} (R : A → A → Type 0) (f : A → A) (xs : List A) → AllPairs (λ a b. R (f a) (f b)) xs → AllPairs R (map f xs)
mapped_pairs R f xs pairs i j d less inside =
    let long : length (map f xs) ≡ length xs = length-map xs f in
    let high : j < length xs = omega arith in
    subst (λ (y : _). R y (get_or (map f xs) j d)) (sym (get_or-map f xs i d d (omega arith)))
    (subst (λ (z : _). R (f (get_or xs i d)) z) (sym (get_or-map f xs j d d high)) (pairs i j d less high))

-- an entry is not before another where its stamp is not below, and of one version its turn is not
pub not_before_from : (a b : Entry) → stamp_below a.stamp b.stamp ≡ false
    → (a.stamp ≡ b.stamp → turn_below a.reader a.operation b.reader b.operation ≡ false) → entry_below a b ≡ false
unfolding entry_below
not_before_from a b above turn =
    or_from _ _ above (⊎_elim
    (λ (same : stamp_same a.stamp b.stamp ≡ true). and_right _ _ (turn (stamp_same_true a.stamp b.stamp same)))
    (λ (differ : stamp_same a.stamp b.stamp ≡ false). and_left _ _ differ)
    (cases_Bool (stamp_same a.stamp b.stamp)))

-- a turn that is not before another is not by other numbers of the same order
pub turn_kept : (p q : Bool) (k l m n : ℕ) → (l ≤ k → n ≤ m) → turn_below p k q l ≡ false → turn_below p m q n ≡ false
turn_kept false false k l m n order not_before = rises k l m n order not_before
  where
    rises : (k l m n : ℕ) → (l ≤ k → n ≤ m) → nat_lt k l ≡ false → nat_lt m n ≡ false
    rises k l m n order not_less = let most : n ≤ m = order (grind (arith, nat_tests)) in grind (arith, nat_tests)
turn_kept false true k l m n order not_before = cc
turn_kept true false k l m n order not_before = refl
turn_kept true true k l m n order not_before = rises k l m n order not_before
  where
    rises : (k l m n : ℕ) → (l ≤ k → n ≤ m) → nat_lt k l ≡ false → nat_lt m n ≡ false
    rises k l m n order not_less = let most : n ≤ m = order (grind (arith, nat_tests)) in grind (arith, nat_tests)

module _ (marked : ℕ) (operations : ℕ → Option Operation) (own : AreOwnMarks marked operations) where
  -- of two operations that have marks, the one of no greater number has marks of no greater number
  pub marks_order : (n m : ℕ) (o p : Operation) → operations n ≡ Some o → operations m ≡ Some p → 1 ≤ o.mark → 1 ≤ p.mark → n ≤ m → o.mark ≤ p.mark
  marks_order n m o p one other low high most = ⊎_elim
      (λ (same : n ≡ m).
      let alike : o ≡ p = same_Some o p (sym one ∙ ap operations same ∙ other) in
      let marks : o.mark ≡ p.mark = ap (λ (z : Operation). z.mark) alike in
      omega arith)
      (λ (differ : n ≢ m). let less : o.mark < p.mark = own.in_turn n m o p one other low high (omega (arith, differ, most)) in omega arith)
      (cases_eq n m)

  -- those of two operations are apart
  pub marks_apart : (n m : ℕ) (o p : Operation) → operations n ≡ Some o → operations m ≡ Some p → 1 ≤ o.mark → 1 ≤ p.mark → n ≢ m → o.mark ≢ p.mark
  marks_apart n m o p one other low high differ same = ⊎_elim
      (λ (less : n < m). (let rise : o.mark < p.mark = own.in_turn n m o p one other low high less in omega arith))
      (λ (most : m ≤ n). (let rise : p.mark < o.mark = own.in_turn m n p o other one high low (omega (arith, differ, most)) in omega arith))
      (cases_lt n m)

  -- so marks are of one operation
  pub one_of_marks : (n m : ℕ) (o p : Operation) → operations n ≡ Some o → operations m ≡ Some p → 1 ≤ o.mark → o.mark ≡ p.mark → o ≡ p
  one_of_marks n m o p one other low same = ⊎_elim
      (λ (equal : n ≡ m). same_Some o p (sym one ∙ ap operations equal ∙ other))
      (λ (differ : n ≢ m). absurd (marks_apart n m o p one other low (omega arith) differ same))
      (cases_eq n m)
