-- How many operations begin, end and happen in a run.
use Rattle.std.proofs.Common.{◌≡◌, ℕ, zero, suc, ◌+◌, ◌<◌, ◌≤◌, Bool, true, false, ◌||◌, eqb, List, [], ◌∷◌, ◌++◌, length, take, count_by, Some, None, refl, sym, ap, subst, arith, append-nil}
use Rattle.std.specs.Prelude.{slice_get}
use Rattle.std.specs.List.{IsDistinct, list_any}
use Rattle.std.proofs.lemmas.Bool.{eqb-true}
use Rattle.std.proofs.lemmas.Map.Keys.{IsDistinct-push}
use Rattle.std.proofs.lemmas.Map.Steps.{length-le_from_distinct_below}
use Rattle.std.proofs.lemmas.Cmp.{nat_eq_equiv}
use Rattle.std.proofs.lemmas.Option.{same_Some}
use Rattle.fab_base.specs.declared.identities.BrickId.{BrickId}
use Rattle.fab_base.specs.declared.asks.Ask.{Ask}
use Rattle.fab_base.specs.declared.answers.Answer.{Answer}
use Rattle.reg_model.specs.declared.marks.Mark.{Mark}
use Rattle.reg_model.specs.declared.marks.Mark.TheVariants.{Begin, End, Crash}
use Rattle.reg_model.specs.Marks.{Life, life_of, begun_numbers, position_of, IsOpen, IsWellFormed}
use Rattle.transcript.specs.Kinds.{is_begin}
use Rattle.reg_model.proofs.GrowingLives.{ended_not_open}
use Rattle.reg_model.proofs.AddedMarks.{positions_rise}
use Rattle.reg_model.proofs.RisingMarks.{NumbersRise, NumbersRise-increasing, increasing_numbers}
use Rattle.reg_model.proofs.StripeLives.{numbers_from_one}
use Rattle.printed.proofs.PrintedMarks.{is_end, count_yes, count_no}

-- as many operations begin as there are Begins
pub begins_are : (marks : List Mark) → length (begun_numbers marks) ≡ count_by is_begin marks
begins_are [] = refl
begins_are (Begin p n b ask ∷ marks) = let rest = begins_are marks in omega (arith, rest, count_yes is_begin (Begin p n b ask) marks refl)
begins_are (End p n answer ∷ marks) = let rest = begins_are marks in omega (arith, rest, count_no is_begin (End p n answer) marks refl)
begins_are (Crash p b ∷ marks) = let rest = begins_are marks in omega (arith, rest, count_no is_begin (Crash p b) marks refl)

-- each number that begins has a place among those that began
pub begun_place : (marks : List Mark) (k p n : ℕ) (b : BrickId) (ask : Ask) → slice_get marks k ≡ Some (Begin p n b ask)
    → (j : ℕ) × (slice_get (begun_numbers marks) j ≡ Some n)
begun_place [] k p n b ask at = absurd (let never : None ≡ Some (Begin p n b ask) = at in cc)
begun_place (Begin q m c other ∷ marks) zero p n b ask at = (
  0,
  (let same : Begin q m c other ≡ Begin p n b ask = same_Some (Begin q m c other) (Begin p n b ask) at in let number : m ≡ n = cc in ap
      (λ (i : ℕ). Some i) number),
)
begun_place (Begin q m c other ∷ marks) (suc k) p n b ask at = let rest = begun_place marks k p n b ask at in (suc rest.0, rest.1)
begun_place (End q m answer ∷ marks) zero p n b ask at =
    absurd (let never : End q m answer ≡ Begin p n b ask = same_Some (End q m answer) (Begin p n b ask) at in cc)
begun_place (End q m answer ∷ marks) (suc k) p n b ask at = begun_place marks k p n b ask at
begun_place (Crash q c ∷ marks) zero p n b ask at =
    absurd (let never : Crash q c ≡ Begin p n b ask = same_Some (Crash q c) (Begin p n b ask) at in cc)
begun_place (Crash q c ∷ marks) (suc k) p n b ask at = begun_place marks k p n b ask at

-- the numbers of the operations that end, in order
abbrev end_numbers : List Mark → List ℕ
end_numbers [] = []
end_numbers (Begin p n b ask ∷ marks) = end_numbers marks
end_numbers (End p n answer ∷ marks) = n ∷ end_numbers marks
end_numbers (Crash p b ∷ marks) = end_numbers marks

-- as many operations end as there are Ends
ends_are : (marks : List Mark) → length (end_numbers marks) ≡ count_by is_end marks
ends_are [] = refl
ends_are (Begin p n b ask ∷ marks) = let rest = ends_are marks in omega (arith, rest, count_no is_end (Begin p n b ask) marks refl)
ends_are (End p n answer ∷ marks) = let rest = ends_are marks in omega (arith, rest, count_yes is_end (End p n answer) marks refl)
ends_are (Crash p b ∷ marks) = let rest = ends_are marks in omega (arith, rest, count_no is_end (Crash p b) marks refl)

-- of marks, and then others
ends_both : (marks more : List Mark) → end_numbers (marks ++ more) ≡ end_numbers marks ++ end_numbers more
ends_both [] more = refl
ends_both (Begin p n b ask ∷ marks) more = ends_both marks more
ends_both (End p n answer ∷ marks) more = ap (λ (l : List ℕ). n ∷ l) (ends_both marks more)
ends_both (Crash p b ∷ marks) more = ends_both marks more

-- one of them has its End
abbrev HasEnd : List Mark → ℕ → Type 0
HasEnd marks n = (k : ℕ) × (p : ℕ) × (answer : Answer) × (slice_get marks k ≡ Some (End p n answer))

-- an End behind one more mark
later_end : (mark : Mark) (marks : List Mark) (n : ℕ) → HasEnd marks n → HasEnd (mark ∷ marks) n
later_end mark marks n has = (suc has.0, has.1, has.2, has.3)

-- an End is the first mark, or behind it
end_here : (marks : List Mark) (p k n : ℕ) (answer : Answer) (more : Bool) → (more ≡ true → HasEnd marks n) → (b : Bool) → eqb n k ≡ b
    → b || more ≡ true → HasEnd (End p k answer ∷ marks) n
end_here marks p k n answer more then true same any = (0, p, answer, ap (λ (i : ℕ). Some (End p i answer)) (sym (eqb-true n k same)))
end_here marks p k n answer more then false other any = later_end (End p k answer) marks n (then any)

-- an operation among those that end has its End
end_of_number : (marks : List Mark) (n : ℕ) → list_any (eqb n) (end_numbers marks) ≡ true → HasEnd marks n
end_of_number [] n any = absurd (let never : false ≡ true = any in cc)
end_of_number (Begin p k b ask ∷ marks) n any = later_end (Begin p k b ask) marks n (end_of_number marks n any)
end_of_number (End p k answer ∷ marks) n any =
    end_here marks p k n answer (list_any (eqb n) (end_numbers marks)) (end_of_number marks n) (eqb n k) refl any
end_of_number (Crash p b ∷ marks) n any = later_end (Crash p b) marks n (end_of_number marks n any)

-- the first marks

-- one of the first marks is one of all, with the same before it
get_taken : (k : ℕ) (marks : List Mark) (i : ℕ) (mark : Mark) → slice_get (take k marks) i ≡ Some mark
    → (slice_get marks i ≡ Some mark) × (take i (take k marks) ≡ take i marks)
get_taken zero marks i mark at = absurd (let never : None ≡ Some mark = at in cc)
get_taken (suc k) [] i mark at = absurd (let never : None ≡ Some mark = at in cc)
get_taken (suc k) (m ∷ marks) zero mark at = (at, refl)
get_taken (suc k) (m ∷ marks) (suc i) mark at =
    let rest = get_taken k marks i mark at in (rest.0, ap (λ (l : List Mark). m ∷ l) rest.1)

-- the numbers of the first marks rise
rise_taken : (k : ℕ) (marks : List Mark) (a : ℕ) → NumbersRise a marks → NumbersRise a (take k marks)
rise_taken zero marks a rises = tt
rise_taken (suc k) [] a rises = tt
rise_taken (suc k) (Begin p n b ask ∷ marks) a rises = (rises.0, rise_taken k marks n rises.1)
rise_taken (suc k) (End p n answer ∷ marks) a rises = rise_taken k marks a rises
rise_taken (suc k) (Crash p b ∷ marks) a rises = rise_taken k marks a rises

-- one mark more
take_next : (k : ℕ) (marks : List Mark) (mark : Mark) → slice_get marks k ≡ Some mark → take (suc k) marks ≡ take k marks ++ (mark ∷ [])
take_next k [] mark at = absurd (let never : None ≡ Some mark = at in cc)
take_next zero (m ∷ marks) mark at = ap (λ (x : Mark). x ∷ []) (same_Some m mark at)
take_next (suc k) (m ∷ marks) mark at = ap (λ (l : List Mark). m ∷ l) (take_next k marks mark at)

-- there is a mark at each place
there : (marks : List Mark) (k : ℕ) → k < length marks → (mark : Mark) × (slice_get marks k ≡ Some mark)
there [] k within = absurd (omega arith)
there (m ∷ marks) zero within = (m, refl)
there (m ∷ marks) (suc k) within = there marks k (omega arith)

-- the first marks, of all of them
take_whole : (marks : List Mark) → take (length marks) marks ≡ marks
take_whole [] = refl
take_whole (m ∷ marks) = ap (λ (l : List Mark). m ∷ l) (take_whole marks)

-- no number stands twice in none
distinct_none : IsDistinct eqb []
unfolding IsDistinct
distinct_none = tt

module _ (marks : List Mark) (well : IsWellFormed marks) (placed : (k : ℕ) (mark : Mark) → slice_get marks k ≡ Some mark → position_of mark ≡ k)
    (from_one : (n : ℕ) (life : Life) → life_of marks n ≡ Some life → 1 ≤ n) where
  well_taken : (k : ℕ) → IsWellFormed (take k marks)
  well_taken k = record {
    positions_rise = positions_rise (take k marks) (λ i mark at. placed i mark (get_taken k marks i mark at).0);
    numbers_rise = increasing_numbers (take k marks) 0
        (rise_taken k marks 0 (NumbersRise-increasing marks (numbers_from_one marks from_one) well.numbers_rise));
    ends_are_of_open = λ i p n answer at.
        let old = get_taken k marks i (End p n answer) at in
        subst (λ (l : List Mark). IsOpen (life_of l n)) (sym old.1) (well.ends_are_of_open i p n answer old.0);
  }

  -- no operation ends twice
  distinct_to : (k : ℕ) → k ≤ length marks → IsDistinct eqb (end_numbers (take k marks))
  distinct_to zero within = distinct_none
  distinct_to (suc k) within =
      let at = there marks k (omega arith) in
      subst (λ (l : List Mark). IsDistinct eqb (end_numbers l)) (sym (take_next k marks at.0 at.1))
      (subst (λ (l : List ℕ). IsDistinct eqb l) (sym (ends_both (take k marks) (at.0 ∷ []))) (next at.0 at.1 (distinct_to k (omega arith))))
    where
      next : (mark : Mark) → slice_get marks k ≡ Some mark → IsDistinct eqb (end_numbers (take k marks))
          → IsDistinct eqb (end_numbers (take k marks) ++ end_numbers (mark ∷ []))
      next (Begin p n b ask) at rest = subst (λ (l : List ℕ). IsDistinct eqb l) (sym (append-nil (end_numbers (take k marks)))) rest
      next (Crash p b) at rest = subst (λ (l : List ℕ). IsDistinct eqb l) (sym (append-nil (end_numbers (take k marks)))) rest
      next (End p n answer) at rest =
          IsDistinct-push nat_eq_equiv (end_numbers (take k marks)) n rest
          (new (list_any (eqb n) (end_numbers (take k marks))) refl)
        where
          new : (b : Bool) → list_any (eqb n) (end_numbers (take k marks)) ≡ b → b ≡ false
          new false any = refl
          new true any =
              let old = end_of_number (take k marks) n any in
              absurd (ended_not_open (take k marks) old.0 old.1 n old.2 (well_taken k) old.3 (well.ends_are_of_open k p n answer at))

  -- at most one more operation ends than the greatest number
  pub ends_few : (most : ℕ) → ((k p n : ℕ) (answer : Answer) → slice_get marks k ≡ Some (End p n answer) → n ≤ most)
      → count_by is_end marks ≤ most + 1
  ends_few most below =
      let distinct : IsDistinct eqb (end_numbers marks) =
      subst (λ (l : List Mark). IsDistinct eqb (end_numbers l)) (take_whole marks) (distinct_to (length marks) (omega arith))
      in
      let few = length-le_from_distinct_below (end_numbers marks) (most + 1) distinct
      (λ q any. let has = end_of_number marks q any in let low = below has.0 has.1 q has.2 has.3 in omega arith) in
      omega (arith, few, ends_are marks)
