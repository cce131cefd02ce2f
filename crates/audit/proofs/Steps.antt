-- The marks hold where each follows those before it.
use Rattle.std.proofs.Common.{◌≡◌, ℕ, zero, suc, ◌+◌, ◌<◌, List, [], ◌∷◌, ◌++◌, length, map, get_or, take, ⊎_elim, Some, None, refl, sym, ap, ◌∙◌, subst, arith}
use Rattle.std.specs.Bool.{⊤}
use Rattle.std.specs.Prelude.{slice_get}
use Rattle.std.specs.List.Sorted.{IsStrictlyIncreasing}
use Rattle.fab_base.specs.declared.answers.Answer.{Answer}
use Rattle.fab_base.specs.Layouts.{Layout}
use Rattle.reg_model.specs.declared.marks.Mark.{Mark}
use Rattle.reg_model.specs.declared.marks.Mark.TheVariants.{Begin, End, Crash}
use Rattle.reg_model.specs.Marks.{life_of, position_of, begun_numbers, IsOpen}
use Rattle.audit.specs.Checks.{BeginFits, AnswerFits, MarksHold}
use Rattle.audit.proofs.Lists.{same_some, push_cases}
use Rattle.audit.proofs.Indexes.{begun_push}

-- A mark follows others: a Begin's number is the next and what it asks fits the layout; an End is of an operation that is open, by its word.
abbrev pub Follows : Layout → List Mark → Mark → Type 0
Follows layout before (Begin p n b ask) = (n ≡ length (begun_numbers before) + 1) × BeginFits layout (Begin p n b ask)
Follows layout before (End p n answer) = IsOpen (life_of before n) × AnswerFits (life_of before n) answer
Follows layout before (Crash p b) = ⊤

-- an element of a list, and of what a function makes of it
some_at : {A : Type 0} (xs : List A) (k : ℕ) → k < length xs → (x : A) × (slice_get xs k ≡ Some x)
some_at [] k lt = absurd (omega arith)
some_at (x ∷ xs) zero lt = (x, refl)
some_at (x ∷ xs) (suc k) lt = some_at xs k (omega arith)

got : (xs : List ℕ) (k x : ℕ) → slice_get xs k ≡ Some x → get_or xs k 0 ≡ x
got [] k x is = absurd (let never : None ≡ Some x = is in cc)
got (y ∷ xs) zero x is = same_some y x is
got (y ∷ xs) (suc k) x is = got xs k x is

-- numbers that stand at their places, from one on, rise
rises_by : (d : ℕ) (xs : List ℕ) → ((k n : ℕ) → slice_get xs k ≡ Some n → n ≡ k + d) → IsStrictlyIncreasing xs
rises_by d xs at k lt =
    let here = some_at xs k (omega arith) in
    let next = some_at xs (k + 1) lt in
    let first : here.0 ≡ k + d = at k here.0 here.1 in
    let second : next.0 ≡ k + 1 + d = at (k + 1) next.0 next.1 in
    let left : get_or xs k 0 ≡ here.0 = got xs k here.0 here.1 in
    let right : get_or xs (k + 1) 0 ≡ next.0 = got xs (k + 1) next.0 next.1 in
    omega arith

mapped_at : (marks : List Mark) (k p : ℕ) → slice_get (map position_of marks) k ≡ Some p → (mark : Mark) × (slice_get marks k ≡ Some mark) × (position_of mark ≡ p)
mapped_at [] k p is = absurd (let never : None ≡ Some p = is in cc)
mapped_at (mark ∷ marks) zero p is = (mark, refl, same_some (position_of mark) p is)
mapped_at (mark ∷ marks) (suc k) p is = mapped_at marks k p is

append_none : (xs : List ℕ) → xs ++ [] ≡ xs
append_none [] = refl
append_none (x ∷ xs) = ap (λ l. x ∷ l) (append_none xs)

-- the numbers stay those of their places
numbered_more : (layout : Layout) (marks : List Mark) (mark : Mark) → ((k n : ℕ) → slice_get (begun_numbers marks) k ≡ Some n → n ≡ k + 1)
    → Follows layout marks mark → (k n : ℕ) → slice_get (begun_numbers (marks ++ mark ∷ [])) k ≡ Some n → n ≡ k + 1
numbered_more layout marks (Begin p m b ask) numbered follows k n is =
    let at : slice_get (begun_numbers marks ++ m ∷ []) k ≡ Some n = ap (λ (l : List ℕ). slice_get l k) (sym (begun_push marks (Begin p m b ask))) ∙ is in
    ⊎_elim
    (λ (old : (slice_get (begun_numbers marks) k ≡ Some n) × (take k (begun_numbers marks ++ m ∷ []) ≡ take k (begun_numbers marks))). numbered k n old.0)
    (λ (here : (m ≡ n) × (take k (begun_numbers marks ++ m ∷ []) ≡ begun_numbers marks) × (k ≡ length (begun_numbers marks))).
    let next : m ≡ length (begun_numbers marks) + 1 = follows.0 in
    let same : m ≡ n = here.0 in let place : k ≡ length (begun_numbers marks) = here.2 in omega arith)
    (push_cases (begun_numbers marks) m n k at)
numbered_more layout marks (End p m answer) numbered follows k n is =
    numbered k n (ap (λ (l : List ℕ). slice_get l k) (sym (begun_push marks (End p m answer) ∙ append_none (begun_numbers marks))) ∙ is)
numbered_more layout marks (Crash p b) numbered follows k n is =
    numbered k n (ap (λ (l : List ℕ). slice_get l k) (sym (begun_push marks (Crash p b) ∙ append_none (begun_numbers marks))) ∙ is)

begin_follows : (layout : Layout) (marks : List Mark) (mark : Mark) → Follows layout marks mark → BeginFits layout mark
begin_follows layout marks (Begin p n b ask) follows = follows.1
begin_follows layout marks (End p n answer) follows = tt
begin_follows layout marks (Crash p b) follows = tt

-- no mark
pub marks_hold_none : (layout : Layout) → MarksHold layout []
marks_hold_none layout = record {
  placed = λ i mark is. absurd (let never : None ≡ Some mark = is in cc);
  numbered = λ k n is. absurd (let never : None ≡ Some n = is in cc);
  well_formed = record {
    positions_rise = λ k lt. absurd (omega arith);
    numbers_rise = λ k lt. absurd (omega arith);
    ends_are_of_open = λ i p n answer is. absurd (let never : None ≡ Some (End p n answer) = is in cc);
  };
  begins_fit = λ i mark is. absurd (let never : None ≡ Some mark = is in cc);
  answers_fit = λ i p n answer is. absurd (let never : None ≡ Some (End p n answer) = is in cc);
}

-- one mark more
pub marks_hold_more : (layout : Layout) (marks : List Mark) (mark : Mark) → MarksHold layout marks → position_of mark ≡ length marks
    → Follows layout marks mark → MarksHold layout (marks ++ mark ∷ [])
marks_hold_more layout marks mark hold place follows = record {
  placed = placed;
  numbered = numbered_more layout marks mark hold.numbered follows;
  well_formed = record {
    positions_rise = rises_by 0 (map position_of all) (λ k p is.
        let at = mapped_at all k p is in let here : position_of at.0 ≡ k = placed k at.0 at.1 in let same : position_of at.0 ≡ p = at.2 in omega arith);
    numbers_rise = rises_by 1 (begun_numbers all) (numbered_more layout marks mark hold.numbered follows);
    ends_are_of_open = λ i p n answer is. ⊎_elim
        (λ (old : (slice_get marks i ≡ Some (End p n answer)) × (take i all ≡ take i marks)).
        subst (λ (l : List Mark). IsOpen (life_of l n)) (sym old.1) (hold.well_formed.ends_are_of_open i p n answer old.0))
        (λ (here : (mark ≡ End p n answer) × (take i all ≡ marks) × (i ≡ length marks)).
        subst (λ (l : List Mark). IsOpen (life_of l n)) (sym here.1) (ends p n answer here.0).0)
        (push_cases marks mark (End p n answer) i is);
  };
  begins_fit = λ i x is. ⊎_elim
      (λ (old : (slice_get marks i ≡ Some x) × (take i all ≡ take i marks)). hold.begins_fit i x old.0)
      (λ (here : (mark ≡ x) × (take i all ≡ marks) × (i ≡ length marks)).
      subst (λ (m : Mark). BeginFits layout m) here.0 (begin_follows layout marks mark follows))
      (push_cases marks mark x i is);
  answers_fit = λ i p n answer is. ⊎_elim
      (λ (old : (slice_get marks i ≡ Some (End p n answer)) × (take i all ≡ take i marks)).
      subst (λ (l : List Mark). AnswerFits (life_of l n) answer) (sym old.1) (hold.answers_fit i p n answer old.0))
      (λ (here : (mark ≡ End p n answer) × (take i all ≡ marks) × (i ≡ length marks)).
      subst (λ (l : List Mark). AnswerFits (life_of l n) answer) (sym here.1) (ends p n answer here.0).1)
      (push_cases marks mark (End p n answer) i is);
}
  where
    all : List Mark
    all = marks ++ mark ∷ []

    placed : (i : ℕ) (x : Mark) → slice_get all i ≡ Some x → position_of x ≡ i
    placed i x is = ⊎_elim
        (λ (old : (slice_get marks i ≡ Some x) × (take i all ≡ take i marks)). hold.placed i x old.0)
        (λ (here : (mark ≡ x) × (take i all ≡ marks) × (i ≡ length marks)). sym (ap position_of here.0) ∙ place ∙ sym here.2)
        (push_cases marks mark x i is)

    ends : (p n : ℕ) (answer : Answer) → mark ≡ End p n answer → IsOpen (life_of marks n) × AnswerFits (life_of marks n) answer
    ends p n answer is = subst (λ (m : Mark). Follows layout marks m) is follows

-- the number of a Begin, by how many stand before it
begin_number : (marks : List Mark) (i p n : ℕ) (b : _) (ask : _) → slice_get marks i ≡ Some (Begin p n b ask)
    → slice_get (begun_numbers marks) (length (begun_numbers (take i marks))) ≡ Some n
begin_number [] i p n b ask is = absurd (let never : None ≡ Some (Begin p n b ask) = is in cc)
begin_number (mark ∷ marks) zero p n b ask is =
    subst (λ (m : Mark). slice_get (begun_numbers (m ∷ marks)) 0 ≡ Some n) (sym (same_some mark (Begin p n b ask) is)) refl
begin_number (Begin q m a asked ∷ marks) (suc i) p n b ask is = begin_number marks i p n b ask is
begin_number (End q m answer ∷ marks) (suc i) p n b ask is = begin_number marks i p n b ask is
begin_number (Crash q a ∷ marks) (suc i) p n b ask is = begin_number marks i p n b ask is

-- where marks hold, each is in its place and follows those before it
pub marks_hold_at : (layout : Layout) (marks : List Mark) (i : ℕ) (mark : Mark) → MarksHold layout marks → slice_get marks i ≡ Some mark
    → (position_of mark ≡ i) × Follows layout (take i marks) mark
marks_hold_at layout marks i (Begin p n b ask) hold is = (
  hold.placed i (Begin p n b ask) is,
  (hold.numbered (length (begun_numbers (take i marks))) n (begin_number marks i p n b ask is), hold.begins_fit i (Begin p n b ask) is),
)
marks_hold_at layout marks i (End p n answer) hold is = (
  hold.placed i (End p n answer) is,
  (hold.well_formed.ends_are_of_open i p n answer is, hold.answers_fit i p n answer is),
)
marks_hold_at layout marks i (Crash p b) hold is = (hold.placed i (Crash p b) is, tt)
