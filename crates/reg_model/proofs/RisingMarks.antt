-- Marks whose positions and numbers rise: what lies before and after in them.
use Rattle.std.proofs.Common.{◌≡◌, ◌≢◌, ℕ, suc, ◌+◌, ◌<◌, ◌≤◌, ◌⊎◌, inl, inr, ⊎_elim, Bool, true, false, cond, nat_eq, List, [], ◌∷◌, get_or, map, Option, Some, None, refl, sym, ap, ◌∙◌, subst, arith}
use Rattle.std.specs.List.{All, AllPairs, filter}
use Rattle.std.specs.List.Sorted.{IsStrictlyIncreasing}
use Rattle.std.proofs.lemmas.Bool.{cond_both, cases_eq, eq-eqb, ne_eqb}
use Rattle.std.proofs.lemmas.Option.{same_Some}
use Rattle.std.proofs.lemmas.List.Elements.{All-cons, All-nil}
use Rattle.std.proofs.lemmas.List.Kept.{AllPairs-cons, AllPairs-from_increasing}
use Rattle.reg_model.specs.declared.marks.Mark.{Mark}
use Rattle.reg_model.specs.declared.marks.Mark.TheVariants.{Begin, End, Crash}
use Rattle.reg_model.specs.Marks.{Ending, Answered, Interrupted, Unended, ending_of, end_of, Life, life_of, position_of, begun_numbers}

-- the positions rise, from a on
abbrev pub RisesFrom : ℕ → List Mark → Type 0
RisesFrom a [] = Unit {0}
RisesFrom a (mark ∷ marks) = (a ≤ position_of mark) × RisesFrom (position_of mark + 1) marks

-- the numbers that begin rise, above a
abbrev pub NumbersRise : ℕ → List Mark → Type 0
NumbersRise a [] = Unit {0}
NumbersRise a (Begin p n b ask ∷ marks) = (a < n) × NumbersRise n marks
NumbersRise a (End p n answer ∷ marks) = NumbersRise a marks
NumbersRise a (Crash p b ∷ marks) = NumbersRise a marks

-- a list each of whose elements is below all later ones rises
pub increasing_from_pairs : (xs : List ℕ) → AllPairs (λ x y. x < y) xs → IsStrictlyIncreasing xs
increasing_from_pairs xs pairs k lt = pairs k (k + 1) 0 (omega arith) lt

rises_from : (marks : List Mark) (a : ℕ) → All (λ (x : ℕ). a ≤ x) (map position_of marks) → AllPairs (λ x y. x < y) (map position_of marks)
    → RisesFrom a marks
rises_from [] a low pairs = tt
rises_from (mark ∷ marks) a low pairs = (
  low 0 0 (omega arith),
  rises_from marks (position_of mark + 1)
      (λ k d lt. (let below : position_of mark < get_or (map position_of marks) k d = pairs 0 (suc k) d (omega arith) (omega arith) in omega arith))
      (λ i j d lt le. pairs (suc i) (suc j) d (omega arith) (omega arith)),
)

-- positions that rise
pub RisesFrom-increasing : (marks : List Mark) → IsStrictlyIncreasing (map position_of marks) → RisesFrom 0 marks
RisesFrom-increasing marks up = rises_from marks 0 (λ k d lt. omega arith) (AllPairs-from_increasing (map position_of marks) up)

pub RisesFrom-all : (marks : List Mark) (a : ℕ) → RisesFrom a marks → All (λ (x : ℕ). a ≤ x) (map position_of marks)
RisesFrom-all [] a rises = All-nil (λ (x : ℕ). a ≤ x)
RisesFrom-all (mark ∷ marks) a rises =
    All-cons (λ (x : ℕ). a ≤ x) (position_of mark) (map position_of marks) rises.0
    (λ k d lt. (let later : position_of mark + 1 ≤ get_or (map position_of marks) k d = RisesFrom-all marks (position_of mark + 1) rises.1 k d lt in
    let first : a ≤ position_of mark = rises.0 in omega arith))

RisesFrom-pairs : (marks : List Mark) (a : ℕ) → RisesFrom a marks → AllPairs (λ x y. x < y) (map position_of marks)
RisesFrom-pairs [] a rises = λ i j d lt le. absurd (omega arith)
RisesFrom-pairs (mark ∷ marks) a rises =
    AllPairs-cons (λ (x y : ℕ). x < y) (position_of mark) (map position_of marks)
    (λ k d lt. (let later : position_of mark + 1 ≤ get_or (map position_of marks) k d = RisesFrom-all marks
    (position_of mark + 1) rises.1 k d lt in omega arith))
    (RisesFrom-pairs marks (position_of mark + 1) rises.1)

pub increasing_positions : (marks : List Mark) (a : ℕ) → RisesFrom a marks → IsStrictlyIncreasing (map position_of marks)
increasing_positions marks a rises = increasing_from_pairs (map position_of marks) (RisesFrom-pairs marks a rises)

pub RisesFrom-less : (marks : List Mark) (a b : ℕ) → a ≤ b → RisesFrom b marks → RisesFrom a marks
RisesFrom-less [] a b le rises = tt
RisesFrom-less (mark ∷ marks) a b le rises = (let first : b ≤ position_of mark = rises.0 in omega arith, rises.1)

-- the positions of some of the marks rise too
pub RisesFrom-filter : (test : Mark → Bool) (marks : List Mark) (a : ℕ) → RisesFrom a marks → RisesFrom a (filter test marks)
RisesFrom-filter test [] a rises = tt
RisesFrom-filter test (mark ∷ marks) a rises =
    let first : a ≤ position_of mark = rises.0 in
    let rest : RisesFrom (position_of mark + 1) (filter test marks) = RisesFrom-filter test marks (position_of mark + 1) rises.1 in
    cond_both (test mark) (mark ∷ filter test marks) (filter test marks) (λ (x : List Mark). RisesFrom a x)
    (λ in'. (first, rest)) (λ out. RisesFrom-less (filter test marks) a (position_of mark + 1) (omega arith) rest)

numbers_rise : (marks : List Mark) (a : ℕ) → All (λ (x : ℕ). a < x) (begun_numbers marks) → AllPairs (λ x y. x < y) (begun_numbers marks)
    → NumbersRise a marks
numbers_rise [] a low pairs = tt
numbers_rise (Begin p n b ask ∷ marks) a low pairs = (
  low 0 0 (omega arith),
  numbers_rise marks n (λ k d lt. pairs 0 (suc k) d (omega arith) (omega arith)) (λ i j d lt le. pairs (suc i) (suc j) d (omega arith) (omega arith)),
)
numbers_rise (End p n answer ∷ marks) a low pairs = numbers_rise marks a low pairs
numbers_rise (Crash p b ∷ marks) a low pairs = numbers_rise marks a low pairs

-- numbers that rise, from 1
pub NumbersRise-increasing : (marks : List Mark) → All (λ (x : ℕ). 0 < x) (begun_numbers marks) → IsStrictlyIncreasing (begun_numbers marks)
    → NumbersRise 0 marks
NumbersRise-increasing marks low up = numbers_rise marks 0 low (AllPairs-from_increasing (begun_numbers marks) up)

NumbersRise-all : (marks : List Mark) (a : ℕ) → NumbersRise a marks → All (λ (x : ℕ). a < x) (begun_numbers marks)
NumbersRise-all [] a rises = All-nil (λ (x : ℕ). a < x)
NumbersRise-all (Begin p n b ask ∷ marks) a rises =
    All-cons (λ (x : ℕ). a < x) n (begun_numbers marks) rises.0
    (λ k d lt. (let later : n < get_or (begun_numbers marks) k d = NumbersRise-all marks n rises.1 k d lt in
    let first : a < n = rises.0 in omega arith))
NumbersRise-all (End p n answer ∷ marks) a rises = NumbersRise-all marks a rises
NumbersRise-all (Crash p b ∷ marks) a rises = NumbersRise-all marks a rises

NumbersRise-pairs : (marks : List Mark) (a : ℕ) → NumbersRise a marks → AllPairs (λ x y. x < y) (begun_numbers marks)
NumbersRise-pairs [] a rises = λ i j d lt le. absurd (omega arith)
NumbersRise-pairs (Begin p n b ask ∷ marks) a rises =
    AllPairs-cons (λ (x y : ℕ). x < y) n (begun_numbers marks) (NumbersRise-all marks n rises.1) (NumbersRise-pairs marks n rises.1)
NumbersRise-pairs (End p n answer ∷ marks) a rises = NumbersRise-pairs marks a rises
NumbersRise-pairs (Crash p b ∷ marks) a rises = NumbersRise-pairs marks a rises

pub increasing_numbers : (marks : List Mark) (a : ℕ) → NumbersRise a marks → IsStrictlyIncreasing (begun_numbers marks)
increasing_numbers marks a rises = increasing_from_pairs (begun_numbers marks) (NumbersRise-pairs marks a rises)

pub NumbersRise-less : (marks : List Mark) (a b : ℕ) → a ≤ b → NumbersRise b marks → NumbersRise a marks
NumbersRise-less [] a b le rises = tt
NumbersRise-less (Begin p n c ask ∷ marks) a b le rises = (let first : b < n = rises.0 in omega arith, rises.1)
NumbersRise-less (End p n answer ∷ marks) a b le rises = NumbersRise-less marks a b le rises
NumbersRise-less (Crash p c ∷ marks) a b le rises = NumbersRise-less marks a b le rises

-- the numbers of some of the marks rise too
pub NumbersRise-filter : (test : Mark → Bool) (marks : List Mark) (a : ℕ) → NumbersRise a marks → NumbersRise a (filter test marks)
NumbersRise-filter test [] a rises = tt
NumbersRise-filter test (Begin p n b ask ∷ marks) a rises =
    let first : a < n = rises.0 in
    let rest : NumbersRise n (filter test marks) = NumbersRise-filter test marks n rises.1 in
    cond_both (test (Begin p n b ask)) (Begin p n b ask ∷ filter test marks) (filter test marks) (λ (x : List Mark). NumbersRise a x)
    (λ in'. (first, rest)) (λ out. NumbersRise-less (filter test marks) a n (omega arith) rest)
NumbersRise-filter test (End p n answer ∷ marks) a rises =
    let rest : NumbersRise a (filter test marks) = NumbersRise-filter test marks a rises in
    cond_both (test (End p n answer)) (End p n answer ∷ filter test marks) (filter test marks) (λ (x : List Mark). NumbersRise a x) (λ in'. rest)
    (λ out. rest)
NumbersRise-filter test (Crash p b ∷ marks) a rises =
    let rest : NumbersRise a (filter test marks) = NumbersRise-filter test marks a rises in
    cond_both (test (Crash p b)) (Crash p b ∷ filter test marks) (filter test marks) (λ (x : List Mark). NumbersRise a x) (λ in'. rest) (λ out. rest)

-- a number at or below all that begin has no life
pub NumbersRise-none : (marks : List Mark) (a n : ℕ) → n ≤ a → NumbersRise a marks → life_of marks n ≡ None
NumbersRise-none [] a n le rises = refl
NumbersRise-none (Begin p k b ask ∷ marks) a n le rises =
    let first : a < k = rises.0 in
    let other : k ≢ n = omega arith in
    ap (λ (t : Bool). cond t (Some (record { begin = p; brick = b.0; ask = ask; ending = ending_of marks n b.0 (p + 1) })) (life_of marks n))
    (ne_eqb k n other)
    ∙ NumbersRise-none marks k n (omega arith) rises.1
NumbersRise-none (End p k answer ∷ marks) a n le rises = NumbersRise-none marks a n le rises
NumbersRise-none (Crash p b ∷ marks) a n le rises = NumbersRise-none marks a n le rises

-- the life that a Begin makes, or one of the rest
pub begin_cases : (p k n : ℕ) (mine : Life) (rest : Option Life) (life : Life) → cond (nat_eq k n) (Some mine) rest ≡ Some life
    → ((k ≡ n) × (mine ≡ life)) ⊎ ((k ≢ n) × (rest ≡ Some life))
begin_cases p k n mine rest life h = ⊎_elim
    (λ (same : k ≡ n). inl (same, same_Some mine life (sym (ap (λ (t : Bool). cond t (Some mine) rest) (eq-eqb k n same)) ∙ h)))
    (λ (other : k ≢ n). inr (other, sym (ap (λ (t : Bool). cond t (Some mine) rest) (ne_eqb k n other)) ∙ h))
    (cases_eq k n)

-- an ending is at or after where its operation stood
pub end_after : (marks : List Mark) (n brick past : ℕ) → RisesFrom past marks → past ≤ end_of (ending_of marks n brick past)
end_after [] n brick past rises = omega arith
end_after (Begin p k b ask ∷ marks) n brick past rises =
    let first : past ≤ p = rises.0 in
    let rest : p + 1 ≤ end_of (ending_of marks n brick (p + 1)) = end_after marks n brick (p + 1) rises.1 in
    omega arith
end_after (End p k answer ∷ marks) n brick past rises =
    let first : past ≤ p = rises.0 in
    let rest : p + 1 ≤ end_of (ending_of marks n brick (p + 1)) = end_after marks n brick (p + 1) rises.1 in
    cond_both (nat_eq k n) (Answered p answer) (ending_of marks n brick (p + 1)) (λ (e : Ending). past ≤ end_of e) (λ is. first) (λ is. omega arith)
end_after (Crash p b ∷ marks) n brick past rises =
    let first : past ≤ p = rises.0 in
    let rest : p + 1 ≤ end_of (ending_of marks n brick (p + 1)) = end_after marks n brick (p + 1) rises.1 in
    cond_both (nat_eq b.0 brick) (Interrupted p) (ending_of marks n brick (p + 1)) (λ (e : Ending). past ≤ end_of e) (λ is. first) (λ is. omega arith)

-- a life begins and ends at or after where the marks begin, and ends after it begins
pub life_within : (marks : List Mark) (a n : ℕ) (life : Life) → RisesFrom a marks → life_of marks n ≡ Some life
    → (a ≤ life.begin) × (life.begin < end_of life.ending)
life_within [] a n life rises is = absurd (let never : None ≡ Some life = is in cc)
life_within (Begin p k b ask ∷ marks) a n life rises is = ⊎_elim
    (λ (here : (k ≡ n) × (record { begin = p; brick = b.0; ask = ask; ending = ending_of marks n b.0 (p + 1) } ≡ life)).
    subst (λ (l : Life). (a ≤ l.begin) × (l.begin < end_of l.ending)) here.1
    (rises.0, (let ends : p + 1 ≤ end_of (ending_of marks n b.0 (p + 1)) = end_after marks n b.0 (p + 1) rises.1 in omega arith)))
    (λ (there : (k ≢ n) × (life_of marks n ≡ Some life)).
    let rest : (p + 1 ≤ life.begin) × (life.begin < end_of life.ending) = life_within marks (p + 1) n life rises.1 there.1 in
    let first : a ≤ p = rises.0 in
    (omega (arith, rest.0), rest.1))
    (begin_cases p k n _ (life_of marks n) life is)
life_within (End p k answer ∷ marks) a n life rises is =
    let rest : (p + 1 ≤ life.begin) × (life.begin < end_of life.ending) = life_within marks (p + 1) n life rises.1 is in
    let first : a ≤ p = rises.0 in
    (omega (arith, rest.0), rest.1)
life_within (Crash p b ∷ marks) a n life rises is =
    let rest : (p + 1 ≤ life.begin) × (life.begin < end_of life.ending) = life_within marks (p + 1) n life rises.1 is in
    let first : a ≤ p = rises.0 in
    (omega (arith, rest.0), rest.1)

-- an operation that is open stands after each Begin
open_after : (marks : List Mark) (n brick past q m : ℕ) (life : Life) → RisesFrom past marks → ending_of marks n brick past ≡ Unended q
    → life_of marks m ≡ Some life → life.begin < q
open_after [] n brick past q m life rises ending is = absurd (let never : None ≡ Some life = is in cc)
open_after (Begin p k b ask ∷ marks) n brick past q m life rises ending is = ⊎_elim
    (λ (here : (k ≡ m) × (record { begin = p; brick = b.0; ask = ask; ending = ending_of marks m b.0 (p + 1) } ≡ life)).
    let at : p ≡ life.begin = ap (λ (l : Life). l.begin) here.1 in
    let ends : p + 1 ≤ end_of (ending_of marks n brick (p + 1)) = end_after marks n brick (p + 1) rises.1 in
    let past : end_of (ending_of marks n brick (p + 1)) ≡ q = ap (λ (e : Ending). end_of e) ending in
    omega arith)
    (λ (there : (k ≢ m) × (life_of marks m ≡ Some life)). open_after marks n brick (p + 1) q m life rises.1 ending there.1)
    (begin_cases p k m _ (life_of marks m) life is)
open_after (End p k answer ∷ marks) n brick past q m life rises ending is =
    elim (nat_eq k n) as (λ t. cond t (Answered p answer) (ending_of marks n brick (p + 1)) ≡ Unended q → life.begin < q) [
      | true ↦ λ e. absurd (let never : Answered p answer ≡ Unended q = e in cc)
      | false ↦ λ e. open_after marks n brick
          (p + 1) q m life rises.1 e is
    ] ending
open_after (Crash p b ∷ marks) n brick past q m life rises ending is =
    elim (nat_eq b.0 brick) as (λ t. cond t (Interrupted p) (ending_of marks n brick (p + 1)) ≡ Unended q → life.begin < q) [
      | true ↦ λ e. absurd (let never : Interrupted p ≡ Unended q = e in cc)
      | false ↦ λ e. open_after marks n brick
          (p + 1) q m life rises.1 e is
    ] ending

-- each operation began before where an open one stands
pub begins_before_open : (marks : List Mark) (a n q m : ℕ) (one other : Life) → RisesFrom a marks → life_of marks n ≡ Some one
    → one.ending ≡ Unended q → life_of marks m ≡ Some other → other.begin < q
begins_before_open [] a n q m one other rises is ending at = absurd (let never : None ≡ Some one = is in cc)
begins_before_open (Begin p k b ask ∷ marks) a n q m one other rises is ending at = ⊎_elim
    (λ (mine : (k ≡ n) × (record { begin = p; brick = b.0; ask = ask; ending = ending_of marks n b.0 (p + 1) } ≡ one)).
    open_after (Begin p k b ask ∷ marks) n b.0 a q m other rises (ap (λ (l : Life). l.ending) mine.1 ∙ ending) at)
    (λ (rest : (k ≢ n) × (life_of marks n ≡ Some one)). ⊎_elim
    (λ (theirs : (k ≡ m) × (record { begin = p; brick = b.0; ask = ask; ending = ending_of marks m b.0 (p + 1) } ≡ other)).
    let at' : p ≡ other.begin = ap (λ (l : Life). l.begin) theirs.1 in
    let within : (p + 1 ≤ one.begin) × (one.begin < end_of one.ending) = life_within marks (p + 1) n one rises.1 rest.1 in
    let past : end_of one.ending ≡ q = ap (λ (e : Ending). end_of e) ending in
    omega (arith, within.0, within.1))
    (λ (further : (k ≢ m) × (life_of marks m ≡ Some other)). begins_before_open marks (p + 1) n q m one other rises.1 rest.1 ending further.1)
    (begin_cases p k m _ (life_of marks m) other at))
    (begin_cases p k n _ (life_of marks n) one is)
begins_before_open (End p k answer ∷ marks) a n q m one other rises is ending at =
    begins_before_open marks (p + 1) n q m one other rises.1 is ending at
begins_before_open (Crash p b ∷ marks) a n q m one other rises is ending at =
    begins_before_open marks (p + 1) n q m one other rises.1 is ending at

-- the operation of the smaller number began before
pub begins_in_order : (marks : List Mark) (a b n m : ℕ) (one other : Life) → RisesFrom a marks → NumbersRise b marks → n < m
    → life_of marks n ≡ Some one → life_of marks m ≡ Some other → one.begin < other.begin
begins_in_order [] a b n m one other rises rise lt is at = absurd (let never : None ≡ Some one = is in cc)
begins_in_order (Begin p k c ask ∷ marks) a b n m one other rises rise lt is at = ⊎_elim
    (λ (theirs : (k ≡ m) × (record { begin = p; brick = c.0; ask = ask; ending = ending_of marks m c.0 (p + 1) } ≡ other)).
    absurd (⊎_elim
    (λ (mine : (k ≡ n) × (record { begin = p; brick = c.0; ask = ask; ending = ending_of marks n c.0 (p + 1) } ≡ one)). omega
    (arith, mine.0, theirs.0))
    (λ (rest : (k ≢ n) × (life_of marks n ≡ Some one)).
    let none : life_of marks n ≡ None = NumbersRise-none marks k n (omega (arith, theirs.0)) rise.1 in
    let never : None ≡ Some one = sym none ∙ rest.1 in cc)
    (begin_cases p k n _ (life_of marks n) one is)))
    (λ (further : (k ≢ m) × (life_of marks m ≡ Some other)). ⊎_elim
    (λ (mine : (k ≡ n) × (record { begin = p; brick = c.0; ask = ask; ending = ending_of marks n c.0 (p + 1) } ≡ one)).
    let here : p ≡ one.begin = ap (λ (l : Life). l.begin) mine.1 in
    let within : (p + 1 ≤ other.begin) × (other.begin < end_of other.ending) = life_within marks (p + 1) m other rises.1 further.1 in
    omega (arith, within.0))
    (λ (rest : (k ≢ n) × (life_of marks n ≡ Some one)). begins_in_order marks (p + 1) k n m one other rises.1 rise.1 lt rest.1 further.1)
    (begin_cases p k n _ (life_of marks n) one is))
    (begin_cases p k m _ (life_of marks m) other at)
begins_in_order (End p k answer ∷ marks) a b n m one other rises rise lt is at =
    begins_in_order marks (p + 1) b n m one other rises.1 rise lt is at
begins_in_order (Crash p c ∷ marks) a b n m one other rises rise lt is at =
    begins_in_order marks (p + 1) b n m one other rises.1 rise lt is at
