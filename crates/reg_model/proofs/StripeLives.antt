-- The marks of a stripe: well formed, and with the lives of the stripe's operations.
use Rattle.std.proofs.Common.{◌≡◌, ◌≢◌, ℕ, zero, suc, ◌+◌, ◌<◌, ◌≤◌, ⊎_elim, Bool, true, false, ◌&&◌, cond, nat_eq, List, [], ◌∷◌, get_or, take, drop, Option, Some, None, refl, sym, ap, ◌∙◌, subst, arith}
use Rattle.std.specs.Prelude.{slice_get}
use Rattle.std.specs.List.{All, filter}
use Rattle.std.proofs.lemmas.Bool.{cond_both, eq-eqb, ne_eqb, eqb-true}
use Rattle.std.proofs.lemmas.Option.{none-some, same_Some}
use Rattle.std.proofs.lemmas.List.{take-append-drop, get_or_default}
use Rattle.fab_base.specs.declared.asks.Ask.{Ask}
use Rattle.reg_model.specs.declared.marks.Mark.{Mark}
use Rattle.reg_model.specs.declared.marks.Mark.TheVariants.{Begin, End, Crash}
use Rattle.reg_model.specs.Marks.{Ending, Answered, Interrupted, ending_of, Life, life_of, IsUnended, IsOpen, IsWellFormed, begun_numbers, is_of_stripe, concerns, stripe_marks}
use Rattle.reg_model.proofs.GrowingLives.{EndingStays, EndingStays-open, LifeStays, with_ending, onward, life_onward, life_of-append}
use Rattle.reg_model.proofs.RisingMarks.{RisesFrom-filter, increasing_positions, NumbersRise, NumbersRise-filter, NumbersRise-none, NumbersRise-increasing, RisesFrom-increasing, increasing_numbers, begin_cases}
use Rattle.reg_model.proofs.AddedMarks.{begun_lives}

-- a function of a choice
cond_ap : {A B : Type 0} (f : A → B) (t : Bool) (x y : A) → f (cond t x y) ≡ cond t (f x) (f y)
cond_ap f true x y = refl
cond_ap f false x y = refl

-- an ending that a choice makes, of the marks and of some of them
choose : (b t : Bool) (end rest kept left : Ending) → (b ≡ true → t ≡ true) → EndingStays end end → EndingStays rest kept → EndingStays rest left
    → EndingStays (cond b end rest) (cond t (cond b end kept) left)
choose true true end rest kept left given itself inner outer = itself
choose true false end rest kept left given itself inner outer = absurd (let never : false ≡ true = given refl in cc)
choose false true end rest kept left given itself inner outer = inner
choose false false end rest kept left given itself inner outer = outer

-- the ending of an operation of the stripe, in the stripe's marks
ending_filtered : (g s : ℕ) (all : List Mark) (n : ℕ) → is_of_stripe g s (life_of all n) ≡ true → (marks : List Mark) (brick past early : ℕ)
    → EndingStays (ending_of marks n brick past) (ending_of (filter (concerns g s all) marks) n brick early)
ending_filtered g s all n own [] brick past early = tt
ending_filtered g s all n own (Begin p k b ask ∷ marks) brick past early =
    cond_both (nat_eq ask.group.0 g && nat_eq ask.stripe.0 s) (Begin p k b ask ∷ filter (concerns g s all) marks) (filter (concerns g s all) marks)
    (λ (x : List Mark). EndingStays (ending_of marks n brick (p + 1)) (ending_of x n brick early))
    (λ kept. ending_filtered g s all n own marks brick (p + 1) (p + 1))
    (λ left. ending_filtered g s all n own marks brick (p + 1) early)
ending_filtered g s all n own (End p k answer ∷ marks) brick past early =
    let rest : List Mark = filter (concerns g s all) marks in
    subst (λ (e : Ending). EndingStays (ending_of (End p k answer ∷ marks) n brick past) e)
    (sym (cond_ap (λ (x : List Mark). ending_of x n brick early) (is_of_stripe g s (life_of all k)) (End p k answer ∷ rest) rest))
    (choose (nat_eq k n) (is_of_stripe g s (life_of all k)) (Answered p answer) (ending_of marks n brick (p + 1)) (ending_of rest n brick (p + 1))
    (ending_of rest n brick early)
    (λ is. subst (λ (m : ℕ). is_of_stripe g s (life_of all m) ≡ true) (sym (eqb-true k n is)) own)
    refl (ending_filtered g s all n own marks brick (p + 1) (p + 1)) (ending_filtered g s all n own marks brick (p + 1) early))
ending_filtered g s all n own (Crash p b ∷ marks) brick past early =
    elim (nat_eq b.0 brick) as (λ t. EndingStays (cond t (Interrupted p) (ending_of marks n brick (p + 1)))
    (cond t (Interrupted p) (ending_of (filter (concerns g s all) marks) n brick (p + 1))))
    [ true ↦ refl | false ↦ ending_filtered g s all n own marks brick (p + 1) (p + 1) ]

-- a life that stays, at this operation in these marks
abbrev KeepsLife : List Mark → ℕ → Life → Type 0
KeepsLife marks n life = (l : Life) × (life_of marks n ≡ Some l) × LifeStays life l

keeps_begin : (p k n : ℕ) (mine : Life) (rest : List Mark) (b : _) (ask : Ask) (life : Life) → k ≢ n → KeepsLife rest n life
    → KeepsLife (Begin p k b ask ∷ rest) n life
keeps_begin p k n mine rest b ask life other keeps = (
  keeps.0,
  ap (λ (t : Bool). cond t (Some (record { begin = p; brick = b.0; ask = ask; ending = ending_of rest n b.0 (p + 1) })) (life_of rest n))
      (ne_eqb k n other) ∙ keeps.1,
  keeps.2,
)

-- the life of an operation of the stripe, in the stripe's marks
pub life_filtered : (g s : ℕ) (all : List Mark) (n : ℕ) → is_of_stripe g s (life_of all n) ≡ true → (marks : List Mark) (life : Life)
    → life_of marks n ≡ Some life → is_of_stripe g s (Some life) ≡ true
    → (l : Life) × (life_of (filter (concerns g s all) marks) n ≡ Some l) × LifeStays life l
life_filtered g s all n own [] life is of = absurd (none-some life is)
life_filtered g s all n own (Begin p k b ask ∷ marks) life is of =
    let rest : List Mark = filter (concerns g s all) marks in
    let full : Life = record { begin = p; brick = b.0; ask = ask; ending = ending_of marks n b.0 (p + 1) } in
    ⊎_elim
    (λ (here : (k ≡ n) × (full ≡ life)).
    let mine : Life = record { begin = p; brick = b.0; ask = ask; ending = ending_of rest n b.0 (p + 1) } in
    let kept : (nat_eq ask.group.0 g && nat_eq ask.stripe.0 s) ≡ true = ap (λ (l : Life). is_of_stripe g s (Some l)) here.1 ∙ of in
    let found : life_of (Begin p k b ask ∷ rest) n ≡ Some mine = ap (λ (t : Bool). cond t (Some mine) (life_of rest n)) (eq-eqb k n here.0) in
    let stays : LifeStays full mine = record {
      begin = refl;
      brick = refl;
      ask = refl;
      ending = ending_filtered g s all n own marks b.0 (p + 1) (p + 1);
    } in
    subst (λ (t : Bool). KeepsLife (cond t (Begin p k b ask ∷ rest) rest) n life) (sym kept)
    (subst (λ (l : Life). KeepsLife (Begin p k b ask ∷ rest) n l) here.1 (mine, found, stays)))
    (λ (there : (k ≢ n) × (life_of marks n ≡ Some life)).
    let keeps : KeepsLife rest n life = life_filtered g s all n own marks life there.1 of in
    cond_both (nat_eq ask.group.0 g && nat_eq ask.stripe.0 s) (Begin p k b ask ∷ rest) rest (λ (x : List Mark). KeepsLife x n life)
    (λ kept. keeps_begin p k n full rest b ask life there.0 keeps) (λ left. keeps))
    (begin_cases p k n full (life_of marks n) life is)
life_filtered g s all n own (End p k answer ∷ marks) life is of =
    let keeps : KeepsLife (filter (concerns g s all) marks) n life = life_filtered g s all n own marks life is of in
    cond_both (is_of_stripe g s (life_of all k)) (End p k answer ∷ filter (concerns g s all) marks) (filter (concerns g s all) marks)
    (λ (x : List Mark). KeepsLife x n life) (λ kept. keeps) (λ left. keeps)
life_filtered g s all n own (Crash p b ∷ marks) life is of = life_filtered g s all n own marks life is of

cond_none : {A : Type 0} (b : Bool) (x : A) (rest : Option A) → cond b (Some x) rest ≡ None → (b ≡ false) × (rest ≡ None)
cond_none true x rest h = absurd (none-some x (sym h))
cond_none false x rest h = (refl, h)

-- what has no life in the marks has none in some of them
pub none_filtered : (test : Mark → Bool) (marks : List Mark) (n : ℕ) → life_of marks n ≡ None → life_of (filter test marks) n ≡ None
none_filtered test [] n none = refl
none_filtered test (Begin p k b ask ∷ marks) n none =
    let parts = cond_none (nat_eq k n) (record { begin = p; brick = b.0; ask = ask; ending = ending_of marks n b.0 (p + 1) })
    (life_of marks n) none in
    let rest : life_of (filter test marks) n ≡ None = none_filtered test marks n parts.1 in
    cond_both (test (Begin p k b ask)) (Begin p k b ask ∷ filter test marks) (filter test marks) (λ (x : List Mark). life_of x n ≡ None)
    (λ kept. ap (λ (t : Bool). cond t (Some (record { begin = p; brick = b.0; ask = ask; ending = ending_of (filter test marks) n b.0 (p + 1) }))
    (life_of (filter test marks) n)) parts.0 ∙ rest)
    (λ left. rest)
none_filtered test (End p k answer ∷ marks) n none =
    let rest : life_of (filter test marks) n ≡ None = none_filtered test marks n none in
    cond_both (test (End p k answer)) (End p k answer ∷ filter test marks) (filter test marks) (λ (x : List Mark). life_of x n ≡ None) (λ kept. rest)
    (λ left. rest)
none_filtered test (Crash p b ∷ marks) n none =
    let rest : life_of (filter test marks) n ≡ None = none_filtered test marks n none in
    cond_both (test (Crash p b)) (Crash p b ∷ filter test marks) (filter test marks) (λ (x : List Mark). life_of x n ≡ None) (λ kept. rest)
    (λ left. rest)

-- an operation of another stripe has no life in the stripe's marks
pub others_filtered : (g s : ℕ) (all marks : List Mark) (a n : ℕ) (life : Life) → NumbersRise a marks → life_of marks n ≡ Some life
    → is_of_stripe g s (Some life) ≡ false → life_of (filter (concerns g s all) marks) n ≡ None
others_filtered g s all [] a n life rises is other = refl
others_filtered g s all (Begin p k b ask ∷ marks) a n life rises is other =
    let rest : List Mark = filter (concerns g s all) marks in
    let full : Life = record { begin = p; brick = b.0; ask = ask; ending = ending_of marks n b.0 (p + 1) } in
    ⊎_elim
    (λ (here : (k ≡ n) × (full ≡ life)).
    let left : (nat_eq ask.group.0 g && nat_eq ask.stripe.0 s) ≡ false = ap (λ (l : Life). is_of_stripe g s (Some l)) here.1 ∙ other in
    subst (λ (t : Bool). life_of (cond t (Begin p k b ask ∷ rest) rest) n ≡ None) (sym left)
    (NumbersRise-none rest k n (omega (arith, here.0)) (NumbersRise-filter (concerns g s all) marks k rises.1)))
    (λ (there : (k ≢ n) × (life_of marks n ≡ Some life)).
    let none : life_of rest n ≡ None = others_filtered g s all marks k n life rises.1 there.1 other in
    cond_both (nat_eq ask.group.0 g && nat_eq ask.stripe.0 s) (Begin p k b ask ∷ rest) rest (λ (x : List Mark). life_of x n ≡ None)
    (λ kept. ap (λ (t : Bool). cond t (Some (record { begin = p; brick = b.0; ask = ask; ending = ending_of rest n b.0 (p + 1) })) (life_of rest n))
    (ne_eqb k n there.0) ∙ none)
    (λ left. none))
    (begin_cases p k n full (life_of marks n) life is)
others_filtered g s all (End p k answer ∷ marks) a n life rises is other =
    let none : life_of (filter (concerns g s all) marks) n ≡ None = others_filtered g s all marks a n life rises is other in
    cond_both (is_of_stripe g s (life_of all k)) (End p k answer ∷ filter (concerns g s all) marks) (filter (concerns g s all) marks)
    (λ (x : List Mark). life_of x n ≡ None) (λ kept. none) (λ left. none)
others_filtered g s all (Crash p b ∷ marks) a n life rises is other = others_filtered g s all marks a n life rises is other

-- an element that a filter keeps, by its place i there: it stands in the list, and what is kept before it is what stands before it there
abbrev KeptAt : {A : Type 0} → (A → Bool) → List A → ℕ → A → List A → Type 0
KeptAt test xs i y kept = (j : ℕ) × (slice_get xs j ≡ Some y) × (take i kept ≡ filter test (take j xs)) × (test y ≡ true)

kept_first : {A : Type 0} (test : A → Bool) (x : A) (xs : List A)
    → ((i : ℕ) (y : A) → slice_get (filter test xs) i ≡ Some y → KeptAt test xs i y (filter test xs))
    → (i : ℕ) (y : A) (t : Bool) → test x ≡ t → slice_get (cond t (x ∷ filter test xs) (filter test xs)) i ≡ Some y
    → KeptAt test (x ∷ xs) i y (cond t (x ∷ filter test xs) (filter test xs))
kept_first test x xs rest zero y true is found = (0, found, refl, subst (λ z. test z ≡ true) (same_Some x y found) is)
kept_first test x xs rest (suc i) y true is found =
    let old : KeptAt test xs i y (filter test xs) = rest i y found in (
      suc old.0,
      old.1,
      ap (λ l. x ∷ l) old.2 ∙ sym (ap (λ (t : Bool). cond t (x ∷ filter test (take old.0 xs)) (filter test (take old.0 xs))) is),
      old.3,
    )
kept_first test x xs rest i y false is found =
    let old : KeptAt test xs i y (filter test xs) = rest i y found in (
      suc old.0,
      old.1,
      old.2 ∙ sym (ap (λ (t : Bool). cond t (x ∷ filter test (take old.0 xs)) (filter test (take old.0 xs))) is),
      old.3,
    )

pub filter_place : {A : Type 0} (test : A → Bool) (xs : List A) (i : ℕ) (y : A) → slice_get (filter test xs) i ≡ Some y
    → (j : ℕ) × (slice_get xs j ≡ Some y) × (take i (filter test xs) ≡ filter test (take j xs)) × (test y ≡ true)
filter_place test [] i y h = absurd (none-some y h)
filter_place test (x ∷ xs) i y h = kept_first test x xs (filter_place test xs) i y (test x) refl h

-- an open operation has a life
open_life : (life : Option Life) → IsOpen life → (l : Life) × (life ≡ Some l) × IsUnended l.ending
open_life None h = absurd h
open_life (Some l) h = (l, refl, h)

-- an operation of the stripe that is open after some marks is open after those of them that concern the stripe
open_filtered : (g s : ℕ) (marks : List Mark) (j n : ℕ) → is_of_stripe g s (life_of marks n) ≡ true → IsOpen (life_of (take j marks) n)
    → IsOpen (life_of (filter (concerns g s marks) (take j marks)) n)
open_filtered g s marks j n own open' =
    let life = open_life (life_of (take j marks) n) open' in
    let all : life_of marks n ≡ Some (with_ending life.0 (onward life.0.ending (drop j marks) n life.0.brick)) =
    ap (λ (l : List Mark). life_of l n) (sym (take-append-drop j marks)) ∙ life_of-append (take j marks) (drop j marks) n
    ∙ ap (λ (l : Option Life). life_onward l (drop j marks) n) life.1 in
    let of : is_of_stripe g s (Some life.0) ≡ true = sym (ap (λ (l : Option Life). is_of_stripe g s l) all) ∙ own in
    let kept = life_filtered g s marks n own (take j marks) life.0 life.1 of in
    subst (λ (l : Option Life). IsOpen l) (sym kept.1) (EndingStays-open life.0.ending kept.0.ending kept.2.ending life.2)

-- numbers that live are from 1
pub numbers_from_one : (marks : List Mark) → ((n : ℕ) (life : Life) → life_of marks n ≡ Some life → 1 ≤ n)
    → All (λ (x : ℕ). 0 < x) (begun_numbers marks)
numbers_from_one marks least k d lt =
    let one = begun_lives marks k lt in
    let low : 1 ≤ get_or (begun_numbers marks) k 0 = least (get_or (begun_numbers marks) k 0) one.0 one.1 in
    let same : get_or (begun_numbers marks) k d ≡ get_or (begun_numbers marks) k 0 = get_or_default (begun_numbers marks) k d 0 lt in
    omega arith

-- the marks of a stripe are well formed
pub well_formed_stripe : (g s : ℕ) (marks : List Mark) → IsWellFormed marks → All (λ (x : ℕ). 0 < x) (begun_numbers marks)
    → IsWellFormed (stripe_marks g s marks)
well_formed_stripe g s marks well low = record {
  positions_rise = increasing_positions (stripe_marks g s marks) 0
      (RisesFrom-filter (concerns g s marks) marks 0 (RisesFrom-increasing marks well.positions_rise));
  numbers_rise = increasing_numbers (stripe_marks g s marks) 0
      (NumbersRise-filter (concerns g s marks) marks 0 (NumbersRise-increasing marks low well.numbers_rise));
  ends_are_of_open = λ i p n answer is.
      (let place = filter_place (concerns g s marks) marks i (End p n answer) is in
      subst (λ (l : List Mark). IsOpen (life_of l n)) (sym place.2)
      (open_filtered g s marks place.0 n place.3 (well.ends_are_of_open place.0 p n answer place.1)));
}
