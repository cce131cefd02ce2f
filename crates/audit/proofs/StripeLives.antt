-- The lives of a stripe's operations in its marks, by what is kept of all.
use Rattle.std.proofs.Common.{◌≡◌, ℕ, zero, suc, ◌+◌, ◌≤◌, Bool, true, false, cond, nat_eq, ◌&&◌, List, [], ◌∷◌, Option, Some, None, refl, sym, ap, ◌∙◌, arith}
use Rattle.std.specs.Prelude.{slice_get}
use Rattle.std.specs.Option.{option_map}
use Rattle.fab_base.specs.declared.asks.Ask.{Ask}
use Rattle.fab_base.specs.declared.answers.Answer.{Answer}
use Rattle.reg_model.specs.declared.marks.Mark.{Mark}
use Rattle.reg_model.specs.declared.marks.Mark.TheVariants.{Begin, End, Crash}
use Rattle.reg_model.specs.Marks.{Ending, Answered, Interrupted, Unended, ending_of, Life, life_of, is_of_stripe, concerns, stripe_marks}
use Rattle.reg_model.proofs.GrowingLives.{EndingStays}
use Rattle.reg_model.proofs.RisingMarks.{NumbersRise-increasing}
use Rattle.reg_model.proofs.StripeLives.{life_filtered, none_filtered, others_filtered, numbers_from_one}
use Rattle.fab_base.specs.Layouts.{Layout}
use Rattle.transcript.specs.declared.claims.ParsedMark.{ParsedMark}
use Rattle.audit.specs.declared.operations.Operation.{Operation}
use Rattle.audit.specs.Checks.{MarksHold}
use Rattle.audit.specs.Operations.{Index, ending_with, crash_after, life_in, Shows}
use Rattle.audit.specs.Walks.{of_stripe, life_among}
use Rattle.audit.specs.Lasts.{past_behind}
use Rattle.audit.proofs.Lists.{same_some}

-- one of two endings that is open is the second
one_of : (t : Bool) (first rest : Ending) (q past : ℕ) → (first ≡ Unended q → ⊥) → (rest ≡ Unended q → q ≡ past) → cond t first rest ≡ Unended q → q ≡ past
one_of true first rest q past never there is = absurd (never is)
one_of false first rest q past never there is = there is

answered_not : (p q : ℕ) (answer : Answer) → Answered p answer ≡ Unended q → ⊥
answered_not p q answer e = cc

interrupted_not : (p q : ℕ) → Interrupted p ≡ Unended q → ⊥
interrupted_not p q e = cc

-- an operation that is open may happen as late as one past the last mark
ending_past : (marks : List Mark) (n brick past q : ℕ) → ending_of marks n brick past ≡ Unended q → q ≡ past_behind past marks
ending_past [] n brick past q is = cc
ending_past (Begin p k b ask ∷ marks) n brick past q is = ending_past marks n brick (p + 1) q is
ending_past (End p k answer ∷ marks) n brick past q is =
    one_of (nat_eq k n) (Answered p answer) (ending_of marks n brick (p + 1)) q (past_behind (p + 1) marks) (answered_not p q answer)
    (λ e. ending_past marks n brick (p + 1) q e) is
ending_past (Crash p b ∷ marks) n brick past q is =
    one_of (nat_eq b.0 brick) (Interrupted p) (ending_of marks n brick (p + 1)) q (past_behind (p + 1) marks) (interrupted_not p q)
    (λ e. ending_past marks n brick (p + 1) q e) is

begun_past : (t : Bool) (mine : Life) (rest : Option Life) (life : Life) (q past : ℕ) → (mine ≡ life → q ≡ past) → (rest ≡ Some life → q ≡ past)
    → cond t (Some mine) rest ≡ Some life → q ≡ past
begun_past true mine rest life q past here there is = here (same_some mine life is)
begun_past false mine rest life q past here there is = there is

life_past : (marks : List Mark) (n past q : ℕ) (life : Life) → life_of marks n ≡ Some life → life.ending ≡ Unended q → q ≡ past_behind past marks
life_past [] n past q life is open' = absurd (let never : None ≡ Some life = is in cc)
life_past (Begin p k b ask ∷ marks) n past q life is open' =
    begun_past (nat_eq k n) (record { begin = p; brick = b.0; ask = ask; ending = ending_of marks n b.0 (p + 1) }) (life_of marks n) life q
    (past_behind (p + 1) marks) (λ e. ending_past marks n b.0 (p + 1) q (ap (λ (l : Life). l.ending) e ∙ open'))
    (λ e. life_past marks n (p + 1) q life e open') is
life_past (End p k answer ∷ marks) n past q life is open' = life_past marks n (p + 1) q life is open'
life_past (Crash p b ∷ marks) n past q life is open' = life_past marks n (p + 1) q life is open'

-- an ending that stays, but for how late an open operation may happen
ending_stays : (claims : List ParsedMark) (e c : Option ℕ) (i past : ℕ) (later : Ending) → EndingStays (ending_with claims e c i) later
    → ((q : ℕ) → later ≡ Unended q → q ≡ past) → later ≡ ending_with claims e c past
ending_stays claims (Some p) c i past later stays at = stays
ending_stays claims None (Some p) i past later stays at = stays
ending_stays claims None None i past (Answered p answer) stays at = absurd stays
ending_stays claims None None i past (Interrupted p) stays at = absurd stays
ending_stays claims None None i past (Unended q) stays at = ap Unended (at q refl)

life_same : (l m : Life) → l.begin ≡ m.begin → l.brick ≡ m.brick → l.ask ≡ m.ask → l.ending ≡ m.ending → l ≡ m
life_same l m a b c d =
    let first : ℕ → Life = λ x. record { begin = x; brick = l.brick; ask = l.ask; ending = l.ending } in
    let second : ℕ → Life = λ x. record { begin = m.begin; brick = x; ask = l.ask; ending = l.ending } in
    let third : Ask → Life = λ x. record { begin = m.begin; brick = m.brick; ask = x; ending = l.ending } in
    let fourth : Ending → Life = λ x. record { begin = m.begin; brick = m.brick; ask = m.ask; ending = x } in
    ap first a ∙ ap second b ∙ ap third c ∙ ap fourth d

-- an operation has a life from one on
from_one : (marks : List Mark) → life_of marks 0 ≡ None → (n : ℕ) (life : Life) → life_of marks n ≡ Some life → 1 ≤ n
from_one marks none zero life is = absurd (let never : None ≡ Some life = sym none ∙ is in cc)
from_one marks none (suc n) life is = omega arith

module _ (layout : Layout) (claims : List ParsedMark) (marks : List Mark) (i : ℕ) (index : Index) (g s : ℕ) (hold : MarksHold layout marks) (shows : Shows claims marks i index) where
  -- by whether an operation that was found is of the stripe
  found_life : (k : ℕ) (o : Operation) (t : Bool) → slice_get index.found k ≡ Some o → (nat_eq o.group g && nat_eq o.stripe s) ≡ t
      → option_map (life_in claims index.crashes (past_behind 0 (stripe_marks g s marks))) (cond t (Some o) None) ≡ life_of (stripe_marks g s marks) (suc k)
  found_life k o true is of =
      let life : Life = life_in claims index.crashes i o in
      let at : life_of marks (suc k) ≡ Some life = shows.lives (suc k) ∙ ap (option_map (life_in claims index.crashes i)) is in
      let own : is_of_stripe g s (life_of marks (suc k)) ≡ true = ap (is_of_stripe g s) at ∙ of in
      let kept = life_filtered g s marks (suc k) own marks life at of in
      let ending : kept.0.ending ≡ ending_with claims o.end (crash_after index.crashes o) (past_behind 0 (stripe_marks g s marks)) =
      ending_stays claims o.end (crash_after index.crashes o) i (past_behind 0 (stripe_marks g s marks)) kept.0.ending kept.2.ending
      (λ q open'. life_past (stripe_marks g s marks) (suc k) 0 q kept.0 kept.1 open') in
      ap (λ (l : Life). Some l)
      (sym (life_same kept.0 (life_in claims index.crashes (past_behind 0 (stripe_marks g s marks)) o) kept.2.begin kept.2.brick kept.2.ask ending)) ∙ sym kept.1
  found_life k o false is of =
      let life : Life = life_in claims index.crashes i o in
      let at : life_of marks (suc k) ≡ Some life = shows.lives (suc k) ∙ ap (option_map (life_in claims index.crashes i)) is in
      sym (others_filtered g s marks marks 0 (suc k) life
      (NumbersRise-increasing marks (numbers_from_one marks (from_one marks (shows.lives 0))) hold.well_formed.numbers_rise) at of)

  kept_life : (k : ℕ) (o : Option Operation) → slice_get index.found k ≡ o
      → option_map (life_in claims index.crashes (past_behind 0 (stripe_marks g s marks))) (of_stripe g s o) ≡ life_of (stripe_marks g s marks) (suc k)
  kept_life k None is =
      sym (none_filtered (concerns g s marks) marks (suc k) (shows.lives (suc k) ∙ ap (option_map (life_in claims index.crashes i)) is))
  kept_life k (Some o) is = found_life k o (nat_eq o.group g && nat_eq o.stripe s) is refl

  -- the lives that are looked at are those of the stripe's marks
  pub lives_are : (n : ℕ) → life_among claims index (past_behind 0 (stripe_marks g s marks)) g s n ≡ life_of (stripe_marks g s marks) n
  lives_are zero = sym (none_filtered (concerns g s marks) marks 0 (shows.lives 0))
  lives_are (suc k) = kept_life k (slice_get index.found k) refl
