-- The marks of a text, gone through once.
use Rattle.std.proofs.Common.{◌≡◌, ℕ, zero, suc, ◌+◌, ◌<◌, ◌≤◌, Bool, true, false, cond, List, [], ◌∷◌, ◌++◌, length, take, Option, Some, None, refl, sym, ap, ◌∙◌, subst, arith}
use Rattle.std.specs.Prelude.{slice_get}
use Rattle.fab_base.specs.Layouts.{Layout}
use Rattle.reg_model.specs.declared.marks.Mark.{Mark}
use Rattle.reg_model.specs.declared.marks.Mark.TheVariants.{Begin, End, Crash}
use Rattle.reg_model.specs.Marks.{Life, position_of, IsOpen, stripe_marks}
use Rattle.transcript.specs.declared.claims.ParsedMark.{ParsedMark}
use Rattle.transcript.specs.Marks.{mark_of, marks_of}
use Rattle.audit.specs.declared.lasts.LastMarks.{LastMarks}
use Rattle.audit.specs.Checks.{MarksHold}
use Rattle.audit.specs.Operations.{Index, IsFirst, after_claim, Shows}
use Rattle.audit.specs.Lasts.{past_behind, last_at, touches}
use Rattle.audit.specs.Reviews.{Reviewed}
use Rattle.audit.proofs.Lists.{same_some}
use Rattle.audit.proofs.Indexes.{shows_none}
use Rattle.audit.proofs.Steps.{Follows, marks_hold_none, marks_hold_more, marks_hold_at}
use Rattle.audit.proofs.Taking.{Takes, takes, refuses}
use Rattle.audit.proofs.LastLemmas.{last_push, touches_is}

-- the marks up to a place, and one more
marks_next : (claims : List ParsedMark) (i : ℕ) (claim : ParsedMark) → slice_get claims i ≡ Some claim
    → marks_of (take (suc i) claims) ≡ marks_of (take i claims) ++ mark_of claim ∷ []
marks_next [] i claim is = absurd (let never : None ≡ Some claim = is in cc)
marks_next (x ∷ claims) zero claim is = ap (λ (c : ParsedMark). mark_of c ∷ []) (same_some x claim is)
marks_next (x ∷ claims) (suc i) claim is = ap (λ l. mark_of x ∷ l) (marks_next claims i claim is)

marks_before : (claims : List ParsedMark) (i : ℕ) (claim : ParsedMark) → slice_get claims i ≡ Some claim → length (marks_of (take i claims)) ≡ i
marks_before [] i claim is = absurd (let never : None ≡ Some claim = is in cc)
marks_before (x ∷ claims) zero claim is = refl
marks_before (x ∷ claims) (suc i) claim is = let rest : length (marks_of (take i claims)) ≡ i = marks_before claims i claim is in omega arith

marks_at : (claims : List ParsedMark) (i : ℕ) (claim : ParsedMark) → slice_get claims i ≡ Some claim
    → (slice_get (marks_of claims) i ≡ Some (mark_of claim)) × (take i (marks_of claims) ≡ marks_of (take i claims))
marks_at [] i claim is = absurd (let never : None ≡ Some claim = is in cc)
marks_at (x ∷ claims) zero claim is = (ap (λ (c : ParsedMark). Some (mark_of c)) (same_some x claim is), refl)
marks_at (x ∷ claims) (suc i) claim is = let rest = marks_at claims i claim is in (rest.0, ap (λ l. mark_of x ∷ l) rest.1)

-- no mark
pub reviewed_none : (layout : Layout) (claims : List ParsedMark) (index : Index) (lasts : LastMarks) → IsFirst index layout.bricks
    → ((g s : ℕ) → last_at lasts g s ≡ 0) → Reviewed layout claims 0 index lasts
reviewed_none layout claims index lasts first none = record {
  hold = marks_hold_none layout;
  shows = shows_none claims index first.0;
  bricks = first.1;
  lasts_are = λ g s. sym (none g s);
  low = λ g s. (let zero_here : last_at lasts g s ≡ 0 = none g s in omega arith);
}

-- an End that follows is of an operation from one on
one_on : (layout : Layout) (claims : List ParsedMark) (marks : List Mark) (i : ℕ) (index : Index) (mark : Mark) → Shows claims marks i index
    → Follows layout marks mark → (p n : ℕ) (answer : _) → mark ≡ End p n answer → 0 < n
one_on layout claims marks i index (Begin q m b ask) shows follows p n answer is = absurd (never is)
  where
    never : Begin q m b ask ≡ End p n answer → ⊥
    never e = cc
one_on layout claims marks i index (End q zero given) shows follows p n answer is =
    absurd (subst (λ (l : Option Life). IsOpen l) (shows.lives 0) follows.0)
one_on layout claims marks i index (End q (suc m) given) shows follows p n answer is =
    subst (λ (k : ℕ). 0 < k) (number is) (omega arith)
  where
    number : End q (suc m) given ≡ End p n answer → suc m ≡ n
    number e = cc
one_on layout claims marks i index (Crash q b) shows follows p n answer is = absurd (never is)
  where
    never : Crash q b ≡ End p n answer → ⊥
    never e = cc

chosen_low : (t : Bool) (i past : ℕ) → past ≤ i → cond t (i + 1) past ≤ i + 1
chosen_low true i past low = omega arith
chosen_low false i past low = omega arith

-- one mark more
pub reviewed_more : (layout : Layout) (claims : List ParsedMark) (i : ℕ) (index later : Index) (lasts lasts_later : LastMarks) (claim : ParsedMark)
    → Reviewed layout claims i index lasts → slice_get claims i ≡ Some claim → after_claim layout claims index i claim ≡ Some later
    → ((g s : ℕ) → last_at lasts_later g s ≡ cond (touches later.found claim g s) (i + 1) (last_at lasts g s))
    → Reviewed layout claims (i + 1) later lasts_later
reviewed_more layout claims i index later lasts lasts_later claim so_far at is last =
    subst (λ (k : ℕ). Reviewed layout claims k later lasts_later) (omega arith) (record {
      hold = subst (λ (l : List Mark). MarksHold layout l) (sym next)
          (marks_hold_more layout marks (mark_of claim) so_far.hold (taken.place ∙ sym (marks_before claims i claim at)) taken.follows);
      shows = subst (λ (k : ℕ). Shows claims (marks_of (take (suc i) claims)) k later) (omega arith)
          (subst (λ (l : List Mark). Shows claims l (i + 1) later) (sym next) taken.shows);
      bricks = taken.bricks;
      lasts_are = λ g s.
          ap (λ (l : List Mark). past_behind 0 (stripe_marks g s l)) next ∙ last_push layout g s marks (mark_of claim) so_far.hold
          ∙ ap (λ (t : Bool). cond t (position_of (mark_of claim) + 1) (past_behind 0 (stripe_marks g s marks)))
          (sym (touches_is claims marks (i + 1) later claim g s taken.shows
          (one_on layout claims marks i index (mark_of claim) so_far.shows taken.follows)))
          ∙ ap (λ (p : ℕ). cond (touches later.found claim g s) (p + 1) (past_behind 0 (stripe_marks g s marks))) taken.place
          ∙ ap (λ (p : ℕ). cond (touches later.found claim g s) (i + 1) p) (so_far.lasts_are g s) ∙ sym (last g s);
      low = λ g s. (let chosen : cond (touches later.found claim g s) (i + 1) (last_at lasts g s) ≤ i + 1 =
          chosen_low (touches later.found claim g s) i (last_at lasts g s) (so_far.low g s) in
          subst (λ (p : ℕ). p ≤ suc i) (sym (last g s)) (omega arith));
    })
  where
    marks : List Mark
    marks = marks_of (take i claims)

    taken : Takes layout claims marks i claim later
    taken = takes layout claims marks i index later claim so_far.shows so_far.bricks at is

    next : marks_of (take (suc i) claims) ≡ marks ++ mark_of claim ∷ []
    next = marks_next claims i claim at

-- marks of which one was refused do not hold
pub refused : (layout : Layout) (claims : List ParsedMark) (i : ℕ) (index : Index) (lasts : LastMarks) (claim : ParsedMark)
    → Reviewed layout claims i index lasts → slice_get claims i ≡ Some claim → after_claim layout claims index i claim ≡ None
    → MarksHold layout (marks_of claims) → ⊥
refused layout claims i index lasts claim so_far at is hold =
    let here = marks_at claims i claim at in
    let follows = marks_hold_at layout (marks_of claims) i (mark_of claim) hold here.0 in
    refuses layout claims (marks_of (take i claims)) i index claim so_far.shows is follows.0
    (subst (λ (l : List Mark). Follows layout l (mark_of claim)) here.1 follows.1)
