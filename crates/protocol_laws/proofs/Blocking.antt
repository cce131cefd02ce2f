-- What no quorum holds, or ever will: it stays so.
use Rattle.protocol.specs.Nodes.{view_at}
use Rattle.protocol.specs.Settings.{Setting}
use Rattle.std.proofs.Common.{◌≡◌, ℕ, zero, suc, ◌+◌, ◌-◌, ◌/◌, ◌<◌, ◌≤◌, ◌⊎◌, inl, inr, Bool, true, false, not, ◌&&◌, length, refl, sym, ap, ◌∙◌, ⊎_elim, arith, subst, nat_eq, nat_lt, ltb-true, ltb-false}
use Rattle.std.proofs.lemmas.Bool.{cases_Bool, or_left, and_from, and_parts, not-true, not_from_false, false≢true, cond_both}
use Rattle.fab_base.specs.declared.stamps.Stamp.{Stamp}
use Rattle.fab_base.specs.Stamps.{stamp_below, stamp_same, first_stamp}
use Rattle.fab_base.proofs.StampOrder.{stamp_not_below_trans, stamp_same_refl}
use Rattle.quorum.specs.Quorums.{count, one_if, both, IsWithinLimits}
use Rattle.quorum.proofs.Counts.{count_none, count_suc, count_both, count_monotone, count_empty}
use Rattle.fab_base.specs.Layouts.{Group}
use Rattle.quorum.specs.Quorums.{quorum_of}
use Rattle.protocol.specs.Replicas.{is_held, Replica}
use Rattle.protocol.specs.Worlds.{World, first_world}
use Rattle.protocol.specs.Views.{view_of}
use Rattle.fab_base.specs.Layouts.{brick_at}
use Rattle.protocol_laws.specs.Laws.{part_in, first_kept_in, AtQuorum, IsBlocked, NeverFalls, AddsNothingBelow, top_in, OrdersRise}
use Rattle.protocol_laws.proofs.Logs.{LogAscends, IsKept, below_above}

-- Logs ascend; what is in them was held; each brick has held the first version; and what was held, of a view whose versions a brick keeps, is in its log, or
-- was dropped from below all that that has.
pub record LogsFit (w : World) : Type 0 where
  pub ascends : (g e s i : ℕ) → LogAscends (part_in w g e s i).log
  pub held : (i g s : ℕ) (t : Stamp) → is_held t (part_in w g (view_of t) s i).log ≡ true → w.held i g s t ≡ true
  pub first : (i g s : ℕ) → w.held i g s first_stamp ≡ true
  pub kept : (i g s : ℕ) (t : Stamp) → first_kept_in w g i ≤ view_of t → w.held i g s t ≡ true → IsKept t (part_in w g (view_of t) s i).log

-- so they do in the first world
pub first_fits : (setting : Setting) → LogsFit (first_world setting.layout)
first_fits setting = record {
  ascends = λ g e s i. cond_both (nat_eq e 1) _ _ (λ (r : Replica). LogAscends r.log) (λ one. ((λ d held. absurd (false≢true held)), tt)) (λ other. tt);
  held = λ i g s t held. held;
  first = λ i g s. or_left (stamp_same first_stamp first_stamp) false (stamp_same_refl first_stamp);
  kept = λ i g s t within held. inl held;
}

-- what is in a part of a view was held, where it is of that view, and what was held is kept there
pub held_in : (w : World) → LogsFit w → (g e s i : ℕ) (t : Stamp) → view_of t ≡ e → is_held t (part_in w g e s i).log ≡ true
    → w.held i g s t ≡ true
held_in w fit g e s i t view held = fit.held i g s t (ap (λ (x : ℕ). is_held t (part_in w g x s i).log) view ∙ held)

pub was_kept : (w : World) → LogsFit w → (g e s i : ℕ) (t : Stamp) → first_kept_in w g i ≤ e → view_of t ≡ e → w.held i g s t ≡ true
    → IsKept t (part_in w g e s i).log
was_kept w fit g e s i t within view held =
    subst (λ (x : ℕ). IsKept t (part_in w g x s i).log) view (fit.kept i g s t (omega (arith, within, view)) held)

-- no brick learns a view before the one that it has learnt
abbrev pub ViewsRise : World → World → Type 0
ViewsRise w next = (i g : ℕ) → view_at (w.nodes i) g ≤ view_at (next.nodes i) g

-- no brick keeps the versions of a view that it keeps no more
abbrev pub FirstsRise : World → World → Type 0
FirstsRise w next = (i g : ℕ) → first_kept_in w g i ≤ first_kept_in next g i

-- From one world to the next no view and no part falls, what a log of a view that is kept kept it goes on keeping, what is new in it is at or above the part's
-- stamps, in a view that is not kept only the first version is new, and logs go on ascending.
pub record LogsStay (w next : World) : Type 0 where
  pub views : ViewsRise w next
  pub tops : NeverFalls w next
  pub orders : OrdersRise w next
  pub firsts : FirstsRise w next
  pub kept : (g e s i : ℕ) (t : Stamp) → first_kept_in next g i ≤ e → IsKept t (part_in w g e s i).log → IsKept t (part_in next g e s i).log
  pub newer : AddsNothingBelow w next
  pub again : (g e s i : ℕ) (t : Stamp) → e < first_kept_in next g i → is_held t (part_in next g e s i).log ≡ true
      → (is_held t (part_in w g e s i).log ≡ true) ⊎ (t ≡ first_stamp)
  pub ascends : (g e s i : ℕ) → LogAscends (part_in w g e s i).log → LogAscends (part_in next g e s i).log

-- what comes to be held in the next world is in its logs
abbrev pub NewIsLogged : World → World → Type 0
NewIsLogged w next =
    (i g s : ℕ) (t : Stamp) → next.held i g s t ≡ true → (w.held i g s t ≡ true) ⊎ (is_held t (part_in next g (view_of t) s i).log ≡ true)

-- no part falls, what bricks have held they have held, what they come to hold is at or above their parts' stamps, and logs go on fitting that
pub record PartsStay (w next : World) : Type 0 where
  pub views : ViewsRise w next
  pub firsts : FirstsRise w next
  pub tops : NeverFalls w next
  pub orders : OrdersRise w next
  pub held : (g s i : ℕ) (t : Stamp) → w.held i g s t ≡ true → next.held i g s t ≡ true
  pub newer : (g s i : ℕ) (t : Stamp) → next.held i g s t ≡ true
      → (w.held i g s t ≡ true) ⊎ (stamp_below t (top_in w g s i) ≡ false)
  pub adds : AddsNothingBelow w next
  pub logged : LogsFit next

-- a view is before another, or not
before_or_not : (e first : ℕ) → (e < first) ⊎ (first ≤ e)
before_or_not e first = cond_both (nat_lt e first) tt tt (λ (z : Unit {0}). (e < first) ⊎ (first ≤ e)) (λ less. inl (ltb-true e first less)) (λ isnt. inr (ltb-false e first isnt))

-- parts stay where logs do, and what is in them is noted as held
pub parts_from : (w next : World) → LogsStay w next → LogsFit w → ((i g s : ℕ) (t : Stamp) → w.held i g s t ≡ true → next.held i g s t ≡ true)
    → NewIsLogged w next → ((i g s : ℕ) (t : Stamp) → is_held t (part_in next g (view_of t) s i).log ≡ true → next.held i g s t ≡ true)
    → PartsStay w next
parts_from w next stay fit more new noted = record {
  views = stay.views;
  firsts = stay.firsts;
  tops = stay.tops;
  orders = stay.orders;
  held = λ g s i t held. more i g s t held;
  newer = λ g s i t held. ⊎_elim
      (λ (was : w.held i g s t ≡ true). inl was)
      (λ (logged : is_held t (part_in next g (view_of t) s i).log ≡ true). ⊎_elim
      (λ (before : view_of t < first_kept_in next g i). ⊎_elim
      (λ (old : is_held t (part_in w g (view_of t) s i).log ≡ true). inl (fit.held i g s t old))
      (λ (first : t ≡ first_stamp). inl (subst (λ (u : Stamp). w.held i g s u ≡ true) (sym first) (fit.first i g s)))
      (stay.again g (view_of t) s i t before logged))
      (λ (within : first_kept_in next g i ≤ view_of t). ⊎_elim
      (λ (old : is_held t (part_in w g (view_of t) s i).log ≡ true). inl (fit.held i g s t old))
      (λ (above : stamp_below t (top_in w g s i) ≡ false). inr above)
      (stay.newer g (view_of t) s i t within logged))
      (before_or_not (view_of t) (first_kept_in next g i)))
      (new i g s t held);
  adds = stay.newer;
  logged = record {
    ascends = λ g e s i. stay.ascends g e s i (fit.ascends g e s i);
    held = noted;
    first = λ i g s. more i g s first_stamp (fit.first i g s);
    kept = λ i g s t within held. ⊎_elim
        (λ (was : w.held i g s t ≡ true).
        let firsts = stay.firsts i g in
        stay.kept g (view_of t) s i t within (fit.kept i g s t (omega (arith, within, firsts)) was))
        (λ (logged : is_held t (part_in next g (view_of t) s i).log ≡ true). inl logged)
        (new i g s t held);
  };
}

-- and so through two steps
pub parts_then : (w mid next : World) → PartsStay w mid → PartsStay mid next → PartsStay w next
parts_then w mid next first second = record {
  views = λ i g. (let one = first.views i g in let two = second.views i g in omega (arith, one, two));
  firsts = λ i g. (let one = first.firsts i g in let two = second.firsts i g in omega (arith, one, two));
  tops = λ g s i. stamp_not_below_trans (top_in w g s i) (top_in mid g s i) (top_in next g s i)
      (first.tops g s i) (second.tops g s i);
  orders = λ g e s i within.
      (let rises = second.firsts i g in let one = first.orders g e s i (omega (arith, rises, within)) in let two = second.orders g e s i within in
      omega (arith, one, two));
  held = λ g s i t held. second.held g s i t (first.held g s i t held);
  newer = λ g s i t held. ⊎_elim
      (λ (was : mid.held i g s t ≡ true). first.newer g s i t was)
      (λ (new : stamp_below t (top_in mid g s i) ≡ false).
      inr (stamp_not_below_trans (top_in w g s i) (top_in mid g s i) t
      (first.tops g s i) new))
      (second.newer g s i t held);
  adds = λ g e s i t within held. ⊎_elim
      (λ (was : is_held t (part_in mid g e s i).log ≡ true). let rises = second.firsts i g in first.adds g e s i t (omega (arith, rises, within)) was)
      (λ (new : stamp_below t (top_in mid g s i) ≡ false).
      inr (stamp_not_below_trans (top_in w g s i) (top_in mid g s i) t (first.tops g s i) new))
      (second.adds g e s i t within held);
  logged = second.logged;
}

-- the part at a seat is above d, and does not hold it
abbrev pub passes_by : World → ℕ → ℕ → Group → Stamp → ℕ → Bool
passes_by w g s group d seat =
    stamp_below d (top_in w g s (brick_at group seat)) && not (w.held (brick_at group seat) g s d)

-- what a part above d does not hold, it never will
pub stays_unheld : (w next : World) → PartsStay w next → (g s i : ℕ) (d : Stamp) → stamp_below d (top_in w g s i) ≡ true
    → w.held i g s d ≡ false → next.held i g s d ≡ false
stays_unheld w next stay g s i d above isnt = ⊎_elim
    (λ (held : next.held i g s d ≡ true). ⊎_elim
    (λ (was : w.held i g s d ≡ true). absurd (false≢true (sym isnt ∙ was)))
    (λ (new : stamp_below d (top_in w g s i) ≡ false). absurd (false≢true (sym new ∙ above)))
    (stay.newer g s i d held))
    (λ (never : next.held i g s d ≡ false). never)
    (cases_Bool (next.held i g s d))

-- what is blocked stays blocked
pub blocked_stays : (w next : World) → PartsStay w next → (g s : ℕ) (group : Group) (d : Stamp) → IsBlocked w g s group d → IsBlocked next g s group d
blocked_stays w next stay g s group d blocked =
    let more = count_monotone (length group.members) (passes_by w g s group d) (passes_by next g s group d)
    (λ k below is.
    let parts = and_parts (stamp_below d (top_in w g s (brick_at group k))) (not (w.held (brick_at group k) g s d)) is in
    and_from (stamp_below d (top_in next g s (brick_at group k))) (not (next.held (brick_at group k) g s d))
    (below_above d (top_in w g s (brick_at group k)) (top_in next g s (brick_at group k)) parts.0
    (stay.tops g s (brick_at group k)))
    (not_from_false (next.held (brick_at group k) g s d)
    (stays_unheld w next stay g s (brick_at group k) d parts.0 (not-true (w.held (brick_at group k) g s d) parts.1)))) in
    omega (arith, blocked, more)

-- what a quorum holds, a quorum goes on holding
pub stands_stays : (w next : World) → PartsStay w next → (g s : ℕ) (group : Group) (d : Stamp)
    → AtQuorum group (λ seat. w.held (brick_at group seat) g s d)
    → AtQuorum group (λ seat. next.held (brick_at group seat) g s d)
stands_stays w next stay g s group d stands =
    let more = count_monotone (length group.members) (λ seat. w.held (brick_at group seat) g s d)
    (λ seat. next.held (brick_at group seat) g s d)
    (λ k below is. stay.held g s (brick_at group k) d is) in
    omega (arith, stands, more)

not_both : (a h : Bool) → ((a && not h) && h) ≡ false
not_both false h = refl
not_both true true = refl
not_both true false = refl

-- no quorum holds what is blocked
pub blocked_never_stands : (w : World) (g s : ℕ) (group : Group) (d : Stamp) → IsBlocked w g s group d
    → AtQuorum group (λ seat. w.held (brick_at group seat) g s d) → ⊥
blocked_never_stands w g s group d blocked stands =
    let held : ℕ → Bool = λ seat. w.held (brick_at group seat) g s d in
    let sum = count_both (length group.members) (passes_by w g s group d) held in
    let none = count_empty (length group.members) (both (passes_by w g s group d) held)
    (λ k below. not_both (stamp_below d (top_in w g s (brick_at group k))) (w.held (brick_at group k) g s d)) in
    absurd (omega (arith, blocked, stands, sum, none))

-- twice a quorum is all the seats, and m more
pub twice_quorum : (m n : ℕ) → m ≤ n → n + m ≤ (n - (n - m) / 2) + (n - (n - m) / 2)
twice_quorum m n most = omega arith

-- a stamp is blocked where so many seats pass it by that with m more they would be more than a quorum
pub blocked_by : (w : World) (g s : ℕ) (group : Group) (d : Stamp) → IsWithinLimits group.m (length group.members)
    → quorum_of group < count (length group.members) (passes_by w g s group d) + group.m → IsBlocked w g s group d
blocked_by w g s group d limits many =
    let twice = twice_quorum group.m (length group.members) limits.enough_seats in omega (arith, many, twice)

-- a part that is above a stamp, and does not hold it
pub passes : (w : World) (g s : ℕ) (group : Group) (d : Stamp) (seat : ℕ) → stamp_below d (top_in w g s (brick_at group seat)) ≡ true
    → w.held (brick_at group seat) g s d ≡ false → passes_by w g s group d seat ≡ true
passes w g s group d seat above isnt =
    and_from (stamp_below d (top_in w g s (brick_at group seat))) (not (w.held (brick_at group seat) g s d)) above
    (not_from_false (w.held (brick_at group seat) g s d) isnt)

cell_split : (a b : Bool) → one_if a ≤ one_if (a && b) + one_if (a && not b)
cell_split true true = omega arith
cell_split true false = omega arith
cell_split false b = omega arith

-- a set of seats is those of another set, and those that are not of it
pub count_split : (n : ℕ) (p r : ℕ → Bool) → count n p ≤ count n (both p r) + count n (λ k. p k && not (r k))
count_split zero p r = omega (arith, count_none p, count_none (both p r), count_none (λ k. p k && not (r k)))
count_split (suc n) p r =
    omega (arith, count_suc n p, count_suc n (both p r), count_suc n (λ k. p k && not (r k)), count_split n p r, cell_split (p n) (r n))
