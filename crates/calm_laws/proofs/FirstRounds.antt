-- The first round of ordering: where a member refuses, the second round has a stamp above all that the quorum's members have come to.
use Rattle.std.proofs.Common.{Bool, List, None, Some, [], ap, arith, cond, false, map, refl, subst, sym, true, ℕ, ⊎_elim, ◌<◌, ◌∙◌, ◌∷◌, ◌≡◌, ◌≤◌}
use Rattle.std.proofs.lemmas.Bool.{cases_Bool, cond_both}
use Rattle.std.proofs.lemmas.Bool.Decides.{nat_tests}
use Rattle.std.specs.Prelude.{nat_lt, ◌-◌, ◌^◌}
use Rattle.calm_laws.proofs.Asking.{Holds, each_then}
use Rattle.calm_laws.proofs.Counts.{Carries, counted_of, fresh_at, told}
use Rattle.calm_laws.proofs.Descending.{IsSet, after_replies, having}
use Rattle.calm_laws.proofs.Hearing.{known_through}
use Rattle.protocol_laws.proofs.Logs.{LogAscends}
use Rattle.calm_laws.proofs.OrderRuns.{IsOrdering, IsUnheld, at_most_below, ordering_run, unheld_above}
use Rattle.calm_laws.proofs.Ordering.{TameWith}
use Rattle.calm_laws.proofs.PhaseRuns.{Cast, IsOpen, known_then, next_open}
use Rattle.calm_laws.proofs.Rooms.{Room}
use Rattle.calm_laws.proofs.Rounds.{IsMixed, MixedWith, mixed_reply, through_least, through_most, through_told, told_time}
use Rattle.calm_laws.proofs.Scenes.{Closes, Each, Part, Scene, Seated, Stage, sent, view_ahead}
use Rattle.fab_base.proofs.StampOrder.{stamp_below_asym}
use Rattle.fab_base.specs.Stamps.{first_stamp, stamp_below, stamp_same}
use Rattle.fab_base.specs.declared.stamps.Stamp.{Stamp}
use Rattle.messages.specs.declared.replies.Reply.{Reply}
use Rattle.messages.specs.declared.replies.Reply.TheVariants.{Later}
use Rattle.messages.specs.declared.requests.Version.{Version}
use Rattle.protocol.specs.Calms.{early}
use Rattle.protocol.specs.Coordinators.{Coordinator, Next, Sends, aborted_by, most_rounds, ordered_again, reordering}
use Rattle.protocol.specs.Nodes.{has_later_time, new_stamp}
use Rattle.protocol.specs.Replicas.{is_held, top_of}
use Rattle.protocol.specs.declared.phases.Counted.{Counted}
use Rattle.protocol.specs.declared.phases.Refuser.{Refuser}

-- a stamp of no later view than this, of this time at most
pub record IsLow (e b : ℕ) (t : Stamp) : Type 0 where
  pub view : t.view.0 ≤ e
  pub time : t.time ≤ b

-- it is below a later one of that view
pub low_below : (e b : ℕ) (x t : Stamp) → IsLow e b x → t.view.0 ≡ e → b < t.time → stamp_below x t ≡ true
unfolding stamp_below
low_below e b x t low view later = let l = low.view in let m = low.time in grind (arith, nat_tests, l, m)

-- a stamp of a view is not the first one
pub not_first : (t : Stamp) → 1 ≤ t.view.0 → stamp_same t first_stamp ≡ false
unfolding stamp_same
not_first t view = grind (arith, nat_tests)

-- A first round: its stamp is known; the clock and the members of the quorum know early times only, and have room; and nothing that waits tells a time.
pub record IsFirst (stage : Stage) (cast : Cast stage) (logs : ℕ → List Version) (s : Scene) : Type 0 where
  pub open_is : IsOpen stage cast s
  pub quiet : known_through open_is.stale s.known ≡ s.known
  pub round : s.c.round ≡ 1
  pub from_one : 1 ≤ s.c.stamp.view.0
  pub stamp_known : s.c.stamp.time ≤ s.known
  pub known_early : s.known ≤ early
  pub starts : Each (λ x. ((s.parts x.brick.0).replica.log ≡ logs x.brick.0) × Room stage (s.parts x.brick.0)
      × IsLow s.c.stamp.view.0 early (top_of (s.parts x.brick.0).replica)) cast.xs
  pub ascends : Each (λ x. LogAscends (logs x.brick.0)) cast.xs

-- the stamp of the second round, where so much is known
abbrev pub second_stamp : Stage → Coordinator → ℕ → Stamp
second_stamp stage c known = new_stamp stage.me c.stamp.view stage.now c.call.boot known

-- a time is left
time_left : (known : ℕ) → known ≤ early → has_later_time known ≡ true
time_left known low = grind (arith, nat_tests)

-- the second round begins, at tame parts, with a stamp that none holds
abbrev pub Again : (stage : Stage) (cast : Cast stage) → (ℕ → List Version) → Scene → List Seated → Type 0
Again stage cast logs s others =
    (before parts : ℕ → Part) (known : ℕ) (counted : List Counted) → s.known ≤ known
    → IsSet stage cast logs (sent stage (after_replies stage s known parts others before) (reordering (having s.c counted) (second_stamp stage s.c known)))
    → IsUnheld logs (second_stamp stage s.c known) cast.xs
    → Closes stage (sent stage (after_replies stage s known parts others before) (reordering (having s.c counted) (second_stamp stage s.c known)))

module _ (stage : Stage) (cast : Cast stage) (logs : ℕ → List Version) (s : Scene) (answer : Seated → List Version → Reply)
    (goes : List Counted → Next) (ordering : IsOrdering stage cast logs s answer goes) (first : IsFirst stage cast logs s)
    (early_phase : s.c.call.phase < 2 ^ 32 - 1) where
  abbrev tops : ℕ → Stamp
  tops i = top_of (s.parts i).replica

  abbrev f : Seated → Reply
  f = mixed_reply s.c.stamp tops logs answer

  abbrev known : ℕ
  known = known_then stage s f cast.xs first.open_is.stale

  -- what is known grows, stays early, and is at least each later time that was told
  known_grows : s.known ≤ known
  known_grows = subst (λ (k : ℕ). k ≤ known) first.quiet (through_least stage s.c.call f cast.xs (known_through first.open_is.stale s.known))

  told_early : (x : Seated) → ((y : Seated) (log : List Version) → told_time (answer y log) ≡ 0) → IsLow s.c.stamp.view.0 early (tops x.brick.0) → told_time (f x) ≤ early
  told_early x silent low =
      cond_both (stamp_below s.c.stamp (tops x.brick.0)) (Later (tops x.brick.0)) (answer x (logs x.brick.0)) (λ (r : Reply). told_time r ≤ early)
      (λ above. low.time) (λ tame. let none = silent x (logs x.brick.0) in omega (arith, none))

  known_stays : ((y : Seated) (log : List Version) → told_time (answer y log) ≡ 0) → known ≤ early
  known_stays silent =
      through_most stage s.c.call f early cast.xs (known_through first.open_is.stale s.known)
      (subst (λ (k : ℕ). k ≤ early) (sym first.quiet) first.known_early)
      (each_then (λ (x : Seated). ((s.parts x.brick.0).replica.log ≡ logs x.brick.0) × Room stage (s.parts x.brick.0)
      × IsLow s.c.stamp.view.0 early (top_of (s.parts x.brick.0).replica)) (λ (x : Seated). told_time (f x) ≤ early) cast.xs
      (λ x start. told_early x silent start.2) first.starts)

  -- the second stamp is above what a member has come to
  second_above : (x : Seated) (part : Part) → IsMixed stage s.c.stamp (tops x.brick.0) (logs x.brick.0) part → IsLow s.c.stamp.view.0 early (tops x.brick.0)
      → told_time (f x) ≤ known → stamp_below (top_of part.replica) (second_stamp stage s.c known) ≡ true
  second_above x part mixed low told = ⊎_elim
      (λ (above : stamp_below s.c.stamp (tops x.brick.0) ≡ true).
      let time : (tops x.brick.0).time ≤ known
      = subst (λ (b : Bool). told_time (cond b (Later (tops x.brick.0)) (answer x (logs x.brick.0))) ≤ known) above told in
      let view = low.view in
      subst (λ (z : Stamp). stamp_below z (second_stamp stage s.c known) ≡ true) (sym (mixed.kept above))
      (low_below s.c.stamp.view.0 known (tops x.brick.0) (second_stamp stage s.c known) (record { view = view; time = time }) refl (omega arith)))
      (λ (tame : stamp_below s.c.stamp (tops x.brick.0) ≡ false).
      let time = first.stamp_known in
      let grows = known_grows in
      at_most_below (top_of part.replica) s.c.stamp (second_stamp stage s.c known) (mixed.same ∙ tame)
      (low_below s.c.stamp.view.0 known s.c.stamp (second_stamp stage s.c known) (record { view = omega arith; time = omega (arith, time, grows) })
      refl (omega arith)))
      (cases_Bool (stamp_below s.c.stamp (tops x.brick.0)))

  -- so the second round finds all tame
  second_set : (parts : ℕ → Part) (ys : List Seated) → Holds (MixedWith stage s.c.stamp tops logs) parts ys
      → Each (λ x. ((s.parts x.brick.0).replica.log ≡ logs x.brick.0) × Room stage (s.parts x.brick.0)
      × IsLow s.c.stamp.view.0 early (top_of (s.parts x.brick.0).replica)) ys
      → Each (λ x. LogAscends (logs x.brick.0)) ys → Each (λ x. told_time (f x) ≤ known) ys
      → Holds (TameWith stage (second_stamp stage s.c known) logs) parts ys × IsUnheld logs (second_stamp stage s.c known) ys
  second_set parts [] mixed starts ascends told = (tt, tt)
  second_set parts (y ∷ ys) mixed starts ascends told =
      let above : stamp_below (top_of (parts y.brick.0).replica) (second_stamp stage s.c known) ≡ true
      = second_above y (parts y.brick.0) mixed.0 starts.0.2 told.0 in
      let rest = second_set parts ys mixed.1 starts.1 ascends.1 told.1 in (
        (
          record {
            log_is = mixed.0.log_is;
            tame = stamp_below_asym (top_of (parts y.brick.0).replica) (second_stamp stage s.c known) above;
            room = mixed.0.room;
          },
          rest.0,
        ),
        (
          subst (λ (l : List Version). is_held (second_stamp stage s.c known) l ≡ false) mixed.0.log_is
              (unheld_above (parts y.brick.0).replica (second_stamp stage s.c known)
              (subst (λ (l : List Version). LogAscends l) (sym mixed.0.log_is) ascends.0) above),
          rest.1,
        ),
      )

  -- a first round closes, where it goes on well, and the second round does
  pub ordering_first : ((y : Seated) (log : List Version) → told_time (answer y log) ≡ 0)
      → ((before parts : ℕ → Part) (known : ℕ) → Holds (TameWith stage s.c.stamp logs) parts cast.xs
      → Carries stage (after_replies stage s known parts first.open_is.others before) (goes (map (counted_of (λ x. answer x (logs x.brick.0))) cast.xs)))
      → Again stage cast logs s first.open_is.others → Closes stage s
  ordering_first silent accepted again =
      ordering_run stage cast logs s answer goes ordering first.open_is early_phase (not_first s.c.stamp first.from_one) tops
      (each_then (λ (x : Seated). ((s.parts x.brick.0).replica.log ≡ logs x.brick.0) × Room stage (s.parts x.brick.0)
      × IsLow s.c.stamp.view.0 early (top_of (s.parts x.brick.0).replica))
      (λ (x : Seated). MixedWith stage s.c.stamp tops logs x.brick.0 (s.parts x.brick.0)) cast.xs
      (λ x start. record { log_is = start.0; room = start.1; same = refl; kept = λ above. refl }) first.starts)
      accepted
      (λ before parts r mixed is.
      subst (λ (z : Next). Carries stage (after_replies stage s known parts first.open_is.others before) z) (sym (tried r)) (
        record { group = refl; prior = refl; only = refl; boot = refl; seq = refl; of_group = refl; view = refl; stripe = refl },
        second before parts (second_set parts cast.xs mixed first.starts first.ascends
            (through_told stage s.c.call f cast.xs (known_through first.open_is.stale s.known))),
      ))
    where
      counted : List Counted
      counted = map (counted_of f) cast.xs

      tried : (r : Refuser) → ordered_again (fresh_at stage s.c known) (having s.c counted) r
          ≡ Sends (reordering (having s.c counted) (second_stamp stage s.c known))
      tried r =
          ap (λ (b : Bool). ordered_again (cond b (Some (second_stamp stage s.c known)) None) (having s.c counted) r) (time_left known (known_stays silent))
          ∙ ap (λ (n : ℕ). cond (nat_lt n most_rounds) (Sends (reordering (having s.c counted) (second_stamp stage s.c known))) (aborted_by r)) first.round

      second : (before parts : ℕ → Part)
          → Holds (TameWith stage (second_stamp stage s.c known) logs) parts cast.xs × IsUnheld logs (second_stamp stage s.c known) cast.xs
          → Closes stage (sent stage (after_replies stage s known parts first.open_is.others before)
          (reordering (having s.c counted) (second_stamp stage s.c known)))
      second before parts tame =
          again before parts known counted known_grows
          (record {
            open_is = next_open stage cast s.c (reordering (having s.c counted) (second_stamp stage s.c known)) first.open_is.others before
                (sent stage (after_replies stage s known parts first.open_is.others before) (reordering (having s.c counted) (second_stamp stage s.c known)))
                first.open_is.in_view
                (record {
                  same = record { group = refl; prior = refl; only = refl; boot = refl; seq = refl; of_group = refl; view = refl; stripe = refl };
                  ahead = first.open_is.in_view.ahead;
                  own = view_ahead s.c.stamp s.c.phase first.open_is.in_view.ahead;
                  later = refl;
                  counted = refl;
                })
                refl refl;
            tame = tame.0;
            later = not_first (second_stamp stage s.c known) first.from_one;
          })
          tame.1
