-- A scrub that runs alone ends, clean or repaired.
use Rattle.std.proofs.Common.{◌≡◌, ◌≢◌, ℕ, suc, ◌+◌, ◌<◌, ◌≤◌, ◌⊎◌, inl, inr, ⊎_elim, true, not, nat_lt, List, [], ◌∷◌, ◌++◌, length, length-append, Option, Some, None, refl, sym, ap, ◌∙◌, subst, arith}
use Rattle.std.specs.Prelude.{filter, is_some, slice_get}
use Rattle.std.specs.List.{list_all}
use Rattle.std.specs.Option.{option_map}
use Rattle.std.proofs.lemmas.Bool.{and_parts, cases_eq, cases_lt, cond-true, false≢true, lt-ltb}
use Rattle.std.proofs.lemmas.Option.{same_Some, slice_get-map}
use Rattle.fab_base.specs.declared.asks.Ask.{Ask}
use Rattle.fab_base.specs.declared.identities.BrickId.{BrickId}
use Rattle.fab_base.specs.declared.identities.GroupId.{GroupId}
use Rattle.fab_base.specs.declared.identities.StripeNo.{StripeNo}
use Rattle.fab_base.specs.Layouts.{Group, group_of, seat_in}
use Rattle.quorum.specs.Memberships.{are_distinct}
use Rattle.quorum.specs.Quorums.{quorum_of}
use Rattle.messages.specs.declared.calls.Call.{Call}
use Rattle.messages.specs.declared.packets.Packet.{Packet}
use Rattle.protocol.specs.declared.tellings.Report.{Report}
use Rattle.protocol.specs.declared.tellings.ScrubAnswer.{ScrubAnswer}
use Rattle.protocol.specs.Settings.{IsSound, Setting}
use Rattle.protocol.specs.Calms.{Ended, IsCalm, RunsAlone, Stuck, members_among}
use Rattle.protocol.specs.Calms.{Next as Goes_on}
use Rattle.protocol.specs.Coordinators.{Coordinator}
use Rattle.protocol.specs.Nodes.{Node, NodeStep, begun_aside, members_alone, put, scrub_coordinator, scrubbed_at, scrubbed_in, scrubbing}
use Rattle.protocol.specs.Scrubs.{scrub_ask}
use Rattle.protocol.specs.Views.{Views, kept_by, views_in}
use Rattle.protocol.specs.Worlds.{Delivers, Event, Operation, Scrubs, World, first_world, happens, may_scrub, reports_of, run, world_stepped}
use Rattle.protocol.proofs.Events.{handled_or_not, onward, run-append, step_on, world_handled}
use Rattle.protocol.proofs.Puts.{put_other}
use Rattle.protocol.proofs.Tables.{get_kept, put_same}
use Rattle.protocol_laws.specs.ScrubEnds.{cause_of}
use Rattle.protocol_laws.proofs.Books.{Books, CallBooks, OperationBooks}
use Rattle.protocol_laws.proofs.BooksEvents.{ScrubFits, books, brick_of, scrub_fits}
use Rattle.protocol_laws.proofs.Outcomes.{SameOperation}
use Rattle.protocol_laws.proofs.Tries.{ScrubEnded, Tried}
use Rattle.protocol_laws.proofs.TriesEvents.{always_tried}
use Rattle.view_laws.proofs.Followed.{every_run_follows}
use Rattle.view_laws.proofs.Histories.{kept_is}
use Rattle.calm_laws.specs.Laws.{EncodesBlocks, HasStripe, most_records}
use Rattle.calm_laws.specs.Logs.{is_stripe}
use Rattle.calm_laws.specs.LoneScrubs.{AreAlone, EndedWell, HasNext, ScrubsEndAlone}
use Rattle.calm_laws.proofs.Calmness.{finishes}
use Rattle.calm_laws.proofs.Discharge.{known_of}
use Rattle.calm_laws.proofs.Finishing.{runs_to}
use Rattle.calm_laws.proofs.Fresh.{IsOpenAt, opens_at}
use Rattle.calm_laws.proofs.OpenScrubs.{IsCallLike, IsReported, IsScrubbing, ScrubsOn, received_on}

-- ---- the scrub is open, until it is reported

-- since so many reports its brick has reported the end of the scrub
abbrev HasReported : BrickId → Coordinator → ℕ → World → Type 0
HasReported me first since w =
    (place : ℕ) × (since ≤ place) × (call : Call) × (answer : ScrubAnswer)
    × (slice_get w.choices.reports place ≡ Some (me, Report.Scrub call (members_alone first.only) answer)) × IsCallLike first call

-- there are so many reports, and the scrub is open, or reported since
abbrev IsUnderway : BrickId → Coordinator → ℕ → World → Type 0
IsUnderway me first since w =
    (since ≤ length w.choices.reports) × (IsScrubbing first (w.nodes me.0) ⊎ HasReported me first since w)

-- an added element stands behind the old ones
get_behind : {A : Type 0} (xs ys : List A) (k : ℕ) (x : A) → slice_get ys k ≡ Some x
    → (j : ℕ) × (length xs ≤ j) × (slice_get (xs ++ ys) j ≡ Some x)
get_behind [] ys k x is = (k, omega arith, is)
get_behind (y ∷ xs) ys k x is = let rest = get_behind xs ys k x is in let behind = rest.1 in (suc rest.0, omega (arith, behind), rest.2)

module _ (setting : Setting) (me : BrickId) (first : Coordinator) (since : ℕ) where
  -- a message is handled
  handled_on : (w : World) → Books setting w → IsUnderway me first since w → (number : ℕ) (packet : Packet)
      → IsUnderway me first since (world_handled setting w number packet)
  handled_on w books now number packet = (
    (let was = now.0 in
        let long : length (w.choices.reports ++ reports_of packet.to step.reports) ≡ length w.choices.reports + length (reports_of packet.to step.reports)
        = length-append w.choices.reports (reports_of packet.to step.reports) in
        omega (arith, was, long)),
    ⊎_elim
        (λ (scrubs : IsScrubbing first (w.nodes me.0)). ⊎_elim (here scrubs) (elsewhere scrubs) (cases_eq me.0 packet.to.0))
        (λ (was : HasReported me first since w).
        inr (was.0, was.1, was.2, was.3, get_kept w.choices.reports (reports_of packet.to step.reports) was.0 _ was.4, was.5))
        now.1,
  )
    where
      step : NodeStep
      step = step_on setting w packet

      next : World
      next = world_handled setting w number packet

      elsewhere : IsScrubbing first (w.nodes me.0) → me.0 ≢ packet.to.0 → IsScrubbing first (next.nodes me.0) ⊎ HasReported me first since next
      elsewhere scrubs other = inl (subst (λ (n : Node). IsScrubbing first n) (sym (put_other w.nodes packet.to.0 step.node me.0 other)) scrubs)

      here : IsScrubbing first (w.nodes me.0) → me.0 ≡ packet.to.0 → IsScrubbing first (next.nodes me.0) ⊎ HasReported me first since next
      here scrubs same = ⊎_elim
          (λ (still : IsScrubbing first step.node).
          inl (subst (λ (i : ℕ). IsScrubbing first (put w.nodes packet.to.0 step.node i)) (sym same)
          (subst (λ (n : Node). IsScrubbing first n) (sym (put_same w.nodes packet.to.0 step.node)) still)))
          (λ (ended : IsReported first step.reports).
          let report : Report = Report.Scrub ended.1 (members_alone first.only) ended.2 in
          let at : slice_get (reports_of packet.to step.reports) ended.0 ≡ Some (me, report)
          = slice_get-map (λ (r : Report). (packet.to, r)) step.reports ended.0
          ∙ ap (option_map (λ (r : Report). (packet.to, r))) ended.3
          ∙ ap (λ (b : BrickId). Some (b, report)) (sym (brick_of me packet.to same)) in
          let place = get_behind w.choices.reports (reports_of packet.to step.reports) ended.0 (me, report) at in
          let was = now.0 in
          let behind = place.1 in
          inr (place.0, omega (arith, was, behind), ended.1, ended.2, place.2, ended.4))
          on
        where
          node : Node
          node = w.nodes packet.to.0

          scrubs_there : IsScrubbing first node
          scrubs_there = subst (λ (i : ℕ). IsScrubbing first (w.nodes i)) same scrubs

          -- an open call is none of a later number
          within : first.call.seq ≤ node.seq
          within = ⊎_elim
              (λ (later : node.seq < first.call.seq).
              absurd (let never : None ≡ Some scrubs_there.2.0 = sym (books.fresh_calls packet.to.0 first.call.seq later) ∙ scrubs_there.2.1 in cc))
              (λ (most : first.call.seq ≤ node.seq). most)
              (cases_lt node.seq first.call.seq)

          on : ScrubsOn first step
          on =
              received_on setting packet.to (w.clocks packet.to.0) first node scrubs_there within (books.apart packet.to.0)
              (λ k c is. (books.calls packet.to.0 k c is).call_seq) packet.from packet.to packet.message

  -- the deliveries of an operation alone
  alone_on : (n : ℕ) (bricks : List BrickId) (events : List Event) (w : World) → AreAlone setting w n bricks events
      → ((more : List Event) → Books setting (run setting more w)) → IsUnderway me first since w → IsUnderway me first since (run setting events w)
  alone_on n bricks [] w alone booked now = now
  alone_on n bricks (Delivers number ∷ events) w alone booked now =
      alone_on n bricks events (happens setting w (Delivers number)) alone.1 (λ more. booked (Delivers number ∷ more))
      (handled_or_not (IsUnderway me first since) setting w now number (λ packet at up. handled_on w (booked []) now number packet))
  alone_on n bricks (event ∷ events) w alone booked now = absurd alone

-- what was reported stays
alone_keeps : (setting : Setting) (n : ℕ) (bricks : List BrickId) (events : List Event) (w : World) → AreAlone setting w n bricks events
    → (k : ℕ) (told : BrickId × Report) → slice_get w.choices.reports k ≡ Some told → slice_get (run setting events w).choices.reports k ≡ Some told
alone_keeps setting n bricks [] w alone k told at = at
alone_keeps setting n bricks (Delivers number ∷ events) w alone k told at =
    alone_keeps setting n bricks events (happens setting w (Delivers number)) alone.1 k told
    (handled_or_not (λ (z : World). slice_get z.choices.reports k ≡ Some told) setting w at number
    (λ packet is up. get_kept w.choices.reports (reports_of packet.to (step_on setting w packet).reports) k told at))
alone_keeps setting n bricks (event ∷ events) w alone k told at = absurd alone

-- ---- the deliveries of an operation that runs alone are determined

-- those that it makes to its end are its deliveries alone
runs_are : (setting : Setting) (n : ℕ) (bricks : List BrickId) (w : World) (events : List Event) (last : World) → RunsAlone setting n bricks w events last
    → AreAlone setting w n bricks events
runs_are setting n bricks _ _ _ (Ended w closed) = tt
runs_are setting n bricks _ _ _ (Stuck w some none) = tt
runs_are setting n bricks _ _ _ (Goes_on w last number events some next runs) =
    (next, runs_are setting n bricks (happens setting w (Delivers number)) events last runs)

-- its deliveries come to its end, or one more is left
comes_to : (setting : Setting) (n : ℕ) (bricks : List BrickId) (w : World) (events : List Event) (last : World) → RunsAlone setting n bricks w events last
    → (others : List Event) → AreAlone setting w n bricks others
    → HasNext (run setting others w) n bricks
    ⊎ ((rest : List Event) × AreAlone setting last n bricks rest × (run setting others w ≡ run setting rest last))
comes_to setting n bricks _ _ _ (Ended w closed) others alone = inr (others, alone, refl)
comes_to setting n bricks _ _ _ (Stuck w some none) others alone = inr (others, alone, refl)
comes_to setting n bricks _ _ _ (Goes_on w last number events some next runs) [] alone = inl (some, ap (λ (z : Option ℕ). is_some z) next)
comes_to setting n bricks _ _ _ (Goes_on w last number events some next runs) (Delivers place ∷ others) alone =
    let same : place ≡ number = same_Some place number (sym alone.0 ∙ next) in
    comes_to setting n bricks (happens setting w (Delivers place)) events last
    (subst (λ (k : ℕ). RunsAlone setting n bricks (happens setting w (Delivers k)) events last) (sym same) runs) others alone.1
comes_to setting n bricks _ _ _ (Goes_on w last number events some next runs) (event ∷ others) alone = absurd alone

-- ---- how a scrub begins

-- A scrub of these members of a stripe has begun at a brick: it is the operation that has begun last, and this is its coordinator.
record BegunScrub (setting : Setting) (w : World) (me : BrickId) (group : GroupId) (stripe : StripeNo) (members : List BrickId) : Type 0 where
  first : Coordinator
  operation : Operation
  is : w.operations w.begun ≡ Some operation
  brick : operation.brick ≡ me
  boot : operation.boot ≡ first.call.boot
  seq : operation.seq ≡ first.call.seq
  asks : operation.ask ≡ scrub_ask group stripe
  ask : first.ask ≡ scrub_ask group stripe
  only : first.only ≡ Some members
  group_is : first.call.group ≡ group
  stripe_is : first.call.stripe ≡ stripe
  there : is_stripe (group_of setting.layout group.0) stripe.0 ≡ true
  among : members_among first.group.members members ≡ length members
  call : (w.nodes me.0).calls first.call.seq ≡ Some first
  scrubs : IsScrubbing first (w.nodes me.0)

-- members of a view are all among its members
all_among : (members bricks : List BrickId) → list_all (λ (member : BrickId). is_some (seat_in members member.0)) bricks ≡ true
    → members_among members bricks ≡ length bricks
all_among members [] all = refl
all_among members (brick ∷ bricks) all =
    let parts = and_parts (is_some (seat_in members brick.0)) (list_all (λ (member : BrickId). is_some (seat_in members member.0)) bricks) all in
    ap (λ (l : List BrickId). length l)
    (cond-true (is_some (seat_in members brick.0)) (brick ∷ filter (λ (b : BrickId). is_some (seat_in members b.0)) bricks)
    (filter (λ (b : BrickId). is_some (seat_in members b.0)) bricks) parts.0)
    ∙ ap suc (all_among members bricks parts.1)

-- it has begun where it may
begun_so : (setting : Setting) (w : World) (me : BrickId) (group : GroupId) (stripe : StripeNo) (members : List BrickId)
    → may_scrub setting w me group stripe members ≡ true
    → BegunScrub setting (happens setting w (Scrubs me group stripe members)) me group stripe members
unfolding happens scrubbed_at
begun_so setting w me group stripe members may = subst (λ (z : World). BegunScrub setting z me group stripe members) (sym begins) (record {
  first = c;
  operation = _;
  is = put_same w.operations (w.begun + 1) _;
  brick = refl;
  boot = refl;
  seq = refl;
  asks = refl;
  ask = refl;
  only = refl;
  group_is = refl;
  stripe_is = refl;
  there =
      ap (λ (z : Option Group). is_stripe z stripe.0) base.1
      ∙ lt-ltb stripe.0 base.0.stripes (subst (λ (g : Group). stripe.0 < g.stripes) base.2 fits.stripe_fits);
  among = all_among fits.kept.members members seated;
  call = ap (λ (n : Node). n.calls c.call.seq) here ∙ put_same (w.nodes me.0).calls c.call.seq (Some c);
  scrubs = subst (λ (n : Node). IsScrubbing c n) (sym here) (refl, refl, (c, put_same (w.nodes me.0).calls c.call.seq (Some c), same));
})
  where
    fits : ScrubFits setting w me group stripe members
    fits = scrub_fits setting w me group stripe members may

    base : (base : Group) × (group_of setting.layout group.0 ≡ Some base) × (fits.kept ≡ kept_by ((w.nodes me.0).learnt group.0).view.members base)
    base = kept_is setting.layout ((w.nodes me.0).learnt group.0).view.members group.0 fits.kept fits.kept_is

    seated : list_all (λ (member : BrickId). is_some (seat_in fits.kept.members member.0)) members ≡ true
    seated =
        let all = and_parts (are_distinct members) _ fits.named in
        (and_parts (list_all (λ (member : BrickId). is_some (seat_in fits.kept.members member.0)) members)
        (not (nat_lt (length members) (quorum_of fits.kept))) all.1).0

    c : Coordinator
    c = scrub_coordinator fits.kept me (w.clocks me.0) (w.nodes me.0) group stripe members

    same : SameOperation c c
    same = record { ask = refl; members = refl; prior = refl; only = refl; boot = refl; seq = refl; group = refl; stripe = refl }

    begins : happens setting w (Scrubs me group stripe members) ≡ world_stepped setting w me (begun_aside setting me (scrubbing (w.nodes me.0) c) c)
    begins =
        cond-true (may_scrub setting w me group stripe members) _ w may
        ∙ ap (λ (z : Option Group). world_stepped setting w me (scrubbed_in setting me (w.clocks me.0) (w.nodes me.0) group stripe members z)) fits.kept_is

    here : put w.nodes me.0 (scrubbing (w.nodes me.0) c) me.0 ≡ scrubbing (w.nodes me.0) c
    here = put_same w.nodes me.0 (scrubbing (w.nodes me.0) c)

-- ---- it ends

-- a scrub that began after this schedule, and is calm
module _ (setting : Setting) (before : List Event) (me : BrickId) (group : GroupId) (stripe : StripeNo) (members : List BrickId) (sound : IsSound setting)
    (encodes : EncodesBlocks setting) (small : setting.layout.records ≤ most_records)
    (begun : BegunScrub setting (run setting before (first_world setting.layout)) me group stripe members)
    (calm : (let w = run setting before (first_world setting.layout) in IsCalm setting w w.begun members)) where
  abbrev w : World
  w = run setting before (first_world setting.layout)

  abbrev first : Coordinator
  first = begun.first

  -- its operation and its coordinator are those that are calm
  operation_is : calm.operation ≡ begun.operation
  operation_is = same_Some calm.operation begun.operation (sym calm.is ∙ begun.is)

  coordinator_is : calm.coordinator ≡ first
  coordinator_is =
      let at : IsOpenAt w w.begun calm.coordinator = opens_at w w.begun calm.coordinator calm.open_is in
      let same : at.operation ≡ begun.operation = same_Some at.operation begun.operation (sym at.operation_is ∙ begun.is) in
      same_Some calm.coordinator first
      (sym at.call ∙ ap (λ (o : Operation). (w.nodes o.brick.0).calls o.seq) same
      ∙ ap (λ (b : BrickId). (w.nodes b.0).calls begun.operation.seq) begun.brick ∙ ap (λ (k : ℕ). (w.nodes me.0).calls k) begun.seq ∙ begun.call)

  has_stripe : HasStripe setting calm.operation calm.coordinator members
  has_stripe =
      subst (λ (c : Coordinator). HasStripe setting calm.operation c members) (sym coordinator_is)
      (subst (λ (o : Operation). HasStripe setting o first members) (sym operation_is)
      (inr (
        subst (λ (a : Ask). is_stripe (group_of setting.layout a.group.0) a.stripe.0 ≡ true) (sym begun.asks) begun.there,
        inr (begun.only, begun.among, ap (λ (a : Ask). a.op) begun.ask),
      )))

  -- the reports before it
  abbrev since : ℕ
  since = length w.choices.reports

  -- it has run alone to its end, and was answered
  module _ (events : List Event) (last : World) (alone : RunsAlone setting w.begun members w events last) (o : Operation) (is : last.operations w.begun ≡ Some o)
      (answered : o.answered ≡ true) (brick : o.brick ≡ me) (boot : o.boot ≡ first.call.boot) (seq : o.seq ≡ first.call.seq) where
    abbrev ended : World
    ended = run setting events w

    abbrev whole : List Event
    whole = before ++ events

    abbrev views : Views
    views = views_in setting.layout (run setting whole (first_world setting.layout)).packets

    reached : ended ≡ last
    reached = runs_to setting w.begun members w events last alone

    at_end : ended.operations w.begun ≡ Some o
    at_end = ap (λ (z : World). z.operations w.begun) reached ∙ is

    booked : (more : List Event) → Books setting (run setting more w)
    booked = onward (Books setting) setting (books setting) before

    tried : Tried setting views ended
    tried =
        subst (λ (z : World). Tried setting views z) (run-append setting (first_world setting.layout) before events)
        (always_tried setting views whole sound (every_run_follows setting whole sound))

    -- the number of its call
    number : ended.numbers me.0 first.call.boot first.call.seq ≡ w.begun
    number =
        ap (λ (b : BrickId). ended.numbers b.0 first.call.boot first.call.seq) (sym brick)
        ∙ ap (λ (b : ℕ). ended.numbers o.brick.0 b first.call.seq) (sym boot)
        ∙ ap (λ (k : ℕ). ended.numbers o.brick.0 o.boot k) (sym seq)
        ∙ ((booked events).operations w.begun o at_end).number

    -- its brick does not scrub any more
    over : IsScrubbing first (ended.nodes me.0) → ⊥
    over scrubs =
        let its : CallBooks setting ended me.0 first.call.seq scrubs.2.0 = (booked events).calls me.0 first.call.seq scrubs.2.0 scrubs.2.1 in
        let same : its.operation ≡ o
        = same_Some its.operation o
        (sym its.operation_is
        ∙ ap (λ (k : ℕ). ended.operations k) (ap (λ (b : ℕ). ended.numbers me.0 b first.call.seq) scrubs.1 ∙ number) ∙ at_end) in
        false≢true (sym its.unanswered ∙ ap (λ (z : Operation). z.answered) same ∙ answered)

    -- it has reported, and no cause
    well : HasReported me first since ended → EndedWell ended since me group stripe members
    well (place, behind, call, answer, at, like) =
        let was : ScrubEnded setting views ended me call (members_alone first.only) answer
        = tried.reported place (me, Report.Scrub call (members_alone first.only) answer) at in
        let theirs : OperationBooks setting ended was.n was.operation = (booked events).operations was.n was.operation was.is in
        let n_is : was.n ≡ w.begun
        = sym theirs.number ∙ ap (λ (b : BrickId). ended.numbers b.0 was.operation.boot was.operation.seq) was.was.brick_is
        ∙ ap (λ (b : ℕ). ended.numbers me.0 b was.operation.seq) (sym was.was.own.0 ∙ like.0)
        ∙ ap (λ (k : ℕ). ended.numbers me.0 first.call.boot k) (sym was.was.own.1 ∙ like.1) ∙ number in
        let same : was.operation ≡ o
        = same_Some was.operation o (sym was.is ∙ ap (λ (k : ℕ). ended.operations k) n_is ∙ at_end) in
        let closed : was.operation.closed ≡ Some None
        = (theirs.unmarked was.was.unmarked).answered (ap (λ (z : Operation). z.answered) same ∙ answered) in
        record {
          place = place;
          since = behind;
          call = call;
          answer = answer;
          is = at ∙ ap (λ (only : Option (List BrickId)). Some (me, Report.Scrub call (members_alone only) answer)) begun.only;
          group_is = like.2 ∙ begun.group_is;
          stripe_is = like.3 ∙ begun.stripe_is;
          well = same_Some (cause_of answer) None (sym was.ended ∙ closed);
        }

    ended_well : EndedWell last since me group stripe members
    ended_well =
        let now : IsUnderway me first since ended
        = alone_on setting me first since w.begun members events w (runs_are setting w.begun members w events last alone) booked (omega arith, inl begun.scrubs) in
        subst (λ (z : World). EndedWell z since me group stripe members) reached
        (⊎_elim (λ (scrubs : IsScrubbing first (ended.nodes me.0)). absurd (over scrubs)) well now.1)

    -- so whichever its deliveries are
    ends_or_left : (others : List Event) → AreAlone setting w w.begun members others
        → HasNext (run setting others w) w.begun members ⊎ EndedWell (run setting others w) since me group stripe members
    ends_or_left others are = ⊎_elim
        (λ (left : HasNext (run setting others w) w.begun members). inl left)
        (λ (past : (rest : List Event) × AreAlone setting last w.begun members rest × (run setting others w ≡ run setting rest last)).
        let it = ended_well in
        inr (subst (λ (z : World). EndedWell z since me group stripe members) (sym past.2) (record {
          place = it.place;
          since = it.since;
          call = it.call;
          answer = it.answer;
          is = alone_keeps setting w.begun members past.0 last past.1 it.place _ it.is;
          group_is = it.group_is;
          stripe_is = it.stripe_is;
          well = it.well;
        })))
        (comes_to setting w.begun members w events last alone others are)

  -- it runs alone to its end
  scrub_ends : (others : List Event) → AreAlone setting w w.begun members others
      → HasNext (run setting others w) w.begun members ⊎ EndedWell (run setting others w) since me group stripe members
  scrub_ends =
      let finish = finishes setting sound encodes w w.begun members calm (known_of setting before w.begun members sound encodes small calm has_stripe) in
      ends_or_left finish.events finish.last finish.alone finish.end.operation finish.end.is finish.end.answered
      (finish.end.brick ∙ ap (λ (o : Operation). o.brick) operation_is ∙ begun.brick)
      (finish.end.boot ∙ ap (λ (c : Coordinator). c.call.boot) coordinator_is)
      (finish.end.seq ∙ ap (λ (c : Coordinator). c.call.seq) coordinator_is)

-- so each that may run alone does, after every schedule
pub scrubs_end : ScrubsEndAlone
scrubs_end setting before events brick group stripe members sound encodes small may =
    let begins : List Event = before ++ (Scrubs brick group stripe members ∷ []) in
    let there = run-append setting (first_world setting.layout) before (Scrubs brick group stripe members ∷ []) in
    let begun = begun_so setting (run setting before (first_world setting.layout)) brick group stripe members may in
    subst (λ (w : World). IsCalm setting w w.begun members → AreAlone setting w w.begun members events
    → HasNext (run setting events w) w.begun members
    ⊎ EndedWell (run setting events w) (length w.choices.reports) brick group stripe members) there
    (λ calm. scrub_ends setting begins brick group stripe members sound encodes small
    (subst (λ (w : World). BegunScrub setting w brick group stripe members) (sym there) begun) calm events)
