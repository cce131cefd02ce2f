-- A calm operation, of whose world this is known, is answered alone.
use Rattle.protocol_laws.proofs.Tops.{before_floor}
use Rattle.std.specs.List.{list_any}
use Rattle.std.proofs.lemmas.Option.{same_Some}
use Rattle.protocol.specs.Views.{kept_by, first_kept, floor_of, view_of}
use Rattle.calm_laws.proofs.Backward.{BackCast, OldLore, may_look_back}
use Rattle.fab_base.specs.declared.identities.ViewNo.{ViewNo}
use Rattle.protocol.specs.declared.phases.Phase.{Phase}
use Rattle.calm_laws.proofs.Plays.{Finishes}
use Rattle.std.proofs.Common.{cond, List, None, Option, Some, [], ap, ap₂, arith, drop, false, inl, le_of_lt, le_trans, length, map, refl, subst, suc, sym, take, true, zero-add, ℕ, ⊎_elim, ◌++◌, ◌+◌, ◌<◌, ◌∙◌, ◌∷◌, ◌≡◌, ◌≤◌, is_some, zero, inr, Bool, length-append}
use Rattle.std.proofs.lemmas.Bool.{and_from, and_parts, cond_both, eqb-true, false≢true, ltb-true, ne_eqb, or_parts, not-true, or_right}
use Rattle.std.proofs.lemmas.Bool.Decides.{nat_tests}
use Rattle.std.proofs.lemmas.List.{append_assoc, length-take-le, take-append-drop}
use Rattle.std.specs.Prelude.{filter, nat_eq, nat_lt, slice_get, ◌*◌, ◌-◌, not}
use Rattle.calm_laws.proofs.Asking.{each_append, each_then, each_so}
use Rattle.calm_laws.proofs.Beginnings.{OpenFacts, each_repeated, map_append, one_stands, open_facts, repeated_sends, waiting_untouched}
use Rattle.calm_laws.proofs.Casting.{apart_chosen, apart_take, chosen, chosen_many, each_chosen, each_drop, each_take, sends_chosen, chosen_few, has_chosen}
use Rattle.calm_laws.proofs.Descending.{Lore, IsFloor, Ground, MayLookBack}
use Rattle.calm_laws.proofs.Finds.{total_below}
use Rattle.calm_laws.proofs.Finishing.{plays, runs_once}
use Rattle.calm_laws.proofs.FirstRounds.{IsFirst, IsLow}
use Rattle.calm_laws.proofs.Floors.{greatest_low, low_most, low_one, quorum_passes}
use Rattle.calm_laws.proofs.Known.{Known, repeated, StandsIn, KnownLogs, KnownFloor, KnownBack}
use Rattle.protocol_laws.proofs.Logs.{LogAscends, newest_stands, held_stands}
use Rattle.calm_laws.proofs.Looking.{look_first, looks_at_looking, looks_looking}
use Rattle.calm_laws.proofs.OrderRuns.{IsUnheld}
use Rattle.calm_laws.proofs.PhaseRuns.{Cast, IsOpen}
use Rattle.calm_laws.proofs.Queues.{waiting}
use Rattle.calm_laws.proofs.Rooms.{Room}
use Rattle.calm_laws.proofs.Scenes.{Closes, Each, IsSeated, Part, Scene, Seated, Stage, asking, sends, IsInView, asks_own, first_ahead, IsOf, IsSeatedBack, asks_before, AreApart, quorum_needed, IsForAll}
use Rattle.calm_laws.proofs.Shows.{IsMember, Shows}
use Rattle.calm_laws.proofs.Starts.{AreFew, block_first, write_first}
use Rattle.calm_laws.specs.Laws.{EncodesBlocks, EndsAlone, IsOver, most_records, CountsThese}
use Rattle.fab_base.proofs.Seats.{brick_at_seat, seat_of_member, seat_within}
use Rattle.fab_base.specs.Layouts.{Group, brick_at, seat_in}
use Rattle.fab_base.specs.Stamps.{stamp_below}
use Rattle.fab_base.specs.declared.asks.Op.{Op}
use Rattle.fab_base.specs.declared.asks.Op.TheVariants.{ReadBlock, ReadStripe, WriteBlock, WriteStripe}
use Rattle.fab_base.specs.declared.identities.BrickId.{BrickId}
use Rattle.fab_base.specs.declared.identities.StripeNo.{StripeNo}
use Rattle.fab_base.specs.declared.stamps.Stamp.{Stamp}
use Rattle.messages.specs.declared.packets.Packet.{Packet}
use Rattle.messages.specs.declared.requests.Version.{Version}
use Rattle.messages.specs.declared.requests.Want.{Want}
use Rattle.protocol.specs.Calms.{IsCalm, IsReady, early, goes_among, is_one_of, may_ask_prior, knows_synced, members_among}
use Rattle.protocol.specs.Coordinators.{Coordinator, block_written, asked_group, looks_back, may_count_in, needed, asks_each}
use Rattle.protocol.specs.Nodes.{first_phase, has_block, has_length, phase_packets, replica_at, view_at}
use Rattle.protocol.specs.Replicas.{Replica, below, is_held, newest_of, top_of}
use Rattle.protocol.specs.Settings.{IsSound, Setting, are_bytes}
use Rattle.protocol.specs.Worlds.{Operation, World}
use Rattle.quorum.specs.Quorums.{IsWithinLimits, quorum_of}
use Rattle.calm_laws.proofs.Members.{counts_of, rest_of, more_of, counts_rest, first_more, counts_each, rest_each, counts_apart, counts_all, as_many, few_chosen, has_place, each_needed}

-- a part whose times are early has come to an early one
top_early : (b : ℕ) (replica : Replica) → replica.order.time ≤ b
    → ((k : ℕ) (version : Version) → slice_get replica.log k ≡ Some version → version.stamp.time ≤ b) → (top_of replica).time ≤ b
unfolding top_of
top_early b replica order versions = go (newest_of replica.log) refl
  where
    go : (z : Option Version) → newest_of replica.log ≡ z → (top_of replica).time ≤ b
    go None is = rw is order
    go (Some version) is =
        let at = newest_stands replica.log version is in
        rw is
        (cond_both (stamp_below replica.order version.stamp) version.stamp replica.order (λ (z : Stamp). z.time ≤ b)
        (λ less. versions at.0 version at.1) (λ not_less. order))

-- fewer versions are below a bound than a log has
below_short : (bound : Stamp) (log : List Version) → length (below bound log) ≤ length log
below_short bound [] = omega arith
below_short bound (version ∷ log) =
    let rest = below_short bound log in
    cond_both (stamp_below version.stamp bound) (version ∷ below bound log) (below bound log)
    (λ (l : List Version). length l ≤ suc (length log)) (λ is. omega arith) (λ isnt. omega arith)

total_short : (logs : ℕ → List Version) (bound : Stamp) (xs : List Seated) → ((i : ℕ) → length (logs i) ≤ most_records + 1)
    → total_below logs bound xs ≤ length xs * (most_records + 1)
total_short logs bound [] short = omega arith
total_short logs bound (x ∷ xs) short =
    let here = below_short bound (logs x.brick.0) in
    let low = short x.brick.0 in
    let rest = total_short logs bound xs short in
    omega (arith, here, low, rest)

-- none of these has what not one of them has
none_of : (test : BrickId → Bool) (bricks : List BrickId) → list_any test bricks ≡ false → (brick : BrickId) (k : ℕ) → slice_get bricks k ≡ Some brick
    → test brick ≡ false
none_of test [] none brick k at = absurd (let never : None ≡ Some brick = at in cc)
none_of test (b ∷ bricks) none brick zero at =
    subst (λ (z : BrickId). test z ≡ false) (same_Some b brick at) (or_parts (test b) (list_any test bricks) none).0
none_of test (b ∷ bricks) none brick (suc k) at = none_of test bricks (or_parts (test b) (list_any test bricks) none).1 brick k at

-- a stamp of the view before is below the first stamp of a view
below_next : (d : Stamp) (e : ℕ) → view_of d ≡ e - 1 → nat_lt 1 e ≡ true → stamp_below d (floor_of e) ≡ true
below_next d e of later =
    before_floor d e (let above = ltb-true 1 e later in omega (arith, of, above))

module _ (setting : Setting) (sound : IsSound setting) (lengths : EncodesBlocks setting) (w : World) (n : ℕ) (bricks : List BrickId)
    (calm : IsCalm setting w n bricks) (known : Known setting w n calm.operation calm.coordinator bricks) where
  abbrev o : Operation
  o = calm.operation

  abbrev c : Coordinator
  c = calm.coordinator

  abbrev stage : Stage
  stage = record {
    setting = setting;
    bricks = bricks;
    me = o.brick;
    now = w.clocks o.brick.0;
    call = c.call;
    group = c.group;
    quorum = counts_of c.only (quorum_of c.group) (chosen bricks 0 c.group.members);
    only = c.only;
    prior = kept_by c.prior c.group;
    may_ask = may_ask_prior w c bricks;
    old = λ i. ((w.nodes i).replicas c.call.group.0 (c.call.view.0 - 1) c.call.stripe.0).log;
  }

  limits : IsWithinLimits c.group.m (length c.group.members)
  limits = known.logs.limits

  -- its first phase asks the members of its view
  ahead : looks_back c.phase ≡ false
  ahead = ap (λ (p : Phase). looks_back p) known.call.phase ∙ first_ahead c.ask.op

  of : IsOf stage c
  of = record { group = refl; prior = refl; only = refl; boot = refl; seq = refl; of_group = refl; view = sym known.call.view; stripe = refl }

  in_view : IsInView stage c
  in_view = record { of = of; ahead = ahead; own = known.call.view }

  view_number : c.call.view.0 ≡ c.stamp.view.0
  view_number = ap (λ (e : ViewNo). e.0) known.call.view

  -- the members among the bricks
  abbrev all : List Seated
  all = chosen bricks 0 c.group.members

  abbrev q : ℕ
  q = quorum_of c.group

  all_seated : Each (IsSeated stage) all
  all_seated =
      each_chosen (IsSeated stage) bricks 0 c.group.members
      (λ k member at one. (
        seat_of_member c.group.members k member known.logs.distinct at
            ∙ ap (λ (j : ℕ). Some j) (sym (zero-add k)),
        one,
      ))

  all_many : q ≤ length all
  all_many = le_trans calm.members (chosen_many bricks 0 c.group.members calm.distinct)

  sends_all : (d : Coordinator) → IsInView stage d → sends stage d ≡ map (asking stage d) all
  sends_all d own =
      sends_chosen stage d 0 (asked_group d).members
      ∙ ap (λ (g : Group). map (asking stage d) (chosen bricks 0 g.members)) (asks_own stage d own)

  -- those that a phase for each counts, and the others
  abbrev who : List Seated
  who = counts_of c.only (quorum_of c.group) (chosen bricks 0 c.group.members)

  abbrev others : List Seated
  others = rest_of c.only (quorum_of c.group) (chosen bricks 0 c.group.members)

  who_seated : Each (IsSeated stage) who
  who_seated = counts_each (IsSeated stage) c.only q all all_seated

  -- they are as many as such a phase needs
  who_needed : (d : Coordinator) → IsInView stage d → IsForAll stage d.phase → length who ≡ needed d
  who_needed d own for_all = by known.counts
    where
      by : CountsThese c bricks → length who ≡ needed d
      by (inl every) =
          ap (λ (z : Option (List BrickId)). length (counts_of z q all)) every ∙ length-take-le q all all_many
          ∙ ap (λ (g : Group). quorum_of g) (sym (asks_own stage d own)) ∙ sym (quorum_needed d (inr (own.of.only ∙ every)))
      by (inr these) = ⊎_elim
          (λ (each : asks_each d.phase ≡ true).
          ap (λ (z : Option (List BrickId)). length (counts_of z q all)) these.0
          ∙ as_many bricks c.group.members calm.distinct known.logs.distinct these.1
          ∙ sym (each_needed (asked_group d) d.phase d.only bricks (own.of.only ∙ these.0) each))
          (λ (none : stage.only ≡ None). absurd (let never : Some bricks ≡ None = sym these.0 ∙ none in cc))
          for_all

  -- they may count
  who_may : (phase : Phase) → Each (λ x. may_count_in phase c.only x.brick.0 ≡ true) who
  who_may phase = by known.counts
    where
      by : CountsThese c bricks → Each (λ x. may_count_in phase c.only x.brick.0 ≡ true) who
      by (inl every) =
          each_so (λ (x : Seated). may_count_in phase c.only x.brick.0 ≡ true)
          (λ x. ap (λ (z : Option (List BrickId)). may_count_in phase z x.brick.0) every) who
      by (inr these) =
          each_then (IsSeated stage) (λ (x : Seated). may_count_in phase c.only x.brick.0 ≡ true) who
          (λ x seated.
          ap (λ (z : Option (List BrickId)). may_count_in phase z x.brick.0) these.0
          ∙ or_right (looks_back phase) (is_some (seat_in bricks x.brick.0)) (has_place bricks x.brick seated.1)) who_seated

  -- another operation than a read of a whole stripe counts every member
  every_counts : (op : Op) → c.ask.op ≡ op → (op ≡ ReadStripe → ⊥) → c.only ≡ None
  every_counts op is other = ⊎_elim
      (λ (every : c.only ≡ None). every)
      (λ (these : (c.only ≡ Some bricks) × (members_among c.group.members bricks ≡ length bricks) × (c.ask.op ≡ ReadStripe)).
      absurd (other (sym is ∙ these.2)))
      known.counts

  abbrev cast : Cast stage
  cast = record {
    xs = who;
    rest = others;
    counts = refl;
    seated = who_seated;
    rest_seated = rest_each (IsSeated stage) c.only q all all_seated;
    apart = counts_apart c.only q all (apart_chosen bricks 0 c.group.members);
    some = let long : length (take q all) ≡ q = length-take-le q all all_many in
        let whole : length who ≡ length (take q all) + length (more_of c.only q all)
        = ap (λ (l : List Seated). length l) (sym (first_more c.only q all)) ∙ length-append (take q all) (more_of c.only q all) in
        let low = limits.some_block in let enough = limits.enough_seats in omega (arith, long, whole, low, enough);
    needs = who_needed;
    may = who_may;
    first = take q all;
    more = more_of c.only q all;
    split = first_more c.only q all;
    first_apart = apart_take q all (apart_chosen bricks 0 c.group.members);
    first_some = let long : length (take q all) ≡ q = length-take-le q all all_many in
        let low = limits.some_block in let enough = limits.enough_seats in omega (arith, long, low, enough);
    first_quorum = length-take-le q all all_many;
    sends = λ d own.
        sends_all d own ∙ ap (map (asking stage d)) (sym (counts_rest c.only q all))
        ∙ map_append (asking stage d) who others;
  }

  -- parts and logs of the stripe
  abbrev logs : ℕ → List Version
  logs i = (replica_at (w.nodes i) c.call).log

  abbrev parts : ℕ → Part
  parts i = record { replica = replica_at (w.nodes i) c.call; live = (w.nodes i).live }

  abbrev scene : Scene
  scene = record { c = c; known = (w.nodes o.brick.0).known; parts = parts; queue = waiting w n bricks }

  -- each brick is ready
  ready : (brick : BrickId) → is_one_of bricks brick ≡ true → IsReady setting w c brick
  ready brick one = let at = one_stands bricks brick one in calm.ready at.0 brick at.1

  opened : OpenFacts w o c
  opened = open_facts w n o c calm.is calm.open_is

  -- what waits are the requests of the first phase
  queue_is : waiting w n bricks ≡ map (asking stage c) who ++ map (asking stage c) (others ++ repeated known.messages.copies all)
  queue_is =
      waiting_untouched w n bricks 1 w.packets (λ k packet at own.
      let next : suc k ≡ 1 + k = omega arith in
      subst (λ (j : ℕ). w.reached j ≡ false) next (calm.untouched (suc k) packet at own))
      ∙ ap (λ (l : List Packet). filter (goes_among bricks) l) known.messages.sent
      ∙ repeated_sends stage c (suc known.messages.copies) (phase_packets setting o.brick c) all (sends_all c in_view)
      ∙ ap (λ (l : List Seated). map (asking stage c) (l ++ repeated known.messages.copies all)) (sym (counts_rest c.only q all))
      ∙ ap (map (asking stage c)) (append_assoc who others (repeated known.messages.copies all))
      ∙ map_append (asking stage c) who (others ++ repeated known.messages.copies all)

  -- so the first phase is open
  abbrev begins_open : IsOpen stage cast scene
  begins_open = record {
    in_view = in_view;
    counted = known.call.counted;
    stale = [];
    old = tt;
    others = others ++ repeated known.messages.copies all;
    others_seated = each_append (IsSeated stage) others (repeated known.messages.copies all)
        (rest_each (IsSeated stage) c.only q all all_seated) (each_repeated (IsSeated stage) known.messages.copies all all_seated);
    waiting = queue_is;
  }

  -- Where a quorum of a view's members has held some version, enough of its first quorum among the bricks hold one, which is below what all these versions are below:
  -- its floor. (Each of them keeps what it has held from some such version on.)
  module _ (e : ℕ) (group : Group) (known_logs : KnownLogs setting w c.call.group.0 c.call.stripe.0 e group)
      (known_floor : KnownFloor w c.call.group.0 c.call.stripe.0 e group) (xs : List Seated) (apart : AreApart xs) (many : length xs ≡ quorum_of group)
      (seated : Each (λ x. (seat_in group.members x.brick.0 ≡ Some x.seat) × (is_one_of bricks x.brick ≡ true)) xs)
      (kept : (brick : BrickId) → is_one_of bricks brick ≡ true → first_kept ((w.nodes brick.0).learnt c.call.group.0) ≤ e) where
    abbrev view_logs : ℕ → List Version
    view_logs i = ((w.nodes i).replicas c.call.group.0 e c.call.stripe.0).log

    -- the floor of the quorum's logs
    abbrev floor : Stamp
    floor = greatest_low known_floor.base (λ i. (known_floor.keeps i).from) xs

    floor_stands : StandsIn w c.call.group.0 c.call.stripe.0 e group floor
    floor_stands =
        low_one (StandsIn w c.call.group.0 c.call.stripe.0 e group) known_floor.base (λ i. (known_floor.keeps i).from) xs known_floor.stands
        (λ i. (known_floor.keeps i).stands)

    -- a member that has held the floor has it in its log
    floor_kept : Each (λ x. w.held (brick_at group x.seat) c.call.group.0 c.call.stripe.0 floor ≡ true → is_held floor (view_logs x.brick.0) ≡ true) xs
    floor_kept = both xs seated (low_most known_floor.base (λ i. (known_floor.keeps i).from) xs)
      where
        both : (ys : List Seated) → Each (λ x. (seat_in group.members x.brick.0 ≡ Some x.seat) × (is_one_of bricks x.brick ≡ true)) ys
            → Each (λ x. stamp_below floor (known_floor.keeps x.brick.0).from ≡ false) ys
            → Each (λ x. w.held (brick_at group x.seat) c.call.group.0 c.call.stripe.0 floor ≡ true → is_held floor (view_logs x.brick.0) ≡ true) ys
        both [] sits most = tt
        both (y ∷ ys) sits most = (
          (λ held. ⊎_elim
              (λ (there : is_held floor (view_logs y.brick.0) ≡ true). there)
              (λ (lower : stamp_below floor (known_floor.keeps y.brick.0).from ≡ true). absurd (false≢true (sym most.0 ∙ lower)))
              ((known_floor.keeps y.brick.0).logged (kept y.brick sits.0.1) floor floor_stands.of
              (subst (λ (i : ℕ). w.held i c.call.group.0 c.call.stripe.0 floor ≡ true) (brick_at_seat group y.brick.0 y.seat sits.0.0) held))),
          both ys sits.1 most.1,
        )

    floor_is : IsFloor group.m xs view_logs
    floor_is = record {
      floor = floor;
      holders = quorum_passes group.m (length group.members) known_logs.limits.enough_seats xs (λ x. is_held floor (view_logs x.brick.0))
          (λ seat. w.held (brick_at group seat) c.call.group.0 c.call.stripe.0 floor) apart
          (each_then (λ (x : Seated). (seat_in group.members x.brick.0 ≡ Some x.seat) × (is_one_of bricks x.brick ≡ true))
          (λ (x : Seated). x.seat < length group.members) xs
          (λ x sits. seat_within group x.brick.0 x.seat sits.0) seated)
          many floor_stands.held floor_kept;
    }

    blocks_long : Each (λ x. (k : ℕ) (version : Version) → slice_get (view_logs x.brick.0) k ≡ Some version
        → length version.block ≡ setting.layout.block) xs
    blocks_long =
        each_then (λ (x : Seated). (seat_in group.members x.brick.0 ≡ Some x.seat) × (is_one_of bricks x.brick ≡ true))
        (λ (x : Seated). (k : ℕ) (version : Version) → slice_get (view_logs x.brick.0) k ≡ Some version → length version.block ≡ setting.layout.block) xs
        (λ x sits k version at. known_logs.blocks x.brick.0 x.seat k version sits.0 at) seated

  -- a ready brick keeps the versions of the view that it has learnt
  keeps_own : (brick : BrickId) → is_one_of bricks brick ≡ true → first_kept ((w.nodes brick.0).learnt c.call.group.0) ≤ c.call.view.0
  keeps_own brick one =
      let is : view_at (w.nodes brick.0) c.call.group.0 ≡ c.call.view.0 = (ready brick one).view ∙ sym view_number in
      cond_both ((w.nodes brick.0).learnt c.call.group.0).synced (view_at (w.nodes brick.0) c.call.group.0) (view_at (w.nodes brick.0) c.call.group.0 - 1)
      (λ (k : ℕ). k ≤ c.call.view.0) (λ synced. omega (arith, is)) (λ isnt. omega (arith, is))

  -- where the operation may have to ask the members of the view before, it keeps those of that one too
  module _ (may : may_ask_prior w c bricks ≡ true) where
    later : nat_lt 1 c.call.view.0 ≡ true
    later =
        ap (λ (k : ℕ). nat_lt 1 k) view_number ∙ (and_parts (nat_lt 1 c.stamp.view.0) (not (list_any (knows_synced w c.call.group.0) bricks)) may).0

    unsynced : (brick : BrickId) → is_one_of bricks brick ≡ true → ((w.nodes brick.0).learnt c.call.group.0).synced ≡ false
    unsynced brick one =
        none_of (knows_synced w c.call.group.0) bricks
        (not-true (list_any (knows_synced w c.call.group.0) bricks)
        (and_parts (nat_lt 1 c.stamp.view.0) (not (list_any (knows_synced w c.call.group.0) bricks)) may).1) brick
        (one_stands bricks brick one).0 (one_stands bricks brick one).1

    keeps_old : (brick : BrickId) → is_one_of bricks brick ≡ true → first_kept ((w.nodes brick.0).learnt c.call.group.0) ≤ c.call.view.0 - 1
    keeps_old brick one =
        let is : view_at (w.nodes brick.0) c.call.group.0 ≡ c.call.view.0 = (ready brick one).view ∙ sym view_number in
        let first : first_kept ((w.nodes brick.0).learnt c.call.group.0) ≡ view_at (w.nodes brick.0) c.call.group.0 - 1
        = ap (λ (b : Bool). cond b (view_at (w.nodes brick.0) c.call.group.0) (view_at (w.nodes brick.0) c.call.group.0 - 1)) (unsynced brick one) in
        omega (arith, first, is)

  -- the members of the view before among the bricks
  module _ (known_back : KnownBack setting w c bricks) where
    abbrev prior : Group
    prior = kept_by c.prior c.group

    abbrev all_back : List Seated
    all_back = chosen bricks 0 c.prior

    abbrev q_back : ℕ
    q_back = quorum_of prior

    back_seated : Each (IsSeatedBack stage) all_back
    back_seated =
        each_chosen (IsSeatedBack stage) bricks 0 c.prior
        (λ k member at one. (seat_of_member c.prior k member known_back.logs.distinct at ∙ ap (λ (j : ℕ). Some j) (sym (zero-add k)), one))

    back_many : q_back ≤ length all_back
    back_many = le_trans (calm.prior known_back.may) (chosen_many bricks 0 c.prior calm.distinct)

    abbrev back_cast : BackCast stage
    back_cast = record {
      xs = take q_back all_back;
      rest = drop q_back all_back;
      seated = each_take (IsSeatedBack stage) q_back all_back back_seated;
      rest_seated = each_drop (IsSeatedBack stage) q_back all_back back_seated;
      apart = apart_take q_back all_back (apart_chosen bricks 0 c.prior);
      some = let long : length (take q_back all_back) ≡ q_back = length-take-le q_back all_back back_many in
          let low = known_back.logs.limits.some_block in let enough = known_back.logs.limits.enough_seats in omega (arith, long, low, enough);
      quorum = length-take-le q_back all_back back_many;
      sends = λ d bound is.
          sends_chosen stage d 0 (asked_group d).members
          ∙ ap (λ (g : Group). map (asking stage d) (chosen bricks 0 g.members)) (asks_before stage d bound is)
          ∙ ap (map (asking stage d)) (sym (take-append-drop q_back all_back))
          ∙ map_append (asking stage d) (take q_back all_back) (drop q_back all_back);
    }

    back_floor : IsFloor c.group.m (take q_back all_back) stage.old
    back_floor =
        floor_is (c.call.view.0 - 1) prior known_back.logs known_back.floor (take q_back all_back) back_cast.apart back_cast.quorum back_cast.seated
        (keeps_old known_back.may)

    -- what they keep there is below the first stamp of the operation's view
    old_below : (i : ℕ) (d : Stamp) → is_held d (stage.old i) ≡ true → stamp_below d (floor_of c.call.view.0) ≡ true
    old_below i d held =
        let place = held_stands d (stage.old i) held in
        let its : view_of place.1.stamp ≡ c.call.view.0 - 1 = known_back.logs.of i place.0 place.1 place.2 in
        below_next d c.call.view.0 (ap (λ (t : Stamp). view_of t) (sym place.3) ∙ its) (later known_back.may)

    floor_view : stamp_below back_floor.floor (floor_of c.call.view.0) ≡ true
    unfolding back_floor floor_is
    floor_view =
        below_next back_floor.floor c.call.view.0
        (floor_stands (c.call.view.0 - 1) prior known_back.logs known_back.floor (take q_back all_back) back_cast.apart back_cast.quorum back_cast.seated
        (keeps_old known_back.may)).of (later known_back.may)

    abbrev old_lore : OldLore stage back_cast
    old_lore = record {
      may = known_back.may;
      later = later known_back.may;
      ascends = each_so (λ (x : Seated). LogAscends (stage.old x.brick.0)) (λ x. known_back.logs.ascends x.brick.0) (take q_back all_back);
      below = each_so (λ (x : Seated). (d : Stamp) → is_held d (stage.old x.brick.0) ≡ true → stamp_below d (floor_of c.call.view.0) ≡ true)
          (λ x. old_below x.brick.0) (take q_back all_back);
      blocks = blocks_long (c.call.view.0 - 1) prior known_back.logs known_back.floor (take q_back all_back) back_cast.apart back_cast.quorum back_cast.seated
          (keeps_old known_back.may);
      some_block = limits.some_block;
      at = back_floor;
      at_below = floor_view;
    }

    looks_back_well : MayLookBack stage cast logs (total_below stage.old (floor_of c.call.view.0) (take q_back all_back))
    looks_back_well =
        may_look_back stage cast logs (each_so (λ (x : Seated). LogAscends (logs x.brick.0)) (λ x. known.logs.ascends x.brick.0) who) lengths
        back_cast old_lore

    -- phases enough
    back_few : total_below stage.old (floor_of c.call.view.0) (take q_back all_back) ≤ 32 * (most_records + 1)
    back_few =
        let total = total_short stage.old (floor_of c.call.view.0) (take q_back all_back) known_back.logs.short in
        let long : length (take q_back all_back) ≡ q_back = length-take-le q_back all_back back_many in
        let seats = known_back.logs.limits.few_seats in
        omega (arith, total, long, seats)

  -- what a recovery comes to, and how many phases it takes then
  ground_of : (phases : ℕ) × Ground stage cast logs phases × (phases ≤ 32 * (most_records + 1))
  ground_of = ⊎_elim
      (λ (at : KnownFloor w c.call.group.0 c.call.stripe.0 c.call.view.0 c.group). (
        0,
        inl (floor_is c.call.view.0 c.group known.logs at (take q all) cast.first_apart cast.first_quorum
            (each_take (IsSeated stage) q all all_seated) keeps_own),
        omega arith,
      ))
      (λ (back : KnownBack setting w c bricks). (
        total_below stage.old (floor_of c.call.view.0) (take (quorum_of (kept_by c.prior c.group)) (chosen bricks 0 c.prior)),
        inr (looks_back_well back),
        back_few back,
      ))
      known.ground

  -- what is known of the quorum's logs
  abbrev lore : Lore stage cast logs
  lore = record {
    ascends = each_so (λ (x : Seated). LogAscends (logs x.brick.0)) (λ x. known.logs.ascends x.brick.0) who;
    some_block = limits.some_block;
    blocks = each_then (IsSeated stage) (λ (x : Seated). (k : ℕ) (version : Version) → slice_get (logs x.brick.0) k ≡ Some version
        → length version.block ≡ setting.layout.block) who
        (λ x seated k version at. known.logs.blocks x.brick.0 x.seat k version seated.0 at) who_seated;
    encodes = lengths;
    phases = ground_of.0;
    ground = ground_of.1;
  }

  -- phases enough
  few : AreFew stage cast logs lore
  few bound =
      let total = total_short logs bound who known.logs.short in
      let long : length all ≡ length who + length others
      = ap (λ (l : List Seated). length l) (sym (counts_rest c.only q all)) ∙ length-append who others in
      let within = few_chosen bricks 0 c.group.members in
      let seats = limits.few_seats in
      let more = ground_of.2 in
      omega (arith, total, long, within, seats, more)

  -- the first round finds room, and early times
  abbrev begins_first : IsFirst stage cast logs scene
  begins_first = record {
    open_is = begins_open;
    quiet = refl;
    round = known.call.round;
    from_one = known.call.from_one;
    stamp_known = known.call.stamp_known;
    known_early = let low = calm.times.known in omega (arith, low);
    starts = each_then (IsSeated stage) (λ (x : Seated). ((parts x.brick.0).replica.log ≡ logs x.brick.0) × Room stage (parts x.brick.0)
        × IsLow c.stamp.view.0 early (top_of (parts x.brick.0).replica)) who
        (λ x seated. (refl, inl (ready x.brick seated.1).room, low x seated)) who_seated;
    ascends = each_so (λ (x : Seated). LogAscends (logs x.brick.0)) (λ x. known.logs.ascends x.brick.0) who;
  }
    where
      low : (x : Seated) → IsSeated stage x → IsLow c.stamp.view.0 early (top_of (parts x.brick.0).replica)
      low x seated =
          let times = (ready x.brick seated.1).times in
          record {
            view = known.top_view x.brick.0;
            time = top_early early (replica_at (w.nodes x.brick.0) c.call)
                (le_of_lt (times.orders c.call.group.0 c.call.view.0 c.call.stripe.0))
                (λ k version at. le_of_lt (times.logs c.call.group.0 c.call.view.0 c.call.stripe.0 k version at));
          }

  -- the operation's own stamp is in none of these logs
  unheld : IsUnheld logs c.stamp who
  unheld = each_so (λ (x : Seated). is_held c.stamp (logs x.brick.0) ≡ false) (λ x. known.unheld x.brick.0) who

  -- so it closes
  closes : Closes stage scene
  closes = go c.ask.op refl
    where
      go : (op : Op) → c.ask.op ≡ op → Closes stage scene
      go (ReadBlock j) is =
          look_first stage cast logs lore few scene begins_first (Want.Seat j)
          (looks_at_looking stage scene j (every_counts c.ask.op refl (λ bad. let never : ReadBlock j ≡ ReadStripe = sym is ∙ bad in cc)) (known.call.phase ∙ ap (λ (z : Op). first_phase z) is)) (let one = known.call.number_of_phase in omega (arith, one)) unheld
      go (WriteBlock j bytes) is =
          let fits : nat_lt j c.group.m ≡ true = sym (ap (λ (z : Op). has_block c.group.m z) is) ∙ known.call.block_fits in
          let long = and_parts (are_bytes bytes) (nat_eq (length bytes) setting.layout.block)
          (sym (ap (λ (z : Op). has_length c.group.m setting.layout.block z) is) ∙ known.call.length_fits) in
          block_first stage cast logs lore few sound.deltas
          (every_counts c.ask.op refl (λ bad. let never : WriteBlock j bytes ≡ ReadStripe = sym is ∙ bad in cc)) scene j begins_first (known.call.phase ∙ ap (λ (z : Op). first_phase z) is)
          (let one = known.call.number_of_phase in omega (arith, one)) unheld (ltb-true j c.group.m fits)
          (ap (λ (z : Op). length (block_written z)) is ∙ eqb-true (length bytes) setting.layout.block long.1)
      go ReadStripe is =
          look_first stage cast logs lore few scene begins_first Want.All
          (looks_looking stage scene (known.call.phase ∙ ap (λ (z : Op). first_phase z) is)) (let one = known.call.number_of_phase in omega (arith, one)) unheld
      go (WriteStripe bytes) is =
          write_first stage cast logs lore few
          (every_counts c.ask.op refl (λ bad. let never : WriteStripe bytes ≡ ReadStripe = sym is ∙ bad in cc)) scene begins_first (known.call.phase ∙ ap (λ (z : Op). first_phase z) is)
          (let one = known.call.number_of_phase in omega (arith, one))

  -- each brick serves the call
  member_of : (brick : BrickId) → is_one_of bricks brick ≡ true → IsMember stage w c.call brick
  member_of brick one =
      let is = ready brick one in
      record {
        up = is.up;
        group = known.call.groups brick.0 is.view;
        stripe = ap (λ (z : StripeNo). nat_lt z.0 c.group.stripes) known.call.stripe ∙ lt_so c.ask.stripe.0 c.group.stripes known.call.within;
        from_one = let some = known.call.from_one in let same = view_number in ne_eqb c.call.view.0 0 (λ none. omega (arith, some, same, none));
        view = is.view ∙ sym view_number;
        free = is.serves;
      }
    where
      lt_so : (a b : ℕ) → a < b → nat_lt a b ≡ true
      lt_so a b less = grind (arith, nat_tests)

  -- the world shows the scene
  shows : Shows stage n w scene
  shows = record {
    operation = o;
    is = calm.is;
    brick = refl;
    boot = sym known.call.boot;
    seq = sym known.call.seq;
    up = and_from (nat_lt o.brick.0 setting.layout.bricks) (w.up o.brick.0) known.call.brick opened.up;
    node_boot = opened.boot ∙ sym known.call.boot;
    call = ap (λ (k : ℕ). (w.nodes o.brick.0).calls k) known.call.seq ∙ opened.call;
    number = ap₂ (λ (b k : ℕ). w.numbers o.brick.0 b k) known.call.boot known.call.seq ∙ known.call.number;
    begun = known.call.begun;
    within = let seq = known.call.seq in let most = known.call.called in omega (arith, seq, most);
    clock = refl;
    known = refl;
    of = of;
    members = member_of;
    parts = λ brick one. record { replica = refl; live = refl };
    olds = λ may brick one. record { log = refl; unsynced = unsynced may brick one };
    queue = refl;
    unsent = known.messages.unsent;
  }

  -- its deliveries come to their end
  pub finishes : Finishes stage n c w
  finishes = plays stage n scene closes w shows

  -- where no more than a quorum of its members hear one another, what holds of those whose replies count holds of all these
  pub each_counts : length (filter (λ brick. is_some (seat_in c.group.members brick.0)) bricks) ≡ quorum_of c.group → (P : BrickId → Type 0)
      → Each (λ x. P x.brick) who → (brick : BrickId) → is_one_of bricks brick ≡ true → is_some (seat_in c.group.members brick.0) ≡ true
      → P brick
  each_counts exactly P each =
      has_chosen P bricks 0 c.group.members
      (counts_all (λ x. P x.brick) c.only q all most each)
    where
      most : length all ≤ q
      most =
          let few = chosen_few bricks 0 c.group.members known.logs.distinct in
          omega (arith, few, exactly)

  -- the operation comes to its end alone, and is answered
  pub ends_alone : EndsAlone setting w n bricks
  ends_alone =
      let finish = finishes in
      record {
        events = finish.events;
        last = finish.last;
        alone = finish.alone;
        over = λ others other runs.
            let same = runs_once setting n bricks w finish.events finish.last finish.alone others other runs in
            subst (λ (z : World). IsOver z n) same.1
            (record { closed = finish.end.closed; operation = finish.end.operation; is = finish.end.is; answered = finish.end.answered });
      }
