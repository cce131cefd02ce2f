-- A brick begins an operation, with a stamp that no part of any stripe has.
use Rattle.std.proofs.Common.{◌≡◌, ℕ, ◌+◌, ◌-◌, ◌≤◌, ◌⊎◌, inl, inr, Bool, false, not, List, [], ◌∷◌, ◌++◌, length, Option, Some, None, refl, sym, ap, ◌∙◌, subst, ⊎_elim, arith, ◌<◌}
use Rattle.std.proofs.Math.Path.{fun_ext}
use Rattle.std.proofs.lemmas.Option.{same_Some}
use Rattle.std.specs.Prelude.{slice_get}
use Rattle.std.proofs.lemmas.Bool.{false≢true}
use Rattle.std.proofs.lemmas.List.{length-append}
use Rattle.fab_base.specs.declared.identities.BrickId.{BrickId}
use Rattle.fab_base.specs.declared.stamps.Stamp.{Stamp}
use Rattle.fab_base.specs.declared.member_lists.View.{View}
use Rattle.fab_base.specs.Stamps.{stamp_below}
use Rattle.fab_base.specs.declared.answers.Answer.{Answer}
use Rattle.fab_base.specs.declared.asks.Ask.{Ask}
use Rattle.fab_base.specs.declared.asks.Op.{Op}
use Rattle.fab_base.specs.declared.asks.Op.TheVariants.{ReadBlock, WriteBlock, ReadStripe, WriteStripe}
use Rattle.messages.specs.declared.packets.Packet.{Packet}
use Rattle.reg_model.specs.declared.marks.Mark.{Mark}
use Rattle.reg_model.specs.declared.marks.Mark.TheVariants.{Begin, End}
use Rattle.reg_model.specs.Marks.{life_of}
use Rattle.reg_model.specs.Walk.{last_of}
use Rattle.fab_base.specs.Layouts.{Group, brick_at}
use Rattle.protocol.specs.Views.{Views, group_in, group_kept, view_of, floor_of}
use Rattle.protocol.specs.Settings.{Setting}
use Rattle.protocol.specs.Replicas.{top_of, Replica}
use Rattle.protocol.specs.declared.phases.Phase.{Phase}
use Rattle.protocol.specs.declared.phases.Phase.TheVariants.{Looks, LooksAt, Orders, OrdersAt, Recovers, Descends, Modifies, Bases, Stores, LooksBack}
use Rattle.protocol.specs.Coordinators.{Coordinator, request_of, asked_group}
use Rattle.protocol.specs.Jobs.{Job}
use Rattle.protocol.specs.Nodes.{Node, NodeStep, put, first_phase, new_coordinator, began_in, read_begun_by, phase_packets, top_at, view_at, view_floor, begun_aside, reading_aside, scrubbing, scrub_coordinator}
use Rattle.protocol.specs.Worlds.{World, Operation, Choices, world_began, world_stepped, with_call_number, with_held, choices_after}
use Rattle.view_laws.proofs.SyncReads.{read_call}
use Rattle.protocol_laws.proofs.Blocking.{PartsStay, NewIsLogged, stands_stays}
use Rattle.protocol_laws.proofs.Books.{Books, IsOperation}
use Rattle.protocol_laws.proofs.Said.{Begun, Stamping, Said, IsSaid, IsBegun, IsStamped, IsKnown, IsStampOf, IsCalled, FitsPhase, ReadSays, want_of, RequestSays, PacketSays, OperationSays, CallSays, IsInOrder, DescendsFrom, base_in, FloorsAbove, bound_in, JobSays, ArePassed}
use Rattle.protocol.proofs.Tables.{put_each, put_same, get_grown, get_one, sent_to_member}
use Rattle.reg_model.proofs.GrowingLives.{last_grows}
use Rattle.protocol_laws.proofs.Growth.{Grows, continues_same, stay_passed, guarded_stays}
use Rattle.protocol_laws.proofs.Steps.{KeepsStamps, keeps_same, parts_kept, parts_by, sent_by, ages_by, calls_by, jobs_by, phase_asked, said_after, new_none, new_by, part_same}
use Rattle.protocol_laws.proofs.Stampings.{ComesFrom, ages_within, stays_known, later_unknown, with_stamp, stamp_now, stamps_other, stamp_last, stamps_grow, stamps_say}
use Rattle.protocol_laws.specs.Laws.{AtQuorum, IsGuarded, part_in, top_in, Follows}
use Rattle.protocol_laws.proofs.Tops.{top_cases, top_same, floor_time}
use Rattle.protocol.specs.Scrubs.{Scrub, scrub_ask}
use Rattle.fab_base.specs.declared.identities.StripeNo.{StripeNo}
use Rattle.fab_base.specs.declared.identities.GroupId.{GroupId}
use Rattle.protocol_laws.proofs.BooksBegins.{coordinator_of}

-- an operation fits its first phase
first_fits : (op : Op) → FitsPhase (first_phase op) op
first_fits (ReadBlock j) = refl
first_fits (WriteBlock j bytes) = (bytes, refl)
first_fits ReadStripe = refl
first_fits (WriteStripe bytes) = (bytes, refl)

-- a phase that an operation may begin in
abbrev IsFirstPhase : Phase → Type 0
IsFirstPhase Looks = Unit {0}
IsFirstPhase (LooksAt j) = Unit {0}
IsFirstPhase Orders = Unit {0}
IsFirstPhase (OrdersAt j) = Unit {0}
IsFirstPhase phase = ⊥

is_first : (op : Op) → IsFirstPhase (first_phase op)
is_first (ReadBlock j) = tt
is_first (WriteBlock j bytes) = tt
is_first ReadStripe = tt
is_first (WriteStripe bytes) = tt

module _ (setting : Setting) (views : Views) (w : World) (stamps : Stamping) (me : BrickId) (now : ℕ) (ask : Ask) (view : View) (group : Group)
    (only : Option (List BrickId)) (books : Books setting w) (some : 1 ≤ view.number.0) (learnt : view.number.0 ≤ view_at (w.nodes me.0) ask.group.0)
    (passed : ArePassed setting views w ask.group.0 view.number.0) (said : Said setting views w stamps) (group_is : group_in setting.layout views ask.group.0 view.number.0 ≡ Some group)
    (prior : 1 < view.number.0 → view.prior ≡ views ask.group.0 (view.number.0 - 1)) (busy : ℕ) (job : Option Job) (scrub : Option Scrub) (held : ℕ → ℕ → ℕ → Stamp → Bool)
    (marks : List Mark) (marked mark : ℕ) (floor : ℕ → Stamp) (choices : Choices) where
  -- the brick before
  abbrev old : Node
  old = w.nodes me.0

  -- its new coordinator
  abbrev c : Coordinator
  c = coordinator_of group view only me now (w.nodes me.0) ask

  -- the brick after
  abbrev node : Node
  node =
      record (w.nodes me.0) {
        seq = c.call.seq;
        known = c.stamp.time;
        busy = busy;
        calls = put (w.nodes me.0).calls c.call.seq (Some c);
        job = job;
        scrub = scrub;
      }

  -- the phase that is begun
  abbrev first : Begun
  first = record { stamp = c.stamp; phase = c.phase }

  -- the stamps after
  abbrev later : Stamping
  later = with_stamp stamps me.0 c.call.boot c.call.seq c.call.phase first

  -- the new operation
  abbrev new : Operation
  new =
      record {
        brick = me;
        boot = c.call.boot;
        seq = c.call.seq;
        begin = length w.marks;
        ask = ask;
        version = None;
        made = false;
        base = None;
        answered = false;
        mark = mark;
        closed = None;
        view = view.number.0;
        floor = floor;
      }

  abbrev next : World
  next =
      record w {
        nodes = put w.nodes me.0 node;
        held = held;
        packets = w.packets ++ phase_packets setting me c;
        marks = marks;
        marked = marked;
        begun = w.begun + 1;
        operations = put w.operations (w.begun + 1) (Some new);
        numbers = with_call_number w.numbers me.0 c.call (w.begun + 1);
        choices = choices;
      }

  -- the new stamp is the brick's, and nobody knows it
  own : IsStampOf node me.0 c.call.boot c.stamp
  own = record { view = some; boot = refl; booted = omega arith; brick = refl; positive = omega arith; bounded = λ now. omega arith }

  unknown : IsKnown stamps c.stamp → ⊥
  unknown = later_unknown w stamps said.stamps_say node me.0 c.stamp own (omega arith)

  from : ComesFrom stamps me.0 c.call.boot c.call.seq c.stamp
  from = inr (unknown, own.positive)

  -- the new call has no stamp before
  no_stamp : (p : ℕ) (z : Option Begun) → stamps me.0 c.call.boot c.call.seq p ≡ z → z ≡ None
  no_stamp p None is = refl
  no_stamp p (Some b) is =
      absurd (let begun = said.stamps_say.begun me.0 c.call.boot c.call.seq p b.stamp (b.phase, is) in omega (arith, begun.1 refl))

  none : (p : ℕ) → c.call.phase ≤ p → stamps me.0 c.call.boot c.call.seq p ≡ None
  none p most = no_stamp p (stamps me.0 c.call.boot c.call.seq p) refl

  -- the numbers of its boot's calls, with the new one
  abbrev row : ℕ → ℕ
  row = put (w.numbers me.0 c.call.boot) c.call.seq (w.begun + 1)

  numbered : (i b k : ℕ) → (b ≡ (w.nodes i).boot → k ≤ (w.nodes i).seq) → next.numbers i b k ≡ w.numbers i b k
  numbered =
      put_each (λ j table. (b k : ℕ) → (b ≡ (w.nodes j).boot → k ≤ (w.nodes j).seq) → table b k ≡ w.numbers j b k) w.numbers me.0
      (put (w.numbers me.0) c.call.boot row)
      (put_each (λ b line. (k : ℕ) → (b ≡ (w.nodes me.0).boot → k ≤ (w.nodes me.0).seq) → line k ≡ w.numbers me.0 b k) (w.numbers me.0)
      c.call.boot row
      (put_each (λ k v. (c.call.boot ≡ (w.nodes me.0).boot → k ≤ (w.nodes me.0).seq) → v ≡ w.numbers me.0 c.call.boot k)
      (w.numbers me.0 c.call.boot) c.call.seq (w.begun + 1) (λ within. absurd (omega (arith, within refl))) (λ k other within. refl))
      (λ b other k within. refl))
      (λ j other b k within. refl)

  number_now : next.numbers me.0 c.call.boot c.call.seq ≡ w.begun + 1
  number_now =
      ap (λ table. table c.call.boot c.call.seq) (put_same w.numbers me.0 (put (w.numbers me.0) c.call.boot row))
      ∙ ap (λ line. line c.call.seq) (put_same (w.numbers me.0) c.call.boot row)
      ∙ put_same (w.numbers me.0 c.call.boot) c.call.seq (w.begun + 1)

  goes_on : (n : ℕ) (o : Operation) → IsOperation w n o → IsOperation next n o
  goes_on n o =
      put_each (λ i x. IsOperation w i o → x ≡ Some o) w.operations (w.begun + 1) (Some new)
      (λ is. absurd (let most = (books.operations (w.begun + 1) o is).begun in omega (arith, most)))
      (λ i other is. is) n

  module _ (parts : PartsStay w next) (fresh : NewIsLogged w next) (longer : length w.marks ≤ length marks)
      (lasts : (a : ℕ) → last_of (life_of w.marks a) ≤ last_of (life_of marks a))
      (no_ends : (k q a : ℕ) (answer : Answer) → slice_get marks k ≡ Some (End q a answer) → slice_get w.marks k ≡ Some (End q a answer))
      (floor_is : (i : ℕ) → floor i ≡ top_at (w.nodes i) ask.group.0 ask.stripe.0)
      (jobs : (j : Job) → job ≡ Some j → ((w.nodes me.0).job ≡ Some j) ⊎ JobSays setting views next me.0 j) where
    grows : Grows w next stamps later
    grows = record {
      parts = parts;
      fresh = fresh;
      sent = sent_by w next (phase_packets setting me c) refl;
      operations = λ n o is. (o, goes_on n o is, continues_same o);
      contents = λ g s t made. refl;
      grow = stamps_grow stamps me.0 c.call.boot c.call.seq c.call.phase first none from;
      numbered = numbered;
      marks = longer;
    }

    called : IsCalled next me.0 c.call new
    called = record {
      is = subst (λ (n : ℕ). IsOperation next n new) (sym number_now) (put_same w.operations (w.begun + 1) (Some new));
      brick = refl;
      boot = refl;
      seq = refl;
      group = refl;
      stripe = refl;
    }

    -- how far a brick had come when the operation began: as far as it had learnt, or as its part had
    floor_known : (i : ℕ) → IsKnown stamps (new.floor i) ⊎ ((new.floor i).time ≡ 0)
    floor_known i = ⊎_elim
        (λ (low : top_at (w.nodes i) ask.group.0 ask.stripe.0 ≡ view_floor (w.nodes i) ask.group.0).
        inr (ap (λ (z : Stamp). z.time) (floor_is i ∙ low) ∙ floor_time _))
        (λ (part : top_at (w.nodes i) ask.group.0 ask.stripe.0 ≡ top_of (part_in w ask.group.0 (view_at (w.nodes i) ask.group.0) ask.stripe.0 i)).
        inl (subst (λ (z : Stamp). IsKnown stamps z) (sym (floor_is i ∙ part)) (said.tops ask.group.0 (view_at (w.nodes i) ask.group.0) ask.stripe.0 i)))
        (top_cases (w.nodes i) ask.group.0 ask.stripe.0)

    operation_says : OperationSays setting views next later (w.begun + 1) new
    operation_says = record {
      begin = grows.marks;
      view = (some, (let rises = parts.views me.0 ask.group.0 in omega (arith, rises, learnt)));
      passed = stay_passed setting views w next stamps later books grows ask.group.0 view.number.0 passed;
      floors = λ i.
          subst (λ (t : Stamp). stamp_below (top_in next ask.group.0 ask.stripe.0 i) t ≡ false) (sym (floor_is i)) (parts.tops ask.group.0 ask.stripe.0 i);
      floors_known = λ i. ⊎_elim
          (λ (known : IsKnown stamps (new.floor i)). inl (stays_known stamps later grows.grow (new.floor i) known))
          (λ (none : (new.floor i).time ≡ 0). inr none)
          (floor_known i);
      fresh = λ i p stamped. ⊎_elim
          (λ (own_was : (q : ℕ) × IsStamped stamps me.0 c.call.boot c.call.seq q (new.floor i)).
          let begun = said.stamps_say.begun me.0 c.call.boot c.call.seq own_was.0 (new.floor i) own_was.1 in omega (arith, begun.1 refl))
          (λ (never : (IsKnown stamps (new.floor i) → ⊥) × (1 ≤ (new.floor i).time)). ⊎_elim never.0
          (λ (none : (new.floor i).time ≡ 0). omega (arith, none, never.1)) (floor_known i))
          (grows.grow.newer me.0 c.call.boot c.call.seq p (new.floor i) stamped);
      made = λ made. absurd (false≢true made);
      maker = λ v made version. absurd (false≢true made);
      content = λ v made version group group_is. absurd (false≢true made);
      stands = λ v has how. cc;
      version = λ v has. cc;
      answered = λ answered writes. absurd (false≢true answered);
    }

    begun_now : IsBegun later me.0 c.call.boot c.call.seq c.call.phase c.phase c.stamp
    begun_now = stamp_now stamps me.0 c.call.boot c.call.seq c.call.phase first

    fits : FitsPhase (first_phase ask.op) ask.op
    fits = first_fits ask.op

    -- a first phase is none of the others
    other_phase : (p : Phase) → first_phase ask.op ≡ p → IsFirstPhase p
    other_phase p is = subst (λ (q : Phase). IsFirstPhase q) is (is_first ask.op)

    from_first : DescendsFrom (first_phase ask.op) ask.op c.stamp
    from_first = record {
      most = λ bound is. absurd (other_phase (Descends bound) is);
      lower = λ bound is reads. absurd (other_phase (Descends bound) is);
    }

    -- the first request of a read
    read_in : (p : Phase) → first_phase ask.op ≡ p → ReadSays next later me.0 c.call (want_of p)
    read_in p is =
        record {
          operation = new;
          called = called;
          phase = p;
          stamp = c.stamp;
          begun = subst (λ (p : Phase). IsBegun later me.0 c.call.boot c.call.seq c.call.phase p c.stamp) is begun_now;
          want_is = refl;
        }

    -- the first request
    request_in : (p : Phase) → first_phase ask.op ≡ p → (j seat : ℕ)
        → RequestSays setting views next later me.0 j c.call (request_of setting.code (record c { phase = p }) seat)
    unfolding request_of
    request_in Looks is j seat = read_in Looks is
    request_in (LooksAt d) is j seat = read_in (LooksAt d) is
    request_in Orders is j seat =
        record {
          operation = new;
          called = called;
          begun = subst (λ (p : Phase). IsBegun later me.0 c.call.boot c.call.seq c.call.phase p c.stamp) is begun_now;
          fits = subst (λ (p : Phase). FitsPhase p ask.op) is fits;
        }
    request_in (OrdersAt d) is j seat =
        record {
          operation = new;
          called = called;
          phase = OrdersAt d;
          begun = subst (λ (p : Phase). IsBegun later me.0 c.call.boot c.call.seq c.call.phase p c.stamp) is begun_now;
          ahead = refl;
          look_is = refl;
          want_is = refl;
          fits = subst (λ (p : Phase). FitsPhase p ask.op) is fits;
          from = subst (λ (p : Phase). DescendsFrom p ask.op c.stamp) is from_first;
          below = λ e less. less;
        }
    request_in Recovers is j seat = absurd (other_phase Recovers is)
    request_in (Descends bound) is j seat = absurd (other_phase (Descends bound) is)
    request_in (LooksBack bound) is j seat = absurd (other_phase (LooksBack bound) is)
    request_in (Modifies base d) is j seat = absurd (other_phase (Modifies base d) is)
    request_in (Bases base) is j seat = absurd (other_phase (Bases base) is)
    request_in Stores is j seat = absurd (other_phase Stores is)

    request_says : (j seat : ℕ) → RequestSays setting views next later me.0 j c.call (request_of setting.code c seat)
    request_says j seat = request_in (first_phase ask.op) refl j seat

    not_based : (p : Phase) (base : Stamp) → first_phase ask.op ≡ p → base_in p ≡ Some base → ⊥
    not_based (Modifies u d) base is has = other_phase (Modifies u d) is
    not_based (Bases u) base is has = other_phase (Bases u) is
    not_based p base is has = cc

    not_bounded : (p : Phase) (bound : Stamp) → first_phase ask.op ≡ p → bound_in p c.stamp ≡ Some bound → ⊥
    not_bounded (Descends b) bound is has = other_phase (Descends b) is
    not_bounded (LooksBack b) bound is has = other_phase (LooksBack b) is
    not_bounded p bound is has = cc

    -- the brick's boot stays
    boot_now : (next.nodes me.0).boot ≡ c.call.boot
    boot_now = ap (λ (x : Node). x.boot) (put_same w.nodes me.0 node)

    calls : (k : ℕ) (d : Coordinator) → node.calls k ≡ Some d
        → (((w.nodes me.0).calls k ≡ Some d) × KeepsStamps stamps later me.0 c.call.boot k) ⊎ CallSays setting views next later me.0 k d
    calls k d =
        put_each (λ j x. x ≡ Some d
        → (((w.nodes me.0).calls j ≡ Some d) × KeepsStamps stamps later me.0 c.call.boot j) ⊎ CallSays setting views next later me.0 j d)
        (w.nodes me.0).calls c.call.seq (Some c)
        (λ at. let same : c ≡ d = cc in
        inr (subst (λ (z : Coordinator). CallSays setting views next later me.0 c.call.seq z) same
        (record {
          group = group_is;
          prior = prior;
          begun = subst (λ (b : ℕ). IsBegun later me.0 b c.call.seq c.call.phase c.phase c.stamp) (sym boot_now) begun_now;
          last = λ p less.
              subst (λ (b : ℕ). later me.0 b c.call.seq p ≡ None) (sym boot_now)
              (stamp_last stamps me.0 c.call.boot c.call.seq c.call.phase first none from p less);
          asked = phase_asked setting next me c w.packets refl;
          fits = fits;
          unbased = λ orders. refl;
          given = λ orders. refl;
          above = λ bound descends. absurd (other_phase (Descends bound) descends);
          from = from_first;
          back = λ bound looks. absurd (other_phase (LooksBack bound) looks);
          covered = λ bound has. absurd (not_bounded (first_phase ask.op) bound refl has);
          stores = λ stores. absurd (other_phase Stores stores);
          based = λ base has. absurd (not_based (first_phase ask.op) base refl has);
          counted = tt;
          once = tt;
        })))
        (λ j other at. inl (at, stamps_other stamps me.0 c.call.boot c.call.seq c.call.phase first me.0 c.call.boot j (λ brick same. other same))) k

    -- what holds of how far the bricks have come holds of its floors
    by_floors : (P : (ℕ → Stamp) → Type 0) → P (λ i. top_at (w.nodes i) ask.group.0 ask.stripe.0) → P floor
    by_floors P holds = subst P (fun_ext (λ i. sym (floor_is i))) holds

    -- once a version was there, the bricks have come as far when the operation begins
    floors_above : (a : ℕ) (earlier : Operation) (u : Stamp) → IsOperation w a earlier → earlier.ask.group.0 ≡ ask.group.0
        → earlier.ask.stripe.0 ≡ ask.stripe.0 → earlier.version ≡ Some u → FloorsAbove setting views new u
    floors_above a earlier u is groups stripes version =
        let says = said.operations a earlier is in
        let has = says.version u version in
        record {
          own = λ z z_is.
              let guarded = has.guarded z (ap (λ (g : ℕ). group_in setting.layout views g (view_of u)) groups ∙ z_is) in
              by_floors (λ f. AtQuorum z (λ seat. not (stamp_below (f (brick_at z seat)) u)))
              (subst (λ (s : ℕ). IsGuarded w ask.group.0 s z u) stripes
              (subst (λ (g : ℕ). IsGuarded w g earlier.ask.stripe.0 z u) groups guarded));
          before = λ e z least less z_is.
              by_floors (λ f. AtQuorum z (λ seat. not (stamp_below (f (brick_at z seat)) (floor_of (e + 1)))))
              (subst (λ (g : ℕ). IsGuarded w g ask.stripe.0 z (floor_of (e + 1))) groups
              (says.passed e ask.stripe.0 z least (let of = has.of in omega (arith, of, less))
              (ap (λ (g : ℕ). group_in setting.layout views g e) groups ∙ z_is)));
        }

    in_order : IsInOrder setting views next
    in_order a b earlier late u earlier_is late_is groups stripes from version =
        put_each (λ i x. x ≡ Some earlier
        → FloorsAbove setting views late u ⊎ (late.begin ≤ last_of (life_of next.marks earlier.mark))) w.operations (w.begun + 1) (Some new)
        (λ is. let same : new ≡ earlier = cc in let none : None ≡ Some u = ap (λ (z : Operation). z.version) same ∙ version in cc)
        (λ i other is.
        put_each (λ j x. x ≡ Some late
        → FloorsAbove setting views late u ⊎ (late.begin ≤ last_of (life_of next.marks earlier.mark))) w.operations (w.begun + 1) (Some new)
        (λ its.
        let same : new ≡ late = cc in
        inl (subst (λ (y : Operation). FloorsAbove setting views y u) same
        (floors_above i earlier u is (groups ∙ ap (λ (y : Operation). y.ask.group.0) (sym same))
        (stripes ∙ ap (λ (y : Operation). y.ask.stripe.0) (sym same)) version)))
        (λ j apart its. ⊎_elim
        (λ (floors : FloorsAbove setting views late u). inl floors)
        (λ (before : late.begin ≤ last_of (life_of w.marks earlier.mark)). inr (omega (arith, before, lasts earlier.mark)))
        (said.order i j earlier late u is its groups stripes from version))
        b late_is)
        a earlier_is

    -- the invariant holds when an operation began
    said_next : IsSaid setting views next
    said_next = (
      later,
      said_after setting views w next stamps later books said grows (record {
        stamps_say = stamps_say stamps me.0 c.call.boot c.call.seq c.call.phase first none from w next said.stamps_say
            (ages_by w next me.0 node refl (ages_within (w.nodes me.0) node refl (omega arith) (omega arith)))
            (subst (λ (x : Node). IsStampOf x me.0 c.call.boot c.stamp) (sym (put_same w.nodes me.0 node)) own) (omega arith)
            (λ now. let here : (put w.nodes me.0 node me.0).seq ≡ c.call.seq = ap (λ (x : Node). x.seq) (put_same w.nodes me.0 node) in omega arith);
        tops = λ g e s i. inl (ap (λ (r : Replica). top_of r) (part_same w next me.0 node refl refl g e s i));
        logs = λ g e s i k version is. inl (k, ap (λ (r : Replica). slice_get r.log k) (sym (part_same w next me.0 node refl refl g e s i)) ∙ is);
        lowest = λ g e s i x log within is. inl (log, ap (λ (r : Replica). r.log) (sym (part_same w next me.0 node refl refl g e s i)) ∙ is);
        packets = λ k packet is. ⊎_elim
            (λ (there : slice_get w.packets k ≡ Some packet). inl there)
            (λ (sent : (j : ℕ) × (slice_get (phase_packets setting me c) j ≡ Some packet)).
            let to = sent_to_member me c.call (request_of setting.code c) 0 (asked_group c).members sent.0 packet sent.1 in
            inr (subst (λ (z : Packet). PacketSays setting views next later z) (sym to.2) (request_says to.0.0 (0 + sent.0))))
            (get_grown w.packets (phase_packets setting me c) k packet is);
        operations = λ a e.
            put_each (λ i x. x ≡ Some e → IsOperation w i e ⊎ OperationSays setting views next later i e) w.operations (w.begun + 1) (Some new)
            (λ is. let same : new ≡ e = cc in inr (subst (λ (z : Operation). OperationSays setting views next later (w.begun + 1) z) same operation_says))
            (λ i other is. inl is) a;
        calls = λ i k d.
            calls_by setting views w next stamps later me.0 node refl refl k d (calls k d)
            (λ j other. stamps_other stamps me.0 c.call.boot c.call.seq c.call.phase first j (w.nodes j).boot k (λ brick same. other brick)) i;
        jobs = jobs_by setting views w next me.0 node refl jobs;
        ends = λ k q a answer at. inl (no_ends k q a answer at);
        order = in_order;
      }),
    )

-- a brick begins an operation that it is asked for
module _ (setting : Setting) (views : Views) (w : World) (stamps : Stamping) (me : BrickId) (ask : Ask) (group : Group) (books : Books setting w)
    (some : 1 ≤ view_at (w.nodes me.0) ask.group.0) (follows : Follows setting.layout views w) (said : Said setting views w stamps)
    (group_is : group_in setting.layout views ask.group.0 (view_at (w.nodes me.0) ask.group.0) ≡ Some group) where
  -- the mark of its beginning
  abbrev begin_mark : Mark
  begin_mark = Begin (length w.marks) (w.marked + 1) me ask

  -- the step
  abbrev began_step : NodeStep
  began_step = began_in setting me (w.nodes me.0) (new_coordinator group me (w.clocks me.0) (w.nodes me.0) ask)

  abbrev began_world : World
  began_world = world_began w me ask began_step

  -- the invariant holds when an operation began
  pub said_began : IsSaid setting views began_world
  said_began =
      said_next setting views w stamps me (w.clocks me.0) ask ((w.nodes me.0).learnt ask.group.0).view group None books some (omega arith)
      (λ e s z least less z_is. follows.passed me.0 ask.group.0 e s z least less z_is) said group_is
      (follows.prior me.0 ask.group.0) ((w.nodes me.0).busy + 1) (w.nodes me.0).job (w.nodes me.0).scrub w.held (w.marks ++ (begin_mark ∷ [])) (w.marked + 1) (w.marked + 1)
      (λ i. top_at (w.nodes i) ask.group.0 ask.stripe.0) w.choices
      (parts_kept w began_world me.0 began_step.node refl refl said.logged (refl, refl, refl))
      (new_none w began_world refl)
      (let longer : length (w.marks ++ (begin_mark ∷ [])) ≡ length w.marks + 1 = length-append w.marks (begin_mark ∷ []) in omega arith)
      (λ a. last_grows w.marks begin_mark a (λ k mark at. let place = books.places k mark at in omega (arith, place)) refl)
      (λ k q a answer at. ⊎_elim
      (λ (there : slice_get w.marks k ≡ Some (End q a answer)). there)
      (λ (added : (j : ℕ) × (slice_get (begin_mark ∷ []) j ≡ Some (End q a answer))).
      let bad : begin_mark ≡ End q a answer = get_one begin_mark (End q a answer) added.0 added.1 in
      absurd (let no : ⊥ = cc in no))
      (get_grown w.marks (begin_mark ∷ []) k (End q a answer) at))
      (λ i. refl) (λ j is. inl is)

-- a brick begins a read of its own, in a view that it knows
module _ (setting : Setting) (views : Views) (w : World) (stamps : Stamping) (me : BrickId) (now : ℕ) (number : GroupId) (stripe : StripeNo) (view : View)
    (group : Group) (only : Option (List BrickId)) (job : Option Job) (scrub : Option Scrub) (books : Books setting w) (said : Said setting views w stamps)
    (some : 1 ≤ view.number.0) (learnt : view.number.0 ≤ view_at (w.nodes me.0) number.0) (passed : ArePassed setting views w number.0 view.number.0)
    (its_group : group_in setting.layout views number.0 view.number.0 ≡ Some group)
    (prior : 1 < view.number.0 → view.prior ≡ views number.0 (view.number.0 - 1)) where
  -- its coordinator, and the brick that has begun it
  abbrev reader : Coordinator
  reader = coordinator_of group view only me now (w.nodes me.0) (scrub_ask number stripe)

  abbrev aside : Node
  aside = record (reading_aside (w.nodes me.0) reader) { job = job; scrub = scrub }

  abbrev aside_world : World
  aside_world = world_stepped setting w me (begun_aside setting me aside reader)

  aside_parts : PartsStay w aside_world
  aside_parts = parts_by w aside_world me.0 aside refl refl said.logged (keeps_same (w.nodes me.0) aside (refl, refl, refl))

  -- the invariant holds when it began
  said_aside : (PartsStay w aside_world → (j : Job) → job ≡ Some j → ((w.nodes me.0).job ≡ Some j) ⊎ JobSays setting views aside_world me.0 j)
      → IsSaid setting views aside_world
  said_aside jobs =
      said_next setting views w stamps me now (scrub_ask number stripe) view group only books some learnt passed said its_group prior
      (w.nodes me.0).busy job scrub (with_held w.held me.0 aside) w.marks w.marked 0
      (λ i. top_at (put w.nodes me.0 aside i) number.0 stripe.0) (choices_after w.choices me aside [])
      aside_parts (new_by w aside_world me.0 aside refl refl) (omega arith) (λ a. omega arith) (λ k q a answer at. at)
      (λ i. put_each (λ j (n : Node). top_at n number.0 stripe.0 ≡ top_at (w.nodes j) number.0 stripe.0) w.nodes me.0 aside
      (top_same (w.nodes me.0) aside (refl, refl, refl) number.0 stripe.0) (λ j other. refl) i)
      (jobs aside_parts)

-- a brick begins a read of its synchronisation
module _ (setting : Setting) (views : Views) (w : World) (stamps : Stamping) (me : BrickId) (now : ℕ) (job : Job) (group : Group) (books : Books setting w)
    (said : Said setting views w stamps) (says : JobSays setting views w me.0 job)
    (group_is : group_kept setting.layout job.view.members job.group.0 ≡ Some group) where
  abbrev read : NodeStep
  read = read_begun_by setting me (w.nodes me.0) job (read_call group job me now (w.nodes me.0))

  abbrev read_world : World
  read_world = world_stepped setting w me read

  -- the view has these members
  its_group : group_in setting.layout views job.group.0 job.view.number.0 ≡ Some group
  its_group = ap (λ (members : List BrickId). group_kept setting.layout members job.group.0) (sym says.members) ∙ group_is

  -- the invariant holds when a read began
  pub said_read : IsSaid setting views read_world
  said_read =
      said_aside setting views w stamps me now job.group (record { 0 = job.attempt.stripe }) job.view group None read.node.job (w.nodes me.0).scrub books said
      says.known.0 says.known.1 says.passed its_group says.prior
      (λ parts j is. inr (subst (λ (z : Job). JobSays setting views read_world me.0 z) (same_Some (record job { seq = (w.nodes me.0).seq + 1 }) j is) (record {
        known = (says.known.0, (let rises = parts.views me.0 job.group.0 in let was = says.known.1 in omega (arith, rises, was)));
        members = says.members;
        prior = says.prior;
        passed = λ e s z least less z_is.
            guarded_stays w read_world parts.tops job.group.0 s z (floor_of (e + 1)) (says.passed e s z least less z_is);
        read = λ s before. let had = says.read s before in (
          had.0,
          had.1,
          (λ z z_is. stands_stays w read_world parts job.group.0 s z had.0 (had.2 z z_is)),
        );
      })))

-- a brick begins a scrub, in the view that it has learnt
pub said_scrub : (setting : Setting) (views : Views) (w : World) (stamps : Stamping) (me : BrickId) (now : ℕ) (number : GroupId) (stripe : StripeNo)
    (members : List BrickId) (group : Group) → Books setting w → Said setting views w stamps → 1 ≤ view_at (w.nodes me.0) number.0
    → Follows setting.layout views w → group_in setting.layout views number.0 (view_at (w.nodes me.0) number.0) ≡ Some group
    → (let its = scrub_coordinator group me now (w.nodes me.0) number stripe members in
    IsSaid setting views (world_stepped setting w me (begun_aside setting me (scrubbing (w.nodes me.0) its) its)))
said_scrub setting views w stamps me now number stripe members group books said some follows its_group =
    let its : Coordinator = scrub_coordinator group me now (w.nodes me.0) number stripe members in
    said_aside setting views w stamps me now number stripe ((w.nodes me.0).learnt number.0).view group (Some members) (w.nodes me.0).job
    (scrubbing (w.nodes me.0) its).scrub books said some (omega arith)
    (λ e s z least less z_is. follows.passed me.0 number.0 e s z least less z_is) its_group (follows.prior me.0 number.0)
    (λ parts j is. inl is)
