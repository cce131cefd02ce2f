-- A coordinator ends its operation: it answers that, or closes a read of its synchronisation.
use Rattle.std.proofs.lemmas.Bool.{false≢true}
use Rattle.std.proofs.Common.{◌≡◌, ℕ, ◌+◌, ◌-◌, ◌≤◌, ◌⊎◌, inl, inr, true, false, not, Bool, List, [], ◌∷◌, ◌++◌, length, Option, Some, None, refl, sym, ap, ◌∙◌, subst, ⊎_elim, arith}
use Rattle.std.specs.Prelude.{slice_get, is_some}
use Rattle.std.proofs.lemmas.Option.{same_Some}
use Rattle.std.proofs.lemmas.List.{length-append}
use Rattle.fab_base.specs.declared.identities.BrickId.{BrickId}
use Rattle.fab_base.specs.declared.stamps.Stamp.{Stamp}
use Rattle.fab_base.specs.declared.answers.Answer.{Answer}
use Rattle.fab_base.specs.declared.answers.Cause.{Cause}
use Rattle.fab_base.specs.declared.answers.Answer.TheVariants.{Data, Done, Aborted}
use Rattle.messages.specs.declared.packets.Packet.{Packet}
use Rattle.messages.specs.declared.requests.Request.TheVariants as Request
use Rattle.reg_model.specs.declared.marks.Mark.{Mark}
use Rattle.reg_model.specs.declared.marks.Mark.TheVariants.{End}
use Rattle.reg_model.specs.Marks.{life_of, position_of}
use Rattle.reg_model.specs.Walk.{last_of}
use Rattle.reg_model.specs.Registers.{read_of}
use Rattle.protocol.specs.Views.{Views, view_of}
use Rattle.protocol.specs.Happenings.{writes}
use Rattle.protocol.specs.Settings.{Setting}
use Rattle.protocol.specs.Coordinators.{Coordinator}
use Rattle.protocol.specs.Jobs.{abort_cause}
use Rattle.protocol.specs.Nodes.{Node, NodeStep, put, with_call, seen_told, collect_packets, read_closed}
use Rattle.protocol.specs.Worlds.{World, Operation, number_of, world_stepped, with_seen, with_answer, with_closed, is_answer, with_held, choices_after}
use Rattle.protocol_laws.proofs.MarkNumbers.{mark_at, mark_seen}
use Rattle.protocol_laws.proofs.Books.{version_after, Books, CallBooks, IsCall, IsOperation}
use Rattle.protocol_laws.proofs.Said.{Stamping, Said, Stands, WritesWhole, ReadsBack, PacketSays, HasVersion, OperationSays, CallSays, EndShows, IsCalled}
use Rattle.protocol.proofs.Tables.{put_each, put_same, put_twice, get_grown, get_one, sent_to_member}
use Rattle.reg_model.proofs.GrowingLives.{last_grows}
use Rattle.protocol_laws.proofs.Stampings.{ages_within, stamps_same}
use Rattle.protocol_laws.proofs.Steps.{KeepsStamps, stamps_stay_by}
use Rattle.protocol_laws.proofs.Growth.{Grows, Continues, stays_standing, stays_operation, stays_has_version}
use Rattle.protocol_laws.proofs.Operated.{operated, OperatedKeeps, operated_grows, said_operated}
use Rattle.protocol_laws.proofs.Stores.{open_until}

-- what must be known of an operation that ends by this answer, having seen this version
abbrev pub WillShow : Setting → World → Operation → Option Stamp → Answer → Type 0
WillShow setting w o seen (Data bytes) =
    (v : Stamp) × (version_after o.version seen ≡ Some v)
    × (read_of setting.layout.block o.ask.op (w.contents o.ask.group.0 o.ask.stripe.0 v) ≡ Some bytes)
WillShow setting w o seen Done = writes o.ask.op ≡ true
WillShow setting w o seen (Aborted cause) = Unit {0}

-- What must be so of an operation that ends by this answer, having seen and stored these versions: it keeps a version that it has; its version is one, and stands where it
-- was only seen, or where the operation is answered; a write that is answered has made one; the answer shows what it should; and what is collected is below what it made.
pub record EndsWell (setting : Setting) (views : Views) (w : World) (o : Operation) (answer : Answer) (seen stored : Option Stamp) : Type 0 where
  pub keeps_version : (v : Stamp) → o.version ≡ Some v → version_after o.version seen ≡ Some v
  pub has_version : (v : Stamp) → version_after o.version seen ≡ Some v → HasVersion setting views w o v
  pub stands : (v : Stamp) → version_after o.version seen ≡ Some v → (o.made ≡ false) ⊎ (is_answer answer ≡ true)
      → Stands setting views w o.ask.group.0 o.ask.stripe.0 v
  pub answered_made : is_answer answer ≡ true → writes o.ask.op ≡ true → o.made ≡ true
  pub shows : WillShow setting w o seen answer
  pub collects : (t : Stamp) → stored ≡ Some t → (o.made ≡ true) × (version_after o.version seen ≡ Some t) × (is_answer answer ≡ true)

-- how an answer closes a read of a synchronisation
closed_answered : (answer : Answer) → not (is_some (abort_cause answer)) ≡ is_answer answer
closed_answered (Data bytes) = refl
closed_answered Done = refl
closed_answered (Aborted cause) = refl

-- a read of a stripe that was answered saw or made a version of its view, which stands
pub read_stands : (setting : Setting) (views : Views) (w : World) (o : Operation) (answer : Answer) (seen stored : Option Stamp) → writes o.ask.op ≡ false
    → EndsWell setting views w o answer seen stored → abort_cause answer ≡ None
    → (v : Stamp) × (view_of v ≡ o.view) × Stands setting views w o.ask.group.0 o.ask.stripe.0 v
read_stands setting views w o (Data bytes) seen stored reads well none =
    let shown = well.shows in (shown.0, (well.has_version shown.0 shown.1).of, well.stands shown.0 shown.1 (inr refl))
read_stands setting views w o Done seen stored reads well none = absurd (false≢true (sym reads ∙ well.shows))
read_stands setting views w o (Aborted cause) seen stored reads well none = absurd (let never : Some cause ≡ None = none in cc)

module _ (setting : Setting) (views : Views) (w : World) (stamps : Stamping) (me : BrickId) (c : Coordinator) (known : ℕ)
    (books : Books setting w) (said : Said setting views w stamps) (is : IsCall w me.0 c.call.seq c)
    (more_known : (w.nodes me.0).known ≤ known) (answer : Answer) (seen stored : Option Stamp) where
  abbrev its : CallBooks setting w me.0 c.call.seq c
  its = books.calls me.0 c.call.seq c is

  abbrev o : Operation
  o = (books.calls me.0 c.call.seq c is).operation

  abbrev n : ℕ
  n = number_of w me.0 c.call.seq

  -- the operation that ended, where it saw this version, and closed so
  abbrev ended_by : Option Stamp → Option (Option Cause) → Operation
  ended_by saw closed =
      record {
        brick = o.brick;
        boot = o.boot;
        seq = o.seq;
        begin = o.begin;
        ask = o.ask;
        version = version_after o.version saw;
        made = o.made;
        base = o.base;
        answered = is_answer answer;
        mark = o.mark;
        closed = closed;
        view = o.view;
        floor = o.floor;
      }

  module _ (well : EndsWell setting views w o answer seen stored) (busy : ℕ) (marks : List Mark) (closed : Option (Option Cause))
      (longer : length w.marks ≤ length marks) (lasts : (a : ℕ) → last_of (life_of w.marks a) ≤ last_of (life_of marks a))
      (unended : 1 ≤ o.mark → length w.marks ≤ last_of (life_of marks o.mark))
      (added : (k q a : ℕ) (other : Answer) → slice_get marks k ≡ Some (End q a other)
      → (slice_get w.marks k ≡ Some (End q a other)) ⊎ ((o.mark ≡ a) × (other ≡ answer))) where
    abbrev ended : Operation
    ended = ended_by seen closed

    abbrev node : Node
    node = with_call (w.nodes me.0) known busy c.call.seq None

    abbrev next : World
    next = operated w me node (collect_packets me c stored) marks n ended w.contents

    on : Continues o ended
    on = record {
      brick = refl;
      boot = refl;
      seq = refl;
      begin = refl;
      ask = refl;
      view = refl;
      floor = refl;
      version = well.keeps_version;
      made = λ v has. refl;
      base = λ v has. refl;
      answered = λ was. absurd (false≢true (sym its.unanswered ∙ was));
      mark = refl;
    }

    keeps : OperatedKeeps w me node marks n o ended w.contents
    keeps = record {
      places = (refl, refl, refl);
      boot = refl;
      job = refl;
      is = its.operation_is;
      continues = on;
      kept = λ g s t made. refl;
      longer = longer;
      lasts = lasts;
      unended = unended;
    }

    grows : Grows w next stamps stamps
    grows =
        operated_grows setting views w stamps stamps me node (collect_packets me c stored) marks n o ended w.contents keeps said.logged (stamps_same stamps)

    ended_has : (v : Stamp) → version_after o.version seen ≡ Some v → HasVersion setting views next ended v
    ended_has v has =
        let old : HasVersion setting views next o v = stays_has_version setting views w next stamps stamps books grows o v (well.has_version v has) in
        record { made = old.made; of = old.of; reader = old.reader; guarded = old.guarded; floors = old.floors }

    -- the version of an operation that made one
    was_version : (v : Stamp) → o.made ≡ true → version_after o.version seen ≡ Some v → o.version ≡ Some v
    was_version v made has =
        let had = (said.operations n o its.operation_is).made made in
        had.2 ∙ ap (λ (t : Stamp). Some t) (same_Some had.0 v (sym (well.keeps_version had.0 had.2) ∙ has))

    -- how it was made
    ended_maker : (v : Stamp) → WritesWhole next o v ⊎ ReadsBack setting views next o v → WritesWhole next ended v ⊎ ReadsBack setting views next ended v
    ended_maker v (inl whole) = inl whole
    ended_maker v (inr back) = inr (record {
      base = back.base;
      base_is = back.base_is;
      op = back.op;
      below = back.below;
      made = back.made;
      content = back.content;
      blocked = back.blocked;
    })

    operation_says : OperationSays setting views next stamps n ended
    operation_says =
        let old : OperationSays setting views next stamps n o
        = stays_operation setting views w next stamps stamps books grows n o its.operation_is (said.operations n o its.operation_is) in
        record {
          begin = old.begin;
          view = old.view;
          passed = old.passed;
          floors = old.floors;
          floors_known = old.floors_known;
          fresh = old.fresh;
          made = λ made. let had = old.made made in (had.0, had.1, well.keeps_version had.0 had.2, had.3);
          maker = λ v made has. ended_maker v (old.maker v made (was_version v made has));
          content = λ v made has. old.content v made (was_version v made has);
          stands = λ v has how. stays_standing setting views w next stamps stamps books grows o.ask.group.0 o.ask.stripe.0 v (well.stands v has how);
          version = ended_has;
          answered = well.answered_made;
        }

    calls : (k : ℕ) (d : Coordinator) → node.calls k ≡ Some d
        → (((w.nodes me.0).calls k ≡ Some d) × KeepsStamps stamps stamps me.0 (w.nodes me.0).boot k) ⊎ CallSays setting views next stamps me.0 k d
    calls k d =
        put_each (λ j x. x ≡ Some d
        → (((w.nodes me.0).calls j ≡ Some d) × KeepsStamps stamps stamps me.0 (w.nodes me.0).boot j) ⊎ CallSays setting views next stamps me.0 j d)
        (w.nodes me.0).calls c.call.seq None
        (λ at. cc) (λ j other at. inl (at, λ p. refl)) k

    -- the call is that of the operation that ended
    called : IsCalled next me.0 c.call ended
    called = record {
      is = subst (λ (b : ℕ). IsOperation next (w.numbers me.0 b c.call.seq) ended) (sym its.call_boot) (put_same w.operations n (Some ended));
      brick = its.brick;
      boot = its.boot ∙ sym its.call_boot;
      seq = its.seq;
      group = ap (λ a. a.group.0) (sym its.ask) ∙ ap (λ g. g.0) (sym its.call_group);
      stripe = ap (λ a. a.stripe.0) (sym its.ask) ∙ ap (λ s. s.0) (sym its.call_stripe);
    }

    packets : (z : Option Stamp) → stored ≡ z → (k : ℕ) (packet : Packet) → slice_get (collect_packets me c z) k ≡ Some packet
        → PacketSays setting views next stamps packet
    packets None is k packet at = cc
    packets (Some t) is k packet at =
        let sent = sent_to_member me c.call (λ seat. Request.Collect t) 0 c.group.members k packet at in
        let made = well.collects t is in
        subst (λ (z : Packet). PacketSays setting views next stamps z) (sym sent.2)
        (record { operation = ended; called = called; made = made.0; version = made.1; answered = made.2 })

    end_shows : (a : Answer) → a ≡ answer → EndShows setting next o.mark a
    end_shows (Data bytes) same =
        let told : WillShow setting w o seen (Data bytes) = subst (λ (z : Answer). WillShow setting w o seen z) (sym same) well.shows in
        record {
          operation = ended;
          number = n;
          is = put_same w.operations n (Some ended);
          mark = refl;
          version = told.0;
          version_is = told.1;
          bytes_are = told.2;
        }
    end_shows Done same = (n, ended, put_same w.operations n (Some ended), refl, subst (λ (z : Answer). WillShow setting w o seen z) (sym same) well.shows)
    end_shows (Aborted cause) same = (n, ended, put_same w.operations n (Some ended), refl)

    ends : (k q a : ℕ) (other : Answer) → slice_get marks k ≡ Some (End q a other) → (slice_get w.marks k ≡ Some (End q a other))
        ⊎ EndShows setting next a other
    ends k q a other at = ⊎_elim
        (λ (old : slice_get w.marks k ≡ Some (End q a other)). inl old)
        (λ (new : (o.mark ≡ a) × (other ≡ answer)). inr (subst (λ (i : ℕ). EndShows setting next i other) new.0 (end_shows other new.1)))
        (added k q a other at)

    -- the invariant holds when an operation ended
    said_next : Said setting views next stamps
    said_next =
        said_operated setting views w stamps stamps me node (collect_packets me c stored) marks n o ended w.contents books said
        (stamps_same stamps) keeps
        (record {
          stamps_say = stamps_stay_by setting views w next stamps me.0 node said refl (ages_within (w.nodes me.0) node refl more_known (omega arith));
          stamps_other = λ i b k other p. refl;
          operation = operation_says;
          calls = calls;
          packets = packets stored refl;
          ends = ends;
        })

  -- the step that answers an operation, which saw this version
  abbrev step_by : Option Stamp → NodeStep
  step_by saw =
      record {
        node = with_call (w.nodes me.0) known ((w.nodes me.0).busy - 1) c.call.seq None;
        packets = collect_packets me c stored;
        told = seen_told c.call.seq saw;
        answers = record { seq = c.call.seq; answer = answer } ∷ [];
        reports = [];
      }

  -- the mark of its end
  abbrev end_mark : Mark
  end_mark = End (length w.marks) o.mark answer

  -- the world with these operations, and an End of this number
  abbrev next_with : ℕ → (ℕ → Option Operation) → World
  next_with mark operations =
      record w {
        nodes = put w.nodes me.0 (step_by None).node;
        packets = w.packets ++ collect_packets me c stored;
        marks = w.marks ++ (End (length w.marks) mark answer ∷ []);
        operations = operations;
        choices = choices_after w.choices me (step_by None).node [];
        held = with_held w.held me.0 (step_by None).node;
      }

  answered_is : (saw : Option Stamp)
      → world_stepped setting w me (step_by saw)
      ≡ operated w me (step_by None).node (collect_packets me c stored) (w.marks ++ (end_mark ∷ [])) n (ended_by saw o.closed) w.contents
  answered_is None =
      ap (λ (m : ℕ). next_with m (put w.operations n (with_answer answer (w.operations n)))) (mark_at w.operations n o its.operation_is)
      ∙ ap (λ (x : Option Operation). next_with o.mark (put w.operations n (with_answer answer x))) its.operation_is
  answered_is (Some v) =
      let saw : ℕ → Option Operation = put w.operations n (with_seen v (w.operations n)) in
      ap (λ (m : ℕ). next_with m (put saw n (with_answer answer (saw n)))) (mark_seen w.operations n v o its.operation_is)
      ∙ ap (next_with o.mark)
      (put_twice w.operations n (with_seen v (w.operations n)) (with_answer answer (saw n))
      ∙ ap (λ (x : Option Operation). put w.operations n (with_answer answer x))
      (put_same w.operations n (with_seen v (w.operations n)) ∙ ap (λ (x : Option Operation). with_seen v x) its.operation_is))

  placed : (k : ℕ) (mark : Mark) → slice_get w.marks k ≡ Some mark → position_of mark ≡ 0 + k
  placed k mark at = let place = books.places k mark at in omega (arith, place)

  -- the invariant holds when an operation that has marks is answered
  pub said_ended : 1 ≤ o.mark → EndsWell setting views w o answer seen stored → Said setting views (world_stepped setting w me (step_by seen)) stamps
  said_ended marked well =
      subst (λ (z : World). Said setting views z stamps) (sym (answered_is seen))
      (said_next well ((w.nodes me.0).busy - 1) (w.marks ++ (end_mark ∷ [])) o.closed
      (let longer : length (w.marks ++ (end_mark ∷ [])) ≡ length w.marks + 1 = length-append w.marks (end_mark ∷ []) in omega arith)
      (λ a. last_grows w.marks end_mark a placed refl)
      (λ from.
      let before = open_until setting w me.0 c.call.seq c books is from in
      let later = last_grows w.marks end_mark o.mark placed refl in
      omega (arith, before, later))
      (λ k q a other at. ⊎_elim
      (λ (old : slice_get w.marks k ≡ Some (End q a other)). inl old)
      (λ (new : (j : ℕ) × (slice_get (end_mark ∷ []) j ≡ Some (End q a other))).
      let same : end_mark ≡ End q a other = get_one end_mark (End q a other) new.0 new.1 in
      let number : o.mark ≡ a = cc in
      let by : other ≡ answer = cc in
      inr (number, by))
      (get_grown w.marks (end_mark ∷ []) k (End q a other) at)))

  -- the step that closes a read of a synchronisation, which saw this version
  abbrev pub close_by : Option Stamp → NodeStep
  close_by saw = read_closed me (w.nodes me.0) known c answer saw stored

  -- the world with these operations
  abbrev closed_with : (ℕ → Option Operation) → World
  closed_with operations =
      record w {
        nodes = put w.nodes me.0 (close_by None).node;
        packets = w.packets ++ collect_packets me c stored;
        operations = operations;
        choices = choices_after w.choices me (close_by None).node [];
        held = with_held w.held me.0 (close_by None).node;
      }

  -- the read, as it was closed
  abbrev pub read_ended : Option Stamp → Operation
  read_ended saw = ended_by saw (Some (abort_cause answer))

  closes_so : (version : Option Stamp)
      → with_closed (abort_cause answer) (Some (record o { version = version }))
      ≡ Some (record o { version = version; answered = is_answer answer; closed = Some (abort_cause answer) })
  closes_so version =
      ap (λ (b : Bool). Some (record o { version = version; answered = b; closed = Some (abort_cause answer) })) (closed_answered answer)

  closed_is : (saw : Option Stamp)
      → world_stepped setting w me (close_by saw)
      ≡ operated w me (close_by None).node (collect_packets me c stored) w.marks n (read_ended saw) w.contents
  closed_is None =
      ap (λ (x : Option Operation). closed_with (put w.operations n (with_closed (abort_cause answer) x))) its.operation_is
      ∙ ap (λ (x : Option Operation). closed_with (put w.operations n x)) (closes_so o.version)
  closed_is (Some v) =
      let saw : ℕ → Option Operation = put w.operations n (with_seen v (w.operations n)) in
      ap closed_with
      (put_twice w.operations n (with_seen v (w.operations n)) (with_closed (abort_cause answer) (saw n))
      ∙ ap (λ (x : Option Operation). put w.operations n (with_closed (abort_cause answer) x))
      (put_same w.operations n (with_seen v (w.operations n)) ∙ ap (λ (x : Option Operation). with_seen v x) its.operation_is)
      ∙ ap (λ (x : Option Operation). put w.operations n x) (closes_so (Some v)))

  module _ (unmarked : o.mark ≡ 0) (well : EndsWell setting views w o answer seen stored) where
    never_marked : {A : Type 0} → 1 ≤ o.mark → A
    never_marked from = absurd (omega (arith, from, unmarked))

    closed_next : Said setting views (operated w me (close_by None).node (collect_packets me c stored) w.marks n (read_ended seen) w.contents) stamps
    closed_next =
        said_next well (w.nodes me.0).busy w.marks (Some (abort_cause answer)) (omega arith) (λ a. omega arith) (λ from. never_marked from) (λ k q a other at. inl at)

    -- the invariant holds when a read of a synchronisation is closed
    pub said_closed : Said setting views (world_stepped setting w me (close_by seen)) stamps
    said_closed = subst (λ (z : World). Said setting views z stamps) (sym (closed_is seen)) closed_next

    -- what stood goes on standing then
    pub closed_stands : (g s : ℕ) (v : Stamp) → Stands setting views w g s v → Stands setting views (world_stepped setting w me (close_by seen)) g s v
    closed_stands g s v stands =
        subst (λ (z : World). Stands setting views z g s v) (sym (closed_is seen))
        (stays_standing setting views w (operated w me (close_by None).node (collect_packets me c stored) w.marks n (read_ended seen) w.contents) stamps stamps
        books
        (grows well (w.nodes me.0).busy w.marks (Some (abort_cause answer)) (omega arith) (λ a. omega arith) (λ from. never_marked from) (λ k q a other at. inl at))
        g s v stands)
