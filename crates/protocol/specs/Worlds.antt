-- The whole disk, and what a schedule of steps makes of it. Every message that was ever sent may be
-- delivered, once, often or never, in any order: that is all that a network may do to it.
use Rattle.std.specs.Prelude.{ℕ, zero, suc, ◌+◌, Bool, true, false, not, nat_eq, nat_lt, ◌==◌, ◌&&◌, ◌||◌, if◌then◌else◌, List, [], ◌∷◌, ◌++◌, length, map, Option, Some, None, is_some, slice_get}
use Rattle.fab_base.specs.declared.identities.BrickId.{BrickId}
use Rattle.fab_base.specs.declared.identities.GroupId.{GroupId}
use Rattle.fab_base.specs.declared.identities.StripeNo.{StripeNo}
use Rattle.fab_base.specs.declared.stamps.Stamp.{Stamp}
use Rattle.fab_base.specs.declared.asks.Ask.{Ask}
use Rattle.fab_base.specs.declared.asks.Op.{Op}
use Rattle.fab_base.specs.declared.asks.Op.TheVariants.{ReadStripe}
use Rattle.fab_base.specs.declared.answers.Answer.{Answer}
use Rattle.fab_base.specs.declared.answers.Cause.{Cause}
use Rattle.fab_base.specs.declared.stamps.Ballot.{Ballot}
use Rattle.fab_base.specs.declared.answers.Answer.TheVariants.{Data, Done, Aborted}
use Rattle.fab_base.specs.Stamps.{stamp_same}
use Rattle.messages.specs.declared.calls.Call.{Call}
use Rattle.messages.specs.declared.packets.Message.{Message}
use Rattle.messages.specs.declared.packets.Packet.{Packet}
use Rattle.messages.specs.declared.replies.Reply.{Reply}
use Rattle.reg_model.specs.declared.marks.Mark.{Mark}
use Rattle.reg_model.specs.declared.marks.Mark.TheVariants.{Begin, End, Crash}
use Rattle.reg_model.specs.Registers.{zero_registers, after_op}
use Rattle.fab_base.specs.Layouts.{Layout, Group, group_of}
use Rattle.protocol.specs.Settings.{Setting}
use Rattle.protocol.specs.Views.{view_of}
use Rattle.protocol.specs.Replicas.{fresh_replica, is_held}
use Rattle.protocol.specs.Coordinators.{Counted, Coordinator, counts_at}
use Rattle.protocol.specs.Proposals.{Proposal, seat_voting}
use Rattle.synod_laws.specs.Synods.{last_of, ballot_same}
use Rattle.protocol.specs.Nodes.{Node, NodeStep, Report, Told, Made, Seen, Began, Closed, Answered, view_at, top_at, put, first_node, refusal_of, proposal_refusal, sync_refusal, scrub_refusal, invoked, proposed, synced_at, scrubbed_at, lists_fit, received, absorbed, ticked, stopped, restarted, may_open}

-- Which of two a store is found to hold, when its brick starts: what it held before the handling that the brick's stop cut short, or what that
-- handling would have kept.
pub data Found : Type 0 where
  Before : Found
  After : Found

-- What happens next: a brick is asked for an operation, or to propose a list of members as the successor of the view that it has learnt of a group, or to
-- synchronise that view, or to scrub these members of a stripe; the message of a number, counted from 1 in the order of sending, is delivered; a brick's clock reads another time from now on, or
-- ticks; a brick stops, during the handling of the message of a number, which was cut short or failed, or during none; or a stopped brick starts again, its
-- store having been opened so many times since, the last time to run, and found to hold one of the two. A start that was itself cut short or failed is none:
-- it may have counted an opening, and leaves both possible.
pub data Event : Type 0 where
  Invokes : (brick : BrickId) → (ask : Ask) → Event
  Proposes : (brick : BrickId) → (group : GroupId) → (members : List BrickId) → Event
  Syncs : (brick : BrickId) → (group : GroupId) → Event
  Scrubs : (brick : BrickId) → (group : GroupId) → (stripe : StripeNo) → (members : List BrickId) → Event
  Delivers : (number : ℕ) → Event
  Sets : (brick : BrickId) → (time : ℕ) → Event
  Ticks : (brick : BrickId) → Event
  Stops : (brick : BrickId) → (during : Option ℕ) → Event
  Starts : (brick : BrickId) → (openings : ℕ) → (found : Found) → Event

-- What is known of an operation, by number: its coordinator, how often the store of that had been opened, its
-- call number, where it begins, what it asks, the version that it made or read, whether it made it, and on
-- which base, whether it was answered, the number of its marks, 0 if it has none, and how one without marks ended, which is by a cause if it was aborted;
-- and, for the proof alone, the view of its group that it runs in, and how far each brick's part of the stripe had come when it began.
pub record Operation : Type 0 where
  pub brick : BrickId
  pub boot : ℕ
  pub seq : ℕ
  pub begin : ℕ
  pub ask : Ask
  pub version : Option Stamp
  pub made : Bool
  pub base : Option Stamp
  pub answered : Bool
  pub mark : ℕ
  pub closed : Option (Option Cause)
  pub view : ℕ
  pub floor : ℕ → Stamp

-- What is known of the choices of successors: what bricks reported of proposals, synchronisations and scrubs, in order; and, for the proof alone, what each brick has
-- accepted to follow each view (by brick, group, view and ballot), and the replies that counted in each phase of a proposal (by brick, boot, call
-- number and the phase's).
pub record Choices : Type 0 where
  pub reports : List (BrickId × Report)
  pub votes : ℕ → ℕ → ℕ → Ballot → Option (List BrickId)
  pub voices : ℕ → ℕ → ℕ → ℕ → List Counted

-- nothing was chosen yet
abbrev pub no_choices : Choices
no_choices = record { reports = []; votes = λ i group view ballot. None; voices = λ i b k p. [] }

-- The whole disk: its bricks, which of them are up, and what their clocks read; every message that was ever
-- sent, in order; the marks, and how many Begins are among them; how many operations have begun, and each by its number; the number of the
-- operation of each call (by brick, boot and call number); what is known of the choices of successors; and, for the proof alone, the time that a brick
-- knew last in each earlier boot, the content of each version (by group, stripe and stamp), which stamps each
-- brick ever had in its log of a stripe (by brick, group and stripe), the replies that counted in each
-- phase of an operation (by its number and the phase's), and which messages, by number, were delivered to a brick that was up. Of a brick that is
-- down, `nodes` has what it kept before the handling that its stop cut short, and `after` what that would have kept.
pub record World : Type 0 where
  pub nodes : ℕ → Node
  pub after : ℕ → Node
  pub up : ℕ → Bool
  pub clocks : ℕ → ℕ
  pub packets : List Packet
  pub marks : List Mark
  pub marked : ℕ
  pub begun : ℕ
  pub operations : ℕ → Option Operation
  pub numbers : ℕ → ℕ → ℕ → ℕ
  pub choices : Choices
  pub past : ℕ → ℕ → ℕ
  pub contents : ℕ → ℕ → Stamp → List ℕ
  pub held : ℕ → ℕ → ℕ → Stamp → Bool
  pub replies : ℕ → ℕ → List Counted
  pub reached : ℕ → Bool

-- the zero bytes of a group's stripe
abbrev pub zero_content : ℕ → Option Group → List ℕ
zero_content block None = []
zero_content block (Some group) = zero_registers group.m block

-- the stores are made in the old format, which an opening brings over
abbrev pub has_old_stores : Layout → Bool
has_old_stores layout = layout.store == 1

-- A brick of a fresh store, as the first world has it: the store was opened once. One of the old format was not opened yet.
abbrev pub first_brick : Layout → Node
first_brick layout = record (first_node layout) { boot = if has_old_stores layout then 0 else 1 }

-- The stores fresh, the clocks at 0, and nothing sent. All bricks are up, or, where their stores are of the old format, down.
abbrev pub first_world : Layout → World
first_world layout =
    record {
      nodes = λ i. first_brick layout;
      after = λ i. first_brick layout;
      up = λ i. not (has_old_stores layout);
      clocks = λ i. 0;
      packets = [];
      marks = [];
      marked = 0;
      begun = 0;
      operations = λ n. None;
      numbers = λ i b k. 0;
      choices = no_choices;
      past = λ i b. 0;
      contents = λ group stripe t. zero_content layout.block (group_of layout group);
      held = λ i group stripe t. is_held t (fresh_replica layout.block (view_of t)).log;
      replies = λ n p. [];
      reached = λ k. false;
    }

-- a brick of the layout
abbrev pub is_brick : Layout → BrickId → Bool
is_brick layout brick = nat_lt brick.0 layout.bricks

-- a brick of the layout that is up
abbrev pub is_up : Layout → World → BrickId → Bool
is_up layout w brick = is_brick layout brick && w.up brick.0

-- the brick begins an operation that is not refused
abbrev pub may_begin : Setting → World → BrickId → Ask → Bool
may_begin setting w brick ask =
    is_up setting.layout w brick && not (is_some (refusal_of setting.layout (w.nodes brick.0) ask))

-- the brick begins a proposal that is not refused
abbrev pub may_propose : Setting → World → BrickId → GroupId → Bool
may_propose setting w brick group =
    is_up setting.layout w brick && not (is_some (proposal_refusal setting.layout (w.nodes brick.0) group.0))

-- the brick begins a synchronisation that is not refused
abbrev pub may_sync : Setting → World → BrickId → GroupId → Bool
may_sync setting w brick group =
    is_up setting.layout w brick && not (is_some (sync_refusal setting.layout (w.nodes brick.0) group.0))

-- the brick begins a scrub that is not refused
abbrev pub may_scrub : Setting → World → BrickId → GroupId → StripeNo → List BrickId → Bool
may_scrub setting w brick group stripe members =
    is_up setting.layout w brick && not (is_some (scrub_refusal setting.layout (w.nodes brick.0) group stripe members))

-- the numbers of calls, with that of a brick's last call
abbrev pub with_number : (ℕ → ℕ → ℕ → ℕ) → ℕ → Node → ℕ → ℕ → ℕ → ℕ → ℕ
with_number numbers i node n = put numbers i (put (numbers i) node.boot (put (numbers i node.boot) node.seq n))

-- the world after a brick began an operation
abbrev pub world_began : World → BrickId → Ask → NodeStep → World
world_began w brick ask step =
    record w {
      nodes = put w.nodes brick.0 step.node;
      packets = w.packets ++ step.packets;
      marks = w.marks ++ (Begin (length w.marks) (w.marked + 1) brick ask ∷ []);
      marked = w.marked + 1;
      begun = w.begun + 1;
      operations = put w.operations (w.begun + 1) (Some (record {
        brick = brick;
        boot = step.node.boot;
        seq = step.node.seq;
        begin = length w.marks;
        ask = ask;
        version = None;
        made = false;
        base = None;
        answered = false;
        mark = w.marked + 1;
        closed = None;
        view = view_at (w.nodes brick.0) ask.group.0;
        floor = λ i. top_at (w.nodes i) ask.group.0 ask.stripe.0;
      }));
      numbers = with_number w.numbers brick.0 step.node (w.begun + 1);
    }

-- an operation was answered, and not aborted
abbrev pub is_answer : Answer → Bool
is_answer (Data bytes) = true
is_answer Done = true
is_answer (Aborted cause) = false

-- the operation has made a version, on this base
abbrev pub with_made : Stamp → Option Stamp → Option Operation → Option Operation
with_made t base None = None
with_made t base (Some o) = Some (record o { version = Some t; made = true; base = base })

-- the operation has read this version at once
abbrev pub with_seen : Stamp → Option Operation → Option Operation
with_seen v None = None
with_seen v (Some o) = Some (record o { version = Some v })

-- the operation is answered
abbrev pub with_answer : Answer → Option Operation → Option Operation
with_answer answer None = None
with_answer answer (Some o) = Some (record o { answered = is_answer answer })

-- what an operation makes of the content of its base, or of nothing where it has no base
abbrev pub content_on : ℕ → (Stamp → List ℕ) → Op → Option Stamp → List ℕ
content_on block contents op None = after_op block op []
content_on block contents op (Some b) = after_op block op (contents b)

-- the contents with that of a new version, which what is asked makes on this base
abbrev pub content_by : ℕ → (ℕ → ℕ → Stamp → List ℕ) → Stamp → Option Stamp → Ask → ℕ → ℕ → Stamp → List ℕ
content_by block contents t base ask =
    put contents ask.group.0 (put (contents ask.group.0) ask.stripe.0
    (λ u. if stamp_same u t then content_on block (contents ask.group.0 ask.stripe.0) ask.op base else contents ask.group.0 ask.stripe.0 u))

-- the same, of the operation that makes it
abbrev pub with_content : ℕ → (ℕ → ℕ → Stamp → List ℕ) → Stamp → Option Stamp → Option Operation → ℕ → ℕ → Stamp → List ℕ
with_content block contents t base None = contents
with_content block contents t base (Some o) = content_by block contents t base o.ask

-- what bricks have held, with what brick i keeps now
abbrev pub with_held : (ℕ → ℕ → ℕ → Stamp → Bool) → ℕ → Node → ℕ → ℕ → ℕ → Stamp → Bool
with_held held i node = put held i (λ group stripe t. held i group stripe t || is_held t (node.replicas group (view_of t) stripe).log)

-- a list that was accepted under a ballot, where the brick's last acceptance is this one, or else what it had accepted under it
abbrev pub vote_with : Option (List BrickId) → Option (Ballot × List BrickId) → Ballot → Option (List BrickId)
vote_with earlier None ballot = earlier
vote_with earlier (Some (accepted, members)) ballot = if ballot_same ballot accepted then Some members else earlier

-- what a brick has accepted last to follow a view of a group
abbrev pub accepted_in : Node → ℕ → ℕ → Option (Ballot × List BrickId)
accepted_in node group view = if nat_eq view (view_at node group) then last_of (node.ballots group) else None

-- what bricks have accepted, with what brick i has accepted last
abbrev pub with_votes : (ℕ → ℕ → ℕ → Ballot → Option (List BrickId)) → ℕ → Node → ℕ → ℕ → ℕ → Ballot → Option (List BrickId)
with_votes votes i node = put votes i (λ group view ballot. vote_with (votes i group view ballot) (accepted_in node group view) ballot)

-- the number of the operation of a brick's call since it was started last
abbrev pub number_of : World → ℕ → ℕ → ℕ
number_of w i seq = w.numbers i (w.nodes i).boot seq

-- a read of a brick's own, for its synchronisation or its scrub, which has this call, as it begins, the bricks being these: an operation without marks
abbrev pub read_of_call : (ℕ → Node) → World → BrickId → Call → Operation
read_of_call nodes w brick call =
    record {
      brick = brick;
      boot = call.boot;
      seq = call.seq;
      begin = length w.marks;
      ask = record { group = call.group; stripe = call.stripe; op = ReadStripe };
      version = None;
      made = false;
      base = None;
      answered = false;
      mark = 0;
      closed = None;
      view = call.view.0;
      floor = λ i. top_at (nodes i) call.group.0 call.stripe.0;
    }

-- the numbers of calls, with that of this call of brick i
abbrev pub with_call_number : (ℕ → ℕ → ℕ → ℕ) → ℕ → Call → ℕ → ℕ → ℕ → ℕ → ℕ
with_call_number numbers i call n = put numbers i (put (numbers i) call.boot (put (numbers i call.boot) call.seq n))

-- an operation without marks has ended, aborted by this cause or answered
abbrev pub with_closed : Option Cause → Option Operation → Option Operation
with_closed cause None = None
with_closed cause (Some o) = Some (record o { closed = Some cause; answered = not (is_some cause) })

-- The world once a brick told this of an operation, in a step that leaves these bricks: a read that begins in a step begins after all else in it.
abbrev pub world_told : Setting → (ℕ → Node) → World → BrickId → Told → World
world_told setting nodes w brick (Made seq t base) =
    record w {
      operations = put w.operations (number_of w brick.0 seq) (with_made t base (w.operations (number_of w brick.0 seq)));
      contents = with_content setting.layout.block w.contents t base (w.operations (number_of w brick.0 seq));
    }
world_told setting nodes w brick (Seen seq v) =
    record w { operations = put w.operations (number_of w brick.0 seq) (with_seen v (w.operations (number_of w brick.0 seq))) }
world_told setting nodes w brick (Began call) =
    record w {
      begun = w.begun + 1;
      operations = put w.operations (w.begun + 1) (Some (read_of_call nodes w brick call));
      numbers = with_call_number w.numbers brick.0 call (w.begun + 1);
    }
world_told setting nodes w brick (Closed seq cause) =
    record w { operations = put w.operations (number_of w brick.0 seq) (with_closed cause (w.operations (number_of w brick.0 seq))) }

-- the same of several, in order
abbrev pub world_tells : Setting → (ℕ → Node) → World → BrickId → List Told → World
world_tells setting nodes w brick [] = w
world_tells setting nodes w brick (told ∷ more) = world_tells setting nodes (world_told setting nodes w brick told) brick more

-- the number of the marks of operation n
abbrev pub own_mark : ℕ → Option Operation → ℕ
own_mark n None = n
own_mark n (Some o) = o.mark

-- the same, in a world
abbrev pub mark_of : World → ℕ → ℕ
mark_of w n = own_mark n (w.operations n)

-- the world once a brick answered an operation
abbrev pub world_answered : World → BrickId → Answered → World
world_answered w brick answered =
    record w {
      marks = w.marks ++ (End (length w.marks) (mark_of w (number_of w brick.0 answered.seq)) answered.answer ∷ []);
      operations = put w.operations (number_of w brick.0 answered.seq)
          (with_answer answered.answer (w.operations (number_of w brick.0 answered.seq)));
    }

-- the same of several, in order
abbrev pub world_answers : World → BrickId → List Answered → World
world_answers w brick [] = w
world_answers w brick (answered ∷ more) = world_answers (world_answered w brick answered) brick more

-- what a brick reported, by the brick
abbrev pub reports_of : BrickId → List Report → List (BrickId × Report)
reports_of brick reports = map (λ (report : Report). (brick, report)) reports

-- what is known of choices once a brick is this, and reported this
abbrev pub choices_after : Choices → BrickId → Node → List Report → Choices
choices_after choices brick node reports =
    record choices { reports = choices.reports ++ reports_of brick reports; votes = with_votes choices.votes brick.0 node }

-- the world after a brick's step
abbrev pub world_stepped : Setting → World → BrickId → NodeStep → World
world_stepped setting w brick step =
    (let told : World = world_answers (world_tells setting (put w.nodes brick.0 step.node) w brick step.told) brick step.answers in
    record told {
      nodes = put w.nodes brick.0 step.node;
      held = with_held w.held brick.0 step.node;
      packets = w.packets ++ step.packets;
      choices = choices_after w.choices brick step.node step.reports;
    })

-- the replies that have counted, with one more
abbrev pub with_counted : (ℕ → ℕ → List Counted) → ℕ → ℕ → Counted → ℕ → ℕ → List Counted
with_counted replies n phase counted = put replies n (put (replies n) phase (replies n phase ++ (counted ∷ [])))

-- the replies that have counted, with this one of a brick to operation n, where it counts at this seat
abbrev pub counted_after : (ℕ → ℕ → List Counted) → ℕ → BrickId → Call → Reply → Option ℕ → ℕ → ℕ → List Counted
counted_after replies n from call reply None = replies
counted_after replies n from call reply (Some seat) =
    with_counted replies n call.phase (record { seat = seat; brick = from; reply = reply })

-- the same, with a reply to the open operation at this coordinator, if there is one
abbrev pub replies_at : Setting → World → BrickId → BrickId → Call → Reply → Option Coordinator → ℕ → ℕ → List Counted
replies_at setting w me from call reply None = w.replies
replies_at setting w me from call reply (Some c) =
    counted_after w.replies (number_of w me.0 call.seq) from call reply (counts_at setting.layout.block c from.0 call reply)

-- the replies that have counted once this packet is delivered
abbrev pub replies_with : Setting → World → Packet → ℕ → ℕ → List Counted
replies_with setting w packet = replies_of packet.message
  where
    replies_of : Message → ℕ → ℕ → List Counted
    replies_of (Message.Reply call reply) = (
        if lists_fit setting.layout call reply
        then replies_at setting w packet.to packet.from call reply ((w.nodes packet.to.0).calls call.seq) else w.replies
        )
    replies_of message = w.replies

-- the replies that have counted in a phase of a proposal, with one more: by brick, boot, call number and phase
abbrev pub with_voiced : (ℕ → ℕ → ℕ → ℕ → List Counted) → ℕ → Call → Counted → ℕ → ℕ → ℕ → ℕ → List Counted
with_voiced voices i call counted =
    put voices i (put (voices i) call.boot (put (voices i call.boot) call.seq
    (put (voices i call.boot call.seq) call.phase (voices i call.boot call.seq call.phase ++ (counted ∷ [])))))

-- the same, with this reply of a brick to brick i, where it counts at this seat
abbrev pub voiced_after : (ℕ → ℕ → ℕ → ℕ → List Counted) → ℕ → BrickId → Call → Reply → Option ℕ → ℕ → ℕ → ℕ → ℕ → List Counted
voiced_after voices i from call reply None = voices
voiced_after voices i from call reply (Some seat) = with_voiced voices i call (record { seat = seat; brick = from; reply = reply })

-- the same, with a reply to this proposal of brick i, if there is one, unless it is to an open operation
abbrev pub voices_at : Setting → World → ℕ → BrickId → Call → Reply → Option Coordinator → Option Proposal → ℕ → ℕ → ℕ → ℕ → List Counted
voices_at setting w i from call reply (Some c) proposal = w.choices.voices
voices_at setting w i from call reply None None = w.choices.voices
voices_at setting w i from call reply None (Some p) =
    voiced_after w.choices.voices i from call reply (seat_voting setting.layout.bricks p from.0 call reply)

-- the replies that have counted in proposals once this packet is delivered
abbrev pub voices_with : Setting → World → Packet → ℕ → ℕ → ℕ → ℕ → List Counted
voices_with setting w packet = voices_of packet.message
  where
    voices_of : Message → ℕ → ℕ → ℕ → ℕ → List Counted
    voices_of (Message.Reply call reply) = (
        if lists_fit setting.layout call reply
        then voices_at setting w packet.to.0 packet.from call reply ((w.nodes packet.to.0).calls call.seq) (w.nodes packet.to.0).proposal
        else w.choices.voices
        )
    voices_of message = w.choices.voices

-- what is known of choices once this packet is delivered, but for what its brick does
abbrev pub voiced : Setting → World → Packet → Choices
voiced setting w packet = record w.choices { voices = voices_with setting w packet }

-- the packet of a number is delivered to a brick of the layout that is up; it counts as delivered also if the brick ignores it
abbrev pub delivered : Setting → World → ℕ → Option Packet → World
delivered setting w number None = w
delivered setting w number (Some packet) =
    if is_up setting.layout w packet.to
    then (let step = received setting packet.to (w.clocks packet.to.0) (w.nodes packet.to.0) packet in
    world_stepped setting (record w { replies = replies_with setting w packet; choices = voiced setting w packet; reached = put w.reached number true }) packet.to step)
    else w

-- a brick's clock ticks
abbrev pub world_ticked : Setting → World → BrickId → World
world_ticked setting w brick = record w { packets = w.packets ++ ticked setting brick (w.nodes brick.0) }

-- what a brick that stopped during the handling of this packet would have kept, where it handles it
abbrev pub left_after : Setting → BrickId → Node → Option Packet → Node
left_after setting brick node None = stopped node
left_after setting brick node (Some packet) = if nat_eq packet.to.0 brick.0 then stopped (absorbed setting brick node packet) else stopped node

-- the packet of a number, from 1
abbrev pub packet_of : List Packet → ℕ → Option Packet
packet_of packets zero = None
packet_of packets (suc k) = slice_get packets k

-- the packet during whose handling a brick stopped, if there is one
abbrev pub packet_during : List Packet → Option ℕ → Option Packet
packet_during packets None = None
packet_during packets (Some number) = packet_of packets number

-- which messages were delivered, with that of a number where it goes to this brick
abbrev pub reached_at : (ℕ → Bool) → BrickId → ℕ → Option Packet → ℕ → Bool
reached_at reached brick number None = reached
reached_at reached brick number (Some packet) = if nat_eq packet.to.0 brick.0 then put reached number true else reached

-- the same, where a brick stopped during the handling of the message of a number, or during none: that message counts as delivered
abbrev pub reached_during : World → BrickId → Option ℕ → ℕ → Bool
reached_during w brick None = w.reached
reached_during w brick (Some number) = reached_at w.reached brick number (packet_of w.packets number)

-- the world after a brick stopped, during the handling of the message of a number or during none
abbrev pub world_stopped : Setting → World → BrickId → Option ℕ → World
world_stopped setting w brick during =
    record w {
      nodes = put w.nodes brick.0 (stopped (w.nodes brick.0));
      after = put w.after brick.0 (left_after setting brick (w.nodes brick.0) (packet_during w.packets during));
      up = put w.up brick.0 false;
      marks = w.marks ++ (Crash (length w.marks) brick ∷ []);
      reached = reached_during w brick during;
    }

-- the world in which a stopped brick keeps what its store is found to hold
abbrev pub world_found : World → BrickId → Found → World
world_found w brick Before = w
world_found w brick After =
    record w {
      nodes = put w.nodes brick.0 (w.after brick.0);
      held = with_held w.held brick.0 (w.after brick.0);
      choices = choices_after w.choices brick (w.after brick.0) [];
    }

-- the world after a stopped brick was started again, with what it keeps
abbrev pub world_started : World → BrickId → ℕ → World
world_started w brick openings =
    record w {
      nodes = put w.nodes brick.0 (restarted openings (w.nodes brick.0));
      up = put w.up brick.0 true;
      past = put w.past brick.0 (put (w.past brick.0) (w.nodes brick.0).boot (w.nodes brick.0).known);
    }

-- a brick of the layout that is down, and whose store can be opened so many times
abbrev pub may_start : Layout → World → BrickId → ℕ → Bool
may_start layout w brick openings = is_brick layout brick && (not (w.up brick.0) && may_open openings (w.nodes brick.0))

-- the time that a brick knew last in a boot, or knows now: the greatest that it knew in that boot, since a known time never falls
-- within one
abbrev pub known_in : World → ℕ → ℕ → ℕ
known_in w i boot = if nat_eq boot (w.nodes i).boot then (w.nodes i).known else w.past i boot

-- the world after an event; what cannot happen changes nothing: an operation, a proposal, a synchronisation or a scrub that is refused, a number that was not sent,
-- a brick that the layout has not, a stopped brick that is to stop, handle a message or tick, and one that is to start though it is up
unfoldable pub happens : Setting → World → Event → World
happens setting w (Invokes brick ask) =
    if may_begin setting w brick ask then world_began w brick ask (invoked setting brick (w.clocks brick.0) (w.nodes brick.0) ask) else w
happens setting w (Proposes brick group members) =
    if may_propose setting w brick group then world_stepped setting w brick (proposed setting brick (w.nodes brick.0) group members) else w
happens setting w (Syncs brick group) =
    if may_sync setting w brick group then world_stepped setting w brick (synced_at setting brick (w.clocks brick.0) (w.nodes brick.0) group) else w
happens setting w (Scrubs brick group stripe members) =
    if may_scrub setting w brick group stripe members
    then world_stepped setting w brick (scrubbed_at setting brick (w.clocks brick.0) (w.nodes brick.0) group stripe members) else w
happens setting w (Delivers number) = delivered setting w number (packet_of w.packets number)
happens setting w (Sets brick time) = if is_brick setting.layout brick then record w { clocks = put w.clocks brick.0 time } else w
happens setting w (Ticks brick) = if is_up setting.layout w brick then world_ticked setting w brick else w
happens setting w (Stops brick during) = if is_up setting.layout w brick then world_stopped setting w brick during else w
happens setting w (Starts brick openings found) =
    if may_start setting.layout w brick openings then world_started (world_found w brick found) brick openings else w

-- the world after a schedule
abbrev pub run : Setting → List Event → World → World
run setting [] w = w
run setting (event ∷ events) w = run setting events (happens setting w event)
