-- A reply is delivered: what the coordinator decides on the scene it does in the world.
use Rattle.protocol_laws.proofs.Books.{version_after}
use Rattle.fab_base.specs.declared.member_lists.View.{View}
use Rattle.fab_base.specs.Layouts.{Group, group_of}
use Rattle.std.proofs.Common.{Bool, cond, false, not, ◌||◌, List, None, Option, Some, [], ap, ap₂, arith, refl, subst, sym, true, ℕ, ◌++◌, ◌+◌, ◌∙◌, ◌∷◌, ◌≡◌, ◌≢◌}
use Rattle.std.proofs.lemmas.Bool.{and_parts, false≢true}
use Rattle.std.proofs.lemmas.List.{append-nil}
use Rattle.std.specs.Prelude.{filter, is_some, max, nat_lt, ◌-◌}
use Rattle.calm_laws.proofs.Plays.{Finishes, finishes_by, HasEnded, ends_by}
use Rattle.calm_laws.proofs.Queues.{IsDelivered, IsHead}
use Rattle.calm_laws.proofs.Scenes.{Each, IsNext, SameCall, Scene, Stage, decision, heard, made, replying, sent, waits, EndsAt}
use Rattle.calm_laws.proofs.Shows.{IsMove, Shows, open_at_is, put_field, shows_next, world_by, serves_on}
use Rattle.protocol.proofs.Tables.{put_same}
use Rattle.fab_base.specs.declared.answers.Answer.{Answer}
use Rattle.fab_base.specs.declared.identities.BrickId.{BrickId}
use Rattle.fab_base.specs.declared.stamps.Stamp.{Stamp}
use Rattle.messages.specs.declared.calls.Call.{Call}
use Rattle.messages.specs.declared.packets.Packet.{Packet}
use Rattle.messages.specs.declared.replies.Reply.{Reply}
use Rattle.messages.specs.declared.requests.Request.{Request}
use Rattle.protocol.specs.Calms.{goes_among, is_left, open_at, operation_of}
use Rattle.protocol.specs.Coordinators.{Coordinator, Ends, Ignores, Makes, Next, Sends, Waits, on_reply, request_of, asked_group, hearing, counts_at}
use Rattle.protocol.specs.Nodes.{NodeStep, carried_for, job_reading, read_closed, read_begun_by, then_does, synced_packets, Node, carried_out, fresh_stamp, known_after, phase_packets, put, received, replica_at, replied, replied_at, to_members, with_call, with_known, with_round, may_teach, no_step, then_taught, counts_here, collect_packets, scrub_of, with_scrub, scrub_ended, members_alone}
use Rattle.protocol.specs.Replicas.{Replica}
use Rattle.protocol.specs.Settings.{Setting}
use Rattle.protocol.specs.Jobs.{Job, abort_cause, synced_answer}
use Rattle.protocol.specs.declared.tellings.Report.{Report}
use Rattle.protocol.proofs.Puts.{put_other}
use Rattle.view_laws.proofs.SyncReads.{AfterRead, carried_each, read_call}
use Rattle.fab_base.specs.declared.answers.Cause.{Cause}
use Rattle.fab_base.specs.declared.answers.Answer.TheVariants.{Data, Done, Aborted}
use Rattle.protocol.specs.Worlds.{Operation, World, is_answer, number_of, with_answer, with_closed, with_made, with_seen}
use Rattle.protocol.specs.Scrubs.{Scrub, lagging_after, scrub_answer}
use Rattle.protocol.specs.declared.tellings.ScrubAnswer.{ScrubAnswer}

-- the coordinator once it heard a reply
abbrev hearing_reply : Stage → Scene → BrickId → Call → Reply → Coordinator
hearing_reply stage s from call reply = hearing s.c from reply (counts_at stage.setting.layout.block s.c from.0 call reply)

-- the coordinator's brick handles a reply
heard_step : (stage : Stage) (n : ℕ) (w : World) (s : Scene) (from : BrickId) (call : Call) (reply : Reply) (rest : List Packet)
    → Shows stage n w s → IsNext stage s from call reply rest
    → received stage.setting stage.me (w.clocks stage.me.0) (w.nodes stage.me.0) (replying stage from call reply)
    ≡ carried_for stage.setting stage.me (w.clocks stage.me.0) (with_round (w.nodes stage.me.0) reply) (known_after s.known reply) s.c
    (hearing_reply stage s from call reply) (decision stage s from call reply) (job_reading (w.nodes stage.me.0).job s.c.call.seq)
    (scrub_of (w.nodes stage.me.0).scrub s.c.call.seq)
unfolding received replied
heard_step stage n w s from call reply rest shows next =
    ap (λ (z : Option View). cond (not (is_some z) || may_teach stage.setting.layout z (group_of stage.setting.layout call.group.0))
    (replied stage.setting stage.me (w.clocks stage.me.0) from (w.nodes stage.me.0) call reply)
    (no_step (with_known node (known_after (w.nodes stage.me.0).known reply)))) next.plain
    ∙ ap (λ (z : Option View). then_taught stage.setting.layout.block call.group.0 z
    (replied_at stage.setting stage.me (w.clocks stage.me.0) from node call reply ((w.nodes stage.me.0).calls call.seq)))
    (none_counted (counts_here stage.setting.layout from call reply (w.nodes stage.me.0).proposal ((w.nodes stage.me.0).calls call.seq)) next.plain)
    ∙ ap (λ (z : Option Coordinator). replied_at stage.setting stage.me (w.clocks stage.me.0) from node call reply z)
    (ap (λ (k : ℕ). (w.nodes stage.me.0).calls k) next.seq.1 ∙ shows.call)
    ∙ ap (λ (k : ℕ). carried_for stage.setting stage.me (w.clocks stage.me.0) node (known_after k reply) s.c (hearing_reply stage s from call reply)
    (on_reply stage.setting.layout.block stage.setting.code
    (fresh_stamp stage.me s.c.stamp.view (w.clocks stage.me.0) (w.nodes stage.me.0).boot (known_after k reply)) s.c from call reply)
    (job_reading (w.nodes stage.me.0).job s.c.call.seq) (scrub_of (w.nodes stage.me.0).scrub s.c.call.seq)) shows.known
    ∙ ap (λ (b : ℕ). carried_for stage.setting stage.me (w.clocks stage.me.0) node (known_after s.known reply) s.c (hearing_reply stage s from call reply)
    (on_reply stage.setting.layout.block stage.setting.code
    (fresh_stamp stage.me s.c.stamp.view (w.clocks stage.me.0) b (known_after s.known reply)) s.c from call reply)
    (job_reading (w.nodes stage.me.0).job s.c.call.seq) (scrub_of (w.nodes stage.me.0).scrub s.c.call.seq)) shows.node_boot
    ∙ ap (λ (t : ℕ). carried_for stage.setting stage.me (w.clocks stage.me.0) node (known_after s.known reply) s.c (hearing_reply stage s from call reply)
    (on_reply stage.setting.layout.block stage.setting.code
    (fresh_stamp stage.me s.c.stamp.view t s.c.call.boot (known_after s.known reply)) s.c from call reply)
    (job_reading (w.nodes stage.me.0).job s.c.call.seq) (scrub_of (w.nodes stage.me.0).scrub s.c.call.seq)) shows.clock
  where
    node : Node
    node = with_round (w.nodes stage.me.0) reply

    -- a reply that teaches no view teaches none that counts
    none_counted : (counts : Bool) {z : Option View} → z ≡ None → cond counts z None ≡ None
    none_counted true none = none
    none_counted false none = refl

-- the operation goes on
abbrev GoesOn : Next → Type 0
GoesOn (Ends answer seen stored) = ⊥
GoesOn next = Unit {0}

-- where it does, a read of the brick's own does as each other operation, but that the brick may note who lagged
carried_on : (setting : Setting) (me : BrickId) (now : ℕ) (node : Node) (known : ℕ) (c heard : Coordinator) (next : Next) (reading : Option Job)
    (scrub : Option Scrub) → GoesOn next
    → (later : Option Scrub) × (carried_for setting me now node known c heard next reading scrub ≡ carried_out setting me (with_scrub node later) known c next)
carried_on setting me now node known c heard next None None on = (node.scrub, refl)
carried_on setting me now node known c heard Ignores None (Some s) on = (node.scrub, refl)
carried_on setting me now node known c heard (Waits d) None (Some s) on = (node.scrub, refl)
carried_on setting me now node known c heard (Sends d) None (Some s) on = (Some (record s { lagging = lagging_after s heard }), refl)
carried_on setting me now node known c heard (Makes d) None (Some s) on = (node.scrub, refl)
carried_on setting me now node known c heard (Ends answer seen stored) None (Some s) on = absurd on
carried_on setting me now node known c heard Ignores (Some job) scrub on = (node.scrub, refl)
carried_on setting me now node known c heard (Waits d) (Some job) scrub on = (node.scrub, refl)
carried_on setting me now node known c heard (Sends d) (Some job) scrub on = (node.scrub, refl)
carried_on setting me now node known c heard (Makes d) (Some job) scrub on = (node.scrub, refl)
carried_on setting me now node known c heard (Ends answer seen stored) (Some job) scrub on = absurd on

-- where it ends, it is answered; or the synchronisation whose read it was goes on, or the scrub that it was ends
ends_each : (P : NodeStep → Type 0) (setting : Setting) (me : BrickId) (now : ℕ) (node : Node) (known : ℕ) (c heard : Coordinator) (answer : Answer)
    (seen stored : Option Stamp) (reading : Option Job) (scrub : Option Scrub) → P (carried_out setting me node known c (Ends answer seen stored))
    → ((job : Job) → AfterRead P setting me now (read_closed me node known c answer seen stored) job)
    → ((ended : ScrubAnswer)
    → (let closed = read_closed me node known c answer seen stored in P (then_does closed (scrub_ended closed.node c.call (members_alone c.only) ended))))
    → P (carried_for setting me now node known c heard (Ends answer seen stored) reading scrub)
ends_each P setting me now node known c heard answer seen stored reading scrub carried closed ended =
    carried_each P setting me now node known c heard (Ends answer seen stored) reading scrub carried
    (λ job is a s t same. subst (after job) same (closed job))
    (record {
      begins = λ one is d never. let no : ⊥ = cc in absurd no;
      ends = λ one is a s t same. subst (over one) same (ended (scrub_answer one.lagging (abort_cause answer) stored));
    })
  where
    after : Job → Next → Type 0
    after job (Ends a s t) = AfterRead P setting me now (read_closed me node known c a s t) job
    after job next = Unit {0}

    over : Scrub → Next → Type 0
    over one (Ends a s t) =
        (let closed = read_closed me node known c a s t in
        P (then_does closed (scrub_ended closed.node c.call (members_alone c.only) (scrub_answer one.lagging (abort_cause a) t))))
    over one next = Unit {0}

-- an operation that saw this version at once, if it saw one
abbrev with_seen_if : Option Stamp → Option Operation → Option Operation
with_seen_if None o = o
with_seen_if (Some v) o = with_seen v o

-- The coordinator's brick after a reply, where its operation goes on: it knows a time, and has a coordinator; the rest is as before.
pub record IsHeard (stage : Stage) (w : World) (c : Coordinator) (node : Node) (d : Coordinator) (known : ℕ) : Type 0 where
  pub boot : node.boot ≡ (w.nodes stage.me.0).boot
  pub seq : node.seq ≡ (w.nodes stage.me.0).seq
  pub call : node.calls c.call.seq ≡ Some d
  pub known_is : node.known ≡ known
  pub learnt : node.learnt ≡ (w.nodes stage.me.0).learnt
  pub ballots : node.ballots ≡ (w.nodes stage.me.0).ballots
  pub replicas : node.replicas ≡ (w.nodes stage.me.0).replicas
  pub live : node.live ≡ (w.nodes stage.me.0).live

-- the operation, as the world has it then
pub record IsSame (w later : World) (n : ℕ) (o : Operation) : Type 0 where
  pub operation : Operation
  pub is : later.operations n ≡ Some operation
  pub brick : operation.brick ≡ o.brick
  pub boot : operation.boot ≡ o.boot
  pub seq : operation.seq ≡ o.seq

heard_move : (stage : Stage) (n : ℕ) (w later : World) (s : Scene) (node : Node) (d : Coordinator) (known number : ℕ) (rest sent : List Packet)
    → (shows : Shows stage n w s) → later.nodes ≡ put w.nodes stage.me.0 node → later.begun ≡ w.begun → later.up ≡ w.up → later.clocks ≡ w.clocks
    → IsHeard stage w s.c node d known → IsSame w later n shows.operation → IsDelivered w later n number sent → SameCall s.c d
    → IsMove stage n w later s (record s { c = d; known = known; queue = rest ++ filter (goes_among stage.bricks) sent }) shows.operation number rest sent
heard_move stage n w later s node d known number rest sent shows nodes begun up clocks heard still delivery same = record {
  operation_later = still.operation;
  is = still.is;
  brick = still.brick;
  boot = still.boot;
  seq = still.seq;
  up = up;
  clocks = clocks;
  begun = begun;
  node_boot = ap (λ (f : ℕ → Node). (f stage.me.0).boot) nodes ∙ put_field (λ (z : Node). z.boot) w.nodes stage.me.0 node heard.boot stage.me.0;
  node_seq = ap (λ (f : ℕ → Node). (f stage.me.0).seq) nodes ∙ put_field (λ (z : Node). z.seq) w.nodes stage.me.0 node heard.seq stage.me.0;
  call = ap (λ (f : ℕ → Node). (f stage.me.0).calls s.c.call.seq) nodes
      ∙ ap (λ (z : Node). z.calls s.c.call.seq) (put_same w.nodes stage.me.0 node) ∙ heard.call;
  known = ap (λ (f : ℕ → Node). (f stage.me.0).known) nodes ∙ ap (λ (z : Node). z.known) (put_same w.nodes stage.me.0 node) ∙ heard.known_is;
  learnt = λ i. ap (λ (f : ℕ → Node). (f i).learnt) nodes ∙ put_field (λ (z : Node). z.learnt) w.nodes stage.me.0 node heard.learnt i;
  ballots = λ i. ap (λ (f : ℕ → Node). (f i).ballots) nodes ∙ put_field (λ (z : Node). z.ballots) w.nodes stage.me.0 node heard.ballots i;
  parts = λ brick one. record {
    replica = ap (λ (f : ℕ → Node). replica_at (f brick.0) stage.call) nodes
        ∙ put_field (λ (z : Node). replica_at z stage.call) w.nodes stage.me.0 node
        (ap (λ (f : ℕ → ℕ → ℕ → Replica). f stage.call.group.0 stage.call.view.0 stage.call.stripe.0) heard.replicas) brick.0
        ∙ (shows.parts brick one).replica;
    live = ap (λ (f : ℕ → Node). (f brick.0).live) nodes ∙ put_field (λ (z : Node). z.live) w.nodes stage.me.0 node heard.live brick.0
        ∙ (shows.parts brick one).live;
  };
  olds = λ i.
      ap (λ (f : ℕ → Node). (f i).replicas stage.call.group.0 (stage.call.view.0 - 1) stage.call.stripe.0) nodes
      ∙ put_field (λ (z : Node). z.replicas stage.call.group.0 (stage.call.view.0 - 1) stage.call.stripe.0) w.nodes stage.me.0 node
      (ap (λ (f : ℕ → ℕ → ℕ → Replica). f stage.call.group.0 (stage.call.view.0 - 1) stage.call.stripe.0) heard.replicas) i;
  delivery = delivery;
  queue = refl;
  same = same;
}

-- the packets of a phase are the operation's
phase_own : (stage : Stage) (w : World) (n : ℕ) (call : Call) (request : ℕ → Request) (seat : ℕ) (members : List BrickId)
    → w.numbers stage.me.0 call.boot call.seq ≡ n → Each (λ packet. operation_of w packet ≡ n) (to_members stage.me call request seat members)
phase_own stage w n call request seat [] number = tt
phase_own stage w n call request seat (member ∷ members) number = (number, phase_own stage w n call request (seat + 1) members number)

-- the number of the next phase's call
next_number : (stage : Stage) (n : ℕ) (w : World) (s : Scene) (d : Coordinator) → Shows stage n w s → SameCall s.c d
    → w.numbers stage.me.0 d.call.boot d.call.seq ≡ n
next_number stage n w s d shows same =
    ap₂ (λ (b k : ℕ). w.numbers stage.me.0 b k) same.boot same.seq ∙ shows.number

-- The coordinator's brick after the last reply: the operation is not there any more, and the rest is as before.
pub record IsClosed (stage : Stage) (w : World) (c : Coordinator) (node : Node) : Type 0 where
  pub boot : node.boot ≡ (w.nodes stage.me.0).boot
  pub call : node.calls c.call.seq ≡ None
  pub learnt : node.learnt ≡ (w.nodes stage.me.0).learnt
  pub ballots : node.ballots ≡ (w.nodes stage.me.0).ballots
  pub replicas : node.replicas ≡ (w.nodes stage.me.0).replicas

-- the operation, as the world has it then
pub record IsAnswered (w later : World) (n : ℕ) (o : Operation) (seen : Option Stamp) : Type 0 where
  pub operation : Operation
  pub is : later.operations n ≡ Some operation
  pub brick : operation.brick ≡ o.brick
  pub boot : operation.boot ≡ o.boot
  pub seq : operation.seq ≡ o.seq
  pub made : operation.made ≡ o.made
  pub version : operation.version ≡ version_after o.version seen
  pub answered : operation.answered ≡ true

-- a world in which the operation is closed, and was answered
closes_at : (stage : Stage) (n : ℕ) (w later : World) (s : Scene) (node : Node) (seen stored : Option Stamp) → (shows : Shows stage n w s)
    → later.nodes ≡ put w.nodes stage.me.0 node → later.up ≡ w.up → (more : List Packet)
    → later.packets ≡ w.packets ++ (collect_packets stage.me s.c stored ++ more) → IsClosed stage w s.c node → IsAnswered w later n shows.operation seen → EndsAt stage s.c.phase s.c.stamp s.parts seen stored
    → HasEnded stage n s.c w later
closes_at stage n w later s node seen stored shows nodes up more packets closed o ends = record {
  closed = ap (λ (z : Option Operation). open_at later z) o.is
      ∙ open_at_is later o.operation stage.me s.c.call.boot s.c.call.seq (o.brick ∙ shows.brick) (o.boot ∙ shows.boot) (o.seq ∙ shows.seq)
      (ap (λ (f : ℕ → Bool). f stage.me.0) up ∙ (and_parts (nat_lt stage.me.0 stage.setting.layout.bricks) (w.up stage.me.0) shows.up).1)
      (ap (λ (f : ℕ → Node). (f stage.me.0).boot) nodes ∙ ap (λ (z : Node). z.boot) (put_same w.nodes stage.me.0 node) ∙ closed.boot ∙ shows.node_boot)
      ∙ ap (λ (f : ℕ → Node). (f stage.me.0).calls s.c.call.seq) nodes
      ∙ ap (λ (z : Node). z.calls s.c.call.seq) (put_same w.nodes stage.me.0 node) ∙ closed.call;
  operation = o.operation;
  is = o.is;
  answered = o.answered;
  brick = o.brick ∙ shows.brick;
  boot = o.boot ∙ shows.boot;
  seq = o.seq ∙ shows.seq;
  events = [];
  coordinator = s.c;
  same = same_itself;
  before = shows.operation;
  was = shows.is;
  call = shows.call;
  number = ap (λ (b : ℕ). w.numbers stage.me.0 b s.c.call.seq) shows.node_boot ∙ shows.number;
  seen = seen;
  stored = stored;
  made = o.made;
  version = o.version;
  parts = s.parts;
  ends = ends;
  members = λ brick one.
      serves_on stage w later stage.call brick up
      (λ i. ap (λ (f : ℕ → Node). (f i).learnt) nodes ∙ put_field (λ (z : Node). z.learnt) w.nodes stage.me.0 node closed.learnt i)
      (λ i. ap (λ (f : ℕ → Node). (f i).ballots) nodes ∙ put_field (λ (z : Node). z.ballots) w.nodes stage.me.0 node closed.ballots i)
      (shows.members brick one);
  kept = λ brick one.
      ap (λ (f : ℕ → Node). replica_at (f brick.0) stage.call) nodes
      ∙ put_field (λ (z : Node). replica_at z stage.call) w.nodes stage.me.0 node
      (ap (λ (f : ℕ → ℕ → ℕ → Replica). f stage.call.group.0 stage.call.view.0 stage.call.stripe.0) closed.replicas) brick.0
      ∙ (shows.parts brick one).replica;
  more = more;
  packets = packets;
}
  where
    same_itself : SameCall s.c s.c
    same_itself = record { group = refl; prior = refl; only = refl; boot = refl; seq = refl; of_group = refl; view = refl; stripe = refl }

module _ (stage : Stage) (n : ℕ) (w : World) (s : Scene) (from : BrickId) (call : Call) (reply : Reply) (rest : List Packet)
    (shows : Shows stage n w s) (next : IsNext stage s from call reply rest) where
  abbrev packet : Packet
  packet = replying stage from call reply

  abbrev known : ℕ
  known = known_after s.known reply

  abbrev me_node : Node
  me_node = with_round (w.nodes stage.me.0) reply

  abbrev now : ℕ
  now = w.clocks stage.me.0

  -- the synchronisation whose read the operation is, if it is one's
  abbrev reading : Option Job
  reading = job_reading (w.nodes stage.me.0).job s.c.call.seq

  -- the scrub that it is, if it is one
  abbrev scrub : Option Scrub
  scrub = scrub_of (w.nodes stage.me.0).scrub s.c.call.seq

  -- the brick, once it may have noted who lagged
  abbrev noted : Option Scrub → Node
  noted later = with_scrub me_node later

  -- it is known what follows the delivery
  after_step : (z : Next) (d : Coordinator) → GoesOn z → SameCall s.c d → decision stage s from call reply ≡ z
      → ((later : Option Scrub) (head : IsHead (is_left w n stage.bricks) 1 w.packets packet rest)
      → Finishes stage n d (world_by stage w (1 + head.place) packet (carried_out stage.setting stage.me (noted later) known s.c z)))
      → Finishes stage n s.c w
  after_step z d on same is then =
      let goes = carried_on stage.setting stage.me now me_node known s.c (hearing_reply stage s from call reply) z reading scrub on in
      finishes_by stage n w s d packet rest shows same next.queue shows.up (carried_out stage.setting stage.me (noted goes.0) known s.c z)
      (heard_step stage n w s from call reply rest shows next
      ∙ ap (λ (y : Next). carried_for stage.setting stage.me now me_node known s.c (hearing_reply stage s from call reply) y reading scrub) is
      ∙ goes.1) (then goes.0)

  -- a reply that is left out
  pub skip_plays : decision stage s from call reply ≡ Ignores
      → ((later : World) → Shows stage n later (heard s reply rest) → Finishes stage n s.c later) → Finishes stage n s.c w
  skip_plays is then =
      after_step Ignores s.c tt (record { group = refl; prior = refl; only = refl; boot = refl; seq = refl; of_group = refl; view = refl; stripe = refl }) is (λ later_scrub head.
      then (world_by stage w (1 + head.place) packet (carried_out stage.setting stage.me (noted later_scrub) known s.c Ignores))
      (subst (λ (q : List Packet). Shows stage n (world_by stage w (1 + head.place) packet (carried_out stage.setting stage.me (noted later_scrub) known s.c Ignores))
      (record s { known = known; queue = q })) (append-nil rest)
      (shows_next stage n w (world_by stage w (1 + head.place) packet (carried_out stage.setting stage.me (noted later_scrub) known s.c Ignores)) s
      (record s { known = known; queue = rest ++ [] }) packet rest [] shows head
      (heard_move stage n w (world_by stage w (1 + head.place) packet (carried_out stage.setting stage.me (noted later_scrub) known s.c Ignores)) s
      (with_known (noted later_scrub) known) s.c known (1 + head.place) rest [] shows refl refl refl refl
      (record { boot = refl; seq = refl; call = shows.call; known_is = refl; learnt = refl; ballots = refl; replicas = refl; live = refl })
      (record { operation = shows.operation; is = shows.is; brick = refl; boot = refl; seq = refl })
      (record { numbers = refl; reached = refl; packets = refl; own = tt })
      (record { group = refl; prior = refl; only = refl; boot = refl; seq = refl; of_group = refl; view = refl; stripe = refl })))))

  -- one that counts, where more are waited for
  pub count_plays : (d : Coordinator) → decision stage s from call reply ≡ Waits d → SameCall s.c d
      → ((later : World) → Shows stage n later (waits (heard s reply rest) d) → Finishes stage n d later) → Finishes stage n s.c w
  count_plays d is same then =
      after_step (Waits d) d tt same is (λ later_scrub head.
      then (world_by stage w (1 + head.place) packet (carried_out stage.setting stage.me (noted later_scrub) known s.c (Waits d)))
      (subst (λ (q : List Packet). Shows stage n (world_by stage w (1 + head.place) packet (carried_out stage.setting stage.me (noted later_scrub) known s.c (Waits d)))
      (record s { c = d; known = known; queue = q })) (append-nil rest)
      (shows_next stage n w (world_by stage w (1 + head.place) packet (carried_out stage.setting stage.me (noted later_scrub) known s.c (Waits d))) s
      (record s { c = d; known = known; queue = rest ++ [] }) packet rest [] shows head
      (heard_move stage n w (world_by stage w (1 + head.place) packet (carried_out stage.setting stage.me (noted later_scrub) known s.c (Waits d))) s
      (with_call (noted later_scrub) known (noted later_scrub).busy s.c.call.seq (Some d)) d known (1 + head.place) rest [] shows refl refl refl refl
      (record {
        boot = refl;
        seq = refl;
        call = put_same (noted later_scrub).calls s.c.call.seq (Some d);
        known_is = refl;
        learnt = refl;
        ballots = refl;
        replicas = refl;
        live = refl;
      })
      (record { operation = shows.operation; is = shows.is; brick = refl; boot = refl; seq = refl })
      (record { numbers = refl; reached = refl; packets = refl; own = tt }) same))))

  -- one that begins an ordered phase
  pub begin_plays : (d : Coordinator) → decision stage s from call reply ≡ Sends d → SameCall s.c d
      → ((later : World) → Shows stage n later (sent stage (heard s reply rest) d) → Finishes stage n d later) → Finishes stage n s.c w
  begin_plays d is same then =
      after_step (Sends d) d tt same is (λ later_scrub head.
      then (world_by stage w (1 + head.place) packet (carried_out stage.setting stage.me (noted later_scrub) known s.c (Sends d)))
      (shows_next stage n w (world_by stage w (1 + head.place) packet (carried_out stage.setting stage.me (noted later_scrub) known s.c (Sends d))) s
      (sent stage (heard s reply rest) d) packet rest (phase_packets stage.setting stage.me d) shows head
      (heard_move stage n w (world_by stage w (1 + head.place) packet (carried_out stage.setting stage.me (noted later_scrub) known s.c (Sends d))) s
      (with_call (noted later_scrub) (max known d.stamp.time) (noted later_scrub).busy s.c.call.seq (Some d)) d (max known d.stamp.time) (1 + head.place) rest
      (phase_packets stage.setting stage.me d) shows refl refl refl refl
      (record {
        boot = refl;
        seq = refl;
        call = put_same (noted later_scrub).calls s.c.call.seq (Some d);
        known_is = refl;
        learnt = refl;
        ballots = refl;
        replicas = refl;
        live = refl;
      })
      (record { operation = shows.operation; is = shows.is; brick = refl; boot = refl; seq = refl })
      (record {
        numbers = refl;
        reached = refl;
        packets = refl;
        own = phase_own stage w n d.call (request_of stage.setting.code d) 0 (asked_group d).members (next_number stage n w s d shows same);
      })
      same)))

  -- the number of the operation that the coordinator's call is of
  number_is : (z : World) → z.numbers ≡ w.numbers → z.nodes ≡ w.nodes → number_of z stage.me.0 s.c.call.seq ≡ n
  number_is z numbers nodes =
      ap₂ (λ (f : ℕ → ℕ → ℕ → ℕ) (g : ℕ → Node). f stage.me.0 (g stage.me.0).boot s.c.call.seq) numbers nodes
      ∙ ap (λ (b : ℕ). w.numbers stage.me.0 b s.c.call.seq) shows.node_boot ∙ shows.number

  -- one that makes the version
  pub create_plays : (d : Coordinator) → decision stage s from call reply ≡ Makes d → SameCall s.c d
      → ((later : World) → Shows stage n later (made stage (heard s reply rest) d) → Finishes stage n d later) → Finishes stage n s.c w
  create_plays d is same then =
      after_step (Makes d) d tt same is (λ later_scrub head.
      then (world_by stage w (1 + head.place) packet (carried_out stage.setting stage.me (noted later_scrub) known s.c (Makes d)))
      (shows_next stage n w (world_by stage w (1 + head.place) packet (carried_out stage.setting stage.me (noted later_scrub) known s.c (Makes d))) s
      (made stage (heard s reply rest) d) packet rest (phase_packets stage.setting stage.me d) shows head
      (heard_move stage n w (world_by stage w (1 + head.place) packet (carried_out stage.setting stage.me (noted later_scrub) known s.c (Makes d))) s
      (with_call (noted later_scrub) known (noted later_scrub).busy s.c.call.seq (Some d)) d known (1 + head.place) rest
      (phase_packets stage.setting stage.me d) shows refl refl refl refl
      (record {
        boot = refl;
        seq = refl;
        call = put_same (noted later_scrub).calls s.c.call.seq (Some d);
        known_is = refl;
        learnt = refl;
        ballots = refl;
        replicas = refl;
        live = refl;
      })
      (record {
        operation = record shows.operation { version = Some d.stamp; made = true; base = d.base };
        is = ap (λ (k : ℕ). put w.operations k (with_made d.stamp d.base (w.operations k)) n) (number_is w refl refl)
            ∙ put_same w.operations n (with_made d.stamp d.base (w.operations n))
            ∙ ap (λ (z : Option Operation). with_made d.stamp d.base z) shows.is;
        brick = refl;
        boot = refl;
        seq = refl;
      })
      (record {
        numbers = refl;
        reached = refl;
        packets = refl;
        own = phase_own stage w n d.call (request_of stage.setting.code d) 0 (asked_group d).members (next_number stage n w s d shows same);
      })
      same)))

  -- one that ends the operation with an answer
  module _ (answer : Answer) (seen stored : Option Stamp) (well : is_answer answer ≡ true) where
    -- the operations once the version was seen
    abbrev seen_at : ℕ → Stamp → ℕ → Option Operation
    seen_at k v = put w.operations k (with_seen v (w.operations k))

    -- the world after a step on the reply
    abbrev world_after : ℕ → NodeStep → World
    world_after number step = world_by stage w number packet step

    -- what it sends last
    sends_last : w.packets ++ collect_packets stage.me s.c stored ≡ w.packets ++ (collect_packets stage.me s.c stored ++ [])
    sends_last = ap (λ (l : List Packet). w.packets ++ l) (sym (append-nil (collect_packets stage.me s.c stored)))

    -- an operation with marks is answered
    answered : (number : ℕ) (seen : Option Stamp) → EndsAt stage s.c.phase s.c.stamp s.parts seen stored
        → HasEnded stage n s.c w (world_after number (carried_out stage.setting stage.me me_node known s.c (Ends answer seen stored)))
    answered number None ends =
        closes_at stage n w (world_after number (carried_out stage.setting stage.me me_node known s.c (Ends answer None stored))) s
        (with_call me_node known (me_node.busy - 1) s.c.call.seq None) None stored shows refl refl [] sends_last
        (record { boot = refl; call = put_same me_node.calls s.c.call.seq None; learnt = refl; ballots = refl; replicas = refl })
        (record {
          operation = record shows.operation { answered = is_answer answer };
          is = ap (λ (k : ℕ). put w.operations k (with_answer answer (w.operations k)) n) (number_is w refl refl)
              ∙ put_same w.operations n (with_answer answer (w.operations n)) ∙ ap (λ (z : Option Operation). with_answer answer z) shows.is;
          brick = refl;
          boot = refl;
          seq = refl;
          made = refl;
          version = refl;
          answered = well;
        })
        ends
    answered number (Some v) ends =
        closes_at stage n w (world_after number (carried_out stage.setting stage.me me_node known s.c (Ends answer (Some v) stored))) s
        (with_call me_node known (me_node.busy - 1) s.c.call.seq None) (Some v) stored shows refl refl [] sends_last
        (record { boot = refl; call = put_same me_node.calls s.c.call.seq None; learnt = refl; ballots = refl; replicas = refl })
        (record {
          operation = record shows.operation { version = Some v; answered = is_answer answer };
          is = ap (λ (k : ℕ). put (seen_at k v) k (with_answer answer (seen_at k v k)) n) (number_is w refl refl)
              ∙ put_same (seen_at n v) n (with_answer answer (seen_at n v n))
              ∙ ap (λ (z : Option Operation). with_answer answer z) (put_same w.operations n (with_seen v (w.operations n)))
              ∙ ap (λ (z : Option Operation). with_answer answer (with_seen v z)) shows.is;
          brick = refl;
          boot = refl;
          seq = refl;
          made = refl;
          version = refl;
          answered = well;
        })
        ends

    -- a read of a synchronisation is closed
    abbrev closed : Option Stamp → NodeStep
    closed z = read_closed stage.me me_node known s.c answer z stored

    -- it was not aborted
    no_cause : abort_cause answer ≡ None
    no_cause = by answer well
      where
        by : (a : Answer) → is_answer a ≡ true → abort_cause a ≡ None
        by (Data bytes) is = refl
        by Done is = refl
        by (Aborted cause) is = absurd (false≢true is)

    -- the operation, in a world whose operations are these
    read_answered : (later : World) (z : Option Stamp) → later.operations n ≡ with_closed (abort_cause answer) (with_seen_if z (w.operations n))
        → IsAnswered w later n shows.operation z
    read_answered later None is = record {
      operation = record shows.operation { closed = Some (abort_cause answer); answered = not (is_some (abort_cause answer)) };
      is = is ∙ ap (λ (o : Option Operation). with_closed (abort_cause answer) o) shows.is;
      brick = refl;
      boot = refl;
      seq = refl;
      made = refl;
      version = refl;
      answered = ap (λ (z : Option Cause). not (is_some z)) no_cause;
    }
    read_answered later (Some v) is = record {
      operation = record shows.operation { version = Some v; closed = Some (abort_cause answer); answered = not (is_some (abort_cause answer)) };
      is = is ∙ ap (λ (o : Option Operation). with_closed (abort_cause answer) (with_seen v o)) shows.is;
      brick = refl;
      boot = refl;
      seq = refl;
      made = refl;
      version = refl;
      answered = ap (λ (z : Option Cause). not (is_some z)) no_cause;
    }

    -- its operation was told of
    abbrev closed_operations : ℕ → Option Stamp → ℕ → Option Operation
    closed_operations k None = put w.operations k (with_closed (abort_cause answer) (w.operations k))
    closed_operations k (Some v) = put (seen_at k v) k (with_closed (abort_cause answer) (seen_at k v k))

    closed_is : (z : Option Stamp)
        → closed_operations (number_of w stage.me.0 s.c.call.seq) z n ≡ with_closed (abort_cause answer) (with_seen_if z (w.operations n))
    closed_is None =
        ap (λ (k : ℕ). put w.operations k (with_closed (abort_cause answer) (w.operations k)) n) (number_is w refl refl)
        ∙ put_same w.operations n (with_closed (abort_cause answer) (w.operations n))
    closed_is (Some v) =
        ap (λ (k : ℕ). put (seen_at k v) k (with_closed (abort_cause answer) (seen_at k v k)) n) (number_is w refl refl)
        ∙ put_same (seen_at n v) n (with_closed (abort_cause answer) (seen_at n v n))
        ∙ ap (λ (o : Option Operation). with_closed (abort_cause answer) o) (put_same w.operations n (with_seen v (w.operations n)))

    -- the synchronisation goes on without a new read, or ends, or the scrub does
    read_ends : (number : ℕ) (seen : Option Stamp) → EndsAt stage s.c.phase s.c.stamp s.parts seen stored → (job : Option Job) (left : Option Scrub)
        (more : List Packet) (reports : List Report) → HasEnded stage n s.c w (world_after number (then_does (closed seen)
        (record { node = record (closed seen).node { job = job; scrub = left }; packets = more; told = []; answers = []; reports = reports })))
    read_ends number None ends job left more reports =
        closes_at stage n w _ s _ None stored shows refl refl more refl
        (record { boot = refl; call = put_same me_node.calls s.c.call.seq None; learnt = refl; ballots = refl; replicas = refl })
        (read_answered _ None (closed_is None)) ends
    read_ends number (Some v) ends job left more reports =
        closes_at stage n w _ s _ (Some v) stored shows refl refl more refl
        (record { boot = refl; call = put_same me_node.calls s.c.call.seq None; learnt = refl; ballots = refl; replicas = refl })
        (read_answered _ (Some v) (closed_is (Some v))) ends

    -- or the next read begins: an operation of another number, and a call of another one
    another : n ≢ w.begun + 1
    another same = let most = shows.begun in omega (arith, most, same)

    other_call : (d : Coordinator) → put (put me_node.calls s.c.call.seq None) (me_node.seq + 1) (Some d) s.c.call.seq ≡ None
    other_call d =
        put_other (put me_node.calls s.c.call.seq None) (me_node.seq + 1) (Some d) s.c.call.seq
        (λ same. let most = shows.within in omega (arith, most, same))
        ∙ put_same me_node.calls s.c.call.seq None

    next_read : (number : ℕ) (seen : Option Stamp) → EndsAt stage s.c.phase s.c.stamp s.parts seen stored → (job : Job) (group : Group)
        → HasEnded stage n s.c w (world_after number (then_does (closed seen)
        (read_begun_by stage.setting stage.me (closed seen).node job (read_call group job stage.me now (closed seen).node))))
    next_read number None ends job group =
        closes_at stage n w _ s _ None stored shows refl refl
        (phase_packets stage.setting stage.me (read_call group job stage.me now (closed None).node)) refl
        (record { boot = refl; call = other_call (read_call group job stage.me now (closed None).node); learnt = refl; ballots = refl; replicas = refl })
        (read_answered _ None (put_other (closed_operations (number_of w stage.me.0 s.c.call.seq) None) (w.begun + 1) _ n another ∙ closed_is None)) ends
    next_read number (Some v) ends job group =
        closes_at stage n w _ s _ (Some v) stored shows refl refl
        (phase_packets stage.setting stage.me (read_call group job stage.me now (closed (Some v)).node)) refl
        (record { boot = refl; call = other_call (read_call group job stage.me now (closed (Some v)).node); learnt = refl; ballots = refl; replicas = refl })
        (read_answered _ (Some v) (put_other (closed_operations (number_of w stage.me.0 s.c.call.seq) (Some v)) (w.begun + 1) _ n another ∙ closed_is (Some v)))
        ends

    pub answer_plays : decision stage s from call reply ≡ Ends answer seen stored → EndsAt stage s.c.phase s.c.stamp s.parts seen stored
        → Finishes stage n s.c w
    answer_plays is ends =
        let heard_c : Coordinator = hearing_reply stage s from call reply in
        ends_by stage n w s packet rest shows next.queue shows.up
        (carried_for stage.setting stage.me now me_node known s.c heard_c (Ends answer seen stored) reading scrub)
        (heard_step stage n w s from call reply rest shows next
        ∙ ap (λ (y : Next). carried_for stage.setting stage.me now me_node known s.c heard_c y reading scrub) is) (λ head.
        ends_each (λ (step : NodeStep). HasEnded stage n s.c w (world_after (1 + head.place) step)) stage.setting stage.me now me_node known s.c heard_c answer
        seen stored reading scrub (answered (1 + head.place) seen ends) (λ job. record {
          stays = read_ends (1 + head.place) seen ends me_node.job me_node.scrub [] [];
          ends = λ told. read_ends (1 + head.place) seen ends None me_node.scrub [] (Report.Sync job.group told ∷ []);
          finishes = read_ends (1 + head.place) seen ends None me_node.scrub (synced_packets stage.me job.group job.view.number stage.setting.layout.bricks 0)
              (Report.Sync job.group (synced_answer job.view.number) ∷ []);
          reads = λ attempt group kept. next_read (1 + head.place) seen ends (record job { attempt = attempt }) group;
        })
        (λ told. read_ends (1 + head.place) seen ends me_node.job None [] (Report.Scrub s.c.call (members_alone s.c.only) told ∷ [])))
