-- A brick's step on a message concerns the operation of that message alone: its packets, its coordinator, and what is told of it. Its other packets are of views
-- alone.
use Rattle.view_laws.proofs.Syncing.{synced_each}
use Rattle.std.proofs.Common.{◌≡◌, ◌≢◌, ℕ, zero, suc, ◌+◌, List, [], ◌∷◌, Option, Some, None, refl, sym, ap, ◌∙◌, ◌⊎◌, inl, inr, subst, Bool, true, ◌≤◌, arith, not}
use Rattle.std.specs.Prelude.{slice_get, is_some}
use Rattle.std.proofs.Math.Nat.{le-max_left}
use Rattle.fab_base.specs.declared.answers.Answer.{Answer}
use Rattle.fab_base.specs.declared.answers.Cause.{Cause}
use Rattle.fab_base.specs.Layouts.{Group}
use Rattle.protocol.specs.Jobs.{Job, abort_cause, synced_answer}
use Rattle.protocol.specs.Proposals.{round_after}
use Rattle.view_laws.proofs.Calling.{StepCalls, OfBallots, IsOfDraft}
use Rattle.view_laws.proofs.SyncReads.{carried_each, each_synced, read_call}
use Rattle.calm_laws.proofs.Keys.{KeepsKey, SameKeys, same_keys, same_keys_put, same_keys_then}
use Rattle.fab_base.specs.declared.identities.BrickId.{BrickId}
use Rattle.fab_base.specs.declared.stamps.Stamp.{Stamp}
use Rattle.messages.specs.declared.calls.Call.{Call}
use Rattle.messages.specs.declared.packets.Message.{Message}
use Rattle.messages.specs.declared.packets.Packet.{Packet}
use Rattle.messages.specs.declared.requests.Request.{Request}
use Rattle.messages.specs.declared.replies.Reply.{Reply}
use Rattle.protocol.specs.Settings.{Setting}
use Rattle.protocol.specs.Replicas.{handle}
use Rattle.protocol.specs.declared.phases.Counted.{Counted}
use Rattle.protocol.specs.Coordinators.{Coordinator, Next, Ignores, Waits, Sends, Makes, Ends, counts_at, counted_at, once_full, with_reply, request_of, on_reply, asked_group, hearing}
use Rattle.protocol.specs.declared.tellings.Report.{Report}
use Rattle.protocol.specs.Nodes.{carried_for, job_reading, read_closed, read_begun_by, synced_packets, then_does, Node, NodeStep, put, no_step, with_known, with_round, with_replica, replica_at, full_at, known_after, fresh_stamp, reply_packets, requested, replied_at, carried_out, received, heard, collect_packets, to_members, vote_at, voted_on, node_taught_by, node_learnt, view_counted, node_synced, scrub_of, members_alone}
use Rattle.protocol.proofs.Packets.{OfEach, each_both, each_collect, each_member, each_none, each_reply}
use Rattle.protocol_laws.proofs.Proposing.{IsOfViews, ballot_each}
use Rattle.protocol_laws.proofs.Teaching.{heard_each, told_each, learnt_each}
use Rattle.calm_laws.proofs.Fresh.{IsMade, IsMadeBy}
use Rattle.protocol.specs.Worlds.{World, Operation, Choices, is_answer, number_of, with_made, with_seen, with_answer, with_closed, world_stepped}
use Rattle.protocol.specs.Calms.{operation_of}
use Rattle.protocol.proofs.CountsAt.{CountsAt, counts_facts}
use Rattle.protocol_laws.proofs.Books.{Books, CallBooks, IsCall}
use Rattle.protocol_laws.proofs.Outcomes.{NextFits, once_full_fits}
use Rattle.protocol.proofs.Puts.{put_other}
use Rattle.protocol.proofs.Served.{request_each}
use Rattle.protocol.specs.Scrubs.{Scrub, scrub_answer}

-- a packet is a request or a reply under a call of brick i, of this boot and number
abbrev pub IsKeyed : ℕ → ℕ → ℕ → Packet → Type 0
IsKeyed i boot seq packet = of packet.message
  where
    of : Message → Type 0
    of (Message.Request call request) = (packet.from.0 ≡ i) × (call.boot ≡ boot) × (call.seq ≡ seq)
    of (Message.Reply call reply) = (packet.to.0 ≡ i) × (call.boot ≡ boot) × (call.seq ≡ seq)
    of message = ⊥

-- so it is of the call's operation
pub keyed_of : (w : World) (i boot seq : ℕ) (packet : Packet) → IsKeyed i boot seq packet → operation_of w packet ≡ w.numbers i boot seq
keyed_of w i boot seq packet = of packet.from packet.to packet.message
  where
    of : (from to : BrickId) (message : Message) → IsKeyed i boot seq (record { from = from; to = to; message = message })
        → operation_of w (record { from = from; to = to; message = message }) ≡ w.numbers i boot seq
    of from to (Message.Request call request) is =
        ap (λ (j : ℕ). w.numbers j call.boot call.seq) is.0 ∙ ap (λ (b : ℕ). w.numbers i b call.seq) is.1 ∙ ap (λ (k : ℕ). w.numbers i boot k) is.2
    of from to (Message.Reply call reply) is =
        ap (λ (j : ℕ). w.numbers j call.boot call.seq) is.0 ∙ ap (λ (b : ℕ). w.numbers i b call.seq) is.1 ∙ ap (λ (k : ℕ). w.numbers i boot k) is.2
    of from to message is = absurd is

-- and its call was made, if that was
pub keyed_made : (nodes : ℕ → Node) (i boot seq : ℕ) → IsMade (nodes i) boot seq → (packet : Packet) → IsKeyed i boot seq packet → IsMadeBy nodes packet
keyed_made nodes i boot seq made packet = of packet.from packet.to packet.message
  where
    at : (j b k : ℕ) → j ≡ i → b ≡ boot → k ≡ seq → IsMade (nodes j) b k
    at j b k same boots seqs =
        subst (λ (l : ℕ). IsMade (nodes l) b k) (sym same)
        (subst (λ (c : ℕ). IsMade (nodes i) c k) (sym boots) (subst (λ (l : ℕ). IsMade (nodes i) boot l) (sym seqs) made))

    of : (from to : BrickId) (message : Message) → IsKeyed i boot seq (record { from = from; to = to; message = message })
        → IsMadeBy nodes (record { from = from; to = to; message = message })
    of from to (Message.Request call request) is = at from.0 call.boot call.seq is.0 is.1 is.2
    of from to (Message.Reply call reply) is = at to.0 call.boot call.seq is.0 is.1 is.2
    of from to message is = absurd is

-- a message that is of views alone, or tells that one is synced: it is no operation's
abbrev pub IsOfNone : Message → Type 0
IsOfNone (Message.Synced group view) = Unit {0}
IsOfNone message = IsOfViews message

pub of_none : (message : Message) → IsOfViews message → IsOfNone message
of_none (Message.Request call request) is = is
of_none (Message.Learn group view) is = is
of_none message is = absurd is

-- a packet is under this call, or no operation's
abbrev pub IsKeyedOrNone : ℕ → ℕ → ℕ → Packet → Type 0
IsKeyedOrNone i boot seq packet = IsKeyed i boot seq packet ⊎ IsOfNone packet.message

-- The step of a brick is of the operation of this call, which brick i asks: each packet is under the call, or no operation's; no other operation changes, none
-- begins, and each keeps its call.
pub record StepIsOf (setting : Setting) (w : World) (me : BrickId) (step : NodeStep) (i boot seq : ℕ) : Type 0 where
  pub boot_is : step.node.boot ≡ (w.nodes me.0).boot
  pub packets : OfEach (IsKeyedOrNone i boot seq) step.packets
  pub calls : (k : ℕ) → number_of w me.0 k ≢ w.numbers i boot seq → step.node.calls k ≡ (w.nodes me.0).calls k
  pub operations : (replies : ℕ → ℕ → List Counted) (choices : Choices) (reached : ℕ → Bool) (a : ℕ) → a ≢ w.numbers i boot seq
      → (world_stepped setting (record w { replies = replies; choices = choices; reached = reached }) me step).operations a ≡ w.operations a
  pub keys : (replies : ℕ → ℕ → List Counted) (choices : Choices) (reached : ℕ → Bool)
      → SameKeys w.operations (world_stepped setting (record w { replies = replies; choices = choices; reached = reached }) me step).operations
  pub numbers : (replies : ℕ → ℕ → List Counted) (choices : Choices) (reached : ℕ → Bool)
      → (world_stepped setting (record w { replies = replies; choices = choices; reached = reached }) me step).numbers ≡ w.numbers
  pub begun : (replies : ℕ → ℕ → List Counted) (choices : Choices) (reached : ℕ → Bool)
      → (world_stepped setting (record w { replies = replies; choices = choices; reached = reached }) me step).begun ≡ w.begun

-- none of these packets is of anything
none_at : (i boot seq : ℕ) → OfEach (IsKeyedOrNone i boot seq) []
none_at i boot seq = each_none (IsKeyedOrNone i boot seq)

-- a step that only changes what a brick keeps, or knows, and sends such packets
pub quiet_is_of : (setting : Setting) (w : World) (me : BrickId) (node : Node) (packets : List Packet) (reports : List Report) (i boot seq : ℕ)
    → node.boot ≡ (w.nodes me.0).boot → node.calls ≡ (w.nodes me.0).calls
    → OfEach (IsKeyedOrNone i boot seq) packets
    → StepIsOf setting w me (record { node = node; packets = packets; told = []; answers = []; reports = reports }) i boot seq
quiet_is_of setting w me node packets reports i boot seq boot_is calls are = record {
  boot_is = boot_is;
  packets = are;
  calls = λ k other. ap (λ f. f k) calls;
  operations = λ replies choices reached a other. refl;
  keys = λ replies choices reached. same_keys w.operations;
  numbers = λ replies choices reached. refl;
  begun = λ replies choices reached. refl;
}

-- the packets of a call to its members are its operation's
pub members_are_of : (w : World) (me : BrickId) (call : Call) (request : ℕ → Request) (seat : ℕ) (members : List BrickId) (j : ℕ) (packet : Packet)
    → slice_get (to_members me call request seat members) j ≡ Some packet → operation_of w packet ≡ w.numbers me.0 call.boot call.seq
members_are_of w me call request seat [] j packet at = let never : ⊥ = cc in absurd never
members_are_of w me call request seat (member ∷ members) zero packet at =
    let same : record { from = me; to = member; message = Message.Request call (request seat) } ≡ packet = cc in
    subst (λ (z : Packet). operation_of w z ≡ w.numbers me.0 call.boot call.seq) same refl
members_are_of w me call request seat (member ∷ members) (suc j) packet at = members_are_of w me call request (seat + 1) members j packet at

-- packets under a call to its members
keyed_members : (me : BrickId) (call : Call) (request : ℕ → Request) (i boot seq : ℕ) → me.0 ≡ i → call.boot ≡ boot → call.seq ≡ seq → (members : List BrickId)
    → OfEach (IsKeyedOrNone i boot seq) (to_members me call request 0 members)
keyed_members me call request i boot seq brick boots seqs members =
    each_member (IsKeyedOrNone i boot seq) me call request (λ seat to. inl (brick, boots, seqs)) 0 members

-- a request that is handled
request_is_of : (setting : Setting) (w : World) (me from : BrickId) (call : Call) (request : Request)
    → StepIsOf setting w me (requested setting me from (w.nodes me.0) call request) from.0 call.boot call.seq
request_is_of setting w me from call request =
    request_each (λ (step : NodeStep). StepIsOf setting w me step from.0 call.boot call.seq) setting me from (w.nodes me.0) call request
    (quiet_is_of setting w me (w.nodes me.0) [] [] from.0 call.boot call.seq refl refl (none_at from.0 call.boot call.seq))
    (λ reply is. quiet_is_of setting w me (w.nodes me.0) (reply_packets me from call (Some reply)) [] from.0 call.boot call.seq refl refl (replied_to (Some reply)))
    (λ group seat here is.
    let reaction = handle setting.code group.m (full_at setting.layout.records (w.nodes me.0).live) seat (replica_at (w.nodes me.0) call) request in
    quiet_is_of setting w me (with_replica (w.nodes me.0) call reaction) (reply_packets me from call reaction.reply) [] from.0 call.boot call.seq refl refl
    (replied_to reaction.reply))
    (λ group ballot asks here.
    let vote = vote_at (w.nodes me.0) call ballot asks in
    quiet_is_of setting w me (voted_on me from (w.nodes me.0) call vote).node (reply_packets me from call (Some vote.reply)) [] from.0 call.boot call.seq refl
    refl (replied_to (Some vote.reply)))
  where
    -- the reply is under the call
    replied_to : (o : Option Reply) → OfEach (IsKeyedOrNone from.0 call.boot call.seq) (reply_packets me from call o)
    replied_to o = each_reply (IsKeyedOrNone from.0 call.boot call.seq) me from call o (λ r is. inl (refl, refl, refl))

-- a brick that is as it was in its boot, its open operations, its last call and its proposal, and knows no earlier round
pub record IsSelf (old new : Node) : Type 0 where
  pub boot : new.boot ≡ old.boot
  pub calls : new.calls ≡ old.calls
  pub seq : new.seq ≡ old.seq
  pub proposal : new.proposal ≡ old.proposal
  pub round : old.round ≤ new.round

-- what a step tells of an operation leaves its key
made_key : (t : Stamp) (base : Option Stamp) → KeepsKey (with_made t base)
made_key t base = record { none = refl; some = λ o. (record o { version = Some t; made = true; base = base }, refl, refl, refl, refl) }

seen_key : (v : Stamp) → KeepsKey (with_seen v)
seen_key v = record { none = refl; some = λ o. (record o { version = Some v }, refl, refl, refl, refl) }

answer_key : (answer : Answer) → KeepsKey (with_answer answer)
answer_key answer = record { none = refl; some = λ o. (record o { answered = is_answer answer }, refl, refl, refl, refl) }

closed_key : (cause : Option Cause) → KeepsKey (with_closed cause)
closed_key cause = record { none = refl; some = λ o. (record o { closed = Some cause; answered = not (is_some cause) }, refl, refl, refl, refl) }

-- A step closes a read of a brick's synchronisation, and the next read begins in it: so much is the step that closes it of the operation of this call, and the step
-- that begins the next follows it.
pub record StepReads (setting : Setting) (w : World) (me : BrickId) (step : NodeStep) (i boot seq : ℕ) : Type 0 where
  pub node : Node
  pub known : ℕ
  pub c : Coordinator
  pub answer : Answer
  pub seen : Option Stamp
  pub stored : Option Stamp
  pub closed_is : StepIsOf setting w me (read_closed me node known c answer seen stored) i boot seq
  pub closed_calls : StepCalls me.0 (w.nodes me.0) (read_closed me node known c answer seen stored).node (read_closed me node known c answer seen stored).packets
  pub now : ℕ
  pub group : Group
  pub job : Job
  pub step_is : (let closed = read_closed me node known c answer seen stored in
      step ≡ then_does closed (read_begun_by setting me closed.node job (read_call group job me now closed.node)))

-- the step is of a call, or closes a read and begins the next
abbrev pub StepGoes : Setting → World → BrickId → NodeStep → ℕ → ℕ → ℕ → Type 0
StepGoes setting w me step i boot seq = StepIsOf setting w me step i boot seq ⊎ StepReads setting w me step i boot seq

-- an operation's coordinator takes its next step
module _ (setting : Setting) (w : World) (books : Books setting w) (me : BrickId) (node : Node) (self : IsSelf (w.nodes me.0) node) (known : ℕ) (c : Coordinator)
    (is : IsCall w me.0 c.call.seq c) where
  its : CallBooks setting w me.0 c.call.seq c
  its = books.calls me.0 c.call.seq c is

  -- the boot and the number of its call
  abbrev its_boot : ℕ
  its_boot = (w.nodes me.0).boot

  abbrev its_seq : ℕ
  its_seq = c.call.seq

  -- the other calls stay
  other_calls : (z : Option Coordinator) (k : ℕ) → number_of w me.0 k ≢ number_of w me.0 c.call.seq
      → put node.calls c.call.seq z k ≡ (w.nodes me.0).calls k
  other_calls z k other =
      put_other node.calls c.call.seq z k (λ same. other (ap (λ (l : ℕ). number_of w me.0 l) same)) ∙ ap (λ f. f k) self.calls

  -- and so do the other operations
  other_operations : (m : ℕ) (change : Option Operation → Option Operation) (a : ℕ) → a ≢ m → put w.operations m (change (w.operations m)) a ≡ w.operations a
  other_operations m change a other = put_other w.operations m (change (w.operations m)) a other

  -- operation m once the step told of it: of a version that was seen, if one was, and of this change
  abbrev m : ℕ
  m = number_of w me.0 c.call.seq

  abbrev told_of : Option Stamp → (Option Operation → Option Operation) → ℕ → Option Operation
  told_of None change = put w.operations m (change (w.operations m))
  told_of (Some v) change =
      put (put w.operations m (with_seen v (w.operations m))) m (change (put w.operations m (with_seen v (w.operations m)) m))

  told_other : (seen : Option Stamp) (change : Option Operation → Option Operation) (a : ℕ) → a ≢ m → told_of seen change a ≡ w.operations a
  told_other None change a other = other_operations m change a other
  told_other (Some v) change a other =
      put_other (put w.operations m (with_seen v (w.operations m))) m (change (put w.operations m (with_seen v (w.operations m)) m)) a other
      ∙ other_operations m (with_seen v) a other

  told_keys : (seen : Option Stamp) (change : Option Operation → Option Operation) → KeepsKey change → SameKeys w.operations (told_of seen change)
  told_keys None change key = same_keys_put w.operations m change key
  told_keys (Some v) change key =
      same_keys_then w.operations (put w.operations m (with_seen v (w.operations m))) (told_of (Some v) change)
      (same_keys_put w.operations m (with_seen v) (seen_key v)) (same_keys_put (put w.operations m (with_seen v (w.operations m))) m change key)

  collects_are : (stored : Option Stamp)
      → OfEach (IsKeyedOrNone me.0 its_boot its_seq) (collect_packets me c stored)
  collects_are None = none_at me.0 its_boot its_seq
  collects_are (Some t) = keyed_members me c.call (λ seat. Request.Collect t) me.0 its_boot its_seq refl its.call_boot refl c.group.members

  pub next_is_of : (fresh : Option Stamp) (d : Coordinator) (z : Next) → d.call ≡ c.call → NextFits fresh d z
      → StepIsOf setting w me (carried_out setting me node known c z) me.0 its_boot its_seq
  next_is_of fresh d Ignores same fits = absurd fits
  next_is_of fresh d (Waits e) same fits = record {
    boot_is = self.boot;
    packets = none_at me.0 its_boot its_seq;
    calls = other_calls (Some e);
    operations = λ replies choices reached a other. refl;
    keys = λ replies choices reached. same_keys w.operations;
    numbers = λ replies choices reached. refl;
    begun = λ replies choices reached. refl;
  }
  next_is_of fresh d (Sends e) same fits = record {
    boot_is = self.boot;
    packets = keyed_members me e.call (request_of setting.code e) me.0 its_boot its_seq refl (fits.same.boot ∙ ap (λ call. call.boot) same ∙ its.call_boot)
        (fits.same.seq ∙ ap (λ call. call.seq) same) (asked_group e).members;
    calls = other_calls (Some e);
    operations = λ replies choices reached a other. refl;
    keys = λ replies choices reached. same_keys w.operations;
    numbers = λ replies choices reached. refl;
    begun = λ replies choices reached. refl;
  }
  next_is_of fresh d (Makes e) same fits = record {
    boot_is = self.boot;
    packets = keyed_members me e.call (request_of setting.code e) me.0 its_boot its_seq refl (fits.same.boot ∙ ap (λ call. call.boot) same ∙ its.call_boot)
        (fits.same.seq ∙ ap (λ call. call.seq) same) (asked_group e).members;
    calls = other_calls (Some e);
    operations = λ replies choices reached a other. other_operations (number_of w me.0 c.call.seq) (with_made e.stamp e.base) a other;
    keys = λ replies choices reached. same_keys_put w.operations (number_of w me.0 c.call.seq) (with_made e.stamp e.base) (made_key e.stamp e.base);
    numbers = λ replies choices reached. refl;
    begun = λ replies choices reached. refl;
  }
  next_is_of fresh d (Ends answer None stored) same fits = record {
    boot_is = self.boot;
    packets = collects_are stored;
    calls = other_calls None;
    operations = λ replies choices reached. told_other None (with_answer answer);
    keys = λ replies choices reached. told_keys None (with_answer answer) (answer_key answer);
    numbers = λ replies choices reached. refl;
    begun = λ replies choices reached. refl;
  }
  next_is_of fresh d (Ends answer (Some v) stored) same fits = record {
    boot_is = self.boot;
    packets = collects_are stored;
    calls = other_calls None;
    operations = λ replies choices reached. told_other (Some v) (with_answer answer);
    keys = λ replies choices reached. told_keys (Some v) (with_answer answer) (answer_key answer);
    numbers = λ replies choices reached. refl;
    begun = λ replies choices reached. refl;
  }

  -- the operation is a read of the brick's synchronisation, and is closed
  closed_is_of : (answer : Answer) (seen stored : Option Stamp)
      → StepIsOf setting w me (read_closed me node known c answer seen stored) me.0 its_boot its_seq
  closed_is_of answer None stored = record {
    boot_is = self.boot;
    packets = collects_are stored;
    calls = other_calls None;
    operations = λ replies choices reached. told_other None (with_closed (abort_cause answer));
    keys = λ replies choices reached. told_keys None (with_closed (abort_cause answer)) (closed_key (abort_cause answer));
    numbers = λ replies choices reached. refl;
    begun = λ replies choices reached. refl;
  }
  closed_is_of answer (Some v) stored = record {
    boot_is = self.boot;
    packets = collects_are stored;
    calls = other_calls None;
    operations = λ replies choices reached. told_other (Some v) (with_closed (abort_cause answer));
    keys = λ replies choices reached. told_keys (Some v) (with_closed (abort_cause answer)) (closed_key (abort_cause answer));
    numbers = λ replies choices reached. refl;
    begun = λ replies choices reached. refl;
  }

  -- and no other begins
  closed_then : (answer : Answer) (seen stored : Option Stamp) (job : Option Job) (scrub : Option Scrub) (more : List Packet)
      (reports : List Report) → OfEach (IsKeyedOrNone me.0 its_boot its_seq) more
      → StepIsOf setting w me (then_does (read_closed me node known c answer seen stored) (record {
        node = record (read_closed me node known c answer seen stored).node { job = job; scrub = scrub };
        packets = more;
        told = [];
        answers = [];
        reports = reports;
      })) me.0 its_boot its_seq
  closed_then answer None stored job scrub more reports are = record {
    boot_is = self.boot;
    packets = each_both (IsKeyedOrNone me.0 its_boot its_seq) (collect_packets me c stored) more (collects_are stored) are;
    calls = other_calls None;
    operations = λ replies choices reached. told_other None (with_closed (abort_cause answer));
    keys = λ replies choices reached. told_keys None (with_closed (abort_cause answer)) (closed_key (abort_cause answer));
    numbers = λ replies choices reached. refl;
    begun = λ replies choices reached. refl;
  }
  closed_then answer (Some v) stored job scrub more reports are = record {
    boot_is = self.boot;
    packets = each_both (IsKeyedOrNone me.0 its_boot its_seq) (collect_packets me c stored) more (collects_are stored) are;
    calls = other_calls None;
    operations = λ replies choices reached. told_other (Some v) (with_closed (abort_cause answer));
    keys = λ replies choices reached. told_keys (Some v) (with_closed (abort_cause answer)) (closed_key (abort_cause answer));
    numbers = λ replies choices reached. refl;
    begun = λ replies choices reached. refl;
  }

  -- it leaves the brick's proposal, and names no ballot
  closed_steps : (answer : Answer) (seen stored : Option Stamp)
      → StepCalls me.0 (w.nodes me.0) (read_closed me node known c answer seen stored).node (read_closed me node known c answer seen stored).packets
  closed_steps answer seen stored = record {
    rises = inr (self.boot, more_calls, self.round);
    drafts = λ q is. inl (record {
      was = q;
      is = sym self.proposal ∙ is;
      call_boot = refl;
      call_seq = refl;
      ballot = refl;
      boot = self.boot;
      seq = more_calls;
      round = self.round;
    });
    packets =
        each_collect (λ (packet : Packet). OfBallots (IsOfDraft me.0 (read_closed me node known c answer seen stored).node packet.from.0) packet.message) me c
        stored (λ t to. tt);
  }
    where
      more_calls : (w.nodes me.0).seq ≤ node.seq
      more_calls = let same = self.seq in omega (arith, same)

  -- what it decided is carried out, for a read of the brick's own or for another operation
  pub next_goes : (now : ℕ) (fresh : Option Stamp) (d : Coordinator) (z : Next) → d.call ≡ c.call → NextFits fresh d z → (heard : Coordinator)
      (reading : Option Job) (scrub : Option Scrub)
      → StepGoes setting w me (carried_for setting me now node known c heard z reading scrub) me.0 its_boot its_seq
  next_goes now fresh d z same fits heard reading scrub =
      carried_each (λ (step : NodeStep). StepGoes setting w me step me.0 its_boot its_seq) setting me now node known c heard z reading scrub
      (inl (next_is_of fresh d z same fits))
      (λ job job_is answer seen stored ends. record {
        stays = inl (closed_then answer seen stored node.job node.scrub [] [] (none_at me.0 its_boot its_seq));
        ends = λ told. inl (closed_then answer seen stored None node.scrub [] (Report.Sync job.group told ∷ []) (none_at me.0 its_boot its_seq));
        finishes = inl (closed_then answer seen stored None node.scrub (synced_packets me job.group job.view.number setting.layout.bricks 0)
            (Report.Sync job.group (synced_answer job.view.number) ∷ [])
            (each_synced (IsKeyedOrNone me.0 its_boot its_seq) me job.group job.view.number (λ to. inr tt) setting.layout.bricks 0));
        reads = λ attempt group kept. inr (record {
          node = node;
          known = known;
          c = c;
          answer = answer;
          seen = seen;
          stored = stored;
          closed_is = closed_is_of answer seen stored;
          closed_calls = closed_steps answer seen stored;
          now = now;
          group = group;
          job = record job { attempt = attempt };
          step_is = refl;
        });
      })
      (record {
        begins = λ s is e sends.
            let told : StepIsOf setting w me (carried_out setting me node known c (Sends e)) me.0 its_boot its_seq
            = next_is_of fresh d (Sends e) same (subst (λ (y : Next). NextFits fresh d y) sends fits) in
            inl (record {
              boot_is = told.boot_is;
              packets = told.packets;
              calls = told.calls;
              operations = told.operations;
              keys = told.keys;
              numbers = told.numbers;
              begun = told.begun;
            });
        ends = λ s is answer seen stored ends.
            inl (closed_then answer seen stored node.job None [] (Report.Scrub c.call (members_alone c.only) (scrub_answer s.lagging (abort_cause answer) stored) ∷ [])
            (none_at me.0 its_boot its_seq));
      })

-- a reply that is handled, by a brick that may have been taught a view
replied_is_of : (setting : Setting) (w : World) (books : Books setting w) (me : BrickId) (now : ℕ) (from : BrickId) (node : Node) → IsSelf (w.nodes me.0) node
    → (call : Call) (reply : Reply) → StepGoes setting w me (replied_at setting me now from node call reply ((w.nodes me.0).calls call.seq)) me.0 call.boot call.seq
unfolding on_reply
replied_is_of setting w books me now from node self call reply = at_call ((w.nodes me.0).calls call.seq) refl
  where
    quiet : (next : Node) → next.boot ≡ node.boot → next.calls ≡ node.calls → StepIsOf setting w me (no_step next) me.0 call.boot call.seq
    quiet next boot calls = quiet_is_of setting w me next [] [] me.0 call.boot call.seq (boot ∙ self.boot) (calls ∙ self.calls) (none_at me.0 call.boot call.seq)

    left_out : (c heard : Coordinator) (reading : Option Job) (scrub : Option Scrub)
        → StepGoes setting w me (carried_for setting me now node (known_after node.known reply) c heard Ignores reading scrub) me.0 call.boot call.seq
    left_out c heard reading scrub =
        carried_each (λ (step : NodeStep). StepGoes setting w me step me.0 call.boot call.seq) setting me now node (known_after node.known reply) c heard Ignores
        reading scrub (inl (quiet (with_known node (known_after node.known reply)) refl refl))
        (λ job is answer seen stored never. let no : ⊥ = cc in absurd no)
        (record {
          begins = λ s is d never. let no : ⊥ = cc in absurd no;
          ends = λ s is answer seen stored never. let no : ⊥ = cc in absurd no;
        })

    at_seat : (c : Coordinator) → IsCall w me.0 call.seq c → (z : Option ℕ) → counts_at setting.layout.block c from.0 call reply ≡ z
        → StepGoes setting w me (carried_for setting me now node (known_after node.known reply) c (hearing c from reply z)
        (counted_at setting.layout.block setting.code (fresh_stamp me c.stamp.view now node.boot (known_after node.known reply)) c from reply z)
        (job_reading node.job c.call.seq) (scrub_of node.scrub c.call.seq)) me.0 call.boot call.seq
    at_seat c is None none = left_out c c (job_reading node.job c.call.seq) (scrub_of node.scrub c.call.seq)
    at_seat c is (Some seat) counts =
        let facts : CountsAt setting.layout.block c from.0 call reply seat = counts_facts setting.layout.block c from.0 call reply seat counts in
        let time : ℕ = known_after node.known reply in
        let fresh : Option Stamp = fresh_stamp me c.stamp.view now node.boot time in
        let own : IsCall w me.0 c.call.seq c = subst (λ (k : Call). IsCall w me.0 k.seq c) facts.call_is is in
        let books_of : CallBooks setting w me.0 c.call.seq c = books.calls me.0 c.call.seq c own in
        subst (λ (b : ℕ). StepGoes setting w me (carried_for setting me now node time c (with_reply c seat from reply)
        (once_full setting.layout.block setting.code fresh (with_reply c seat from reply)) (job_reading node.job c.call.seq) (scrub_of node.scrub c.call.seq)) me.0 b call.seq)
        (sym books_of.call_boot ∙ ap (λ (k : Call). k.boot) (sym facts.call_is))
        (subst (λ (l : ℕ). StepGoes setting w me (carried_for setting me now node time c (with_reply c seat from reply)
        (once_full setting.layout.block setting.code fresh (with_reply c seat from reply)) (job_reading node.job c.call.seq) (scrub_of node.scrub c.call.seq)) me.0 (w.nodes me.0).boot l)
        (ap (λ (k : Call). k.seq) (sym facts.call_is))
        (next_goes setting w books me node self time c own now fresh (with_reply c seat from reply)
        (once_full setting.layout.block setting.code fresh (with_reply c seat from reply)) refl
        (once_full_fits setting.layout.block setting.code fresh (with_reply c seat from reply)) (with_reply c seat from reply) (job_reading node.job c.call.seq)
        (scrub_of node.scrub c.call.seq)))

    at_call : (z : Option Coordinator) → (w.nodes me.0).calls call.seq ≡ z
        → StepGoes setting w me (replied_at setting me now from node call reply z) me.0 call.boot call.seq
    at_call None none =
        inl (ballot_each (λ (step : NodeStep). StepIsOf setting w me step me.0 call.boot call.seq) setting.layout me from
        (with_known node (known_after node.known reply)) call reply node.proposal
        (λ seq round proposal packets reports more are.
        quiet_is_of setting w me (record (with_known node (known_after node.known reply)) { seq = seq; round = round; proposal = proposal }) packets reports
        me.0 call.boot call.seq self.boot self.calls (λ j packet at. inr (of_none packet.message (are j packet at)))))
    at_call (Some c) is = at_seat c is (counts_at setting.layout.block c from.0 call reply) refl

-- the greatest round that a brick heard of does not fall
round_rises : (round : ℕ) (reply : Reply) → round ≤ round_after round reply
round_rises round (Reply.Outbid ballot) = le-max_left round ballot.round
round_rises round reply = omega arith

-- a reply that is heard
reply_is_of : (setting : Setting) (w : World) (books : Books setting w) (me : BrickId) (now : ℕ) (from : BrickId) (call : Call) (reply : Reply)
    → StepGoes setting w me (heard setting me now from (w.nodes me.0) call reply) me.0 call.boot call.seq
reply_is_of setting w books me now from call reply =
    heard_each (λ (step : NodeStep). StepGoes setting w me step me.0 call.boot call.seq) setting me now from (w.nodes me.0) call reply
    (inl (quiet_is_of setting w me (with_known (with_round (w.nodes me.0) reply) (known_after (w.nodes me.0).known reply)) [] [] me.0 call.boot call.seq refl
    refl (none_at me.0 call.boot call.seq)))
    (λ fit.
    replied_is_of setting w books me now from
    (node_taught_by setting.layout.block call.group.0 (with_round (w.nodes me.0) reply) (view_counted setting.layout from (w.nodes me.0) call reply))
    (told_each (λ (n : Node). IsSelf (w.nodes me.0) n) setting.layout.block call.group.0 (with_round (w.nodes me.0) reply)
    (view_counted setting.layout from (w.nodes me.0) call reply) (record { boot = refl; calls = refl; seq = refl; proposal = refl; round = rounds })
    (λ view later. record { boot = refl; calls = refl; seq = refl; proposal = refl; round = rounds })) call reply)
  where
    rounds : (w.nodes me.0).round ≤ round_after (w.nodes me.0).round reply
    rounds = round_rises (w.nodes me.0).round reply

-- the brick, boot and number of a packet's call; of a packet of no call these are 0
abbrev pub key_of : BrickId → BrickId → Message → ℕ × ℕ × ℕ
key_of from to (Message.Request call request) = (from.0, call.boot, call.seq)
key_of from to (Message.Reply call reply) = (to.0, call.boot, call.seq)
key_of from to message = (0, 0, 0)

-- a message that is handled
pub message_is_of : (setting : Setting) (w : World) (books : Books setting w) (now : ℕ) (from to : BrickId) (message : Message)
    → (let packet : Packet = record { from = from; to = to; message = message } in
    let key = key_of from to message in
    StepGoes setting w to (received setting to now (w.nodes to.0) packet) key.0 key.1 key.2)
unfolding received
message_is_of setting w books now from to (Message.Request call request) = inl (request_is_of setting w to from call request)
message_is_of setting w books now from to (Message.Reply call reply) = reply_is_of setting w books to now from call reply
message_is_of setting w books now from to (Message.Learn group view) =
    inl (quiet_is_of setting w to (node_learnt setting.layout (w.nodes to.0) group view) [] [] 0 0 0 learnt.boot learnt.calls (none_at 0 0 0))
  where
    learnt : IsSelf (w.nodes to.0) (node_learnt setting.layout (w.nodes to.0) group view)
    learnt =
        learnt_each (λ (n : Node). IsSelf (w.nodes to.0) n) setting.layout (w.nodes to.0) group view (record { boot = refl; calls = refl; seq = refl; proposal = refl; round = omega arith })
        (λ later. record { boot = refl; calls = refl; seq = refl; proposal = refl; round = omega arith })
message_is_of setting w books now from to (Message.Synced group number) =
    inl (quiet_is_of setting w to (node_synced setting.layout (w.nodes to.0) group number) [] [] 0 0 0 noted.boot noted.calls (none_at 0 0 0))
  where
    noted : IsSelf (w.nodes to.0) (node_synced setting.layout (w.nodes to.0) group number)
    noted =
        synced_each (λ (n : Node). IsSelf (w.nodes to.0) n) setting.layout (w.nodes to.0) group number (record { boot = refl; calls = refl; seq = refl; proposal = refl; round = omega arith })
        (λ own unsynced. record { boot = refl; calls = refl; seq = refl; proposal = refl; round = omega arith })
message_is_of setting w books now from to message = inl (quiet_is_of setting w to (w.nodes to.0) [] [] 0 0 0 refl refl (none_at 0 0 0))
