-- Each step of a brick keeps the calls and ballots of proposals in order, so they are so in every world that a run reaches.
use Rattle.std.proofs.Common.{◌≡◌, ℕ, ◌+◌, ◌<◌, ◌≤◌, Bool, true, false, cond, ◌&&◌, inl, inr, ⊎_elim, List, [], ◌∷◌, ◌++◌, Option, Some, None, refl, sym, ap, ◌∙◌, subst, arith, nat_lt, nat_eq}
use Rattle.std.specs.Prelude.{not}
use Rattle.std.proofs.lemmas.Bool.{cond_both, and_parts, false≢true, eqb-true, not-true}
use Rattle.std.proofs.lemmas.Bool.Decides.{nat_tests}
use Rattle.std.proofs.lemmas.Option.{same_Some}
use Rattle.std.proofs.Math.Nat.{le-max_left}
use Rattle.std.proofs.Math.Path.{fun_ext}
use Rattle.fab_base.specs.declared.identities.BrickId.{BrickId}
use Rattle.fab_base.specs.declared.identities.GroupId.{GroupId}
use Rattle.fab_base.specs.declared.stamps.Ballot.{Ballot}
use Rattle.fab_base.specs.declared.asks.Ask.{Ask}
use Rattle.fab_base.specs.Layouts.{Layout, Group, group_of}
use Rattle.messages.specs.declared.calls.Call.{Call}
use Rattle.messages.specs.declared.packets.Message.{Message}
use Rattle.messages.specs.declared.packets.Packet.{Packet}
use Rattle.messages.specs.declared.requests.Request.{Request}
use Rattle.messages.specs.declared.replies.Reply.{Reply}
use Rattle.quorum.specs.Memberships.{is_membership}
use Rattle.protocol.specs.declared.phases.Phase.{Phase}
use Rattle.protocol.specs.declared.phases.Phase.TheVariants.{Looks, LooksAt, Orders, OrdersAt, Recovers, Descends, Modifies, Bases, Stores, LooksBack}
use Rattle.protocol.specs.declared.tellings.ViewAnswer.{ViewAnswer}
use Rattle.protocol.specs.declared.tellings.ViewAnswer.TheVariants as answer
use Rattle.protocol.specs.Settings.{Setting, Code}
use Rattle.synod_laws.specs.Synods.{value_or}
use Rattle.protocol.specs.Replicas.{handle}
use Rattle.protocol.specs.Proposals.{Proposal, Voting, ballot_request, ballot_packets, round_after, with_voice, asking, greatest_choice, voted}
use Rattle.protocol.specs.Coordinators.{Coordinator, Next, Ignores, Waits, Sends, Makes, Ends, request_of, hearing, counts_at, on_reply, asked_group}
use Rattle.protocol.specs.Nodes.{Node, NodeStep, put, no_step, sending, with_known, with_round, known_after, carried_for, job_reading, scrub_of, scrub_coordinator, scrubbed_at, synced_at, collect_packets, phase_packets, invoked, began, group_at, new_coordinator, fresh_stamp, requested, full_at, replica_at, vote_at, carried_out, ended_packets, carried_ballot, replied_ballot, replied_at, view_counted, replied, lists_fit, heard, received, absorbed, ticked, proposed, proposed_in, new_proposal, proposing, stopped, restarted, may_open, read_closed, synced_packets}
use Rattle.protocol.specs.Worlds.{World, Event, first_world, is_up, packet_during, left_after, world_stepped, run}
use Rattle.protocol.proofs.Events.{EventCases, step_on, world_counting, always, started_each, stepped_each}
use Rattle.protocol.proofs.Packets.{OfEach, each_none, each_both, each_member, each_collect, each_reply, each_learn, each_ballot, each_ballot_resent}
use Rattle.protocol.proofs.Served.{request_each}
use Rattle.protocol.proofs.Tables.{put_each, put_twice}
use Rattle.protocol.specs.Jobs.{Job, begun_job}
use Rattle.view_laws.proofs.SyncReads.{carried_each, synced_at_each, each_synced, each_tick, read_call, scrubbed_at_each}
use Rattle.view_laws.proofs.Calling.{OfBallot, OfBallots, ballots_map, IsOldDraft, IsNewDraft, IsOfDraft, StepCalls, Called, own_calls, called_after}
use Rattle.view_laws.proofs.Owning.{taught_own, learnt_own, absorbed_own, synced_own}
use Rattle.view_laws.proofs.Votings.{voting_each}
use Rattle.fab_base.specs.declared.identities.StripeNo.{StripeNo}
use Rattle.protocol.specs.Scrubs.{Scrub}

-- what a phase of an operation asks for names no ballot
pub phase_names_none : (Q : Call → Ballot → Type 0) (call : Call) (code : Code) (c : Coordinator) (seat : ℕ) → OfBallot Q call (request_of code c seat)
unfolding request_of
phase_names_none Q call code c seat = by c.phase
  where
    by : (phase : Phase) → OfBallot Q call (request_of code (record c { phase = phase }) seat)
    by Looks = tt
    by (LooksAt j) = tt
    by Orders = tt
    by (OrdersAt j) = tt
    by Recovers = tt
    by (Descends bound) = tt
    by (LooksBack bound) = tt
    by (Modifies base j) = tt
    by (Bases base) = tt
    by Stores = tt

-- what a phase of a proposal asks for names its ballot
pub phase_names : (Q : Call → Ballot → Type 0) (call : Call) (p : Proposal) → Q call p.ballot → OfBallot Q call (ballot_request p)
phase_names Q call p holds = by p.asks
  where
    by : (asks : Option (List BrickId)) → OfBallot Q call (ballot_request (record p { asks = asks }))
    by None = holds
    by (Some members) = holds

-- a packet names no ballot
abbrev NamesNone : Packet → Type 0
NamesNone packet = OfBallots (λ call b. ⊥) packet.message

-- a step that names no ballot, and leaves the proposal as it was
still_calls : (i : ℕ) (node next : Node) (new : List Packet) → next.boot ≡ node.boot → node.seq ≤ next.seq → node.round ≤ next.round
    → next.proposal ≡ node.proposal → OfEach NamesNone new → StepCalls i node next new
still_calls i node next new boot seq round proposal none = record {
  rises = inr (boot, seq, round);
  drafts = λ q is. inl (record {
    was = q;
    is = sym proposal ∙ is;
    call_boot = refl;
    call_seq = refl;
    ballot = refl;
    boot = boot;
    seq = seq;
    round = round;
  });
  packets = λ k packet at. ballots_map (λ call b. ⊥) (IsOfDraft i next packet.from.0) packet.from.0 packet.message (λ call b called never. absurd never)
      (none k packet at);
}

-- one that leaves no proposal
ends_calls : (i : ℕ) (node next : Node) (new : List Packet) → next.boot ≡ node.boot → node.seq ≤ next.seq → node.round ≤ next.round
    → next.proposal ≡ None → OfEach NamesNone new → StepCalls i node next new
ends_calls i node next new boot seq round proposal none = record {
  rises = inr (boot, seq, round);
  drafts = λ q is. absurd (let never : None ≡ Some q = sym proposal ∙ is in cc);
  packets = λ k packet at. ballots_map (λ call b. ⊥) (IsOfDraft i next packet.from.0) packet.from.0 packet.message (λ call b called never. absurd never)
      (none k packet at);
}

-- nor does what a phase of an operation sends
phase_none : (setting : Setting) (me : BrickId) (c : Coordinator) → OfEach NamesNone (phase_packets setting me c)
phase_none setting me c =
    each_member NamesNone me c.call (request_of setting.code c) (λ seat to. phase_names_none (λ call b. ⊥) c.call setting.code c seat) 0 (asked_group c).members

-- an operation begins
pub invoked_calls : (setting : Setting) (me : BrickId) (now : ℕ) (node : Node) (ask : Ask)
    → StepCalls me.0 node (invoked setting me now node ask).node (invoked setting me now node ask).packets
unfolding invoked
invoked_calls setting me now node ask = in_group (group_at setting.layout node ask.group.0)
  where
    in_group : (z : Option Group) → StepCalls me.0 node (began setting me now node ask z).node (began setting me now node ask z).packets
    in_group None = still_calls me.0 node node [] refl (omega arith) (omega arith) refl (each_none NamesNone)
    in_group (Some group) =
        still_calls me.0 node _ _ refl (omega arith) (omega arith) refl (phase_none setting me (new_coordinator group me now node ask))

-- a request is handled
requested_calls : (setting : Setting) (me from : BrickId) (node : Node) (call : Call) (request : Request)
    → StepCalls me.0 node (requested setting me from node call request).node (requested setting me from node call request).packets
requested_calls setting me from node call request =
    request_each (λ (step : NodeStep). StepCalls me.0 node step.node step.packets) setting me from node call request
    (still_calls me.0 node node [] refl (omega arith) (omega arith) refl (each_none NamesNone))
    (λ reply is. still_calls me.0 node node _ refl (omega arith) (omega arith) refl (each_reply NamesNone me from call (Some reply) (λ r same. tt)))
    (λ group seat is served. still_calls me.0 node _ _ refl (omega arith) (omega arith) refl
    (each_reply NamesNone me from call (handle setting.code group.m (full_at setting.layout.records node.live) seat (replica_at node call) request).reply
    (λ r same. tt)))
    (λ group ballot asks is. still_calls me.0 node _ _ refl (omega arith) (omega arith) refl
    (each_reply NamesNone me from call (Some (vote_at node call ballot asks).reply) (λ r same. tt)))

-- what a coordinator decided is carried out
carried_calls : (setting : Setting) (me : BrickId) (node : Node) (known : ℕ) (c : Coordinator) (next : Next)
    → StepCalls me.0 node (carried_out setting me node known c next).node (carried_out setting me node known c next).packets
carried_calls setting me node known c Ignores = still_calls me.0 node _ _ refl (omega arith) (omega arith) refl (each_none NamesNone)
carried_calls setting me node known c (Waits d) = still_calls me.0 node _ _ refl (omega arith) (omega arith) refl (each_none NamesNone)
carried_calls setting me node known c (Sends d) = still_calls me.0 node _ _ refl (omega arith) (omega arith) refl (phase_none setting me d)
carried_calls setting me node known c (Makes d) = still_calls me.0 node _ _ refl (omega arith) (omega arith) refl (phase_none setting me d)
carried_calls setting me node known c (Ends answered seen stored) =
    still_calls me.0 node _ _ refl (omega arith) (omega arith) refl (each_collect NamesNone me c stored (λ t to. tt))

-- so is what the coordinator of a synchronisation's read or of a scrub decided
carried_for_calls : (setting : Setting) (me : BrickId) (now : ℕ) (node : Node) (known : ℕ) (c heard : Coordinator) (next : Next) (reading : Option Job)
    (scrub : Option Scrub)
    → (let step = carried_for setting me now node known c heard next reading scrub in StepCalls me.0 node step.node step.packets)
carried_for_calls setting me now node known c heard next reading scrub =
    carried_each (λ (step : NodeStep). StepCalls me.0 node step.node step.packets) setting me now node known c heard next reading scrub
    (carried_calls setting me node known c next)
    (λ job is answered seen stored ends.
    let collects = each_collect NamesNone me c stored (λ t to. tt) in
    let closed : NodeStep = read_closed me node known c answered seen stored in
    record {
      stays = still_calls me.0 node _ _ refl (omega arith) (omega arith) refl (each_both NamesNone (collect_packets me c stored) [] collects (each_none NamesNone));
      ends = λ answer. still_calls me.0 node _ _ refl (omega arith) (omega arith) refl
          (each_both NamesNone (collect_packets me c stored) [] collects (each_none NamesNone));
      finishes = still_calls me.0 node _ _ refl (omega arith) (omega arith) refl
          (each_both NamesNone (collect_packets me c stored) (synced_packets me job.group job.view.number setting.layout.bricks 0) collects
          (each_synced NamesNone me job.group job.view.number (λ to. tt) setting.layout.bricks 0));
      reads = λ attempt group kept. still_calls me.0 node _ _ refl (omega arith) (omega arith) refl
          (each_both NamesNone (collect_packets me c stored) (phase_packets setting me (read_call group (record job { attempt = attempt }) me now closed.node)) collects
          (phase_none setting me (read_call group (record job { attempt = attempt }) me now closed.node)));
    })
    (record {
      begins = λ s is d sends. still_calls me.0 node _ _ refl (omega arith) (omega arith) refl (phase_none setting me d);
      ends = λ s is answered seen stored ended. still_calls me.0 node _ _ refl (omega arith) (omega arith) refl
          (each_both NamesNone (collect_packets me c stored) [] (each_collect NamesNone me c stored (λ t to. tt)) (each_none NamesNone));
    })

-- a synchronisation begins
pub synced_calls : (setting : Setting) (me : BrickId) (now : ℕ) (node : Node) (group : GroupId)
    → StepCalls me.0 node (synced_at setting me now node group).node (synced_at setting me now node group).packets
synced_calls setting me now node group =
    synced_at_each (λ (step : NodeStep). StepCalls me.0 node step.node step.packets) setting me now node group
    (still_calls me.0 node node [] refl (omega arith) (omega arith) refl (each_none NamesNone))
    (λ answer. still_calls me.0 node node [] refl (omega arith) (omega arith) refl (each_none NamesNone))
    (λ answer. still_calls me.0 node _ [] refl (omega arith) (omega arith) refl (each_none NamesNone))
    (λ kept is. still_calls me.0 node _ _ refl (omega arith) (omega arith) refl
    (phase_none setting me (read_call kept (begun_job group (node.learnt group.0).view) me now node)))

-- a scrub begins
pub scrubbed_calls : (setting : Setting) (me : BrickId) (now : ℕ) (node : Node) (group : GroupId) (stripe : StripeNo) (members : List BrickId)
    → (let step = scrubbed_at setting me now node group stripe members in StepCalls me.0 node step.node step.packets)
scrubbed_calls setting me now node group stripe members =
    scrubbed_at_each (λ (step : NodeStep). StepCalls me.0 node step.node step.packets) setting me now node group stripe members
    (still_calls me.0 node node [] refl (omega arith) (omega arith) refl (each_none NamesNone))
    (λ kept is. still_calls me.0 node _ _ refl (omega arith) (omega arith) refl
    (phase_none setting me (scrub_coordinator kept me now node group stripe members)))

-- an end of a proposal names no ballot
ended_none : (layout : Layout) (me : BrickId) (p : Proposal) (ended : ViewAnswer) → OfEach NamesNone (ended_packets layout me p ended)
ended_none layout me p (answer.Decided number members) = each_learn NamesNone me p.call.group _ (λ to. tt) layout.bricks 0
ended_none layout me p (answer.Outbid ballot) = each_none NamesNone
ended_none layout me p (answer.NotSynced brick) = each_none NamesNone
ended_none layout me p (answer.Moved view) = each_none NamesNone
ended_none layout me p answer.BadMembers = each_none NamesNone

-- what a proposal decided is carried out
voted_calls : (layout : Layout) (me from : BrickId) (node : Node) (p : Proposal) (call : Call) (reply : Reply) → node.proposal ≡ Some p
    → StepCalls me.0 node (carried_ballot layout me node p (voted layout.bricks p from call reply)).node
    (carried_ballot layout me node p (voted layout.bricks p from call reply)).packets
voted_calls layout me from node p call reply is =
    voting_each (λ (at : Option ℕ) (v : Voting). StepCalls me.0 node (carried_ballot layout me node p v).node (carried_ballot layout me node p v).packets) layout.bricks p
    from call reply
    (record {
      ignores = λ none. still_calls me.0 node node [] refl (omega arith) (omega arith) refl (each_none NamesNone);
      waits = λ seat counts. record {
        rises = inr (refl, omega arith, omega arith);
        drafts = λ q same. inl (old_draft q _ (same_Some _ q same) refl refl refl);
        packets = λ k packet at. absurd (let never : None ≡ Some packet = at in cc);
      };
      asks = λ seat counts enough free none. record {
        rises = inr (refl, omega arith, omega arith);
        drafts = λ q same. inl (old_draft q _ (same_Some _ q same) refl refl refl);
        packets = sends_draft (asking (with_voice p seat from reply) (value_or p.own (greatest_choice (with_voice p seat from reply).counted)));
      };
      decides = λ seat members counts enough free some.
          ends_calls me.0 node _ _ refl (omega arith) (omega arith) refl (ended_none layout me p (answer.Decided _ members));
      refuses = λ seat refused counts enough some. ends_calls me.0 node _ _ refl (omega arith) (omega arith) refl (ended_none layout me p refused);
    })
  where
    sends_draft : (q : Proposal) → OfEach (λ (packet : Packet). OfBallots (IsOfDraft me.0 (record node { proposal = Some q }) packet.from.0) packet.message)
        (ballot_packets me q)
    sends_draft q =
        each_ballot (λ (packet : Packet). OfBallots (IsOfDraft me.0 (record node { proposal = Some q }) packet.from.0) packet.message) me q
        (λ to. phase_names (IsOfDraft me.0 (record node { proposal = Some q }) me.0) q.call q
        (record { from_is = refl; draft = q; is = refl; boot = refl; seq = refl; ballot = refl }))

    old_draft : (q r : Proposal) → r ≡ q → r.call.boot ≡ p.call.boot → r.call.seq ≡ p.call.seq → r.ballot ≡ p.ballot
        → IsOldDraft node (record node { proposal = Some r }) q
    old_draft q r same boot seq ballot = record {
      was = p;
      is = is;
      call_boot = ap (λ (z : Proposal). z.call.boot) (sym same) ∙ boot;
      call_seq = ap (λ (z : Proposal). z.call.seq) (sym same) ∙ seq;
      ballot = ap (λ (z : Proposal). z.ballot) (sym same) ∙ ballot;
      boot = refl;
      seq = omega arith;
      round = omega arith;
    }

-- the greatest round that a brick heard of does not fall
round_rises : (round : ℕ) (reply : Reply) → round ≤ round_after round reply
round_rises round (Reply.Outbid ballot) = le-max_left round ballot.round
round_rises round (Reply.Found order newest) = omega arith
round_rises round Reply.Ordered = omega arith
round_rises round (Reply.OrderedRead found) = omega arith
round_rises round Reply.Stored = omega arith
round_rises round (Reply.Behind newest) = omega arith
round_rises round (Reply.Later stamp) = omega arith
round_rises round (Reply.Full live) = omega arith
round_rises round (Reply.Moved view lineage) = omega arith
round_rises round (Reply.Old found) = omega arith
round_rises round Reply.Retired = omega arith
round_rises round (Reply.Promise accepted) = omega arith
round_rises round Reply.Accepted = omega arith
round_rises round Reply.NotSynced = omega arith

-- a step from a brick whose round has risen
from_round : (i : ℕ) (node heard next : Node) (new : List Packet) → heard.boot ≡ node.boot → heard.seq ≡ node.seq → node.round ≤ heard.round
    → heard.proposal ≡ node.proposal → StepCalls i heard next new → StepCalls i node next new
from_round i node heard next new boot seq round proposal step = record {
  rises = ⊎_elim
      (λ (later : heard.boot < next.boot). inl (omega (arith, boot, later)))
      (λ (now : (next.boot ≡ heard.boot) × (heard.seq ≤ next.seq) × (heard.round ≤ next.round)).
      let more_seq = now.1 in let more_round = now.2 in inr (now.0 ∙ boot, omega (arith, seq, more_seq), omega (arith, round, more_round)))
      step.rises;
  drafts = λ q is. ⊎_elim
      (λ (old : IsOldDraft heard next q).
      let more_seq = old.seq in let more_round = old.round in
      inl (record {
        was = old.was;
        is = sym proposal ∙ old.is;
        call_boot = old.call_boot;
        call_seq = old.call_seq;
        ballot = old.ballot;
        boot = old.boot ∙ boot;
        seq = omega (arith, seq, more_seq);
        round = omega (arith, round, more_round);
      }))
      (λ (fresh : IsNewDraft i heard next q). inr (record {
        call_boot = fresh.call_boot ∙ boot;
        call_seq = fresh.call_seq ∙ ap (λ (k : ℕ). k + 1) seq;
        brick = fresh.brick;
        ballot_boot = fresh.ballot_boot ∙ boot;
        round = fresh.round;
        boot = fresh.boot ∙ boot;
        seq = fresh.seq ∙ ap (λ (k : ℕ). k + 1) seq;
      }))
      (step.drafts q is);
  packets = step.packets;
}

-- a reply is handled
heard_calls : (setting : Setting) (me from : BrickId) (now : ℕ) (node : Node) (call : Call) (reply : Reply)
    → StepCalls me.0 node (heard setting me now from node call reply).node (heard setting me now from node call reply).packets
unfolding replied
heard_calls setting me from now node call reply =
    cond_both (lists_fit setting.layout call reply) (replied setting me now from node call reply)
    (no_step (with_known (with_round node reply) (known_after node.known reply))) (λ (step : NodeStep). StepCalls me.0 node step.node step.packets)
    (λ fit. own_calls me.0 node (replied_at setting me now from (with_round node reply) call reply (node.calls call.seq)).node _
    (replied_at setting me now from (with_round node reply) call reply (node.calls call.seq)).packets
    (taught_own setting.layout.block call.group.0 _ (view_counted setting.layout from node call reply)) (at_call (node.calls call.seq)))
    (λ isnt. still_calls me.0 node _ [] refl (omega arith) (round_rises node.round reply) refl (each_none NamesNone))
  where
    at_proposal : (z : Option Proposal) → node.proposal ≡ z
        → StepCalls me.0 node (replied_ballot setting.layout me from (with_known (with_round node reply) (known_after node.known reply)) call reply z).node
        (replied_ballot setting.layout me from (with_known (with_round node reply) (known_after node.known reply)) call reply z).packets
    at_proposal None is = still_calls me.0 node _ [] refl (omega arith) (round_rises node.round reply) refl (each_none NamesNone)
    at_proposal (Some p) is =
        from_round me.0 node (with_known (with_round node reply) (known_after node.known reply)) _ _ refl refl (round_rises node.round reply) refl
        (voted_calls setting.layout me from (with_known (with_round node reply) (known_after node.known reply)) p call reply is)

    at_call : (z : Option Coordinator) → StepCalls me.0 node (replied_at setting me now from (with_round node reply) call reply z).node
        (replied_at setting me now from (with_round node reply) call reply z).packets
    at_call None = at_proposal node.proposal refl
    at_call (Some c) =
        from_round me.0 node (with_round node reply) _ _ refl refl (round_rises node.round reply) refl
        (carried_for_calls setting me now (with_round node reply) (known_after node.known reply) c
        (hearing c from reply (counts_at setting.layout.block c from.0 call reply))
        (on_reply setting.layout.block setting.code (fresh_stamp me c.stamp.view now node.boot (known_after node.known reply)) c from call reply)
        (job_reading node.job c.call.seq) (scrub_of node.scrub c.call.seq))

-- a message is handled
pub received_calls : (setting : Setting) (me : BrickId) (now : ℕ) (node : Node) (packet : Packet)
    → StepCalls me.0 node (received setting me now node packet).node (received setting me now node packet).packets
unfolding received
received_calls setting me now node packet = by packet.message
  where
    quiet : StepCalls me.0 node node []
    quiet = still_calls me.0 node node [] refl (omega arith) (omega arith) refl (each_none NamesNone)

    by : (message : Message) → StepCalls me.0 node (received setting me now node (record { from = packet.from; to = packet.to; message = message })).node
        (received setting me now node (record { from = packet.from; to = packet.to; message = message })).packets
    by (Message.Request call request) = requested_calls setting me packet.from node call request
    by (Message.Reply call reply) = heard_calls setting me packet.from now node call reply
    by (Message.Learn group view) = own_calls me.0 node node _ [] (learnt_own setting.layout node group view) quiet
    by (Message.Synced group number) = own_calls me.0 node node _ [] (synced_own setting.layout node group number) quiet
    by (Message.Client ask) = quiet
    by (Message.ClientReply id answered) = quiet

-- a proposal begins
pub proposed_calls : (setting : Setting) (me : BrickId) (node : Node) (group : GroupId) (members : List BrickId)
    → StepCalls me.0 node (proposed setting me node group members).node (proposed setting me node group members).packets
unfolding proposed
proposed_calls setting me node group members = by (group_of setting.layout group.0)
  where
    quiet : StepCalls me.0 node node []
    quiet = still_calls me.0 node node [] refl (omega arith) (omega arith) refl (each_none NamesNone)

    fresh : (m : ℕ) → StepCalls me.0 node (proposing node (new_proposal me node m group members)) (ballot_packets me (new_proposal me node m group members))
    fresh m = record {
      rises = inr (refl, omega arith, omega arith);
      drafts = λ q same. let is : new_proposal me node m group members ≡ q = same_Some _ q same in inr (record {
        call_boot = ap (λ (z : Proposal). z.call.boot) (sym is);
        call_seq = ap (λ (z : Proposal). z.call.seq) (sym is);
        brick = ap (λ (z : Proposal). z.ballot.brick.0) (sym is);
        ballot_boot = ap (λ (z : Proposal). z.ballot.boot) (sym is);
        round = (let round_is : q.ballot.round ≡ node.round + 1 = ap (λ (z : Proposal). z.ballot.round) (sym is) in omega (arith, round_is));
        boot = refl;
        seq = refl;
      });
      packets = each_ballot (λ (packet : Packet). OfBallots (IsOfDraft me.0 (proposing node (new_proposal me node m group members)) packet.from.0) packet.message)
          me (new_proposal me node m group members)
          (λ to. phase_names (IsOfDraft me.0 (proposing node (new_proposal me node m group members)) me.0) _ (new_proposal me node m group members)
          (record { from_is = refl; draft = new_proposal me node m group members; is = refl; boot = refl; seq = refl; ballot = refl }));
    }

    by : (z : Option Group) → StepCalls me.0 node (proposed_in setting me node group members z).node (proposed_in setting me node group members z).packets
    by None = quiet
    by (Some kept) =
        cond_both (is_membership kept.m setting.layout.bricks members)
        (sending (proposing node (new_proposal me node kept.m group members)) (ballot_packets me (new_proposal me node kept.m group members))) _
        (λ (step : NodeStep). StepCalls me.0 node step.node step.packets) (λ may. fresh kept.m) (λ isnt. quiet)

-- a clock ticks
pub ticked_calls : (setting : Setting) (me : BrickId) (node : Node) → StepCalls me.0 node node (ticked setting me node)
unfolding ticked
ticked_calls setting me node = record {
  rises = inr (refl, omega arith, omega arith);
  drafts = λ q is. inl (record {
    was = q;
    is = is;
    call_boot = refl;
    call_seq = refl;
    ballot = refl;
    boot = refl;
    seq = omega arith;
    round = omega arith;
  });
  packets = each_tick P setting me node.calls (λ j c is seat to. phase_names_none (IsOfDraft me.0 node me.0) c.call setting.code c seat)
      (λ j c is later from to. tt) node.job node.scrub node.seq node.proposal
      (each_ballot_resent P me node.proposal
      (λ p is to. phase_names (IsOfDraft me.0 node me.0) p.call p (record { from_is = refl; draft = p; is = is; boot = refl; seq = refl; ballot = refl }))
      (λ p is later from to. tt));
}
  where
    P : Packet → Type 0
    P packet = OfBallots (IsOfDraft me.0 node packet.from.0) packet.message

-- ---- worlds

-- what a stopped brick may be found as has its counters, and no proposal
pub record LeavesOwn (node left : Node) : Type 0 where
  pub boot : left.boot ≡ node.boot
  pub seq : left.seq ≡ node.seq
  pub round : left.round ≡ node.round
  pub proposal : left.proposal ≡ None

-- calls are in order
pub record Calls (w : World) : Type 0 where
  pub called : Called w.packets w.nodes
  pub left : (i : ℕ) → w.up i ≡ false → LeavesOwn (w.nodes i) (w.after i)

-- a table with a value put back is the same
pub put_back : {A : Type 0} (f : ℕ → A) (k : ℕ) → put f k (f k) ≡ f
put_back f k = fun_ext (λ i. cond_both (nat_eq i k) (f k) (f i) (λ x. x ≡ f i) (λ is. ap f (sym (eqb-true i k is))) (λ isnt. refl))

-- a list with nothing added
pub append_none : {A : Type 0} (xs : List A) → xs ++ [] ≡ xs
append_none [] = refl
append_none (x ∷ xs) = ap (λ l. x ∷ l) (append_none xs)

-- a brick that is up is no stopped one
pub up_not_down : (layout : Layout) (w : World) (brick : BrickId) → is_up layout w brick ≡ true → w.up brick.0 ≡ true
up_not_down layout w brick up = (and_parts _ (w.up brick.0) up).1

-- a step changes neither which bricks are up nor what stopped ones left
pub stepped_up : (setting : Setting) (w : World) (me : BrickId) (step : NodeStep)
    → ((world_stepped setting w me step).up ≡ w.up) × ((world_stepped setting w me step).after ≡ w.after)
stepped_up setting w me step =
    stepped_each (λ (x : World). (x.up ≡ w.up) × (x.after ≡ w.after)) setting me step (λ x seq t base holds. holds) (λ x seq t holds. holds)
    (λ x nodes call holds. holds) (λ x seq cause holds. holds) (λ x answered holds. holds) (λ x nodes held packets choices holds. holds) w (refl, refl)

-- what holds of each stopped brick and what it left holds after a brick that is up has changed
pub left_stays : (P : Node → Node → Type 0) (up : ℕ → Bool) (nodes after : ℕ → Node) (i : ℕ) (next : Node) → up i ≡ true
    → ((k : ℕ) → up k ≡ false → P (nodes k) (after k)) → (k : ℕ) → up k ≡ false → P (put nodes i next k) (after k)
left_stays P up nodes after i next here left =
    put_each (λ k (n : Node). up k ≡ false → P n (after k)) nodes i next (λ down. absurd (false≢true (sym down ∙ here))) (λ k other down. left k down)

-- and after a brick has stopped
pub left_more : (P : Node → Node → Type 0) (up : ℕ → Bool) (nodes after : ℕ → Node) (i : ℕ) (next left : Node) → P next left
    → ((k : ℕ) → up k ≡ false → P (nodes k) (after k)) → (k : ℕ) → put up i false k ≡ false → P (put nodes i next k) (put after i left k)
left_more P up nodes after i next left here others k = by (nat_eq k i)
  where
    by : (t : Bool) → cond t false (up k) ≡ false → P (cond t next (nodes k)) (cond t left (after k))
    by true down = here
    by false down = others k down

-- and after one has started
pub left_fewer : (P : Node → Node → Type 0) (up : ℕ → Bool) (nodes after : ℕ → Node) (i : ℕ) (next : Node)
    → ((k : ℕ) → up k ≡ false → P (nodes k) (after k)) → (k : ℕ) → put up i true k ≡ false → P (put nodes i next k) (after k)
left_fewer P up nodes after i next others k = by (nat_eq k i)
  where
    by : (t : Bool) → cond t true (up k) ≡ false → P (cond t next (nodes k)) (after k)
    by true down = absurd (false≢true (sym down))
    by false down = others k down

-- a brick that stops leaves its own
left_own : (setting : Setting) (brick : BrickId) (node : Node) (packet : Option Packet) → LeavesOwn (stopped node) (left_after setting brick node packet)
unfolding stopped
left_own setting brick node None = record { boot = refl; seq = refl; round = refl; proposal = refl }
left_own setting brick node (Some packet) =
    cond_both (nat_eq packet.to.0 brick.0) (stopped (absorbed setting brick node packet)) (stopped node) (λ (n : Node). LeavesOwn (stopped node) n)
    (λ here. let own = absorbed_own setting brick node packet in record { boot = own.boot; seq = own.seq; round = own.round; proposal = refl })
    (λ elsewhere. record { boot = refl; seq = refl; round = refl; proposal = refl })

-- a brick that starts has no call yet in its boot
pub restarted_calls : (i : ℕ) (node : Node) (openings : ℕ) → nat_lt 0 openings ≡ true → StepCalls i node (restarted openings node) []
unfolding restarted
restarted_calls i node openings some = record {
  rises = inl (let more : 0 < openings = grind (arith, nat_tests, some) in omega (arith, more));
  drafts = λ q is. absurd (let never : None ≡ Some q = is in cc);
  packets = λ k packet at. absurd (let never : None ≡ Some packet = at in cc);
}

-- a started brick, with the world's packets
started_calls : (packets : List Packet) (nodes : ℕ → Node) → Called packets nodes → (i openings : ℕ) → nat_lt 0 openings ≡ true
    → Called packets (put nodes i (restarted openings (nodes i)))
started_calls packets nodes called i openings some =
    subst (λ (l : List Packet). Called l (put nodes i (restarted openings (nodes i)))) (append_none packets)
    (called_after packets nodes called i (restarted openings (nodes i)) [] (restarted_calls i (nodes i) openings some))

-- a brick that stops has no proposal
pub stopped_calls : (i : ℕ) (node : Node) → StepCalls i node (stopped node) []
unfolding stopped
stopped_calls i node = ends_calls i node (stopped node) [] refl (omega arith) (omega arith) refl (each_none NamesNone)

-- one that is found so has none
pub found_calls : (i : ℕ) (node left : Node) → LeavesOwn node left → StepCalls i node left []
found_calls i node left own =
    ends_calls i node left [] own.boot (let same = own.seq in omega (arith, same)) (let same = own.round in omega (arith, same)) own.proposal
    (each_none NamesNone)

-- and keeps calls in order
pub found_called : (packets : List Packet) (nodes : ℕ → Node) → Called packets nodes → (i : ℕ) (left : Node) → LeavesOwn (nodes i) left
    → Called packets (put nodes i left)
found_called packets nodes called i left own =
    subst (λ (l : List Packet). Called l (put nodes i left)) (append_none packets)
    (called_after packets nodes called i left [] (found_calls i (nodes i) left own))

-- each event keeps calls in order
calls_cases : (setting : Setting) (w : World) → Calls w → EventCases setting w Calls
calls_cases setting w calls = record {
  begins = λ brick ask may.
      let up = up_not_down setting.layout w brick (and_parts (is_up setting.layout w brick) _ may).0 in
      record {
        called = called_after w.packets w.nodes calls.called brick.0 _ _ (invoked_calls setting brick (w.clocks brick.0) (w.nodes brick.0) ask);
        left = left_stays LeavesOwn w.up w.nodes w.after brick.0 _ up calls.left;
      };
  proposes = λ brick group members may.
      let up = up_not_down setting.layout w brick (and_parts (is_up setting.layout w brick) _ may).0 in
      stepped w brick (proposed setting brick (w.nodes brick.0) group members) up calls.called calls.left
      (proposed_calls setting brick (w.nodes brick.0) group members);
  syncs = λ brick group may.
      let up = up_not_down setting.layout w brick (and_parts (is_up setting.layout w brick) _ may).0 in
      stepped w brick (synced_at setting brick (w.clocks brick.0) (w.nodes brick.0) group) up calls.called calls.left
      (synced_calls setting brick (w.clocks brick.0) (w.nodes brick.0) group);
  scrubs = λ brick group stripe members may.
      let up = up_not_down setting.layout w brick (and_parts (is_up setting.layout w brick) _ may).0 in
      stepped w brick (scrubbed_at setting brick (w.clocks brick.0) (w.nodes brick.0) group stripe members) up calls.called calls.left
      (scrubbed_calls setting brick (w.clocks brick.0) (w.nodes brick.0) group stripe members);
  handles = λ number packet at is_up_now.
      stepped (world_counting setting w number packet) packet.to (step_on setting w packet) (up_not_down setting.layout w packet.to is_up_now) calls.called calls.left
      (received_calls setting packet.to (w.clocks packet.to.0) (w.nodes packet.to.0) packet);
  sets = λ brick time is. record { called = calls.called; left = calls.left };
  ticks = λ brick up. record {
    called = subst (λ (nodes : ℕ → Node). Called (w.packets ++ ticked setting brick (w.nodes brick.0)) nodes) (put_back w.nodes brick.0)
        (called_after w.packets w.nodes calls.called brick.0 (w.nodes brick.0) (ticked setting brick (w.nodes brick.0))
        (ticked_calls setting brick (w.nodes brick.0)));
    left = calls.left;
  };
  stops = λ brick during up. record {
    called = subst (λ (l : List Packet). Called l (put w.nodes brick.0 (stopped (w.nodes brick.0)))) (append_none w.packets)
        (called_after w.packets w.nodes calls.called brick.0 (stopped (w.nodes brick.0)) [] (stopped_calls brick.0 (w.nodes brick.0)));
    left = left_more LeavesOwn w.up w.nodes w.after brick.0 _ _ (left_own setting brick (w.nodes brick.0) (packet_during w.packets during)) calls.left;
  };
  starts = λ brick openings found may.
      let parts = and_parts _ (not (w.up brick.0) && may_open openings (w.nodes brick.0)) may in
      let down = and_parts (not (w.up brick.0)) (may_open openings (w.nodes brick.0)) parts.1 in
      let some = (and_parts (nat_lt 0 openings) _ down.1).0 in
      started_each Calls w brick openings
      (record {
        called = started_calls w.packets w.nodes calls.called brick.0 openings some;
        left = left_fewer LeavesOwn w.up w.nodes w.after brick.0 _ calls.left;
      })
      (let own = calls.left brick.0 (not-true (w.up brick.0) down.0) in
      record {
        called = started_calls w.packets (put w.nodes brick.0 (w.after brick.0)) (found_called w.packets w.nodes calls.called brick.0 (w.after brick.0) own) brick.0 openings some;
        left = subst (λ (nodes : ℕ → Node). (k : ℕ) → put w.up brick.0 true k ≡ false → LeavesOwn (nodes k) (w.after k))
            (sym (put_twice w.nodes brick.0 (w.after brick.0) (restarted openings (put w.nodes brick.0 (w.after brick.0) brick.0))))
            (left_fewer LeavesOwn w.up w.nodes w.after brick.0 (restarted openings (put w.nodes brick.0 (w.after brick.0) brick.0)) calls.left);
      })
      found;
}
  where
    stepped : (x : World) (brick : BrickId) (step : NodeStep) → x.up brick.0 ≡ true → Called x.packets x.nodes
        → ((k : ℕ) → x.up k ≡ false → LeavesOwn (x.nodes k) (x.after k)) → StepCalls brick.0 (x.nodes brick.0) step.node step.packets
        → Calls (world_stepped setting x brick step)
    stepped x brick step up called left calls =
        let same = stepped_up setting x brick step in
        record {
          called = called_after x.packets x.nodes called brick.0 step.node step.packets calls;
          left = subst (λ (ups : ℕ → Bool). (k : ℕ) → ups k ≡ false → LeavesOwn (put x.nodes brick.0 step.node k) ((world_stepped setting x brick step).after k))
              (sym same.0)
              (subst (λ (after : ℕ → Node). (k : ℕ) → x.up k ≡ false → LeavesOwn (put x.nodes brick.0 step.node k) (after k)) (sym same.1)
              (left_stays LeavesOwn x.up x.nodes x.after brick.0 step.node up left));
        }

-- calls are in order in every world that a run reaches
pub always_calls : (setting : Setting) (events : List Event) → Calls (run setting events (first_world setting.layout))
always_calls setting =
    always Calls setting
    (record {
      called = record {
        requests = λ k packet at. absurd (let never : None ≡ Some packet = at in cc);
        drafts = λ i p is. absurd (let never : None ≡ Some p = is in cc);
      };
      left = λ i down. record { boot = refl; seq = refl; round = refl; proposal = refl };
    })
    (calls_cases setting)
