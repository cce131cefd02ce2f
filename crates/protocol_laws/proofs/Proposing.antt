-- A brick begins a proposal, takes a reply to it, or sends it again: all that changes of the brick is its proposal, its call number and its round, and what it sends
-- is of views alone.
use Rattle.std.proofs.Common.{ℕ, ◌≤◌, List, [], ◌∷◌, Option, Some, None, arith}
use Rattle.std.proofs.lemmas.Bool.{cond_both}
use Rattle.quorum.specs.Memberships.{is_membership}
use Rattle.fab_base.specs.declared.identities.BrickId.{BrickId}
use Rattle.fab_base.specs.declared.identities.GroupId.{GroupId}
use Rattle.fab_base.specs.declared.member_lists.View.{View}
use Rattle.fab_base.specs.declared.stamps.Ballot.{Ballot}
use Rattle.fab_base.specs.Layouts.{Layout, Group, group_of}
use Rattle.messages.specs.declared.calls.Call.{Call}
use Rattle.messages.specs.declared.packets.Message.{Message}
use Rattle.messages.specs.declared.packets.Packet.{Packet}
use Rattle.messages.specs.declared.requests.Request.{Request}
use Rattle.messages.specs.declared.replies.Reply.{Reply}
use Rattle.protocol.specs.Settings.{Setting}
use Rattle.protocol.specs.Proposals.{Proposal, Voting, Ignored, Waited, Asks, Ended, ballot_request, ballot_packets, voted}
use Rattle.protocol.specs.declared.tellings.ViewAnswer.{ViewAnswer}
use Rattle.protocol.specs.declared.tellings.ViewAnswer.TheVariants as answers
use Rattle.protocol.specs.declared.tellings.Report.{Report}
use Rattle.protocol.specs.Nodes.{Node, NodeStep, ended_packets, decided_view, carried_ballot, replied_ballot, ballot_resent, new_proposal, proposing, reporting, sending, proposed_in, proposed}
use Rattle.protocol.proofs.Packets.{OfEach, each_none, each_learn, each_ballot, each_ballot_resent}

-- a request to vote on a ballot
abbrev pub IsBallot : Request → Type 0
IsBallot (Request.Prepare ballot) = Unit {0}
IsBallot (Request.Accept ballot members) = Unit {0}
IsBallot request = ⊥

-- a message that is of views alone: it teaches one, or asks for a vote on a successor
abbrev pub IsOfViews : Message → Type 0
IsOfViews (Message.Request call request) = IsBallot request
IsOfViews (Message.Learn group view) = Unit {0}
IsOfViews message = ⊥

-- each of these packets is
abbrev pub AreOfViews : List Packet → Type 0
AreOfViews packets = OfEach (λ packet. IsOfViews packet.message) packets

-- what holds of each such packet
pub of_views_each : (Q : Packet → Type 0)
    → ((from to : BrickId) (group : GroupId) (view : View) → Q (record { from = from; to = to; message = Message.Learn group view }))
    → ((from to : BrickId) (call : Call) (ballot : Ballot) → Q (record { from = from; to = to; message = Message.Request call (Request.Prepare ballot) }))
    → ((from to : BrickId) (call : Call) (ballot : Ballot) (members : List BrickId)
    → Q (record { from = from; to = to; message = Message.Request call (Request.Accept ballot members) }))
    → (packets : List Packet) → AreOfViews packets → OfEach Q packets
of_views_each Q learn prepare accept packets are k packet at = of packet.from packet.to packet.message (are k packet at)
  where
    ballot : (from to : BrickId) (call : Call) (request : Request) → IsBallot request → Q (record { from = from; to = to; message = Message.Request call request })
    ballot from to call (Request.Prepare b) is = prepare from to call b
    ballot from to call (Request.Accept b members) is = accept from to call b members
    ballot from to call request is = absurd is

    of : (from to : BrickId) (message : Message) → IsOfViews message → Q (record { from = from; to = to; message = message })
    of from to (Message.Request call request) is = ballot from to call request is
    of from to (Message.Learn group view) is = learn from to group view
    of from to message is = absurd is

-- what a proposal asks for is a vote
ballot_is : (p : Proposal) → IsBallot (ballot_request p)
ballot_is p = of p.asks
  where
    of : (asks : Option (List BrickId)) → IsBallot (ballot_request (record p { asks = asks }))
    of None = tt
    of (Some members) = tt

-- so what it sends is of views, also when it is sent again, and when it ends
ballots_of_views : (me : BrickId) (p : Proposal) → AreOfViews (ballot_packets me p)
ballots_of_views me p = each_ballot (λ packet. IsOfViews packet.message) me p (λ to. ballot_is p)

pub resent_of_views : (me : BrickId) (proposal : Option Proposal) → AreOfViews (ballot_resent me proposal)
resent_of_views me proposal =
    each_ballot_resent (λ packet. IsOfViews packet.message) me proposal (λ p is to. ballot_is p) (λ p is later from to. tt)

ended_of_views : (layout : Layout) (me : BrickId) (p : Proposal) (answer : ViewAnswer) → AreOfViews (ended_packets layout me p answer)
ended_of_views layout me p (answers.Decided number members) =
    each_learn (λ packet. IsOfViews packet.message) me p.call.group (decided_view p number members) (λ to. tt) layout.bricks 0
ended_of_views layout me p answer = each_none (λ packet. IsOfViews packet.message)

-- a step that leaves all of a brick but its proposal, its call number and its round, and sends what is of views
abbrev pub StepsAside : (NodeStep → Type 0) → Node → Type 0
StepsAside P node =
    (seq round : ℕ) (proposal : Option Proposal) (packets : List Packet) (reports : List Report) → node.seq ≤ seq → AreOfViews packets
    → P (record { node = record node { seq = seq; round = round; proposal = proposal }; packets = packets; told = []; answers = []; reports = reports })

-- a brick takes a reply to its proposal, if it has one
pub ballot_each : (P : NodeStep → Type 0) (layout : Layout) (me from : BrickId) (node : Node) (call : Call) (reply : Reply) (proposal : Option Proposal)
    → StepsAside P node → P (replied_ballot layout me from node call reply proposal)
ballot_each P layout me from node call reply None aside = aside node.seq node.round node.proposal [] [] (omega arith) (each_none (λ packet. IsOfViews packet.message))
ballot_each P layout me from node call reply (Some p) aside = by (voted layout.bricks p from call reply)
  where
    by : (next : Voting) → P (carried_ballot layout me node p next)
    by Ignored = aside node.seq node.round node.proposal [] [] (omega arith) (each_none (λ packet. IsOfViews packet.message))
    by (Waited q) = aside node.seq node.round (Some q) [] [] (omega arith) (each_none (λ packet. IsOfViews packet.message))
    by (Asks q) = aside node.seq node.round (Some q) (ballot_packets me q) [] (omega arith) (ballots_of_views me q)
    by (Ended ended answer) =
        aside node.seq node.round None (ended_packets layout me p answer) (Report.View p.call.group (Some ended) answer ∷ []) (omega arith)
        (ended_of_views layout me p answer)

-- and begins one
pub proposed_each : (P : NodeStep → Type 0) (setting : Setting) (me : BrickId) (node : Node) (group : GroupId) (members : List BrickId)
    → StepsAside P node → P (proposed setting me node group members)
unfolding proposed
proposed_each P setting me node group members aside = in_group (group_of setting.layout group.0)
  where
    in_group : (z : Option Group) → P (proposed_in setting me node group members z)
    in_group None = aside node.seq node.round node.proposal [] [] (omega arith) (each_none (λ packet. IsOfViews packet.message))
    in_group (Some kept) =
        let p : Proposal = new_proposal me node kept.m group members in
        cond_both (is_membership kept.m setting.layout.bricks members) (sending (proposing node p) (ballot_packets me p))
        (reporting node [] (Report.View group None answers.BadMembers)) P
        (λ may. aside p.call.seq p.ballot.round (Some p) (ballot_packets me p) [] (omega arith) (ballots_of_views me p))
        (λ isnt. aside node.seq node.round node.proposal [] (Report.View group None answers.BadMembers ∷ []) (omega arith)
        (each_none (λ packet. IsOfViews packet.message)))
