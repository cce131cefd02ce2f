-- The proposal of a brick, as the machine sees it.
use Rattle.std.specs.Prelude.{◌≡◌, ℕ, ◌+◌, Bool, false, if◌then◌else◌, Option, Some, None}
use Rattle.std.specs.Option.{option_map}
use Rattle.fab_base.specs.declared.identities.BrickId.{BrickId}
use Rattle.fab_base.specs.Layouts.{Layout}
use Rattle.messages.specs.declared.calls.Call.{Call}
use Rattle.messages.specs.declared.packets.Message.{Message}
use Rattle.messages.specs.declared.packets.Message.TheVariants as message
use Rattle.messages.specs.declared.replies.Reply.{Reply}
use Rattle.protocol.specs.Proposals.{Proposal}
use Rattle.protocol.specs.Nodes.{Node, NodeStep, replied_ballot, with_proposal}
use Rattle.view_synod.specs.Proposers.{Proposing, counts}
use Rattle.coord_phase.specs.Messages.{packets_from}
use Rattle.node.specs.declared.proposals.OpenProposal.{OpenProposal}
use Rattle.node.specs.declared.proposals.Proposals.{Proposals}
use Rattle.node.specs.Outcomes.{Outcome}
use Rattle.node.specs.Proposers.{proposal_of}

-- the machine's proposal of a brick that has this under way, if it has one
abbrev pub proposal_in : Option OpenProposal → Option Proposal
proposal_in None = None
proposal_in (Some held) = proposal_of held.proposer

-- what is under way, if something is, is a proposal on a disk of so many bricks
abbrev pub IsUnderWayOn : ℕ → Option OpenProposal → Type 0
IsUnderWayOn bricks None = Unit {0}
IsUnderWayOn bricks (Some held) = option_map (λ (x : Proposing). x.bricks) held.proposer ≡ Some bricks

-- the proposals are of a brick of this layout
abbrev pub AreProposalsOf : Layout → Proposals → Type 0
AreProposalsOf layout proposals = IsUnderWayOn layout.bricks proposals.under_way

-- a message counts in the proposal that is under way
abbrev pub counts_in : Option OpenProposal → BrickId → Message → Bool
counts_in None from message = false
counts_in (Some held) from message = counts held.proposer from.0 message

-- What is sent, told, answered and reported is the machine's, and of its brick only the proposal has changed, to this.
pub record GoesAs (me : BrickId) (node : Node) (step : NodeStep) (outs : Outcome) (left : Option OpenProposal) : Type 0 where
  pub packets : packets_from me outs.messages ≡ step.packets
  pub told : outs.told ≡ step.told
  pub answers : outs.answers ≡ step.answers
  pub reports : outs.reports ≡ step.reports
  pub node_is : step.node ≡ with_proposal node (proposal_in left)

-- a proposal, if there is one, does with a reply what it does at a brick of the machine
abbrev pub HearsSo : Layout → Option OpenProposal → BrickId → Call → Message → Outcome → Option OpenProposal → Type 0
HearsSo layout held from call told outs left =
    (me : BrickId) (node : Node) (reply : Reply) → told ≡ message.Reply call reply → node.proposal ≡ proposal_in held
    → GoesAs me node (replied_ballot layout me from node call reply (proposal_in held)) outs left

-- What is sent, told, answered and reported is the machine's, and of its brick only the proposals have changed, to these, and the number of its last call, if a
-- proposal began.
pub record ProposesAs (me : BrickId) (node : Node) (step : NodeStep) (began : Bool) (outs : Outcome) (after : Proposals) : Type 0 where
  pub packets : packets_from me outs.messages ≡ step.packets
  pub told : outs.told ≡ step.told
  pub answers : outs.answers ≡ step.answers
  pub reports : outs.reports ≡ step.reports
  pub node_is : step.node ≡ record node { seq = if began then node.seq + 1 else node.seq; round = after.rounds; proposal = proposal_in after.under_way }
