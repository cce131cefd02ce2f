-- A proposer, and what its proposal is about.
use Rattle.std.specs.Prelude.{◌≡◌, List, Option}
use Rattle.std.specs.Option.{option_map}
use Rattle.fab_base.specs.declared.identities.BrickId.{BrickId}
use Rattle.fab_base.specs.declared.identities.GroupId.{GroupId}
use Rattle.fab_base.specs.declared.member_lists.View.{View}
use Rattle.fab_base.specs.Layouts.{Layout}
use Rattle.messages.specs.declared.packets.Message.{Message}
use Rattle.protocol.specs.declared.tellings.ViewAnswer.{ViewAnswer}
use Rattle.protocol.specs.Proposals.{Proposal}
use Rattle.protocol.specs.Nodes.{ended_packets}
use Rattle.view_synod.specs.Proposers.{Proposing}
use Rattle.coord_phase.specs.Messages.{packets_from}

-- the machine's proposal of a proposer, until that has ended
abbrev pub proposal_of : Option Proposing → Option Proposal
proposal_of proposer = option_map (λ (x : Proposing). x.state) proposer

-- the group and the view that the proposal of a proposer is about, until that has ended
abbrev pub about_in : Option Proposing → Option (GroupId × View)
about_in proposer = option_map (λ (x : Proposing). (x.state.call.group, x.state.view)) proposer

-- what is sent once a proposal about this view of this group ended so is the machine's
abbrev pub EndsSo : Layout → GroupId → View → ViewAnswer → List (BrickId × Message) → Type 0
EndsSo layout group view answer messages =
    (me : BrickId) (p : Proposal) → p.call.group ≡ group → p.view ≡ view → packets_from me messages ≡ ended_packets layout me p answer
