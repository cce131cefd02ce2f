-- A proposal of a list that may not keep the group ends at once.
use Rattle.std.proofs.Common.{◌≡◌, Bool, true, false, cond, List, [], ◌∷◌, ◌++◌, Option, Some, None, refl, ap, ◌∙◌}
use Rattle.fab_base.specs.declared.identities.BrickId.{BrickId}
use Rattle.fab_base.specs.declared.identities.GroupId.{GroupId}
use Rattle.fab_base.specs.Layouts.{Group, group_of}
use Rattle.quorum.specs.Memberships.{is_membership}
use Rattle.protocol.specs.declared.tellings.Report.{Report}
use Rattle.protocol.specs.declared.tellings.Report.TheVariants as report
use Rattle.protocol.specs.declared.tellings.ViewAnswer.TheVariants as answer
use Rattle.protocol.specs.Settings.{Setting}
use Rattle.protocol.specs.Proposals.{ballot_packets}
use Rattle.protocol.specs.Nodes.{Node, NodeStep, sending, reporting, new_proposal, proposing, proposed, proposed_in}
use Rattle.protocol.specs.Worlds.{reports_of, world_stepped, happens}
use Rattle.view_laws.specs.Ends.{BadMembersEndAtOnce}

-- what is reported once a list is proposed
abbrev at_once : Bool → BrickId → GroupId → List (BrickId × Report)
at_once may brick number = cond may [] ((brick, report.View number None answer.BadMembers) ∷ [])

-- a step reports just that
chosen_reports : (may : Bool) (go bad : NodeStep) (brick : BrickId) (number : GroupId) → go.reports ≡ []
    → bad.reports ≡ report.View number None answer.BadMembers ∷ [] → reports_of brick (cond may go bad).reports ≡ at_once may brick number
chosen_reports true go bad brick number none one = ap (reports_of brick) none
chosen_reports false go bad brick number none one = ap (reports_of brick) one

-- what a brick reports once it is asked to propose a list
proposed_reports : (setting : Setting) (brick : BrickId) (node : Node) (number : GroupId) (members : List BrickId) (group : Group)
    → group_of setting.layout number.0 ≡ Some group
    → reports_of brick (proposed setting brick node number members).reports ≡ at_once (is_membership group.m setting.layout.bricks members) brick number
unfolding proposed
proposed_reports setting brick node number members group is =
    ap (λ (z : Option Group). reports_of brick (proposed_in setting brick node number members z).reports) is
    ∙ chosen_reports (is_membership group.m setting.layout.bricks members)
    (sending (proposing node (new_proposal brick node group.m number members)) (ballot_packets brick (new_proposal brick node group.m number members)))
    (reporting node [] (report.View number None answer.BadMembers)) brick number refl refl

-- so a list that may not keep the group ends the proposal at once, and no other does
pub bad_members_end : BadMembersEndAtOnce
unfolding happens
bad_members_end setting w brick number members group may is =
    ap (λ (t : Bool). (cond t (world_stepped setting w brick (proposed setting brick (w.nodes brick.0) number members)) w).choices.reports) may
    ∙ ap (λ (l : List (BrickId × Report)). w.choices.reports ++ l) (proposed_reports setting brick (w.nodes brick.0) number members group is)
