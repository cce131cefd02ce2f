-- The list of the greatest ballot told is one that the replies were let count with.
use Rattle.std.proofs.Common.{◌≡◌, true, List, sym, subst, arith}
use Rattle.std.proofs.lemmas.Grind.{common_steps}
use Rattle.fab_base.specs.declared.identities.BrickId.{BrickId}
use Rattle.synod_laws.specs.Synods.{value_or}
use Rattle.quorum.specs.Memberships.{is_membership}
use Rattle.protocol.specs.Proposals.{greatest_choice}
use Rattle.view_synod.specs.Proposers.{Proposing, IsUnderWay}
use Rattle.view_synod.proofs.TheChoices.{chosen_may_keep}
use Rattle.view_synod.proofs.proposals.Proposal.chosen.Goals as goal

pub returns-in-Some-clause-may_keep : goal.returns-in-Some-clause-may_keep
returns-in-Some-clause-may_keep c =
    let x = c.args.self.now in
    let value : c.in-Some.members ≡ value_or c.args.self.now.state.own (greatest_choice c.args.self.now.state.counted) = grind (arith, common_steps) in
    subst (λ (l : List BrickId). is_membership x.state.m x.bricks l ≡ true) (sym value)
    (chosen_may_keep x.bricks x.state (subst (λ (y : Proposing). IsUnderWay y.bricks y.state) c.self.view_is c.self.invariant.0))
