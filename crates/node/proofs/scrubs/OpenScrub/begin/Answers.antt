-- The look is sent to all members.
use Rattle.std.proofs.Common.{length, ◌∙◌, ap, subst, arith}
use Rattle.fab_base.specs.Layouts.{Group}
use Rattle.protocol.specs.Coordinators.{asked_group}
use Rattle.coord_phase.specs.Operations as phased
use Rattle.scrub.specs.declared.answers.ScrubNext.{ScrubNext}
use Rattle.scrub.specs.Decisions.{SendsLook}
use Rattle.node.proofs.Resending.{few_again}
use Rattle.node.proofs.scrubs.OpenScrub.begin.Goals as goal

pub returns-clause-few : goal.returns-clause-few
returns-clause-few c =
    let look = c.in_ok-scrub.scrub.look in
    let asked = ap (λ (group : Group). length group.members) (c.asked.ensures ∙ ap (λ (op : phased.Operation). asked_group op.state) c.look.ensures) in
    let few = few_again look c.in-Send.messages.items
    (subst (λ (next : ScrubNext). SendsLook c.in_ok-scrub.scrub next) c.in-Send.is c.in_ok-scrub.ensures.sent)
    (omega (arith, asked, c.policy.ensures.n, c.n.ensures.limits.few_seats)) in
    omega arith
