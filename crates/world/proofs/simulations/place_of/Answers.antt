-- A group or a stripe that there is not is refused as the machine refuses it.
use Rattle.std.proofs.Common.{arith, sym}
use Rattle.std.proofs.lemmas.Option.{slice_get_past}
use Rattle.world.proofs.MachineBegins.{refused_no_group, refused_no_stripe, unscrubbed_no_group, unscrubbed_no_stripe}
use Rattle.world.proofs.SimulationLemmas.{if_none_always}
use Rattle.world.proofs.simulations.place_of.Goals as goal

pub returns-then-group-group_count-clause-none : goal.returns-then-group-group_count-clause-none
returns-then-group-group_count-clause-none c node op =
    refused_no_group c.args.layout.now c.args.group c.args.stripe node op (slice_get_past c.args.layout.now.groups c.args.group (omega arith))

pub returns-in_err-found-clause-none : goal.returns-in_err-found-clause-none
returns-in_err-found-clause-none c =
    if_none_always c.from_residual.result (λ node op. refused_no_group c.args.layout.now c.args.group c.args.stripe node op
    (sym c.in_err-found.ensures.found))

pub returns-then-stripe-from-clause-none : goal.returns-then-stripe-from-clause-none
returns-then-stripe-from-clause-none c node op =
    refused_no_stripe c.args.layout.now c.args.group c.args.stripe _ node op (sym c.in_ok-found.ensures.found) (omega arith)

pub returns-then-group-group_count-clause-unscrubbed : goal.returns-then-group-group_count-clause-unscrubbed
returns-then-group-group_count-clause-unscrubbed c node members =
    unscrubbed_no_group c.args.layout.now c.args.group c.args.stripe node members (slice_get_past c.args.layout.now.groups c.args.group (omega arith))

pub returns-in_err-found-clause-unscrubbed : goal.returns-in_err-found-clause-unscrubbed
returns-in_err-found-clause-unscrubbed c =
    if_none_always c.from_residual.result (λ node members. unscrubbed_no_group c.args.layout.now c.args.group c.args.stripe node members
    (sym c.in_err-found.ensures.found))

pub returns-then-stripe-from-clause-unscrubbed : goal.returns-then-stripe-from-clause-unscrubbed
returns-then-stripe-from-clause-unscrubbed c node members =
    unscrubbed_no_stripe c.args.layout.now c.args.group c.args.stripe _ node members (sym c.in_ok-found.ensures.found) (omega arith)
