-- A message that does not count, or with which too few count, ends nothing.
use Rattle.std.proofs.Common.{◌<◌, ◌+◌, List, length, sym, ◌∙◌, ap, arith}
use Rattle.std.proofs.lemmas.Bool.Decides.{nat_tests}
use Rattle.protocol.specs.declared.phases.Counted.{Counted}
use Rattle.protocol.specs.Coordinators.{needed}
use Rattle.coord_phase.specs.Operations as phased
use Rattle.node.specs.Operations.{shown_of, coordinator_of}
use Rattle.node.proofs.MayEnd.{too_few, uncounted}
use Rattle.node.proofs.operations.Operation.may_end.Goals as goal

pub returns-then-counts : goal.returns-then-counts
returns-then-counts c = λ less fresh.
    let op = coordinator_of c.args.self.now in
    let counted = ap (λ (xs : List Counted). length xs) (c.counted.ensures ∙ ap (λ (o : phased.Operation). o.state.counted) c.shown.ensures) in
    let enough = c.needed.ensures.value ∙ ap (λ (o : phased.Operation). needed o.state) c.shown-then-counts.ensures in
    let few : length op.counted + 1 < needed op = grind (arith, nat_tests, counted, enough, less) in
    too_few fresh (shown_of c.args.self.now) c.args.from c.args.message.now few

pub returns-else-counts : goal.returns-else-counts
returns-else-counts c = λ none fresh. uncounted fresh (shown_of c.args.self.now) c.args.from c.args.message.now (sym c.counts.ensures ∙ none)
