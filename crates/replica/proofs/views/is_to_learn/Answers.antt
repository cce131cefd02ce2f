-- The lists of a view that may be taught have members.
use Rattle.std.proofs.Common.{sym, ◌∙◌}
use Rattle.protocol.specs.Views.{is_view}
use Rattle.replica.proofs.CourseSteps.{taught_some}
use Rattle.replica.proofs.views.is_to_learn.Goals as goal

pub returns-then-is_view-clause-some : goal.returns-then-is_view-clause-some
returns-then-is_view-clause-some g c later =
    taught_some c.args.layout.now c.args.group.0 c.in-Some.kept.now c.args.view.now c.records.ensures.limits (sym c.in-Some.ensures.found)
    ((λ i. is_view (sym c.m.ensures i) (sym c.bricks.ensures.value i) c.args.view.now) ∙ sym c.is_view.ensures ∙ c.if-is_view.true)
