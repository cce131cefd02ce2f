-- What is made of m blocks is m blocks.
use Rattle.std.proofs.Common.{◌≡◌, ◌*◌, length, ap, subst, ◌∙◌}
use Rattle.std.specs.Prelude.{IfOk}
use Rattle.std.proofs.lemmas.Result.{IfOk-weaker}
use Rattle.coord_phase.specs.Operations.{Operation, StoresBlocks}
use Rattle.coord_phase.proofs.Contents.{stores_blocks}
use Rattle.coord_phase.proofs.operations.Operation.content_on.Goals as goal

pub returns-clause-ready : goal.returns-clause-ready
returns-clause-ready c =
    let inside = c.self.inside in
    subst
    (λ (op : Operation). IfOk c.content_after.result (λ made. StoresBlocks op.block op.state.group.m op.state.ask.op made op.state.phase))
    c.self.view_is
    (IfOk-weaker c.content_after.result (λ made. length made ≡ c.m.result * inside.block) _
    (λ made long.
    stores_blocks inside.block inside.group.m inside.ask.op _ made inside.stage.phase (long ∙ ap (λ m. m * inside.block) c.m.ensures)
    c.self.invariant.0.content)
    c.content_after.ensures.long)
