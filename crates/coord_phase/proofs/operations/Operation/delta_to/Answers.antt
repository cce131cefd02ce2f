-- What the seat of the data block tells is a block, and so is what is to be written.
use Rattle.std.proofs.Common.{length, ap, sym, ◌∙◌, subst}
use Rattle.coord_phase.specs.Operations.{Operation, IsInPhase}
use Rattle.coord_phase.proofs.Contents.{told_block, written_block}
use Rattle.coord_phase.proofs.operations.Operation.delta_to.Goals as goal

pub delta-requires-clause-old_long : goal.delta-requires-clause-old_long
delta-requires-clause-old_long c =
    let op = c.args.self.now in
    let is : IsInPhase op.block op.state = subst (λ (op : Operation). IsInPhase op.block op.state) c.self.view_is c.self.invariant.0 in
    ap length c.bytes_at.ensures ∙ told_block op c.args.data_block is c.requires.orders c.requires.base
    ∙ ap (λ (op : Operation). op.block) (sym c.self.view_is)

pub delta-requires-clause-new_long : goal.delta-requires-clause-new_long
delta-requires-clause-new_long c =
    let op = c.args.self.now in
    ap length c.block_written.ensures.value
    ∙ written_block op.block op.state.group.m op.state.ask.op op.state.content op.state.phase c.args.data_block c.requires.orders c.block_written.ensures.long
    ∙ ap (λ (op : Operation). op.block) (sym c.self.view_is)
