-- What the index says is what a clause sees.
use Rattle.std.proofs.Common.{ap, ◌∙◌}
use Rattle.brick_state.specs.States.{group_at}
use Rattle.brick_state.specs.Indexes.{state_of}
use Rattle.brick_store.specs.Blocks.{cached, learnt_of}
use Rattle.brick_store.specs.Bricks.{Brick}
use Rattle.brick_store.proofs.Seen.{group_seen}
use Rattle.brick_store.proofs.stores.BrickStore.learnt.Goals as goal

pub returns : goal.returns
returns g c =
    let x = c.self.inside in
    let block = cached x.frames.shape.block x.blocks in
    c.learnt_number.ensures ∙ ap learnt_of (c.group.ensures
    ∙ (group_seen block (state_of x.index) c.args.group.0 ∙ ap (λ (b : Brick g.row.D.Denot). group_at b.state c.args.group.0) c.self.view_is))
