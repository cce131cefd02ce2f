-- What the index says is what a clause sees.
use Rattle.std.proofs.Common.{ap, sym, ◌∙◌}
use Rattle.brick_state.specs.Indexes.{state_of}
use Rattle.brick_state.specs.Times.{top_time}
use Rattle.brick_store.specs.Blocks.{cached, version_stamp}
use Rattle.brick_store.specs.Bricks.{Brick}
use Rattle.brick_store.proofs.Resolving.{top_time-resolved}
use Rattle.brick_store.proofs.stores.BrickStore.top_time.Goals as goal

pub returns : goal.returns
returns g c =
    let x = c.self.inside in
    c.top_time.ensures ∙ sym (top_time-resolved (cached x.frames.shape.block x.blocks) (state_of x.index))
    ∙ ap (λ (b : Brick g.row.D.Denot). top_time version_stamp b.state) c.self.view_is
