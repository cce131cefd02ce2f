-- What the index says is what a clause sees.
use Rattle.std.proofs.Common.{sym, ap, ◌∙◌}
use Rattle.brick_state.specs.Indexes.{state_of}
use Rattle.brick_store.specs.Blocks.{cached}
use Rattle.brick_store.specs.Bricks.{Brick}
use Rattle.brick_store.proofs.Resolving.{boot-resolved}
use Rattle.brick_store.proofs.stores.BrickStore.boot.Goals as goal

pub returns : goal.returns
returns g c =
    let x = c.self.inside in
    let block = cached x.frames.shape.block x.blocks in
    c.boot.ensures ∙ sym (boot-resolved block (state_of x.index)) ∙ ap (λ (b : Brick g.row.D.Denot). b.state.boot) c.self.view_is
