-- What the index says is what a clause sees.
use Rattle.std.proofs.Common.{◌≡◌, ◌≤◌, sym, ap, ◌∙◌, arith}
use Rattle.brick_state.specs.States.{live}
use Rattle.brick_state.specs.Indexes.{state_of}
use Rattle.brick_store.specs.Blocks.{cached}
use Rattle.brick_store.specs.Bricks.{Brick}
use Rattle.brick_store.proofs.Resolving.{live-resolved}
use Rattle.brick_store.proofs.stores.BrickStore.live.Goals as goal

pub returns : goal.returns
returns g c =
    let x = c.self.inside in
    let block = cached x.frames.shape.block x.blocks in
    let few : live (state_of x.index) ≤ 1048576 = omega (arith, c.self.invariant.indexed.kept.within, c.self.invariant.limits.few_slots) in
    let here : c.live.result ≡ live (state_of x.index) = omega (arith, c.live.ensures, few) in
    here ∙ sym (live-resolved block (state_of x.index)) ∙ ap (λ (b : Brick g.row.D.Denot). live b.state) c.self.view_is
