-- What the index says is what a clause sees.
use Rattle.std.proofs.Common.{ap, subst, ◌∙◌, ◌↔◌}
use Rattle.std.specs.Bool.{IsTrue}
use Rattle.brick_state.specs.declared.groups.Group.{Group}
use Rattle.brick_state.specs.States.{group_at}
use Rattle.brick_state.specs.Indexes.{state_of}
use Rattle.brick_store.specs.Blocks.{cached, IsServed}
use Rattle.brick_store.specs.Bricks.{Brick}
use Rattle.brick_store.proofs.Seen.{group_seen}
use Rattle.brick_store.proofs.stores.BrickStore.serves.Goals as goal

pub returns : goal.returns
returns g c =
    let x = c.self.inside in
    let block = cached x.frames.shape.block x.blocks in
    subst (λ (group : Group). IsTrue c.is_served.result ↔ IsServed group c.args.view.0)
    (c.group.ensures ∙ (group_seen block (state_of x.index) c.args.group.0
    ∙ ap (λ (b : Brick g.row.D.Denot). group_at b.state c.args.group.0) c.self.view_is)) c.is_served.ensures
