-- What the index says is what a clause sees.
use Rattle.std.proofs.Common.{◌≡◌, ◌≤◌, ℕ, None, ap, subst, ◌∙◌}
use Rattle.brick_state.specs.declared.groups.Group.{Group}
use Rattle.brick_state.specs.States.{group_at}
use Rattle.brick_state.specs.Indexes.{state_of}
use Rattle.brick_store.specs.Blocks.{cached}
use Rattle.brick_store.specs.Bricks.{Brick}
use Rattle.brick_store.specs.Images.{limits_of}
use Rattle.brick_store.proofs.Seen.{group_seen, none_above}
use Rattle.brick_store.proofs.stores.BrickStore.known_view.Goals as goal

pub returns-clause-value : goal.returns-clause-value
returns-clause-value g c =
    let x = c.self.inside in
    let block = cached x.frames.shape.block x.blocks in
    c.known_of.ensures ∙ ap (λ (group : Group). group.known)
    (c.group.ensures ∙ (group_seen block (state_of x.index) c.args.group.0
    ∙ ap (λ (b : Brick g.row.D.Denot). group_at b.state c.args.group.0) c.self.view_is))

pub returns-clause-none : goal.returns-clause-none
returns-clause-none g c =
    let x = c.self.inside in
    subst (λ (b : Brick g.row.D.Denot). (k : ℕ) → 64 ≤ k → (group_at b.state k).known ≡ None) c.self.view_is
    (none_above (cached x.frames.shape.block x.blocks) (limits_of x.frames.shape) (state_of x.index) c.self.invariant.indexed.kept)
