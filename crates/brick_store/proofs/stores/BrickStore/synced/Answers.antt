-- The record of the view that was learnt.
use Rattle.std.proofs.Common.{◌≡◌, ℕ, false, Some, Option, List, sym, ap, subst, ◌∙◌}
use Rattle.std.specs.Option.{IsSome}
use Rattle.std.specs.List.{slice_index_or}
use Rattle.fab_base.specs.declared.member_lists.View.{View}
use Rattle.brick_state.specs.declared.groups.Group.{Group}
use Rattle.brick_state.specs.States.{group_at, no_group}
use Rattle.brick_state.specs.Indexes.{state_of}
use Rattle.brick_store.specs.Blocks.{cached, learnt_view, synced_to}
use Rattle.brick_store.specs.Bricks.{Brick}
use Rattle.brick_store.specs.Calls.{calls_of}
use Rattle.brick_store.specs.Sizes.{view_size}
use Rattle.brick_store.proofs.Changing.{Told, known_is}
use Rattle.brick_store.proofs.Resolving.{groups-resolved}
use Rattle.brick_store.proofs.stores.BrickStore.synced.Given.{Over}
use Rattle.brick_store.proofs.stores.BrickStore.synced.Goals.{After-group}
use Rattle.brick_store.proofs.stores.BrickStore.synced.Goals as goal

-- the group in the index is the one that a clause sees
group_so : (g : Over) (c : After-group g) → group_at c.args.self.now.state c.args.group.0 ≡ c.group.result.now
group_so g c =
    let x = c.self.inside in
    ap (λ (b : Brick g.row.D.Denot). group_at b.state c.args.group.0) (sym c.self.view_is)
    ∙ ap (λ (gs : List Group). slice_index_or gs c.args.group.0 no_group) (groups-resolved (cached x.frames.shape.block x.blocks) (state_of x.index))
    ∙ sym c.group.ensures

pub learnt_view-requires : goal.learnt_view-requires
learnt_view-requires g c =
    subst (λ (group : Group). IsSome group.known) (group_so g (goal.at.learnt_view-requires g c).After-group) c.requires.learnt

pub change-requires-clause-can : goal.change-requires-clause-can
change-requires-clause-can g c =
    (c.requires.group, ap learnt_view (group_so g (goal.at.change-requires-clause-can g c).After-group) ∙ c.learnt_view.ensures)

pub returns : goal.returns
returns g c =
    let old = c.args.self.now in
    let group = group_at old.state c.args.group.0 in
    let view = c.learnt_view.result in
    let is : learnt_view group ≡ Some view = ap learnt_view (group_so g (goal.at.returns g c).After-group) ∙ c.learnt_view.ensures in
    let both = subst (λ (n : ℕ). Told g.D.Disk old c.change.new.self (synced_to (learnt_view group) c.args.group.0 old.state) n false
    (calls_of old n 4) c.change.result) (known_is group.known view is)
    (subst (λ (o : Option View). Told g.D.Disk old c.change.new.self (synced_to o c.args.group.0 old.state) (view_size view) false
    (calls_of old (view_size view) 4) c.change.result) (sym is) (c.change.ensures.change, c.change.ensures.answer)) in
    record { change = both.0; answer = both.1 }
