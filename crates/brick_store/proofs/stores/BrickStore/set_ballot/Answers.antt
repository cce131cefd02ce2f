-- The record of a ballot that is promised.
use Rattle.std.proofs.Common.{◌≡◌, false, Option, List, sym, ap, subst, ◌∙◌}
use Rattle.std.specs.List.{slice_index_or}
use Rattle.fab_base.specs.declared.identities.BrickId.{BrickId}
use Rattle.fab_base.specs.declared.stamps.Ballot.{Ballot}
use Rattle.stamp_store.specs.Spelling.{AcceptedHasMembers}
use Rattle.brick_state.specs.declared.groups.Group.{Group}
use Rattle.brick_state.specs.States.{balloted, group_at, no_group}
use Rattle.brick_state.specs.Indexes.{state_of}
use Rattle.brick_store.specs.Blocks.{cached, accepted_of}
use Rattle.brick_store.specs.Bricks.{Brick}
use Rattle.brick_store.specs.Sizes.{ballots_size}
use Rattle.brick_store.specs.Calls.{calls_of}
use Rattle.brick_store.proofs.Changed.{accepted_members}
use Rattle.brick_store.proofs.Changing.{Told}
use Rattle.brick_store.proofs.Resolving.{groups-resolved}
use Rattle.brick_store.proofs.stores.BrickStore.set_ballot.Goals as goal

pub change-requires-clause-can : goal.change-requires-clause-can
change-requires-clause-can g c =
    let acc : c.accepted_of-accepted.result ≡ accepted_of (group_at (state_of c.self.inside.index) c.args.group.0) = c.accepted_of-accepted.ensures
    ∙ ap accepted_of c.group.ensures in
    (c.requires.group, subst AcceptedHasMembers (sym acc) (accepted_members c.args.group.0 (state_of c.self.inside.index) c.self.invariant.indexed.members))

pub returns : goal.returns
returns g c =
    let x = c.self.inside in
    let old = c.args.self.now in
    let acc = c.accepted_of-accepted.ensures ∙ ap accepted_of c.group.ensures
    ∙ ap (λ (gs : List Group). accepted_of (slice_index_or gs c.args.group.0 no_group)) (sym (groups-resolved (cached x.frames.shape.block x.blocks) (state_of x.index)))
    ∙ ap (λ (b : Brick g.row.D.Denot). accepted_of (group_at b.state c.args.group.0)) c.self.view_is in
    let both = subst (λ (a : Option (Ballot × List BrickId)). Told g.D.Disk old c.change.new.self (balloted c.args.group.0 c.args.promised a old.state) (ballots_size a) false
    (calls_of old (ballots_size a) 4) c.change.result) acc (c.change.ensures.change, c.change.ensures.answer) in
    record { change = both.0; answer = both.1 }
