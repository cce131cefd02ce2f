-- A change of a stripe in its view is one of all stripes.
use Rattle.std.proofs.Common.{sym, ap, ◌∙◌}
use Rattle.brick_state.specs.Changes.{changed}
use Rattle.brick_state.specs.Maps.{flat, listed}
use Rattle.brick_state.proofs.StripeMaps.{listed_sorted}
use Rattle.brick_state.proofs.ViewMaps.{may_change, changed-flat, sorted-flat}
use Rattle.brick_state.proofs.stripe_maps.change.Goals as goal

pub change-requires : goal.change-requires
change-requires c = may_change c.args.views.now c.get_mut.ensures.ordered c.args.place c.in-Some.table.now (sym c.in-Some.ensures.value) c.args.change
    c.requires.room c.requires.allowed c.requires.fits

pub returns-in-Some-clause-sorted : goal.returns-in-Some-clause-sorted
returns-in-Some-clause-sorted c = listed_sorted _ (sorted-flat c.args.views.now.entries c.get_mut.ensures.ordered)

pub returns-in-Some-clause-changed : goal.returns-in-Some-clause-changed
returns-in-Some-clause-changed c =
    ap (λ es. listed (flat es)) (c.get_mut.follows.holds c.change.new.self).0
    ∙ changed-flat c.args.views.now.entries c.get_mut.ensures.ordered c.args.place c.in-Some.table.now c.change.new.self (changed c.args.change)
    (sym c.in-Some.ensures.value) c.change.ensures
