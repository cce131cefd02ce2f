-- The view says what it said, with room for one version more of the stripe.
use Rattle.std.proofs.Common.{sym, ap, ◌∙◌, rules}
use Rattle.std.proofs.lemmas.Result.{on_ok_weaker}
use Rattle.brick_state.specs.Maps.{key_of, flat, listed}
use Rattle.brick_state.proofs.ViewMaps.{same-flat}
use Rattle.brick_state.proofs.stripe_maps.make_room.Goals as goal

pub returns-in-Some-clause-same : goal.returns-in-Some-clause-same
returns-in-Some-clause-same c =
    ap (λ es. listed (flat es)) (c.get_mut.follows.holds c.make_room.new.self).0
    ∙ same-flat (key_of c.args.place) c.in-Some.table.now c.make_room.new.self c.make_table.new.views.entries (sym c.in-Some.ensures.value) c.make_room.ensures.same
    ∙ c.make_table.ensures.same

pub returns-in-Some-clause-room : goal.returns-in-Some-clause-room
returns-in-Some-clause-room c = on_ok_weaker c.make_room.result
    (λ at. record { table = c.make_room.new.self; there = ((c.get_mut.follows.holds c.make_room.new.self).3 (search rules)).1; at = at }) c.make_room.ensures.room
