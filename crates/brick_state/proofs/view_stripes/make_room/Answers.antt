-- The stripe in the map says what it said, with room for one version more.
use Rattle.std.proofs.Common.{sym, ap, ◌∙◌, refl, rules}
use Rattle.brick_state.specs.declared.stripes.Stripe.{Stripe}
use Rattle.brick_state.specs.Maps.{key_of, placed, listed}
use Rattle.brick_state.proofs.StripeMaps.{same_versions}
use Rattle.brick_state.proofs.ViewMaps.{same_placed}
use Rattle.brick_state.proofs.view_stripes.make_room.Goals as goal

pub returns-in_err-reserve-in-Some-clause-same : goal.returns-in_err-reserve-in-Some-clause-same
returns-in_err-reserve-in-Some-clause-same c =
    let new : Stripe = record c.in-Some.stripe.now { added = c.reserve.new.self } in
    ap (λ es. listed (placed (key_of c.args.place) es)) (c.get_mut.follows.holds new).0
    ∙ same_placed c.args.place c.args.stripes.now.entries c.in-Some.stripe.now new (sym c.in-Some.ensures.value)
    (same_versions c.in-Some.stripe.now new refl refl c.reserve.ensures.same)

pub returns-in_err-reserve-in-Some-clause-ordered : goal.returns-in_err-reserve-in-Some-clause-ordered
returns-in_err-reserve-in-Some-clause-ordered c = (c.get_mut.follows.holds (record c.in-Some.stripe.now { added = c.reserve.new.self })).4

pub returns-in_ok-reserve-in-Some-clause-same : goal.returns-in_ok-reserve-in-Some-clause-same
returns-in_ok-reserve-in-Some-clause-same c =
    let new : Stripe = record c.in-Some.stripe.now { added = c.reserve.new.self } in
    ap (λ es. listed (placed (key_of c.args.place) es)) (c.get_mut.follows.holds new).0
    ∙ same_placed c.args.place c.args.stripes.now.entries c.in-Some.stripe.now new (sym c.in-Some.ensures.value)
    (same_versions c.in-Some.stripe.now new refl refl c.reserve.ensures.same)

pub returns-in_ok-reserve-in-Some-clause-room : goal.returns-in_ok-reserve-in-Some-clause-room
returns-in_ok-reserve-in-Some-clause-room c =
    let new : Stripe = record c.in-Some.stripe.now { added = c.reserve.new.self } in
    record { stripe = new; there = ((c.get_mut.follows.holds new).3 (search rules)).1; room = c.in_ok-reserve-in-Some.ensures.room }

pub returns-in_ok-reserve-in-Some-clause-ordered : goal.returns-in_ok-reserve-in-Some-clause-ordered
returns-in_ok-reserve-in-Some-clause-ordered c = (c.get_mut.follows.holds (record c.in-Some.stripe.now { added = c.reserve.new.self })).4
