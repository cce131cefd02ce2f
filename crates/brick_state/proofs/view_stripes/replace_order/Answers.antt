-- The stripe is written with its new order stamp.
use Rattle.std.proofs.Common.{sym, refl}
use Rattle.brick_state.specs.declared.stripes.Stripe.{Stripe}
use Rattle.brick_state.proofs.view_stripes.replace_order.Goals as goal

pub returns-in-Some-clause-replaced : goal.returns-in-Some-clause-replaced
returns-in-Some-clause-replaced c =
    let s = c.in-Some.stripe.now in
    let new : Stripe = record s { order = c.args.stamp } in
    record {
      is = record { from = s; to = new; there = sym c.in-Some.ensures.value; written = (c.get_mut.follows.holds new).0; now = refl };
      was = refl;
    }
