-- One stripe is written, and what is counted of it is exchanged.
use Rattle.std.proofs.Common.{◌+◌, ◌≤◌, ℕ, sym, subst, ◌∙◌, arith}
use Rattle.brick_state.specs.declared.stripes.Stripe.{Stripe}
use Rattle.brick_state.specs.States.{stripe_of, weight}
use Rattle.brick_state.specs.Changes.{changed, IsAllowed, time_lost, time_come}
use Rattle.brick_state.specs.TopTimes.{IsReplaced}
use Rattle.brick_state.specs.ViewStripes.{live_of, time_of}
use Rattle.brick_state.proofs.StripeMaps.{same_found}
use Rattle.brick_state.proofs.TopTimes.{time-changed}
use Rattle.brick_state.proofs.ViewChanges.{is_changed, live-changed, live_fits, weight_within}
use Rattle.brick_state.proofs.view_stripes.change.Goals as goal

pub overflow_cast-fewer : goal.overflow_cast-fewer
overflow_cast-fewer c = omega (
  arith,
  c.weight-fewer.ensures,
  c.requires.few,
  weight_within c.args.number c.in-Some.stripe.now c.args.stripes.now.entries (sym c.in-Some.ensures.value),
)

pub returns-clause-changed : goal.returns-clause-changed
returns-clause-changed c = is_changed c.args.number c.args.change c.in-Some.stripe.now c.change.new.self c.args.stripes.now.entries _
    (sym c.in-Some.ensures.value) (c.get_mut.follows.holds c.change.new.self).0 c.change.ensures

pub returns-clause-counted : goal.returns-clause-counted
returns-clause-counted c =
    let same = same_found (sym c.requires.may.there ∙ sym c.in-Some.ensures.value) in
    omega (
      arith,
      c.weight-fewer.ensures,
      c.weight-more.ensures,
      c.requires.few,
      weight_within c.args.number c.in-Some.stripe.now c.args.stripes.now.entries (sym c.in-Some.ensures.value),
      live_fits c.args.number c.args.change c.in-Some.stripe.now c.change.new.self c.args.stripes.now.entries _
          (sym c.in-Some.ensures.value) (c.get_mut.follows.holds c.change.new.self).0 c.change.ensures
          (subst (λ (s : Stripe). live_of c.args.stripes.now.entries + weight (changed c.args.change (stripe_of s)) ≤ 4294967295 + weight (stripe_of s)) same c.requires.may.fits),
      live-changed c.args.number c.args.change c.in-Some.stripe.now c.change.new.self c.args.stripes.now.entries _
          (sym c.in-Some.ensures.value) (c.get_mut.follows.holds c.change.new.self).0 c.change.ensures,
    )

pub returns-clause-fits : goal.returns-clause-fits
returns-clause-fits c =
    let same = same_found (sym c.requires.may.there ∙ sym c.in-Some.ensures.value) in
    live_fits c.args.number c.args.change c.in-Some.stripe.now c.change.new.self c.args.stripes.now.entries _
    (sym c.in-Some.ensures.value) (c.get_mut.follows.holds c.change.new.self).0 c.change.ensures
    (subst (λ (s : Stripe). live_of c.args.stripes.now.entries + weight (changed c.args.change (stripe_of s)) ≤ 4294967295 + weight (stripe_of s)) same c.requires.may.fits)

pub returns-clause-timed : goal.returns-clause-timed
returns-clause-timed c =
    let change = c.args.change in
    let s = c.in-Some.stripe.now in
    let new = c.change.new.self in
    let old = c.args.stripes.now.entries in
    let now = (c.get_mut.follows.lender new).entries in
    let same = same_found (sym c.requires.may.there ∙ sym c.in-Some.ensures.value) in
    let is = is_changed c.args.number change s new old now (sym c.in-Some.ensures.value) (c.get_mut.follows.holds new).0 c.change.ensures in
    let here : IsReplaced (time_of old) (time_lost change (stripe_of s)) (time_come change) (time_of now) = time-changed c.args.number change old now is
    (subst (λ (x : Stripe). IsAllowed change (stripe_of x)) same c.requires.may.allowed) in
    subst (λ (n : ℕ). IsReplaced (time_of old) c.time_lost-lost.result n (time_of now)) (sym c.time_come.ensures)
    (subst (λ (n : ℕ). IsReplaced (time_of old) n (time_come change) (time_of now)) (sym c.time_lost-lost.ensures) here)
