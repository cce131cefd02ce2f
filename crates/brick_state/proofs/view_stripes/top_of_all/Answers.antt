-- One stripe more, and at the end all of them.
use Rattle.std.proofs.Common.{◌≡◌, ℕ, max, map, refl, sym, ap, ◌∙◌, Bor}
use Rattle.std.specs.BTreeMap.{values}
use Rattle.std.proofs.lemmas.Map.Iter.{iter_end}
use Rattle.brick_state.specs.declared.stripes.Stripe.{Stripe}
use Rattle.brick_state.specs.States.{stripe_of, stamp_of}
use Rattle.brick_state.specs.Times.{greatest, stripe_time}
use Rattle.brick_state.proofs.Greatest.{greatest-push, greatest-map}
use Rattle.brick_state.proofs.view_stripes.top_of_all.Goals as goal

pub loop-stripe-init : goal.loop-stripe-init
unfolding greatest
loop-stripe-init c = refl

pub loop-stripe-preserved : goal.loop-stripe-preserved
loop-stripe-preserved c =
    c.max-top.ensures ∙ (ap (λ (n : ℕ). max n c.top_time.result) c.loop-stripe.invariant
    ∙ ap (max (greatest (λ (s : Bor Stripe). stripe_time stamp_of (stripe_of s.now)) c.loop-stripe.yielded)) c.top_time.ensures)
    ∙ sym (greatest-push (λ (s : Bor Stripe). stripe_time stamp_of (stripe_of s.now)) c.loop-stripe.yielded c.in-Some.stripe)

pub returns : goal.returns
returns c =
    let all : map (λ (s : Bor Stripe). s.now) c.loop-stripe.yielded ≡ values c.args.stripes.now = (iter_end (λ (s : Bor Stripe). s.now)
    (values c.args.stripes.now) _ _ _ _ _ (c.into_iter-stripe-iterator.ensures.into_iter_gives
    ∙ c.values-stripe-items.ensures.rest) c.loop-stripe.yielded_by c.in-None.is c.next.ensures.steps).0 in
    c.loop-stripe.invariant ∙ sym (greatest-map (λ s. stripe_time stamp_of (stripe_of s)) (λ (s : Bor Stripe). s.now) c.loop-stripe.yielded)
    ∙ ap (greatest (λ s. stripe_time stamp_of (stripe_of s))) all
