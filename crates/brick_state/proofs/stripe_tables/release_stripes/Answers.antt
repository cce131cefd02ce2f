-- The names of one stripe more are counted less, and at the end those of all.
use Rattle.std.proofs.Common.{◌≡◌, map, ap, ◌∙◌, Bor, arith}
use Rattle.std.specs.List.{sum_by}
use Rattle.std.specs.BTreeMap.{values}
use Rattle.std.proofs.lemmas.Map.Iter.{iter_end}
use Rattle.std.proofs.lemmas.List.Sums.{sum_by_push}
use Rattle.brick_state.specs.declared.stripes.Stripe.{Stripe}
use Rattle.brick_state.specs.Tallies.{names_of}
use Rattle.brick_state.proofs.Tallies.{sum-borrowed}
use Rattle.brick_state.proofs.stripe_tables.release_stripes.Goals as goal

pub loop-stripe-preserved : goal.loop-stripe-preserved
loop-stripe-preserved c =
    let inv = c.loop-stripe.invariant in (
      c.release_all.ensures.length ∙ inv.0,
      λ slot within. omega (
        arith,
        inv.1 slot within,
        c.release_all.ensures.counts slot (omega (arith, within, inv.0)),
        ap (names_of slot) c.versions.ensures.value,
        sum_by_push (λ (s : Bor Stripe). names_of slot s.now.added.versions.items) c.loop-stripe.yielded c.in-Some.stripe,
      ),
    )

pub returns-clause-length : goal.returns-clause-length
returns-clause-length c = c.loop-stripe.invariant.0

pub returns-clause-counts : goal.returns-clause-counts
returns-clause-counts c = λ slot within.
    let all : map (λ (s : Bor Stripe). s.now) c.loop-stripe.yielded ≡ values c.args.stripes.now = (iter_end (λ (s : Bor Stripe). s.now)
    (values c.args.stripes.now) _ _ _ _ _ (c.into_iter-stripe-iterator.ensures.into_iter_gives
    ∙ c.values-stripe-items.ensures.rest) c.loop-stripe.yielded_by c.in-None.is c.next.ensures.steps).0 in
    omega (
      arith,
      c.loop-stripe.invariant.1 slot within,
      sum-borrowed (λ (s : Stripe). names_of slot s.added.versions.items) c.loop-stripe.yielded,
      ap (sum_by (λ (s : Stripe). names_of slot s.added.versions.items)) all,
    )
