-- The names of the dropped versions are counted less.
use Rattle.std.proofs.Common.{◌-◌, List, length, get_or, subst, sym, ap, ◌∙◌, arith}
use Rattle.std.specs.List.{filter}
use Rattle.fab_base.specs.Stamps.{stamp_below}
use Rattle.brick_state.specs.Entries.{Entry}
use Rattle.brick_state.specs.States.{Place, StripeOf, stripe_in, live_in}
use Rattle.brick_state.specs.Maps.{listed_in}
use Rattle.brick_state.specs.Tallies.{AreNames, NoneBeyond, names_of}
use Rattle.brick_state.proofs.Tallies.{names-collected, beyond-collected, live-collected, weight_collected}
use Rattle.brick_state.proofs.stripe_tables.StripeTable.collect.Goals as goal

pub overflow_cast-self : goal.overflow_cast-self
overflow_cast-self c =
    let t = c.args.self.now in
    let most = t.fits in
    omega (
      arith,
      t.counted,
      c.release_below-dropped.ensures.number,
      ap (λ (es : List Entry). length (filter (λ e. stamp_below e.stamp c.args.stamp) es)) c.added-versions.ensures.added,
      live-collected (listed_in t.views) c.args.place c.args.stamp c.added-versions.ensures.sorted,
      most,
    )

pub overflow_sub-self : goal.overflow_sub-self
overflow_sub-self c =
    let t = c.args.self.now in
    omega (
      arith,
      t.counted,
      c.release_below-dropped.ensures.number,
      ap (λ (es : List Entry). length (filter (λ e. stamp_below e.stamp c.args.stamp) es)) c.added-versions.ensures.added,
      live-collected (listed_in t.views) c.args.place c.args.stamp c.added-versions.ensures.sorted,
    )

pub change-requires-clause-fits : goal.change-requires-clause-fits
change-requires-clause-fits c =
    let t = c.args.self.now in
    let most = t.fits in
    omega (arith, t.counted, most, weight_collected c.args.stamp (stripe_in (listed_in t.views) c.args.place))

pub invariant_of-self : goal.invariant_of-self
invariant_of-self c =
    let t = c.args.self.now in
    let stripes = listed_in t.views in
    let sorted = c.added-versions.ensures.sorted in
    record {
      fits = omega (arith, t.fits);
      counted = omega (
        arith,
        t.counted,
        c.release_below-dropped.ensures.number,
        ap (λ (es : List Entry). length (filter (λ e. stamp_below e.stamp c.args.stamp) es)) c.added-versions.ensures.added,
        ap live_in c.change.ensures.changed,
        live-collected stripes c.args.place c.args.stamp c.added-versions.ensures.sorted,
      );
      few = t.few;
      beyond = subst (λ (now : List (Place × StripeOf Entry)). NoneBeyond t.slots now c.release_below-dropped.new.counts) (sym c.change.ensures.changed)
          (beyond-collected t.slots stripes t.counts c.release_below-dropped.new.counts c.args.place c.args.stamp c.added-versions.ensures.sorted t.beyond
          c.release_below-dropped.ensures.length);
      named = subst (λ (now : List (Place × StripeOf Entry)). AreNames now c.release_below-dropped.new.counts) (sym c.change.ensures.changed)
          (names-collected stripes t.counts c.release_below-dropped.new.counts c.args.place c.args.stamp c.added-versions.ensures.sorted t.named
          c.release_below-dropped.ensures.length
          (λ s within. c.release_below-dropped.ensures.counts s within
          ∙ ap (λ (es : List Entry). get_or t.counts s 0 - names_of s (filter (λ e. stamp_below e.stamp c.args.stamp) es)) c.added-versions.ensures.added));
    }
