-- One live record more or less, as the stamps say, and the same names.
use Rattle.std.proofs.Common.{refl, List, subst, sym, ap, arith}
use Rattle.brick_state.specs.Entries.{Entry}
use Rattle.brick_state.specs.States.{Place, StripeOf, stripe_in, with_order, live_in}
use Rattle.brick_state.specs.Maps.{listed_in}
use Rattle.brick_state.specs.Tallies.{AreNames, NoneBeyond, order_weight}
use Rattle.brick_state.proofs.Tallies.{names-ordered, beyond-put, live-ordered, order_within}
use Rattle.brick_state.proofs.ViewChanges.{order_weight_fits}
use Rattle.brick_state.proofs.stripe_tables.StripeTable.replace_order.Goals as goal

pub overflow_sub-self : goal.overflow_sub-self
overflow_sub-self c = omega (
  arith,
  c.args.self.now.counted,
  c.order_weight.ensures,
  ap order_weight c.in-Some.ensures.replaced.was,
  order_within (listed_in c.args.self.now.views) c.args.place c.in-Some.ensures.sorted,
)

pub invariant_of-self : goal.invariant_of-self
invariant_of-self c =
    let t = c.args.self.now in
    let stripes = listed_in t.views in
    let sorted = c.in-Some.ensures.sorted in
    let reordered = c.in-Some.ensures.replaced in
    let within = order_within stripes c.args.place sorted in
    record {
      fits = omega (arith, t.counted, c.requires.few, c.order_weight.ensures, c.order_weight-in-Some.ensures, order_weight_fits c.args.stamp);
      counted = omega (
        arith,
        t.counted,
        c.order_weight.ensures,
        ap order_weight reordered.was,
        c.order_weight-in-Some.ensures,
        ap live_in reordered.is,
        live-ordered stripes c.args.place c.args.stamp sorted,
        within,
      );
      few = t.few;
      beyond = subst (λ (now : List (Place × StripeOf Entry)). NoneBeyond t.slots now t.counts) (sym reordered.is)
          (beyond-put t.slots stripes t.counts t.counts c.args.place (with_order c.args.stamp (stripe_in stripes c.args.place)) sorted t.beyond refl
          (λ slot past is_slot. omega arith));
      named = subst (λ (now : List (Place × StripeOf Entry)). AreNames now t.counts) (sym reordered.is)
          (names-ordered stripes t.counts c.args.place c.args.stamp sorted t.named);
    }
