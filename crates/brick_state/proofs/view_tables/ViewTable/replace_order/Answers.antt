-- The counts after the order stamp is exchanged.
use Rattle.std.proofs.Common.{ℕ, sym, subst, arith}
use Rattle.brick_state.specs.TopTimes.{IsReplaced}
use Rattle.brick_state.specs.ViewStripes.{time_of}
use Rattle.brick_state.proofs.TopTimes.{time-reordered}
use Rattle.brick_state.proofs.ViewChanges.{live-reordered, order_weight_fits, reordered_within}
use Rattle.brick_state.proofs.view_tables.ViewTable.replace_order.Goals as goal

pub overflow_sub-self : goal.overflow_sub-self
overflow_sub-self c = omega (
  arith,
  c.args.self.now.counted,
  c.order_weight.ensures,
  reordered_within c.args.number c.args.stamp c.in-Some.replaced c.args.self.now.stripes.entries c.replace_order.new.stripes.entries c.in-Some.ensures.replaced,
)

pub top_after-self-requires : goal.top_after-self-requires
top_after-self-requires c =
    let new = c.replace_order.new.stripes.entries in
    subst (λ (top : ℕ). IsReplaced top c.in-Some.replaced.time c.args.stamp.time (time_of new)) (sym c.args.self.now.timed)
    (time-reordered c.args.number c.args.stamp c.in-Some.replaced c.args.self.now.stripes.entries new c.in-Some.ensures.replaced)

pub invariant_of-self : goal.invariant_of-self
invariant_of-self c =
    let t = c.args.self.now in
    let old = t.stripes.entries in
    let new = c.replace_order.new.stripes.entries in
    let live = live-reordered c.args.number c.args.stamp c.in-Some.replaced old new c.in-Some.ensures.replaced in
    let within = reordered_within c.args.number c.args.stamp c.in-Some.replaced old new c.in-Some.ensures.replaced in
    record {
      fits = omega (arith, t.counted, c.requires.few, c.order_weight.ensures, c.order_weight-in-Some.ensures, order_weight_fits c.args.stamp, within);
      counted = omega (arith, t.counted, c.order_weight.ensures, c.order_weight-in-Some.ensures, live, within);
      timed = c.top_after-self.ensures;
      ordered = c.in-Some.ensures.ordered;
    }
