-- No stripes: no live records, and no time.
use Rattle.std.proofs.Common.{sym, ap, arith}
use Rattle.brick_state.specs.Times.{greatest}
use Rattle.brick_state.specs.ViewStripes.{live_of, time_of}
use Rattle.brick_state.proofs.view_tables.ViewTable.new.Goals as goal

pub invariant_of-result : goal.invariant_of-result
unfolding greatest
invariant_of-result c = record {
  fits = omega arith;
  counted = sym (ap live_of c.new.ensures.empty);
  timed = sym (ap time_of c.new.ensures.empty);
  ordered = c.new.ensures.ordered;
}
