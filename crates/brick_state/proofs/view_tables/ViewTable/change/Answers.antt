-- The counts after the change, by what it takes away and what it brings.
use Rattle.std.proofs.Common.{arith}
use Rattle.brick_state.proofs.view_tables.ViewTable.change.Goals as goal

pub invariant_of-self : goal.invariant_of-self
invariant_of-self c =
    let t = c.args.self.now in
    record {
      fits = omega (arith, t.counted, c.change-tally.ensures.counted, c.change-tally.ensures.fits, c.change-tally.ensures.some);
      counted = omega (arith, t.counted, c.change-tally.ensures.counted, c.change-tally.ensures.some);
      timed = c.top_after-self.ensures;
      ordered = c.change-tally.ensures.ordered;
    }
