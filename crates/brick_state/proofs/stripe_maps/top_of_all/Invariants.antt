use Rattle.std.proofs.Common.{◌≡◌}
use Rattle.brick_state.specs.Times.{greatest}
use Rattle.brick_state.specs.ViewStripes.{time_of}
use Rattle.brick_state.proofs.stripe_maps.top_of_all.Given as goal

abbrev pub invariant-loop-table : goal.invariant-loop-table
invariant-loop-table l = l.top ≡ greatest (λ t. time_of t.now.stripes.entries) l.yielded
