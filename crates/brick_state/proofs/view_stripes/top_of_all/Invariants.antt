use Rattle.std.proofs.Common.{◌≡◌}
use Rattle.brick_state.specs.States.{stripe_of, stamp_of}
use Rattle.brick_state.specs.Times.{greatest, stripe_time}
use Rattle.brick_state.proofs.view_stripes.top_of_all.Given as goal

abbrev pub invariant-loop-stripe : goal.invariant-loop-stripe
invariant-loop-stripe l = l.top ≡ greatest (λ s. stripe_time stamp_of (stripe_of s.now)) l.yielded
