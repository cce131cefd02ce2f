-- each brick's calls are as they were
use Rattle.std.proofs.Common.{◌≡◌, ℕ, ◌+◌, ◌-◌, vec_len}
use Rattle.world.specs.CallNumbers.{calls_in}
use Rattle.world.proofs.call_numbers.CallNumbers.reserve.Given as goal

abbrev pub invariant-loop-alloc : goal.invariant-loop-alloc
invariant-loop-alloc l = (i : ℕ) → calls_in l.self i ≡ calls_in l.initial.self i

abbrev pub decreases-loop-alloc : goal.decreases-loop-alloc
decreases-loop-alloc l = l.place + 1 - vec_len l.self.rows
