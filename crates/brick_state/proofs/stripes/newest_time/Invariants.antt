use Rattle.std.proofs.Common.{◌≡◌, take}
use Rattle.brick_state.specs.States.{stamp_of}
use Rattle.brick_state.specs.Times.{greatest}
use Rattle.brick_state.proofs.stripes.newest_time.Given as goal

abbrev pub invariant-loop-entry : goal.invariant-loop-entry
invariant-loop-entry l = l.top ≡ greatest (λ e. (stamp_of e).time) (take l.entry-index l.entries)
