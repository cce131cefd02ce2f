-- no more lists than there are bricks
use Rattle.std.proofs.Common.{◌≤◌, ◌-◌, vec_len}
use Rattle.audit.proofs.operations.Operations.new.Given as goal

abbrev pub invariant-loop-crashes : goal.invariant-loop-crashes
invariant-loop-crashes l = vec_len l.crashes ≤ l.bricks

abbrev pub decreases-loop-crashes : goal.decreases-loop-crashes
decreases-loop-crashes l = l.bricks - vec_len l.crashes
