-- The deliveries so far were made alone, and none of the messages that were looked at is left.
use Rattle.std.proofs.Common.{◌-◌, ◌^◌}
use Rattle.world.proofs.AloneRuns.{RanSoFar}
use Rattle.world.proofs.simulations.Simulation.run_alone.Given as goal

abbrev pub invariant-loop-record : goal.invariant-loop-record
invariant-loop-record l = RanSoFar l.layout l.initial.self l.self l.operation l.bricks l.from l.some

abbrev pub decreases-loop-record : goal.decreases-loop-record
decreases-loop-record l = 2 ^ 64 - l.from
