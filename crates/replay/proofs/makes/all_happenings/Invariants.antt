use Rattle.std.proofs.Common.{◌≡◌}
use Rattle.world.specs.Runs.{world_of}
use Rattle.replay.specs.MadeRuns.{happenings_below}
use Rattle.replay.proofs.makes.all_happenings.Given as goal

abbrev pub invariant-loop-number : goal.invariant-loop-number
invariant-loop-number l = l.all.items ≡ happenings_below l.world.layout (world_of l.world) l.number
