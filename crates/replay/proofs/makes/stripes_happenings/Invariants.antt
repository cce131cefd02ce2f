use Rattle.std.proofs.Common.{◌≡◌, ◌≤◌, ◌-◌}
use Rattle.world.specs.Runs.{world_of}
use Rattle.replay.specs.MadeRuns.{happenings_to}
use Rattle.replay.proofs.makes.stripes_happenings.Given as goal

abbrev pub invariant-loop-stripe : goal.invariant-loop-stripe
invariant-loop-stripe l = (l.next ≤ l.stripes) × (l.all.items ≡ happenings_to (world_of l.world) l.group.0 l.next)

abbrev pub decreases-loop-stripe : goal.decreases-loop-stripe
decreases-loop-stripe l = l.stripes - l.next
