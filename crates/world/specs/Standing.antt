-- What a world always keeps.
use Rattle.std.specs.Prelude.{◌≡◌, []}
use Rattle.world.specs.Runs.{Run, world_of}
use Rattle.world.specs.Suspected.{suspicions_of}
use Rattle.world.specs.Shown.{Shows, disks_of}
use Rattle.world.specs.declared.worlds.World.TheInside.{Inside}

-- the run of a world: the steps that it took over its layout, and the disks of its bricks
abbrev pub run_of : Inside → Run
run_of inside = record { layout = inside.layout; steps = inside.simulation.trail.course.steps; disks = disks_of inside.simulation.bricks.items }

-- its state shows the world that its run leaves and what is suspected in it, and no line is being run
pub record IsStanding (inside : Inside) : Type 0 where
  pub shows : Shows inside.layout inside.simulation (world_of (run_of inside))
  pub suspects : inside.spares ≡ suspicions_of (run_of inside)
  pub ended : inside.simulation.trail.course.events ≡ []
