-- The disks of fresh bricks keep what the first world's bricks keep.
use Rattle.std.proofs.Common.{sym, subst}
use Rattle.world.specs.Runs.{Course, world_of}
use Rattle.world.specs.Shown.{Shows, disks_of}
use Rattle.world.proofs.RunLemmas.{disks_shown}
use Rattle.world.proofs.worlds.World.new.Goals as goal

pub returns-clause-disks : goal.returns-clause-disks
returns-clause-disks c =
    let state = c.in_ok-simulation.simulation in
    disks_shown c.args.layout state state.trail.course.steps
    (subst (λ (course : Course). Shows c.args.layout state
    (world_of (record { layout = c.args.layout; steps = course.steps; disks = disks_of state.bricks.items })))
    (sym c.in_ok-simulation.ensures.first.course) c.in_ok-simulation.ensures.first.shows)
