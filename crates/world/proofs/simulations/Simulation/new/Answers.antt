-- Fresh bricks, no history, and no step.
use Rattle.world.proofs.simulations.Simulation.new.Goals as goal

pub returns-clause-first : goal.returns-clause-first
returns-clause-first c = record {
  shows = record { bricks = c.in_ok-fresh_bricks.ensures.shows; history = c.new.ensures c.args.layout.now };
  course = c.new-2.ensures;
}
