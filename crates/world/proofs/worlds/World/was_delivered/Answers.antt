-- The history tells it, of the world that the run leaves.
use Rattle.std.proofs.Common.{◌≡◌, ◌∙◌, subst}
use Rattle.world.specs.Runs.{Run, world_of}
use Rattle.world.specs.Standing.{run_of}
use Rattle.world.proofs.Numberless.{none_at_zero, noted_is}
use Rattle.world.proofs.worlds.World.was_delivered.Goals as goal

pub returns : goal.returns
returns c =
    subst (λ (r : Run). c.was_delivered.result ≡ (world_of r).reached c.args.number) c.self.view_is
    (c.was_delivered.ensures
    ∙ noted_is _ (world_of (run_of c.self.inside)) c.args.number (none_at_zero (run_of c.self.inside)) c.self.invariant.shows.history.reached)
