-- The step is that of the line.
use Rattle.world.proofs.worlds.World.run_line.Goals as goal

pub returns-in-Ok-clause-ok : goal.returns-in-Ok-clause-ok
returns-in-Ok-clause-ok c = (c.in-Ok.ensures.ok.step, c.in-Ok.ensures.ok.runs)
