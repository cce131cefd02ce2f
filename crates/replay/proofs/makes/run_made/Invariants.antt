use Rattle.made.specs.Draws.{seeded}
use Rattle.replay.specs.DrawnRuns.{HasDrawn}
use Rattle.replay.proofs.makes.run_made.Given as goal

abbrev pub invariant-loop-count : goal.invariant-loop-count
invariant-loop-count l = HasDrawn l.initial.world l.world (seeded l.seed) l.maker l._count
