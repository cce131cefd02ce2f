-- Each round draws one more line.
use Rattle.std.proofs.Common.{subst, sym}
use Rattle.rand_pcg.specs.Lcg.{Lcg}
use Rattle.made.specs.Draws.{seeded}
use Rattle.replay.specs.DrawnRuns.{HasDrawn}
use Rattle.replay.proofs.DrawnSteps.{drawn_none, drawn_one_more}
use Rattle.replay.proofs.makes.run_made.Goals as goal

pub loop-count-init : goal.loop-count-init
loop-count-init c =
    subst (λ (random : Lcg). HasDrawn c.args.world.now c.args.world.now (seeded c.args.seed) random 0) (sym c.new-maker.ensures)
    (drawn_none c.args.world.now (seeded c.args.seed))

pub loop-count-preserved : goal.loop-count-preserved
loop-count-preserved c = drawn_one_more _ _ _ _ _ _ c.loop-count._count c.loop-count.invariant c.in_ok-run_next.ensures
