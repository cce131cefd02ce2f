-- The state shows bricks of the layout.
use Rattle.std.proofs.Common.{List, sym, subst}
use Rattle.world.specs.Shown.{AreBricksOf}
use Rattle.world.specs.declared.bricks.Brick.{Brick}
use Rattle.world.proofs.BrickListLemmas.{bricks_there}
use Rattle.world.proofs.simulations.Simulation.find_up.Goals as goal

pub find_up-requires : goal.find_up-requires
find_up-requires c =
    subst (λ (bricks : List Brick). AreBricksOf c.args.layout.now bricks) (sym c.deref.ensures.value) (bricks_there c.requires.bricks)
