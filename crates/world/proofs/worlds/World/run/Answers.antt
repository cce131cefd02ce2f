-- Every other line asks something of bricks.
use Rattle.world.proofs.Suspecting.{asks_bricks}
use Rattle.world.proofs.worlds.World.run.Goals as goal

pub ask-requires : goal.ask-requires
ask-requires c = asks_bricks c.args.line.now c.in_default.not-Suspect c.in_default.not-Trust c.in_default.not-Spare
