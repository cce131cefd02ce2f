use Rattle.front.specs.declared.steps.Halt.TheVariants.{Stopped}
use Rattle.front.proofs.Progressing.{stops}
use Rattle.front.proofs.ranges.Range.stop.Goals as goal

pub returns : goal.returns
returns c = stops _ _ _ _ _ (Stopped c.args.why) _ c.self.view_is
