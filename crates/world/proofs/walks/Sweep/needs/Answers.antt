-- The set has the versions that are needed.
use Rattle.std.proofs.Common.{◌∙◌}
use Rattle.world.proofs.walks.Sweep.needs.Goals as goal

pub returns : goal.returns
returns c above swept = c.contains.ensures ∙ swept.needed c.args.stamp
