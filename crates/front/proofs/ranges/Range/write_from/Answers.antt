use Rattle.front.proofs.Writing.{writes_all}
use Rattle.front.proofs.ranges.Range.write_from.Goals as goal

pub returns-clause-bytes : goal.returns-clause-bytes
returns-clause-bytes c = writes_all _ _ _ _ c.bricks.ensures.limits
