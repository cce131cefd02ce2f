use Rattle.front.proofs.Writing.{writes_all}
use Rattle.front.proofs.ranges.Range.write.Goals as goal

pub returns-clause-bytes : goal.returns-clause-bytes
returns-clause-bytes c = writes_all _ _ _ _ c.bricks.ensures.limits

pub returns-in_err-content-clause-bytes : goal.returns-in_err-content-clause-bytes
returns-in_err-content-clause-bytes c = writes_all _ _ _ _ c.bricks.ensures.limits
