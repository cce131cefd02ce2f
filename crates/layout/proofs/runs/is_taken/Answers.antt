-- The last entry before the end decides.
use Rattle.layout.proofs.TakenRuns.{told_last, told_empty}
use Rattle.layout.proofs.runs.is_taken.Goals as goal

pub returns-in-Some : goal.returns-in-Some
returns-in-Some c = told_last _ _ _ _ _ _ (c.range.ensures.in_range tt) c.in-Some.ensures.steps

pub returns-in-None : goal.returns-in-None
returns-in-None c = told_empty _ _ _ _ (c.range.ensures.in_range tt) c.in-None.ensures.steps.0
