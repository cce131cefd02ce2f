-- The laws of every run.
use Rattle.calm_laws.proofs.Leaving.{collects_leave}
use Rattle.calm_laws.proofs.laws.collects_leave_one.Goals as goal

pub returns : goal.returns
returns c = collects_leave
