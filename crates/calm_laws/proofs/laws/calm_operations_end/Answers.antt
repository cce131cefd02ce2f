-- The laws of every run.
use Rattle.calm_laws.proofs.Discharge.{calm_ends}
use Rattle.calm_laws.proofs.laws.calm_operations_end.Goals as goal

pub returns : goal.returns
returns c = calm_ends
