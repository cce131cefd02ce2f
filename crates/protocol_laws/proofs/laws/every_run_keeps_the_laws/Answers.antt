-- The laws of every run.
use Rattle.protocol_laws.proofs.EveryRun.{every_run}
use Rattle.protocol_laws.proofs.laws.every_run_keeps_the_laws.Goals as goal

pub returns : goal.returns
returns c = every_run
