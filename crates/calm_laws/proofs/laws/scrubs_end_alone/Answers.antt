-- The laws of every run.
use Rattle.calm_laws.proofs.LoneScrubs.{scrubs_end}
use Rattle.calm_laws.proofs.laws.scrubs_end_alone.Goals as goal

pub returns : goal.returns
returns c = scrubs_end
