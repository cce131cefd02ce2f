use Rattle.std.proofs.Common.{rules}
use Rattle.audit.proofs.operations.begin_fits.Goals as goal

pub returns-else-brick-from : goal.returns-else-brick-from
returns-else-brick-from c = search rules
