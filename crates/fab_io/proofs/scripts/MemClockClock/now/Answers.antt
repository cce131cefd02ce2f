use Rattle.std.proofs.Common.{rules}
use Rattle.fab_io.proofs.scripts.MemClockClock.now.Goals as goal

pub returns-in_err-count : goal.returns-in_err-count
returns-in_err-count c = search rules

pub returns : goal.returns
returns c = search rules
