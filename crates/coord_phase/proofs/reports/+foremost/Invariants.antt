-- The replies that are left grow fewer.
use Rattle.std.proofs.Common.{length}
use Rattle.coord_phase.proofs.reports.+foremost.Given as goal

abbrev pub decreases-foremost : goal.decreases-foremost
decreases-foremost g l = length l.counted.now
