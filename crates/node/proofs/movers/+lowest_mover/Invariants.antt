-- The replies that are left grow fewer.
use Rattle.std.proofs.Common.{length}
use Rattle.node.proofs.movers.+lowest_mover.Given as goal

abbrev pub decreases-lowest_mover : goal.decreases-lowest_mover
decreases-lowest_mover l = length l.counted.now
