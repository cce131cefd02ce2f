-- The replies that are left grow fewer.
use Rattle.std.proofs.Common.{length}
use Rattle.view_synod.proofs.choices.+lowest.Given as goal

abbrev pub decreases-lowest : goal.decreases-lowest
decreases-lowest g l = length l.counted.now
