-- The replies that are left grow fewer.
use Rattle.std.proofs.Common.{length}
use Rattle.view_synod.proofs.choices.+greatest_outbid.Given as goal

abbrev pub decreases-greatest_outbid : goal.decreases-greatest_outbid
decreases-greatest_outbid l = length l.counted.now
