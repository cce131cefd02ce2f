-- The replies that are left grow fewer.
use Rattle.std.proofs.Common.{length}
use Rattle.view_synod.proofs.choices.+greatest_choice.Given as goal

abbrev pub decreases-greatest_choice : goal.decreases-greatest_choice
decreases-greatest_choice l = length l.counted.now
