use Rattle.std.proofs.Common.{length}
use Rattle.world.proofs.calms.+are_distinct.Given as goal

-- proposed from what the function passes where it calls itself
abbrev pub decreases-are_distinct : goal.decreases-are_distinct
decreases-are_distinct l = length l.numbers.now
