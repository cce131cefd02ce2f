-- What was copied so far.
use Rattle.std.proofs.Common.{◌≡◌, take}
use Rattle.view_synod.proofs.proposals.copy_counted.Given as goal

abbrev pub invariant-loop-reply : goal.invariant-loop-reply
invariant-loop-reply l = l.made.items ≡ take l.reply-index l.counted
