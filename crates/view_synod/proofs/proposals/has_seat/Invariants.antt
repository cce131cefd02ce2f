-- Where the loop has passed no reply of the seat, the others decide.
use Rattle.std.proofs.Common.{◌≡◌, drop}
use Rattle.protocol.specs.Coordinators.{has_seat}
use Rattle.view_synod.proofs.proposals.has_seat.Given as goal

abbrev pub invariant-loop-reply : goal.invariant-loop-reply
invariant-loop-reply l = has_seat l.seat l.counted ≡ has_seat l.seat (drop l.reply-index l.counted)
