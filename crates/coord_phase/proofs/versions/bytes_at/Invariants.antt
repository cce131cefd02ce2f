-- Where the loop has passed no reply of the seat, its bytes are those of the others.
use Rattle.std.proofs.Common.{◌≡◌, drop}
use Rattle.protocol.specs.Coordinators.{bytes_at}
use Rattle.coord_phase.proofs.versions.bytes_at.Given as goal

abbrev pub invariant-loop-reply : goal.invariant-loop-reply
invariant-loop-reply l = bytes_at l.seat l.counted ≡ bytes_at l.seat (drop l.reply-index l.counted)
