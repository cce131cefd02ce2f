-- The seats so far, and those of the replies that are left, are all.
use Rattle.std.proofs.Common.{◌≡◌, ◌++◌, map, drop}
use Rattle.protocol.specs.Coordinators.{pieces_at}
use Rattle.coord_phase.proofs.versions.seats_finding.Given as goal

abbrev pub invariant-loop-reply : goal.invariant-loop-reply
invariant-loop-reply l =
    l.seats.items ++ map (λ piece. piece.seat) (pieces_at l.version (drop l.reply-index l.counted)) ≡ map (λ piece. piece.seat)
    (pieces_at l.version l.counted)
