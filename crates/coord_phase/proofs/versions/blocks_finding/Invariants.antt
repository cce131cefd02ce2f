-- The blocks so far, and those of the replies that are left, are all.
use Rattle.std.proofs.Common.{◌≡◌, ◌++◌, map, drop}
use Rattle.std.specs.List.{concat}
use Rattle.protocol.specs.Coordinators.{pieces_at}
use Rattle.coord_phase.proofs.versions.blocks_finding.Given as goal

abbrev pub invariant-loop-reply : goal.invariant-loop-reply
invariant-loop-reply l =
    l.blocks.items ++ concat (map (λ piece. piece.bytes) (pieces_at l.version (drop l.reply-index l.counted)))
    ≡ concat (map (λ piece. piece.bytes) (pieces_at l.version l.counted))
