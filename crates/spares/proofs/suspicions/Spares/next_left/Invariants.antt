-- The bricks that the loop has passed are not left.
use Rattle.std.proofs.Common.{◌≡◌}
use Rattle.spares.specs.Replacements.{left_from}
use Rattle.spares.proofs.suspicions.Spares.next_left.Given as goal

abbrev pub invariant-loop-brick : goal.invariant-loop-brick
invariant-loop-brick l = left_from l.self l.by l.members l.fn.first ≡ left_from l.self l.by l.members l.brick
