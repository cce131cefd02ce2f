use Rattle.std.specs.List.{AllWithin}
use Rattle.printed.specs.Spellings.{IsSmall}
use Rattle.replay.proofs.spellings.look_at_bricks.Given as goal

abbrev pub invariant-loop-brick : goal.invariant-loop-brick
invariant-loop-brick l = AllWithin (λ brick. IsSmall brick.0) l.bricks 0 l.brick-index
