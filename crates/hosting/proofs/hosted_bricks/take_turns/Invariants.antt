use Rattle.hosting.proofs.Turning.{HaveTaken}
use Rattle.hosting.proofs.hosted_bricks.take_turns.Given as goal

-- so many took their turns
abbrev pub invariant-loop-brick : goal.invariant-loop-brick
invariant-loop-brick g l = HaveTaken g.D.Disk g.L.Link g.C.Clock l.initial.bricks l.bricks l.initial.clock l.clock l.brick-index
