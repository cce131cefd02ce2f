-- The bricks so far are fresh.
use Rattle.world.proofs.BrickListLemmas.{AreFresh}
use Rattle.world.proofs.bricks.fresh_bricks.Given as goal

abbrev pub invariant-loop-number : goal.invariant-loop-number
invariant-loop-number l = AreFresh l.layout l.bricks.items l.number
