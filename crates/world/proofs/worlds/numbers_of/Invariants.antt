-- the numbers so far, and those of the bricks that are left, are those of all
use Rattle.std.proofs.Common.{◌≡◌, ◌++◌, drop, map}
use Rattle.world.proofs.worlds.numbers_of.Given as goal

abbrev pub invariant-loop-brick : goal.invariant-loop-brick
invariant-loop-brick l = l.numbers.items ++ map (λ brick. brick.0) (drop l.brick-index l.bricks) ≡ map (λ brick. brick.0) l.bricks
