-- The bricks so far, and those of the rest, are those of the numbers.
use Rattle.std.proofs.Common.{◌≡◌, drop}
use Rattle.layout.specs.Checks.{bricks_in}
use Rattle.layout.proofs.Readings.{with_rest}
use Rattle.layout.proofs.tables.bricks_in.Given as goal

abbrev pub invariant-loop-number : goal.invariant-loop-number
invariant-loop-number l = bricks_in l.bricks l.numbers ≡ with_rest l.members.items (bricks_in l.bricks (drop l.number-index l.numbers))
