-- the members so far, and those of the numbers that are left, are those of all
use Rattle.std.proofs.Common.{◌≡◌, ◌++◌, drop, map}
use Rattle.world.specs.Runs.{member_no}
use Rattle.world.proofs.simulations.members_of.Given as goal

abbrev pub invariant-loop-number : goal.invariant-loop-number
invariant-loop-number l = l.members.items ++ map member_no (drop l.number-index l.numbers) ≡ map member_no l.numbers
