-- the happenings so far, and those of the entries that are left, are those of all
use Rattle.std.proofs.Common.{◌≡◌, ◌++◌, drop}
use Rattle.world.specs.Walks.{operations_of, placed}
use Rattle.world.proofs.walks.along.Given as goal

abbrev pub invariant-loop-entry : goal.invariant-loop-entry
invariant-loop-entry l =
    l.happenings.items ++ placed (operations_of l.operations) l.position (drop l.entry-index l.walk)
    ≡ placed (operations_of l.operations) 0 l.walk
