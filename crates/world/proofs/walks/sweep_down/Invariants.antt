-- the sweep has come to the effect of the entries so far, which come backwards
use Rattle.std.proofs.Common.{map, reverse}
use Rattle.protocol.specs.Happenings.{effect_of}
use Rattle.world.specs.Walks.{HasSwept, operations_of}
use Rattle.world.proofs.walks.sweep_down.Given as goal

abbrev pub invariant-loop-entry : goal.invariant-loop-entry
invariant-loop-entry l = HasSwept l.sweep (effect_of (operations_of l.operations) (reverse (map (λ entry. entry.now) l.yielded)))
