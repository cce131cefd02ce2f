-- What is replaced already, and after it what is to be replaced from the next brick on that is left; the seats to come are as they were.
use Rattle.std.proofs.Common.{◌≡◌, ◌≤◌, ◌++◌, take, drop}
use Rattle.spares.specs.Suspicions.{suspects}
use Rattle.spares.specs.Replacements.{left_from, with_spares}
use Rattle.spares.proofs.suspicions.Spares.replace.Given as goal

abbrev pub invariant-loop-seat : goal.invariant-loop-seat
invariant-loop-seat l = record {
  made : take l.seat-index l.seats
      ++ with_spares (suspects l.self l.by) (left_from l.self l.by l.members l.first) (drop l.seat-index l.seats)
      ≡ with_spares (suspects l.self l.by) (left_from l.self l.by l.members 0) l.initial.seats;
  small : l.first ≤ 64;
}
