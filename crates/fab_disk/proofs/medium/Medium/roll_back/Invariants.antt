use Rattle.std.proofs.Common.{◌≡◌, vec_len}
use Rattle.fab_disk.specs.Disk.{KeepsRoom}
use Rattle.fab_disk.specs.Settled.{rolled_back}
use Rattle.fab_disk.specs.Medium.{past, HasRoom}
use Rattle.fab_disk.specs.Stored.{shown}
use Rattle.fab_disk.proofs.medium.Medium.roll_back.Given as goal

abbrev pub invariant-loop : goal.invariant-loop
invariant-loop l = record {
  undone : rolled_back (past l.self) (shown l.self.content) ≡ rolled_back (past l.initial.self) (shown l.initial.self.content);
  room : KeepsRoom (HasRoom l.initial.self) (HasRoom l.self);
}

abbrev pub decreases-loop : goal.decreases-loop
decreases-loop l = vec_len l.self.steps
