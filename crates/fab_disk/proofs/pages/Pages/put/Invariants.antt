use Rattle.std.proofs.Common.{◌≡◌, ℕ, ◌+◌, ◌-◌, ◌≤◌, length, drop}
use Rattle.fab_disk.specs.Disk.{overlaid}
use Rattle.fab_disk.specs.Pages.{held_at}
use Rattle.fab_disk.specs.Stored.{stored, CanHold}
use Rattle.fab_disk.proofs.pages.Pages.put.Given as goal

abbrev pub invariant-loop-done : goal.invariant-loop-done
invariant-loop-done l = record {
  within : l.done ≤ length l.from;
  left : overlaid (l.at + l.done) (drop l.done l.from) (stored l.self) ≡ overlaid l.at l.from (stored l.initial.self);
  held : (k : ℕ) → held_at l.self.pages.items k ≡ held_at l.initial.self.pages.items k;
  len : l.self.len ≡ l.initial.self.len;
  front : length l.self.front.items ≡ length l.initial.self.front.items;
  room : (c b e : ℕ) → CanHold l.initial.self c b e → CanHold l.self c b e;
}

abbrev pub decreases-loop-done : goal.decreases-loop-done
decreases-loop-done l = length l.from - l.done
