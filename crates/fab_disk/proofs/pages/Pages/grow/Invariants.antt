use Rattle.std.proofs.Common.{◌≡◌, ℕ, ◌-◌, ◌≤◌, ◌++◌, IsTrue, length, replicate, vec_len, vec_capacity}
use Rattle.fab_disk.specs.Pages.{held_at}
use Rattle.fab_disk.specs.Stored.{stored, shown}
use Rattle.fab_disk.proofs.pages.Pages.grow.Given as goal

abbrev pub invariant-loop-self : goal.invariant-loop-self
invariant-loop-self l = record {
  bytes : stored l.self ≡ shown l.initial.self ++ replicate (length (stored l.self) - l.initial.self.len) 0;
  held : (k : ℕ) → IsTrue (held_at l.initial.self.pages.items k) → IsTrue (held_at l.self.pages.items k);
  len : l.self.len ≡ l.initial.self.len;
  front : length l.self.front.items ≡ length l.initial.self.front.items;
  capacity : vec_capacity l.initial.self.pages ≤ vec_capacity l.self.pages;
  spare : vec_len l.initial.self.spare ≤ vec_len l.self.spare;
}

abbrev pub decreases-loop-self : goal.decreases-loop-self
decreases-loop-self l = l.pages - vec_len l.self.pages
