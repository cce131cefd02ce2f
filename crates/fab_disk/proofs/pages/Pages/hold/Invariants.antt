use Rattle.std.proofs.Common.{◌≡◌, ℕ, ◌+◌, ◌<◌, ◌≤◌, IsTrue, length, vec_len, vec_capacity}
use Rattle.fab_disk.specs.Pages.{held_at}
use Rattle.fab_disk.specs.Stored.{stored}
use Rattle.fab_disk.proofs.pages.Pages.hold.Given as goal

abbrev pub invariant-loop-page : goal.invariant-loop-page
invariant-loop-page l = record {
  same : stored l.self ≡ stored l.initial.self;
  range : (k : ℕ) → l.first ≤ k → k < l.page → IsTrue (held_at l.self.pages.items k);
  keeps : (k : ℕ) → IsTrue (held_at l.initial.self.pages.items k) → IsTrue (held_at l.self.pages.items k);
  len : l.self.len ≡ l.initial.self.len;
  front : length l.self.front.items ≡ length l.initial.self.front.items;
  pages : length l.self.pages.items ≡ length l.initial.self.pages.items;
  capacity : vec_capacity l.initial.self.pages ≤ vec_capacity l.self.pages;
  spare : vec_len l.initial.self.spare + l.first ≤ vec_len l.self.spare + l.page;
}
