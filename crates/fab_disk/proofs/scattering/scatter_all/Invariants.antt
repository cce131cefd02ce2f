use Rattle.std.proofs.Common.{◌≡◌, ℕ, [], ◌+◌, ◌*◌, ◌++◌, take, drop, min, reverse, length}
use Rattle.fab_disk.specs.Past.{past_of}
use Rattle.fab_disk.specs.Pages.{held_at}
use Rattle.fab_disk.specs.Settled.{is_uncertain, filled, seeded}
use Rattle.fab_disk.specs.Stored.{shown, CanHold}
use Rattle.fab_disk.proofs.scattering.scatter_all.Given as goal

abbrev pub invariant-loop-page : goal.invariant-loop-page
invariant-loop-page l = record {
  bytes : take (min l.size (l.front + 4096 * l.page)) (shown l.content) ++ filled (is_uncertain (past_of (reverse l.steps) []) l.size) l.source
      (min l.size (l.front + 4096 * l.page)) (drop (min l.size (l.front + 4096 * l.page)) (shown l.content))
      ≡ filled (is_uncertain (past_of (reverse l.steps) []) l.size) (seeded l.pick) 0 (shown l.fn.content);
  held : (k : ℕ) → held_at l.content.pages.items k ≡ held_at l.fn.content.pages.items k;
  len : l.content.len ≡ l.fn.content.len;
  front : length l.content.front.items ≡ length l.fn.content.front.items;
  pages : length l.content.pages.items ≡ length l.fn.content.pages.items;
  room : (c b e : ℕ) → CanHold l.fn.content c b e → CanHold l.content c b e;
}
