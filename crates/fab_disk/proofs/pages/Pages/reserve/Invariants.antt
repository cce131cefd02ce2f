use Rattle.std.proofs.Common.{◌≡◌, ◌-◌, ◌≤◌, vec_len}
use Rattle.fab_disk.proofs.pages.Pages.reserve.Given as goal

abbrev pub invariant-loop-calls : goal.invariant-loop-calls
invariant-loop-calls l = record {
  len : l.self.len ≡ l.initial.self.len;
  front : l.self.front ≡ l.initial.self.front;
  pages : l.self.pages ≡ l.initial.self.pages;
  spare : vec_len l.initial.self.spare ≤ vec_len l.self.spare;
}

abbrev pub decreases-loop-calls : goal.decreases-loop-calls
decreases-loop-calls l = l.sheets - vec_len l.self.spare
