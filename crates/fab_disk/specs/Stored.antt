-- What pages hold.
use Rattle.std.specs.Prelude.{ℕ, ◌+◌, ◌*◌, ◌/◌, ◌<◌, ◌≤◌, IsTrue, List, ◌++◌, length, take, vec_len, vec_capacity}
use Rattle.fab_disk.specs.declared.pages.Page.{Page}
use Rattle.fab_disk.specs.declared.pages.Pages.{Pages}
use Rattle.fab_disk.specs.Pages.{spread, held_at}

-- all bytes in memory
abbrev pub stored : Pages → List ℕ
stored bytes = bytes.front.items ++ spread bytes.pages.items

-- those before the end
abbrev pub shown : Pages → List ℕ
shown bytes = take bytes.len (stored bytes)

-- each page with a place of this range has memory, where the pages lie behind so many bytes
abbrev pub HoldsRange : ℕ → List Page → ℕ → ℕ → Type 0
HoldsRange front pages from end =
    (k j : ℕ) → j < 4096 → from ≤ front + (4096 * k + j) → front + (4096 * k + j) < end → IsTrue (held_at pages k)

-- each page that begins below the end goes on having memory
abbrev pub KeepsHeld : ℕ → ℕ → List Page → List Page → Type 0
KeepsHeld front len old new = (k : ℕ) → front + 4096 * k < len → IsTrue (held_at old k) → IsTrue (held_at new k)

-- the page in which the end lies has memory
abbrev pub HoldsEnd : ℕ → ℕ → List Page → Type 0
HoldsEnd front len pages = (k : ℕ) → front + 4096 * k < len → len < front + (4096 * k + 4096) → IsTrue (held_at pages k)

-- room for so many writes, with so many bytes in all and ends at most there
pub record CanHold (bytes : Pages) (calls count end : ℕ) : Type 0 where
  pub for_pages : 3 * calls + count / 4096 + 1 ≤ vec_len bytes.spare
  pub for_end : end ≤ length bytes.front.items + 4096 * vec_capacity bytes.pages
