-- Pages that a crash may change whole, or not at all.
use Rattle.std.specs.Prelude.{◌≡◌, ℕ, ◌+◌, ◌<◌, Bool}

-- a test says the same of each place of the page that begins at start, up to the end
abbrev pub IsSameWithin : (ℕ → Bool) → ℕ → ℕ → Type 0
IsSameWithin test start end = (j : ℕ) → j < 4096 → start + j < end → test (start + j) ≡ test start
