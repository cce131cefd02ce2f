-- What a call on an end of a stream keeps: its count of faults, its soundness and the bytes that it tells.
use Rattle.std.specs.Prelude.{ℕ, ◌+◌, ◌-◌, ◌^◌, ◌≤◌, min, List, Option, length, take, Result, MatchResult}
use Rattle.std.specs.Io.KnownBytes.{Appends}
pub use Rattle.fab_base.specs.Faults.{Rose, Kept}

-- one more, where a count stays once it is the greatest `u64`
abbrev pub one_more : ℕ → ℕ
one_more n = min (n + 1) (2 ^ 64 - 1)

-- known bytes grow by some of bs, from its front
abbrev pub AppendsFront : Option (List ℕ) → Option (List ℕ) → List ℕ → Type 0
AppendsFront old new bs = (k : ℕ) × (k ≤ length bs) × Appends old new (take k bs)

-- `write(from)` took all of it at `Ok`, and some of it from its front at `Err`
abbrev pub WriteTakes : {T E : Type 0} → Option (List ℕ) → Option (List ℕ) → Result T E → List ℕ → Type 0
WriteTakes old new r from = MatchResult r (λ _. Appends old new from) (λ _. AppendsFront old new from)
