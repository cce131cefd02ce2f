-- What the calls of a disk do to what it holds, and what a crash may leave between two syncs.
use Rattle.std.specs.Prelude.{◌≡◌, ◌<◌, ◌≤◌, ◌⊎◌, ◌+◌, ◌-◌, ℕ, max, List, [], ◌∷◌, ◌++◌, length, take, drop, replicate, slice_index}
pub use Rattle.fab_base.specs.Faults.{Rose, Kept}

-- old, made at least this long by zeros
abbrev pub padded : ℕ → List ℕ → List ℕ
padded size old = old ++ replicate (size - length old) 0

-- these bytes in the place of those that stand at this place
abbrev pub overlaid : ℕ → List ℕ → List ℕ → List ℕ
overlaid at bytes old = take at old ++ bytes ++ drop (at + length bytes) old

-- old with these bytes at this place; a gap behind the old end is filled with zeros, and no bytes change nothing
abbrev pub written : ℕ → List ℕ → List ℕ → List ℕ
written at [] old = old
written at (byte ∷ bytes) old = overlaid at (byte ∷ bytes) (padded (at + length (byte ∷ bytes)) old)

-- place i is none of the n places from at on
abbrev pub IsOutside : ℕ → ℕ → ℕ → Type 0
IsOutside at n i = (i < at) ⊎ (at + n ≤ i)

-- A write of n bytes that a crash cuts short: any bytes in its range and past the old end, and each other byte as it was.
pub record Torn (at n : ℕ) (old new : List ℕ) : Type 0 where
  pub kept : (i : ℕ) → i < length old → IsOutside at n i → slice_index new i ≡ slice_index old i
  pub no_shorter : length old ≤ length new
  pub no_longer : length new ≤ max (length old) (at + n)

-- each new outcome of a crash is an old outcome after a step
abbrev pub Follows : (List ℕ → List ℕ → Type 0) → (List ℕ → Type 0) → (List ℕ → Type 0) → Type 0
Follows step old new = (image : List ℕ) → new image → (before : List ℕ) × old before × step before image

-- a crash leaves this and nothing else
abbrev pub Only : List ℕ → (List ℕ → Type 0) → Type 0
Only content outcomes = (image : List ℕ) → outcomes image → image ≡ content

-- Time goes on: a crash since t might have left what it might have left before, or what it may leave now.
pub record Elapses (before now : ℕ) (past since : ℕ → List ℕ → Type 0) (may_leave : List ℕ → Type 0) : Type 0 where
  pub later : before ≤ now
  pub nothing_else : (t : ℕ) (image : List ℕ) → t ≤ before → since t image → past t image ⊎ may_leave image
  pub keeps : (t : ℕ) (image : List ℕ) → t ≤ before → past t image → since t image

-- What is stored, what a crash leaves and the clock are as before.
pub record IsUntouched {D : Type 0} (seen : D → List ℕ) (may_leave : D → List ℕ → Type 0) (moment : D → ℕ) (left_since : D → ℕ → List ℕ → Type 0)
    (old new : D) : Type 0 where
  pub content : seen new ≡ seen old
  pub crash : (image : List ℕ) → may_leave new image → may_leave old image
  pub clock : moment new ≡ moment old
  pub time : Elapses (moment old) (moment new) (left_since old) (left_since new) (may_leave new)

-- A crash at any moment since old leaves what has P.
pub record LeavesOnly {D : Type 0} (moment : D → ℕ) (left_since : D → ℕ → List ℕ → Type 0) (old new : D) (P : List ℕ → Type 0) : Type 0 where
  pub later : moment old ≤ moment new
  pub each : (image : List ℕ) → left_since new (moment old) image → P image
  -- for a run that began earlier
  pub before : (t : ℕ) (image : List ℕ) → t ≤ moment old → left_since new t image → left_since old t image ⊎ P image

-- A run of so many calls, the last but one of which makes a change, was cut short: what the last sync left is as it may be before the change; what a
-- read gives is so too, until the last call but one was made, and from then on it is what the change makes.
pub record StopsEarly {D : Type 0} (seen certain : D → List ℕ) (moment : D → ℕ) (calls : ℕ) (old new : D) (Before After : List ℕ → Type 0) : Type 0 where
  pub clock : moment new ≤ moment old + calls
  pub settled : Before (certain new)
  pub early : moment new + 2 ≤ moment old + calls → Before (seen new)
  pub late : moment old + calls < moment new + 2 → After (seen new)

-- a write that was cut short counts and was made, or it does not and nothing was written
abbrev pub IsWrittenOrNot : ℕ → ℕ → List ℕ → List ℕ → List ℕ → Type 0
IsWrittenOrNot before now old new changed = ((now ≡ before) × (new ≡ old)) ⊎ ((now ≡ before + 1) × (new ≡ changed))

-- what room there was is still there
abbrev pub KeepsRoom : (ℕ → ℕ → ℕ → Type 0) → (ℕ → ℕ → ℕ → Type 0) → Type 0
KeepsRoom old new = (calls bytes end : ℕ) → old calls bytes end → new calls bytes end

-- A call that takes one from the calls and n from the bytes that there is room for. Where there was room for it, memory is not refused.
pub record TakesRoom (n end : ℕ) (old new : ℕ → ℕ → ℕ → Type 0) (refused : Type 0) : Type 0 where
  pub left : (calls bytes limit : ℕ) → end ≤ limit → old (calls + 1) (bytes + n) limit → new calls bytes limit
  pub enough : (calls bytes limit : ℕ) → end ≤ limit → old (calls + 1) (bytes + n) limit → refused → ⊥
