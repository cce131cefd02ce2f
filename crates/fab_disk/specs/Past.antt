-- The past of a disk in memory, its newest call first, and what a crash may leave after it.
use Rattle.std.specs.Prelude.{◌≡◌, ◌≤◌, ◌⊎◌, ◌+◌, ◌-◌, ℕ, min, max, List, [], ◌∷◌, ◌++◌, length, take, drop, reverse}
use Rattle.std.specs.Coded.{×_prop, Unit-prop, le_prop}
use Rattle.fab_disk.specs.Disk.{Torn}
use Rattle.fab_disk.specs.declared.medium.Step.{Step}
use Rattle.fab_disk.specs.declared.medium.Step.TheVariants.{Wrote, Synced}

-- a write that can be undone: its range, the bytes that stood there before, and how long the content was
pub record PastWrite : Type 0 where
  pub at : ℕ
  pub len : ℕ
  pub before : List ℕ
  pub length_before : ℕ

-- a call that a disk remembers
pub data Past : Type 0 where
  wrote : PastWrite → Past
  synced : Past

-- the content before a write
abbrev pub undone : PastWrite → List ℕ → List ℕ
undone w content = take w.length_before (take w.at content ++ w.before ++ drop (w.at + length w.before) content)

-- What a crash may leave: what the last sync left, changed by each write since, each of which may be torn.
abbrev pub IsImage : List Past → List ℕ → List ℕ → Type 0
IsImage [] content image = image ≡ content
IsImage (synced ∷ older) content image = image ≡ content
IsImage (wrote w ∷ older) content image = (d : List ℕ) × IsImage older (undone w content) d × Torn w.at w.len d image

-- nothing that was written may still be lost
abbrev pub IsSettled : List Past → Type 0
IsSettled [] = Unit {0}
IsSettled (synced ∷ older) = Unit {0}
IsSettled (wrote w ∷ older) = ⊥

-- the content before the newest call
abbrev pub content_before : Past → List ℕ → List ℕ
content_before synced content = content
content_before (wrote w) content = undone w content

-- what a crash might have left at the moment after t calls, or at a later one
abbrev pub HadImage : List Past → List ℕ → ℕ → List ℕ → Type 0
HadImage [] content t image = IsImage [] content image
HadImage (call ∷ older) content t image =
    IsImage (call ∷ older) content image ⊎ ((t ≤ length older) × HadImage older (content_before call content) t image)

-- the lengths of a write fit a content that is this long after it
pub record IsPlaced (w : PastWrite) (size : ℕ) : Type 0 where
  pub no_more : length w.before ≤ w.len
  pub no_shorter : w.length_before ≤ size
  pub reach : w.at + w.len ≤ size
  pub within : w.at + length w.before ≤ size
  pub all_kept : min (w.at + w.len) w.length_before ≤ w.at + length w.before
  pub no_longer : size ≤ max w.length_before (w.at + w.len)

-- so do the lengths of all writes of a past
abbrev pub Fits : List Past → ℕ → Type 0
Fits [] size = Unit {0}
Fits (synced ∷ older) size = Fits older size
Fits (wrote w ∷ older) size = IsPlaced w size × Fits older w.length_before

IsPlaced-prop : (w : PastWrite) (size : ℕ) → IsProp (IsPlaced w size)
IsPlaced-prop w size = hlevel le_prop

pub Fits-prop : (past : List Past) (size : ℕ) → IsProp (Fits past size)
Fits-prop [] size = Unit-prop
Fits-prop (synced ∷ older) size = Fits-prop older size
Fits-prop (wrote w ∷ older) size = ×_prop (IsPlaced-prop w size) (Fits-prop older w.length_before)

-- The past that steps tell, the newest of them first; the bytes that stood there before lie one after the other, the newest last.
abbrev pub past_of : List Step → List ℕ → List Past
past_of [] saved = []
past_of (Synced ∷ steps) saved = synced ∷ past_of steps saved
past_of (Wrote w ∷ steps) saved =
    wrote (record { at = w.at; len = w.len; before = drop (length saved - w.kept) saved; length_before = w.length_before })
    ∷ past_of steps (take (length saved - w.kept) saved)

-- the past that steps tell in the order in which they were made
abbrev pub past_in : List Step → List ℕ → List Past
past_in steps saved = past_of (reverse steps) saved
