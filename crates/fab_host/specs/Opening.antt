-- What the calls of a host do to what it holds, where it tells that.
use Rattle.std.specs.Prelude.{◌≡◌, ℕ, ◌≤◌, List, [], ⊤, Option, Some, None, Result, Ok, Err}
use Rattle.fab_io.specs.Ends.{Rose}
use Rattle.fab_disk.specs.Disk.{Only}

-- a call that opens lent a thing that was here, or made one where it might, and at `Err` changed nothing
abbrev pub Lends : {H T E : Type 0} → Option H → Option H → (H → T → Type 0) → (H → H) → Result T E → Type 0
Lends None None gives lent_by r = ⊤
Lends None (Some after) gives lent_by r = ⊥
Lends (Some h) None gives lent_by r = ⊥
Lends (Some h) (Some after) gives lent_by (Ok thing) = gives h thing × (after ≡ lent_by h)
Lends (Some h) (Some after) gives lent_by (Err fault) = after ≡ h

-- a call that gives back changed what is held in this way
abbrev pub Regains : {H : Type 0} → Option H → Option H → (H → H) → Type 0
Regains None None kept_by = ⊤
Regains None (Some after) kept_by = ⊥
Regains (Some h) None kept_by = ⊥
Regains (Some h) (Some after) kept_by = after ≡ kept_by h

-- this is so of what is held, where that is told
abbrev pub WhereTold : {H : Type 0} → Option H → (H → Type 0) → Type 0
WhereTold None P = ⊤
WhereTold (Some h) P = P h

-- What a call that opens keeps: the count of faults never falls and rose if the call failed, and a sound host stays sound and
-- fails only where what it was asked for is wrong.
pub record OpeningKept (before now : ℕ) (sound sound_after failed wrong : Type 0) : Type 0 where
  pub later : before ≤ now
  pub rose : failed → Rose before now
  pub stays : sound → sound_after
  pub only : sound → failed → wrong

-- a disk that is empty, of which a crash leaves nothing
abbrev pub IsEmptyDisk : List ℕ → (List ℕ → Type 0) → Type 0
IsEmptyDisk seen may_leave = (seen ≡ []) × Only [] may_leave
