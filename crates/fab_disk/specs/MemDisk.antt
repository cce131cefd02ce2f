-- What a clause sees of a disk in memory.
use Rattle.std.specs.Prelude.{◌≡◌, ◌⊎◌, ◌<◌, ◌-◌, ◌^◌, ℕ, List, length}
use Rattle.fab_disk.specs.Past.{Past, IsImage, HadImage}
use Rattle.fab_disk.specs.Settled.{rolled_back}
use Rattle.fab_disk.specs.Medium.{past, HasRoom}
use Rattle.fab_disk.specs.Stored.{shown}
use Rattle.fab_disk.specs.FailingCalls.{NoneLeft, FailsNext}
use Rattle.fab_disk.specs.Plan.{next_fate}
use Rattle.fab_disk.specs.declared.disk.Fate.TheVariants.{Goes, Fails}
use Rattle.fab_disk.specs.declared.disk.Plan.{Plan}
use Rattle.fab_disk.specs.declared.disk.Plan.TheVariants.{Never}
use Rattle.fab_disk.specs.declared.failing_calls.FailingCalls.{FailingCalls}
use Rattle.fab_disk.specs.declared.mem_disk.MemDisk.{MemDisk}

-- the bytes that a read gives
abbrev pub content_of : MemDisk → List ℕ
content_of disk = shown disk.medium.content

-- the calls that it remembers, the newest first
abbrev pub past_of_disk : MemDisk → List Past
past_of_disk disk = past disk.medium

-- what a crash at this moment may leave
abbrev pub may_be_left : MemDisk → List ℕ → Type 0
may_be_left disk image = IsImage (past_of_disk disk) (content_of disk) image

-- what the last sync left
abbrev pub certain_of : MemDisk → List ℕ
certain_of disk = rolled_back (past_of_disk disk) (content_of disk)

-- and what one at that moment or a later one might have left
abbrev pub was_left_since : MemDisk → ℕ → List ℕ → Type 0
was_left_since disk t image = HadImage (past_of_disk disk) (content_of disk) t image

-- how many calls it remembers
abbrev pub moment_of : MemDisk → ℕ
moment_of disk = length (past_of_disk disk)

-- what is to befall the coming calls that change the disk
abbrev pub plan_of : MemDisk → Plan
plan_of disk = disk.plan

-- each call that was listed to fail was made
abbrev pub is_unlisted : MemDisk → Type 0
is_unlisted disk = NoneLeft disk.failing

-- there is room for so many calls, with so many bytes in all and ends at most there
abbrev pub room_of : MemDisk → ℕ → ℕ → ℕ → Type 0
room_of disk calls bytes end = HasRoom disk.medium calls bytes end

-- no plan is armed, and no call that was listed to fail is left
pub record IsQuiet (plan : Plan) (failing : FailingCalls) : Type 0 where
  pub unplanned : plan ≡ Never
  pub unlisted : NoneLeft failing

-- nothing will make a call fail
abbrev pub IsSound : MemDisk → Type 0
IsSound disk = IsQuiet disk.plan disk.failing

-- the calls of these numbers are to fail, counted from the next one
pub record Lists (disk : MemDisk) (calls : List ℕ) : Type 0 where
  pub listed : disk.failing.listed.items ≡ calls
  pub made : disk.failing.made ≡ 0

-- the next call that changes the disk is to fail, and not to stop in its midst
abbrev pub FailsWhole : Plan → FailingCalls → Type 0
FailsWhole plan failing = (next_fate plan ≡ Fails) ⊎ ((next_fate plan ≡ Goes) × FailsNext failing × (failing.made < 2 ^ 64 - 1))

-- nothing is to befall the next call that changes the disk: its number is not the plan's, and no listed call is left
abbrev pub GoesOn : Plan → FailingCalls → Type 0
GoesOn plan failing = (next_fate plan ≡ Goes) × NoneLeft failing

-- the bytes that a read gives, and the calls that are remembered, are as before
pub record HoldsAsBefore (old new : MemDisk) : Type 0 where
  pub content : content_of new ≡ content_of old
  pub past : past_of_disk new ≡ past_of_disk old
