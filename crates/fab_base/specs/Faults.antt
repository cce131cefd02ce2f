-- Why a call of something outside failed, and what its count of faults says of that.
use Rattle.std.specs.Prelude.{◌⊎◌, ℕ, ◌-◌, ◌<◌, ◌≤◌, ◌^◌, List, codes}
use Rattle.fab_base.specs.declared.faults.IoFault.{IoFault}
use Rattle.fab_base.specs.declared.faults.IoFault.TheVariants.{Failed, NoMemory}

-- the text of a fault
abbrev pub io_fault_text : IoFault → List ℕ
io_fault_text Failed = codes "input or output failed"
io_fault_text NoMemory = codes "out of memory"

-- a count of faults rose; one that stands at the greatest `u64` stays there, and counts as risen
abbrev pub Rose : ℕ → ℕ → Type 0
Rose before now = (before < now) ⊎ (2 ^ 64 - 1 ≤ now)

-- What a call, or a run of calls, does to a count of faults and to soundness: it fails only if the count rose, and over
-- a sound thing it does not fail and leaves it sound.
pub record Kept (before now : ℕ) (sound sound_after failed : Type 0) : Type 0 where
  pub later : before ≤ now
  pub rose : failed → Rose before now
  pub stays : sound → sound_after
  pub never : sound → failed → ⊥
