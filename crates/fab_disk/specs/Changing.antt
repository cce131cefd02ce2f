-- A change of a disk by a run of calls: what each moment of it leaves, what it makes, and what is left where it is cut short.
use Rattle.std.specs.Prelude.{◌≡◌, ◌⊎◌, ℕ, List}
use Rattle.fab_disk.specs.declared.disk.Disk as on_disk
use Rattle.fab_disk.specs.Disk.{Only, IsUntouched, LeavesOnly, StopsEarly, Kept}
use Rattle.fab_disk.specs.Plan.{IsRun, KeepsPlan}

-- how a run of calls ended: all of them were made, one of them failed, or none was made
pub data End : Type 0 where
  Whole : End
  Cut : End
  NotBegun : End

-- nothing is told of an image
abbrev pub IsAny : List ℕ → Type 0
IsAny image = Unit {0}

module _ {D : Type 0} (d : on_disk.Ghosts D) where
  -- a crash leaves what a read gives, and that is so
  pub record Stands (P : List ℕ → Type 0) (disk : D) : Type 0 where
    pub only : Only (d.seen disk) (d.may_leave disk)
    pub has : P (d.seen disk)

  -- A call that makes none of `write_at` and `sync`: it changes nothing.
  pub record Still (old new : D) (failed : Type 0) : Type 0 where
    pub untouched : IsUntouched d.seen d.may_leave d.moment d.left_since old new
    pub plan : KeepsPlan d.plan d.unlisted old new failed
    pub cause : Kept (d.faults old) (d.faults new) (d.sound old) (d.sound new) failed

  -- A run of so many calls, the last but one of which makes a change. Where the disk stands as before it, at each moment each image is as it may be
  -- during it.
  pub record Run (calls : ℕ) (Before During After : List ℕ → Type 0) (old new : D) (end : End) : Type 0 where
    pub moments : d.tells → Stands Before old → LeavesOnly d.moment d.left_since old new During
    pub whole : end ≡ Whole → d.tells → Stands After new
    pub cut : end ≡ Cut → d.tells → Stands Before old → StopsEarly d.seen d.certain d.moment calls old new Before After
    pub not_begun : end ≡ NotBegun → IsUntouched d.seen d.may_leave d.moment d.left_since old new
    pub run : IsRun d.tells d.moment d.plan d.unlisted calls old new (end ≡ Whole) (end ≡ Cut)
    pub cause : Kept (d.faults old) (d.faults new) (d.sound old) (d.sound new) (end ≡ Cut)

  -- One change of so many calls: at each moment each image is as before it or as after it.
  abbrev pub Change : ℕ → (List ℕ → Type 0) → (List ℕ → Type 0) → D → D → End → Type 0
  Change calls Before After old new end = Run calls Before (λ image. Before image ⊎ After image) After old new end
