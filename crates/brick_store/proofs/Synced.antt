-- A store in which room in memory was made, and whose disk then was synced.
use Rattle.std.proofs.Common.{◌≡◌, ℕ, List, false, Result, Ok, Err}
use Rattle.std.specs.Result.{IsOk}
use Rattle.fab_disk.specs.declared.disk.Disk as on_disk
use Rattle.fab_disk.specs.Changing.{Still}
use Rattle.fab_disk.specs.Disk.{Elapses, Kept, Only}
use Rattle.fab_disk.specs.Plan.{IsRun}
use Rattle.frame_store.specs.declared.faults.FrameFault.{FrameFault}
use Rattle.frame_store.specs.declared.faults.FrameFault.TheVariants.{Disk}
use Rattle.frame_store.specs.Stores.{Held, IsRead, IsSame}

-- the answer of a call of the list that was made
abbrev pub done : Result (Unit {0}) FrameFault
done = Ok tt

-- It is the one that it was, and runs. The sync made one call, and a crash leaves what a read gives.
pub record IsSynced {D : Type 0} (d : on_disk.Ghosts D) (old mid held : Held D) : Type 0 where
  pub same : IsSame old held
  pub runs : held.halted ≡ false
  pub still : Still d old.disk mid.disk (done ≡ Err Disk)
  pub content : d.seen held.disk ≡ d.seen mid.disk
  pub time : Elapses (d.moment mid.disk) (d.moment held.disk) (d.left_since mid.disk) (d.left_since held.disk) (d.may_leave held.disk)
  pub crash : (image : List ℕ) → d.may_leave held.disk image → d.may_leave mid.disk image
  pub run : IsRun d.tells d.moment d.plan d.unlisted 1 mid.disk held.disk (IsOk done) (done ≡ Err Disk)
  pub cause : Kept (d.faults mid.disk) (d.faults held.disk) (d.sound mid.disk) (d.sound held.disk) (done ≡ Err Disk)
  pub only : d.tells → Only (d.seen held.disk) (d.may_leave held.disk)
  pub read : IsRead d.tells d.seen held
