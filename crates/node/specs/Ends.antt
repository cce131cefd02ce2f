-- How a step of a brick ends, and what it makes of the brick's disk.
use Rattle.std.specs.Prelude.{◌≡◌, false, Option, Result, Ok, Err}
use Rattle.fab_disk.specs.declared.disk.Disk as on_disk
use Rattle.fab_disk.specs.Changing.{End, Whole, Cut, NotBegun, Stands, Change}
use Rattle.brick_store.specs.Calls.{Append, calls_for, IsListedAfter}
use Rattle.brick_store.specs.Lengths.{ListsBy}
use Rattle.protocol.specs.Nodes as machine
use Rattle.node.specs.declared.faults.NodeFault.{NodeFault}
use Rattle.node.specs.declared.faults.NodeFault.TheVariants.{Disk}
use Rattle.node.specs.Running.{Running, state_of, shape_at, ImageShows}

-- how a step ended, by its answer: a fault of the disk cut it short, and any other came before the first call of the disk
abbrev pub end_of : {T : Type 0} → Result T NodeFault → End
end_of (Ok value) = Whole
end_of (Err Disk) = Cut
end_of (Err fault) = NotBegun

-- while the brick is not halted, what the machine sees of it stands on its disk
abbrev pub IsShown : {D : Type 0} → on_disk.Ghosts D → Running D → Type 0
IsShown d node = d.tells → node.brick.halted ≡ false → Stands d (ImageShows node.layout node.me (state_of node)) node.brick.disk

-- A step of a brick is one change of its disk, by what it appends to its store's list.
pub record StepChange {D : Type 0} (d : on_disk.Ghosts D) (append : Option Append) (kept : machine.Node) (old new : Running D) (end : End)
    : Type 0 where
  pub stood : IsShown d old
  -- what the disk shows is changed from what the machine saw to that with what the step keeps
  pub change : Change d (calls_for (shape_at old.layout old.me) old.brick.listed append) (ImageShows old.layout old.me (state_of old))
      (ImageShows old.layout old.me kept) old.brick.disk new.brick.disk end
  -- the list is longer by that, or as it was
  pub listed : ListsBy end (IsListedAfter (shape_at old.layout old.me) (state_of old).live old.brick.listed append) old.brick.listed new.brick.listed
  -- after a step that was made the machine sees what stands on the disk
  pub stands : end ≡ Whole → d.tells → Stands d (ImageShows old.layout old.me (state_of new)) new.brick.disk
