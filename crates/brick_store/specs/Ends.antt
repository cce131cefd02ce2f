-- How a change of a brick's store ended, and what the disk holds at each moment of it.
use Rattle.std.specs.Prelude.{ℕ, List, Option, Result, Ok, Err}
use Rattle.fab_disk.specs.declared.disk.Disk as on_disk
use Rattle.fab_disk.specs.Changing.{End, Whole, Cut, NotBegun, Change}
use Rattle.frame_store.specs.Stores.{Held}
use Rattle.version_log.specs.Versions.{Version}
use Rattle.brick_state.specs.Entries.{Entry}
use Rattle.brick_state.specs.States.{StateOf}
use Rattle.brick_store.specs.declared.faults.StoreFault.{StoreFault}
use Rattle.brick_store.specs.declared.faults.StoreFault.TheVariants.{Disk}
use Rattle.brick_store.specs.Bricks.{Brick}
use Rattle.brick_store.specs.Images.{StandsFor}
use Rattle.brick_store.specs.Steps.{IsUnchanged, IsChanged}

-- how a change ended, by its answer: a fault of the disk cut it short, and any other came before the first call
abbrev pub end_of : {T : Type 0} → Result T StoreFault → End
end_of (Ok value) = Whole
end_of (Err Disk) = Cut
end_of (Err fault) = NotBegun

-- What a list of frames leads to is changed from one state to another, with a block put in its slot if one is, by one change of its disk.
abbrev pub StateChange : {D : Type 0} → on_disk.Ghosts D → ℕ → Held D → Option (ℕ × List ℕ) → StateOf Entry → StateOf Entry → D → End → Type 0
StateChange d calls s put before after new end =
    Change d calls (IsUnchanged s.shape put before (d.seen s.disk)) (IsChanged s.shape put after (d.seen s.disk)) s.disk new end

-- What a store keeps is changed to this state, by one change of its disk.
abbrev pub BrickChange : {D : Type 0} → on_disk.Ghosts D → ℕ → Brick D → StateOf Version → D → End → Type 0
BrickChange d calls store after new end = Change d calls (StandsFor store.shape store.state) (StandsFor store.shape after) store.disk new end
