-- How a change of a store ended.
use Rattle.std.specs.Prelude.{ℕ, true, List, Option, Result, Ok, Err}
use Rattle.fab_disk.specs.declared.disk.Disk as on_disk
use Rattle.fab_disk.specs.Changing.{End, Whole, Cut, NotBegun, Change}
use Rattle.frame_store.specs.declared.frames.Frame.{Frame}
use Rattle.frame_store.specs.Images.{OpensAs, Lists, ListsWith, IsBroughtOver}
use Rattle.frame_store.specs.Stores.{Held}
use Rattle.frame_store.specs.declared.faults.FrameFault.{FrameFault}
use Rattle.frame_store.specs.declared.faults.FrameFault.TheVariants.{Disk}

-- how a change ended, by its answer: a fault of the disk cut it short, and any other came before the first call
abbrev pub end_of : {T : Type 0} → Result T FrameFault → End
end_of (Ok value) = Whole
end_of (Err Disk) = Cut
end_of (Err fault) = NotBegun

-- The list of a store is changed to these frames, with a block put in its slot if one is, by one change of its disk.
abbrev pub ListChange : {D : Type 0} → on_disk.Ghosts D → ℕ → Held D → List Frame → Option (ℕ × List ℕ) → D → End → Type 0
ListChange d calls s after put new end =
    Change d calls (Lists s.shape s.frames put (d.seen s.disk)) (ListsWith s.shape after put (d.seen s.disk)) s.disk new end

-- An old store is brought over with these frames and blocks, by one change of its disk of eight calls: until then the disk opens as the old list.
abbrev pub BringsOver : {D : Type 0} → on_disk.Ghosts D → Held D → List Frame → List ℕ → D → End → Type 0
BringsOver d s after blocks new end = Change d 8 (OpensAs s.shape s.frames true) (IsBroughtOver s.shape after blocks) s.disk new end
