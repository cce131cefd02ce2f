-- One change of a store's list of frames.
use Rattle.std.specs.Prelude.{◌≡◌, ◌≢◌, ◌⊎◌, ◌+◌, ◌<◌, ℕ, Bool, true, false, Option, Some, None, unwrap_or, List, length, Result, Err, OnOk, OnErr}
use Rattle.fab_disk.specs.declared.disk.Disk as on_disk
use Rattle.fab_disk.specs.Disk.{Only}
use Rattle.frame_store.specs.declared.frames.Frame.{Frame}
use Rattle.frame_store.specs.declared.shapes.Shape.{Shape}
use Rattle.frame_store.specs.Images.{OpensAs, StandsIn, KeepsSlots}
use Rattle.frame_store.specs.Stores.{Held, IsRead, IsSame, HasNow, IsAnswer, Shows, HasRoom}
use Rattle.frame_store.specs.Ends.{end_of, ListChange}
use Rattle.frame_store.specs.declared.faults.FrameFault.{FrameFault}
use Rattle.frame_store.specs.Layouts.{IsShape, is_old}
use Rattle.frame_store.specs.Listed.{size_of}
use Rattle.brick_state.specs.declared.records.Record.{Record}
use Rattle.brick_state.specs.declared.records.Record.TheVariants as forms
use Rattle.stamp_store.specs.Spelling.{HasMembers}
use Rattle.brick_state.specs.Entries.{Entry}
use Rattle.brick_state.specs.States.{StateOf, empty}
use Rattle.brick_state.specs.Folds.{Limits, applied, folded}
use Rattle.brick_state.specs.KeptStates.{IsKeptState}
use Rattle.std.specs.List.{AllByRecursion}
use Rattle.brick_store.specs.declared.faults.StoreFault.{StoreFault}
use Rattle.brick_store.specs.declared.faults.StoreFault.TheVariants.{Disk, Full, Halted, NoMemory}
use Rattle.brick_store.specs.Bricks.{halted_after}
use Rattle.brick_store.specs.Images.{records_of, limits_of}
use Rattle.brick_store.specs.Standing.{GroupHasMembers, Leads, IsIndexed}

-- no list of members in a record is empty
abbrev pub RecordHasMembers : Record → Type 0
RecordHasMembers (forms.Kept kept) = HasMembers kept
RecordHasMembers (forms.Logged logged) = Unit {0}

-- what a record makes of a state
unfoldable pub changed : Limits → Record → StateOf Entry → StateOf Entry
changed limits r st = unwrap_or (applied limits r st) st

-- the image opens as frames that lead to this state
pub record LeadsTo (shape : Shape) (st : StateOf Entry) (image : List ℕ) : Type 0 where
  pub frames : List Frame
  pub opens : OpensAs shape frames true image
  pub leads : Leads (limits_of shape) frames empty st

-- The image is that of a store before a change: it opens as this state, and no slot differs but the one that the block is put in.
pub record IsUnchanged (shape : Shape) (put : Option (ℕ × List ℕ)) (st : StateOf Entry) (content image : List ℕ) : Type 0 where
  pub opens : LeadsTo shape st image
  pub slots : KeepsSlots shape put content image

-- after it: and the block stands in its slot
pub record IsChanged (shape : Shape) (put : Option (ℕ × List ℕ)) (st : StateOf Entry) (content image : List ℕ) : Type 0 where
  pub opens : LeadsTo shape st image
  pub stands : StandsIn shape put image
  pub slots : KeepsSlots shape put content image

-- a block that is put in a slot
abbrev pub put_in : ℕ → List ℕ → ℕ × List ℕ
put_in slot block = (slot, block)

-- the slot is one of the store's, and the block is as long as each
abbrev pub FitsSlot : Shape → Option (ℕ × List ℕ) → Type 0
FitsSlot shape None = Unit {0}
FitsSlot shape (Some put) = (put.0 < shape.records) × (length put.1 ≡ shape.block)

module _ {D : Type 0} (d : on_disk.Ghosts D) where
  -- A call made the list these frames, with a block put in its slot if one is, or was refused and left the list as it was.
  pub record ListAnswer (calls : ℕ) (listed : List Frame) (put : Option (ℕ × List ℕ)) (old new : Held D) (result : Result (Unit {0}) FrameFault)
      : Type 0 where
    pub change : ListChange d calls old listed put new.disk (end_of result)
    pub ok : OnOk result (HasNow listed old new)
    pub answer : IsAnswer old.halted new.halted result
    pub refused : OnErr result (IsSame old new)
    pub read : IsRead d.tells d.seen new

  -- a crash leaves what a read gives, which opens as the frames, with a closed gate behind them
  pub record IsSettled (frames : Held D) : Type 0 where
    pub only : Only (d.seen frames.disk) (d.may_leave frames.disk)
    pub shows : Shows d.seen frames
    pub closed : frames.closed ≡ true

  -- A store can be changed: it is not halted and of the new format, its frames lead to this state, and its disk holds them.
  pub record CanChange (before : StateOf Entry) (old : Held D) : Type 0 where
    pub runs : old.halted ≡ false
    pub slotted : is_old old.shape ≡ false
    pub leads : Leads (limits_of old.shape) old.frames empty before
    pub settled : d.tells → IsSettled old

  -- And so can the index that is kept of it.
  pub record CanCommit (limits : Limits) (st : StateOf Entry) (frames : Held D) : Type 0 where
    pub may : CanChange st frames
    pub shape : IsShape frames.shape
    pub indexed : IsIndexed frames.shape frames.frames limits st

  -- A store of the new format that was read: it is not halted, its frames make what the index keeps, and that is sound.
  pub record IsReadAs (limits : Limits) (st : StateOf Entry) (frames : Held D) : Type 0 where
    pub shape : IsShape frames.shape
    pub slotted : is_old frames.shape ≡ false
    pub runs : frames.halted ≡ false
    pub read : IsRead d.tells d.seen frames
    pub limits_are : limits ≡ limits_of frames.shape
    pub kept : IsKeptState (limits_of frames.shape) st
    pub members : AllByRecursion GroupHasMembers st.groups
    pub found : folded (limits_of frames.shape) (records_of frames.frames) empty ≡ st

  -- The frames lead to the state after a change, and are as many bytes as is said of it, or to the one before it where the call refused it: it answers
  -- Disk, which halts the store, or NoMemory.
  pub record Step (before after : StateOf Entry) (Listed : ℕ → Type 0) (old new : Held D) (result : Result (Unit {0}) StoreFault) : Type 0 where
    pub shape : new.shape ≡ old.shape
    pub listed : OnOk result (Listed (size_of new.frames))
    pub as_long : result ≡ Err NoMemory → size_of new.frames ≡ size_of old.frames
    pub made : OnOk result (Leads (limits_of old.shape) new.frames empty after)
    pub not_made : OnErr result (Leads (limits_of old.shape) new.frames empty before)
    pub closed : old.closed ≡ true → new.closed ≡ true
    pub only : OnErr result ((result ≡ Err Disk) ⊎ (result ≡ Err NoMemory))
    pub shows : d.tells → new.halted ≡ false → Shows d.seen new
    pub halts : new.halted ≡ halted_after false result

-- the answer of a call that is not tried: Halted where the store is, else Full where the change adds a record and there are
-- as many as there may be
abbrev pub IsRefused : Bool → Bool → ℕ → ℕ → Result (Unit {0}) StoreFault → Type 0
IsRefused halted adds records live result =
    ((halted ≡ true) × (result ≡ Err Halted)) ⊎ ((halted ≡ false) × (adds ≡ true) × (live ≡ records) × (result ≡ Err (Full live)))

-- nothing is refused for the number of records
abbrev pub IsNotFull : Result (Unit {0}) StoreFault → Type 0
IsNotFull result = (n : ℕ) → result ≢ Err (Full n)

-- room for one append
abbrev pub HasAppendRoom : {D : Type 0} → (D → ℕ → ℕ → ℕ → Type 0) → Held D → ℕ → Type 0
HasAppendRoom has_room frames body = HasRoom has_room frames 5 (frames.shape.block + body + 7) (body + 6)
