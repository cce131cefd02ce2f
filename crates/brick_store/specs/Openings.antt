-- What an opening reads.
use Rattle.std.specs.Prelude.{Result, Ok, Err, ◌≡◌, ◌⊎◌, ℕ, ◌+◌, ◌-◌, ◌<◌, ◌≤◌, ◌^◌, ◌==◌, Bool, not, ◌&&◌, if◌then◌else◌, true, false, Option, Some, None, IsSome, option_and_then, List, [], ◌∷◌, ◌++◌, length, IsOk}
use Rattle.fab_base.specs.declared.faults.IoFault.{IoFault}
use Rattle.fab_base.specs.declared.faults.NoMem.{NoMem}
use Rattle.fab_base.specs.declared.faults.IoFault.TheVariants.{Failed}
use Rattle.fab_base.specs.declared.faults.IoFault.TheVariants as writes
use Rattle.fab_disk.specs.declared.disk.Disk as on_disk
use Rattle.fab_disk.specs.Disk.{IsUntouched, LeavesOnly, Kept}
use Rattle.fab_disk.specs.Plan.{IsRun}
use Rattle.fab_disk.specs.Changing.{End, Whole, Cut, NotBegun}
use Rattle.frame_store.specs.declared.shapes.Form.{Form}
use Rattle.frame_store.specs.declared.shapes.Form.TheVariants.{New}
use Rattle.frame_store.specs.declared.shapes.Shape.{Shape}
use Rattle.frame_store.specs.Layouts.{formed, is_old}
use Rattle.frame_store.specs.Listed.{size_of}
use Rattle.version_log.specs.Versions.{Version}
use Rattle.brick_store.specs.BlockTables.{SlotBlocks, block_under}
use Rattle.brick_store.specs.declared.faults.OpenFault.{OpenFault}
use Rattle.brick_store.specs.declared.faults.OpenFault.TheVariants.{Disk}
use Rattle.brick_store.specs.Bricks.{Brick}
use Rattle.brick_store.specs.Calls.{has_room_for, is_appendable, opening_calls, calls_to_open}
use Rattle.brick_store.specs.Lengths.{IsAppended}
use Rattle.brick_store.specs.Sizes.{boot_size}
use Rattle.frame_store.specs.declared.faults.FrameFault.{FrameFault}
use Rattle.frame_store.specs.declared.faults.FrameFault.TheVariants as lists
use Rattle.frame_store.specs.Stores.{Held}
use Rattle.frame_store.specs.Images.{HasSlot, OpensAs, KeepsSlots, block_in}
use Rattle.frame_store.specs.declared.frames.Frame.{Frame}
use Rattle.brick_state.specs.declared.records.Record.{Record}
use Rattle.brick_state.specs.Entries.{Entry}
use Rattle.brick_state.specs.States.{StateOf, empty, booted}
use Rattle.brick_state.specs.Folds.{Limits, applied, folded}
use Rattle.brick_state.specs.KeptStates.{IsKeptState}
use Rattle.brick_store.specs.Blocks.{cached, resolved}
use Rattle.brick_store.specs.Images.{record_of, records_of, limits_for, limits_of, IsFound, StandsFor, StandsForEither}
use Rattle.brick_store.specs.OldLists.{old_taken, old_state_in, OldLeads}
use Rattle.brick_store.specs.Standing.{AllSlots, GroupHasMembers, IsCached, IsStored, Leads}
use Rattle.std.specs.List.{AllByRecursion}

-- the frame is a record that leads from one state to the other
pub record IsTaken (limits : Limits) (frame : Frame) (old new : StateOf Entry) : Type 0 where
  pub read : Record
  pub is : record_of frame ≡ Some read
  pub leads : applied limits read old ≡ Some new

-- what a frame makes of a state: nothing where it is no record, or one that can't be
abbrev pub taken_by : Limits → Frame → StateOf Entry → Option (StateOf Entry)
taken_by limits frame st = option_and_then (λ read. applied limits read st) (record_of frame)

abbrev pub goes_on : Option (StateOf Entry) → (StateOf Entry → Bool) → Bool
goes_on None more = false
goes_on (Some st) more = more st

-- each of these frames is a record that can be
unfoldable pub is_whole : Limits → List Frame → StateOf Entry → Bool
is_whole limits [] st = true
is_whole limits (frame ∷ frames) st = goes_on (taken_by limits frame st) (is_whole limits frames)

-- the frame, and what comes after it, changes nothing
pub record EndsBefore (limits : Limits) (frame : Frame) (old new : StateOf Entry) : Type 0 where
  pub same : new ≡ old
  pub never : taken_by limits frame old ≡ None
  pub ends : (rest : List Frame) → folded limits (records_of (frame ∷ rest)) old ≡ old

-- What taking a frame came to: it was taken, or the list ends before it, or memory was refused.
pub record TakesOrEnds (limits : Limits) (frame : Frame) (old new : StateOf Entry) (answer : Result Bool NoMem) : Type 0 where
  pub taken : answer ≡ Ok true → IsTaken limits frame old new
  pub ended : answer ≡ Ok false → EndsBefore limits frame old new
  pub members : IsOk answer → AllByRecursion GroupHasMembers old.groups → AllByRecursion GroupHasMembers new.groups

-- What these frames make of a brick that keeps nothing is this state, and whole says whether each of them counts.
pub record IsFold (limits : Limits) (frames : List Frame) (st : StateOf Entry) (whole : Bool) : Type 0 where
  pub found : folded limits (records_of frames) empty ≡ st
  pub whole_is : whole ≡ is_whole limits frames empty
  pub leads : whole ≡ true → Leads limits frames empty st
  pub members : AllByRecursion GroupHasMembers st.groups

-- What these frames of the old format make is this state, with the blocks that are held in memory under its numbers. One number more than live records is enough:
-- a version that takes the place of all below it in a full store has one of its own before they are dropped.
abbrev pub memory_limits : ℕ → Limits
memory_limits records = record { records = records; slots = records + 1 }

-- those of a list that is of the old format or not
abbrev pub limits_by : Bool → ℕ → Limits
limits_by old records = if old then memory_limits records else limits_for records

pub record IsOldFold (size records : ℕ) (frames : List Frame) (st : StateOf Entry) (blocks : SlotBlocks) (whole : Bool) : Type 0 where
  pub found : old_state_in size records frames ≡ resolved (cached size blocks) st
  pub leads : whole ≡ true → OldLeads size records frames empty (resolved (cached size blocks) st)
  pub ended : whole ≡ false → (rest : List Frame) → old_state_in size records (frames ++ rest) ≡ resolved (cached size blocks) st
  pub kept : IsKeptState (memory_limits records) st
  pub held : AllSlots (IsCached size blocks) st
  pub members : AllByRecursion GroupHasMembers st.groups

-- the answer of a change: it was made, or it can't be
abbrev pub OldAnswers : StateOf Version → StateOf Version → Option (StateOf Version) → Bool → Type 0
OldAnswers old now None answer = (answer ≡ false) × (now ≡ old)
OldAnswers old now (Some st) answer = (answer ≡ true) × (now ≡ st)

-- What taking a frame of the old format came to: it makes of the state with its blocks what it is to make, or ends the list.
pub record TakesOld (size records : ℕ) (frame : Frame) (old new : StateOf Entry) (blocks_old blocks_new : SlotBlocks) (taken : Bool) : Type 0 where
  pub answers : OldAnswers (resolved (cached size blocks_old) old) (resolved (cached size blocks_new) new)
      (old_taken size records frame (resolved (cached size blocks_old) old)) taken
  pub kept : IsKeptState (memory_limits records) new
  pub held : AllSlots (IsCached size blocks_new) new
  pub members : AllByRecursion GroupHasMembers old.groups → AllByRecursion GroupHasMembers new.groups

-- What taking these frames, of the old format or not, came to: the state in memory is what they make.
abbrev pub Makes : ℕ → ℕ → Bool → List Frame → Limits → StateOf Entry → SlotBlocks → Bool → Type 0
Makes size records false frames limits st blocks whole = (limits ≡ limits_for records) × IsFold (limits_for records) frames st whole
Makes size records true frames limits st blocks whole = (limits ≡ memory_limits records) × IsOldFold size records frames st blocks whole

-- the block in the slot is held in memory; that of the zero block need not be
abbrev pub IsHeld : SlotBlocks → ℕ → Type 0
IsHeld blocks slot = ((slot == 4294967295) ≡ true) ⊎ IsSome (block_under blocks slot)

-- a block that was read from a slot of a file of this size, and of this content where that is told
pub record IsReadFrom (tells : Type 0) (shape : Shape) (size : ℕ) (content : List ℕ) (slot : ℕ) (bytes : List ℕ) : Type 0 where
  pub has : HasSlot shape size slot
  pub len : length bytes ≡ shape.block
  pub told : tells → bytes ≡ block_in shape slot content

abbrev pub AreRead : Type 0 → Shape → ℕ → List ℕ → SlotBlocks → Type 0
AreRead tells shape size content blocks = (slot : ℕ) (bytes : List ℕ) → block_under blocks slot ≡ Some bytes
    → IsReadFrom tells shape size content slot bytes

-- the slot is that of the zero block, or one of the file's
abbrev pub IsInside : Shape → ℕ → ℕ → Type 0
IsInside shape size slot = ((slot == 4294967295) ≡ true) ⊎ HasSlot shape size slot

-- At a moment of an opening the image opens as frames of this state, and the slots hold what they held.
pub record IsKeptIn (shape : Shape) (st : StateOf Entry) (content image : List ℕ) : Type 0 where
  pub frames : List Frame
  pub opens : OpensAs shape frames true image
  pub state : folded (limits_of shape) (records_of frames) empty ≡ st
  pub slots : KeepsSlots shape None content image

-- the disk allowed the image before, or it has P
abbrev pub IsAllowedOr : (List ℕ → Type 0) → (List ℕ → Type 0) → List ℕ → Type 0
IsAllowedOr allowed P image = allowed image ⊎ P image

-- An opening of so many calls was cut short: what the last sync left is as it was, where that was one before the opening, or it is the store that was
-- found. What a read gives is that store until the last call but one was made, and from then on the store with the opening counted.
pub record StopsOpening {D : Type 0} (seen certain : D → List ℕ) (moment : D → ℕ) (calls : ℕ) (old new : D) (Before After : List ℕ → Type 0)
    : Type 0 where
  pub clock : moment new ≤ moment old + calls
  pub settled : (certain new ≡ certain old) ⊎ Before (certain new)
  pub early : moment new + 2 ≤ moment old + calls → Before (seen new)
  pub late : moment old + calls < moment new + 2 → After (seen new)

-- The list was being made ready for the count, by so many calls, when that was cut short.
pub record StopsReadying {D : Type 0} (seen certain : D → List ℕ) (moment : D → ℕ) (calls : ℕ) (old new : D) (Before : List ℕ → Type 0) : Type 0 where
  pub clock : moment new ≤ moment old + calls
  pub settled : (certain new ≡ certain old) ⊎ Before (certain new)
  pub same : Before (seen new)

-- What an opening read: the index is what is made of the frames, and the blocks of its versions are in memory.
pub record IsLoaded (tells : Type 0) (shape : Shape) (frames : List Frame) (content : List ℕ) (limits : Limits) (st : StateOf Entry) (whole : Bool)
    (blocks : SlotBlocks) : Type 0 where
  pub limits_are : limits ≡ limits_of shape
  pub fold : IsFold (limits_of shape) frames st whole
  pub kept : IsKeptState (limits_of shape) st
  pub held : AllSlots (IsCached shape.block blocks) st
  pub stored : tells → AllSlots (IsStored shape blocks content) st
  pub boots : st.boot < 2 ^ 32 - 1

-- as the one state, or as the other
abbrev pub IsKeptInEither : Shape → StateOf Entry → StateOf Entry → List ℕ → List ℕ → Type 0
IsKeptInEither shape before after content image = IsKeptIn shape before content image ⊎ IsKeptIn shape after content image

-- what frames make of a brick that keeps nothing
abbrev pub found_in : Shape → List Frame → StateOf Entry
found_in shape frames = folded (limits_of shape) (records_of frames) empty

-- The list that these frames make can be appended to: it is of the new format, each of them counts, a closed gate stands behind the last one, and the half
-- has room for the count of an opening.
abbrev pub opens_appendable : Shape → List Frame → Bool → Bool
opens_appendable shape frames closed =
    not (is_old shape) && ((is_whole (limits_of shape) frames empty && closed) && has_room_for shape (size_of frames) boot_size)

-- so many calls of the disk open a store that holds these frames
abbrev pub calls_on_opening : Shape → List Frame → Bool → ℕ
calls_on_opening shape frames closed = calls_to_open shape (opens_appendable shape frames closed)

-- The list of a store of so many live records, once this image was opened: the list that the image holds, with the count of the opening appended. That of an
-- old store was written anew.
abbrev pub IsListedOnOpening : Shape → List ℕ → ℕ → ℕ → Type 0
IsListedOnOpening shape image live listed = (form : Form) (frames : List Frame) (closed : Bool) → OpensAs (formed form shape) frames closed image
    → IsAppended (opens_appendable (formed form shape) frames closed) live (size_of frames) boot_size listed

-- the disk that is in the answer of an opening
abbrev pub disk_in : {D : Type 0} → Result (Brick D) (OpenFault × D) → D
disk_in (Ok store) = store.disk
disk_in (Err refused) = refused.1

-- how an opening ended, by its fault or its answer: a fault of the disk cut it short, and any other came before the first call
abbrev pub stopped_by : OpenFault → End
stopped_by Disk = Cut
stopped_by fault = NotBegun

abbrev pub opening_end : {T : Type 0} → Result T OpenFault → End
opening_end (Ok value) = Whole
opening_end (Err fault) = stopped_by fault

abbrev pub end_in : {D : Type 0} → Result (Brick D) (OpenFault × D) → End
end_in (Ok store) = Whole
end_in (Err refused) = stopped_by refused.0

-- how a format ended, by its answer, and its fault by that of its list
abbrev pub making_end : Result (Unit {0}) IoFault → End
making_end (Ok value) = Whole
making_end (Err Failed) = Cut
making_end (Err writes.NoMemory) = NotBegun

abbrev pub write_fault_of : FrameFault → IoFault
write_fault_of lists.NoMemory = writes.NoMemory
write_fault_of fault = Failed

-- The image held a store that was not worn, and this is its state with the opening counted.
pub record IsCounted (shape : Shape) (image : List ℕ) (now : StateOf Version) : Type 0 where
  pub before : StateOf Version
  pub found : IsFound shape before image
  pub not_worn : before.boot < 2 ^ 32 - 1
  pub counted : now ≡ booted (before.boot + 1) before

-- The image held a store that was opened as often as it can be.
pub record IsWornOut (shape : Shape) (image : List ℕ) : Type 0 where
  pub before : StateOf Version
  pub found : IsFound shape before image
  pub worn : before.boot ≡ 2 ^ 32 - 1

module _ {D : Type 0} (d : on_disk.Ghosts D) where
  -- The list of a store that was read was made ready for the count of an opening, by so many calls and by how that ended: it still makes this state.
  pub record Readies (calls : ℕ) (st : StateOf Entry) (old : Held D) (new : D) (end : End) : Type 0 where
    pub moments : d.tells → old.closed ≡ true → LeavesOnly d.moment d.left_since old.disk new
        (IsAllowedOr (d.may_leave old.disk) (IsKeptIn old.shape st (d.seen old.disk)))
    pub run : IsRun d.tells d.moment d.plan d.unlisted calls old.disk new (end ≡ Whole) (end ≡ Cut)
    pub cut : end ≡ Cut → d.tells → d.unlisted old.disk → old.closed ≡ true
        → StopsReadying d.seen d.certain d.moment calls old.disk new (IsKeptIn old.shape st (d.seen old.disk))
    pub not_begun : end ≡ NotBegun → IsUntouched d.seen d.may_leave d.moment d.left_since old.disk new
    pub cause : Kept (d.faults old.disk) (d.faults new) (d.sound old.disk) (d.sound new) (end ≡ Cut)

  -- An opening of a store that was read, by how it ended: its list makes this state, and whole says whether each frame of it counts.
  pub record Starts (whole : Bool) (st : StateOf Entry) (old : Held D) (new : D) (end : End) : Type 0 where
    pub moments : d.tells → old.closed ≡ true → LeavesOnly d.moment d.left_since old.disk new
        (IsAllowedOr (d.may_leave old.disk) (IsKeptInEither old.shape st (booted (st.boot + 1) st) (d.seen old.disk)))
    pub run : IsRun d.tells d.moment d.plan d.unlisted (opening_calls (is_appendable whole old boot_size)) old.disk new (end ≡ Whole) (end ≡ Cut)
    pub not_worn : end ≡ Cut → d.unlisted old.disk → st.boot < 2 ^ 32 - 1
    pub cut : end ≡ Cut → d.tells → d.unlisted old.disk → old.closed ≡ true
        → StopsOpening d.seen d.certain d.moment (opening_calls (is_appendable whole old boot_size)) old.disk new
        (IsKeptIn old.shape st (d.seen old.disk)) (IsKeptIn old.shape (booted (st.boot + 1) st) (d.seen old.disk))
    pub not_begun : end ≡ NotBegun → IsUntouched d.seen d.may_leave d.moment d.left_since old.disk new
    pub cause : Kept (d.faults old.disk) (d.faults new) (d.sound old.disk) (d.sound new) (end ≡ Cut)

  -- An old store that was read was brought over and counted, by how that ended: until the new gate is open, each image opens as this state.
  pub record StartsOver (st : StateOf Version) (old : Held D) (new : D) (end : End) : Type 0 where
    pub moments : d.tells → old.closed ≡ true → LeavesOnly d.moment d.left_since old.disk new
        (IsAllowedOr (d.may_leave old.disk) (StandsForEither (formed New old.shape) st (booted (st.boot + 1) st)))
    pub run : IsRun d.tells d.moment d.plan d.unlisted 13 old.disk new (end ≡ Whole) (end ≡ Cut)
    pub not_worn : end ≡ Cut → d.unlisted old.disk → st.boot < 2 ^ 32 - 1
    pub cut : end ≡ Cut → d.tells → d.unlisted old.disk → old.closed ≡ true
        → StopsOpening d.seen d.certain d.moment 13 old.disk new (StandsFor (formed New old.shape) st)
        (StandsFor (formed New old.shape) (booted (st.boot + 1) st))
    pub not_begun : end ≡ NotBegun → IsUntouched d.seen d.may_leave d.moment d.left_since old.disk new
    pub cause : Kept (d.faults old.disk) (d.faults new) (d.sound old.disk) (d.sound new) (end ≡ Cut)

  -- An opening of a disk, by how it ended. What its images show is told of a list with a closed gate behind it, as each list has that a store wrote:
  -- while another one is rewritten the file grows, and what a crash leaves behind the old end may count as frames.
  pub record Opens (shape : Shape) (old new : D) (end : End) : Type 0 where
    -- At each moment each image is one that the disk allowed before, or opens as the state before or after.
    pub moments : d.tells → (st : StateOf Version) → StandsFor shape st (d.seen old) → LeavesOnly d.moment d.left_since old new
        (IsAllowedOr (d.may_leave old) (StandsForEither shape st (booted (st.boot + 1) st)))
    -- Five calls of `write_at` and `sync`, or twelve, as the list of frames is that the disk holds, and thirteen of an old store.
    pub run : d.tells → (form : Form) (frames : List Frame) (closed : Bool) → OpensAs (formed form shape) frames closed (d.seen old)
        → IsRun d.tells d.moment d.plan d.unlisted (calls_on_opening (formed form shape) frames closed) old new (end ≡ Whole) (end ≡ Cut)
    -- Cut short where no fault is listed, there was a store that was not worn. An opening reads first, and a listed call may fail it before it writes.
    pub not_worn : end ≡ Cut → d.tells → d.unlisted old → (st : StateOf Version) → StandsFor shape st (d.seen old) → st.boot < 2 ^ 32 - 1
    -- What a read gives is then as it was until the last call but one, and then the store with the opening counted.
    pub cut : end ≡ Cut → d.tells → d.unlisted old
        → (form : Form) (frames : List Frame) (closed : Bool) → OpensAs (formed form shape) frames closed (d.seen old)
        → (st : StateOf Version) → StandsFor shape st (d.seen old)
        → StopsOpening d.seen d.certain d.moment (calls_on_opening (formed form shape) frames closed) old new
        (StandsFor shape st) (StandsFor shape (booted (st.boot + 1) st))
    pub not_begun : end ≡ NotBegun → IsUntouched d.seen d.may_leave d.moment d.left_since old new
    pub cause : Kept (d.faults old) (d.faults new) (d.sound old) (d.sound new) (end ≡ Cut)
