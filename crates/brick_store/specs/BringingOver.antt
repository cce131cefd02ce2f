-- What an old store is brought over to: its blocks lie one after the other in the slots from 0 on.
use Rattle.std.specs.Prelude.{◌≡◌, ◌⊎◌, ℕ, ◌+◌, ◌*◌, ◌≤◌, true, ◌==◌, if◌then◌else◌, List, length, take, drop, replicate}
use Rattle.std.specs.List.{AllByRecursion}
use Rattle.version_log.specs.Versions.{Version}
use Rattle.frame_store.specs.declared.frames.Frame.{Frame}
use Rattle.frame_store.specs.declared.shapes.Shape.{Shape}
use Rattle.frame_store.specs.Images.{HasSlot, block_in}
use Rattle.frame_store.specs.Listed.{size_of}
use Rattle.brick_state.specs.Entries.{Entry}
use Rattle.brick_state.specs.States.{StateOf, empty, live}
use Rattle.brick_state.specs.Folds.{Limits}
use Rattle.brick_state.specs.KeptStates.{IsKeptState}
use Rattle.brick_store.specs.BlockTables.{SlotBlocks}
use Rattle.brick_store.specs.Blocks.{cached, resolved}
use Rattle.brick_store.specs.Images.{limits_for}
use Rattle.brick_store.specs.Sizes.{most_listed}
use Rattle.brick_store.specs.Standing.{AllSlots, GroupHasMembers, IsCached, Leads}

-- the block of a slot, in blocks of this size that lie one after the other; that of the zero block is not among them
abbrev pub cut_block : ℕ → List ℕ → ℕ → List ℕ
cut_block size bytes slot = if slot == 4294967295 then replicate size 0 else take size (drop (slot * size) bytes)

-- the slot is one of so many bytes of blocks of this size, or that of the zero block
abbrev pub IsAmong : ℕ → ℕ → ℕ → Type 0
IsAmong size bytes slot = ((slot == 4294967295) ≡ true) ⊎ (slot * size + size ≤ bytes)

-- the slot is that of the zero block, or the block lies in it
abbrev pub LiesIn : Shape → List ℕ → List ℕ → ℕ → Type 0
LiesIn shape bytes content slot =
    ((slot == 4294967295) ≡ true) ⊎ (HasSlot shape (length content) slot × (block_in shape slot content ≡ cut_block shape.block bytes slot))

-- the block that is held in memory is the one among the bytes that lie in the slots
abbrev pub IsCut : ℕ → List ℕ → SlotBlocks → ℕ → Type 0
IsCut size bytes blocks slot = cut_block size bytes slot ≡ cached size blocks slot

-- So was a state with its blocks brought over: to an index that the frames lead to, whose slots are those of these bytes, which are held in memory.
pub record IsBroughtTo (size records : ℕ) (st : StateOf Version) (limits : Limits) (now : StateOf Entry) (blocks : SlotBlocks) (bytes : List ℕ)
    (frames : List Frame) : Type 0 where
  pub limits_are : limits ≡ limits_for records
  pub leads : Leads (limits_for records) frames empty now
  pub kept : IsKeptState (limits_for records) now
  pub members : AllByRecursion GroupHasMembers now.groups
  -- the bytes are a whole number of blocks, no more than frames and than slots
  pub count : ℕ
  pub long : length bytes ≡ count * size
  pub few : count ≤ length frames
  pub slots : count ≤ records
  pub among : AllSlots (IsAmong size (length bytes)) now
  pub held : AllSlots (IsCached size blocks) now
  pub cut : AllSlots (IsCut size bytes blocks) now
  pub state : resolved (cut_block size bytes) now ≡ st
  pub listed : size_of frames ≤ most_listed (live now)
