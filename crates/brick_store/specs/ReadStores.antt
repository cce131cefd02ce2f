-- What was read of a store, before its opening goes on.
use Rattle.std.specs.Prelude.{◌≡◌, ◌-◌, ◌<◌, ◌^◌, ℕ, Bool, true, false, List, length}
use Rattle.fab_disk.specs.declared.disk.Disk as on_disk
use Rattle.frame_store.specs.declared.frames.Frame.{Frame}
use Rattle.frame_store.specs.Images.{AreBlocks}
use Rattle.frame_store.specs.Layouts.{IsShape, is_old}
use Rattle.frame_store.specs.Listed.{Fits}
use Rattle.frame_store.specs.Stores.{Held, IsRead}
use Rattle.version_log.specs.Versions.{Version}
use Rattle.brick_state.specs.Entries.{Entry}
use Rattle.brick_state.specs.States.{StateOf, empty}
use Rattle.brick_state.specs.Indexes.{state_of, limits_of}
use Rattle.brick_store.specs.declared.readings.Folded.{Folded}
use Rattle.brick_store.specs.Blocks.{resolved}
use Rattle.brick_store.specs.BringingOver.{IsAmong, cut_block}
use Rattle.brick_store.specs.Images as images
use Rattle.brick_store.specs.OldLists.{old_state_in}
use Rattle.brick_store.specs.Openings.{Makes}
use Rattle.brick_store.specs.Sizes.{boot_size}
use Rattle.brick_store.specs.Standing.{AllSlots, Leads}

-- A store was read, of the old format or not, and this is what its frames were folded to.
pub record IsFoldedFrom {D : Type 0} (d : on_disk.Ghosts D) (old : Bool) (frames : Held D) (folded : Folded) : Type 0 where
  pub shape : IsShape frames.shape
  pub form : is_old frames.shape ≡ old
  pub runs : frames.halted ≡ false
  pub read : IsRead d.tells d.seen frames
  pub block : folded.sizes.block ≡ frames.shape.block
  pub records : folded.sizes.records ≡ frames.shape.records
  pub fold : Makes frames.shape.block frames.shape.records old frames.frames (limits_of folded.index) (state_of folded.index) folded.blocks folded.whole

-- what the frames of an old store make
abbrev pub old_state_of : {D : Type 0} → Held D → StateOf Version
old_state_of old = old_state_in old.shape.block old.shape.records old.frames

-- The list and the blocks that an old store is brought over to fit in it, and keep what its own frames make.
pub record KeepsOldState {D : Type 0} (old : Held D) (listed : List Frame) (blocks : List ℕ) (st : StateOf Entry) : Type 0 where
  pub shape : IsShape old.shape
  pub form : is_old old.shape ≡ true
  pub are : AreBlocks old.shape (length listed) blocks
  pub fits : Fits old.shape listed boot_size
  pub leads : Leads (images.limits_of old.shape) listed empty st
  pub slots : AllSlots (IsAmong old.shape.block (length blocks)) st
  pub state : resolved (cut_block old.shape.block blocks) st ≡ old_state_of old
  pub boots : st.boot < 2 ^ 32 - 1
