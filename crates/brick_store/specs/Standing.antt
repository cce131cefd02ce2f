-- What holds of an open store between two calls.
use Rattle.std.specs.Prelude.{◌≡◌, ◌⊎◌, ℕ, ◌≤◌, ◌==◌, Bool, true, false, Option, Some, None, List, [], ◌∷◌, length, replicate}
use Rattle.std.specs.List.{AllByRecursion}
use Rattle.fab_base.specs.declared.identities.BrickId.{BrickId}
use Rattle.fab_disk.specs.Disk.{Only}
use Rattle.fab_base.specs.declared.member_lists.View.{View}
use Rattle.fab_base.specs.declared.stamps.Ballot.{Ballot}
use Rattle.stamp_store.specs.Spelling.{AcceptedHasMembers}
use Rattle.frame_store.specs.declared.frames.Frame.{Frame}
use Rattle.frame_store.specs.declared.shapes.Shape.{Shape}
use Rattle.frame_store.specs.Layouts.{IsShape, is_old}
use Rattle.frame_store.specs.Images.{HasSlot, block_in}
use Rattle.frame_store.specs.Stores.{Held, Shows}
use Rattle.brick_state.specs.declared.groups.Group.{Group}
use Rattle.brick_state.specs.declared.indexes.Index.{Index}
use Rattle.brick_state.specs.declared.records.Record.{Record}
use Rattle.brick_state.specs.Entries.{Entry}
use Rattle.brick_state.specs.States.{StateOf, empty}
use Rattle.brick_state.specs.Folds.{Limits, applied}
use Rattle.brick_state.specs.Indexes.{state_of}
use Rattle.brick_state.specs.Indexes as indexes
use Rattle.brick_state.specs.KeptStates.{IsKeptState}
use Rattle.brick_store.specs.BlockTables.{SlotBlocks, block_under}
use Rattle.brick_store.specs.Blocks.{cached}
use Rattle.brick_store.specs.Images.{record_of, limits_of}

-- each of these frames is a record that can be, and together they lead from one state to the other
unfoldable pub Leads : Limits → List Frame → StateOf Entry → StateOf Entry → Type 0
Leads limits [] old new = old ≡ new
Leads limits (frame ∷ frames) old new =
    (first : Record) × (record_of frame ≡ Some first) × (mid : StateOf Entry) × (applied limits first old ≡ Some mid) × Leads limits frames mid new

-- this holds of the slot of each version that was added
abbrev pub AllSlots : (ℕ → Type 0) → StateOf Entry → Type 0
AllSlots P st = AllByRecursion (λ e. AllByRecursion (λ v. P v.block) e.1.added) st.stripes

-- the block in a slot is held in memory; that of the zero block always is
abbrev pub IsCached : ℕ → SlotBlocks → ℕ → Type 0
IsCached size blocks slot = ((slot == 4294967295) ≡ true) ⊎ ((bytes : List ℕ) × (block_under blocks slot ≡ Some bytes) × (length bytes ≡ size))

-- the block that is held in memory lies in the slot
abbrev pub IsStored : Shape → SlotBlocks → List ℕ → ℕ → Type 0
IsStored shape blocks content slot =
    ((slot == 4294967295) ≡ true) ⊎ (HasSlot shape (length content) slot × (block_in shape slot content ≡ cached shape.block blocks slot))

-- no list of members is empty
abbrev pub KnownHasMembers : Option (View × Bool) → Type 0
KnownHasMembers None = Unit {0}
KnownHasMembers (Some known) = (1 ≤ length known.0.members) × (1 ≤ length known.0.prior)

abbrev pub BallotsHaveMembers : Option (Ballot × Option (Ballot × List BrickId)) → Type 0
BallotsHaveMembers None = Unit {0}
BallotsHaveMembers (Some ballots) = AcceptedHasMembers ballots.1

abbrev pub GroupHasMembers : Group → Type 0
GroupHasMembers group = KnownHasMembers group.known × BallotsHaveMembers group.ballots

-- the index is what the frames lead to
pub record IsIndexed (shape : Shape) (frames : List Frame) (limits : Limits) (st : StateOf Entry) : Type 0 where
  pub limits_are : limits ≡ limits_of shape
  pub leads : Leads (limits_of shape) frames empty st
  pub kept : IsKeptState (limits_of shape) st
  pub members : AllByRecursion GroupHasMembers st.groups

-- While the store is not halted, a crash leaves what a read gives, which opens as the frames, and the blocks that are held in
-- memory lie in their slots.
pub record IsOnDisk {D : Type 0} (tells : Type 0) (seen : D → List ℕ) (may_leave : D → List ℕ → Type 0) (blocks : SlotBlocks)
    (frames : Held D) (st : StateOf Entry) : Type 0 where
  pub only : Only (seen frames.disk) (may_leave frames.disk)
  pub shows : Shows seen frames
  pub closed : frames.closed ≡ true
  pub stored : AllSlots (IsStored frames.shape blocks (seen frames.disk)) st

-- A store between two calls, which is of the new format: its frames, its index, and in memory the blocks of at least all versions.
pub record Standing {D : Type 0} (tells : Type 0) (seen : D → List ℕ) (may_leave : D → List ℕ → Type 0) (frames : Held D) (index : Index)
    (blocks : SlotBlocks) (zero_block : List ℕ) : Type 0 where
  pub limits : IsShape frames.shape
  pub slotted : is_old frames.shape ≡ false
  pub indexed : IsIndexed frames.shape frames.frames (indexes.limits_of index) (state_of index)
  pub cached_all : AllSlots (IsCached frames.shape.block blocks) (state_of index)
  pub zero_is : zero_block ≡ replicate frames.shape.block 0
  pub on_disk : tells → frames.halted ≡ false → IsOnDisk tells seen may_leave blocks frames (state_of index)
