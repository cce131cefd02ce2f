-- Blocks of an old store on their way to their slots: each number that a version names gets the next slot when it is named first.
use Rattle.std.specs.Prelude.{◌≡◌, ℕ, ◌+◌, ◌<◌, ◌≤◌, true, false, if◌then◌else◌, Some, List, [], ◌∷◌, ◌++◌, length, slice_index}
use Rattle.std.specs.List.{flat_map}
use Rattle.frame_store.specs.declared.frames.Frame.{Frame}
use Rattle.brick_state.specs.declared.records.Record.{Record}
use Rattle.brick_state.specs.Entries.{Entry}
use Rattle.brick_state.specs.States.{StateOf}
use Rattle.brick_state.specs.Folds.{Limits, applied}
use Rattle.brick_store.specs.BlockTables.{SlotBlocks, block_under, joined_blocks}
use Rattle.brick_store.specs.Blocks.{cached}
use Rattle.brick_store.specs.Images.{record_of}
use Rattle.brick_store.specs.Renumbering.{has_place, place_of}
use Rattle.brick_store.specs.Sizes.{most}

-- For each number the slot that it got, that of the zero block where it got none yet.
pub record AreGiven (given moved : List ℕ) (next : ℕ) : Type 0 where
  pub next_is : next ≡ length given
  pub moved_is : (n : ℕ) → n < length moved → slice_index moved n ≡ (if has_place given n then place_of given n else 4294967295)

-- The blocks of the numbers that got a slot are held under their slots, in their order. The others are held under their numbers still.
pub record AreMoved (size : ℕ) (before : SlotBlocks) (given : List ℕ) (held now : SlotBlocks) : Type 0 where
  pub left : (n : ℕ) → has_place given n ≡ false → block_under held n ≡ block_under before n
  pub here : (n : ℕ) → has_place given n ≡ true → block_under now (place_of given n) ≡ block_under before n
  pub joined_are : joined_blocks now (length given) ≡ flat_map (cached size before) given

-- A record was put behind the others: its frame, and its change of the state where it can be.
pub record IsPut (limits : Limits) (item : Record) (frames frames_now : List Frame) (old new : StateOf Entry) : Type 0 where
  pub frame : Frame
  pub listed : frames_now ≡ frames ++ frame ∷ []
  pub reads : record_of frame ≡ Some item
  pub few : 6 + length frame.body ≤ most item
  pub leads : (next : StateOf Entry) → applied limits item old ≡ Some next → new ≡ next
