-- What the bytes of a disk stand for as a brick's store.
use Rattle.std.specs.Prelude.{◌≡◌, ◌⊎◌, ℕ, Bool, true, false, ◌==◌, if◌then◌else◌, List, replicate}
use Rattle.version_log.specs.Versions.{Version}
use Rattle.frame_store.specs.declared.frames.Frame.{Frame}
use Rattle.frame_store.specs.declared.shapes.Shape.{Shape}
use Rattle.frame_store.specs.declared.shapes.Form.{Form}
use Rattle.frame_store.specs.declared.shapes.Form.TheVariants.{Old, New, Moved}
use Rattle.frame_store.specs.Layouts.{formed, is_old_form}
use Rattle.frame_store.specs.Images.{OpensAs, block_in}
use Rattle.frame_store.specs.Listed.{size_of}
use Rattle.brick_state.specs.States.{StateOf, empty}
use Rattle.brick_state.specs.Folds.{Limits, folded}
use Rattle.brick_store.specs.Blocks.{resolved}
use Rattle.brick_store.specs.OldLists.{old_state_in}
pub use Rattle.brick_store.specs.Records.{record_of, or_logged, onto_record}
unfoldable pub use Rattle.brick_store.specs.Records.{records_of}

-- as many live records as slots
abbrev pub limits_for : ℕ → Limits
limits_for records = record { records = records; slots = records }

abbrev pub limits_of : Shape → Limits
limits_of shape = limits_for shape.records

-- what lies in a slot: that of the zero block lies nowhere
abbrev pub block_at : Shape → List ℕ → ℕ → List ℕ
block_at shape image slot = if slot == 4294967295 then replicate shape.block 0 else block_in shape slot image

-- what these frames and the slots of this image make of a brick that keeps nothing; a list of the old format has the blocks in it
abbrev pub slot_state_in : Shape → List Frame → List ℕ → StateOf Version
slot_state_in shape frames image = resolved (block_at shape image) (folded (limits_of shape) (records_of frames) empty)

abbrev pub state_by : Form → Shape → List Frame → List ℕ → StateOf Version
state_by Old shape frames image = old_state_in shape.block shape.records frames
state_by New shape frames image = slot_state_in shape frames image
state_by Moved shape frames image = slot_state_in shape frames image

abbrev pub state_in : Shape → List Frame → List ℕ → StateOf Version
state_in shape frames image = state_by shape.form shape frames image

-- An opening of the image finds this state, in whichever form the store is.
pub record IsFound (shape : Shape) (st : StateOf Version) (image : List ℕ) : Type 0 where
  pub form : Form
  pub frames : List Frame
  pub closed : Bool
  pub opens : OpensAs (formed form shape) frames closed image
  pub state : state_in (formed form shape) frames image ≡ st

-- The image opens as a store of this state, in whichever form: a closed gate stands after its frames, so what lies behind never counts.
pub record StandsFor (shape : Shape) (st : StateOf Version) (image : List ℕ) : Type 0 where
  pub form : Form
  pub frames : List Frame
  pub opens : OpensAs (formed form shape) frames true image
  pub state : state_in (formed form shape) frames image ≡ st

-- It opens in the new format alone, where blocks lie in slots.
abbrev pub IsSlotted : Shape → List ℕ → Type 0
IsSlotted shape image = (form : Form) (frames : List Frame) (closed : Bool) → OpensAs (formed form shape) frames closed image → is_old_form form ≡ false

-- the image opens as a list of frames of so many bytes
pub record IsListed (shape : Shape) (listed : ℕ) (image : List ℕ) : Type 0 where
  pub form : Form
  pub frames : List Frame
  pub opens : OpensAs (formed form shape) frames true image
  pub bytes : size_of frames ≡ listed

-- the image opens as the state before a change, or as the one after it
abbrev pub StandsForEither : Shape → StateOf Version → StateOf Version → List ℕ → Type 0
StandsForEither shape before after image = StandsFor shape before image ⊎ StandsFor shape after image

-- a crash leaves only what opens as this state
abbrev pub LeavesState : Shape → StateOf Version → (List ℕ → Type 0) → Type 0
LeavesState shape st may_leave = (image : List ℕ) → may_leave image → StandsFor shape st image
