-- What the bytes of a disk stand for as a store.
use Rattle.std.specs.Prelude.{◌≡◌, ◌≢◌, ℕ, ◌+◌, ◌-◌, ◌*◌, ◌%◌, ◌^◌, ◌<◌, ◌≤◌, List, [], ◌∷◌, length, get_or, take, drop, Bool, true, false, Option, Some, None}
use Rattle.std.specs.Int.{w64, from_be_bytes}
use Rattle.frame_store.specs.declared.frames.Frame.{Frame}
use Rattle.frame_store.specs.declared.shapes.Shape.{Shape}
use Rattle.frame_store.specs.declared.shapes.Form.{Form}
use Rattle.frame_store.specs.declared.shapes.Form.TheVariants.{Old, New, Moved}
use Rattle.frame_store.specs.declared.shapes.Half.{Half}
use Rattle.frame_store.specs.declared.shapes.Half.TheVariants.{A, B}
use Rattle.frame_store.specs.Layouts.{headers_size, formed, is_old, open_gate, header_at, slot_at, half_at, half_size, identity}
use Rattle.frame_store.specs.Listed.{frames_of, size_of}

-- n bytes from a place on
abbrev pub part : ℕ → ℕ → List ℕ → List ℕ
part at n image = take n (drop at image)

-- The place byte of a header is one of this form: 1 tells of a store that was brought over, and any other of one that was not. In the old format it
-- tells nothing.
abbrev pub Tells : Form → ℕ → Type 0
Tells Old place = Unit {0}
Tells New place = place ≢ 1
Tells Moved place = place ≡ 1

-- a header is open: both headers are there, its gate is open, and it is of this store in this form
pub record IsOpen (shape : Shape) (half : Half) (image : List ℕ) : Type 0 where
  pub whole : headers_size ≤ length image
  pub front : part (header_at half) 17 image ≡ open_gate ∷ identity shape
  pub place : Tells shape.form (get_or image (header_at half + 25) 0)

-- how often the index had been rewritten when the header was
abbrev pub generation_at : Half → List ℕ → ℕ
generation_at half image = from_be_bytes w64 (part (header_at half + 17) 8 image)

-- how far one generation is ahead of another; they start again after 2^64 - 1
abbrev pub ahead : ℕ → ℕ → ℕ
ahead first second = ((second + 2 ^ 64) - first) % 2 ^ 64

-- the second generation comes after the first
pub record IsLater (first second : ℕ) : Type 0 where
  pub ahead_some : 1 ≤ ahead first second
  pub ahead_less : ahead first second < 2 ^ 63

-- The half that an image is read by: that of the open header, whichever form that has; of two, B's where its generation is the later, else A's.
abbrev pub InForce : Shape → Half → List ℕ → Type 0
InForce shape A image =
    IsOpen shape A image × ((form : Form) → IsOpen (formed form shape) B image → IsLater (generation_at A image) (generation_at B image) → ⊥)
InForce shape B image = IsOpen shape B image × ((form : Form) → IsOpen (formed form shape) A image → IsLater (generation_at A image) (generation_at B image))

abbrev pub half_bytes : Shape → Half → List ℕ → List ℕ
half_bytes shape half image = part (half_at shape half) (half_size shape) image

-- a gate that is not open stands here
abbrev pub IsShut : ℕ → List ℕ → Type 0
IsShut at image = get_or image at 0 ≢ open_gate

-- a closed gate stands after these frames, in the half and in the file
pub record EndsClosed (shape : Shape) (half : Half) (frames : List Frame) (image : List ℕ) : Type 0 where
  pub within_half : size_of frames < half_size shape
  pub within_file : half_at shape half + size_of frames < length image
  pub shut : IsShut (half_at shape half + size_of frames) image

-- The image opens as a store with these frames; closed says whether a closed gate stands after them.
pub record OpensAs (shape : Shape) (frames : List Frame) (closed : Bool) (image : List ℕ) : Type 0 where
  pub half : Half
  pub in_force : InForce shape half image
  pub listed : frames_of (half_bytes shape half image) ≡ frames
  pub ended : closed ≡ true → EndsClosed shape half frames image
  pub not_ended : EndsClosed shape half frames image → closed ≡ true

-- no header is open, in whichever form
pub record IsNoStore (shape : Shape) (image : List ℕ) : Type 0 where
  pub first : (form : Form) → IsOpen (formed form shape) A image → ⊥
  pub second : (form : Form) → IsOpen (formed form shape) B image → ⊥

-- a file of this size has this slot
pub record HasSlot (shape : Shape) (size slot : ℕ) : Type 0 where
  pub is_slot : slot < shape.records
  pub inside : slot_at shape slot + shape.block ≤ size

-- the block in a slot
abbrev pub block_in : Shape → ℕ → List ℕ → List ℕ
block_in shape slot image = part (slot_at shape slot) shape.block image

-- the block that is put in a slot, if one is, stands there
abbrev pub StandsIn : Shape → Option (ℕ × List ℕ) → List ℕ → Type 0
StandsIn shape None image = Unit {0}
StandsIn shape (Some put) image = HasSlot shape (length image) put.0 × (block_in shape put.0 image ≡ put.1)

-- nothing is put in this slot
abbrev pub IsOther : Option (ℕ × List ℕ) → ℕ → Type 0
IsOther None slot = Unit {0}
IsOther (Some put) slot = slot ≢ put.0

-- each slot that a content had is still there, and holds what it held, but for the one that a block is put in
pub record KeepsSlots (shape : Shape) (put : Option (ℕ × List ℕ)) (content image : List ℕ) : Type 0 where
  pub size : length content ≤ length image
  pub same : (slot : ℕ) → HasSlot shape (length content) slot → IsOther put slot → block_in shape slot image ≡ block_in shape slot content

-- The image opens as these frames, with a closed gate after them, and no slot differs from this content but the one that a block is put in.
pub record Lists (shape : Shape) (frames : List Frame) (put : Option (ℕ × List ℕ)) (content image : List ℕ) : Type 0 where
  pub opens : OpensAs shape frames true image
  pub slots : KeepsSlots shape put content image

-- The same, and the block stands in its slot.
pub record ListsWith (shape : Shape) (frames : List Frame) (put : Option (ℕ × List ℕ)) (content image : List ℕ) : Type 0 where
  pub opens : OpensAs shape frames true image
  pub stands : StandsIn shape put image
  pub slots : KeepsSlots shape put content image

-- The image is that of a store with no frames, and in the new format with all its slots.
pub record IsEmptyStore (shape : Shape) (image : List ℕ) : Type 0 where
  pub opens : OpensAs shape [] true image
  pub slots : is_old shape ≡ false → (slot : ℕ) → slot < shape.records → HasSlot shape (length image) slot

-- The bytes are a whole number of blocks, no more than so many, and no more than there are slots.
pub record AreBlocks (shape : Shape) (most : ℕ) (blocks : List ℕ) : Type 0 where
  pub count : ℕ
  pub long : length blocks ≡ count * shape.block
  pub few : count ≤ most
  pub slots : count ≤ shape.records

-- The image is that of an old store that was brought over: it opens as these frames in the new format, and these blocks lie in its slots, one after the other
-- from slot 0 on.
pub record IsBroughtOver (shape : Shape) (frames : List Frame) (blocks image : List ℕ) : Type 0 where
  pub opens : OpensAs (formed Moved shape) frames true image
  pub stand : part (slot_at (formed Moved shape) 0) (length blocks) image ≡ blocks
