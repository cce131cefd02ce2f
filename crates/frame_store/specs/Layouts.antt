-- Where the parts of a store lie. Two headers of 32 bytes come first. In a store of the old format two halves follow, each a list of frames with the blocks among
-- them. In one of the new format the slots follow, which hold the blocks, and then the two halves of the index.
use Rattle.std.specs.Prelude.{ℕ, ◌+◌, ◌*◌, ◌≤◌, Bool, true, false, List, ◌∷◌, ◌++◌, replicate, codes}
use Rattle.std.specs.Int.{w16, w32, w64, to_be_bytes}
use Rattle.frame_store.specs.declared.shapes.Shape.{Shape}
use Rattle.frame_store.specs.declared.shapes.Form.{Form}
use Rattle.frame_store.specs.declared.shapes.Form.TheVariants.{Old, New, Moved}
use Rattle.frame_store.specs.declared.shapes.Half.{Half}
use Rattle.frame_store.specs.declared.shapes.Half.TheVariants.{A, B}

-- the bytes of the two headers, with which a disk begins
abbrev pub headers_size : ℕ
headers_size = 64

-- the same store in this form
abbrev pub formed : Form → Shape → Shape
formed form shape = record { me = shape.me; block = shape.block; records = shape.records; form = form }

-- what a new store is made for: a brick, the bytes of a block, and how many slots there are
abbrev pub shape_of : ℕ → ℕ → ℕ → Shape
shape_of me block records = record { me = me; block = block; records = records; form = New }

-- the store is of the old format
abbrev pub is_old_form : Form → Bool
is_old_form Old = true
is_old_form New = false
is_old_form Moved = false

abbrev pub is_old : Shape → Bool
is_old shape = is_old_form shape.form

-- the limits of a shape
pub record IsShape (shape : Shape) : Type 0 where
  pub some_bytes : 1 ≤ shape.block
  pub few_bytes : shape.block ≤ 4096
  pub some_slots : 1 ≤ shape.records
  pub few_slots : shape.records ≤ 1048576

-- the byte that opens the gate of a header or of a frame
abbrev pub open_gate : ℕ
open_gate = 165

-- where a header begins
abbrev pub header_at : Half → ℕ
header_at A = 0
header_at B = 32

-- how long a half of the old format is, and one of the index
abbrev pub old_half_size : Shape → ℕ
old_half_size shape = (2 * shape.records + 512) * (shape.block + 256)

abbrev pub index_half_size : Shape → ℕ
index_half_size shape = (2 * shape.records + 512) * 256

-- Where the slots begin: behind the headers, or behind the halves of the old store that was brought over. An old store has none, and it is told where
-- they will lie.
abbrev pub start_in : Form → Shape → ℕ
start_in Old shape = headers_size + 2 * old_half_size shape
start_in New shape = headers_size
start_in Moved shape = headers_size + 2 * old_half_size shape

-- where a slot begins
abbrev pub slot_at : Shape → ℕ → ℕ
slot_at shape slot = start_in shape.form shape + slot * shape.block

-- how long a half is
abbrev pub half_size_in : Form → Shape → ℕ
half_size_in Old shape = old_half_size shape
half_size_in New shape = index_half_size shape
half_size_in Moved shape = index_half_size shape

abbrev pub half_size : Shape → ℕ
half_size shape = half_size_in shape.form shape

-- where a half begins: the first one behind the headers, or behind the slots
abbrev pub first_half_in : Form → Shape → ℕ
first_half_in Old shape = headers_size
first_half_in New shape = slot_at shape shape.records
first_half_in Moved shape = slot_at shape shape.records

abbrev pub half_at : Shape → Half → ℕ
half_at shape A = first_half_in shape.form shape
half_at shape B = first_half_in shape.form shape + half_size shape

-- where the store ends, an old one once it is brought over
abbrev pub store_end : Shape → ℕ
store_end shape = slot_at shape shape.records + 2 * index_half_size shape

-- the format's number, and the byte that tells where the slots of the new format lie
abbrev pub format_of : Form → ℕ
format_of Old = 1
format_of New = 2
format_of Moved = 2

abbrev pub place_of : Form → ℕ
place_of Old = 0
place_of New = 0
place_of Moved = 1

-- the bytes of a header that say whose it is: the name, the format, the brick, the block's bytes, the number of slots
abbrev pub identity : Shape → List ℕ
identity shape =
    codes "FABSTOR" ++ (format_of shape.form ∷ (to_be_bytes w16 shape.me ++ (to_be_bytes w16 shape.block ++ to_be_bytes w32 shape.records)))

-- a header after its gate: the identity, the generation, where the slots lie, six zero bytes
abbrev pub header_rest : Shape → ℕ → List ℕ
header_rest shape generation = identity shape ++ (to_be_bytes w64 generation ++ (place_of shape.form ∷ replicate 6 0))
