-- The disk's code, as the machine is told it: block k of a stripe's content, the content that blocks at m seats give back, and how a block changes with
-- a data block.
use Rattle.std.specs.Prelude.{◌≡◌, ℕ, ◌-◌, ◌*◌, ◌<◌, ◌≤◌, List, [], length, map, take, slice_index, slice_index_or, bit_xor}
use Rattle.std.specs.List.{concat, range_with_len, AllByRecursion}
use Rattle.gf_field.specs.Field.{field_mul}
use Rattle.gf_field.specs.Polynomials.{weight_of}
use Rattle.rs_code.specs.Codewords.{weighted_sum}
use Rattle.rs_code.specs.Stripes.{coded_block, block_of}
use Rattle.fab_base.specs.Layouts.{Layout}
use Rattle.protocol.specs.Settings.{Piece, Code, Setting, IsSound}
use Rattle.layout.specs.Limits.{IsLayout}

-- The first m of the pieces are at these seats, and their blocks, each of this many bytes, are these, one after the other.
pub record AreFirst (m size : ℕ) (pieces : List Piece) (seats blocks : List ℕ) : Type 0 where
  pub enough : m ≤ length pieces
  pub seats_are : map (λ piece. piece.seat) (take m pieces) ≡ seats
  pub blocks_are : concat (map (λ piece. piece.bytes) (take m pieces)) ≡ blocks
  pub long : AllByRecursion (λ piece. length piece.bytes ≡ size) (take m pieces)

-- the seat of piece i, and byte t of its block
abbrev pub seat_of : List Piece → ℕ → ℕ
seat_of pieces i = slice_index (map (λ piece. piece.seat) pieces) i

abbrev pub byte_at : List Piece → ℕ → ℕ → ℕ
byte_at pieces t i = slice_index (slice_index_or (map (λ piece. piece.bytes) pieces) i []) t

-- data block j of the stripe whose codeword has these m blocks of this many bytes, by Lagrange's formula
abbrev pub decoded_block : ℕ → ℕ → List Piece → ℕ → List ℕ
decoded_block m size pieces j = map (λ t. weighted_sum m m (seat_of pieces) (byte_at pieces t) j) (range_with_len 0 size)

-- the m data blocks in order, by the first m pieces
unfoldable pub decoded : ℕ → ℕ → List Piece → List ℕ
decoded m size pieces = concat (map (decoded_block m size (take m pieces)) (range_with_len 0 m))

-- what a block of this many bytes changes by: the sum of its old and new bytes, byte by byte
unfoldable pub block_delta : ℕ → List ℕ → List ℕ → List ℕ
block_delta size old new = map (λ t. bit_xor (slice_index old t) (slice_index new t)) (range_with_len 0 size)

-- a seat's block once data block j changed by this: each byte plus the weight of block j at that seat times what the byte changes by
unfoldable pub modified_block : ℕ → ℕ → ℕ → ℕ → List ℕ → List ℕ → List ℕ
modified_block m size j seat delta block =
    map (λ t. bit_xor (slice_index block t) (field_mul (weight_of m (λ i. i) j seat) (slice_index delta t))) (range_with_len 0 size)

-- the code of blocks of this many bytes
abbrev pub block_code : ℕ → Code
block_code size =
    record {
      encode = λ m content seat. coded_block m size content seat;
      decode = λ m pieces. decoded m size pieces;
      delta = λ old new. block_delta size old new;
      modify = λ m j seat delta block. modified_block m size j seat delta block;
    }

-- these are, one after the other, the blocks that the members at the seats from m up to n keep of a content
pub record AreParity (m n size : ℕ) (content parity : List ℕ) : Type 0 where
  pub long : length parity ≡ (n - m) * size
  pub each : (seat : ℕ) → m ≤ seat → seat < n → block_of size parity (seat - m) ≡ (block_code size).encode m content seat

-- a disk of this layout with this code
abbrev pub coding : Layout → Setting
coding layout = record { layout = layout; code = block_code layout.block }

-- the disk is sound, whatever its layout
abbrev pub EveryCodingIsSound : Type 0
EveryCodingIsSound = (layout : Layout) → IsLayout layout → IsSound (coding layout)
