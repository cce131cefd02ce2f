-- Stripes of m data blocks and the blocks of their codewords, each of `size` bytes: a stripe is coded per byte place
-- (Frølund et al. 2004, `encode`, `decode` and `modify`).
use Rattle.std.specs.Prelude.{◌≡◌, ◌≢◌, ℕ, ◌+◌, ◌*◌, ◌<◌, List, length, take, drop, map, slice_index, bit_xor, Option, Some, IfSome}
use Rattle.std.specs.List.{range_with_len}
use Rattle.rs_code.specs.Codewords.{IsCodedByte, weighted_sum}

-- of blocks that lie one after the other, block j
abbrev pub block_of : ℕ → List ℕ → ℕ → List ℕ
block_of size blocks j = take size (drop (j * size) blocks)

-- and byte t of block j
abbrev pub byte_of : ℕ → List ℕ → ℕ → ℕ → ℕ
byte_of size blocks t j = slice_index blocks (j * size + t)

-- block k becomes these bytes, and the others stay
pub record WritesBlock (size k : ℕ) (byte : ℕ → ℕ) (old new : List ℕ) : Type 0 where
  pub own : (t : ℕ) → t < size → byte_of size new t k ≡ byte t
  pub others : (i t : ℕ) → i ≢ k → t < size → byte_of size new t i ≡ byte_of size old t i

-- blocks h and k become these bytes, and the others stay
pub record WritesBlocks (size h k : ℕ) (first second : ℕ → ℕ) (old new : List ℕ) : Type 0 where
  pub first_own : (t : ℕ) → t < size → byte_of size new t h ≡ first t
  pub second_own : (t : ℕ) → t < size → byte_of size new t k ≡ second t
  pub others : (i t : ℕ) → i ≢ h → i ≢ k → t < size → byte_of size new t i ≡ byte_of size old t i

-- block is block k of the codeword of the stripe
pub record IsCodedBlock (m size : ℕ) (stripe : List ℕ) (k : ℕ) (block : List ℕ) : Type 0 where
  pub long : length block ≡ size
  pub bytes : (t : ℕ) → t < size → IsCodedByte m (byte_of size stripe t) k (slice_index block t)

-- that block, by Lagrange's formula
unfoldable pub coded_block : ℕ → ℕ → List ℕ → ℕ → List ℕ
coded_block m size stripe k = map (λ t. weighted_sum m m (λ i. i) (byte_of size stripe t) k) (range_with_len 0 size)

-- the codeword of the stripe has these m blocks at these seats
pub record HasBlocks (m size : ℕ) (seats blocks stripe : List ℕ) : Type 0 where
  pub long : length stripe ≡ m * size
  pub each : (i : ℕ) → i < m → IsCodedBlock m size stripe (slice_index seats i) (block_of size blocks i)

-- block is data block j of the one stripe whose codeword has these m blocks at these seats
pub record IsDecoded (m size : ℕ) (seats blocks : List ℕ) (j : ℕ) (block : List ℕ) : Type 0 where
  pub stripe : List ℕ
  pub has_blocks : HasBlocks m size seats blocks stripe
  pub only : (other : List ℕ) → HasBlocks m size seats blocks other → other ≡ stripe
  pub decoded : block ≡ block_of size stripe j

-- that data block, by Lagrange's formula over the seats
unfoldable pub data_block : ℕ → ℕ → List ℕ → List ℕ → ℕ → List ℕ
data_block m size seats blocks j = map (λ t. weighted_sum m m (λ i. slice_index seats i) (byte_of size blocks t) j) (range_with_len 0 size)

-- the data blocks below j of that stripe are there, but for the one that still waits
pub record HasDataBelow (m size : ℕ) (seats blocks : List ℕ) (waiting : Option ℕ) (j : ℕ) (stripe : List ℕ) : Type 0 where
  pub each : (i t : ℕ) → i < j → waiting ≢ Some i → t < size
      → byte_of size stripe t i ≡ weighted_sum m m (λ h. slice_index seats h) (byte_of size blocks t) i
  pub waits : IfSome waiting (λ h. h < j)

-- new is the stripe old with delta added to data block j
pub record ChangesBlock (m size j : ℕ) (delta old new : List ℕ) : Type 0 where
  pub changed : (t : ℕ) → t < size → byte_of size new t j ≡ bit_xor (byte_of size old t j) (slice_index delta t)
  pub others : (i t : ℕ) → i < m → i ≢ j → t < size → byte_of size new t i ≡ byte_of size old t i
