-- What does not change while a disk runs: its bricks and groups, and the code that keeps a stripe.
use Rattle.std.specs.Prelude.{◌≡◌, ℕ, ◌*◌, ◌<◌, ◌≤◌, nat_eq, nat_lt, Bool, true, List, length, Some, map, slice_get, replicate}
use Rattle.std.specs.List.{IsDistinct, list_all}
use Rattle.fab_base.specs.Layouts.{Layout, Group, group_of}
use Rattle.reg_model.specs.Registers.{zero_registers, block_of, with_block}
use Rattle.quorum.specs.Quorums.{IsWithinLimits}

-- a block that was found at a seat
pub record Piece : Type 0 where
  pub seat : ℕ
  pub bytes : List ℕ

-- A code: the block of a stripe's content at a seat; the content that pieces at some seats give back; what a data block changes by, from its old and
-- its new bytes; and a seat's block once data block j changed by that. All but the third are told m, the number of data blocks; the last is told
-- m, j, the seat, the change and the old block.
pub record Code : Type 0 where
  pub encode : ℕ → List ℕ → ℕ → List ℕ
  pub decode : ℕ → List Piece → List ℕ
  pub delta : List ℕ → List ℕ → List ℕ
  pub modify : ℕ → ℕ → ℕ → List ℕ → List ℕ → List ℕ

-- the pieces are at distinct seats below n, each that seat's block of the content
pub record ArePiecesOf (code : Code) (m n : ℕ) (content : List ℕ) (pieces : List Piece) : Type 0 where
  pub distinct : IsDistinct nat_eq (map (λ piece. piece.seat) pieces)
  pub seats : (k : ℕ) (piece : Piece) → slice_get pieces k ≡ Some piece → piece.seat < n
  pub blocks : (k : ℕ) (piece : Piece) → slice_get pieces k ≡ Some piece → piece.bytes ≡ code.encode m content piece.seat

-- the numbers are bytes
abbrev pub are_bytes : List ℕ → Bool
are_bytes bytes = list_all (λ byte. nat_lt byte 256) bytes

-- any m pieces of a content of m blocks give it back
abbrev pub AnyBlocksDecode : Code → ℕ → ℕ → ℕ → Type 0
AnyBlocksDecode code block m n =
    (content : List ℕ) (pieces : List Piece) → length content ≡ m * block → are_bytes content ≡ true → ArePiecesOf code m n content pieces → m ≤ length pieces
    → code.decode m pieces ≡ content

-- a data block's seat keeps it as it is
abbrev pub KeepsDataBlocks : Code → ℕ → ℕ → Type 0
KeepsDataBlocks code block m =
    (content : List ℕ) (seat : ℕ) → length content ≡ m * block → are_bytes content ≡ true → seat < m → code.encode m content seat ≡ block_of block seat content

-- what a data block changes by makes of each seat's block that of the changed content
abbrev pub ModifiesBlocks : Code → ℕ → ℕ → ℕ → Type 0
ModifiesBlocks code block m n =
    (content bytes : List ℕ) (j seat : ℕ) → length content ≡ m * block → are_bytes content ≡ true → length bytes ≡ block → are_bytes bytes ≡ true
    → j < m → seat < n
    → code.modify m j seat (code.delta (block_of block j content) bytes) (code.encode m content seat)
    ≡ code.encode m (with_block block j bytes content) seat

-- a disk: its layout, and its code
pub record Setting : Type 0 where
  pub layout : Layout
  pub code : Code

-- A block has bytes. Each group is within the limits of a quorum, and its members are distinct bricks; and for every number of blocks and seats
-- within the limits the code gives back what it encodes, keeps data blocks as they are, and modifies as it encodes; what a block changes by is as long
-- as a block; and the zero content has zero blocks.
pub record IsSound (setting : Setting) : Type 0 where
  pub positive : 1 ≤ setting.layout.block
  pub limits : (number : ℕ) (group : Group) → group_of setting.layout number ≡ Some group → IsWithinLimits group.m (length group.members)
  pub distinct : (number : ℕ) (group : Group) → group_of setting.layout number ≡ Some group → IsDistinct nat_eq (map (λ member. member.0) group.members)
  pub decodes : (m n : ℕ) → IsWithinLimits m n → AnyBlocksDecode setting.code setting.layout.block m n
  pub keeps : (m n : ℕ) → IsWithinLimits m n → KeepsDataBlocks setting.code setting.layout.block m
  pub modifies : (m n : ℕ) → IsWithinLimits m n → ModifiesBlocks setting.code setting.layout.block m n
  pub deltas : (old new : List ℕ) → length old ≡ setting.layout.block → length new ≡ setting.layout.block
      → length (setting.code.delta old new) ≡ setting.layout.block
  pub zero_blocks : (m n seat : ℕ) → IsWithinLimits m n
      → setting.code.encode m (zero_registers m setting.layout.block) seat ≡ replicate setting.layout.block 0
