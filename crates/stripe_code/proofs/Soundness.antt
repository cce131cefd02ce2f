-- The code is sound: any m pieces of a content give it back, data blocks are kept as they are, a changed content has the changed blocks, and zeros have
-- zero blocks.
use Rattle.std.proofs.Common.{◌≡◌, ◌≢◌, ℕ, zero, suc, ◌*◌, ◌<◌, ◌≤◌, inl, inr, List, [], ◌∷◌, length, get_or, take, replicate, Some, refl, sym, ap, subst, ◌∙◌, arith}
use Rattle.std.specs.Prelude.{nat_eq, slice_get}
use Rattle.std.specs.List.{concat, AllByRecursion, IsDistinct}
use Rattle.std.proofs.lemmas.Bool.{cases_lt, eqb-false}
use Rattle.std.proofs.lemmas.List.{get_or-map, get_or-take, get_or_past, get_or-replicate, length-map, length-take-le, length-replicate, take_all, ext_get_or}
use Rattle.std.proofs.lemmas.Map.Keys.{apart_from_distinct}
use Rattle.std.proofs.lemmas.Option.{slice_get-get_or}
use Rattle.rs_code.specs.Codewords.{AreSeats}
use Rattle.rs_code.specs.Stripes.{block_of, coded_block, data_block, IsCodedBlock, HasBlocks}
use Rattle.rs_code.proofs.StripeLaws.{HoldsBytes, length-coded_block, coded_block-IsCodedBlock, coded_block-HoldsBytes, coded_block-data, coded_block_zeros, data_block-IsDecoded, length-block_of, get_or-block_of}
use Rattle.reg_model.specs.Registers.{zero_registers}
use Rattle.quorum.specs.Quorums.{IsWithinLimits}
use Rattle.fab_base.specs.Layouts.{Layout}
use Rattle.protocol.specs.Settings.{Piece, AnyBlocksDecode, KeepsDataBlocks, IsSound}
use Rattle.layout.specs.Limits.{IsLayout}
use Rattle.stripe_code.specs.Codes.{block_code, coding}
use Rattle.stripe_code.proofs.Contents.{bytes_hold, append_holds}
use Rattle.stripe_code.proofs.Changes.{length-block_delta, modifies_blocks}
use Rattle.stripe_code.proofs.Pieces.{seats_of, blocks_of, AreLong, byte_of-blocks, length-blocks, decoded_is, joined}

-- a piece, for places past the end
nowhere : Piece
nowhere = record { seat = 0; bytes = [] }

-- ---- the first m of the pieces

-- the seat of piece i
seat_at : (m : ℕ) (pieces : List Piece) (i : ℕ) → i < m → m ≤ length pieces → get_or (seats_of (take m pieces)) i 0 ≡ (get_or pieces i nowhere).seat
seat_at m pieces i hi enough =
    let within : i < length (take m pieces) = omega (arith, length-take-le m pieces enough) in
    get_or-map (λ (piece : Piece). piece.seat) (take m pieces) i nowhere 0 within ∙ ap (λ (piece : Piece). piece.seat)
    (get_or-take m pieces i nowhere hi)

-- its block
bytes_at : (m : ℕ) (pieces : List Piece) (i : ℕ) → i < m → m ≤ length pieces → get_or (blocks_of (take m pieces)) i [] ≡
    (get_or pieces i nowhere).bytes
bytes_at m pieces i hi enough =
    let within : i < length (take m pieces) = omega (arith, length-take-le m pieces enough) in
    get_or-map (λ (piece : Piece). piece.bytes) (take m pieces) i nowhere [] within ∙ ap (λ (piece : Piece). piece.bytes)
    (get_or-take m pieces i nowhere hi)

-- seats of different pieces differ
seats_apart : (pieces : List Piece) (h i : ℕ) → IsDistinct nat_eq (seats_of pieces) → h < i → i < length pieces
    → (get_or pieces h nowhere).seat ≢ (get_or pieces i nowhere).seat
seats_apart pieces h i distinct lt within same =
    let apart = apart_from_distinct nat_eq (seats_of pieces) h i 0 distinct lt (omega (arith, length-map pieces (λ (piece : Piece). piece.seat))) in
    eqb-false (get_or (seats_of pieces) h 0) (get_or (seats_of pieces) i 0) apart
    (get_or-map (λ (piece : Piece). piece.seat) pieces h nowhere 0 (omega arith) ∙ same
    ∙ sym (get_or-map (λ (piece : Piece). piece.seat) pieces i nowhere 0 within))

-- m different pieces are at m seats
pub AreSeats_of_pieces : (m n : ℕ) (pieces : List Piece) → m ≤ length pieces → IsDistinct nat_eq (seats_of pieces)
    → ((k : ℕ) (piece : Piece) → slice_get pieces k ≡ Some piece → piece.seat < n) → AreSeats m n (seats_of (take m pieces))
AreSeats_of_pieces m n pieces enough distinct below = record {
  count = length-map (take m pieces) (λ (piece : Piece). piece.seat) ∙ length-take-le m pieces enough;
  within = λ i hi.
      subst (λ seat. seat < n) (sym (seat_at m pieces i hi enough))
      (below i (get_or pieces i nowhere) (slice_get-get_or pieces i nowhere (omega arith)));
  apart = λ h i hh hi other same.
      let seats_same : (get_or pieces h nowhere).seat ≡ (get_or pieces i nowhere).seat = sym (seat_at m pieces h hh enough) ∙ same
      ∙ seat_at m pieces i hi enough in
      elim (cases_lt h i) as (λ _. ⊥) [
        | inl lt ↦ seats_apart pieces h i distinct lt (omega arith) seats_same
        | inr le ↦ seats_apart pieces i h distinct (omega arith) (omega arith) (sym seats_same)
      ];
}

-- ---- blocks of one codeword

-- each piece is its seat's block of the content
abbrev AreBlocks : ℕ → ℕ → List ℕ → List Piece → Type 0
AreBlocks m size content pieces = AllByRecursion (λ piece. piece.bytes ≡ coded_block m size content piece.seat) pieces

-- which they are by place
blocks_from_places : (m size : ℕ) (content : List ℕ) (pieces : List Piece)
    → ((k : ℕ) (piece : Piece) → slice_get pieces k ≡ Some piece → piece.bytes ≡ coded_block m size content piece.seat)
    → AreBlocks m size content pieces
blocks_from_places m size content [] each = tt
blocks_from_places m size content (piece ∷ pieces) each = (each 0 piece refl, blocks_from_places m size content pieces (λ k. each (suc k)))

-- as are the first of them
blocks_first : (m size n : ℕ) (content : List ℕ) (pieces : List Piece) → AreBlocks m size content pieces → AreBlocks m size content (take n pieces)
blocks_first m size zero content pieces are = tt
blocks_first m size (suc n) content [] are = tt
blocks_first m size (suc n) content (piece ∷ pieces) are = (are.0, blocks_first m size n content pieces are.1)

-- they have the length of a block
pub blocks_long : (m size : ℕ) (content : List ℕ) (pieces : List Piece) → AreBlocks m size content pieces → AreLong size pieces
blocks_long m size content [] are = tt
blocks_long m size content (piece ∷ pieces) are = (
  ap length are.0 ∙ length-coded_block m size content piece.seat,
  blocks_long m size content pieces are.1,
)

-- and are bytes
blocks_hold : (m size : ℕ) (content : List ℕ) (pieces : List Piece) → AreBlocks m size content pieces → HoldsBytes (concat (blocks_of pieces))
blocks_hold m size content [] are n = omega arith
blocks_hold m size content (piece ∷ pieces) are n =
    append_holds piece.bytes (concat (blocks_of pieces)) (subst HoldsBytes (sym are.0) (coded_block-HoldsBytes m size content piece.seat))
    (blocks_hold m size content pieces are.1) n

-- block i of the blocks is that of piece i
block_is : (m size : ℕ) (pieces : List Piece) (i : ℕ) → i < length pieces → AreLong size pieces → length (concat (blocks_of pieces)) ≡ m * size
    → i < m
    → (bytes : List ℕ) → length bytes ≡ size → get_or (blocks_of pieces) i [] ≡ bytes → block_of size (concat (blocks_of pieces)) i ≡ bytes
block_is m size pieces i within each_long long hi bytes bytes_long is =
    ext_get_or 0 (block_of size (concat (blocks_of pieces)) i) bytes (length-block_of m size (concat (blocks_of pieces)) i long hi ∙ sym bytes_long)
    (λ t h.
    let inside : t < size = omega (arith, length-block_of m size (concat (blocks_of pieces)) i long hi) in
    get_or-block_of size (concat (blocks_of pieces)) i t inside
    ∙ byte_of-blocks size pieces i t each_long within inside ∙ ap (λ block. get_or block t 0) is)

-- ---- the law

-- any m pieces of a content give it back
pub any_blocks_decode : (m n size : ℕ) → IsWithinLimits m n → AnyBlocksDecode (block_code size) size m n
any_blocks_decode m n size limits content pieces long bytes are enough =
    let first = take m pieces in
    let seats = seats_of (take m pieces) in
    let blocks = concat (blocks_of (take m pieces)) in
    let few : m ≤ 256 = omega (arith, limits.few_blocks) in
    let few_seats : n ≤ 256 = omega (arith, limits.few_seats) in
    let count : length (take m pieces) ≡ m = length-take-le m pieces enough in
    let small : HoldsBytes content = bytes_hold content bytes in
    let each : AreBlocks m size content (take m pieces) = blocks_first m size m content pieces
    (blocks_from_places m size content pieces are.blocks) in
    let each_long : AreLong size (take m pieces) = blocks_long m size content (take m pieces) each in
    let blocks_length : length (concat (blocks_of (take m pieces))) ≡ m * size = length-blocks size (take m pieces) each_long
    ∙ ap (λ k. k * size) count in
    let are_seats : AreSeats m n (seats_of (take m pieces)) = AreSeats_of_pieces m n pieces enough are.distinct are.seats in
    let has : HasBlocks m size (seats_of (take m pieces)) (concat (blocks_of (take m pieces))) content = record {
      long = long;
      each = λ i hi.
          let seat : get_or (seats_of (take m pieces)) i 0 ≡ (get_or pieces i nowhere).seat = seat_at m pieces i hi enough in
          let coded : (get_or pieces i nowhere).bytes ≡ coded_block m size content (get_or pieces i nowhere).seat =
          are.blocks i (get_or pieces i nowhere) (slice_get-get_or pieces i nowhere (omega arith)) in
          let is : block_of size (concat (blocks_of (take m pieces))) i ≡ coded_block m size content (get_or (seats_of (take m pieces)) i 0) =
          block_is m size (take m pieces) i (omega (arith, count)) each_long blocks_length hi
          (coded_block m size content (get_or (seats_of (take m pieces)) i 0))
          (length-coded_block m size content (get_or (seats_of (take m pieces)) i 0))
          (bytes_at m pieces i hi enough ∙ coded ∙ ap (coded_block m size content) (sym seat)) in
          subst (IsCodedBlock m size content (get_or (seats_of (take m pieces)) i 0)) (sym is)
          (coded_block-IsCodedBlock m size content (get_or (seats_of (take m pieces)) i 0) few small);
    } in
    decoded_is m size pieces seats blocks (record { enough = enough; seats_are = refl; blocks_are = refl; long = each_long })
    ∙ joined size m content (data_block m size seats blocks)
    (λ j hj.
    let d = data_block-IsDecoded m n size seats blocks j few few_seats are_seats (blocks_hold m size content first each) blocks_length hj in
    d.decoded ∙ ap (λ stripe. block_of size stripe j) (sym (d.only content has)))
    ∙ take_all (m * size) content (omega (arith, long))

-- a data block's seat keeps it as it is
keeps_data_blocks : (m n size : ℕ) → IsWithinLimits m n → KeepsDataBlocks (block_code size) size m
keeps_data_blocks m n size limits content seat long bytes within =
    coded_block-data m size content seat (omega (arith, limits.few_blocks)) (bytes_hold content bytes) long within

-- zeros are zero past their end too
abbrev zeros : ℕ → List ℕ
zeros n = replicate n 0

zeros_at : (n k : ℕ) → get_or (zeros n) k 0 ≡ 0
zeros_at n k =
    elim (cases_lt k n) as (λ _. get_or (zeros n) k 0 ≡ 0) [
      | inl within ↦ get_or-replicate n k 0 0 within
      | inr past ↦ get_or_past (zeros n) k 0 (omega (arith, past, length-replicate {A = ℕ} n 0))
    ]

-- the zero content has a zero block at every seat
pub zero_block : (m size seat : ℕ) → coded_block m size (zero_registers m size) seat ≡ replicate size 0
zero_block m size seat = coded_block_zeros m size (zero_registers m size) seat (zeros_at (m * size))

-- a disk of any layout is sound
pub coding_is_sound : (layout : Layout) → IsLayout layout → IsSound (coding layout)
coding_is_sound layout is = record {
  positive = is.some_byte;
  limits = λ g group here. (is.each g group here).limits;
  distinct = λ g group here. (is.each g group here).distinct;
  decodes = λ m n limits. any_blocks_decode m n layout.block limits;
  keeps = λ m n limits. keeps_data_blocks m n layout.block limits;
  modifies = λ m n limits. modifies_blocks m n layout.block limits;
  deltas = λ old new old_long new_long. length-block_delta layout.block old new;
  zero_blocks = λ m n seat limits. zero_block m layout.block seat;
}
