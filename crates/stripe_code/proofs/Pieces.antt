-- Pieces of a codeword: the seats and blocks of the first m of them, and what these give back.
use Rattle.std.proofs.Common.{◌≡◌, ℕ, zero, suc, ◌+◌, ◌*◌, ◌<◌, ◌≤◌, List, [], ◌∷◌, ◌++◌, length, get_or, take, map, sym, ap, ◌∙◌, arith, add-one}
use Rattle.std.specs.List.{concat, range_with_len, AllByRecursion}
use Rattle.std.proofs.Math.Seq.{take-add}
use Rattle.std.proofs.lemmas.List.{ext_get_or, get_or_append_left, get_or-append-add, length-take-le, length-append, append-nil}
use Rattle.std.proofs.lemmas.List.Folds.{concat-append}
use Rattle.std.proofs.lemmas.List.FromFn.{map-range_with_len_more, get_or-map-range_with_len, length-map-range_with_len}
use Rattle.rs_code.specs.Codewords.{weighted_sum}
use Rattle.rs_code.specs.Stripes.{block_of, byte_of, data_block}
use Rattle.rs_code.proofs.CodewordLaws.{weighted_sum_same}
use Rattle.rs_code.proofs.StripeLaws.{get_or-data_block, length-data_block}
use Rattle.protocol.specs.Settings.{Piece}
use Rattle.stripe_code.specs.Codes.{decoded_block, decoded, seat_of, byte_at, AreFirst}

-- the seats of pieces, and their blocks
abbrev pub seats_of : List Piece → List ℕ
seats_of pieces = map (λ piece. piece.seat) pieces

abbrev pub blocks_of : List Piece → List (List ℕ)
blocks_of pieces = map (λ piece. piece.bytes) pieces

-- each block has this many bytes
abbrev pub AreLong : ℕ → List Piece → Type 0
AreLong size pieces = AllByRecursion (λ piece. length piece.bytes ≡ size) pieces

-- ---- blocks that lie one after the other

-- a byte of the first block
first_byte : (size t : ℕ) (bytes rest : List ℕ) → length bytes ≡ size → t < size → byte_of size (bytes ++ rest) t 0 ≡ get_or bytes t 0
first_byte size t bytes rest long h =
    let place : 0 * size + t ≡ t = omega arith in
    ap (λ n. get_or (bytes ++ rest) n 0) place ∙ get_or_append_left bytes rest 0 t (omega arith)

-- a byte of a later block
later_byte : (size t i : ℕ) (bytes rest : List ℕ) → length bytes ≡ size → byte_of size (bytes ++ rest) t (suc i) ≡ byte_of size rest t i
later_byte size t i bytes rest long =
    let place : suc i * size + t ≡ length bytes + (i * size + t) = omega (arith, long) in
    ap (λ n. get_or (bytes ++ rest) n 0) place ∙ get_or-append-add bytes rest (i * size + t) 0

-- byte t of block i
pub byte_of-blocks : (size : ℕ) (pieces : List Piece) (i t : ℕ) → AreLong size pieces → i < length pieces → t < size
    → byte_of size (concat (blocks_of pieces)) t i ≡ byte_at pieces t i
byte_of-blocks size [] i t long hi ht = absurd (omega arith)
byte_of-blocks size (piece ∷ pieces) zero t long hi ht = first_byte size t piece.bytes (concat (blocks_of pieces)) long.0 ht
byte_of-blocks size (piece ∷ pieces) (suc i) t long hi ht =
    later_byte size t i piece.bytes (concat (blocks_of pieces)) long.0 ∙ byte_of-blocks size pieces i t long.1 (omega arith) ht

-- all blocks together have their length
pub length-blocks : (size : ℕ) (pieces : List Piece) → AreLong size pieces → length (concat (blocks_of pieces)) ≡ length pieces * size
length-blocks size [] long = omega arith
length-blocks size (piece ∷ pieces) long =
    omega (arith, long.0, length-append piece.bytes (concat (blocks_of pieces)), length-blocks size pieces long.1)

-- ---- what they give back

-- a data block by its pieces is that block by their seats and bytes
decoded_block_is : (m size : ℕ) (pieces : List Piece) (j : ℕ) → AreLong size pieces → m ≤ length pieces
    → decoded_block m size pieces j ≡ data_block m size (seats_of pieces) (concat (blocks_of pieces)) j
decoded_block_is m size pieces j long enough =
    let by_pieces = λ (t : ℕ). weighted_sum m m (seat_of pieces) (byte_at pieces t) j in
    ext_get_or 0 (decoded_block m size pieces j) (data_block m size (seats_of pieces) (concat (blocks_of pieces)) j)
    (length-map-range_with_len by_pieces 0 size ∙ sym (length-data_block m size (seats_of pieces) (concat (blocks_of pieces)) j))
    (λ t h.
    let within : t < size = omega (arith, length-map-range_with_len by_pieces 0 size) in
    get_or-map-range_with_len by_pieces 0 size t t 0 within (omega arith)
    ∙ weighted_sum_same m m (seat_of pieces) (byte_at pieces t) (byte_of size (concat (blocks_of pieces)) t) j
    (λ i hi. sym (byte_of-blocks size pieces i t long (omega arith) within))
    ∙ sym (get_or-data_block m size (seats_of pieces) (concat (blocks_of pieces)) j t within))

-- so the first m pieces give back the data blocks of their seats and bytes
pub decoded_is : (m size : ℕ) (pieces : List Piece) (seats blocks : List ℕ) → AreFirst m size pieces seats blocks
    → decoded m size pieces ≡ concat (map (data_block m size seats blocks) (range_with_len 0 m))
unfolding decoded
decoded_is m size pieces seats blocks first =
    let enough : m ≤ length (take m pieces) = omega (arith, length-take-le m pieces first.enough) in
    (λ k. concat (map (λ j. decoded_block_is m size (take m pieces) j first.long enough k) (range_with_len 0 m)))
    ∙ (λ k. concat (map (data_block m size (first.seats_are k) (first.blocks_are k)) (range_with_len 0 m)))

-- the blocks of a content, one after the other, are the content
pub joined : (size n : ℕ) (content : List ℕ) (block : ℕ → List ℕ) → ((j : ℕ) → j < n → block j ≡ block_of size content j)
    → concat (map block (range_with_len 0 n)) ≡ take (n * size) content
joined size zero content block is = let none : 0 ≡ 0 * size = omega arith in ap (λ k. take k content) none
joined size (suc n) content block is =
    let place : n * size + size ≡ suc n * size = omega arith in
    let more : map block (range_with_len 0 (n + 1)) ≡ map block (range_with_len 0 n) ++ (block n ∷ []) = map-range_with_len_more block 0 n n
    (omega arith) in
    ap (λ k. concat (map block (range_with_len 0 k))) (sym (add-one n))
    ∙ ap concat more
    ∙ concat-append (map block (range_with_len 0 n)) (block n ∷ [])
    ∙ (λ k. joined size n content block (λ j h. is j (omega arith)) k ++ append-nil (block n) k)
    ∙ ap (λ last. take (n * size) content ++ last) (is n (omega arith))
    ∙ sym (take-add (n * size) size content)
    ∙ ap (λ k. take k content) place
