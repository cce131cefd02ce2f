-- How many bytes the disk's code gives, and what an operation makes of a content.
use Rattle.std.proofs.Common.{◌≡◌, ℕ, ◌*◌, true, List, [], ◌∷◌, length, take, map, ap, ◌∙◌, arith, length-append}
use Rattle.std.specs.List.{concat, range_with_len}
use Rattle.std.specs.Prelude.{nat_eq}
use Rattle.std.proofs.lemmas.Bool.{and_parts, eqb-true, ltb-true}
use Rattle.std.proofs.lemmas.List.FromFn.{length-map-range_with_len, length-range_with_len}
use Rattle.fab_base.specs.declared.asks.Op.{Op}
use Rattle.fab_base.specs.declared.asks.Op.TheVariants.{ReadBlock, WriteBlock, ReadStripe, WriteStripe}
use Rattle.reg_model.specs.Registers.{after_op}
use Rattle.rs_code.specs.Codewords.{weighted_sum}
use Rattle.protocol.specs.Settings.{Piece, are_bytes}
use Rattle.protocol.specs.Nodes.{has_block, has_length}
use Rattle.protocol.proofs.Blocks.{block_room, length_with}
use Rattle.stripe_code.specs.Codes.{decoded, decoded_block, seat_of, byte_at}

-- so many lists of so many numbers, one after the other
length-joined : (size : ℕ) (block : ℕ → List ℕ) → ((j : ℕ) → length (block j) ≡ size) → (seats : List ℕ)
    → length (concat (map block seats)) ≡ length seats * size
length-joined size block long [] = omega arith
length-joined size block long (j ∷ seats) =
    omega (arith, long j, length-append (block j) (concat (map block seats)), length-joined size block long seats)

-- what pieces give back has m blocks, whatever they are
pub length-decoded : (m size : ℕ) (pieces : List Piece) → length (decoded m size pieces) ≡ m * size
unfolding decoded
length-decoded m size pieces =
    length-joined size (decoded_block m size (take m pieces))
    (λ j. length-map-range_with_len (λ t. weighted_sum m m (seat_of (take m pieces)) (byte_at (take m pieces) t) j) 0 size) (range_with_len 0 m)
    ∙ ap (λ n. n * size) (length-range_with_len 0 m)

-- an operation that has its length makes m blocks of m blocks
pub length-after : (m block : ℕ) (op : Op) (content : List ℕ) → has_block m op ≡ true → has_length m block op ≡ true → length content ≡ m * block
    → length (after_op block op content) ≡ m * block
length-after m block (ReadBlock j) content has given long = long
length-after m block ReadStripe content has given long = long
length-after m block (WriteBlock j bytes) content has given long =
    let room = block_room j m block (ltb-true j m has) in
    length_with block j bytes content (omega (arith, room, long)) (eqb-true (length bytes) block (and_parts (are_bytes bytes) (nat_eq (length bytes) block) given).1)
    ∙ long
length-after m block (WriteStripe bytes) content has given long =
    eqb-true (length bytes) (m * block) (and_parts (are_bytes bytes) (nat_eq (length bytes) (m * block)) given).1
