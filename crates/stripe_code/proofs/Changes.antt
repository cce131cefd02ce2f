-- What a data block changes by: it is as long as a block, and it makes of each seat's block that of the changed content.
use Rattle.std.proofs.Common.{◌≡◌, ℕ, ◌+◌, ◌*◌, ◌<◌, ◌≤◌, inl, inr, List, length, get_or, sym, ap, subst, ◌∙◌, arith}
use Rattle.std.specs.Prelude.{bit_xor}
use lib.Bits.{xor_assoc, xor_self, xor_lt}
use Rattle.std.proofs.lemmas.Bool.{cases_lt}
use Rattle.std.proofs.lemmas.List.{ext_get_or, get_or_past}
use Rattle.std.proofs.lemmas.List.FromFn.{get_or-map-range_with_len, length-map-range_with_len}
use Rattle.gf_field.specs.Field.{field_mul}
use Rattle.gf_field.specs.Polynomials.{weight_of}
use Rattle.rs_code.specs.Stripes.{block_of, byte_of, coded_block, ChangesBlock}
use Rattle.rs_code.proofs.StripeLaws.{HoldsBytes, length-coded_block, get_or-block_of, coded_block-changed}
use Rattle.reg_model.specs.Registers.{with_block}
use Rattle.quorum.specs.Quorums.{IsWithinLimits}
use Rattle.protocol.specs.Settings.{ModifiesBlocks}
use Rattle.stripe_code.specs.Codes.{block_code, block_delta, modified_block}
use Rattle.stripe_code.proofs.Contents.{bytes_hold, with_block_holds, with_block_own, with_block_other}

-- ---- what a block changes by

-- it is as long as a block
pub length-block_delta : (size : ℕ) (old new : List ℕ) → length (block_delta size old new) ≡ size
unfolding block_delta
length-block_delta size old new = length-map-range_with_len (λ t. bit_xor (get_or old t 0) (get_or new t 0)) 0 size

-- its byte t
get_or-block_delta : (size : ℕ) (old new : List ℕ) (t : ℕ) → t < size
    → get_or (block_delta size old new) t 0 ≡ bit_xor (get_or old t 0) (get_or new t 0)
unfolding block_delta
get_or-block_delta size old new t h = get_or-map-range_with_len (λ t. bit_xor (get_or old t 0) (get_or new t 0)) 0 size t t 0 h (omega arith)

-- it has bytes, as the old and the new block have
delta_holds : (size : ℕ) (old new : List ℕ) → ((t : ℕ) → t < size → get_or old t 0 < 256) → HoldsBytes new → HoldsBytes (block_delta size old new)
delta_holds size old new small_old small_new t =
    elim (cases_lt t size) as (λ _. get_or (block_delta size old new) t 0 < 256) [
      | inl within ↦
          subst (λ y. y < 256) (sym (get_or-block_delta size old new t within))
          (xor_lt 8 (get_or old t 0) (get_or new t 0) (small_old t within) (small_new t))
      | inr past ↦ omega (arith, get_or_past (block_delta size old new) t 0 (omega (arith, past, length-block_delta size old new)))
    ]

-- the old byte plus what it changes by is the new one
changed_byte : (old new : ℕ) → new ≡ bit_xor old (bit_xor old new)
changed_byte old new = sym (ap (λ y. bit_xor y new) (xor_self old)) ∙ xor_assoc old old new

-- the content with block j replaced is the old one changed by it
replaces : (m size j : ℕ) (content bytes : List ℕ) → length content ≡ m * size → length bytes ≡ size → j < m
    → ChangesBlock m size j (block_delta size (block_of size content j) bytes) content (with_block size j bytes content)
replaces m size j content bytes long bytes_long within = record {
  changed = λ t h.
      with_block_own m size j t bytes content long bytes_long within h
      ∙ changed_byte (byte_of size content t j) (get_or bytes t 0)
      ∙ ap (λ y. bit_xor (byte_of size content t j) (bit_xor y (get_or bytes t 0))) (sym (get_or-block_of size content j t h))
      ∙ ap (bit_xor (byte_of size content t j)) (sym (get_or-block_delta size (block_of size content j) bytes t h));
  others = λ i t hi other h. with_block_other m size i j t bytes content long bytes_long within other h;
}

-- ---- a seat's block once a data block changed

-- it is as long as a block
pub length-modified_block : (m size j seat : ℕ) (delta block : List ℕ) → length (modified_block m size j seat delta block) ≡ size
unfolding modified_block
length-modified_block m size j seat delta block =
    length-map-range_with_len (λ t. bit_xor (get_or block t 0) (field_mul (weight_of m (λ i. i) j seat) (get_or delta t 0))) 0 size

-- its byte t
get_or-modified_block : (m size j seat : ℕ) (delta block : List ℕ) (t : ℕ) → t < size
    → get_or (modified_block m size j seat delta block) t 0 ≡ bit_xor (get_or block t 0) (field_mul (weight_of m (λ i. i) j seat) (get_or delta t 0))
unfolding modified_block
get_or-modified_block m size j seat delta block t h =
    get_or-map-range_with_len (λ t. bit_xor (get_or block t 0) (field_mul (weight_of m (λ i. i) j seat) (get_or delta t 0))) 0 size t t 0 h (omega arith)

-- a list with these bytes is that block
pub modified_block-from_bytes : (m size j seat : ℕ) (delta block sum : List ℕ) → length sum ≡ size
    → ((t : ℕ) → t < size → get_or sum t 0 ≡ bit_xor (get_or block t 0) (field_mul (weight_of m (λ i. i) j seat) (get_or delta t 0)))
    → sum ≡ modified_block m size j seat delta block
modified_block-from_bytes m size j seat delta block sum long bytes =
    ext_get_or 0 sum (modified_block m size j seat delta block) (long ∙ sym (length-modified_block m size j seat delta block))
    (λ t h. let within : t < size = omega arith in bytes t within ∙ sym (get_or-modified_block m size j seat delta block t within))

-- it is the block of the changed content
pub modifies_blocks : (m n size : ℕ) → IsWithinLimits m n → ModifiesBlocks (block_code size) size m n
modifies_blocks m n size limits content bytes j seat long small bytes_long small_bytes within seat_within =
    let few : m ≤ 256 = omega (arith, limits.few_blocks) in
    let old_holds : HoldsBytes content = bytes_hold content small in
    let bytes_hold_too : HoldsBytes bytes = bytes_hold bytes small_bytes in
    let delta = block_delta size (block_of size content j) bytes in
    let delta_small : HoldsBytes (block_delta size (block_of size content j) bytes) = delta_holds size (block_of size content j) bytes
    (λ t h. subst (λ y. y < 256) (sym (get_or-block_of size content j t h)) (old_holds (j * size + t))) bytes_hold_too in
    sym (modified_block-from_bytes m size j seat delta (coded_block m size content seat) (coded_block m size (with_block size j bytes content) seat)
    (length-coded_block m size (with_block size j bytes content) seat)
    (λ t h.
    coded_block-changed m size j seat t delta content (with_block size j bytes content) few within delta_small old_holds
    (with_block_holds size j bytes content bytes_hold_too old_holds) (replaces m size j content bytes long bytes_long within) h))
