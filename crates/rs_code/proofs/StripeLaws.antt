-- Laws of stripes: what a block of a codeword is, that any m blocks give the stripe, and what a change of a block does.
use Rattle.std.proofs.Common.{◌≡◌, ◌≢◌, ℕ, zero, suc, ◌+◌, ◌*◌, ◌/◌, ◌%◌, ◌<◌, ◌≤◌, List, length, get_or, drop, map, replicate, inl, inr, sym, ap, subst, ◌∙◌, arith, length-take, length-drop}
use Rattle.std.specs.Prelude.{bit_xor}
use Rattle.std.specs.List.{range_with_len}
use Rattle.std.proofs.Math.Nat.{div-lt_iff_lt-mul, mul-le-mul_right}
use Rattle.std.proofs.lemmas.Nat.{mod-mul-add, div-mul-add, div-add-mod', mul-add-lt}
use Rattle.std.proofs.lemmas.Bool.{cases_lt}
use Rattle.std.proofs.lemmas.List.{ext_get_or, get_or-take, get_or-drop, get_or-replicate, get_or_past, length-replicate}
use Rattle.std.proofs.lemmas.List.FromFn.{get_or-map-range_with_len, length-map-range_with_len}
use Rattle.gf_field.specs.Field.{field_mul}
use Rattle.gf_field.specs.Polynomials.{value, weight_of}
use Rattle.gf_field.proofs.Lagrange.{numbers_AreDistinct}
use Rattle.rs_code.specs.Codewords.{PassesThrough, IsCodedByte, weighted_sum, AreSeats}
use Rattle.rs_code.specs.Stripes.{block_of, byte_of, IsCodedBlock, coded_block, HasBlocks, IsDecoded, data_block, ChangesBlock}
use Rattle.rs_code.proofs.CodewordLaws.{through, value-through, through-PassesThrough, PassesThrough-unique, value-IsCodedByte, weighted_sum-IsCodedByte, IsCodedByte-unique, IsCodedByte-changed, seats_AreDistinct, weighted_sum-lt, weighted_sum_zeros}

-- each number of the list is a byte, and so is what stands for a place past its end
abbrev pub HoldsBytes : List ℕ → Type 0
HoldsBytes xs = (n : ℕ) → get_or xs n 0 < 256

-- ---- places in blocks

-- byte t of block j
pub get_or-block_of : (size : ℕ) (blocks : List ℕ) (j t : ℕ) → t < size → get_or (block_of size blocks j) t 0 ≡ byte_of size blocks t j
get_or-block_of size blocks j t h = get_or-take size (drop (j * size) blocks) t 0 h ∙ get_or-drop (j * size) blocks t 0

-- a block of m has its length
pub length-block_of : (m size : ℕ) (blocks : List ℕ) (j : ℕ) → length blocks ≡ m * size → j < m → length (block_of size blocks j) ≡ size
length-block_of m size blocks j long h =
    let room : suc j * size ≤ m * size = mul-le-mul_right size h in
    omega (arith, length-take size (drop (j * size) blocks), length-drop (j * size) blocks)

-- where there is a byte, blocks are not empty
size_not_zero : (m size n : ℕ) → n < m * size → 0 < size
size_not_zero m zero n h = absurd (omega arith)
size_not_zero m (suc size) n h = omega arith

-- two lists of m blocks with the same bytes are equal
same_stripe : (m size : ℕ) (a b : List ℕ) → length a ≡ m * size → length b ≡ m * size
    → ((j t : ℕ) → j < m → t < size → byte_of size a t j ≡ byte_of size b t j) → a ≡ b
same_stripe m size a b ha hb same =
    ext_get_or 0 a b (ha ∙ sym hb)
    (λ n h.
    let within : n < m * size = omega arith in
    let some : 0 < size = size_not_zero m size n within in
    let block : n / size < m = (div-lt_iff_lt-mul some).1 within in
    let place : n / size * size + n % size ≡ n = div-add-mod' n size in
    sym (ap (λ k. get_or a k 0) place) ∙ same (n / size) (n % size) block (omega arith) ∙ ap (λ k. get_or b k 0) place)

-- ---- a block of a codeword

-- Lagrange's formula at each place gives block k
pub IsCodedBlock-from_sums : (m size : ℕ) (stripe : List ℕ) (k : ℕ) (block : List ℕ) → m ≤ 256 → HoldsBytes stripe → length block ≡ size
    → ((t : ℕ) → t < size → get_or block t 0 ≡ weighted_sum m m (λ i. i) (byte_of size stripe t) k) → IsCodedBlock m size stripe k block
IsCodedBlock-from_sums m size stripe k block few small long sums = record {
  long = long;
  bytes = λ t h. subst (IsCodedByte m (byte_of size stripe t) k) (sym (sums t h))
      (weighted_sum-IsCodedByte m (byte_of size stripe t) k few (λ j hj. small (j * size + t)));
}

-- a codeword has one block k
pub IsCodedBlock-unique : (m size : ℕ) (stripe : List ℕ) (k : ℕ) (a b : List ℕ) → m ≤ 256 → IsCodedBlock m size stripe k a
    → IsCodedBlock m size stripe k b → a ≡ b
IsCodedBlock-unique m size stripe k a b few ha hb =
    ext_get_or 0 a b (ha.long ∙ sym hb.long)
    (λ t h. IsCodedByte-unique m (byte_of size stripe t) k (get_or a t 0) (get_or b t 0) few (ha.bytes t (omega (arith, ha.long)))
    (hb.bytes t (omega (arith, ha.long))))

-- byte t of the block by the formula
pub get_or-coded_block : (m size : ℕ) (stripe : List ℕ) (k t : ℕ) → t < size → get_or (coded_block m size stripe k) t 0 ≡ weighted_sum m m (λ i. i)
    (byte_of size stripe t) k
unfolding coded_block
get_or-coded_block m size stripe k t h = get_or-map-range_with_len (λ t. weighted_sum m m (λ i. i) (byte_of size stripe t) k) 0 size t t 0 h
    (omega arith)

-- and its length
pub length-coded_block : (m size : ℕ) (stripe : List ℕ) (k : ℕ) → length (coded_block m size stripe k) ≡ size
unfolding coded_block
length-coded_block m size stripe k = length-map-range_with_len (λ t. weighted_sum m m (λ i. i) (byte_of size stripe t) k) 0 size

-- the block by Lagrange's formula is block k
pub coded_block-IsCodedBlock : (m size : ℕ) (stripe : List ℕ) (k : ℕ) → m ≤ 256 → HoldsBytes stripe
    → IsCodedBlock m size stripe k (coded_block m size stripe k)
coded_block-IsCodedBlock m size stripe k few small =
    IsCodedBlock-from_sums m size stripe k (coded_block m size stripe k) few small (length-coded_block m size stripe k)
    (λ t h. get_or-coded_block m size stripe k t h)

-- its numbers are bytes
pub coded_block-HoldsBytes : (m size : ℕ) (stripe : List ℕ) (k : ℕ) → HoldsBytes (coded_block m size stripe k)
coded_block-HoldsBytes m size stripe k t =
    elim (cases_lt t size) as (λ _. get_or (coded_block m size stripe k) t 0 < 256) [
      | inl within ↦
          subst (λ y. y < 256) (sym (get_or-coded_block m size stripe k t within)) (weighted_sum-lt m m (λ i. i) (byte_of size stripe t) k)
      | inr past ↦
          subst (λ y. y < 256) (sym (get_or_past (coded_block m size stripe k) t 0 (omega (arith, past, length-coded_block m size stripe k))))
          (omega arith)
    ]

-- of a stripe of zeros each block is zeros
pub coded_block_zeros : (m size : ℕ) (stripe : List ℕ) (k : ℕ) → ((n : ℕ) → get_or stripe n 0 ≡ 0) → coded_block m size stripe k ≡ replicate size 0
coded_block_zeros m size stripe k zeros =
    ext_get_or 0 (coded_block m size stripe k) (replicate size 0) (length-coded_block m size stripe k ∙ sym (length-replicate size 0))
    (λ t h.
    let within : t < size = omega (arith, length-coded_block m size stripe k) in
    get_or-coded_block m size stripe k t within
    ∙ weighted_sum_zeros m m (λ i. i) (byte_of size stripe t) k (λ j. zeros (j * size + t)) ∙ sym (get_or-replicate size t 0 0 within))

-- a list with Lagrange's formula at each place is that block
pub coded_block-from_sums : (m size : ℕ) (stripe : List ℕ) (k : ℕ) (block : List ℕ) → length block ≡ size
    → ((t : ℕ) → t < size → get_or block t 0 ≡ weighted_sum m m (λ i. i) (byte_of size stripe t) k) → block ≡ coded_block m size stripe k
coded_block-from_sums m size stripe k block long sums =
    ext_get_or 0 block (coded_block m size stripe k) (long ∙ sym (length-coded_block m size stripe k))
    (λ t h. let within : t < size = omega arith in sums t within ∙ sym (get_or-coded_block m size stripe k t within))

-- block k of the codeword is data block k, for k below m
pub IsCodedBlock-data : (m size : ℕ) (stripe : List ℕ) (k : ℕ) (block : List ℕ) → k < m → length stripe ≡ m * size
    → IsCodedBlock m size stripe k block → block ≡ block_of size stripe k
IsCodedBlock-data m size stripe k block within long h =
    ext_get_or 0 block (block_of size stripe k) (h.long ∙ sym (length-block_of m size stripe k long within))
    (λ t lt.
    let inside : t < size = omega (arith, h.long) in
    let coded = h.bytes t inside in
    coded.coded ∙ coded.passes.values k within ∙ sym (get_or-block_of size stripe k t inside))

-- so Lagrange's formula gives it
pub coded_block-data : (m size : ℕ) (stripe : List ℕ) (k : ℕ) → m ≤ 256 → HoldsBytes stripe → length stripe ≡ m * size → k < m
    → coded_block m size stripe k ≡ block_of size stripe k
coded_block-data m size stripe k few small long within =
    IsCodedBlock-data m size stripe k (coded_block m size stripe k) within long (coded_block-IsCodedBlock m size stripe k few small)

-- ---- the stripe of m blocks

-- the data bytes at a place and the bytes of the m blocks there lie on one polynomial
record OnePolynomial (m : ℕ) (seats : List ℕ) (at_data at_seats : ℕ → ℕ) : Type 0 where
  polynomial : List ℕ
  data_bytes : PassesThrough m (λ i. i) at_data polynomial
  seat_bytes : PassesThrough m (λ i. get_or seats i 0) at_seats polynomial

-- a codeword with these blocks gives that polynomial
one_polynomial : (m size : ℕ) (seats blocks stripe : List ℕ) (t : ℕ) → 0 < m → m ≤ 256 → HasBlocks m size seats blocks stripe → t < size
    → OnePolynomial m seats (byte_of size stripe t) (byte_of size blocks t)
one_polynomial m size seats blocks stripe t some few has h =
    let first = (has.each 0 some).bytes t h in
    record {
      polynomial = first.polynomial;
      data_bytes = first.passes;
      seat_bytes = record {
        degree = first.passes.degree;
        values = λ i hi.
            let other = (has.each i hi).bytes t h in
            ap (λ p. value p (get_or seats i 0)) (PassesThrough-unique m (λ i. i) (byte_of size stripe t)
            (numbers_AreDistinct m few) first.polynomial other.polynomial first.passes other.passes)
            ∙ sym other.coded ∙ get_or-block_of size blocks i t h;
      };
    }

-- any m blocks of a codeword determine the stripe
pub HasBlocks-unique : (m n size : ℕ) (seats blocks a b : List ℕ) → 0 < m → m ≤ 256 → n ≤ 256 → AreSeats m n seats
    → HasBlocks m size seats blocks a → HasBlocks m size seats blocks b → a ≡ b
HasBlocks-unique m n size seats blocks a b some few few_seats are_seats ha hb =
    same_stripe m size a b ha.long hb.long (λ j t hj ht.
    let pa = one_polynomial m size seats blocks a t some few ha ht in
    let pb = one_polynomial m size seats blocks b t some few hb ht in
    sym (pa.data_bytes.values j hj)
    ∙ ap (λ p. value p j) (PassesThrough-unique m (λ i. get_or seats i 0) (byte_of size blocks t)
    (seats_AreDistinct m n seats few_seats are_seats) pa.polynomial pb.polynomial pa.seat_bytes pb.seat_bytes)
    ∙ pb.data_bytes.values j hj)

-- the stripe whose codeword has these blocks at these seats
unfoldable stripe_of : ℕ → ℕ → List ℕ → List ℕ → List ℕ
stripe_of m size seats blocks = map (λ n. value (through m (λ i. get_or seats i 0) (byte_of size blocks (n % size))) (n / size))
    (range_with_len 0 (m * size))

-- byte t of its block j
byte_of-stripe_of : (m size : ℕ) (seats blocks : List ℕ) (t j : ℕ) → t < size → j < m
    → byte_of size (stripe_of m size seats blocks) t j ≡ value (through m (λ i. get_or seats i 0) (byte_of size blocks t)) j
unfolding stripe_of
byte_of-stripe_of m size seats blocks t j ht hj =
    let place : j * size + t < m * size = omega (arith, mul-add-lt j size t m hj ht) in
    get_or-map-range_with_len (λ n. value (through m (λ i. get_or seats i 0) (byte_of size blocks (n % size))) (n / size)) 0 (m * size) (j * size + t)
    (j * size + t) 0 place (omega arith)
    ∙ (λ i. value (through m (λ i. get_or seats i 0) (byte_of size blocks (mod-mul-add j size t ht i))) (div-mul-add j size t ht i))

-- its length
length-stripe_of : (m size : ℕ) (seats blocks : List ℕ) → length (stripe_of m size seats blocks) ≡ m * size
unfolding stripe_of
length-stripe_of m size seats blocks = length-map-range_with_len (λ n. value (through m (λ i. get_or seats i 0) (byte_of size blocks (n % size)))
    (n / size)) 0 (m * size)

-- its codeword has these blocks
stripe_of-HasBlocks : (m n size : ℕ) (seats blocks : List ℕ) → m ≤ 256 → n ≤ 256 → AreSeats m n seats → HoldsBytes blocks → length blocks ≡ m * size
    → HasBlocks m size seats blocks (stripe_of m size seats blocks)
stripe_of-HasBlocks m n size seats blocks few few_seats are_seats small long = record {
  long = length-stripe_of m size seats blocks;
  each = λ i hi. record {
    long = length-block_of m size blocks i long hi;
    bytes = λ t ht.
        let seat = λ (i : ℕ). get_or seats i 0 in
        let column = byte_of size blocks t in
        let passes = through-PassesThrough m seat column (seats_AreDistinct m n seats few_seats are_seats) (λ i hi. small (i * size + t)) in
        value-IsCodedByte m (byte_of size (stripe_of m size seats blocks) t) (seat i) (get_or (block_of size blocks i) t 0)
        (through m seat column) few
        (record { degree = passes.degree; values = λ j hj. sym (byte_of-stripe_of m size seats blocks t j ht hj) })
        (get_or-block_of size blocks i t ht ∙ sym (passes.values i hi));
  };
}

-- Lagrange's formula over the seats gives data block j
pub IsDecoded-from_sums : (m n size : ℕ) (seats blocks : List ℕ) (j : ℕ) (block : List ℕ) → m ≤ 256 → n ≤ 256 → AreSeats m n seats → HoldsBytes blocks
    → length blocks ≡ m * size → j < m → length block ≡ size
    → ((t : ℕ) → t < size → get_or block t 0 ≡ weighted_sum m m (λ i. get_or seats i 0) (byte_of size blocks t) j)
    → IsDecoded m size seats blocks j block
IsDecoded-from_sums m n size seats blocks j block few few_seats are_seats small long within block_long sums =
    let has = stripe_of-HasBlocks m n size seats blocks few few_seats are_seats small long in
    record {
      stripe = stripe_of m size seats blocks;
      has_blocks = has;
      only = λ other h. HasBlocks-unique m n size seats blocks other (stripe_of m size seats blocks) (omega arith) few few_seats are_seats h has;
      decoded =
          ext_get_or 0 block (block_of size (stripe_of m size seats blocks) j)
          (block_long ∙ sym (length-block_of m size (stripe_of m size seats blocks) j (length-stripe_of m size seats blocks) within))
          (λ t h.
          let inside : t < size = omega arith in
          sums t inside ∙ sym (value-through m (λ i. get_or seats i 0) (byte_of size blocks t) j)
          ∙ sym (byte_of-stripe_of m size seats blocks t j inside within) ∙ sym (get_or-block_of size (stripe_of m size seats blocks) j t inside));
    }

-- at a seat Lagrange's formula gives the seat's byte
pub seat_byte : (m n size : ℕ) (seats blocks : List ℕ) (j i t : ℕ) → n ≤ 256 → AreSeats m n seats → HoldsBytes blocks → i < m → get_or seats i 0 ≡ j
    → byte_of size blocks t i ≡ weighted_sum m m (λ i. get_or seats i 0) (byte_of size blocks t) j
seat_byte m n size seats blocks j i t few_seats are_seats small hi own =
    let seat = λ (i : ℕ). get_or seats i 0 in
    let passes = through-PassesThrough m seat (byte_of size blocks t) (seats_AreDistinct m n seats few_seats are_seats)
    (λ i hi. small (i * size + t)) in
    sym (passes.values i hi) ∙ ap (value (through m seat (byte_of size blocks t))) own ∙ value-through m seat (byte_of size blocks t) j

-- a seat that is j holds data block j
pub IsDecoded-from_seat : (m n size : ℕ) (seats blocks : List ℕ) (j i : ℕ) → m ≤ 256 → n ≤ 256 → AreSeats m n seats → HoldsBytes blocks
    → length blocks ≡ m * size → j < m → i < m → get_or seats i 0 ≡ j → IsDecoded m size seats blocks j (block_of size blocks i)
IsDecoded-from_seat m n size seats blocks j i few few_seats are_seats small long within hi own =
    IsDecoded-from_sums m n size seats blocks j (block_of size blocks i) few few_seats are_seats small long within
    (length-block_of m size blocks i long hi)
    (λ t h. get_or-block_of size blocks i t h ∙ seat_byte m n size seats blocks j i t few_seats are_seats small hi own)

-- all blocks decode to one stripe, so a data block is decoded in one way
pub IsDecoded-unique : (m size : ℕ) (seats blocks : List ℕ) (j : ℕ) (a b : List ℕ) → IsDecoded m size seats blocks j a
    → IsDecoded m size seats blocks j b → a ≡ b
IsDecoded-unique m size seats blocks j a b ha hb =
    ha.decoded ∙ ap (λ stripe. block_of size stripe j) (hb.only ha.stripe ha.has_blocks) ∙ sym hb.decoded

-- byte t of data block j by the formula
pub get_or-data_block : (m size : ℕ) (seats blocks : List ℕ) (j t : ℕ) → t < size
    → get_or (data_block m size seats blocks j) t 0 ≡ weighted_sum m m (λ i. get_or seats i 0) (byte_of size blocks t) j
unfolding data_block
get_or-data_block m size seats blocks j t h =
    get_or-map-range_with_len (λ t. weighted_sum m m (λ i. get_or seats i 0) (byte_of size blocks t) j) 0 size t t 0 h (omega arith)

-- and its length
pub length-data_block : (m size : ℕ) (seats blocks : List ℕ) (j : ℕ) → length (data_block m size seats blocks j) ≡ size
unfolding data_block
length-data_block m size seats blocks j = length-map-range_with_len (λ t. weighted_sum m m (λ i. get_or seats i 0) (byte_of size blocks t) j) 0 size

-- the block by Lagrange's formula over the seats is data block j
pub data_block-IsDecoded : (m n size : ℕ) (seats blocks : List ℕ) (j : ℕ) → m ≤ 256 → n ≤ 256 → AreSeats m n seats → HoldsBytes blocks
    → length blocks ≡ m * size → j < m → IsDecoded m size seats blocks j (data_block m size seats blocks j)
data_block-IsDecoded m n size seats blocks j few few_seats are_seats small long within =
    IsDecoded-from_sums m n size seats blocks j (data_block m size seats blocks j) few few_seats are_seats small long within
    (length-data_block m size seats blocks j)
    (λ t h. get_or-data_block m size seats blocks j t h)

-- ---- a change of one data block

-- a block plus the weighted delta is the block of the changed stripe
pub IsCodedBlock-changed : (m size j k : ℕ) (delta old new block sum : List ℕ) → m ≤ 256 → j < m → HoldsBytes delta
    → ChangesBlock m size j delta old new
    → length sum ≡ size → ((t : ℕ) → t < size → get_or sum t 0 ≡ bit_xor (get_or block t 0) (field_mul (weight_of m (λ i. i) j k) (get_or delta t 0)))
    → IsCodedBlock m size old k block → IsCodedBlock m size new k sum
IsCodedBlock-changed m size j k delta old new block sum few within small changes long sums h = record {
  long = long;
  bytes = λ t ht.
      subst (IsCodedByte m (byte_of size new t) k) (sym (sums t ht))
      (IsCodedByte-changed m (byte_of size old t) (byte_of size new t) j (get_or delta t 0) k (get_or block t 0) few within (small t)
      (changes.changed t ht)
      (λ i hi other. changes.others i t hi other ht) (h.bytes t ht));
}

-- so the formula of the changed stripe is the old block plus the weighted delta
pub coded_block-changed : (m size j k t : ℕ) (delta old new : List ℕ) → m ≤ 256 → j < m → HoldsBytes delta → HoldsBytes old → HoldsBytes new
    → ChangesBlock m size j delta old new
    → t < size → get_or (coded_block m size new k) t 0 ≡ bit_xor (get_or (coded_block m size old k) t 0)
    (field_mul (weight_of m (λ i. i) j k) (get_or delta t 0))
coded_block-changed m size j k t delta old new few within small_delta small_old small_new changes h =
    let before = (coded_block-IsCodedBlock m size old k few small_old).bytes t h in
    let after = (coded_block-IsCodedBlock m size new k few small_new).bytes t h in
    IsCodedByte-unique m (byte_of size new t) k (get_or (coded_block m size new k) t 0)
    (bit_xor (get_or (coded_block m size old k) t 0) (field_mul (weight_of m (λ i. i) j k) (get_or delta t 0))) few after
    (IsCodedByte-changed m (byte_of size old t) (byte_of size new t) j (get_or delta t 0) k (get_or (coded_block m size old k) t 0) few within
    (small_delta t) (changes.changed t h)
    (λ i hi other. changes.others i t hi other h) before)

-- the data blocks other than j stay
pub block_of-changed : (m size j i : ℕ) (delta old new : List ℕ) → length old ≡ m * size → length new ≡ m * size → ChangesBlock m size j delta old new
    → i < m → i ≢ j → block_of size new i ≡ block_of size old i
block_of-changed m size j i delta old new old_long new_long changes within other =
    ext_get_or 0 (block_of size new i) (block_of size old i) (length-block_of m size new i new_long within
    ∙ sym (length-block_of m size old i old_long within))
    (λ t h.
    let inside : t < size = omega (arith, length-block_of m size new i new_long within) in
    get_or-block_of size new i t inside ∙ changes.others i t within other inside ∙ sym (get_or-block_of size old i t inside))
