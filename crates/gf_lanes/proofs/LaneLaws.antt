-- What the operations on vectors of 32 bytes hold at each lane.
use Rattle.std.proofs.Common.{◌≡◌, ℕ, ◌+◌, ◌*◌, ◌/◌, ◌%◌, ◌<◌, ◌++◌, List, Bool, false, cond, leb, length, get_or, map, replicate, refl, sym, ap, ◌∙◌, arith, inl, inr, Fits, w8}
use Rattle.std.specs.Prelude.{bit_and, bit_xor}
use Rattle.std.specs.List.{range_with_len}
use Rattle.std.proofs.lemmas.List.FromFn.{get_or-map-range_with_len}
use Rattle.std.proofs.lemmas.List.{get_or_append_left}
use Rattle.std.proofs.lemmas.Nat.{and_mask, xor_comm}
use lib.Bits.{xor_zero_r, xor_shifted}
use Rattle.std.specs.Simd.Lanes.{zip2, sel_l, Each1}
use Rattle.std.proofs.lemmas.Simd.{length-zip2, get_or-zip2, get_or-replicate, length-sel_l, get_or-sel_l, Each1-get_or, Each1-from_get_or, below_from_Fits, swz_l, SwzOk, SwzOk-from_below, length-swz_l, get_or-swz_l_below}
use Rattle.std.proofs.lemmas.Bool.{cases_lt, le-leb, lt-leb}
use Rattle.gf_field.specs.Field.{field_mul}
use Rattle.gf_field.proofs.Doubling.{double_small, double_large}
use Rattle.gf_field.proofs.FieldLaws.{field_mul-two_left, field_mul-xor_right}
use Rattle.gf_lanes.specs.Lanes.{HasLanes}

-- an operator on two vectors
pub lanes-zip2 : (f : ℕ → ℕ → ℕ) (a b : List ℕ) → length a ≡ 32 → length b ≡ 32 → HasLanes (zip2 f a b) (λ k. f (get_or a k 0) (get_or b k 0))
lanes-zip2 f a b p q = record {
  long = length-zip2 f a b (p ∙ sym q) ∙ p;
  each = λ k l. get_or-zip2 f a b k 0 0 0 (omega arith) (omega arith);
}

-- a choice of two splats by the comparison of two vectors
pub lanes-select : (t : ℕ → ℕ → Bool) (a b : List ℕ) (y z : ℕ) → length a ≡ 32 → length b ≡ 32
    → HasLanes (sel_l (zip2 t a b) (replicate 32 y) (replicate 32 z)) (λ k. cond (t (get_or a k 0) (get_or b k 0)) y z)
lanes-select t a b y z p q =
    let long : length (zip2 t a b) ≡ 32 = length-zip2 t a b (p ∙ sym q) ∙ p in
    record {
      long = length-sel_l (zip2 t a b) (replicate 32 y) (replicate 32 z) long long ∙ long;
      each = λ k l.
          get_or-sel_l (zip2 t a b) (replicate 32 y) (replicate 32 z) k 0 (omega arith) l l
          ∙ (λ i. cond (get_or-zip2 t a b k 0 0 false (omega arith) (omega arith) i) (get_or-replicate 32 k y 0 l i) (get_or-replicate 32 k z 0 l i));
    }

-- a lane's double
pub lane-double : (x : ℕ) → x < 256 → bit_xor (x * 2 % 256) (cond (leb 128 x) 29 0) ≡ field_mul 2 x
lane-double x h =
    elim (cases_lt x 128) as (λ _. bit_xor (x * 2 % 256) (cond (leb 128 x) 29 0) ≡ field_mul 2 x) [
      | inl small ↦
          let whole : x * 2 % 256 ≡ x * 2 = omega arith in
          (λ i. bit_xor (whole i) (cond (lt-leb 128 x small i) 29 0)) ∙ xor_zero_r (x * 2) ∙ sym (field_mul-two_left x h ∙ double_small x small)
      | inr large ↦ ap (λ t. bit_xor (x * 2 % 256) (cond t 29 0)) (le-leb 128 x large) ∙ sym (field_mul-two_left x h ∙ double_large x large h)
    ]

-- a lane is a byte
pub lane-lt : (v : List ℕ) → (length v ≡ 32) × Each1 (Fits w8) v → (k : ℕ) → k < 32 → get_or v k 0 < 256
lane-lt v h k l = Each1-get_or (λ x. x < 256) v k 0 (omega arith) (below_from_Fits w8 v h.1)

-- an operator on a vector and a splat
pub lanes-splat : (f : ℕ → ℕ → ℕ) (a : List ℕ) (x : ℕ) → length a ≡ 32 → HasLanes (zip2 f a (replicate 32 x)) (λ k. f (get_or a k 0) x)
lanes-splat f a x p =
    let sums = lanes-zip2 f a (replicate 32 x) p refl in
    record { long = sums.long; each = λ k l. sums.each k l ∙ ap (f (get_or a k 0)) (get_or-replicate 32 k x 0 l) }

-- the low half of each lane
pub lanes-low_half : (v : List ℕ) → length v ≡ 32 → HasLanes (zip2 bit_and v (replicate 32 15)) (λ k. get_or v k 0 % 16)
lanes-low_half v long =
    let masked = lanes-splat bit_and v 15 long in
    record { long = masked.long; each = λ k l. masked.each k l ∙ and_mask (get_or v k 0) 4 }

-- places below 16 may be looked up
pub places-ok : (places : List ℕ) (f : ℕ → ℕ) → HasLanes places f → ((k : ℕ) → k < 32 → f k < 16) → SwzOk w8 16 32 0 places
places-ok places f h small =
    let long = h.long in
    SwzOk-from_below w8 16 2 32 0 places refl (omega arith)
    (Each1-from_get_or (λ j. j < 16) places 0 (λ k l. omega (arith, h.each k (omega arith), small k (omega arith))))

-- and each lane then holds what the 16 lanes around it hold there
pub lanes-look_up : (table places : List ℕ) (f : ℕ → ℕ) → HasLanes places f → ((k : ℕ) → k < 32 → f k < 16)
    → HasLanes (swz_l w8 16 table 0 places) (λ k. get_or table (16 * (k / 16) + f k) 0)
lanes-look_up table places f h small =
    let long = h.long in
    record {
      long = length-swz_l w8 16 table 0 places ∙ long;
      each = λ k l.
          let e = h.each k l in
          get_or-swz_l_below w8 16 table 0 places k (omega arith) (omega (arith, small k l)) ∙ ap (λ j. get_or table j 0) (omega arith);
    }

-- lanes taken from other places of a vector
pub lanes-picked : (v : List ℕ) (place : ℕ → ℕ) → length v ≡ 32 → ((k : ℕ) → k < 32 → place k < 32)
    → HasLanes (map (λ k. get_or (v ++ v) (place k) 0) (range_with_len 0 32)) (λ k. get_or v (place k) 0)
lanes-picked v place long within = record {
  long = refl;
  each = λ k l.
      get_or-map-range_with_len (λ j. get_or (v ++ v) (place j) 0) 0 32 k k 0 l (omega arith)
      ∙ get_or_append_left v v 0 (place k) (omega (arith, within k l));
}

-- a product is the sum of those of the two halves
pub field_mul-halves : (c x : ℕ) → bit_xor (field_mul c (x % 16)) (field_mul c (x / 16 * 16)) ≡ field_mul c x
field_mul-halves c x =
    let whole : x / 16 * 16 + x % 16 ≡ x = omega arith in
    sym (field_mul-xor_right c (x % 16) (x / 16 * 16))
    ∙ ap (field_mul c) (xor_comm (x % 16) (x / 16 * 16) ∙ xor_shifted (x / 16) 4 (x % 16) (omega arith) ∙ whole)
