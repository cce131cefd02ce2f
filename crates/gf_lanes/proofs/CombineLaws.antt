-- Sums of blocks, each times its weight, as far as they have come.
use Rattle.std.proofs.Common.{◌≡◌, ℕ, ◌+◌, ◌-◌, ◌*◌, ◌<◌, ◌≤◌, List, length, get_or, set, take, refl, sym, ap, subst, ◌∙◌, arith, add-one, inl, inr}
use Rattle.std.specs.Prelude.{bit_xor}
use Rattle.std.specs.Simd.Lanes.{zip2, chunk, put_chunk}
use Rattle.std.proofs.lemmas.Bool.{cases_lt, cases_eq}
use Rattle.std.proofs.lemmas.List.{ext_get_or, get_or-map, get_or-take, get_or-set_same, get_or-set_other, length-map, length-take-le, map-set}
use Rattle.std.proofs.lemmas.Simd.{get_or-chunk, get_or-put_chunk_at, get_or-put_chunk_below, get_or-put_chunk_above, length-put_chunk}
use Rattle.gf_field.specs.Field.{field_mul}
use Rattle.gf_lanes.specs.Lanes.{HasLanes}
use Rattle.gf_lanes.specs.Sums.{sum_of_products, combined, values_of, IsCombination, IsCombinedWithin}
use Rattle.gf_lanes.specs.declared.factor.Factor.{Factor}
use Rattle.gf_lanes.proofs.LaneLaws.{lanes-zip2}

-- byte t of the sum of the first n blocks
abbrev pub sum_to : ℕ → ℕ → List ℕ → List ℕ → ℕ → ℕ
sum_to n size weights blocks t = sum_of_products n (λ i. get_or weights i 0) (λ i. get_or blocks (i * size + t) 0)

-- no block is added
pub sum_to-none : (size : ℕ) (weights blocks : List ℕ) (t : ℕ) → sum_to 0 size weights blocks t ≡ 0
unfolding sum_of_products
sum_to-none size weights blocks t = refl

-- one block more
pub sum_to-next : (n size : ℕ) (weights blocks : List ℕ) (t : ℕ)
    → sum_to (n + 1) size weights blocks t ≡ bit_xor (sum_to n size weights blocks t) (field_mul (get_or weights n 0) (get_or blocks (n * size + t) 0))
unfolding sum_of_products
sum_to-next n size weights blocks t = ap (λ m. sum_to m size weights blocks t) (add-one n)

-- a vector of sums takes one block more
pub lanes-added : (n size start at weight : ℕ) (weights blocks sum product : List ℕ) → start ≡ n * size + at → weight ≡ get_or weights n 0
    → HasLanes sum (λ k. sum_to n size weights blocks (at + k)) → HasLanes product (λ k. field_mul weight (get_or (chunk start 32 blocks) k 0))
    → HasLanes (zip2 bit_xor sum product) (λ k. sum_to (n + 1) size weights blocks (at + k))
lanes-added n size start at weight weights blocks sum product starts own sums products =
    let both = lanes-zip2 bit_xor sum product sums.long products.long in
    record {
      long = both.long;
      each = λ k l.
          let place : start + k ≡ n * size + (at + k) = omega arith in
          both.each k l
          ∙ (λ t. bit_xor (sums.each k l t)
          ((products.each k l ∙ (λ s. field_mul (own s) (get_or-chunk start 32 blocks k 0 l s))
          ∙ ap (λ j. field_mul (get_or weights n 0) (get_or blocks j 0)) place) t))
          ∙ sym (sum_to-next n size weights blocks (at + k));
    }

-- a vector of sums is stored
pub sum-stored : (n size at : ℕ) (weights blocks old sum : List ℕ) → n ≡ length weights → size ≡ length old → at + 32 ≤ length old
    → HasLanes sum (λ k. sum_to n size weights blocks (at + k)) → IsCombinedWithin at (at + 32) weights blocks old (put_chunk at old sum)
sum-stored n size at weights blocks old sum all whole room lanes =
    let long = lanes.long in
    record {
      each = λ t from to.
          let place : at + (t - at) ≡ t = omega arith in
          subst (λ j. get_or (put_chunk at old sum) j 0 ≡ combined (length old) weights blocks j) place
          (get_or-put_chunk_at at old sum (t - at) 0 (omega arith) (omega arith) ∙ lanes.each (t - at) (omega arith)
          ∙ (λ i. sum_to (all i) (whole i) weights blocks (at + (t - at))));
      below = λ t before. get_or-put_chunk_below at old sum t 0 before;
      above = λ t behind. get_or-put_chunk_above at old sum t 0 (omega arith);
    }

-- two vectors of sums are stored one behind the other
pub sums-stored : (n at : ℕ) (weights blocks old first second : List ℕ) → n ≡ length weights → at + 64 ≤ length old
    → HasLanes first (λ k. sum_to n (length old) weights blocks (at + k)) → HasLanes second (λ k. sum_to n (length old) weights blocks (at + 32 + k))
    → IsCombinedWithin at (at + 64) weights blocks old (put_chunk (at + 32) (put_chunk at old first) second)
sums-stored n at weights blocks old first second all room low high =
    let mid = put_chunk at old first in
    let long : length mid ≡ length old = length-put_chunk at old first in
    let first_long = low.long in
    let second_long = high.long in
    let each : (t : ℕ) → at ≤ t → t < at + 64 → get_or (put_chunk (at + 32) mid second) t 0 ≡ sum_to n (length old) weights blocks t =
    λ t from to. elim (cases_lt t (at + 32)) as (λ _. get_or (put_chunk (at + 32) mid second) t 0 ≡ sum_to n (length old) weights blocks t) [
      | inl before ↦
          let place : at + (t - at) ≡ t = omega arith in
          get_or-put_chunk_below (at + 32) mid second t 0 before
          ∙ subst (λ j. get_or mid j 0 ≡ sum_to n (length old) weights blocks j) place
          (get_or-put_chunk_at at old first (t - at) 0 (omega arith) (omega arith) ∙ low.each (t - at) (omega arith))
      | inr behind ↦
          let place : at + 32 + (t - (at + 32)) ≡ t = omega arith in
          subst (λ j. get_or (put_chunk (at + 32) mid second) j 0 ≡ sum_to n (length old) weights blocks j) place
          (get_or-put_chunk_at (at + 32) mid second (t - (at + 32)) 0 (omega arith) (omega arith) ∙ high.each (t - (at + 32)) (omega arith))
    ] in
    record {
      each = λ t from to. each t from to ∙ ap (λ m. sum_to m (length old) weights blocks t) all;
      below = λ t before. get_or-put_chunk_below (at + 32) mid second t 0 (omega arith) ∙ get_or-put_chunk_below at old first t 0 before;
      above = λ t behind. get_or-put_chunk_above (at + 32) mid second t 0 (omega arith) ∙ get_or-put_chunk_above at old first t 0 (omega arith);
    }

-- what was combined up to a place, and then from there on
pub combined-further : (at to : ℕ) (weights blocks old mid new : List ℕ) → at ≤ to → length mid ≡ length old → IsCombinedWithin 0 at weights blocks old mid
    → IsCombinedWithin at to weights blocks mid new → IsCombinedWithin 0 to weights blocks old new
combined-further at to weights blocks old mid new le long first second = record {
  each = λ t from before. elim (cases_lt t at) as (λ _. get_or new t 0 ≡ combined (length old) weights blocks t) [
    | inl low ↦ second.below t low ∙ first.each t from low
    | inr high ↦ second.each t high before ∙ ap (λ size. combined size weights blocks t) long
  ];
  below = λ t none. absurd (omega arith);
  above = λ t behind. second.above t behind ∙ first.above t (omega arith);
}

-- one byte more
pub byte-combined : (at byte : ℕ) (weights blocks old mid : List ℕ) → at < length mid → length mid ≡ length old → IsCombinedWithin 0 at weights blocks old mid
    → byte ≡ combined (length mid) weights blocks at → IsCombinedWithin 0 (at + 1) weights blocks old (set mid at byte)
byte-combined at byte weights blocks old mid within long first is = record {
  each = λ t from before. elim (cases_eq t at) as (λ _. get_or (set mid at byte) t 0 ≡ combined (length old) weights blocks t) [
    | inl here ↦
        ap (λ j. get_or (set mid at byte) j 0) here ∙ get_or-set_same mid at byte 0 within ∙ is
        ∙ (λ i. combined (long i) weights blocks (sym here i))
    | inr other ↦ get_or-set_other mid at t byte 0 other ∙ first.each t from (omega arith)
  ];
  below = λ t none. absurd (omega arith);
  above = λ t behind. get_or-set_other mid at t byte 0 (omega arith) ∙ first.above t (omega arith);
}

-- up to the end
pub combination-whole : (to : ℕ) (weights blocks old new : List ℕ) → length new ≡ length old → length old ≤ to → IsCombinedWithin 0 to weights blocks old new
    → IsCombination weights blocks new
combination-whole to weights blocks old new long all within = record {
  each = λ t before. within.each t (omega arith) (omega arith) ∙ ap (λ size. combined size weights blocks t) (sym long);
}

-- the factor at a place
pub value-at : (factors : List Factor) (i : ℕ) (factor d : Factor) → i < length factors → factor ≡ get_or factors i d
    → factor.value ≡ get_or (values_of factors) i 0
value-at factors i factor d within own =
    ap (λ (f : Factor). f.value) own ∙ sym (get_or-map (λ (f : Factor). f.value) factors i d 0 within)

-- a factor is made in its place
pub value-made : (factors : List Factor) (weights : List ℕ) (i : ℕ) (factor : Factor) → i < length factors → factor.value ≡ get_or weights i 0
    → ((k : ℕ) → k < i → get_or (values_of factors) k 0 ≡ get_or weights k 0) → (k : ℕ) → k < i + 1
    → get_or (values_of (set factors i factor)) k 0 ≡ get_or weights k 0
value-made factors weights i factor within own before k lt =
    ap (λ values. get_or values k 0) (map-set (λ (f : Factor). f.value) factors i factor)
    ∙ elim (cases_eq k i) as (λ _. get_or (set (values_of factors) i factor.value) k 0 ≡ get_or weights k 0) [
      | inl here ↦
          ap (λ j. get_or (set (values_of factors) i factor.value) j 0) here
          ∙ get_or-set_same (values_of factors) i factor.value 0 (omega (arith, length-map factors (λ (f : Factor). f.value)))
          ∙ own ∙ ap (λ j. get_or weights j 0) (sym here)
      | inr other ↦ get_or-set_other (values_of factors) i k factor.value 0 other ∙ before k (omega arith)
    ]

-- all are made
pub values-made : (factors : List Factor) (weights : List ℕ) (n : ℕ) → length weights ≡ n → n ≤ length factors
    → ((k : ℕ) → k < n → get_or (values_of factors) k 0 ≡ get_or weights k 0) → take n (values_of factors) ≡ weights
values-made factors weights n long room each =
    let taken : length (take n (values_of factors)) ≡ n =
    length-take-le n (values_of factors) (omega (arith, length-map factors (λ (f : Factor). f.value))) in
    ext_get_or 0 (take n (values_of factors)) weights (taken ∙ sym long)
    (λ k lt. get_or-take n (values_of factors) k 0 (omega arith) ∙ each k (omega arith))
