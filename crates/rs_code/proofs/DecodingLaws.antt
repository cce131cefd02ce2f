-- The data blocks of a stripe, as far as they are decoded.
use Rattle.std.proofs.Common.{◌≡◌, ◌≢◌, ℕ, ◌+◌, ◌*◌, ◌<◌, ◌≤◌, List, length, get_or, take, Option, Some, None, inl, inr, sym, ap, ◌∙◌, arith}
use Rattle.std.proofs.lemmas.Bool.{cases_eq}
use Rattle.std.proofs.lemmas.Option.{same_Some, IfSome_then}
use Rattle.std.proofs.lemmas.List.{get_or-take, length-map, length-take-le, take-map}
use Rattle.gf_field.specs.Polynomials.{weight_of}
use Rattle.gf_lanes.specs.Sums.{combined, values_of}
use Rattle.gf_lanes.specs.declared.factor.Factor.{Factor}
use Rattle.rs_code.specs.Codewords.{weighted_sum, AreSeats}
use Rattle.rs_code.specs.Stripes.{byte_of, WritesBlock, WritesBlocks, HasDataBelow, IsDecoded, block_of}
use Rattle.rs_code.proofs.StripeLaws.{HoldsBytes, IsDecoded-from_sums, length-block_of, get_or-block_of}
use Rattle.rs_code.proofs.ParityLaws.{combined-by_weights}

-- byte t of data block i, by Lagrange's formula over the seats
abbrev pub data_byte : ℕ → ℕ → List ℕ → List ℕ → ℕ → ℕ → ℕ
data_byte m size seats blocks i t = weighted_sum m m (λ h. get_or seats h 0) (byte_of size blocks t) i

-- a sum by the factors of point x is that byte
pub combined-by_seats : (m size : ℕ) (seats blocks : List ℕ) (factors : List Factor) (x t : ℕ) → length seats ≡ m → length seats ≤ length factors
    → ((i : ℕ) → i < length seats → get_or (values_of factors) i 0 ≡ weight_of (length seats) (λ h. get_or seats h 0) i x)
    → combined size (values_of (take (length seats) factors)) blocks t ≡ data_byte m size seats blocks x t
combined-by_seats m size seats blocks factors x t count room own =
    let value = λ (f : Factor). f.value in
    let taken = take (length seats) factors in
    combined-by_weights (length seats) size (λ h. get_or seats h 0) blocks (values_of taken) x t
    (length-map taken value ∙ length-take-le (length seats) factors room)
    (λ i h. ap (λ l. get_or l i 0) (sym (take-map value (length seats) factors)) ∙ get_or-take (length seats) (values_of factors) i 0 h ∙ own i h)
    ∙ ap (λ n. weighted_sum n n (λ h. get_or seats h 0) (byte_of size blocks t) x) count

-- block j is written, and what waits still waits
pub data-written : (m size : ℕ) (seats blocks : List ℕ) (waiting : Option ℕ) (j : ℕ) (byte : ℕ → ℕ) (old new : List ℕ)
    → ((t : ℕ) → t < size → byte t ≡ data_byte m size seats blocks j t) → WritesBlock size j byte old new
    → HasDataBelow m size seats blocks waiting j old → HasDataBelow m size seats blocks waiting (j + 1) new
data-written m size seats blocks waiting j byte old new is written before = record {
  each = λ i t h not_waiting l. elim (cases_eq i j) as (λ _. byte_of size new t i ≡ data_byte m size seats blocks i t) [
    | inl here ↦ ap (λ k. byte_of size new t k) here ∙ written.own t l ∙ is t l ∙ ap (λ k. data_byte m size seats blocks k t) (sym here)
    | inr other ↦ written.others i t other l ∙ before.each i t (omega arith) not_waiting l
  ];
  waits = IfSome_then waiting before.waits (λ i h. omega (arith, h));
}

-- the block that waits is written together with block j
pub data-both_written : (m size : ℕ) (seats blocks : List ℕ) (h j : ℕ) (first second : ℕ → ℕ) (old new : List ℕ)
    → ((t : ℕ) → t < size → first t ≡ data_byte m size seats blocks h t) → ((t : ℕ) → t < size → second t ≡ data_byte m size seats blocks j t)
    → WritesBlocks size h j first second old new
    → HasDataBelow m size seats blocks (Some h) j old → HasDataBelow m size seats blocks None (j + 1) new
data-both_written m size seats blocks h j first second old new is_first is_second written before = record {
  each = λ i t lt none l. elim (cases_eq i h) as (λ _. byte_of size new t i ≡ data_byte m size seats blocks i t) [
    | inl here ↦
        ap (λ k. byte_of size new t k) here ∙ written.first_own t l ∙ is_first t l ∙ ap (λ k. data_byte m size seats blocks k t) (sym here)
    | inr not_first ↦ elim (cases_eq i j) as (λ _. byte_of size new t i ≡ data_byte m size seats blocks i t) [
      | inl here ↦
          ap (λ k. byte_of size new t k) here ∙ written.second_own t l ∙ is_second t l ∙ ap (λ k. data_byte m size seats blocks k t) (sym here)
      | inr other ↦
          written.others i t not_first other l ∙ before.each i t (omega arith) (λ e. not_first (sym (same_Some h i e))) l
    ]
  ];
  waits = tt;
}

-- the block that waits is written last
pub data-last_written : (m size : ℕ) (seats blocks : List ℕ) (h : ℕ) (byte : ℕ → ℕ) (old new : List ℕ)
    → ((t : ℕ) → t < size → byte t ≡ data_byte m size seats blocks h t) → WritesBlock size h byte old new
    → HasDataBelow m size seats blocks (Some h) m old → HasDataBelow m size seats blocks None m new
data-last_written m size seats blocks h byte old new is written before = record {
  each = λ i t lt none l. elim (cases_eq i h) as (λ _. byte_of size new t i ≡ data_byte m size seats blocks i t) [
    | inl here ↦ ap (λ k. byte_of size new t k) here ∙ written.own t l ∙ is t l ∙ ap (λ k. data_byte m size seats blocks k t) (sym here)
    | inr other ↦ written.others i t other l ∙ before.each i t lt (λ e. other (sym (same_Some h i e))) l
  ];
  waits = tt;
}

-- where none waits, all are decoded
pub data-decoded : (m n size : ℕ) (seats blocks : List ℕ) (waiting : Option ℕ) (stripe : List ℕ) → m ≤ 256 → n ≤ 256 → AreSeats m n seats
    → HoldsBytes blocks → length blocks ≡ m * size → length stripe ≡ m * size → ((i : ℕ) → waiting ≢ Some i) → HasDataBelow m size seats blocks waiting m stripe
    → (j : ℕ) → j < m → IsDecoded m size seats blocks j (block_of size stripe j)
data-decoded m n size seats blocks waiting stripe few few_seats are_seats small long stripe_long none done j within =
    IsDecoded-from_sums m n size seats blocks j (block_of size stripe j) few few_seats are_seats small long within
    (length-block_of m size stripe j stripe_long within)
    (λ t h. get_or-block_of size stripe j t h ∙ done.each j t within (none j) h)
