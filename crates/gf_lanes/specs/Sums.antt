-- Sums of blocks of elements, each times its weight. The blocks lie one after the other.
use Rattle.std.specs.Prelude.{◌≡◌, ℕ, zero, suc, ◌+◌, ◌*◌, ◌<◌, ◌≤◌, List, map, length, slice_index, bit_xor}
use Rattle.gf_field.specs.Field.{field_mul}
use Rattle.gf_lanes.specs.declared.factor.Factor.{Factor}

-- the sum over each i below n of weight i times value i
unfoldable pub sum_of_products : ℕ → (ℕ → ℕ) → (ℕ → ℕ) → ℕ
sum_of_products zero weight value = 0
sum_of_products (suc i) weight value = bit_xor (sum_of_products i weight value) (field_mul (weight i) (value i))

-- the values of factors
abbrev pub values_of : List Factor → List ℕ
values_of factors = map (λ (factor : Factor). factor.value) factors

-- byte t of that sum, of blocks of `size` bytes
abbrev pub combined : ℕ → List ℕ → List ℕ → ℕ → ℕ
combined size weights blocks t = sum_of_products (length weights) (slice_index weights) (λ i. slice_index blocks (i * size + t))

-- into is the sum of the blocks, each times its weight
pub record IsCombination (weights blocks into : List ℕ) : Type 0 where
  pub each : (t : ℕ) → t < length into → slice_index into t ≡ combined (length into) weights blocks t

-- the same at the places from `from` up to `to`; the others stay
pub record IsCombinedWithin (from to : ℕ) (weights blocks old new : List ℕ) : Type 0 where
  pub each : (t : ℕ) → from ≤ t → t < to → slice_index new t ≡ combined (length old) weights blocks t
  pub below : (t : ℕ) → t < from → slice_index new t ≡ slice_index old t
  pub above : (t : ℕ) → to ≤ t → slice_index new t ≡ slice_index old t
