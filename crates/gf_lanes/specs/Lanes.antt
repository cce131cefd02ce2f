-- Vectors of 32 elements, and the sum of one list of elements and a multiple of another.
use Rattle.std.specs.Prelude.{◌≡◌, ℕ, ◌<◌, ◌≤◌, List, length, slice_index, bit_xor}
use Rattle.gf_field.specs.Field.{field_mul}

-- v has 32 lanes, and lane k holds f k
pub record HasLanes (v : List ℕ) (f : ℕ → ℕ) : Type 0 where
  pub long : length v ≡ 32
  pub each : (k : ℕ) → k < 32 → slice_index v k ≡ f k

-- new is old plus c times src, element by element
pub record AddsProduct (c : ℕ) (src old new : List ℕ) : Type 0 where
  pub long : length new ≡ length old
  pub each : (k : ℕ) → k < length old → slice_index new k ≡ bit_xor (slice_index old k) (field_mul c (slice_index src k))

-- the same at the places from `from` up to `to`; the others stay
pub record AddsProductWithin (from to c : ℕ) (src old new : List ℕ) : Type 0 where
  pub each : (k : ℕ) → from ≤ k → k < to → slice_index new k ≡ bit_xor (slice_index old k) (field_mul c (slice_index src k))
  pub below : (k : ℕ) → k < from → slice_index new k ≡ slice_index old k
  pub above : (k : ℕ) → to ≤ k → slice_index new k ≡ slice_index old k
