-- Codewords byte by byte: the values of a polynomial at the points 0 to n - 1, of which the first m are the data bytes
-- (Reed and Solomon 1960; Frølund et al. 2004, `encode` and `decode`).
use Rattle.std.specs.Prelude.{◌≡◌, ◌≢◌, ℕ, zero, suc, ◌+◌, ◌*◌, ◌<◌, List, length, slice_index, bit_xor}
use Rattle.gf_field.specs.Field.{field_mul}
use Rattle.gf_field.specs.Polynomials.{value, weight_of, HasDegreeBelow}

-- p is a polynomial of degree below m, with `column i` as its value at each of the m points
pub record PassesThrough (m : ℕ) (point column : ℕ → ℕ) (p : List ℕ) : Type 0 where
  pub degree : HasDegreeBelow m p
  pub values : (i : ℕ) → i < m → value p (point i) ≡ column i

-- y is byte k of the codeword of m data bytes: the value at k of the one polynomial of degree below m whose values at
-- 0 to m - 1 are the data bytes
pub record IsCodedByte (m : ℕ) (column : ℕ → ℕ) (k y : ℕ) : Type 0 where
  pub polynomial : List ℕ
  pub passes : PassesThrough m (λ i. i) column polynomial
  pub only : (p : List ℕ) → PassesThrough m (λ i. i) column p → p ≡ polynomial
  pub coded : y ≡ value polynomial k

-- Lagrange's formula, as far as point n: the sum over each i below n of the weight of point i times value i
unfoldable pub weighted_sum : ℕ → ℕ → (ℕ → ℕ) → (ℕ → ℕ) → ℕ → ℕ
weighted_sum m zero point column x = 0
weighted_sum m (suc i) point column x = bit_xor (weighted_sum m i point column x) (field_mul (weight_of m point i x) (column i))

-- m seats of n: different numbers below n
pub record AreSeats (m n : ℕ) (seats : List ℕ) : Type 0 where
  pub count : length seats ≡ m
  pub within : (i : ℕ) → i < m → slice_index seats i < n
  pub apart : (h i : ℕ) → h < m → i < m → h ≢ i → slice_index seats h ≢ slice_index seats i

-- the weights of the blocks from m on: at place r * m + j that of data block j for block m + r
pub record AreParityWeights (m n : ℕ) (weights : List ℕ) : Type 0 where
  pub each : (r j : ℕ) → m + r < n → j < m → slice_index weights (r * m + j) ≡ weight_of m (λ i. i) j (m + r)
