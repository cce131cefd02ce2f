-- Polynomials over the field, each the list of its coefficients with the constant first (Reed and Solomon 1960).
use Rattle.std.specs.Prelude.{◌≡◌, ◌≢◌, ◌==◌, ℕ, zero, suc, ◌<◌, List, [], ◌∷◌, All, length, bit_xor, if◌then◌else◌}
use Rattle.gf_field.specs.Field.{field_mul, inverse_of}

-- the value at x: that of c + x p is c plus x times that of p
unfoldable pub value : List ℕ → ℕ → ℕ
value [] x = 0
value (c ∷ p) x = bit_xor c (field_mul x (value p x))

-- each number is an element
abbrev pub AreBytes : List ℕ → Type 0
AreBytes = All (λ c. c < 256)

-- p is a polynomial of degree below m: a list of m coefficients
pub record HasDegreeBelow (m : ℕ) (p : List ℕ) : Type 0 where
  pub count : length p ≡ m
  pub bytes : AreBytes p

-- m different points, each a byte
pub record AreDistinct (m : ℕ) (point : ℕ → ℕ) : Type 0 where
  pub bytes : (i : ℕ) → i < m → point i < 256
  pub apart : (h i : ℕ) → h < m → i < m → h ≢ i → point h ≢ point i

-- p is 1 at point j of the m points and 0 at the others
pub record IsOneAt (m : ℕ) (point : ℕ → ℕ) (j : ℕ) (p : List ℕ) : Type 0 where
  pub degree : HasDegreeBelow m p
  pub one : value p (point j) ≡ 1
  pub others : (i : ℕ) → i < m → i ≢ j → value p (point i) ≡ 0

-- w is the Lagrange weight of point j of m at x: the value at x of the one polynomial of degree below m that is 1 at
-- that point and 0 at the others
pub record IsWeight (m : ℕ) (point : ℕ → ℕ) (j x w : ℕ) : Type 0 where
  pub polynomial : List ℕ
  pub is_one_at : IsOneAt m point j polynomial
  pub only : (p : List ℕ) → IsOneAt m point j p → p ≡ polynomial
  pub weight : w ≡ value polynomial x

-- the product of x - (point i) over each i below n other than j
unfoldable pub factors : ℕ → (ℕ → ℕ) → ℕ → ℕ → ℕ
factors zero point j x = 1
factors (suc i) point j x = if i == j then factors i point j x else field_mul (factors i point j x) (bit_xor x (point i))

-- Lagrange's formula for that weight: the product of (x - (point i)) / (point j - (point i)) over each i other than j
unfoldable pub weight_of : ℕ → (ℕ → ℕ) → ℕ → ℕ → ℕ
weight_of m point j x = field_mul (factors m point j x) (inverse_of (factors m point j (point j)))
