-- The field of 256 elements over the polynomial x^8 + x^4 + x^3 + x^2 + 1 (0x11D): an element is a byte, seen as a
-- polynomial over bits, and a sum is the exclusive or of two bytes.
use Rattle.std.specs.Prelude.{ℕ, zero, suc}
use Rattle.gf_field.specs.BitPolynomials.{bits_of, number_of, bits_product, remainder}

-- the product of two bytes' polynomials modulo x^8 + x^4 + x^3 + x^2 + 1
unfoldable pub field_mul : ℕ → ℕ → ℕ
field_mul a b = number_of (remainder (bits_product (bits_of 8 a) (bits_of 8 b)))

-- a product, times the squares of `square`, of its square, and so on, n in all
unfoldable pub times_squares : ℕ → ℕ → ℕ → ℕ
times_squares zero square product = product
times_squares (suc n) square product = let next = field_mul square square in times_squares n next (field_mul product next)

-- the inverse of a nonzero byte: its power 254 = 2 + 4 + .. + 128, since its power 255 is 1
unfoldable pub inverse_of : ℕ → ℕ
inverse_of a = times_squares 7 a 1
