-- Polynomials over bits, each the list of its coefficients with the constant first: a byte is one of degree below 8.
use Rattle.std.specs.Prelude.{ℕ, zero, suc, ◌+◌, ◌*◌, ◌/◌, ◌%◌, ◌==◌, not, Bool, true, false, if◌then◌else◌, List, [], ◌∷◌, take, replicate, slice_index_or}

-- the n lowest bits of a number, the lowest first
unfoldable pub bits_of : ℕ → ℕ → List Bool
bits_of zero a = []
bits_of (suc n) a = (a % 2 == 1) ∷ bits_of n (a / 2)

-- the number with these bits
unfoldable pub number_of : List Bool → ℕ
number_of [] = 0
number_of (b ∷ bs) = number_of bs * 2 + (if b then 1 else 0)

-- the sum of two bits, modulo 2
abbrev pub bit_sum : Bool → Bool → Bool
bit_sum false b = b
bit_sum true b = not b

-- the sum of two polynomials: the coefficients of each power are added modulo 2
unfoldable pub bits_sum : List Bool → List Bool → List Bool
bits_sum [] q = q
bits_sum (a ∷ p) [] = a ∷ p
bits_sum (a ∷ p) (b ∷ q) = bit_sum a b ∷ bits_sum p q

-- the product of two polynomials: (a + x p) q = a q + x (p q)
unfoldable pub bits_product : List Bool → List Bool → List Bool
bits_product [] q = []
bits_product (a ∷ p) q = bits_sum (if a then q else []) (false ∷ bits_product p q)

-- x^4 + x^3 + x^2 + 1, which is x^8 modulo x^8 + x^4 + x^3 + x^2 + 1
abbrev pub reduced_x8 : List Bool
reduced_x8 = true ∷ false ∷ true ∷ true ∷ true ∷ []

-- x times a polynomial of eight coefficients, modulo x^8 + x^4 + x^3 + x^2 + 1: each coefficient moves up by one
-- power, and where one comes to x^8, the other form of x^8 is added
unfoldable pub times_x : List Bool → List Bool
times_x r = bits_sum (false ∷ take 7 r) (if slice_index_or r 7 false then reduced_x8 else [])

-- the remainder of a polynomial modulo x^8 + x^4 + x^3 + x^2 + 1, of eight coefficients: that of a + x p is a plus
-- x times that of p
unfoldable pub remainder : List Bool → List Bool
remainder [] = replicate 8 false
remainder (a ∷ p) = bits_sum (a ∷ []) (times_x (remainder p))
