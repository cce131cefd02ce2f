-- Powers of x, and the tables of them and of their exponents.
use Rattle.std.proofs.Common.{◌≡◌, ◌≢◌, ℕ, zero, suc, ◌+◌, ◌-◌, ◌<◌, ◌≤◌, Bool, true, eqb, ltb, ltb-true, ◌||◌, List, [], ◌∷◌, get_or, refl, sym, ap, ◌∙◌, arith, inl, inr}
use Rattle.std.proofs.lemmas.Bool.{agree_below, agree_below_at, eqb-true, or_cases}
use Rattle.gf_field.specs.BitPolynomials.{bits_of, number_of, bits_sum, bits_product, times_x, remainder}
use Rattle.gf_field.specs.Field.{field_mul, inverse_of}
use Rattle.gf_field.specs.Powers.{power_of}
use Rattle.gf_field.specs.declared.tables.TheConstants.{POWERS, LOGARITHMS}
use Rattle.gf_field.proofs.FieldLaws.{field_mul-lt, field_mul-assoc, field_mul-one_left}
use Rattle.gf_field.proofs.Inverses.{inverse-unique}

-- a power is a byte
pub power_of-lt : (n : ℕ) → power_of n < 256
unfolding power_of
power_of-lt zero = omega arith
power_of-lt (suc n) = field_mul-lt 2 (power_of n)

-- the product of two powers has the sum of their exponents
pub power_of-add : (m n : ℕ) → field_mul (power_of m) (power_of n) ≡ power_of (m + n)
unfolding power_of
power_of-add zero n =
    let same : n ≡ 0 + n = omega arith in
    field_mul-one_left (power_of n) (power_of-lt n) ∙ ap power_of same
power_of-add (suc m) n =
    let next : suc (m + n) ≡ suc m + n = omega arith in
    field_mul-assoc 2 (power_of m) (power_of n) ∙ ap (field_mul 2) (power_of-add m n) ∙ ap power_of next

-- p, x p, x x p and so on, n in all
powers_from : ℕ → ℕ → List ℕ
powers_from zero p = []
powers_from (suc n) p = p ∷ powers_from n (field_mul 2 p)

-- an entry of that list
powers_from-at : (n i k : ℕ) → k < n → get_or (powers_from n (power_of i)) k 0 ≡ power_of (i + k)
unfolding powers_from power_of
powers_from-at zero i k h = absurd (omega arith)
powers_from-at (suc n) i zero h = ap power_of (omega arith)
powers_from-at (suc n) i (suc k) h = powers_from-at n (suc i) k (omega arith) ∙ ap power_of (omega arith)

-- the table, computed
table_of_powers : POWERS ≡ powers_from 511 1
unfolding powers_from field_mul bits_of number_of bits_sum bits_product times_x remainder
table_of_powers = refl

-- an entry of the table
pub table-power : (k : ℕ) → k < 511 → get_or POWERS k 0 ≡ power_of k
unfolding power_of
table-power k h = ap (λ t. get_or t k 0) table_of_powers ∙ powers_from-at 511 0 k h ∙ ap power_of (omega arith)

-- a is 0, or the power with its exponent
has_exponent : ℕ → Bool
has_exponent a = eqb a 0 || eqb (get_or POWERS (get_or LOGARITHMS a 0) 0) a

-- the 256 cases, computed
all_have_exponents : agree_below has_exponent (λ _. true) 256 ≡ true
unfolding has_exponent
all_have_exponents = refl

-- an exponent is a byte
exponent_is_byte : ℕ → Bool
exponent_is_byte a = ltb (get_or LOGARITHMS a 0) 256

-- the 256 cases, computed
all_exponents_are_bytes : agree_below exponent_is_byte (λ _. true) 256 ≡ true
unfolding exponent_is_byte
all_exponents_are_bytes = refl

-- one of them
exponent-lt : (a : ℕ) → a < 256 → get_or LOGARITHMS a 0 < 256
unfolding exponent_is_byte
exponent-lt a small = ltb-true _ _ (agree_below_at exponent_is_byte (λ _. true) 256 a all_exponents_are_bytes small)

-- a nonzero byte is the power with its exponent
pub table-logarithm : (a : ℕ) → a < 256 → a ≢ 0 → power_of (get_or LOGARITHMS a 0) ≡ a
unfolding has_exponent
table-logarithm a small nonzero =
    sym (table-power (get_or LOGARITHMS a 0) (omega (arith, exponent-lt a small)))
    ∙ elim (or_cases (eqb a 0) (eqb (get_or POWERS (get_or LOGARITHMS a 0) 0) a) (agree_below_at has_exponent (λ _. true) 256 a all_have_exponents small)) as
    (λ _. get_or POWERS (get_or LOGARITHMS a 0) 0 ≡ a) [
      | inl is_zero ↦ absurd (nonzero (eqb-true a 0 is_zero))
      | inr same ↦ eqb-true (get_or POWERS (get_or LOGARITHMS a 0) 0) a same
    ]

-- the power 255 is 1
power_of-255 : power_of 255 ≡ 1
power_of-255 = sym (table-power 255 (omega arith))

-- the product of two nonzero bytes, by their exponents
pub mul-by_exponents : (a b m n : ℕ) → power_of m ≡ a → power_of n ≡ b → power_of (m + n) ≡ field_mul a b
mul-by_exponents a b m n ea eb = sym (power_of-add m n) ∙ (λ i. field_mul (ea i) (eb i))

-- the powers whose exponents add to 255 are inverses
pub opposite-power : (a n : ℕ) → n ≤ 255 → power_of n ≡ a → field_mul a (power_of (255 - n)) ≡ 1
opposite-power a n le e =
    let whole : n + (255 - n) ≡ 255 = omega arith in
    sym (mul-by_exponents a (power_of (255 - n)) n (255 - n) e refl) ∙ ap power_of whole ∙ power_of-255

-- and that of a nonzero byte is the inverse
pub opposite-inverse_of : (a n : ℕ) → a < 256 → a ≢ 0 → n ≤ 255 → power_of n ≡ a → power_of (255 - n) ≡ inverse_of a
opposite-inverse_of a n small nonzero le e = inverse-unique a (power_of (255 - n)) small nonzero (power_of-lt (255 - n)) (opposite-power a n le e)
