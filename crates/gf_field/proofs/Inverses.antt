-- Inverses, and that a product is zero only where a factor is.
use Rattle.std.proofs.Common.{◌≡◌, ◌≢◌, inl, inr, ℕ, zero, suc, ◌<◌, Bool, true, eqb, ◌||◌, refl, sym, ap, ◌∙◌, arith}
use Rattle.std.proofs.lemmas.Bool.{agree_below, agree_below_at, eqb-true, or_cases}
use Rattle.gf_field.specs.BitPolynomials.{bits_of, number_of, bits_sum, bits_product, times_x, remainder}
use Rattle.gf_field.specs.Field.{field_mul, times_squares, inverse_of}
use Rattle.gf_field.proofs.FieldLaws.{field_mul-assoc, field_mul-comm, field_mul-lt, field_mul-one_left, field_mul-one_right, field_mul-zero_right}

-- a is 0, or its product with its inverse is 1
has_inverse : ℕ → Bool
has_inverse a = eqb a 0 || eqb (field_mul a (inverse_of a)) 1

-- the 256 cases, computed
all_have_inverses : agree_below has_inverse (λ _. true) 256 ≡ true
unfolding has_inverse inverse_of times_squares field_mul bits_of number_of bits_sum bits_product times_x remainder
all_have_inverses = refl

-- a nonzero byte times its inverse is 1
pub field_mul-inverse_of : (a : ℕ) → a < 256 → a ≢ 0 → field_mul a (inverse_of a) ≡ 1
unfolding has_inverse
field_mul-inverse_of a small nonzero =
    elim (or_cases (eqb a 0) (eqb (field_mul a (inverse_of a)) 1) (agree_below_at has_inverse (λ _. true) 256 a all_have_inverses small)) as
    (λ _. field_mul a (inverse_of a) ≡ 1) [
      | inl is_zero ↦ absurd (nonzero (eqb-true a 0 is_zero))
      | inr is_one ↦ eqb-true (field_mul a (inverse_of a)) 1 is_one
    ]

-- a nonzero byte may be cancelled
pub cancel_left : (a b : ℕ) → a < 256 → a ≢ 0 → b < 256 → field_mul (inverse_of a) (field_mul a b) ≡ b
cancel_left a b ha nonzero hb =
    sym (field_mul-assoc (inverse_of a) a b) ∙ ap (λ y. field_mul y b) (field_mul-comm (inverse_of a) a ∙ field_mul-inverse_of a ha nonzero)
    ∙ field_mul-one_left b hb

-- a product that is 0 has a factor that is 0
pub zero_from_product : (a b : ℕ) → a < 256 → a ≢ 0 → b < 256 → field_mul a b ≡ 0 → b ≡ 0
zero_from_product a b ha nonzero hb none =
    sym (cancel_left a b ha nonzero hb) ∙ ap (field_mul (inverse_of a)) none ∙ field_mul-zero_right (inverse_of a)

-- a product by squares is a byte
times_squares-lt : (n square product : ℕ) → product < 256 → times_squares n square product < 256
unfolding times_squares
times_squares-lt zero square product h = h
times_squares-lt (suc n) square product h = times_squares-lt n (field_mul square square) (field_mul product (field_mul square square))
    (field_mul-lt product (field_mul square square))

-- an inverse is a byte
pub inverse_of-lt : (a : ℕ) → inverse_of a < 256
unfolding inverse_of
inverse_of-lt a = times_squares-lt 7 a 1 (omega arith)

-- a byte has one inverse
pub inverse-unique : (a b : ℕ) → a < 256 → a ≢ 0 → b < 256 → field_mul a b ≡ 1 → b ≡ inverse_of a
inverse-unique a b ha nonzero hb one =
    sym (cancel_left a b ha nonzero hb) ∙ ap (field_mul (inverse_of a)) one ∙ field_mul-one_right (inverse_of a) (inverse_of-lt a)
