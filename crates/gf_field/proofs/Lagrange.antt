-- Lagrange's formula is the value of the polynomial that is 1 at one point and 0 at the others.
use Rattle.std.proofs.Common.{◌≡◌, ◌≢◌, ℕ, zero, suc, ◌+◌, ◌<◌, ◌≤◌, Bool, true, false, cond, eqb, List, [], ◌∷◌, length, refl, sym, ap, ◌∙◌, arith, add-one, inl, inr}
use Rattle.std.specs.Prelude.{bit_xor}
use lib.Bits.{xor_self}
use Rattle.std.proofs.lemmas.Nat.{xor_lt}
use Rattle.std.proofs.lemmas.Bool.{eq-eqb, ne_eqb, cases_eq}
use Rattle.gf_field.specs.Field.{field_mul, inverse_of}
use Rattle.gf_field.specs.Polynomials.{value, factors, weight_of, AreDistinct, HasDegreeBelow, IsOneAt, IsWeight}
use Rattle.gf_field.proofs.FieldLaws.{field_mul-lt, field_mul-comm, field_mul-zero_left, field_mul-zero_right}
use Rattle.gf_field.proofs.Inverses.{field_mul-inverse_of, zero_from_product}
use Rattle.gf_field.proofs.Roots.{same_polynomial}
use Rattle.gf_field.proofs.PolynomialLaws.{same_from_xor, with_root, value-with_root, length-with_root, scaled, value-scaled, length-scaled, bytes-scaled}

-- the product of x - (point i) over each i below n other than j, as a polynomial
unfoldable factor_polynomial : ℕ → (ℕ → ℕ) → ℕ → List ℕ
factor_polynomial zero point j = 1 ∷ []
factor_polynomial (suc i) point j = cond (eqb i j) (factor_polynomial i point j) (with_root (point i) (factor_polynomial i point j))

-- the value of a product that skips point j
value_chosen : (t : Bool) (p : List ℕ) (r x f : ℕ) → value p x ≡ f → value (cond t p (with_root r p)) x ≡ cond t f (field_mul f (bit_xor x r))
value_chosen true p r x f e = e
value_chosen false p r x f e = value-with_root r p x ∙ field_mul-comm (bit_xor x r) (value p x) ∙ ap (λ y. field_mul y (bit_xor x r)) e

-- the constant 1 is 1 at each point
value-one : (x : ℕ) → value (1 ∷ []) x ≡ 1
unfolding value
value-one x = ap (bit_xor 1) (field_mul-zero_right x)

-- its value is the product of the values
value-factor_polynomial : (n : ℕ) (point : ℕ → ℕ) (j x : ℕ) → value (factor_polynomial n point j) x ≡ factors n point j x
unfolding factor_polynomial factors
value-factor_polynomial zero point j x = value-one x
value-factor_polynomial (suc i) point j x =
    value_chosen (eqb i j) (factor_polynomial i point j) (point i) x (factors i point j x) (value-factor_polynomial i point j x)

-- it has one more coefficient than points, as long as j is none of them
length_before : (n : ℕ) (point : ℕ → ℕ) (j : ℕ) → n ≤ j → length (factor_polynomial n point j) ≡ suc n
unfolding factor_polynomial
length_before zero point j h = refl
length_before (suc i) point j h =
    ap (λ t. length (cond t (factor_polynomial i point j) (with_root (point i) (factor_polynomial i point j)))) (ne_eqb i j (λ e. omega arith))
    ∙ length-with_root (point i) (factor_polynomial i point j) ∙ ap suc (length_before i point j (omega arith))

-- it has as many coefficients as points, once j is one of them
length_after : (n : ℕ) (point : ℕ → ℕ) (j : ℕ) → j < n → length (factor_polynomial n point j) ≡ n
unfolding factor_polynomial
length_after zero point j h = absurd (omega arith)
length_after (suc i) point j h =
    elim (cases_eq i j) as (λ _. length (cond (eqb i j) (factor_polynomial i point j) (with_root (point i) (factor_polynomial i point j))) ≡ suc i) [
      | inl same ↦
          ap (λ t. length (cond t (factor_polynomial i point j) (with_root (point i) (factor_polynomial i point j)))) (eq-eqb i j same)
          ∙ length_before i point j (omega arith)
      | inr other ↦
          ap (λ t. length (cond t (factor_polynomial i point j) (with_root (point i) (factor_polynomial i point j)))) (ne_eqb i j other)
          ∙ length-with_root (point i) (factor_polynomial i point j) ∙ ap suc (length_after i point j (omega arith))
    ]

-- a product that skips point j is a byte
factors_chosen_lt : (t : Bool) (f d : ℕ) → f < 256 → cond t f (field_mul f d) < 256
factors_chosen_lt true f d h = h
factors_chosen_lt false f d h = field_mul-lt f d

-- a product over points is a byte
pub factors-lt : (n : ℕ) (point : ℕ → ℕ) (j x : ℕ) → factors n point j x < 256
unfolding factors
factors-lt zero point j x = omega arith
factors-lt (suc i) point j x = factors_chosen_lt (eqb i j) (factors i point j x) (bit_xor x (point i)) (factors-lt i point j x)

-- a product that is 0 stays 0
chosen_zero : (t : Bool) (f d : ℕ) → f ≡ 0 → cond t f (field_mul f d) ≡ 0
chosen_zero true f d e = e
chosen_zero false f d e = ap (λ y. field_mul y d) e ∙ field_mul-zero_left d

-- it is 0 at each of the other points
factors_at_other : (n : ℕ) (point : ℕ → ℕ) (j i : ℕ) → i < n → i ≢ j → factors n point j (point i) ≡ 0
unfolding factors
factors_at_other zero point j i h other = absurd (omega arith)
factors_at_other (suc k) point j i h other =
    elim (cases_eq i k) as (λ _. cond (eqb k j) (factors k point j (point i))
    (field_mul (factors k point j (point i)) (bit_xor (point i) (point k))) ≡ 0) [
      | inl last ↦
          ap (λ t. cond t (factors k point j (point i)) (field_mul (factors k point j (point i)) (bit_xor (point i) (point k))))
          (ne_eqb k j (λ e. other (last ∙ e)))
          ∙ ap (λ y. field_mul (factors k point j (point i)) (bit_xor (point i) (point y))) (sym last)
          ∙ ap (field_mul (factors k point j (point i))) (xor_self (point i)) ∙ field_mul-zero_right (factors k point j (point i))
      | inr before ↦
          chosen_zero (eqb k j) (factors k point j (point i)) (bit_xor (point i) (point k)) (factors_at_other k point j i (omega arith) other)
    ]

-- it is not 0 at point j
pub factors_at_own : (m n : ℕ) (point : ℕ → ℕ) (j : ℕ) → AreDistinct m point → n ≤ m → j < m → factors n point j (point j) ≢ 0
unfolding factors
factors_at_own m zero point j d hn hj e = omega arith
factors_at_own m (suc k) point j d hn hj e =
    elim (cases_eq k j) as (λ _. ⊥) [
      | inl same ↦
          factors_at_own m k point j d (omega arith) hj
          (sym (ap (λ t. cond t (factors k point j (point j)) (field_mul (factors k point j (point j)) (bit_xor (point j) (point k))))
          (eq-eqb k j same)) ∙ e)
      | inr other ↦
          let none : field_mul (factors k point j (point j)) (bit_xor (point j) (point k)) ≡ 0 =
          sym (ap (λ t. cond t (factors k point j (point j)) (field_mul (factors k point j (point j)) (bit_xor (point j) (point k))))
          (ne_eqb k j other)) ∙ e in
          let equal : bit_xor (point j) (point k) ≡ 0 =
          zero_from_product (factors k point j (point j)) (bit_xor (point j) (point k)) (factors-lt k point j (point j))
          (factors_at_own m k point j d (omega arith) hj)
          (xor_lt 8 (point j) (point k) (d.bytes j hj) (d.bytes k (omega arith))) none in
          d.apart j k hj (omega arith) (λ e. other (sym e)) (same_from_xor (point j) (point k) equal)
    ]

-- the polynomial of degree below m that is 1 at point j and 0 at the other points
pub lagrange : ℕ → (ℕ → ℕ) → ℕ → List ℕ
lagrange m point j = scaled (inverse_of (factors m point j (point j))) (factor_polynomial m point j)

-- its value is Lagrange's formula
pub value-lagrange : (m : ℕ) (point : ℕ → ℕ) (j x : ℕ) → value (lagrange m point j) x ≡ weight_of m point j x
unfolding lagrange weight_of
value-lagrange m point j x =
    value-scaled (inverse_of (factors m point j (point j))) (factor_polynomial m point j) x
    ∙ ap (field_mul (inverse_of (factors m point j (point j)))) (value-factor_polynomial m point j x)
    ∙ field_mul-comm (inverse_of (factors m point j (point j))) (factors m point j x)

-- its degree is below m
degree-lagrange : (m : ℕ) (point : ℕ → ℕ) (j : ℕ) → j < m → HasDegreeBelow m (lagrange m point j)
unfolding lagrange
degree-lagrange m point j h = record {
  count = length-scaled (inverse_of (factors m point j (point j))) (factor_polynomial m point j) ∙ length_after m point j h;
  bytes = bytes-scaled (inverse_of (factors m point j (point j))) (factor_polynomial m point j);
}

-- the weight of point j is 1 there
pub weight_at_own : (m : ℕ) (point : ℕ → ℕ) (j : ℕ) → AreDistinct m point → j < m → weight_of m point j (point j) ≡ 1
unfolding weight_of
weight_at_own m point j d h =
    field_mul-inverse_of (factors m point j (point j)) (factors-lt m point j (point j)) (factors_at_own m m point j d (omega arith) h)

-- and 0 at the other points
pub weight_at_other : (m : ℕ) (point : ℕ → ℕ) (j i : ℕ) → i < m → i ≢ j → weight_of m point j (point i) ≡ 0
unfolding weight_of
weight_at_other m point j i h other =
    ap (λ y. field_mul y (inverse_of (factors m point j (point j)))) (factors_at_other m point j i h other)
    ∙ field_mul-zero_left (inverse_of (factors m point j (point j)))

-- it is 1 at point j and 0 at the others
pub lagrange_IsOneAt : (m : ℕ) (point : ℕ → ℕ) (j : ℕ) → AreDistinct m point → j < m → IsOneAt m point j (lagrange m point j)
lagrange_IsOneAt m point j d h = record {
  degree = degree-lagrange m point j h;
  one = value-lagrange m point j (point j) ∙ weight_at_own m point j d h;
  others = λ i hi other. value-lagrange m point j (point i) ∙ weight_at_other m point j i hi other;
}

-- no other polynomial of degree below m is
IsOneAt-unique : (m : ℕ) (point : ℕ → ℕ) (j : ℕ) → AreDistinct m point → (p q : List ℕ) → IsOneAt m point j p → IsOneAt m point j q → p ≡ q
IsOneAt-unique m point j d p q hp hq =
    same_polynomial m point d p q hp.degree hq.degree (λ i hi.
    elim (cases_eq i j) as (λ _. value p (point i) ≡ value q (point i)) [
      | inl own ↦ ap (λ k. value p (point k)) own ∙ hp.one ∙ sym hq.one ∙ ap (λ k. value q (point k)) (sym own)
      | inr other ↦ hp.others i hi other ∙ sym (hq.others i hi other)
    ])

-- Lagrange's formula is the weight
pub weight_of-IsWeight : (m : ℕ) (point : ℕ → ℕ) (j x : ℕ) → AreDistinct m point → j < m → IsWeight m point j x (weight_of m point j x)
weight_of-IsWeight m point j x d h = record {
  polynomial = lagrange m point j;
  is_one_at = lagrange_IsOneAt m point j d h;
  only = λ p other. IsOneAt-unique m point j d p (lagrange m point j) other (lagrange_IsOneAt m point j d h);
  weight = sym (value-lagrange m point j x);
}

-- a step of a product over the points below i: i is j, or another
pub factors_own : (i : ℕ) (point : ℕ → ℕ) (j x : ℕ) → i ≡ j → factors (i + 1) point j x ≡ factors i point j x
unfolding factors
factors_own i point j x same =
    ap (λ n. factors n point j x) (add-one i)
    ∙ ap (λ t. cond t (factors i point j x) (field_mul (factors i point j x) (bit_xor x (point i)))) (eq-eqb i j same)

-- the next point is another: its factor is taken
pub factors_other : (i : ℕ) (point : ℕ → ℕ) (j x : ℕ) → i ≢ j → factors (i + 1) point j x ≡ field_mul (factors i point j x) (bit_xor x (point i))
unfolding factors
factors_other i point j x other =
    ap (λ n. factors n point j x) (add-one i)
    ∙ ap (λ t. cond t (factors i point j x) (field_mul (factors i point j x) (bit_xor x (point i)))) (ne_eqb i j other)

-- over no points the product is 1
pub factors_none : (point : ℕ → ℕ) (j x : ℕ) → factors 0 point j x ≡ 1
unfolding factors
factors_none point j x = refl

-- the numbers below m are different
pub numbers_AreDistinct : (m : ℕ) → m ≤ 256 → AreDistinct m (λ i. i)
numbers_AreDistinct m h = record { bytes = λ i hi. omega arith; apart = λ h i hh hi ne. ne }
