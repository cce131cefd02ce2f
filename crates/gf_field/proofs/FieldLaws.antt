-- The laws of the field, over its definition by polynomials.
use Rattle.std.proofs.Common.{◌≡◌, ℕ, zero, suc, ◌+◌, ◌-◌, ◌*◌, ◌/◌, ◌%◌, ◌^◌, ◌<◌, ◌≤◌, Bool, true, false, cond, eqb, List, [], ◌∷◌, refl, sym, ap, ◌∙◌, arith, inl, inr}
use Rattle.std.specs.Prelude.{bit_xor}
use lib.Bits.{xor_zero_r, xor_self, xor_shifted}
use Rattle.std.proofs.Math.Nat.{pow-suc, div-one}
use Rattle.std.proofs.lemmas.Nat.{xor_mod, shr-shr}
use Rattle.std.proofs.lemmas.Bool.{agree_below, agree_below_at, eqb-true, cases_lt}
use Rattle.gf_field.specs.BitPolynomials.{bits_of, number_of, bits_sum, bits_product, times_x, remainder}
use Rattle.gf_field.specs.Field.{field_mul}
use Rattle.gf_field.proofs.Doubling.{double, double-lt, field_mul-is, times, times-xor, times-sum, times-double, times-lt, bits_of-xor, bits_of-mod, times_step, times_none}

-- a product is a byte
pub field_mul-lt : (a b : ℕ) → field_mul a b < 256
field_mul-lt a b = rw (field_mul-is a b) (times-lt (bits_of 8 a) (b % 256) (omega arith))

-- a product by a sum
pub field_mul-xor_right : (a b c : ℕ) → field_mul a (bit_xor b c) ≡ bit_xor (field_mul a b) (field_mul a c)
field_mul-xor_right a b c =
    field_mul-is a (bit_xor b c) ∙ ap (times (bits_of 8 a)) (xor_mod b c 8) ∙ times-xor (bits_of 8 a) (b % 256) (c % 256)
    ∙ sym (λ i. bit_xor (field_mul-is a b i) (field_mul-is a c i))

-- a sum times an element
pub field_mul-xor_left : (a b c : ℕ) → field_mul (bit_xor a b) c ≡ bit_xor (field_mul a c) (field_mul b c)
field_mul-xor_left a b c =
    field_mul-is (bit_xor a b) c ∙ ap (λ p. times p (c % 256)) (bits_of-xor 8 a b) ∙ times-sum (bits_of 8 a) (bits_of 8 b) (c % 256)
    ∙ sym (λ i. bit_xor (field_mul-is a c i) (field_mul-is b c i))

-- only the low eight bits count
pub field_mul-mod_left : (a b : ℕ) → field_mul (a % 256) b ≡ field_mul a b
unfolding field_mul
field_mul-mod_left a b = ap (λ p. number_of (remainder (bits_product p (bits_of 8 b)))) (bits_of-mod 8 a)

-- and of the other factor
pub field_mul-mod_right : (a b : ℕ) → field_mul a (b % 256) ≡ field_mul a b
unfolding field_mul
field_mul-mod_right a b = ap (λ p. number_of (remainder (bits_product (bits_of 8 a) p))) (bits_of-mod 8 b)

-- a function that takes sums to sums
pub record IsLinear (f : ℕ → ℕ) : Type 0 where
  pub sums : (a b : ℕ) → f (bit_xor a b) ≡ bit_xor (f a) (f b)

-- a linear function takes 0 to 0
linear-zero : (f : ℕ → ℕ) → IsLinear f → f 0 ≡ 0
linear-zero f linear = linear.sums 0 0 ∙ xor_self (f 0)

-- two linear functions that agree at the powers of 2 below 2^n agree below 2^n
pub same_linear : (f g : ℕ → ℕ) → IsLinear f → IsLinear g → (n : ℕ) → ((i : ℕ) → i < n → f (2 ^ i) ≡ g (2 ^ i)) → (a : ℕ) → a < 2 ^ n → f a ≡ g a
same_linear f g lf lg zero basis a small =
    let none : a ≡ 0 = omega arith in
    ap f none ∙ linear-zero f lf ∙ sym (ap g none ∙ linear-zero g lg)
same_linear f g lf lg (suc n) basis a small =
    elim (cases_lt a (2 ^ n)) as (λ _. f a ≡ g a) [
      | inl below ↦ same_linear f g lf lg n (λ i h. basis i (omega arith)) a below
      | inr above ↦
          let rest : a - 2 ^ n < 2 ^ n = omega (arith, pow-suc 2 n) in
          let once : 1 * 2 ^ n ≡ 2 ^ n = omega arith in
          let sum : bit_xor (2 ^ n) (a - 2 ^ n) ≡ 1 * 2 ^ n + (a - 2 ^ n) = sym (ap (λ y. bit_xor y (a - 2 ^ n)) once)
          ∙ xor_shifted 1 n (a - 2 ^ n) rest in
          let parts : a ≡ bit_xor (2 ^ n) (a - 2 ^ n) = omega arith in
          ap f parts ∙ lf.sums (2 ^ n) (a - 2 ^ n)
          ∙ (λ i. bit_xor (basis n (omega arith) i) (same_linear f g lf lg n (λ i h. basis i (omega arith)) (a - 2 ^ n) rest i))
          ∙ sym (lg.sums (2 ^ n) (a - 2 ^ n)) ∙ sym (ap g parts)
    ]

-- the product of two powers of x, in either order
powers_commute : ℕ → ℕ → Bool
powers_commute i j = eqb (field_mul (2 ^ i) (2 ^ j)) (field_mul (2 ^ j) (2 ^ i))

-- the 64 cases, computed
all_powers_commute : agree_below (λ i. agree_below (powers_commute i) (λ _. true) 8) (λ _. true) 8 ≡ true
unfolding powers_commute field_mul bits_of number_of bits_sum bits_product times_x remainder
all_powers_commute = refl

-- one of them
powers_commute_at : (i j : ℕ) → i < 8 → j < 8 → field_mul (2 ^ i) (2 ^ j) ≡ field_mul (2 ^ j) (2 ^ i)
unfolding powers_commute
powers_commute_at i j hi hj =
    let row : agree_below (powers_commute i) (λ _. true) 8 ≡ true = agree_below_at (λ i. agree_below (powers_commute i) (λ _. true) 8)
    (λ _. true) 8 i all_powers_commute hi in
    eqb-true _ _ (agree_below_at (powers_commute i) (λ _. true) 8 j row hj)

-- a product is linear in its first factor
linear_left : (b : ℕ) → IsLinear (λ a. field_mul a b)
linear_left b = record { sums = λ x y. field_mul-xor_left x y b }

-- and in its second
linear_right : (a : ℕ) → IsLinear (λ b. field_mul a b)
linear_right a = record { sums = λ x y. field_mul-xor_right a x y }

-- bytes commute, since the powers of x do
bytes_commute : (a b : ℕ) → a < 256 → b < 256 → field_mul a b ≡ field_mul b a
bytes_commute a b ha hb =
    same_linear (λ a. field_mul a b) (λ a. field_mul b a) (linear_left b) (linear_right b) 8
    (λ i hi. same_linear (λ b. field_mul (2 ^ i) b) (λ b. field_mul b (2 ^ i)) (linear_right (2 ^ i)) (linear_left (2 ^ i)) 8
    (λ j hj. powers_commute_at i j hi hj) b hb) a ha

-- products commute
pub field_mul-comm : (a b : ℕ) → field_mul a b ≡ field_mul b a
field_mul-comm a b =
    sym (field_mul-mod_left a b) ∙ sym (field_mul-mod_right (a % 256) b)
    ∙ bytes_commute (a % 256) (b % 256) (omega arith) (omega arith) ∙ field_mul-mod_right (b % 256) a ∙ field_mul-mod_left b a

-- a product by a double
pub field_mul-double : (a b : ℕ) → b < 256 → field_mul a (double b) ≡ double (field_mul a b)
field_mul-double a b h =
    let low : double b % 256 ≡ double b = omega (arith, double-lt b) in
    let same : b % 256 ≡ b = omega arith in
    field_mul-is a (double b) ∙ ap (times (bits_of 8 a)) low ∙ times-double (bits_of 8 a) b
    ∙ ap (λ y. double (times (bits_of 8 a) y)) (sym same) ∙ ap double (sym (field_mul-is a b))

-- a double times an element
double_mul : (b c : ℕ) → b < 256 → field_mul (double b) c ≡ double (field_mul b c)
double_mul b c h = field_mul-comm (double b) c ∙ field_mul-double c b h ∙ ap double (field_mul-comm c b)

-- 0 times an element
pub field_mul-zero_left : (b : ℕ) → field_mul 0 b ≡ 0
field_mul-zero_left b = linear-zero (λ a. field_mul a b) (linear_left b)

-- an element times 0
pub field_mul-zero_right : (a : ℕ) → field_mul a 0 ≡ 0
field_mul-zero_right a = linear-zero (λ b. field_mul a b) (linear_right a)

-- what a bit takes, times an element
chosen_mul : (t : Bool) (b c : ℕ) → field_mul (cond t b 0) c ≡ cond t (field_mul b c) 0
chosen_mul false b c = field_mul-zero_left c
chosen_mul true b c = refl

-- a sum of doublings times an element
times_mul : (cs : List Bool) (b c : ℕ) → b < 256 → field_mul (times cs b) c ≡ times cs (field_mul b c)
unfolding times
times_mul [] b c h = field_mul-zero_left c
times_mul (t ∷ cs) b c h =
    field_mul-xor_left (cond t b 0) (double (times cs b)) c
    ∙ (λ i. bit_xor (chosen_mul t b c i) ((double_mul (times cs b) c (times-lt cs b h) ∙ ap double (times_mul cs b c h)) i))

-- products associate
pub field_mul-assoc : (a b c : ℕ) → field_mul (field_mul a b) c ≡ field_mul a (field_mul b c)
field_mul-assoc a b c =
    let low : field_mul b c % 256 ≡ field_mul b c = omega (arith, field_mul-lt b c) in
    ap (λ y. field_mul y c) (field_mul-is a b) ∙ times_mul (bits_of 8 a) (b % 256) c (omega arith)
    ∙ ap (times (bits_of 8 a)) (field_mul-mod_left b c ∙ sym low) ∙ sym (field_mul-is a (field_mul b c))

-- the bits of 1 take a number once
times_one : (b : ℕ) → times (bits_of 8 1) b ≡ b
unfolding times bits_of double
times_one b = xor_zero_r b

-- 1 times a byte is that byte
pub field_mul-one_left : (a : ℕ) → a < 256 → field_mul 1 a ≡ a
field_mul-one_left a h =
    let low : a % 256 ≡ a = omega arith in
    field_mul-is 1 a ∙ times_one (a % 256) ∙ low

-- a byte times 1 is that byte
pub field_mul-one_right : (a : ℕ) → a < 256 → field_mul a 1 ≡ a
field_mul-one_right a h = field_mul-comm a 1 ∙ field_mul-one_left a h

-- the bits of 2 take a double once
times_two : (b : ℕ) → times (bits_of 8 2) b ≡ double b
unfolding times bits_of double
times_two b = ap (λ y. bit_xor (y % 128 * 2) (y / 128 % 2 * 29)) (xor_zero_r b)

-- x times an element is its double
pub field_mul-two_left : (a : ℕ) → a < 256 → field_mul 2 a ≡ double a
field_mul-two_left a h =
    let low : a % 256 ≡ a = omega arith in
    field_mul-is 2 a ∙ times_two (a % 256) ∙ ap double low

-- a step of a product a b by the bits of a: the product so far takes the power of b at bit i, and the power doubles
pub mul_step : (a r i product power next_product next_power : ℕ) → i < 8 → power < 256
    → next_product ≡ cond (eqb (a / 2 ^ i % 2) 1) (bit_xor product power) product
    → next_power ≡ field_mul 2 power
    → bit_xor product (times (bits_of (8 - i) (a / 2 ^ i)) power) ≡ r
    → bit_xor next_product (times (bits_of (8 - (i + 1)) (a / 2 ^ (i + 1))) next_power) ≡ r
mul_step a r i product power next_product next_power within small chosen doubled before =
    let left : 8 - i ≡ suc (8 - (i + 1)) = omega arith in
    (λ t. bit_xor (chosen t) (times (bits_of (8 - (i + 1)) (sym (shr-shr a i 1) t)) ((doubled ∙ field_mul-two_left power small) t)))
    ∙ sym (times_step (8 - (i + 1)) (a / 2 ^ i) product power) ∙ ap (λ k. bit_xor product (times (bits_of k (a / 2 ^ i)) power)) (sym left) ∙ before

-- at the start all bits are left, and at the end none
pub mul_start : (a b : ℕ) → b < 256 → times (bits_of 8 (a / 2 ^ 0)) b ≡ field_mul a b
mul_start a b small =
    let same : b ≡ b % 256 = omega arith in
    (λ t. times (bits_of 8 (div-one a t)) (same t)) ∙ sym (field_mul-is a b)

-- at the end no bits are left
pub mul_end : (a r i product power : ℕ) → 8 ≤ i → bit_xor product (times (bits_of (8 - i) (a / 2 ^ i)) power) ≡ r → product ≡ r
mul_end a r i product power all before =
    let done : 0 ≡ 8 - i = omega arith in
    sym (times_none (a / 2 ^ i) product power) ∙ ap (λ k. bit_xor product (times (bits_of k (a / 2 ^ i)) power)) done ∙ before
