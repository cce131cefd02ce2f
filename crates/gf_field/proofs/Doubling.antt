-- The number of a product's remainder, by doublings: what the lists of coefficients come to.
use Rattle.std.proofs.Common.{◌≡◌, ℕ, zero, suc, ◌+◌, ◌*◌, ◌/◌, ◌%◌, ◌^◌, ◌<◌, ◌≤◌, Bool, true, false, cond, eqb, List, [], ◌∷◌, length, take, get_or, refl, sym, ap, ◌∙◌, arith, add-zero, add-one}
use Rattle.std.specs.Prelude.{bit_xor}
use lib.Bits.{xor_assoc, xor_zero_r, xor_self, xor_shifted}
use Rattle.std.proofs.Math.Nat.{pow-suc, pow-le-pow_right}
use Rattle.std.proofs.lemmas.Nat.{xor_comm, xor_mod, xor_shr, xor_block, xor_lt, mod-pow-add, shr-shr, shr_le, pow_pos}
use Rattle.gf_field.specs.BitPolynomials.{bit_sum, bits_of, number_of, bits_sum, bits_product, times_x, remainder, reduced_x8}
use Rattle.gf_field.specs.Field.{field_mul}

-- a byte's polynomial times x, modulo x^8 + x^4 + x^3 + x^2 + 1, as a number
unfoldable pub double : ℕ → ℕ
double a = bit_xor (a % 128 * 2) (a / 128 % 2 * 29)

-- the sums of two pairs, with the inner two exchanged
pub xor_exchange : (a b c d : ℕ) → bit_xor (bit_xor a b) (bit_xor c d) ≡ bit_xor (bit_xor a c) (bit_xor b d)
xor_exchange a b c d =
    xor_assoc a b (bit_xor c d) ∙ ap (bit_xor a) (sym (xor_assoc b c d) ∙ ap (λ y. bit_xor y d) (xor_comm b c) ∙ xor_assoc c b d)
    ∙ sym (xor_assoc a c (bit_xor b d))

-- a bit times 29 is linear
bit_times : (a b : ℕ) → a < 2 → b < 2 → bit_xor a b * 29 ≡ bit_xor (a * 29) (b * 29)
bit_times zero b ha hb = refl
bit_times (suc zero) zero ha hb = refl
bit_times (suc zero) (suc zero) ha hb = refl
bit_times (suc zero) (suc (suc b)) ha hb = absurd (omega arith)
bit_times (suc (suc a)) b ha hb = absurd (omega arith)

-- twice a number is linear
xor_twice : (a b : ℕ) → bit_xor a b * 2 ≡ bit_xor (a * 2) (b * 2)
xor_twice a b =
    let e : bit_xor (a * 2 + 0) (b * 2 + 0) ≡ bit_xor a b * 2 + 0 = xor_block 1 a b 0 0 (omega arith) (omega arith) in
    sym (simp add-zero at e)

-- doubling is linear
pub double-xor : (a b : ℕ) → double (bit_xor a b) ≡ bit_xor (double a) (double b)
unfolding double
double-xor a b =
    let low : bit_xor a b % 128 * 2 ≡ bit_xor (a % 128 * 2) (b % 128 * 2) = ap (λ y. y * 2) (xor_mod a b 7) ∙ xor_twice (a % 128) (b % 128) in
    let high : bit_xor a b / 128 % 2 * 29 ≡ bit_xor (a / 128 % 2 * 29) (b / 128 % 2 * 29) =
    ap (λ y. y % 2 * 29) (xor_shr a b 7) ∙ ap (λ y. y * 29) (xor_mod (a / 128) (b / 128) 1) ∙ bit_times (a / 128 % 2) (b / 128 % 2) (omega arith)
    (omega arith) in
    (λ i. bit_xor (low i) (high i)) ∙ xor_exchange (a % 128 * 2) (b % 128 * 2) (a / 128 % 2 * 29) (b / 128 % 2 * 29)

-- a double is a byte
pub double-lt : (a : ℕ) → double a < 256
unfolding double
double-lt a = xor_lt 8 (a % 128 * 2) (a / 128 % 2 * 29) (omega arith) (omega arith)

-- the number of a sum of two bits
bit-xor : (a b : Bool) → cond (bit_sum a b) 1 0 ≡ bit_xor (cond a 1 0) (cond b 1 0)
bit-xor false false = refl
bit-xor false true = refl
bit-xor true false = refl
bit-xor true true = refl

-- a bit is 0 or 1
bit-lt : (a : Bool) → cond a 1 0 < 2
bit-lt false = omega arith
bit-lt true = omega arith

-- the number of the sum of two polynomials is the sum of their numbers
pub number_of-sum : (p q : List Bool) → number_of (bits_sum p q) ≡ bit_xor (number_of p) (number_of q)
unfolding number_of bits_sum
number_of-sum [] q = refl
number_of-sum (a ∷ p) [] = sym (xor_zero_r _)
number_of-sum (a ∷ p) (b ∷ q) =
    (λ i. number_of-sum p q i * 2 + bit-xor a b i) ∙ sym (xor_block 1 (number_of p) (number_of q) (cond a 1 0) (cond b 1 0) (bit-lt a) (bit-lt b))

-- the lowest k + 1 bits of 2 n + b
low_bits : (n b k : ℕ) → b < 2 → (n * 2 + b) % 2 ^ suc k ≡ n % 2 ^ k * 2 + b
low_bits n b k h =
    let half : (n * 2 + b) / 2 ≡ n = omega arith in
    let odd : (n * 2 + b) % 2 ≡ b = omega arith in
    ap (λ y. (n * 2 + b) % 2 ^ y) (sym (add-one k)) ∙ mod-pow-add (n * 2 + b) k 1 ∙ (λ i. half i % 2 ^ k * 2 + odd i)

-- bit k + 1 of 2 n + b
high_bits : (n b k : ℕ) → b < 2 → (n * 2 + b) / 2 ^ suc k ≡ n / 2 ^ k
high_bits n b k h =
    let half : (n * 2 + b) / 2 ≡ n = omega arith in
    let one : 1 + k ≡ suc k = omega arith in
    ap (λ y. (n * 2 + b) / 2 ^ y) (sym one) ∙ sym (shr-shr (n * 2 + b) 1 k) ∙ ap (λ y. y / 2 ^ k) half

-- the first k coefficients are the lowest k bits
number_of-take : (k : ℕ) (r : List Bool) → number_of (take k r) ≡ number_of r % 2 ^ k
unfolding number_of
number_of-take zero r = omega arith
number_of-take (suc k) [] = omega (arith, pow_pos (suc k))
number_of-take (suc k) (b ∷ r) = (λ i. number_of-take k r i * 2 + cond b 1 0) ∙ sym (low_bits (number_of r) (cond b 1 0) k (bit-lt b))

-- coefficient k is bit k
number_of-bit : (k : ℕ) (r : List Bool) → cond (get_or r k false) 1 0 ≡ number_of r / 2 ^ k % 2
unfolding number_of
number_of-bit k [] = omega (arith, shr_le 0 k)
number_of-bit zero (b ∷ r) = omega (arith, bit-lt b)
number_of-bit (suc k) (b ∷ r) = number_of-bit k r ∙ ap (λ y. y % 2) (sym (high_bits (number_of r) (cond b 1 0) k (bit-lt b)))

-- the other form of x^8 is 29, where it is added
number_of-reduced : (b : Bool) → number_of (cond b reduced_x8 []) ≡ cond b 1 0 * 29
unfolding number_of
number_of-reduced false = refl
number_of-reduced true = refl

-- x times a polynomial is its number's double
pub number_of-times_x : (r : List Bool) → number_of (times_x r) ≡ double (number_of r)
unfolding times_x double number_of
number_of-times_x r =
    let low : number_of (take 7 r) * 2 + 0 ≡ number_of r % 128 * 2 = add-zero (number_of (take 7 r) * 2) ∙ ap (λ y. y * 2) (number_of-take 7 r) in
    let high : number_of (cond (get_or r 7 false) reduced_x8 []) ≡ number_of r / 128 % 2 * 29 = number_of-reduced (get_or r 7 false)
    ∙ ap (λ y. y * 29) (number_of-bit 7 r) in
    number_of-sum (false ∷ take 7 r) (cond (get_or r 7 false) reduced_x8 []) ∙ (λ i. bit_xor (low i) (high i))

-- a constant is its one bit
number_of-one : (a : Bool) → number_of (a ∷ []) ≡ cond a 1 0
unfolding number_of
number_of-one false = refl
number_of-one true = refl

-- the remainder of a + x p
pub number_of-remainder : (a : Bool) (p : List Bool) → number_of (remainder (a ∷ p)) ≡ bit_xor (cond a 1 0) (double (number_of (remainder p)))
unfolding remainder
number_of-remainder a p =
    number_of-sum (a ∷ []) (times_x (remainder p)) ∙ (λ i. bit_xor (number_of-one a i) (number_of-times_x (remainder p) i))

-- the sum of nothing and a polynomial has its remainder
remainder_none_left : (q : List Bool) → number_of (remainder q) ≡ bit_xor (number_of (remainder [])) (number_of (remainder q))
unfolding remainder number_of
remainder_none_left q = refl

-- the same from the right
remainder_none_right : (q : List Bool) → number_of (remainder q) ≡ bit_xor (number_of (remainder q)) (number_of (remainder []))
unfolding remainder number_of
remainder_none_right q = sym (xor_zero_r _)

-- the remainder of a sum is the sum of the remainders
pub number_of-remainder-sum : (p q : List Bool) → number_of (remainder (bits_sum p q)) ≡ bit_xor (number_of (remainder p)) (number_of (remainder q))
unfolding bits_sum
number_of-remainder-sum [] q = remainder_none_left q
number_of-remainder-sum (a ∷ p) [] = remainder_none_right (a ∷ p)
number_of-remainder-sum (a ∷ p) (b ∷ q) =
    number_of-remainder (bit_sum a b) (bits_sum p q)
    ∙ (λ i. bit_xor (bit-xor a b i) (double (number_of-remainder-sum p q i)))
    ∙ ap (bit_xor (bit_xor (cond a 1 0) (cond b 1 0))) (double-xor (number_of (remainder p)) (number_of (remainder q)))
    ∙ xor_exchange (cond a 1 0) (cond b 1 0) (double (number_of (remainder p))) (double (number_of (remainder q)))
    ∙ sym (λ i. bit_xor (number_of-remainder a p i) (number_of-remainder b q i))

-- n bits give a number below 2^n
number_of-lt : (p : List Bool) → number_of p < 2 ^ length p
unfolding number_of
number_of-lt [] = omega arith
number_of-lt (b ∷ p) = omega (arith, number_of-lt p, bit-lt b, pow-suc 2 (length p))

-- below 128 nothing comes to x^8
pub double_small : (n : ℕ) → n < 128 → double n ≡ n * 2
unfolding double
double_small n h =
    let low : n % 128 ≡ n = omega arith in
    let high : n / 128 % 2 ≡ 0 = omega arith in
    (λ i. bit_xor (low i * 2) (high i * 29)) ∙ xor_zero_r (n * 2)

-- the zero polynomial has remainder 0
remainder_of_none : number_of (remainder []) ≡ 0
unfolding remainder number_of
remainder_of_none = refl

-- from 128 on the top bit comes to x^8, and 29 takes its place
pub double_large : (n : ℕ) → 128 ≤ n → n < 256 → double n ≡ bit_xor (n * 2 % 256) 29
unfolding double
double_large n h k =
    let low : n % 128 * 2 ≡ n * 2 % 256 = omega arith in
    let high : n / 128 % 2 * 29 ≡ 29 = omega arith in
    (λ i. bit_xor (low i) (high i))

-- a polynomial of at most eight coefficients is its own remainder
number_of-remainder_short : (p : List Bool) → length p ≤ 8 → number_of (remainder p) ≡ number_of p
unfolding number_of
number_of-remainder_short [] h = remainder_of_none
number_of-remainder_short (a ∷ p) h =
    let shorter : length p ≤ 7 = omega arith in
    let two : 0 < 2 = omega arith in
    let small : number_of p < 128 = omega (arith, number_of-lt p, pow-le-pow_right two shorter) in
    number_of-remainder a p
    ∙ ap (λ n. bit_xor (cond a 1 0) (double n)) (number_of-remainder_short p (omega arith))
    ∙ ap (bit_xor (cond a 1 0)) (double_small (number_of p) small)
    ∙ xor_comm (cond a 1 0) (number_of p * 2)
    ∙ xor_shifted (number_of p) 1 (cond a 1 0) (bit-lt a)

-- a number below 2 is the bit that tells whether it is 1
odd-bit : (x : ℕ) → x < 2 → cond (eqb x 1) 1 0 ≡ x
odd-bit zero h = refl
odd-bit (suc zero) h = refl
odd-bit (suc (suc x)) h = absurd (omega arith)

-- a number of n bits has them
number_of-bits_of : (n a : ℕ) → number_of (bits_of n a) ≡ a % 2 ^ n
unfolding number_of bits_of
number_of-bits_of zero a = omega arith
number_of-bits_of (suc n) a =
    (λ i. number_of-bits_of n (a / 2) i * 2 + odd-bit (a % 2) (omega arith) i) ∙ sym (mod-pow-add a n 1) ∙ ap (λ y. a % 2 ^ y) (add-one n)

-- n bits are n
length-bits_of : (n a : ℕ) → length (bits_of n a) ≡ n
unfolding bits_of
length-bits_of zero a = refl
length-bits_of (suc n) a = ap suc (length-bits_of n (a / 2))

-- the sum of the doublings of b that the bits choose: b times the first, twice b times the second, and so on
unfoldable pub times : List Bool → ℕ → ℕ
times [] b = 0
times (c ∷ cs) b = bit_xor (cond c b 0) (double (times cs b))

-- x times a polynomial doubles the remainder
remainder_shifted : (p : List Bool) → number_of (remainder (false ∷ p)) ≡ double (number_of (remainder p))
remainder_shifted p = number_of-remainder false p

-- the remainder of eight coefficients, where a bit takes them
remainder_chosen : (a : Bool) (q : List Bool) → length q ≡ 8 → number_of (remainder (cond a q [])) ≡ cond a (number_of q) 0
remainder_chosen false q long = remainder_of_none
remainder_chosen true q long = number_of-remainder_short q (omega arith)

-- the remainder of a product with eight coefficients, by doublings
number_of-product : (p q : List Bool) → length q ≡ 8 → number_of (remainder (bits_product p q)) ≡ times p (number_of q)
unfolding bits_product times
number_of-product [] q long = remainder_of_none
number_of-product (a ∷ p) q long =
    number_of-remainder-sum (cond a q []) (false ∷ bits_product p q)
    ∙ (λ i. bit_xor (remainder_chosen a q long i) (remainder_shifted (bits_product p q) i))
    ∙ ap (λ n. bit_xor (cond a (number_of q) 0) (double n)) (number_of-product p q long)

-- a product in the field, by doublings
pub field_mul-is : (a b : ℕ) → field_mul a b ≡ times (bits_of 8 a) (b % 256)
unfolding field_mul
field_mul-is a b = number_of-product (bits_of 8 a) (bits_of 8 b) (length-bits_of 8 b) ∙ ap (times (bits_of 8 a)) (number_of-bits_of 8 b)

-- ---- sums of doublings

-- a bit takes a sum as it takes its parts
chosen-xor : (c : Bool) (a b : ℕ) → cond c (bit_xor a b) 0 ≡ bit_xor (cond c a 0) (cond c b 0)
chosen-xor false a b = refl
chosen-xor true a b = refl

-- sums of doublings of a sum
pub times-xor : (cs : List Bool) (a b : ℕ) → times cs (bit_xor a b) ≡ bit_xor (times cs a) (times cs b)
unfolding times
times-xor [] a b = refl
times-xor (c ∷ cs) a b =
    (λ i. bit_xor (chosen-xor c a b i) (double (times-xor cs a b i)))
    ∙ ap (bit_xor (bit_xor (cond c a 0) (cond c b 0))) (double-xor (times cs a) (times cs b))
    ∙ xor_exchange (cond c a 0) (cond c b 0) (double (times cs a)) (double (times cs b))

-- the sum of two bits takes a number as often as both do, modulo 2
chosen-sum : (c d : Bool) (b : ℕ) → cond (bit_sum c d) b 0 ≡ bit_xor (cond c b 0) (cond d b 0)
chosen-sum false d b = refl
chosen-sum true false b = sym (xor_zero_r b)
chosen-sum true true b = sym (xor_self b)

-- sums of doublings by the bits of a sum
pub times-sum : (cs ds : List Bool) (b : ℕ) → times (bits_sum cs ds) b ≡ bit_xor (times cs b) (times ds b)
unfolding times bits_sum
times-sum [] ds b = refl
times-sum (c ∷ cs) [] b = sym (xor_zero_r _)
times-sum (c ∷ cs) (d ∷ ds) b =
    (λ i. bit_xor (chosen-sum c d b i) (double (times-sum cs ds b i)))
    ∙ ap (bit_xor (bit_xor (cond c b 0) (cond d b 0))) (double-xor (times cs b) (times ds b))
    ∙ xor_exchange (cond c b 0) (cond d b 0) (double (times cs b)) (double (times ds b))

-- a bit takes a double as it takes the number
chosen-double : (c : Bool) (b : ℕ) → cond c (double b) 0 ≡ double (cond c b 0)
unfolding double
chosen-double false b = refl
chosen-double true b = refl

-- twice 0 is 0
double-zero : double 0 ≡ 0
unfolding double
double-zero = refl

-- sums of doublings of a double
pub times-double : (cs : List Bool) (b : ℕ) → times cs (double b) ≡ double (times cs b)
unfolding times
times-double [] b = sym double-zero
times-double (c ∷ cs) b =
    (λ i. bit_xor (chosen-double c b i) (double (times-double cs b i))) ∙ sym (double-xor (cond c b 0) (double (times cs b)))

-- a sum of doublings of a byte is a byte
pub times-lt : (cs : List Bool) (b : ℕ) → b < 256 → times cs b < 256
unfolding times
times-lt [] b h = omega arith
times-lt (c ∷ cs) b h = xor_lt 8 (cond c b 0) (double (times cs b)) (chosen_lt c) (double-lt (times cs b))
  where
    chosen_lt : (c : Bool) → cond c b 0 < 256
    chosen_lt false = omega arith
    chosen_lt true = h

-- the lowest bit of a sum
odd-sum : (x y : ℕ) → x < 2 → y < 2 → eqb (bit_xor x y) 1 ≡ bit_sum (eqb x 1) (eqb y 1)
odd-sum zero zero hx hy = refl
odd-sum zero (suc zero) hx hy = refl
odd-sum zero (suc (suc y)) hx hy = absurd (omega arith)
odd-sum (suc zero) zero hx hy = refl
odd-sum (suc zero) (suc zero) hx hy = refl
odd-sum (suc zero) (suc (suc y)) hx hy = absurd (omega arith)
odd-sum (suc (suc x)) y hx hy = absurd (omega arith)

-- the bits of a sum are the sums of the bits
pub bits_of-xor : (n a b : ℕ) → bits_of n (bit_xor a b) ≡ bits_sum (bits_of n a) (bits_of n b)
unfolding bits_of bits_sum
bits_of-xor zero a b = refl
bits_of-xor (suc n) a b =
    (λ i. (ap (λ y. eqb y 1) (xor_mod a b 1) ∙ odd-sum (a % 2) (b % 2) (omega arith) (omega arith)) i ∷ (ap (bits_of n) (xor_shr a b 1)
    ∙ bits_of-xor n (a / 2) (b / 2)) i)

-- the n lowest bits are those of the remainder by 2^n
pub bits_of-mod : (n a : ℕ) → bits_of n (a % 2 ^ n) ≡ bits_of n a
unfolding bits_of
bits_of-mod zero a = refl
bits_of-mod (suc n) a =
    let sum : a % 2 ^ suc n ≡ (a / 2 % 2 ^ n) * 2 + a % 2 = ap (λ y. a % 2 ^ y) (sym (add-one n)) ∙ mod-pow-add a n 1 in
    let odd : a % 2 ^ suc n % 2 ≡ a % 2 = omega arith in
    let half : a % 2 ^ suc n / 2 ≡ a / 2 % 2 ^ n = omega arith in
    (λ i. eqb (odd i) 1 ∷ (ap (bits_of n) half ∙ bits_of-mod n (a / 2)) i)

-- what a bit takes may be added to the product first
chosen-next : (t : Bool) (product power rest : ℕ) → bit_xor product (bit_xor (cond t power 0) rest) ≡ bit_xor
    (cond t (bit_xor product power) product) rest
chosen-next true product power rest = sym (xor_assoc product power rest)
chosen-next false product power rest = refl

-- a step of a sum of doublings: the next bit chooses a power, and the next power is its double
pub times_step : (k n product power : ℕ)
    → bit_xor product (times (bits_of (suc k) n) power) ≡ bit_xor (cond (eqb (n % 2) 1) (bit_xor product power) product)
    (times (bits_of k (n / 2)) (double power))
unfolding times bits_of
times_step k n product power =
    ap (λ y. bit_xor product (bit_xor (cond (eqb (n % 2) 1) power 0) y)) (sym (times-double (bits_of k (n / 2)) power))
    ∙ chosen-next (eqb (n % 2) 1) product power (times (bits_of k (n / 2)) (double power))

-- with no bits left the product is done
pub times_none : (n product power : ℕ) → bit_xor product (times (bits_of 0 n) power) ≡ product
unfolding times bits_of
times_none n product power = xor_zero_r product
