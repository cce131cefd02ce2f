-- Sums and products of polynomials over the field, and their values.
use Rattle.std.proofs.Common.{◌≡◌, ℕ, suc, ◌<◌, List, [], ◌∷◌, length, refl, sym, ap, ◌∙◌, arith, max}
use Rattle.std.specs.Prelude.{bit_xor}
use lib.Bits.{xor_assoc, xor_zero_r, xor_self}
use Rattle.std.proofs.lemmas.Nat.{xor_lt}
use Rattle.std.proofs.lemmas.List.Elements.{All-nil, All-cons, All-head, All-tail}
use Rattle.gf_field.specs.Field.{field_mul}
use Rattle.gf_field.specs.Polynomials.{value, AreBytes}
use Rattle.gf_field.proofs.Doubling.{xor_exchange}
use Rattle.gf_field.proofs.FieldLaws.{field_mul-lt, field_mul-xor_left, field_mul-xor_right, field_mul-assoc, field_mul-comm, field_mul-zero_right}

-- two numbers whose sum is 0 are equal
pub same_from_xor : (a b : ℕ) → bit_xor a b ≡ 0 → a ≡ b
same_from_xor a b none =
    sym (xor_zero_r a) ∙ ap (bit_xor a) (sym (xor_self b)) ∙ sym (xor_assoc a b b) ∙ ap (λ y. bit_xor y b) none

-- a value of a polynomial of bytes is a byte
pub value-lt : (p : List ℕ) (x : ℕ) → AreBytes p → value p x < 256
unfolding value
value-lt [] x bytes = omega arith
value-lt (c ∷ p) x bytes = xor_lt 8 c (field_mul x (value p x)) (All-head (λ c. c < 256) c p bytes) (field_mul-lt x (value p x))

-- the sum of two polynomials
unfoldable pub sum_of : List ℕ → List ℕ → List ℕ
sum_of [] q = q
sum_of (a ∷ p) [] = a ∷ p
sum_of (a ∷ p) (b ∷ q) = bit_xor a b ∷ sum_of p q

-- its value is the sum of the values
pub value-sum_of : (p q : List ℕ) (x : ℕ) → value (sum_of p q) x ≡ bit_xor (value p x) (value q x)
unfolding value sum_of
value-sum_of [] q x = refl
value-sum_of (a ∷ p) [] x = sym (xor_zero_r _)
value-sum_of (a ∷ p) (b ∷ q) x =
    ap (λ y. bit_xor (bit_xor a b) (field_mul x y)) (value-sum_of p q x)
    ∙ ap (bit_xor (bit_xor a b)) (field_mul-xor_right x (value p x) (value q x))
    ∙ xor_exchange a b (field_mul x (value p x)) (field_mul x (value q x))

-- it is as long as the longer of both
pub length-sum_of : (p q : List ℕ) → length (sum_of p q) ≡ max (length p) (length q)
unfolding sum_of
length-sum_of [] q = omega arith
length-sum_of (a ∷ p) [] = omega arith
length-sum_of (a ∷ p) (b ∷ q) = omega (arith, length-sum_of p q)

-- a sum of bytes is of bytes
pub bytes-sum_of : (p q : List ℕ) → AreBytes p → AreBytes q → AreBytes (sum_of p q)
unfolding sum_of
bytes-sum_of [] q hp hq = hq
bytes-sum_of (a ∷ p) [] hp hq = hp
bytes-sum_of (a ∷ p) (b ∷ q) hp hq =
    All-cons (λ c. c < 256) (bit_xor a b) (sum_of p q) (xor_lt 8 a b (All-head (λ c. c < 256) a p hp) (All-head (λ c. c < 256) b q hq))
    (bytes-sum_of p q (All-tail (λ c. c < 256) a p hp) (All-tail (λ c. c < 256) b q hq))

-- c times a polynomial
unfoldable pub scaled : ℕ → List ℕ → List ℕ
scaled c [] = []
scaled c (a ∷ p) = field_mul c a ∷ scaled c p

-- its value is c times the value
pub value-scaled : (c : ℕ) (p : List ℕ) (x : ℕ) → value (scaled c p) x ≡ field_mul c (value p x)
unfolding value scaled
value-scaled c [] x = sym (field_mul-zero_right c)
value-scaled c (a ∷ p) x =
    ap (λ y. bit_xor (field_mul c a) (field_mul x y)) (value-scaled c p x)
    ∙ ap (bit_xor (field_mul c a)) (sym (field_mul-assoc x c (value p x)) ∙ ap (λ y. field_mul y (value p x)) (field_mul-comm x c)
    ∙ field_mul-assoc c x (value p x))
    ∙ sym (field_mul-xor_right c a (field_mul x (value p x)))

-- it is as long
pub length-scaled : (c : ℕ) (p : List ℕ) → length (scaled c p) ≡ length p
unfolding scaled
length-scaled c [] = refl
length-scaled c (a ∷ p) = ap suc (length-scaled c p)

-- it is of bytes
pub bytes-scaled : (c : ℕ) (p : List ℕ) → AreBytes (scaled c p)
unfolding scaled
bytes-scaled c [] = All-nil (λ c. c < 256)
bytes-scaled c (a ∷ p) = All-cons (λ c. c < 256) (field_mul c a) (scaled c p) (field_mul-lt c a) (bytes-scaled c p)

-- a polynomial times x - r
unfoldable pub with_root : ℕ → List ℕ → List ℕ
with_root r p = sum_of (0 ∷ p) (scaled r p)

-- its value is (x - r) times the value
pub value-with_root : (r : ℕ) (p : List ℕ) (x : ℕ) → value (with_root r p) x ≡ field_mul (bit_xor x r) (value p x)
unfolding with_root value
value-with_root r p x =
    value-sum_of (0 ∷ p) (scaled r p) x ∙ ap (bit_xor (field_mul x (value p x))) (value-scaled r p x) ∙ sym (field_mul-xor_left x r (value p x))

-- it has one more coefficient
pub length-with_root : (r : ℕ) (p : List ℕ) → length (with_root r p) ≡ suc (length p)
unfolding with_root
length-with_root r p = omega (arith, length-sum_of (0 ∷ p) (scaled r p), length-scaled r p)

-- it is of bytes
pub bytes-with_root : (r : ℕ) (p : List ℕ) → AreBytes p → AreBytes (with_root r p)
unfolding with_root
bytes-with_root r p bytes = bytes-sum_of (0 ∷ p) (scaled r p) (All-cons (λ c. c < 256) 0 p (omega arith) bytes) (bytes-scaled r p)
