-- A polynomial of degree below m that is 0 at m points is 0, so m values determine it.
use Rattle.std.proofs.Common.{◌≡◌, ◌≢◌, ℕ, zero, suc, ◌<◌, List, [], ◌∷◌, length, refl, sym, ap, ◌∙◌, arith}
use Rattle.std.specs.Prelude.{bit_xor, All}
use lib.Bits.{xor_assoc, xor_zero_r, xor_self}
use Rattle.std.proofs.lemmas.Nat.{xor_comm, xor_lt}
use Rattle.std.proofs.lemmas.List.Elements.{All-nil, All-cons, All-head, All-tail}
use Rattle.gf_field.specs.Field.{field_mul}
use Rattle.gf_field.specs.Polynomials.{value, AreBytes, AreDistinct, HasDegreeBelow}
use Rattle.gf_field.proofs.Doubling.{xor_exchange}
use Rattle.gf_field.proofs.FieldLaws.{field_mul-xor_left, field_mul-xor_right, field_mul-assoc, field_mul-comm, field_mul-zero_right}
use Rattle.gf_field.proofs.Inverses.{zero_from_product}
use Rattle.gf_field.proofs.PolynomialLaws.{same_from_xor, value-lt, sum_of, value-sum_of, length-sum_of, bytes-sum_of}

-- the quotient of a polynomial by x - r
unfoldable quotient : List ℕ → ℕ → List ℕ
quotient [] r = []
quotient (c ∷ []) r = []
quotient (c ∷ d ∷ p) r = value (d ∷ p) r ∷ quotient (d ∷ p) r

-- a sum in which b stands twice
regroup : (a b c d : ℕ) → bit_xor (bit_xor (bit_xor a b) c) (bit_xor d b) ≡ bit_xor d (bit_xor c a)
regroup a b c d =
    ap (λ y. bit_xor y (bit_xor d b)) (xor_comm (bit_xor a b) c ∙ sym (xor_assoc c a b)) ∙ xor_exchange (bit_xor c a) b d b
    ∙ ap (bit_xor (bit_xor (bit_xor c a) d)) (xor_self b) ∙ xor_zero_r (bit_xor (bit_xor c a) d) ∙ xor_comm (bit_xor c a) d

-- two factors exchanged
mul_exchange : (a b c : ℕ) → field_mul a (field_mul b c) ≡ field_mul b (field_mul a c)
mul_exchange a b c = sym (field_mul-assoc a b c) ∙ ap (λ y. field_mul y c) (field_mul-comm a b) ∙ field_mul-assoc b a c

-- p (x) is (x - r) q (x) + p (r)
value-quotient : (p : List ℕ) (r x : ℕ) → value p x ≡ bit_xor (field_mul (bit_xor x r) (value (quotient p r) x)) (value p r)
unfolding value quotient
value-quotient [] r x = sym (xor_zero_r _ ∙ field_mul-zero_right (bit_xor x r))
value-quotient (c ∷ []) r x =
    ap (bit_xor c) (field_mul-zero_right x ∙ sym (field_mul-zero_right r))
    ∙ sym (ap (λ y. bit_xor y (bit_xor c (field_mul r 0))) (field_mul-zero_right (bit_xor x r)))
value-quotient (c ∷ d ∷ p) r x =
    let at_r = value (d ∷ p) r in
    let rest = value (quotient (d ∷ p) r) x in
    let lower : value (d ∷ p) x ≡ bit_xor (field_mul (bit_xor x r) rest) at_r = value-quotient (d ∷ p) r x in
    let left : field_mul x (value (d ∷ p) x) ≡ bit_xor (field_mul x (field_mul (bit_xor x r) rest)) (field_mul x at_r) =
    ap (field_mul x) lower ∙ field_mul-xor_right x (field_mul (bit_xor x r) rest) at_r in
    let right : field_mul (bit_xor x r) (bit_xor at_r (field_mul x rest)) ≡ bit_xor (bit_xor (field_mul x at_r) (field_mul r at_r))
    (field_mul x (field_mul (bit_xor x r) rest)) =
    field_mul-xor_right (bit_xor x r) at_r (field_mul x rest)
    ∙ (λ i. bit_xor (field_mul-xor_left x r at_r i) (mul_exchange (bit_xor x r) x rest i)) in
    ap (bit_xor c) left ∙ sym (regroup (field_mul x at_r) (field_mul r at_r) (field_mul x (field_mul (bit_xor x r) rest)) c)
    ∙ sym (ap (λ y. bit_xor y (bit_xor c (field_mul r at_r))) right)

-- it has one coefficient fewer
length-quotient : (c : ℕ) (p : List ℕ) (r : ℕ) → length (quotient (c ∷ p) r) ≡ length p
unfolding quotient
length-quotient c [] r = refl
length-quotient c (d ∷ p) r = ap suc (length-quotient d p r)

-- it is of bytes
bytes-quotient : (p : List ℕ) (r : ℕ) → AreBytes p → AreBytes (quotient p r)
unfolding quotient
bytes-quotient [] r bytes = All-nil (λ c. c < 256)
bytes-quotient (c ∷ []) r bytes = All-nil (λ c. c < 256)
bytes-quotient (c ∷ d ∷ p) r bytes =
    let rest = All-tail (λ c. c < 256) c (d ∷ p) bytes in
    All-cons (λ c. c < 256) (value (d ∷ p) r) (quotient (d ∷ p) r) (value-lt (d ∷ p) r rest) (bytes-quotient (d ∷ p) r rest)

-- a polynomial whose higher part and value are 0 has the constant 0
constant_zero : (c x v : ℕ) → v ≡ 0 → bit_xor c (field_mul x v) ≡ 0 → c ≡ 0
constant_zero c x v none e = sym (ap (λ y. bit_xor c (field_mul x y)) none ∙ ap (bit_xor c) (field_mul-zero_right x) ∙ xor_zero_r c) ∙ e

-- a polynomial is zero where its quotient by x - r is, and its value at r
all_zero : (p : List ℕ) (r : ℕ) → All (λ c. c ≡ 0) (quotient p r) → value p r ≡ 0 → All (λ c. c ≡ 0) p
unfolding quotient value
all_zero [] r none at_r = All-nil (λ c. c ≡ 0)
all_zero (c ∷ []) r none at_r = All-cons (λ c. c ≡ 0) c [] (constant_zero c r 0 refl at_r) (All-nil (λ c. c ≡ 0))
all_zero (c ∷ d ∷ p) r none at_r =
    let first = All-head (λ c. c ≡ 0) (value (d ∷ p) r) (quotient (d ∷ p) r) none in
    let rest = All-tail (λ c. c ≡ 0) (value (d ∷ p) r) (quotient (d ∷ p) r) none in
    All-cons (λ c. c ≡ 0) c (d ∷ p) (constant_zero c r (value (d ∷ p) r) first at_r) (all_zero (d ∷ p) r rest first)

-- another root is a root of the quotient
root_of_quotient : (p : List ℕ) (r x : ℕ) → x < 256 → r < 256 → x ≢ r → AreBytes p → value p r ≡ 0 → value p x ≡ 0 → value (quotient p r) x ≡ 0
root_of_quotient p r x hx hr apart bytes at_r at_x =
    let none : field_mul (bit_xor x r) (value (quotient p r) x) ≡ 0 =
    sym (value-quotient p r x ∙ ap (bit_xor (field_mul (bit_xor x r) (value (quotient p r) x))) at_r ∙ xor_zero_r _) ∙ at_x in
    zero_from_product (bit_xor x r) (value (quotient p r) x) (xor_lt 8 x r hx hr) (λ e. apart (same_from_xor x r e))
    (value-lt (quotient p r) x (bytes-quotient p r bytes)) none

-- the first of different points are different
pub fewer_distinct : (m : ℕ) (point : ℕ → ℕ) → AreDistinct (suc m) point → AreDistinct m point
fewer_distinct m point d = record {
  bytes = λ i h. d.bytes i (omega arith);
  apart = λ h i hh hi ne. d.apart h i (omega arith) (omega arith) ne;
}

-- a polynomial of m coefficients that is 0 at m points is 0
pub zero_from_roots : (m : ℕ) (point : ℕ → ℕ) → AreDistinct m point → (p : List ℕ) → length p ≡ m → AreBytes p
    → ((i : ℕ) → i < m → value p (point i) ≡ 0) → All (λ c. c ≡ 0) p
zero_from_roots m point d [] long bytes roots = All-nil (λ c. c ≡ 0)
zero_from_roots zero point d (c ∷ p) long bytes roots = absurd (omega arith)
zero_from_roots (suc m) point d (c ∷ p) long bytes roots =
    let q_bytes : AreBytes (quotient (c ∷ p) (point m)) = bytes-quotient (c ∷ p) (point m) bytes in
    let at_r = roots m (omega arith) in
    let q_roots : (i : ℕ) → i < m → value (quotient (c ∷ p) (point m)) (point i) ≡ 0 = λ i h.
    root_of_quotient (c ∷ p) (point m) (point i) (d.bytes i (omega arith)) (d.bytes m (omega arith))
    (d.apart i m (omega arith) (omega arith) (λ e. omega arith)) bytes at_r (roots i (omega arith)) in
    all_zero (c ∷ p) (point m) (zero_from_roots m point (fewer_distinct m point d) (quotient (c ∷ p) (point m))
    (length-quotient c p (point m) ∙ omega arith) q_bytes q_roots) at_r

-- two polynomials whose sum is zero are equal
same_from_zero : (p q : List ℕ) → length p ≡ length q → All (λ c. c ≡ 0) (sum_of p q) → p ≡ q
unfolding sum_of
same_from_zero [] [] long none = refl
same_from_zero [] (b ∷ q) long none = absurd (omega arith)
same_from_zero (a ∷ p) [] long none = absurd (omega arith)
same_from_zero (a ∷ p) (b ∷ q) long none =
    let first : a ≡ b = same_from_xor a b (All-head (λ c. c ≡ 0) (bit_xor a b) (sum_of p q) none) in
    (λ i. first i ∷ same_from_zero p q (omega arith) (All-tail (λ c. c ≡ 0) (bit_xor a b) (sum_of p q) none) i)

-- two polynomials of degree below m that agree at m points are equal
pub same_polynomial : (m : ℕ) (point : ℕ → ℕ) → AreDistinct m point → (p q : List ℕ) → HasDegreeBelow m p → HasDegreeBelow m q
    → ((i : ℕ) → i < m → value p (point i) ≡ value q (point i)) → p ≡ q
same_polynomial m point d p q hp hq agree =
    same_from_zero p q (hp.count ∙ sym hq.count)
    (zero_from_roots m point d (sum_of p q) (length-sum_of p q ∙ omega (arith, hp.count, hq.count)) (bytes-sum_of p q hp.bytes hq.bytes)
    (λ i h. value-sum_of p q (point i) ∙ ap (λ y. bit_xor y (value q (point i))) (agree i h) ∙ xor_self (value q (point i))))
