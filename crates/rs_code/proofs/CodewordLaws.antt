-- Interpolation: Lagrange's formula gives the one polynomial of degree below m through m points.
use Rattle.std.proofs.Common.{◌≡◌, ◌≢◌, ℕ, zero, suc, ◌+◌, ◌*◌, ◌<◌, ◌≤◌, List, length, take, get_or, replicate, refl, sym, ap, ◌∙◌, arith, add-one, inl, inr}
use Rattle.std.specs.Prelude.{bit_xor}
use lib.Bits.{xor_zero_r, xor_lt}
use Rattle.std.proofs.lemmas.Bool.{cases_eq}
use Rattle.std.proofs.lemmas.List.{length-replicate, length-take-le, get_or-take}
use Rattle.std.proofs.lemmas.List.Elements.{All-replicate}
use Rattle.gf_field.specs.Field.{field_mul}
use Rattle.gf_field.specs.Polynomials.{value, weight_of, AreDistinct, HasDegreeBelow}
use Rattle.gf_field.proofs.FieldLaws.{field_mul-lt, field_mul-comm, field_mul-one_left, field_mul-zero_left, field_mul-zero_right}
use Rattle.gf_field.proofs.PolynomialLaws.{sum_of, value-sum_of, length-sum_of, bytes-sum_of, scaled, value-scaled, length-scaled, bytes-scaled}
use Rattle.gf_field.proofs.Lagrange.{lagrange, value-lagrange, lagrange_IsOneAt, weight_at_own, weight_at_other, numbers_AreDistinct}
use Rattle.gf_field.proofs.Roots.{same_polynomial}
use Rattle.gf_lanes.specs.Sums.{sum_of_products, combined}
use Rattle.rs_code.specs.Codewords.{PassesThrough, IsCodedByte, weighted_sum, AreSeats}

-- a polynomial plus d times the one that is 1 at point j and 0 at the others
unfoldable raised : ℕ → (ℕ → ℕ) → ℕ → ℕ → List ℕ → List ℕ
raised m point j d p = sum_of p (scaled d (lagrange m point j))

-- its value rises by d times the weight
value-raised : (m : ℕ) (point : ℕ → ℕ) (j d : ℕ) (p : List ℕ) (x : ℕ) → value (raised m point j d p) x ≡ bit_xor (value p x)
    (field_mul (weight_of m point j x) d)
unfolding raised
value-raised m point j d p x =
    value-sum_of p (scaled d (lagrange m point j)) x
    ∙ ap (bit_xor (value p x)) (value-scaled d (lagrange m point j) x ∙ ap (field_mul d) (value-lagrange m point j x)
    ∙ field_mul-comm d (weight_of m point j x))

-- its degree stays below m
degree-raised : (m : ℕ) (point : ℕ → ℕ) (j d : ℕ) (p : List ℕ) → AreDistinct m point → j < m → HasDegreeBelow m p
    → HasDegreeBelow m (raised m point j d p)
unfolding raised
degree-raised m point j d p distinct within degree =
    let one = (lagrange_IsOneAt m point j distinct within).degree in
    record {
      count = length-sum_of p (scaled d (lagrange m point j)) ∙ omega (arith, degree.count, length-scaled d (lagrange m point j), one.count);
      bytes = bytes-sum_of p (scaled d (lagrange m point j)) degree.bytes (bytes-scaled d (lagrange m point j));
    }

-- its value at point j rises by d
raised_at_own : (m : ℕ) (point : ℕ → ℕ) (j d : ℕ) (p : List ℕ) → AreDistinct m point → j < m → d < 256
    → value (raised m point j d p) (point j) ≡ bit_xor (value p (point j)) d
raised_at_own m point j d p distinct within small =
    value-raised m point j d p (point j)
    ∙ ap (bit_xor (value p (point j))) (ap (λ w. field_mul w d) (weight_at_own m point j distinct within) ∙ field_mul-one_left d small)

-- those at the other points stay
raised_at_other : (m : ℕ) (point : ℕ → ℕ) (j i d : ℕ) (p : List ℕ) → AreDistinct m point → j < m → i < m → i ≢ j
    → value (raised m point j d p) (point i) ≡ value p (point i)
raised_at_other m point j i d p distinct within hi other =
    value-raised m point j d p (point i)
    ∙ ap (bit_xor (value p (point i))) (ap (λ w. field_mul w d) (weight_at_other m point j i hi other) ∙ field_mul-zero_left d)
    ∙ xor_zero_r (value p (point i))

-- a list of zeros is 0 at each point
value_of_none : (m x : ℕ) → value (replicate m 0) x ≡ 0
unfolding value
value_of_none zero x = refl
value_of_none (suc m) x = ap (field_mul x) (value_of_none m x) ∙ field_mul-zero_right x

-- the polynomial through the first n points, 0 at the others
unfoldable interpolated : ℕ → ℕ → (ℕ → ℕ) → (ℕ → ℕ) → List ℕ
interpolated m zero point column = replicate m 0
interpolated m (suc i) point column = raised m point i (column i) (interpolated m i point column)

-- its value is Lagrange's formula as far as point n
value-interpolated : (m n : ℕ) (point column : ℕ → ℕ) (x : ℕ) → value (interpolated m n point column) x ≡ weighted_sum m n point column x
unfolding interpolated weighted_sum
value-interpolated m zero point column x = value_of_none m x
value-interpolated m (suc i) point column x =
    value-raised m point i (column i) (interpolated m i point column) x
    ∙ ap (λ y. bit_xor y (field_mul (weight_of m point i x) (column i))) (value-interpolated m i point column x)

-- its degree is below m
degree-interpolated : (m n : ℕ) (point column : ℕ → ℕ) → AreDistinct m point → n ≤ m → HasDegreeBelow m (interpolated m n point column)
unfolding interpolated
degree-interpolated m zero point column distinct h = record {
  count = length-replicate m 0;
  bytes = All-replicate (λ c. c < 256) m 0 (omega arith);
}
degree-interpolated m (suc i) point column distinct h =
    degree-raised m point i (column i) (interpolated m i point column) distinct (omega arith)
    (degree-interpolated m i point column distinct (omega arith))

-- it is 0 at the points that are still to come
interpolated_later : (m n : ℕ) (point column : ℕ → ℕ) (h : ℕ) → AreDistinct m point → n ≤ h → h < m → value (interpolated m n point column)
    (point h) ≡ 0
unfolding interpolated
interpolated_later m zero point column h distinct le within = value_of_none m (point h)
interpolated_later m (suc i) point column h distinct le within =
    raised_at_other m point i h (column i) (interpolated m i point column) distinct (omega arith) within (λ e. omega arith)
    ∙ interpolated_later m i point column h distinct (omega arith) within

-- it has the value of each point that it has passed
interpolated_at : (m n : ℕ) (point column : ℕ → ℕ) (h : ℕ) → AreDistinct m point → ((i : ℕ) → i < m → column i < 256) → h < n → n ≤ m
    → value (interpolated m n point column) (point h) ≡ column h
unfolding interpolated
interpolated_at m zero point column h distinct small lt le = absurd (omega arith)
interpolated_at m (suc i) point column h distinct small lt le =
    elim (cases_eq h i) as (λ _. value (raised m point i (column i) (interpolated m i point column)) (point h) ≡ column h) [
      | inl last ↦
          ap (λ y. value (raised m point i (column i) (interpolated m i point column)) (point y)) last
          ∙ raised_at_own m point i (column i) (interpolated m i point column) distinct (omega arith) (small i (omega arith))
          ∙ ap (λ y. bit_xor y (column i)) (interpolated_later m i point column i distinct (omega arith) (omega arith)) ∙ ap column (sym last)
      | inr before ↦
          raised_at_other m point i h (column i) (interpolated m i point column) distinct (omega arith) (omega arith) before
          ∙ interpolated_at m i point column h distinct small (omega arith) (omega arith)
    ]

-- the polynomial of degree below m through m points
pub through : ℕ → (ℕ → ℕ) → (ℕ → ℕ) → List ℕ
through m point column = interpolated m m point column

-- its value is Lagrange's formula
pub value-through : (m : ℕ) (point column : ℕ → ℕ) (x : ℕ) → value (through m point column) x ≡ weighted_sum m m point column x
unfolding through
value-through m point column x = value-interpolated m m point column x

-- it passes through the points
pub through-PassesThrough : (m : ℕ) (point column : ℕ → ℕ) → AreDistinct m point → ((i : ℕ) → i < m → column i < 256)
    → PassesThrough m point column (through m point column)
unfolding through
through-PassesThrough m point column distinct small = record {
  degree = degree-interpolated m m point column distinct (omega arith);
  values = λ i h. interpolated_at m m point column i distinct small h (omega arith);
}

-- it is the only one
pub PassesThrough-unique : (m : ℕ) (point column : ℕ → ℕ) → AreDistinct m point → (p q : List ℕ) → PassesThrough m point column p
    → PassesThrough m point column q → p ≡ q
PassesThrough-unique m point column distinct p q hp hq =
    same_polynomial m point distinct p q hp.degree hq.degree (λ i h. hp.values i h ∙ sym (hq.values i h))

-- a polynomial through the data bytes has byte k of the codeword as its value at k
pub value-IsCodedByte : (m : ℕ) (column : ℕ → ℕ) (k y : ℕ) (p : List ℕ) → m ≤ 256 → PassesThrough m (λ i. i) column p → y ≡ value p k
    → IsCodedByte m column k y
value-IsCodedByte m column k y p few passes coded = record {
  polynomial = p;
  passes = passes;
  only = λ q other. PassesThrough-unique m (λ i. i) column (numbers_AreDistinct m few) q p other passes;
  coded = coded;
}

-- Lagrange's formula gives it
pub weighted_sum-IsCodedByte : (m : ℕ) (column : ℕ → ℕ) (k : ℕ) → m ≤ 256 → ((i : ℕ) → i < m → column i < 256)
    → IsCodedByte m column k (weighted_sum m m (λ i. i) column k)
weighted_sum-IsCodedByte m column k few small =
    value-IsCodedByte m column k (weighted_sum m m (λ i. i) column k) (through m (λ i. i) column) few
    (through-PassesThrough m (λ i. i) column (numbers_AreDistinct m few) small)
    (sym (value-through m (λ i. i) column k))

-- a codeword has one byte k
pub IsCodedByte-unique : (m : ℕ) (column : ℕ → ℕ) (k y z : ℕ) → m ≤ 256 → IsCodedByte m column k y → IsCodedByte m column k z → y ≡ z
IsCodedByte-unique m column k y z few hy hz =
    hy.coded ∙ ap (λ p. value p k) (PassesThrough-unique m (λ i. i) column
    (numbers_AreDistinct m few) hy.polynomial hz.polynomial hy.passes hz.passes) ∙ sym hz.coded

-- a change of data byte j by d changes byte k by d times the weight of j at k
pub IsCodedByte-changed : (m : ℕ) (old new : ℕ → ℕ) (j d k y : ℕ) → m ≤ 256 → j < m → d < 256 → new j ≡ bit_xor (old j) d
    → ((i : ℕ) → i < m → i ≢ j → new i ≡ old i) → IsCodedByte m old k y → IsCodedByte m new k (bit_xor y (field_mul (weight_of m (λ i. i) j k) d))
IsCodedByte-changed m old new j d k y few within small changed others h =
    let distinct = numbers_AreDistinct m few in
    let raised_p = raised m (λ i. i) j d h.polynomial in
    let passes : PassesThrough m (λ i. i) new (raised m (λ i. i) j d h.polynomial) = record {
      degree = degree-raised m (λ i. i) j d h.polynomial distinct within h.passes.degree;
      values = λ i hi. elim (cases_eq i j) as (λ _. value (raised m (λ i. i) j d h.polynomial) i ≡ new i) [
        | inl own ↦
            ap (value raised_p) own ∙ raised_at_own m (λ i. i) j d h.polynomial distinct within small
            ∙ ap (λ y. bit_xor y d) (h.passes.values j within)
            ∙ sym changed ∙ ap new (sym own)
        | inr other ↦ raised_at_other m (λ i. i) j i d h.polynomial distinct within hi other ∙ h.passes.values i hi ∙ sym (others i hi other)
      ];
    } in
    value-IsCodedByte m new k (bit_xor y (field_mul (weight_of m (λ i. i) j k) d)) raised_p few passes
    (ap (λ y. bit_xor y (field_mul (weight_of m (λ i. i) j k) d)) h.coded ∙ sym (value-raised m (λ i. i) j d h.polynomial k))

-- seats are different points
pub seats_AreDistinct : (m n : ℕ) (seats : List ℕ) → n ≤ 256 → AreSeats m n seats → AreDistinct m (λ i. get_or seats i 0)
seats_AreDistinct m n seats few h = record { bytes = λ i hi. omega (arith, h.within i hi); apart = h.apart }

-- over no points Lagrange's formula is 0
pub weighted_sum_none : (m : ℕ) (point column : ℕ → ℕ) (x : ℕ) → weighted_sum m 0 point column x ≡ 0
unfolding weighted_sum
weighted_sum_none m point column x = refl

-- one point more
pub weighted_sum_more : (m i : ℕ) (point column : ℕ → ℕ) (x : ℕ)
    → weighted_sum m (i + 1) point column x ≡ bit_xor (weighted_sum m i point column x) (field_mul (weight_of m point i x) (column i))
unfolding weighted_sum
weighted_sum_more m i point column x = ap (λ n. weighted_sum m n point column x) (add-one i)

-- it is a byte
pub weighted_sum-lt : (m n : ℕ) (point column : ℕ → ℕ) (x : ℕ) → weighted_sum m n point column x < 256
unfolding weighted_sum
weighted_sum-lt m zero point column x = omega arith
weighted_sum-lt m (suc i) point column x =
    xor_lt 8 (weighted_sum m i point column x) (field_mul (weight_of m point i x) (column i)) (weighted_sum-lt m i point column x)
    (field_mul-lt (weight_of m point i x) (column i))

-- of the same values it is the same
pub weighted_sum_same : (m n : ℕ) (point a b : ℕ → ℕ) (x : ℕ) → ((i : ℕ) → i < n → a i ≡ b i)
    → weighted_sum m n point a x ≡ weighted_sum m n point b x
unfolding weighted_sum
weighted_sum_same m zero point a b x same = refl
weighted_sum_same m (suc i) point a b x same =
    ap (λ y. bit_xor y (field_mul (weight_of m point i x) (a i))) (weighted_sum_same m i point a b x (λ k h. same k (omega arith)))
    ∙ ap (λ y. bit_xor (weighted_sum m i point b x) (field_mul (weight_of m point i x) y)) (same i (omega arith))

-- of zeros it is 0, whatever the weights
pub weighted_sum_zeros : (m n : ℕ) (point column : ℕ → ℕ) (x : ℕ) → ((i : ℕ) → column i ≡ 0) → weighted_sum m n point column x ≡ 0
unfolding weighted_sum
weighted_sum_zeros m zero point column x zeros = refl
weighted_sum_zeros m (suc i) point column x zeros =
    (λ k. bit_xor (weighted_sum_zeros m i point column x zeros k) (field_mul (weight_of m point i x) (zeros i k)))
    ∙ field_mul-zero_right (weight_of m point i x)

-- a sum of products by these weights
pub sum_of_products-weighted : (m n : ℕ) (point weight column : ℕ → ℕ) (x : ℕ) → ((i : ℕ) → i < n → weight i ≡ weight_of m point i x)
    → sum_of_products n weight column ≡ weighted_sum m n point column x
unfolding sum_of_products weighted_sum
sum_of_products-weighted m zero point weight column x same = refl
sum_of_products-weighted m (suc n) point weight column x same =
    (λ t. bit_xor (sum_of_products-weighted m n point weight column x (λ i h. same i (omega arith)) t) (field_mul (same n (omega arith) t) (column n)))

-- and of blocks that lie one after the other, each times its weight
pub combined-weighted : (m size t : ℕ) (point : ℕ → ℕ) (weights blocks : List ℕ) (x : ℕ) → m ≤ length weights
    → ((i : ℕ) → i < m → get_or weights i 0 ≡ weight_of m point i x)
    → combined size (take m weights) blocks t ≡ weighted_sum m m point (λ i. get_or blocks (i * size + t) 0) x
combined-weighted m size t point weights blocks x room same =
    ap (λ n. sum_of_products n (λ i. get_or (take m weights) i 0) (λ i. get_or blocks (i * size + t) 0)) (length-take-le m weights room)
    ∙ sum_of_products-weighted m m point (λ i. get_or (take m weights) i 0) (λ i. get_or blocks (i * size + t) 0) x
    (λ i h. get_or-take m weights i 0 h ∙ same i h)
