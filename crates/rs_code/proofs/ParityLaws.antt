-- The parity blocks of a stripe, one after the other, by a list of their weights.
use Rattle.std.proofs.Common.{◌≡◌, ℕ, ◌+◌, ◌-◌, ◌*◌, ◌/◌, ◌%◌, ◌<◌, ◌≤◌, List, true, leb, length, get_or, take, drop, set, inl, inr, refl, sym, ap, ◌∙◌, arith}
use Rattle.std.proofs.Math.Nat.{mul-le-mul_right}
use Rattle.std.proofs.lemmas.Nat.{mod-mul-add, div-mul-add}
use Rattle.std.proofs.lemmas.Bool.{agree_below_at, cases_eq, leb-true}
use Rattle.std.proofs.lemmas.List.{get_or-take, get_or-drop, get_or-set_same, get_or-set_other, length-map, map-set, take-map, drop-map}
use Rattle.gf_field.specs.Polynomials.{weight_of}
use Rattle.gf_lanes.specs.Sums.{sum_of_products, combined, values_of}
use Rattle.gf_lanes.specs.declared.factor.Factor.{Factor}
use Rattle.rs_code.specs.Codewords.{weighted_sum}
use Rattle.rs_code.specs.Stripes.{block_of, byte_of, coded_block, WritesBlock, WritesBlocks}
use Rattle.rs_code.proofs.CodewordLaws.{sum_of_products-weighted}
use Rattle.rs_code.proofs.StripeLaws.{coded_block-from_sums, length-block_of, get_or-block_of}

-- the first rows of parity are the blocks from m on of the stripe's codeword
abbrev pub HasParity : ℕ → ℕ → List ℕ → ℕ → List ℕ → Type 0
HasParity m size stripe rows parity = (r t : ℕ) → r < rows → t < size → byte_of size parity t r ≡ weighted_sum m m (λ i. i) (byte_of size stripe t) (m + r)

-- a sum by the weights of point x is Lagrange's formula there
pub combined-by_weights : (m size : ℕ) (point : ℕ → ℕ) (stripe weights : List ℕ) (x t : ℕ) → length weights ≡ m
    → ((i : ℕ) → i < m → get_or weights i 0 ≡ weight_of m point i x)
    → combined size weights stripe t ≡ weighted_sum m m point (byte_of size stripe t) x
combined-by_weights m size point stripe weights x t long same =
    ap (λ n. sum_of_products n (λ i. get_or weights i 0) (byte_of size stripe t)) long
    ∙ sum_of_products-weighted m m point (λ i. get_or weights i 0) (byte_of size stripe t) x same

-- one row more
pub parity-one : (m size : ℕ) (stripe : List ℕ) (rows : ℕ) (byte : ℕ → ℕ) (old new : List ℕ)
    → ((t : ℕ) → t < size → byte t ≡ weighted_sum m m (λ i. i) (byte_of size stripe t) (m + rows)) → WritesBlock size rows byte old new
    → HasParity m size stripe rows old → HasParity m size stripe (rows + 1) new
parity-one m size stripe rows byte old new is written before r t h l =
    elim (cases_eq r rows) as (λ _. byte_of size new t r ≡ weighted_sum m m (λ i. i) (byte_of size stripe t) (m + r)) [
      | inl last ↦
          ap (λ k. byte_of size new t k) last ∙ written.own t l ∙ is t l ∙ ap (λ k. weighted_sum m m (λ i. i) (byte_of size stripe t) (m + k)) (sym last)
      | inr other ↦ written.others r t other l ∙ before r t (omega arith) l
    ]

-- two rows more
pub parity-two : (m size : ℕ) (stripe : List ℕ) (rows : ℕ) (first second : ℕ → ℕ) (old new : List ℕ)
    → ((t : ℕ) → t < size → first t ≡ weighted_sum m m (λ i. i) (byte_of size stripe t) (m + rows))
    → ((t : ℕ) → t < size → second t ≡ weighted_sum m m (λ i. i) (byte_of size stripe t) (m + (rows + 1)))
    → WritesBlocks size rows (rows + 1) first second old new
    → HasParity m size stripe rows old → HasParity m size stripe (rows + 2) new
parity-two m size stripe rows first second old new is_first is_second written before r t h l =
    elim (cases_eq r rows) as (λ _. byte_of size new t r ≡ weighted_sum m m (λ i. i) (byte_of size stripe t) (m + r)) [
      | inl here ↦
          ap (λ k. byte_of size new t k) here ∙ written.first_own t l ∙ is_first t l
          ∙ ap (λ k. weighted_sum m m (λ i. i) (byte_of size stripe t) (m + k)) (sym here)
      | inr not_here ↦
          elim (cases_eq r (rows + 1)) as (λ _. byte_of size new t r ≡ weighted_sum m m (λ i. i) (byte_of size stripe t) (m + r)) [
            | inl last ↦
                ap (λ k. byte_of size new t k) last ∙ written.second_own t l ∙ is_second t l
                ∙ ap (λ k. weighted_sum m m (λ i. i) (byte_of size stripe t) (m + k)) (sym last)
            | inr other ↦ written.others r t not_here other l ∙ before r t (omega arith) l
          ]
    ]

-- of all rows, each is its block
pub parity-block : (m n size : ℕ) (stripe parity : List ℕ) → length parity ≡ (n - m) * size → HasParity m size stripe (n - m) parity
    → (k : ℕ) → m ≤ k → k < n → block_of size parity (k - m) ≡ coded_block m size stripe k
parity-block m n size stripe parity long has k from to =
    let row : k - m < n - m = omega arith in
    let point : m + (k - m) ≡ k = omega arith in
    coded_block-from_sums m size stripe k (block_of size parity (k - m)) (length-block_of (n - m) size parity (k - m) long row)
    (λ t h. get_or-block_of size parity (k - m) t h ∙ has (k - m) t row h ∙ ap (weighted_sum m m (λ i. i) (byte_of size stripe t)) point)

-- r rows of m weights are within the table
pub rows-room : (m n r : ℕ) → m ≤ 16 → n ≤ 32 → m + r ≤ n → r * m ≤ 256
rows-room m n r few few_blocks within =
    let all : (32 - m) * m ≤ 256 = leb-true _ _ (agree_below_at (λ m. leb ((32 - m) * m) 256) (λ _. true) 17 m refl (omega arith)) in
    let some : r * m ≤ (32 - m) * m = mul-le-mul_right m (omega arith) in
    omega arith

-- the value of a factor of a part
pub value-within : (factors : List Factor) (at n j : ℕ) → j < n → get_or (values_of (take n (drop at factors))) j 0 ≡ get_or (values_of factors) (at + j) 0
value-within factors at n j l =
    ap (λ values. get_or values j 0) (sym (take-map (λ (f : Factor). f.value) n (drop at factors)) ∙ ap (take n) (sym (drop-map (λ (f : Factor). f.value) at factors)))
    ∙ get_or-take n (drop at (values_of factors)) j 0 l ∙ get_or-drop at (values_of factors) j 0

-- one weight more in its place
pub weight-made : (m n place : ℕ) (factors : List Factor) (factor : Factor) → 0 < m → place < length factors
    → factor.value ≡ weight_of m (λ i. i) (place % m) (m + place / m)
    → ((r j : ℕ) → m + r < n → j < m → r * m + j < place → get_or (values_of factors) (r * m + j) 0 ≡ weight_of m (λ i. i) j (m + r))
    → (r j : ℕ) → m + r < n → j < m → r * m + j < place + 1
    → get_or (values_of (set factors place factor)) (r * m + j) 0 ≡ weight_of m (λ i. i) j (m + r)
weight-made m n place factors factor some room own before r j row column l =
    ap (λ values. get_or values (r * m + j) 0) (map-set (λ (f : Factor). f.value) factors place factor)
    ∙ elim (cases_eq (r * m + j) place) as (λ _. get_or (set (values_of factors) place factor.value) (r * m + j) 0 ≡ weight_of m (λ i. i) j (m + r)) [
      | inl here ↦
          let remainder : place % m ≡ j = ap (λ p. p % m) (sym here) ∙ mod-mul-add r m j column in
          let quotient : place / m ≡ r = ap (λ p. p / m) (sym here) ∙ div-mul-add r m j column in
          ap (λ k. get_or (set (values_of factors) place factor.value) k 0) here
          ∙ get_or-set_same (values_of factors) place factor.value 0 (omega (arith, length-map factors (λ (f : Factor). f.value)))
          ∙ own ∙ (λ i. weight_of m (λ i. i) (remainder i) (m + quotient i))
      | inr other ↦ get_or-set_other (values_of factors) place (r * m + j) factor.value 0 other ∙ before r j row column (omega arith)
    ]
