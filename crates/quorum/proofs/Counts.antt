-- Counts of sets of seats.
use Rattle.std.proofs.Common.{◌≡◌, ◌≢◌, ℕ, List, [], ◌∷◌, length, add-one, zero, suc, ◌+◌, ◌<◌, ◌≤◌, ⊎_elim, Bool, true, false, ◌&&◌, ◌||◌, refl, sym, ap, ◌∙◌, arith}
use Rattle.std.proofs.lemmas.Bool.{cases_Bool, cases_eq, ne_eqb, eq-eqb}
use Rattle.quorum.specs.Quorums.{count, one_if, both, with_seat, QuorumsMeet}

-- no seats, and one more seat
pub count_none : (test : ℕ → Bool) → count 0 test ≡ 0
unfolding count
count_none test = refl

pub count_suc : (n : ℕ) (test : ℕ → Bool) → count (suc n) test ≡ count n test + one_if (test n)
unfolding count
count_suc n test = refl

pub count_more : (n : ℕ) (test : ℕ → Bool) → count (n + 1) test ≡ count n test + one_if (test n)
count_more n test = rw add-one (count_suc n test)

-- what a seat in and a seat not in add
one_if-true : (b : Bool) → b ≡ true → one_if b ≡ 1
one_if-true b is = ap one_if is

one_if-false : (b : Bool) → b ≡ false → one_if b ≡ 0
one_if-false b isnt = ap one_if isnt

-- one seat of two sets: what they have of it
cell_both : (a b : Bool) → one_if a + one_if b ≤ 1 + one_if (a && b)
cell_both true true = omega arith
cell_both true false = omega arith
cell_both false true = omega arith
cell_both false false = omega arith

cell_most : (a : Bool) → one_if a ≤ 1
cell_most true = omega arith
cell_most false = omega arith

cell_implies : (a b : Bool) → (a ≡ true → b ≡ true) → one_if a ≤ one_if b
cell_implies false b h = omega arith
cell_implies true b h = grind (arith, h refl)

-- two sets of seats below n have at most n and their common seats
pub count_both : (n : ℕ) (p r : ℕ → Bool) → count n p + count n r ≤ n + count n (both p r)
unfolding count
count_both zero p r = omega arith
count_both (suc n) p r = omega (arith, count_both n p r, cell_both (p n) (r n))

-- a set has no more seats than there are
pub count_most : (n : ℕ) (p : ℕ → Bool) → count n p ≤ n
unfolding count
count_most zero p = omega arith
count_most (suc n) p = omega (arith, count_most n p, cell_most (p n))

-- a larger set has as many seats
pub count_monotone : (n : ℕ) (p r : ℕ → Bool) → ((k : ℕ) → k < n → p k ≡ true → r k ≡ true) → count n p ≤ count n r
unfolding count
count_monotone zero p r h = omega arith
count_monotone (suc n) p r h =
    omega (arith, count_monotone n p r (λ k below. h k (omega arith)), cell_implies (p n) (r n) (h n (omega arith)))

-- sets with the same seats below n have as many
pub count_same : (n : ℕ) (p r : ℕ → Bool) → ((k : ℕ) → k < n → p k ≡ r k) → count n p ≡ count n r
unfolding count
count_same zero p r h = refl
count_same (suc n) p r h =
    let below : count n p ≡ count n r = count_same n p r (λ k lt. h k (omega arith)) in
    let last : p n ≡ r n = h n (omega arith) in
    cc

-- the empty set, and the set of all seats
pub count_empty : (n : ℕ) (p : ℕ → Bool) → ((k : ℕ) → k < n → p k ≡ false) → count n p ≡ 0
unfolding count
count_empty zero p h = refl
count_empty (suc n) p h =
    let below : n < suc n = omega arith in
    let last : one_if (p n) ≡ 0 = one_if-false (p n) (h n below) in
    omega (arith, last, count_empty n p (λ k lt. h k (omega arith)))

pub count_full : (n : ℕ) (p : ℕ → Bool) → ((k : ℕ) → k < n → p k ≡ true) → count n p ≡ n
unfolding count
count_full zero p h = refl
count_full (suc n) p h =
    let below : n < suc n = omega arith in
    let last : one_if (p n) ≡ 1 = one_if-true (p n) (h n below) in
    omega (arith, last, count_full n p (λ k lt. h k (omega arith)))

-- the last seat, or a seat below it
last_or_lower : (n : ℕ) (p : ℕ → Bool) → 1 ≤ count n p + one_if (p n) → (1 ≤ count n p → (k : ℕ) × (k < n) × (p k ≡ true))
    → (k : ℕ) × (k < suc n) × (p k ≡ true)
last_or_lower n p some lower = ⊎_elim
    (λ (is : p n ≡ true). (n, omega arith, is))
    (λ (isnt : p n ≡ false).
    let none : one_if (p n) ≡ 0 = one_if-false (p n) isnt in
    let seat : (k : ℕ) × (k < n) × (p k ≡ true) = lower (omega (arith, none, some)) in
    (seat.0, omega (arith, seat.1), seat.2))
    (cases_Bool (p n))

-- a set that counts a seat has one
pub count_some : (n : ℕ) (p : ℕ → Bool) → 1 ≤ count n p → (k : ℕ) × (k < n) × (p k ≡ true)
unfolding count
count_some zero p h = absurd (omega arith)
count_some (suc n) p h = last_or_lower n p h (count_some n p)

-- a set that has a seat counts it
pub count_has : (n k : ℕ) (p : ℕ → Bool) → k < n → p k ≡ true → 1 ≤ count n p
unfolding count
count_has zero k p lt is = absurd (omega arith)
count_has (suc n) k p lt is = ⊎_elim
    (λ (last : k ≡ n). let one : one_if (p n) ≡ 1 = one_if-true (p n) (ap p (sym last) ∙ is) in omega (arith, one))
    (λ (other : k ≢ n). let lower : k < n = omega arith in omega (arith, count_has n k p lower is))
    (cases_eq k n)

-- a seat that is not the added one is in as before
pub with_seat_other : (k seat : ℕ) (p : ℕ → Bool) → k ≢ seat → with_seat seat p k ≡ p k
with_seat_other k seat p other = ap (λ b. b || p k) (ne_eqb k seat other)

-- the added seat is in
pub with_seat_same : (k seat : ℕ) (p : ℕ → Bool) → k ≡ seat → with_seat seat p k ≡ true
with_seat_same k seat p same = ap (λ b. b || p k) (eq-eqb k seat same)

-- one more seat is one more
pub count_with_seat : (n seat : ℕ) (p : ℕ → Bool) → seat < n → p seat ≡ false → count n (with_seat seat p) ≡ count n p + 1
unfolding count
count_with_seat zero seat p lt isnt = absurd (omega arith)
count_with_seat (suc n) seat p lt isnt = ⊎_elim
    (λ (last : n ≡ seat).
    let lower : count n (with_seat seat p) ≡ count n p = count_same n (with_seat seat p) p (λ k below. with_seat_other k seat p (omega arith)) in
    let now : one_if (with_seat seat p n) ≡ 1 = one_if-true (with_seat seat p n) (with_seat_same n seat p last) in
    let before : one_if (p n) ≡ 0 = one_if-false (p n) (ap p last ∙ isnt) in
    omega (arith, lower, now, before))
    (λ (other : n ≢ seat).
    let below : seat < n = omega arith in
    let now : one_if (with_seat seat p n) ≡ one_if (p n) = ap (λ b. one_if b) (with_seat_other n seat p other) in
    omega (arith, now, count_with_seat n seat p below isnt))
    (cases_eq n seat)

-- whether a seat is in the list
abbrev pub seat_in : List ℕ → ℕ → Bool
seat_in [] k = false
seat_in (seat ∷ seats) k = with_seat seat (seat_in seats) k

-- the seats are below n, and each stands once
abbrev pub AreDistinctBelow : ℕ → List ℕ → Type 0
AreDistinctBelow n [] = Unit {0}
AreDistinctBelow n (seat ∷ seats) = (seat < n) × (seat_in seats seat ≡ false) × AreDistinctBelow n seats

-- distinct seats are as many as their list is long
pub count_seat_in : (n : ℕ) (seats : List ℕ) → AreDistinctBelow n seats → count n (seat_in seats) ≡ length seats
count_seat_in n [] distinct = count_empty n (seat_in []) (λ k below. refl)
count_seat_in n (seat ∷ seats) distinct =
    rw add-one at (count_with_seat n seat (seat_in seats) distinct.0 distinct.1 ∙ ap (λ c. c + 1) (count_seat_in n seats distinct.2))

-- any two quorums share m seats
pub quorums_share : (m n : ℕ) → m ≤ n → QuorumsMeet m n
quorums_share m n le p r many lots = omega (arith, count_both n p r)
