-- The floor: the greatest of the lowest versions of a quorum's logs. A quorum has held it, so enough of these members hold it still.
use Rattle.std.proofs.Common.{Bool, List, [], ap, arith, cond, false, length, map, refl, subst, true, ℕ, ⊎_elim, ◌<◌, ◌||◌, ◌∙◌, ◌∷◌, ◌≡◌, ◌≤◌}
use Rattle.std.proofs.lemmas.Bool.{and_parts, cond_both, eqb-true, or_cases, or_left, or_right}
use Rattle.std.proofs.lemmas.List.{length-map}
use Rattle.std.specs.Prelude.{filter, nat_eq}
use Rattle.calm_laws.proofs.Asking.{each_then}
use Rattle.calm_laws.proofs.Rooms.{max_left, max_right}
use Rattle.calm_laws.proofs.Scenes.{Each, Seated, AreApart}
use Rattle.fab_base.proofs.StampOrder.{stamp_not_below_trans}
use Rattle.fab_base.specs.Stamps.{stamp_below}
use Rattle.fab_base.specs.declared.stamps.Stamp.{Stamp}
use Rattle.protocol.specs.Replicas.{stamp_max}
use Rattle.quorum.proofs.Counts.{AreDistinctBelow, count_monotone, count_seat_in, quorums_share}
use Rattle.quorum.specs.Quorums.{both, count, q_of}
use Rattle.quorum.proofs.Counts.{seat_in as is_seat}

-- the greatest of some members' lowest versions, or this where there are none
abbrev pub greatest_low : Stamp → (ℕ → Stamp) → List Seated → Stamp
greatest_low base low [] = base
greatest_low base low (x ∷ xs) = stamp_max (low x.brick.0) (greatest_low base low xs)

-- none is above it
pub low_most : (base : Stamp) (low : ℕ → Stamp) (xs : List Seated) → Each (λ x. stamp_below (greatest_low base low xs) (low x.brick.0) ≡ false) xs
low_most base low [] = tt
low_most base low (x ∷ xs) = (
  max_left (low x.brick.0) (greatest_low base low xs),
  each_then (λ (y : Seated). stamp_below (greatest_low base low xs) (low y.brick.0) ≡ false)
      (λ (y : Seated). stamp_below (greatest_low base low (x ∷ xs)) (low y.brick.0) ≡ false) xs
      (λ y most. stamp_not_below_trans (low y.brick.0) (greatest_low base low xs) (greatest_low base low (x ∷ xs)) most
      (max_right (low x.brick.0) (greatest_low base low xs))) (low_most base low xs),
)

-- and it is one of them, or the other: so what holds of these holds of it
pub low_one : (P : Stamp → Type 0) (base : Stamp) (low : ℕ → Stamp) (xs : List Seated) → P base → ((i : ℕ) → P (low i)) → P (greatest_low base low xs)
low_one P base low [] first each = first
low_one P base low (x ∷ xs) first each =
    cond_both (stamp_below (low x.brick.0) (greatest_low base low xs)) (greatest_low base low xs) (low x.brick.0) P
    (λ less. low_one P base low xs first each) (λ not_less. each x.brick.0)

-- the seats of these members
abbrev pub seats_of : List Seated → List ℕ
seats_of xs = map (λ x. x.seat) xs

-- a filter keeps members apart, and what holds of each
each_filter : (P : Seated → Type 0) (p : Seated → Bool) (xs : List Seated) → Each P xs → Each P (filter p xs)
each_filter P p [] each = tt
each_filter P p (x ∷ xs) each =
    cond_both (p x) (x ∷ filter p xs) (filter p xs) (λ (l : List Seated). Each P l)
    (λ is. (each.0, each_filter P p xs each.1)) (λ isnt. each_filter P p xs each.1)

apart_filter : (p : Seated → Bool) (xs : List Seated) → AreApart xs → AreApart (filter p xs)
apart_filter p [] apart = tt
apart_filter p (x ∷ xs) apart =
    cond_both (p x) (x ∷ filter p xs) (filter p xs) AreApart
    (λ is. (each_filter (λ y. nat_eq x.seat y.seat ≡ false) p xs apart.0, apart_filter p xs apart.1)) (λ isnt. apart_filter p xs apart.1)

-- members that sit apart below n have distinct seats there
other_seats : (seat : ℕ) (xs : List Seated) → Each (λ y. nat_eq seat y.seat ≡ false) xs → is_seat (seats_of xs) seat ≡ false
other_seats seat [] other = refl
other_seats seat (x ∷ xs) other =
    ap (λ (b : Bool). b || is_seat (seats_of xs) seat) other.0 ∙ other_seats seat xs other.1

distinct_seats : (n : ℕ) (xs : List Seated) → AreApart xs → Each (λ x. x.seat < n) xs → AreDistinctBelow n (seats_of xs)
distinct_seats n [] apart within = tt
distinct_seats n (x ∷ xs) apart within = (within.0, other_seats x.seat xs apart.0, distinct_seats n xs apart.1 within.1)

pub count_seats : (n : ℕ) (xs : List Seated) → AreApart xs → Each (λ x. x.seat < n) xs → count n (is_seat (seats_of xs)) ≡ length xs
count_seats n xs apart within = count_seat_in n (seats_of xs) (distinct_seats n xs apart within) ∙ length-map xs (λ (x : Seated). x.seat)

-- a seat of these members that passes is a seat of those that pass
seats_pass : (p : Seated → Bool) (r : ℕ → Bool) (xs : List Seated) → Each (λ x. r x.seat ≡ true → p x ≡ true) xs → (k : ℕ)
    → is_seat (seats_of xs) k ≡ true → r k ≡ true → is_seat (seats_of (filter p xs)) k ≡ true
seats_pass p r [] pass k has is = has
seats_pass p r (x ∷ xs) pass k has is = ⊎_elim
    (λ (here : nat_eq k x.seat ≡ true).
    let passes : p x ≡ true = pass.0 (subst (λ (j : ℕ). r j ≡ true) (eqb-true k x.seat here) is) in
    ap (λ (b : Bool). is_seat (seats_of (cond b (x ∷ filter p xs) (filter p xs))) k) passes
    ∙ or_left (nat_eq k x.seat) (is_seat (seats_of (filter p xs)) k) here)
    (λ (there : is_seat (seats_of xs) k ≡ true).
    let rest : is_seat (seats_of (filter p xs)) k ≡ true = seats_pass p r xs pass.1 k there is in
    cond_both (p x) (x ∷ filter p xs) (filter p xs) (λ (l : List Seated). is_seat (seats_of l) k ≡ true)
    (λ passes. or_right (nat_eq k x.seat) (is_seat (seats_of (filter p xs)) k) rest) (λ fails. rest))
    (or_cases (nat_eq k x.seat) (is_seat (seats_of xs) k) has)

-- Of a quorum of members, at least m pass what a quorum of seats passes.
pub quorum_passes : (m n : ℕ) → m ≤ n → (xs : List Seated) (p : Seated → Bool) (r : ℕ → Bool) → AreApart xs → Each (λ x. x.seat < n) xs
    → length xs ≡ q_of m n → q_of m n ≤ count n r → Each (λ x. r x.seat ≡ true → p x ≡ true) xs → m ≤ length (filter p xs)
quorum_passes m n enough xs p r apart within quorum stands pass =
    let many = count_seats n xs apart within in
    let share = quorums_share m n enough (is_seat (seats_of xs)) r (omega (arith, many, quorum)) stands in
    let fewer = count_monotone n (both (is_seat (seats_of xs)) r) (is_seat (seats_of (filter p xs)))
    (λ k below shared. let parts = and_parts (is_seat (seats_of xs) k) (r k) shared in seats_pass p r xs pass k parts.0 parts.1) in
    let all = count_seats n (filter p xs) (apart_filter p xs apart) (each_filter (λ x. x.seat < n) p xs within) in
    omega (arith, share, fewer, all)
