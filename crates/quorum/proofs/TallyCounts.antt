-- Counts of a tally's seats, by list and by seat.
use Rattle.std.proofs.Common.{◌≡◌, ℕ, zero, suc, ◌+◌, ◌<◌, Bool, true, false, cond, List, [], ◌∷◌, length, get_or, refl, ap, sym, ◌∙◌, arith}
use Rattle.std.specs.List.{count_by}
use Rattle.std.proofs.Common.{Option, take, set, ◌≢◌, ⊎_elim}
use Rattle.std.proofs.Math.Seq.{take-set-lt}
use Rattle.std.proofs.lemmas.List.{get_or-take, get_or-set_same, get_or-set_other}
use Rattle.std.proofs.lemmas.Bool.{cases_eq}
use Rattle.fab_base.specs.declared.stamps.Stamp.{Stamp}
use Rattle.quorum.specs.declared.seats.Seat.{Seat}
use Rattle.quorum.specs.declared.seats.Seat.TheVariants.{Silent, Counted}
use Rattle.quorum.specs.Quorums.{count, one_if, with_seat}
use Rattle.quorum.specs.Tallies.{Votes, seat_of, is_counted, counted, after_reply, with_vote, without_vote}
use Rattle.std.proofs.lemmas.List.Recursion.{is_count_by}
use Rattle.quorum.proofs.Counts.{count_none, count_same, count_with_seat, with_seat_same, with_seat_other}

-- a count from the lowest seat on
count_from_lowest : (n : ℕ) (test : ℕ → Bool) → count (suc n) test ≡ one_if (test 0) + count n (λ k. test (suc k))
unfolding count
count_from_lowest zero test = omega arith
count_from_lowest (suc n) test = omega (arith, count_from_lowest n test)

-- a place of a list with one more in front
places_of_more : {X : Type 0} (p : X → Bool) (d x : X) (xs : List X)
    → count (suc (length xs)) (λ k. p (get_or (x ∷ xs) k d)) ≡ cond (p x) (1 + count (length xs) (λ k. p (get_or xs k d)))
    (count (length xs) (λ k. p (get_or xs k d)))
places_of_more p d x xs = count_from_lowest (length xs) (λ k. p (get_or (x ∷ xs) k d))
    ∙ one_if_cond (p x) (count (length xs) (λ k. p (get_or xs k d)))
  where
    one_if_cond : (b : Bool) (others : ℕ) → one_if b + others ≡ cond b (1 + others) others
    one_if_cond true others = refl
    one_if_cond false others = omega arith

-- the elements that pass are as many as the places where they stand
pub count_by_places : {X : Type 0} (p : X → Bool) (d : X) (xs : List X) → count_by p xs ≡ count (length xs) (λ k. p (get_or xs k d))
count_by_places p d xs =
    sym (is_count_by (λ ys. count (length ys) (λ k. p (get_or ys k d))) p (count_none (λ k. p (get_or [] k d))) (λ y ys. places_of_more p d y ys) xs)

-- the votes of these parts
abbrev pub votes_of : ℕ → ℕ → List Seat → Votes
votes_of n q seats = record { n = n; q = q; seats = seats }

-- a vote within the first n seats is a vote of the tally
pub vote_within : (n q place : ℕ) (mark : Option Stamp) (seats : List Seat) → place < n
    → votes_of n q (take n (set seats place (after_reply (get_or seats place Silent) mark))) ≡ with_vote (votes_of n q (take n seats)) place mark
vote_within n q place mark seats lt =
    ap (votes_of n q)
    (take-set-lt n seats place (after_reply (get_or seats place Silent) mark) lt
    ∙ ap (λ seat. set (take n seats) place (after_reply seat mark)) (sym (get_or-take n seats place Silent lt)))

-- a vote taken back within the first n seats is taken back from the tally
pub taken_within : (n q place : ℕ) (seats : List Seat) → place < n
    → votes_of n q (take n (set seats place Silent)) ≡ without_vote (votes_of n q (take n seats)) place
taken_within n q place seats lt = ap (votes_of n q) (take-set-lt n seats place Silent lt)

-- the seats of a tally that pass, by list and by place
pub count_of_seats : (p : Seat → Bool) (votes : Votes) → length votes.seats ≡ votes.n → count_by p votes.seats ≡ count votes.n
    (λ k. p (seat_of votes k))
count_of_seats p votes len = count_by_places p Silent votes.seats ∙ ap (λ n. count n (λ k. p (seat_of votes k))) len

-- a reply that is counted is one
after_reply_counted : (seat : Seat) (mark : Option Stamp) → is_counted (after_reply seat mark) ≡ true
after_reply_counted Silent mark = refl
after_reply_counted (Counted first) mark = refl

-- after a vote the seat is counted, and the others are as before
pub counted_after : (votes : Votes) (seat : ℕ) (mark : Option Stamp) (k : ℕ) → seat < length votes.seats
    → counted (with_vote votes seat mark) k ≡ with_seat seat (counted votes) k
counted_after votes seat mark k within = ⊎_elim
    (λ (same : k ≡ seat).
    let said : get_or (set votes.seats seat (after_reply (seat_of votes seat) mark)) seat Silent ≡ after_reply (seat_of votes seat) mark
    = get_or-set_same votes.seats seat (after_reply (seat_of votes seat) mark) Silent within in
    ap (counted (with_vote votes seat mark)) same
    ∙ (ap is_counted said ∙ after_reply_counted (seat_of votes seat) mark)
    ∙ sym (with_seat_same k seat (counted votes) same))
    (λ (other : k ≢ seat).
    ap is_counted (get_or-set_other votes.seats seat k (after_reply (seat_of votes seat) mark) Silent other)
    ∙ sym (with_seat_other k seat (counted votes) other))
    (cases_eq k seat)

-- a first vote is one more
pub count_after : (votes : Votes) (seat : ℕ) (mark : Option Stamp) → length votes.seats ≡ votes.n → seat < votes.n → counted votes seat ≡ false
    → count votes.n (counted (with_vote votes seat mark)) ≡ count votes.n (counted votes) + 1
count_after votes seat mark len within silent =
    count_same votes.n (counted (with_vote votes seat mark)) (with_seat seat (counted votes))
    (λ k below. counted_after votes seat mark k (omega arith))
    ∙ count_with_seat votes.n seat (counted votes) within silent
