-- When the counted seats of a tally agree on a stamp.
use Rattle.std.proofs.Common.{◌≡◌, ℕ, zero, suc, ◌<◌, true, Some, None, Option, List, [], ◌∷◌, length, get_or, refl, ap, ◌∙◌, arith}
use Rattle.std.specs.List.{find, list_all}
use Rattle.std.specs.Option.{option_and_then, MatchOption, is_some}
use Rattle.std.specs.Bool.{IsTrue}
use Rattle.std.proofs.lemmas.Bool.{false≢true, and_parts, and_from}
use Rattle.fab_base.specs.declared.stamps.Stamp.{Stamp}
use Rattle.fab_base.proofs.StampOrder.{stamp_same_refl, stamp_same_true}
use Rattle.quorum.specs.declared.seats.Seat.{Seat}
use Rattle.quorum.specs.declared.seats.Seat.TheVariants.{Silent, Counted}
use Rattle.quorum.specs.Tallies.{Votes, IsUnanimous, is_counted, mark_of, reports, fits, counted}
use Rattle.quorum.proofs.Counts.{count_some, count_has}

-- each counted seat reports the stamp v
AllReport : Stamp → List Seat → Type 0
AllReport v xs = (k : ℕ) → k < length xs → is_counted (get_or xs k Silent) ≡ true → get_or xs k Silent ≡ Counted (Some v)

-- some seat is counted
SomeCounted : List Seat → Type 0
SomeCounted xs = (k : ℕ) × (k < length xs) × (is_counted (get_or xs k Silent) ≡ true)

-- a place further on
later : (v : Stamp) (x : Seat) (xs : List Seat) → AllReport v (x ∷ xs) → AllReport v xs
unfolding AllReport
later v x xs all k below is = all (suc k) (omega arith) is

later_counted : (xs : List Seat) → SomeCounted (Silent ∷ xs) → SomeCounted xs
unfolding SomeCounted
later_counted xs (zero, below, is) = absurd (false≢true is)
later_counted xs (suc k, below, is) = (k, omega arith, is)

-- where all report v, so does the first that is counted
first_of_all : (v : Stamp) (xs : List Seat) → AllReport v xs → SomeCounted xs → option_and_then mark_of (find is_counted xs) ≡ Some v
unfolding AllReport SomeCounted
first_of_all v [] all some = absurd (omega (arith, some.1))
first_of_all v (Silent ∷ xs) all some = first_of_all v xs (later v Silent xs all) (later_counted xs some)
first_of_all v (Counted mark ∷ xs) all some =
    let first : Counted mark ≡ Counted (Some v) = all 0 (omega arith) refl in cc

-- the first that is counted is
first_is_counted : (v : Stamp) (xs : List Seat) → option_and_then mark_of (find is_counted xs) ≡ Some v → SomeCounted xs
unfolding SomeCounted
first_is_counted v [] is = cc
first_is_counted v (Silent ∷ xs) is =
    let further : SomeCounted xs = first_is_counted v xs is in (suc further.0, omega (arith, further.1), further.2)
first_is_counted v (Counted mark ∷ xs) is = (0, omega arith, refl)

-- a counted seat fits the stamp that it reports, and no other
fits_reported : (v : Stamp) (seat : Seat) → (is_counted seat ≡ true → seat ≡ Counted (Some v)) → fits v seat ≡ true
fits_reported v Silent h = refl
fits_reported v (Counted mark) h =
    let same : Counted mark ≡ Counted (Some v) = h refl in
    ap (reports v) same ∙ stamp_same_refl v

reported_fits : (v : Stamp) (seat : Seat) → fits v seat ≡ true → is_counted seat ≡ true → seat ≡ Counted (Some v)
reported_fits v Silent fit is = absurd (false≢true is)
reported_fits v (Counted None) fit is = absurd (false≢true fit)
reported_fits v (Counted (Some w)) fit is = ap (λ (stamp : Stamp). Counted (Some stamp)) (stamp_same_true w v fit)

-- all report v where all fit it
all_fit_reported : (v : Stamp) (xs : List Seat) → AllReport v xs → list_all (fits v) xs ≡ true
unfolding AllReport
all_fit_reported v [] all = refl
all_fit_reported v (x ∷ xs) all =
    and_from (fits v x) (list_all (fits v) xs) (fits_reported v x (all 0 (omega arith))) (all_fit_reported v xs (later v x xs all))

reported_all_fit : (v : Stamp) (xs : List Seat) → list_all (fits v) xs ≡ true → AllReport v xs
unfolding AllReport
reported_all_fit v [] fit k below is = absurd (omega arith)
reported_all_fit v (x ∷ xs) fit zero below is = reported_fits v x (and_parts (fits v x) (list_all (fits v) xs) fit).0 is
reported_all_fit v (x ∷ xs) fit (suc k) below is =
    reported_all_fit v xs (and_parts (fits v x) (list_all (fits v) xs) fit).1 k (omega arith) is

-- what a unanimous tally's seats report
all_of : (votes : Votes) (v : Stamp) → length votes.seats ≡ votes.n → IsUnanimous votes v → AllReport v votes.seats
unfolding AllReport
all_of votes v len u k below is = u.all k (omega arith) is

some_of : (votes : Votes) (v : Stamp) → length votes.seats ≡ votes.n → IsUnanimous votes v → SomeCounted votes.seats
unfolding SomeCounted
some_of votes v len u = let seat = count_some votes.n (counted votes) u.some in (seat.0, omega (arith, seat.1), seat.2)

-- the stamp that a unanimous tally agrees on is its first
pub unanimous_first : (votes : Votes) (v : Stamp) → length votes.seats ≡ votes.n → IsUnanimous votes v
    → option_and_then mark_of (find is_counted votes.seats) ≡ Some v
unanimous_first votes v len u = first_of_all v votes.seats (all_of votes v len u) (some_of votes v len u)

-- all seats of a unanimous tally fit its stamp
pub unanimous_fits : (votes : Votes) (v : Stamp) → length votes.seats ≡ votes.n → IsUnanimous votes v → list_all (fits v) votes.seats ≡ true
unanimous_fits votes v len u = all_fit_reported v votes.seats (all_of votes v len u)

-- a tally whose seats all fit its first stamp is unanimous
pub unanimous_from : (votes : Votes) (v : Stamp) → length votes.seats ≡ votes.n → option_and_then mark_of (find is_counted votes.seats) ≡ Some v
    → list_all (fits v) votes.seats ≡ true → IsUnanimous votes v
unfolding AllReport SomeCounted
unanimous_from votes v len first fit =
    let seat : SomeCounted votes.seats = first_is_counted v votes.seats first in
    let all : AllReport v votes.seats = reported_all_fit v votes.seats fit in
    record {
      some = count_has votes.n seat.0 (counted votes) (omega (arith, seat.1)) seat.2;
      all = λ k below is. all k (omega arith) is;
    }

-- there is a stamp exactly where one is answered
pub some_exactly : (P : Stamp → Type 0) (o : Option Stamp) → MatchOption o ((v : Stamp) → ¬ (P v)) P
    → (IsTrue (is_some o) → (v : Stamp) × P v) × (((v : Stamp) × P v) → IsTrue (is_some o))
some_exactly P None none = (λ t. absurd (false≢true t), λ w. absurd (none w.0 w.1))
some_exactly P (Some v) is = (λ t. (v, is), λ w. refl)
