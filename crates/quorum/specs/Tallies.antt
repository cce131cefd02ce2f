-- The first replies of a phase, by seat.
use Rattle.std.specs.Prelude.{◌≡◌, ℕ, ◌<◌, ◌≤◌, Bool, true, false, not, ◌||◌, Option, Some, None, List, replicate, slice_index_or, slice_set}
use Rattle.fab_base.specs.declared.stamps.Stamp.{Stamp}
use Rattle.fab_base.specs.Stamps.{stamp_same}
use Rattle.quorum.specs.declared.seats.Seat.{Seat}
use Rattle.quorum.specs.declared.seats.Seat.TheVariants.{Silent, Counted}
use Rattle.quorum.specs.Quorums.{Scheme, count, q_of}

-- a quorum's size, and what each seat below n has said
pub record Votes : Type 0 where
  pub n : ℕ
  pub q : ℕ
  pub seats : List Seat

-- the reply of a seat is counted
abbrev pub is_counted : Seat → Bool
is_counted Silent = false
is_counted (Counted mark) = true

-- the stamp that the seat's counted reply reports
abbrev pub mark_of : Seat → Option Stamp
mark_of Silent = None
mark_of (Counted mark) = mark

-- the mark is the stamp v
abbrev pub is_stamp : Stamp → Option Stamp → Bool
is_stamp v None = false
is_stamp v (Some w) = stamp_same w v

-- the seat's counted reply reports the stamp v
abbrev pub reports : Stamp → Seat → Bool
reports v seat = is_stamp v (mark_of seat)

-- the seat's reply, if it is counted, reports the stamp v
abbrev pub fits : Stamp → Seat → Bool
fits v seat = not (is_counted seat) || reports v seat

-- what seat k has said
abbrev pub seat_of : Votes → ℕ → Seat
seat_of votes k = slice_index_or votes.seats k Silent

-- the set of counted seats
abbrev pub counted : Votes → ℕ → Bool
counted votes k = is_counted (seat_of votes k)

-- the set of seats that report the stamp v
abbrev pub counted_with : Votes → Stamp → ℕ → Bool
counted_with votes v k = reports v (seat_of votes k)

-- no seat has replied
abbrev pub no_votes : Scheme → Votes
no_votes scheme = record { n = scheme.n; q = q_of scheme.m scheme.n; seats = replicate scheme.n Silent }

-- what a seat has said after a reply: its first one
abbrev pub after_reply : Seat → Option Stamp → Seat
after_reply Silent mark = Counted mark
after_reply (Counted first) mark = Counted first

-- the votes after a reply of a seat
abbrev pub with_vote : Votes → ℕ → Option Stamp → Votes
with_vote votes seat mark = record votes { seats = slice_set votes.seats seat (after_reply (seat_of votes seat) mark) }

-- the votes without a seat's reply
abbrev pub without_vote : Votes → ℕ → Votes
without_vote votes seat = record votes { seats = slice_set votes.seats seat Silent }

-- some seat is counted, and all that are report the stamp v
pub record IsUnanimous (votes : Votes) (v : Stamp) : Type 0 where
  pub some : 1 ≤ count votes.n (counted votes)
  pub all : (k : ℕ) → k < votes.n → counted votes k ≡ true → seat_of votes k ≡ Counted (Some v)
