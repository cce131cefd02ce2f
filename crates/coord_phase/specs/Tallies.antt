-- What a tally says of the replies that count.
use Rattle.std.specs.Prelude.{◌≡◌, ℕ, ◌<◌, ◌≤◌, true, nat_eq, nat_lt, if◌then◌else◌, List, [], ◌∷◌, length}
use Rattle.std.specs.List.{list_all}
use Rattle.fab_base.specs.declared.stamps.Stamp.{Stamp}
use Rattle.protocol.specs.declared.phases.Counted.{Counted}
use Rattle.protocol.specs.Coordinators.{told_stamp, finds}
use Rattle.quorum.specs.declared.seats.Seat.{Seat}
use Rattle.quorum.specs.declared.seats.Seat.TheVariants as seat
use Rattle.quorum.specs.Tallies.{Votes, seat_of}
use Rattle.coord_phase.specs.Operations.{are_apart}

-- what a seat has said among these replies: the stamp of the version that its reply tells, if it tells one
abbrev pub said_by : ℕ → List Counted → Seat
said_by k [] = seat.Silent
said_by k (c ∷ counted) = if nat_eq c.seat k then seat.Counted (told_stamp c.reply) else said_by k counted

-- the votes are those of these replies, each of which is of a seat of its own
pub record IsTallyOf (counted : List Counted) (votes : Votes) : Type 0 where
  pub len : length votes.seats ≡ votes.n
  pub said : (k : ℕ) → k < votes.n → seat_of votes k ≡ said_by k counted
  pub seats : list_all (λ c. nat_lt c.seat votes.n) counted ≡ true
  pub apart : are_apart counted ≡ true

-- there are replies, and each tells the version v
pub record IsAgreed (counted : List Counted) (v : Stamp) : Type 0 where
  pub some : 1 ≤ length counted
  pub all : list_all (finds v) counted ≡ true
