-- A session that runs: the request that its caller took a turn for, and how much is ahead of it.
use Rattle.std.specs.Prelude.{◌≡◌, ℕ, ◌+◌, ◌-◌, ◌*◌, nat_lt, Bool, false, if◌then◌else◌, List, length}
use Rattle.nbd_front.specs.declared.steps.End.TheVariants.{Eof, Turns}
use Rattle.nbd_front.specs.declared.steps.SessionStage.{SessionStage}
use Rattle.nbd_front.specs.declared.steps.SessionStage.TheVariants as stage
use Rattle.nbd_front.specs.Sessions.{Session, ReadsNoFurther, turn_in}

-- it did not end for want of bytes or of turns
abbrev pub HasNoWant : SessionStage → Type 0
HasNoWant (stage.Over Eof) = ⊥
HasNoWant (stage.Over Turns) = ⊥
HasNoWant here = Unit {0}

-- A session that runs: its bytes have not ended, no turn was missed, and no byte has come behind the part that it reads.
pub record IsLive (session : Session) : Type 0 where
  pub open_still : session.ended ≡ false
  pub within : ReadsNoFurther session
  pub goes : HasNoWant session.stage

-- one where this is so
abbrev pub one_if : Bool → ℕ
one_if holds = if holds then 1 else 0

-- one where bytes of a request have come: a turn was taken for it, and it is not answered yet
abbrev pub owed_in : List ℕ → SessionStage → ℕ
owed_in bytes stage.Requests = one_if (nat_lt 0 (length bytes))
owed_in bytes here = 0

abbrev pub owed : Session → ℕ
owed session = owed_in session.unread session.stage

-- ---- how much is ahead

-- more than any part of the client's bytes has
abbrev pub most_ahead : ℕ
most_ahead = 33_554_464

-- for bytes of a part: none before its turn is taken
abbrev pub bytes_ahead : (wants : Bool) → ℕ → ℕ
bytes_ahead wants count = if wants then 0 else most_ahead - count

-- how many bytes are read and how many replies are sent, at most, until a session wants its next turn, or ends
abbrev pub ahead_in : List ℕ → SessionStage → ℕ
ahead_in bytes stage.Greeting = most_ahead + 1
ahead_in bytes (stage.Replying cookie error) = 2
ahead_in bytes stage.Sending = 1
ahead_in bytes (stage.Over end) = 0
ahead_in bytes here = bytes_ahead (turn_in bytes here) (length bytes)

abbrev pub ahead : Session → ℕ
ahead session = ahead_in session.unread session.stage

-- the same until all of its turns are taken
abbrev pub effort : Session → ℕ → ℕ
effort session turns = turns * (most_ahead + 2) + ahead session
