-- What a session says along a client's bytes.
use Rattle.std.specs.Prelude.{◌≡◌, ℕ, Bool, true, false, List, [], ◌∷◌, ◌++◌}
use Rattle.fab_base.specs.Layouts.{Layout}
use Rattle.front.specs.declared.steps.RangeAnswer.{RangeAnswer}
use Rattle.nbd_front.specs.declared.steps.End.{End}
use Rattle.nbd_front.specs.declared.steps.Step.{Step}
use Rattle.nbd_front.specs.declared.steps.Step.TheVariants as step
use Rattle.nbd_front.specs.Sessions.{Session, begun, Says, Asks, Ends, move_of, after, answered, stopped, AskedCommand, asked_of}

-- What comes of a session, one after another: bytes are sent; a command is asked, and answered so; the turns run out here; it ends.
pub data Saying : Type 0 where
  Sent : List ℕ → Saying
  Answered : AskedCommand → RangeAnswer → Saying
  OutOfTurns : Saying
  Closed : End → Saying

-- all of this comes of a session one after another, and leads to another one
unfoldable pub TalkFollows : Session → List Saying → Session → Type 0
TalkFollows session [] last = session ≡ last
TalkFollows session (Sent bytes ∷ more) last = (next : Session) × (move_of session ≡ Says bytes next) × TalkFollows next more last
TalkFollows session (Answered asked answer ∷ more) last =
    (move_of session ≡ Asks) × (asked_of session ≡ asked) × TalkFollows (answered session answer) more last
TalkFollows session (OutOfTurns ∷ more) last = TalkFollows (stopped session) more last
TalkFollows session (Closed end ∷ more) last = (move_of session ≡ Ends end) × TalkFollows (after session (Ends end)) more last

-- a session to which all of these bytes have come at once, and of which nothing has come
abbrev pub whole : Layout → List ℕ → Bool → Session
whole layout bytes ended = record (begun layout) { unread = bytes; ended = ended }

-- All of this comes, one after another, of a session over the layout's volumes to which these bytes have come, be they all or not. The
-- session is this one then.
abbrev pub HasSaid : Layout → List ℕ → Bool → List Saying → Session → Type 0
HasSaid layout bytes ended said session = TalkFollows (whole layout bytes ended) said session

-- what a step says
abbrev pub said_by : Step → List Saying
said_by step.Need = []
said_by (step.Send bytes) = Sent bytes ∷ []
said_by step.Ask = []
said_by (step.Ended end) = Closed end ∷ []

-- Whatever has been said before, this has been said after it.
abbrev pub TalkGoesOn : Session → List Saying → Session → Type 0
TalkGoesOn old more new =
    (layout : Layout) (bytes : List ℕ) (ended : Bool) (said : List Saying) → HasSaid layout bytes ended said old
    → HasSaid layout bytes ended (said ++ more) new

-- Whatever has been said, these bytes of the client may as well have come before it all.
abbrev pub TakesBytes : Session → List ℕ → Session → Type 0
TakesBytes old piece new =
    (layout : Layout) (bytes : List ℕ) (said : List Saying) → HasSaid layout bytes false said old
    → HasSaid layout (bytes ++ piece) false said new

-- Whatever has been said, the client's bytes may as well have ended before it all.
abbrev pub TakesEnd : Session → Session → Type 0
TakesEnd old new =
    (layout : Layout) (bytes : List ℕ) (said : List Saying) → HasSaid layout bytes false said old → HasSaid layout bytes true said new
