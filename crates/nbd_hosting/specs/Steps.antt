-- One step of a session that is served.
use Rattle.std.specs.Prelude.{◌≡◌, ◌⊎◌, ◌+◌, ◌-◌, ◌≤◌, ◌<◌, ℕ, true, List, length, Option, Some, None, Result, Ok, Err}
use Rattle.std.specs.Io.KnownBytes.{Consumes, Keeps, IsAtEnd}
use Rattle.fab_base.specs.Layouts.{Layout}
use Rattle.front.specs.declared.steps.RangeAnswer.{RangeAnswer}
use Rattle.nbd_front.specs.declared.steps.End.{End}
use Rattle.nbd_front.specs.declared.steps.End.TheVariants.{Eof, Turns}
use Rattle.nbd_front.specs.Sessions.{Session, fed, answered, wanted_of, wants_turn, asked_of}
use Rattle.nbd_front.specs.Lives.{IsLive, owed, effort}
use Rattle.hosting.specs.Faults.{AtSource}
use Rattle.hosting.specs.Rounds.{Heard, Told, Took, RunsRange, StopsRange}
use Rattle.hosting.specs.declared.faults.HostFault.{HostFault}
use Rattle.nbd_hosting.specs.Serving.{range_of, part_turns, Standing, Outside, HasServed, ServesSession, ServesUntil}

-- ---- bytes of the client

-- these bytes are read for a session, which pays for them if they are the first of an option or of a request
pub record TakesPiece (session : Session) (left : ℕ) (source source_after : Option (List ℕ)) (piece : List ℕ) : Type 0 where
  pub some : 1 ≤ length piece
  pub few : length piece ≤ wanted_of session
  pub paid : part_turns session ≤ left
  pub came : Consumes source source_after piece

-- Bytes were read, and the session has them; or no turn was left for them; or the source is at its end; or it failed; or no memory was left, and the
-- session has not got what was read.
abbrev pub ReadsClient : Session → Session → ℕ → ℕ → Option (List ℕ) → Option (List ℕ) → Result (Option End) HostFault → Type 0
ReadsClient session session_after left left_after source source_after (Ok None) =
    (piece : List ℕ) × TakesPiece session left source source_after piece × (session_after ≡ fed session piece)
    × (left_after ≡ left - part_turns session)
ReadsClient session session_after left left_after source source_after (Ok (Some Turns)) =
    (source_after ≡ source) × (wants_turn session ≡ true) × (left ≡ 0)
ReadsClient session session_after left left_after source source_after (Ok (Some Eof)) = Keeps source source_after × IsAtEnd source_after
ReadsClient session session_after left left_after source source_after (Ok (Some end)) = ⊥
ReadsClient session session_after left left_after source source_after (Err fault) =
    AtSource fault × (Keeps source source_after ⊎ ((piece : List ℕ) × TakesPiece session left source source_after piece))

-- ---- its command

-- Its command was run to its end, and the session has the answer; or no turn was left for a round of it; or it was stopped.
abbrev pub RunsAsked : {A : Type 0} → (A → A → Type 0) → (A → A → HostFault → Type 0) → Layout → Session → Session → (left left_after sent sent_after : ℕ)
    → Told → Told → A → A → Result (Option End) HostFault → Type 0
RunsAsked takes stops layout session session_after left left_after sent sent_after link link_after bricks bricks_after (Ok None) =
    (answer : RangeAnswer) × ((rounds : List Heard)
    × RunsRange layout.port (range_of layout (asked_of session)) sent sent_after left left_after link link_after rounds (Some answer)
    × Took takes rounds bricks bricks_after) × (session_after ≡ answered session answer) × (sent_after + left_after ≤ sent + left + 1)
RunsAsked takes stops layout session session_after left left_after sent sent_after link link_after bricks bricks_after (Ok (Some Turns)) =
    (rounds : List Heard)
    × RunsRange layout.port (range_of layout (asked_of session)) sent sent_after left left_after link link_after rounds None
    × Took takes rounds bricks bricks_after
RunsAsked takes stops layout session session_after left left_after sent sent_after link link_after bricks bricks_after (Ok (Some end)) = ⊥
RunsAsked takes stops layout session session_after left left_after sent sent_after link link_after bricks bricks_after (Err fault) =
    StopsRange takes stops layout.port (range_of layout (asked_of session)) sent left link link_after bricks bricks_after fault

-- ---- a step

-- This session is served, with so many turns left, and so many datagrams sent: no more than turns were taken for commands and rounds.
pub record IsServing {A : Type 0} (takes : A → A → Type 0) (layout : Layout) (turns : ℕ) (before now : Outside A) (session : Session) (left sent : ℕ) : Type 0 where
  pub standing : Standing
  pub served : HasServed takes layout turns before now standing
  pub session_is : standing.session ≡ session
  pub left_is : standing.left ≡ left
  pub sent_is : standing.sent ≡ sent
  pub runs : IsLive session
  pub few : sent + left + owed session ≤ turns

-- If a session was served until now, it is served on so, with less ahead; or it ended; or it was stopped.
abbrev pub ServesOn : {A : Type 0} → (A → A → Type 0) → (A → A → HostFault → Type 0) → Layout → (now later : Outside A) → (session session_after : Session)
    → (left left_after sent sent_after : ℕ) → Result (Option End) HostFault → Type 0
ServesOn {A} takes stops layout now later session session_after left left_after sent sent_after (Ok None) =
    (turns : ℕ) (before : Outside A) → IsServing takes layout turns before now session left sent
    → IsServing takes layout turns before later session_after left_after sent_after × (effort session_after left_after < effort session left)
ServesOn {A} takes stops layout now later session session_after left left_after sent sent_after (Ok (Some end)) =
    (turns : ℕ) (before : Outside A) → IsServing takes layout turns before now session left sent
    → ServesSession takes layout turns before later end
ServesOn {A} takes stops layout now later session session_after left left_after sent sent_after (Err fault) =
    (turns : ℕ) (before : Outside A) → IsServing takes layout turns before now session left sent
    → ServesUntil takes stops layout turns before later fault
