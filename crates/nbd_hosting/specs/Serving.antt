-- What a session of a client over NBD does to the bricks of a layout, and how it ends.
use Rattle.std.specs.Prelude.{◌≡◌, ◌⊎◌, ◌-◌, ◌≤◌, ℕ, true, false, if◌then◌else◌, List, [], ◌∷◌, ◌++◌, length, Option, Some, None}
use Rattle.std.specs.Io.KnownBytes.{Appends, Consumes, IsAtEnd}
use Rattle.fab_base.specs.Layouts.{Layout}
use Rattle.fab_io.specs.declared.links.Datagram.{Datagram}
use Rattle.fab_io.specs.Datagrams.{Grows}
use Rattle.fab_io.specs.Ends.{AppendsFront}
use Rattle.front.specs.Ranges.{Progress, begun, next_of}
use Rattle.front.specs.declared.steps.RangeAnswer.{RangeAnswer}
use Rattle.front.specs.declared.steps.RangeStep.TheVariants as step
use Rattle.nbd_front.specs.declared.steps.End.{End}
use Rattle.nbd_front.specs.declared.steps.End.TheVariants.{Eof, Turns}
use Rattle.nbd_front.specs.Sessions.{Session, Waits, Says, Asks, Ends, move_of, after, fed, answered, wanted_of, wants_turn, AskedCommand, Reading, Writing, asked_of}
use Rattle.nbd_front.specs.Sessions.{begun as begun_session}
use Rattle.nbd_front.specs.Talks.{Saying, Sent, Answered, HasSaid}
use Rattle.hosting.specs.Commanded.{Asking, asking, asks_by}
use Rattle.hosting.specs.Rounds.{Heard, AreHeard, after_rounds, asks_in, came_in, Took, Told, RunsRange, StopsRange}
use Rattle.hosting.specs.Faults.{AtSource, AtSink}
use Rattle.hosting.specs.declared.faults.HostFault.{HostFault}
use Rattle.serving.specs.Datagrams.{Looked}

-- the range of bytes of a volume that a command reads or writes
abbrev pub range_of : Layout → AskedCommand → Progress
range_of layout (Reading volume byte length) = begun layout volume byte length None
range_of layout (Writing volume byte bytes) = begun layout volume byte (length bytes) (Some bytes)

-- ---- what is done for a client

-- Bytes of the client are read; bytes are sent to it; or its command is run in these rounds, and answered so.
pub data Deed : Type 0 where
  Reads : List ℕ → Deed
  Sends : List ℕ → Deed
  Runs : AskedCommand → List Heard → RangeAnswer → Deed

-- Where that stands: the session; the turns that are left; how many datagrams were sent, and which; the client's bytes that were read; what came of
-- the session, and the bytes of it that were sent; and the rounds.
pub record Standing : Type 0 where
  pub session : Session
  pub left : ℕ
  pub sent : ℕ
  pub asks : List Datagram
  pub bytes : List ℕ
  pub said : List Saying
  pub text : List ℕ
  pub rounds : List Heard

-- a session with so many turns that begins
abbrev pub beginning : Layout → ℕ → Standing
beginning layout turns =
    record { session = begun_session layout; left = turns; sent = 0; asks = []; bytes = []; said = []; text = []; rounds = [] }

-- a turn is taken as the first byte of an option or of a request is read
abbrev pub part_turns : Session → ℕ
part_turns session = if wants_turn session then 1 else 0

-- where the client of the bricks stands once a command has had its rounds
abbrev pub run_by : Layout → ℕ → AskedCommand → List Heard → Asking
run_by layout sent asked rounds = after_rounds (asking sent (range_of layout asked)) rounds

-- the datagrams that it sent in them
abbrev pub asks_for : Layout → ℕ → AskedCommand → List Heard → List Datagram
asks_for layout sent asked rounds =
    asks_by layout.port sent (next_of (range_of layout asked)) ++ asks_in layout.port (asking sent (range_of layout asked)) rounds

-- what stands once one thing more is done
abbrev pub after_deed : Layout → Standing → Deed → Standing
after_deed layout now (Reads piece) =
    record now { session = fed now.session piece; left = now.left - part_turns now.session; bytes = now.bytes ++ piece }
after_deed layout now (Sends bytes) =
    record now { session = after now.session (move_of now.session); said = now.said ++ (Sent bytes ∷ []); text = now.text ++ bytes }
after_deed layout now (Runs asked rounds answer) =
    record now {
      session = answered now.session answer;
      left = now.left - length rounds;
      sent = (run_by layout now.sent asked rounds).sent;
      asks = now.asks ++ asks_for layout now.sent asked rounds;
      said = now.said ++ (Answered asked answer ∷ []);
      rounds = now.rounds ++ rounds;
    }

-- One thing is done in its place. No more bytes are read than the session waits for, so that each option and each request takes its turn before its
-- first byte. What the session says is sent. The command that it asks is run while turns are left, and answered as its range ends.
abbrev pub IsDone : Layout → Standing → Deed → Type 0
IsDone layout now (Reads piece) =
    (move_of now.session ≡ Waits) × (1 ≤ length piece) × (length piece ≤ wanted_of now.session) × (part_turns now.session ≤ now.left)
IsDone layout now (Sends bytes) = (next : Session) × (move_of now.session ≡ Says bytes next)
IsDone layout now (Runs asked rounds answer) =
    (move_of now.session ≡ Asks) × (asked_of now.session ≡ asked) × AreHeard layout.port (asking now.sent (range_of layout asked)) rounds
    × (length rounds ≤ now.left) × (next_of (run_by layout now.sent asked rounds).range ≡ step.End answer)

-- what stands after these, the last one first, and each is done in its place
abbrev pub standing_of : Layout → ℕ → List Deed → Standing
standing_of layout turns [] = beginning layout turns
standing_of layout turns (deed ∷ before) = after_deed layout (standing_of layout turns before) deed

abbrev pub AreDone : Layout → ℕ → List Deed → Type 0
AreDone layout turns [] = Unit {0}
AreDone layout turns (deed ∷ before) = AreDone layout turns before × IsDone layout (standing_of layout turns before) deed

-- ---- what this does to the things outside

-- what is outside: the bytes that are left of the source, the client's link, the bricks, and the bytes that the sink took
pub record Outside (A : Type 0) : Type 0 where
  pub source : Option (List ℕ)
  pub link : Told
  pub bricks : A
  pub sink : Option (List ℕ)

abbrev pub outside : {A : Type 0} → Option (List ℕ) → Told → A → Option (List ℕ) → Outside A
outside source link bricks sink = record { source = source; link = link; bricks = bricks; sink = sink }

-- A client was served from its first byte on, and this is where that stands. What was sent and asked is what a session over the bytes that were
-- read says. The bricks took a turn in each round, and the client's link was looked at once a round.
pub record HasServed {A : Type 0} (takes : A → A → Type 0) (layout : Layout) (turns : ℕ) (before now : Outside A) (standing : Standing) : Type 0 where
  pub deeds : List Deed
  pub are : AreDone layout turns deeds
  pub leads : standing_of layout turns deeds ≡ standing
  pub talk : HasSaid layout standing.bytes false standing.said standing.session
  pub consumed : Consumes before.source now.source standing.bytes
  pub sent : Appends before.sink now.sink standing.text
  pub looked : Looked before.link.waiting now.link.waiting (came_in standing.rounds)
  pub asked : Grows before.link.sent now.link.sent standing.asks
  pub took : Took takes standing.rounds before.bricks now.bricks

-- A command is open, and these rounds of it used the turns up: the bricks and the client's link are as they leave them.
pub record IsLeftOpen {A : Type 0} (takes : A → A → Type 0) (layout : Layout) (standing : Standing) (now later : Outside A) : Type 0 where
  pub asks : move_of standing.session ≡ Asks
  pub rounds : List Heard
  pub sent_after : ℕ
  pub runs : RunsRange layout.port (range_of layout (asked_of standing.session)) standing.sent sent_after standing.left 0 now.link later.link rounds None
  pub took : Took takes rounds now.bricks later.bricks
  pub source_is : later.source ≡ now.source
  pub sink_is : later.sink ≡ now.sink

-- So a session ends: more bytes were wanted, and the source was at its end; a turn was wanted and none was left, for an option or a request or for a
-- round of a command; or the session says so itself.
abbrev pub EndsAs : {A : Type 0} → (A → A → Type 0) → Layout → Standing → Outside A → Outside A → End → Type 0
EndsAs takes layout standing now later Eof = (later ≡ now) × (move_of standing.session ≡ Waits) × IsAtEnd now.source
EndsAs takes layout standing now later Turns =
    ((later ≡ now) × (move_of standing.session ≡ Waits) × (wants_turn standing.session ≡ true) × (standing.left ≡ 0))
    ⊎ IsLeftOpen takes layout standing now later
EndsAs takes layout standing now later end = (later ≡ now) × (move_of standing.session ≡ Ends end)

-- A session of a client was served with so many turns, and ended so.
pub record ServesSession {A : Type 0} (takes : A → A → Type 0) (layout : Layout) (turns : ℕ) (before later : Outside A) (end : End) : Type 0 where
  pub standing : Standing
  pub now : Outside A
  pub served : HasServed takes layout turns before now standing
  pub over : EndsAs takes layout standing now later end

-- ---- where it is stopped

-- As the session's bytes were sent, the sink failed and took a front of them.
pub record StopsSending {A : Type 0} (standing : Standing) (now later : Outside A) (fault : HostFault) : Type 0 where
  pub at : AtSink fault
  pub bytes : List ℕ
  pub next : Session
  pub says : move_of standing.session ≡ Says bytes next
  pub sent : AppendsFront now.sink later.sink bytes
  pub rest_is : (later.source ≡ now.source) × (later.link ≡ now.link) × (later.bricks ≡ now.bricks)

-- As the session's command was run, the bricks or the client's link failed.
pub record StopsRunning {A : Type 0} (takes : A → A → Type 0) (stops : A → A → HostFault → Type 0) (layout : Layout) (standing : Standing)
    (now later : Outside A) (fault : HostFault) : Type 0 where
  pub asks : move_of standing.session ≡ Asks
  pub stopped : StopsRange takes stops layout.port (range_of layout (asked_of standing.session)) standing.sent standing.left now.link later.link
      now.bricks later.bricks fault
  pub source_is : later.source ≡ now.source
  pub sink_is : later.sink ≡ now.sink

-- The same until a fault: the source failed or no memory was left, and nothing more was done; or it came as bytes were sent, or as a command was run.
pub record ServesUntil {A : Type 0} (takes : A → A → Type 0) (stops : A → A → HostFault → Type 0) (layout : Layout) (turns : ℕ)
    (before later : Outside A) (fault : HostFault) : Type 0 where
  pub standing : Standing
  pub now : Outside A
  pub served : HasServed takes layout turns before now standing
  pub stopped : (AtSource fault × (later ≡ now)) ⊎ (StopsSending standing now later fault ⊎ StopsRunning takes stops layout standing now later fault)
