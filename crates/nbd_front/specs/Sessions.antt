-- A session over NBD: what it does next, and how it goes on.
use Rattle.std.specs.Prelude.{◌≡◌, ◌+◌, ◌≤◌, ℕ, ◌-◌, nat_eq, nat_lt, nat_le, Bool, true, false, ◌&&◌, if◌then◌else◌, List, [], ◌++◌, length, drop, Option, Some, None, Result, Ok, Err, slice_get, take, unwrap_or}
use Rattle.fab_base.specs.Layouts.{Volume, Layout}
use Rattle.layout.specs.Places.{volume_of, length_of}
use Rattle.fab_base.specs.declared.faults.NoMem.{NoMem}
use Rattle.front.specs.declared.steps.RangeAnswer.{RangeAnswer}
use Rattle.front.specs.declared.steps.RangeAnswer.TheVariants as range
use Rattle.nbd_front.specs.declared.parts.NbdOption.{NbdOption}
use Rattle.nbd_front.specs.declared.parts.NbdOption.TheVariants as choice
use Rattle.nbd_front.specs.declared.parts.NbdKind.{NbdKind}
use Rattle.nbd_front.specs.declared.parts.NbdKind.TheVariants as kind
use Rattle.nbd_front.specs.declared.parts.NbdRequest.{NbdRequest}
use Rattle.nbd_front.specs.declared.steps.Command.{Command}
use Rattle.nbd_front.specs.declared.steps.Command.TheVariants as command
use Rattle.nbd_front.specs.declared.steps.End.{End}
use Rattle.nbd_front.specs.declared.steps.End.TheVariants.{Disc, Abort, Eof, Dropped, NoExport, Turns}
use Rattle.nbd_front.specs.declared.steps.ReplyError.{ReplyError}
use Rattle.nbd_front.specs.declared.steps.ReplyError.TheVariants.{Success, Io, Invalid, NoSpace}
use Rattle.nbd_front.specs.declared.steps.SessionStage.{SessionStage}
use Rattle.nbd_front.specs.declared.steps.SessionStage.TheVariants as stage
use Rattle.nbd_front.specs.declared.steps.Step.{Step}
use Rattle.nbd_front.specs.declared.steps.Step.TheVariants as step
use Rattle.nbd_front.specs.Wire.{client_flags, is_option, option_size, option_number, option_data, choice_of, is_request, request_size, request_of, greeting, option_reply, acknowledged, unsupported, export_reply, request_reply}

-- A session: the layout of the disk, what it reads or sends next, the volume that the client chose, the client's bytes that are not read
-- yet, whether these are its last, and the bytes of a READ that are still to be sent.
pub record Session : Type 0 where
  pub layout : Layout
  pub stage : SessionStage
  pub volume : List ℕ
  pub unread : List ℕ
  pub ended : Bool
  pub found : List ℕ

-- a session of which no byte has come
abbrev pub begun : Layout → Session
begun layout = record { layout = layout; stage = stage.Greeting; volume = []; unread = []; ended = false; found = [] }

-- What a session does next: it waits for bytes, sends bytes and is this session then, waits for the answer of its command, or ends.
pub data Move : Type 0 where
  Waits : Move
  Says : List ℕ → Session → Move
  Asks : Move
  Ends : End → Move

-- the part that is read next has not come whole
abbrev pub waiting : Session → Move
waiting session = if session.ended then Ends Eof else Waits

-- ---- options

-- the volume of this name, the empty name being that of the first
abbrev pub export_of : Layout → List ℕ → Option Volume
export_of layout name = if nat_eq (length name) 0 then slice_get layout.volumes 0 else volume_of layout name

-- how many bytes a volume has
abbrev pub size_of : Layout → List ℕ → ℕ
size_of layout name = unwrap_or (length_of layout name) 0

-- a volume is chosen, and requests come next
abbrev pub chosen : Session → Bool → Option Volume → Move
chosen session brief None = Ends NoExport
chosen session brief (Some volume) =
    Says (export_reply (size_of session.layout volume.name) brief) (record session { stage = stage.Requests; volume = volume.name })

-- the reply to an option, after which the session is this
abbrev pub reply_to : Session → Bool → ℕ → List ℕ → NbdOption → Move
reply_to session brief number name choice.ExportName = chosen session brief (export_of session.layout name)
reply_to session brief number name choice.Abort = Says (option_reply number acknowledged) (record session { stage = stage.Over Abort })
reply_to session brief number name choice.Other = Says (option_reply number unsupported) (record session { stage = stage.Options brief })

-- an option is read next
abbrev pub option_move : Session → Bool → Move
option_move session brief =
    if nat_lt (length session.unread) (option_size session.unread) then waiting session else
    if is_option session.unread then
    reply_to (record session { unread = drop (option_size session.unread) session.unread }) brief
    (option_number session.unread) (option_data session.unread) (choice_of (option_number session.unread))
    else Ends Dropped

-- the session once the client's flags are read
abbrev pub opened : Session → Session
opened session = record session { unread = drop 4 session.unread }

-- the client's flags are read next
abbrev pub flags_move : Session → Move
flags_move session =
    if nat_lt (length session.unread) 4 then waiting session else
    if nat_lt 3 (client_flags session.unread) then Ends Dropped
    else option_move (opened session) (nat_le 2 (client_flags session.unread))

-- ---- requests

-- the session once its request is read, with requests next
abbrev pub past_request : Session → Session
past_request session = record session { stage = stage.Requests; unread = drop (request_size session.unread) session.unread }

-- a reply at once, after which the session is this
abbrev pub replied : Session → NbdRequest → ReplyError → Move
replied session request error = Says (request_reply error request.cookie) session

-- what comes of a request by its kind, if it has no flags, and where the session that has read it is this
abbrev pub served : Session → NbdRequest → NbdKind → Move
served session request kind.Read = if nat_le request.length 33_554_432 then Asks else replied session request Invalid
served session request kind.Write = Asks
served session request kind.Disc = Ends Disc
served session request kind.Flush = replied session request Success
served session request kind.Other = replied session request Invalid

-- a request is read next
abbrev pub request_move : Session → Move
request_move session =
    if nat_lt (length session.unread) (request_size session.unread) then waiting session else
    if is_request session.unread then
    (if nat_eq (request_of session.unread).flags 0 then
    served (past_request session) (request_of session.unread) (request_of session.unread).kind
    else replied (past_request session) (request_of session.unread) Invalid)
    else Ends Dropped

-- what comes behind the head of a reply: the bytes of a READ, if there are some
abbrev pub behind_reply : List ℕ → SessionStage
behind_reply found = if nat_eq (length found) 0 then stage.Requests else stage.Sending

-- ---- the session

abbrev pub move_in : Session → SessionStage → Move
move_in session stage.Greeting = Says greeting (record session { stage = stage.Flags })
move_in session stage.Flags = flags_move session
move_in session (stage.Options brief) = option_move session brief
move_in session stage.Requests = request_move session
move_in session (stage.Replying cookie error) =
    Says (request_reply error cookie) (record session { stage = behind_reply session.found })
move_in session stage.Sending = Says session.found (record session { stage = stage.Requests; found = [] })
move_in session (stage.Over end) = Ends end

-- what a session does next
abbrev pub move_of : Session → Move
move_of session = move_in session session.stage

-- what the caller is told of it
abbrev pub step_of : Move → Step
step_of Waits = step.Need
step_of (Says bytes next) = step.Send bytes
step_of Asks = step.Ask
step_of (Ends end) = step.Ended end

-- the session once it has done so
abbrev pub after : Session → Move → Session
after session Waits = session
after session (Says bytes next) = next
after session Asks = session
after session (Ends end) = record session { stage = stage.Over end }

-- the caller was told this move, and the session has made it; or memory ran out, and it is as it was
abbrev pub MakesMove : Result Step NoMem → Session → Session → Move → Type 0
MakesMove (Ok step) old new move = (step ≡ step_of move) × (new ≡ after old move)
MakesMove (Err fault) old new move = new ≡ old

-- ---- what the caller tells

-- bytes of the client have come
abbrev pub fed : Session → List ℕ → Session
fed session piece = record session { unread = session.unread ++ piece }

-- the client's bytes have ended
abbrev pub finished : Session → Session
finished session = record session { ended = true }

-- no turn is left: a session that has not ended ends
abbrev pub stopped_in : SessionStage → SessionStage
stopped_in (stage.Over end) = stage.Over end
stopped_in here = stage.Over Turns

abbrev pub stopped : Session → Session
stopped session = record session { stage = stopped_in session.stage }

-- the error of an answer to a command of this kind
abbrev pub error_of : NbdKind → RangeAnswer → ReplyError
error_of asked (range.Done bytes) = Success
error_of asked (range.Stopped blocks why) = Io
error_of asked range.Unaligned = Invalid
error_of kind.Write range.Beyond = NoSpace
error_of asked range.Beyond = Invalid

-- the bytes that are sent for an answer: those of a READ that was done
abbrev pub found_by : NbdKind → RangeAnswer → List ℕ
found_by kind.Read (range.Done bytes) = bytes
found_by asked answer = []

-- the session once its command is answered
abbrev pub answered : Session → RangeAnswer → Session
answered session answer =
    record (past_request session) {
      stage = stage.Replying (request_of session.unread).cookie (error_of (request_of session.unread).kind answer);
      found = found_by (request_of session.unread).kind answer;
    }

-- ---- the command of a session that asks one

-- what is asked of the disk: bytes of a volume are read, or these are written
pub data AskedCommand : Type 0 where
  Reading : (volume : List ℕ) (byte length : ℕ) → AskedCommand
  Writing : (volume : List ℕ) (byte : ℕ) (bytes : List ℕ) → AskedCommand

abbrev pub asked_by : List ℕ → List ℕ → NbdRequest → NbdKind → AskedCommand
asked_by volume bytes request kind.Write = Writing volume request.offset (take request.length (drop 28 bytes))
asked_by volume bytes request asked = Reading volume request.offset request.length

-- the command of a session that asks one
abbrev pub asked_of : Session → AskedCommand
asked_of session = asked_by session.volume session.unread (request_of session.unread) (request_of session.unread).kind

-- the same of a command as it is lent
abbrev pub shown : Command → AskedCommand
shown (command.Read volume byte length) = Reading volume.now byte length
shown (command.Write volume byte bytes) = Writing volume.now byte bytes.now

-- ---- how much is read, and when a turn is taken

-- how many bytes the part has that is read next, as far as those of it that came tell
abbrev pub part_size : List ℕ → SessionStage → ℕ
part_size bytes stage.Flags = if nat_lt (length bytes) 4 then 4 else 4 + option_size (drop 4 bytes)
part_size bytes (stage.Options brief) = option_size bytes
part_size bytes stage.Requests = request_size bytes
part_size bytes here = 0

-- how many bytes that part still lacks
abbrev pub wanted_of : Session → ℕ
wanted_of session = part_size session.unread session.stage - length session.unread

-- no byte has come behind that part, or the session has ended
abbrev pub EndsInPart : List ℕ → SessionStage → Type 0
EndsInPart bytes (stage.Over end) = Unit {0}
EndsInPart bytes here = length bytes ≤ part_size bytes here

abbrev pub ReadsNoFurther : Session → Type 0
ReadsNoFurther session = EndsInPart session.unread session.stage

-- The next byte that is read is the first of an option or of a request.
abbrev pub turn_in : List ℕ → SessionStage → Bool
turn_in bytes stage.Flags = nat_eq (length bytes) 4 && nat_le (client_flags bytes) 3
turn_in bytes (stage.Options brief) = nat_eq (length bytes) 0
turn_in bytes stage.Requests = nat_eq (length bytes) 0
turn_in bytes here = false

abbrev pub wants_turn : Session → Bool
wants_turn session = turn_in session.unread session.stage
