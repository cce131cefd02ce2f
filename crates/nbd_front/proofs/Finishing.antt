-- What a session does next is the same if its bytes have ended, unless it waits.
use Rattle.std.proofs.Common.{◌≡◌, ℕ, nat_eq, nat_lt, nat_le, Bool, true, false, cond, List, length, drop, Option, Some, None, refl}
use Rattle.fab_base.specs.Layouts.{Volume}
use Rattle.nbd_front.specs.declared.parts.NbdOption.{NbdOption}
use Rattle.nbd_front.specs.declared.parts.NbdOption.TheVariants as choice
use Rattle.nbd_front.specs.declared.parts.NbdKind.{NbdKind}
use Rattle.nbd_front.specs.declared.parts.NbdKind.TheVariants as kind
use Rattle.nbd_front.specs.declared.parts.NbdRequest.{NbdRequest}
use Rattle.nbd_front.specs.declared.steps.End.TheVariants.{Eof, Dropped}
use Rattle.nbd_front.specs.declared.steps.ReplyError.TheVariants.{Invalid}
use Rattle.nbd_front.specs.declared.steps.SessionStage.{SessionStage}
use Rattle.nbd_front.specs.declared.steps.SessionStage.TheVariants as stage
use Rattle.nbd_front.specs.Wire.{client_flags, is_option, option_size, option_number, option_data, choice_of, is_request, request_size, request_of}
use Rattle.nbd_front.specs.Sessions.{Session, Move, Waits, Says, Asks, Ends, waiting, export_of, chosen, reply_to, option_move, opened, flags_move, past_request, replied, served, request_move, move_in, move_of, finished}
use Rattle.nbd_front.proofs.Feeding.{MovesOn, waits_on}

-- the same move of a session whose bytes have ended
abbrev pub finished_move : Move → Move
finished_move (Says sent next) = Says sent (finished next)
finished_move move = move

chosen_ended : (session : Session) (brief : Bool) (found : Option Volume)
    → chosen (finished session) brief found ≡ finished_move (chosen session brief found)
chosen_ended session brief None = refl
chosen_ended session brief (Some volume) = refl

reply_ended : (session : Session) (brief : Bool) (number : ℕ) (name : List ℕ) (wish : NbdOption)
    → reply_to (finished session) brief number name wish ≡ finished_move (reply_to session brief number name wish)
reply_ended session brief number name choice.ExportName = chosen_ended session brief (export_of session.layout name)
reply_ended session brief number name choice.Abort = refl
reply_ended session brief number name choice.Other = refl

-- the session once its option is read
abbrev pub past_option : Session → Session
past_option session = record session { unread = drop (option_size session.unread) session.unread }

-- what comes of an option, by its tests
abbrev pub option_by : Session → Bool → Bool → Bool → Move
option_by session brief short right =
    cond short (waiting session)
    (cond right
    (reply_to (past_option session) brief (option_number session.unread) (option_data session.unread) (choice_of (option_number session.unread)))
    (Ends Dropped))

option_ended : (session : Session) (brief : Bool) → session.ended ≡ false → MovesOn (option_move session brief)
    → option_move (finished session) brief ≡ finished_move (option_move session brief)
option_ended session brief open_still speaks =
    by_tests (nat_lt (length session.unread) (option_size session.unread)) (is_option session.unread) speaks
  where
    by_tests : (short right : Bool) → MovesOn (option_by session brief short right)
        → option_by (finished session) brief short right ≡ finished_move (option_by session brief short right)
    by_tests true right speaks = absurd (waits_on session open_still speaks)
    by_tests false true speaks = reply_ended (past_option session) brief (option_number session.unread) (option_data session.unread)
        (choice_of (option_number session.unread))
    by_tests false false speaks = refl

-- what comes of the client's flags, by their tests
abbrev pub flags_by : Session → Bool → Bool → Move
flags_by session short bad =
    cond short (waiting session) (cond bad (Ends Dropped) (option_move (opened session) (nat_le 2 (client_flags session.unread))))

flags_ended : (session : Session) → session.ended ≡ false → MovesOn (flags_move session)
    → flags_move (finished session) ≡ finished_move (flags_move session)
flags_ended session open_still speaks = by_tests (nat_lt (length session.unread) 4) (nat_lt 3 (client_flags session.unread)) speaks
  where
    by_tests : (short bad : Bool) → MovesOn (flags_by session short bad)
        → flags_by (finished session) short bad ≡ finished_move (flags_by session short bad)
    by_tests true bad speaks = absurd (waits_on session open_still speaks)
    by_tests false true speaks = refl
    by_tests false false speaks = option_ended (opened session) (nat_le 2 (client_flags session.unread)) open_still speaks

served_ended : (past : Session) (request : NbdRequest) (asked : NbdKind)
    → served (finished past) request asked ≡ finished_move (served past request asked)
served_ended past request kind.Read = by_length (nat_le request.length 33_554_432)
  where
    by_length : (within : Bool)
        → cond within Asks (replied (finished past) request Invalid) ≡ finished_move (cond within Asks (replied past request Invalid))
    by_length true = refl
    by_length false = refl
served_ended past request kind.Write = refl
served_ended past request kind.Disc = refl
served_ended past request kind.Flush = refl
served_ended past request kind.Other = refl

-- what comes of a request, by its tests
abbrev pub request_by : Session → Bool → Bool → Bool → Move
request_by session short right none =
    cond short (waiting session)
    (cond right
    (cond none (served (past_request session) (request_of session.unread) (request_of session.unread).kind)
    (replied (past_request session) (request_of session.unread) Invalid))
    (Ends Dropped))

request_ended : (session : Session) → session.ended ≡ false → MovesOn (request_move session)
    → request_move (finished session) ≡ finished_move (request_move session)
request_ended session open_still speaks =
    by_tests (nat_lt (length session.unread) (request_size session.unread)) (is_request session.unread)
    (nat_eq (request_of session.unread).flags 0) speaks
  where
    by_tests : (short right none : Bool) → MovesOn (request_by session short right none)
        → request_by (finished session) short right none ≡ finished_move (request_by session short right none)
    by_tests true right none speaks = absurd (waits_on session open_still speaks)
    by_tests false true true speaks = served_ended (past_request session) (request_of session.unread) (request_of session.unread).kind
    by_tests false true false speaks = refl
    by_tests false false none speaks = refl

-- A session whose bytes have not ended, and which does not wait, makes the same move if they have.
pub move_ended : (session : Session) → session.ended ≡ false → MovesOn (move_of session)
    → move_of (finished session) ≡ finished_move (move_of session)
move_ended session open_still speaks = by_stage session.stage speaks
  where
    by_stage : (here : SessionStage) → MovesOn (move_in session here) → move_in (finished session) here ≡ finished_move (move_in session here)
    by_stage stage.Greeting speaks = refl
    by_stage stage.Flags speaks = flags_ended session open_still speaks
    by_stage (stage.Options brief) speaks = option_ended session brief open_still speaks
    by_stage stage.Requests speaks = request_ended session open_still speaks
    by_stage (stage.Replying cookie error) speaks = refl
    by_stage stage.Sending speaks = refl
    by_stage (stage.Over end) speaks = refl

-- ---- a session that says something has as many bytes to come as before

-- the session that goes on after a move has ended bytes where this says so
abbrev pub EndsWith : Bool → Move → Type 0
EndsWith ended (Says sent next) = next.ended ≡ ended
EndsWith ended move = Unit {0}

waits_with : (session : Session) → EndsWith session.ended (waiting session)
waits_with session = by_end session.ended
  where
    by_end : (b : Bool) → EndsWith session.ended (cond b (Ends Eof) Waits)
    by_end true = tt
    by_end false = tt

option_with : (session : Session) (brief : Bool) → EndsWith session.ended (option_move session brief)
option_with session brief = by_tests (nat_lt (length session.unread) (option_size session.unread)) (is_option session.unread)
  where
    by_export : (found : Option Volume) → EndsWith session.ended (chosen (past_option session) brief found)
    by_export None = tt
    by_export (Some volume) = refl

    by_wish : (wish : NbdOption)
        → EndsWith session.ended (reply_to (past_option session) brief (option_number session.unread) (option_data session.unread) wish)
    by_wish choice.ExportName = by_export (export_of session.layout (option_data session.unread))
    by_wish choice.Abort = refl
    by_wish choice.Other = refl

    by_tests : (short right : Bool) → EndsWith session.ended (option_by session brief short right)
    by_tests true right = waits_with session
    by_tests false true = by_wish (choice_of (option_number session.unread))
    by_tests false false = tt

request_with : (session : Session) → EndsWith session.ended (request_move session)
request_with session =
    by_tests (nat_lt (length session.unread) (request_size session.unread)) (is_request session.unread)
    (nat_eq (request_of session.unread).flags 0)
  where
    by_length : (within : Bool) → EndsWith session.ended (cond within Asks (replied (past_request session) (request_of session.unread) Invalid))
    by_length true = tt
    by_length false = refl

    by_kind : (asked : NbdKind) → EndsWith session.ended (served (past_request session) (request_of session.unread) asked)
    by_kind kind.Read = by_length (nat_le (request_of session.unread).length 33_554_432)
    by_kind kind.Write = tt
    by_kind kind.Disc = tt
    by_kind kind.Flush = refl
    by_kind kind.Other = refl

    by_tests : (short right none : Bool) → EndsWith session.ended (request_by session short right none)
    by_tests true right none = waits_with session
    by_tests false true true = by_kind (request_of session.unread).kind
    by_tests false true false = refl
    by_tests false false none = tt

flags_with : (session : Session) → EndsWith session.ended (flags_move session)
flags_with session = by_tests (nat_lt (length session.unread) 4) (nat_lt 3 (client_flags session.unread))
  where
    by_tests : (short bad : Bool) → EndsWith session.ended (flags_by session short bad)
    by_tests true bad = waits_with session
    by_tests false true = tt
    by_tests false false = option_with (opened session) (nat_le 2 (client_flags session.unread))

-- whether a session's bytes have ended stays as it was
pub move_with : (session : Session) → EndsWith session.ended (move_of session)
move_with session = by_stage session.stage
  where
    by_stage : (here : SessionStage) → EndsWith session.ended (move_in session here)
    by_stage stage.Greeting = refl
    by_stage stage.Flags = flags_with session
    by_stage (stage.Options brief) = option_with session brief
    by_stage stage.Requests = request_with session
    by_stage (stage.Replying cookie error) = refl
    by_stage stage.Sending = refl
    by_stage (stage.Over end) = tt
