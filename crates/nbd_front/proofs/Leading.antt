-- Where the moves of a session lead that runs: its bytes have not ended, and no turn was missed.
use Rattle.std.proofs.Common.{◌≡◌, ℕ, ◌+◌, ◌≤◌, nat_eq, nat_lt, nat_le, Bool, true, false, ◌&&◌, cond, List, ◌++◌, length, drop, Option, Some, None, refl, sym, ap, subst, ◌∙◌, arith}
use Rattle.std.proofs.lemmas.Bool.Decides.{nat_tests}
use Rattle.std.proofs.lemmas.List.{length-drop}
use Rattle.fab_base.specs.Layouts.{Layout, Volume}
use Rattle.front.specs.declared.steps.RangeAnswer.{RangeAnswer}
use Rattle.nbd_front.specs.declared.parts.NbdOption.{NbdOption}
use Rattle.nbd_front.specs.declared.parts.NbdOption.TheVariants as choice
use Rattle.nbd_front.specs.declared.parts.NbdKind.{NbdKind}
use Rattle.nbd_front.specs.declared.parts.NbdKind.TheVariants as kind
use Rattle.nbd_front.specs.declared.steps.End.{End}
use Rattle.nbd_front.specs.declared.steps.End.TheVariants.{Disc, Abort, Eof, Dropped, NoExport, Turns}
use Rattle.nbd_front.specs.declared.steps.ReplyError.TheVariants.{Invalid}
use Rattle.nbd_front.specs.declared.steps.SessionStage.{SessionStage}
use Rattle.nbd_front.specs.declared.steps.SessionStage.TheVariants as stage
use Rattle.nbd_front.specs.Wire.{client_flags, is_option, option_size, option_number, option_data, choice_of, is_request, request_size, request_of}
use Rattle.nbd_front.specs.Sessions.{Session, begun, Move, Waits, Says, Asks, Ends, export_of, chosen, reply_to, option_move, opened, flags_move, past_request, replied, served, request_move, move_in, move_of, fed, answered, part_size, EndsInPart, ReadsNoFurther, turn_in, wants_turn}
use Rattle.nbd_front.specs.Lives.{HasNoWant, IsLive, one_if, owed_in, owed}
use Rattle.nbd_front.proofs.Asking.{asks_stage, asks_whole}
use Rattle.nbd_front.proofs.Finishing.{past_option, option_by, flags_by, request_by}

-- a session that has said something runs, and has no byte left; and none ends for want of bytes or of turns
abbrev pub LeadsOn : Move → Type 0
LeadsOn Waits = Unit {0}
LeadsOn (Says bytes next) = (next.ended ≡ false) × (length next.unread ≡ 0) × HasNoWant next.stage
LeadsOn Asks = Unit {0}
LeadsOn (Ends Eof) = ⊥
LeadsOn (Ends Turns) = ⊥
LeadsOn (Ends end) = Unit {0}

waits_on : (ended : Bool) → ended ≡ false → LeadsOn (cond ended (Ends Eof) Waits)
waits_on true open_still = absurd (let never : true ≡ false = open_still in cc)
waits_on false open_still = tt

-- all bytes of a part that is whole are read
all_read : (xs : List ℕ) (size : ℕ) → length xs ≤ size → length (drop size xs) ≡ 0
all_read xs size within = omega (arith, within, length-drop size xs)

option_on : (session : Session) (brief : Bool) → session.ended ≡ false → length session.unread ≤ option_size session.unread
    → LeadsOn (option_move session brief)
option_on session brief open_still whole =
    by_tests (nat_lt (length session.unread) (option_size session.unread)) (is_option session.unread)
    (all_read session.unread (option_size session.unread) whole)
  where
    by_export : (found : Option Volume) → length (drop (option_size session.unread) session.unread) ≡ 0
        → LeadsOn (chosen (past_option session) brief found)
    by_export None none = tt
    by_export (Some volume) none = (open_still, none, tt)

    by_wish : (wish : NbdOption) → length (drop (option_size session.unread) session.unread) ≡ 0
        → LeadsOn (reply_to (past_option session) brief (option_number session.unread) (option_data session.unread) wish)
    by_wish choice.ExportName none = by_export (export_of session.layout (option_data session.unread)) none
    by_wish choice.Abort none = (open_still, none, tt)
    by_wish choice.Other none = (open_still, none, tt)

    by_tests : (short right : Bool) → length (drop (option_size session.unread) session.unread) ≡ 0
        → LeadsOn (option_by session brief short right)
    by_tests true right none = waits_on session.ended open_still
    by_tests false true none = by_wish (choice_of (option_number session.unread)) none
    by_tests false false none = tt

-- the size of the client's flags, and of the option behind them
abbrev flagged : Bool → ℕ → ℕ
flagged short size = cond short 4 (4 + size)

flags_on : (session : Session) → session.ended ≡ false → length session.unread ≤ part_size session.unread stage.Flags
    → LeadsOn (flags_move session)
flags_on session open_still whole =
    by_tests (nat_lt (length session.unread) 4) refl (nat_lt 3 (client_flags session.unread)) whole
  where
    by_tests : (short : Bool) → nat_lt (length session.unread) 4 ≡ short → (bad : Bool)
        → length session.unread ≤ flagged short (option_size (drop 4 session.unread)) → LeadsOn (flags_by session short bad)
    by_tests true test bad whole = waits_on session.ended open_still
    by_tests false test true whole = tt
    by_tests false test false whole =
        option_on (opened session) (nat_le 2 (client_flags session.unread)) open_still (omega (arith, whole, length-drop 4 session.unread))

request_on : (session : Session) → session.ended ≡ false → length session.unread ≤ request_size session.unread
    → LeadsOn (request_move session)
request_on session open_still whole =
    by_tests (nat_lt (length session.unread) (request_size session.unread)) (is_request session.unread)
    (nat_eq (request_of session.unread).flags 0) (all_read session.unread (request_size session.unread) whole)
  where
    by_length : (few : Bool) → length (drop (request_size session.unread) session.unread) ≡ 0
        → LeadsOn (cond few Asks (replied (past_request session) (request_of session.unread) Invalid))
    by_length true none = tt
    by_length false none = (open_still, none, tt)

    by_kind : (asked : NbdKind) → length (drop (request_size session.unread) session.unread) ≡ 0
        → LeadsOn (served (past_request session) (request_of session.unread) asked)
    by_kind kind.Read none = by_length (nat_le (request_of session.unread).length 33_554_432) none
    by_kind kind.Write none = tt
    by_kind kind.Disc none = tt
    by_kind kind.Flush none = (open_still, none, tt)
    by_kind kind.Other none = (open_still, none, tt)

    by_tests : (short right plain : Bool) → length (drop (request_size session.unread) session.unread) ≡ 0
        → LeadsOn (request_by session short right plain)
    by_tests true right plain none = waits_on session.ended open_still
    by_tests false true true none = by_kind (request_of session.unread).kind none
    by_tests false true false none = (open_still, none, tt)
    by_tests false false plain none = tt

-- where a session leads that runs
pub leads_on : (session : Session) → IsLive session → LeadsOn (move_of session)
leads_on session runs = by_stage session.stage runs.within runs.goes
  where
    by_reply : (none : Bool) → length session.unread ≡ 0
        → (session.ended ≡ false) × (length session.unread ≡ 0) × HasNoWant (cond none stage.Requests stage.Sending)
    by_reply true empty = (runs.open_still, empty, tt)
    by_reply false empty = (runs.open_still, empty, tt)

    by_end : (end : End) → HasNoWant (stage.Over end) → LeadsOn (Ends end)
    by_end Eof goes = goes
    by_end Turns goes = goes
    by_end Disc goes = tt
    by_end Abort goes = tt
    by_end Dropped goes = tt
    by_end NoExport goes = tt

    by_stage : (here : SessionStage) → EndsInPart session.unread here → HasNoWant here → LeadsOn (move_in session here)
    by_stage stage.Greeting whole goes = (runs.open_still, (let none : length session.unread ≡ 0 = omega (arith, whole) in none), tt)
    by_stage stage.Flags whole goes = flags_on session runs.open_still whole
    by_stage (stage.Options brief) whole goes = option_on session brief runs.open_still whole
    by_stage stage.Requests whole goes = request_on session runs.open_still whole
    by_stage (stage.Replying cookie error) whole goes = by_reply (nat_eq (length session.found) 0) (omega (arith, whole))
    by_stage stage.Sending whole goes = (runs.open_still, (let none : length session.unread ≡ 0 = omega (arith, whole) in none), tt)
    by_stage (stage.Over end) whole goes = by_end end goes

-- ---- a session goes on to run

pub IsLive-begun : (session : Session) (layout : Layout) → session ≡ begun layout → ReadsNoFurther session → IsLive session
IsLive-begun session layout is within =
    record {
      open_still = ap (λ (s : Session). s.ended) is;
      within = within;
      goes = subst (λ (s : Session). HasNoWant s.stage) (sym is) tt;
    }

pub IsLive-fed : (old new : Session) (piece : List ℕ) → IsLive old → new ≡ fed old piece → ReadsNoFurther new → IsLive new
IsLive-fed old new piece runs is within =
    record {
      open_still = ap (λ (s : Session). s.ended) is ∙ runs.open_still;
      within = within;
      goes = subst (λ (s : Session). HasNoWant s.stage) (sym is) runs.goes;
    }

pub IsLive-answered : (old new : Session) (answer : RangeAnswer) → IsLive old → new ≡ answered old answer → ReadsNoFurther new → IsLive new
IsLive-answered old new answer runs is within =
    record {
      open_still = ap (λ (s : Session). s.ended) is ∙ runs.open_still;
      within = within;
      goes = subst (λ (s : Session). HasNoWant s.stage) (sym is) tt;
    }

pub IsLive-said : (old new : Session) (bytes : List ℕ) → IsLive old → move_of old ≡ Says bytes new → ReadsNoFurther new → IsLive new
IsLive-said old new bytes runs is within =
    let leads : LeadsOn (Says bytes new) = subst LeadsOn is (leads_on old runs) in
    record { open_still = leads.0; within = within; goes = leads.2 }

-- ---- the request that a turn was taken for

-- a turn is taken as its first byte comes
pub owed_fed : (session : Session) (piece : List ℕ) → owed (fed session piece) ≤ owed session + one_if (wants_turn session)
owed_fed session piece = by_stage session.stage
  where
    by_test : (bytes : List ℕ) (b : Bool) → nat_eq (length bytes) 0 ≡ b → (many : Bool)
        → one_if many ≤ one_if (nat_lt 0 (length bytes)) + one_if b
    by_test bytes true e true = omega arith
    by_test bytes true e false = omega arith
    by_test bytes false e false = omega arith
    by_test bytes false e true =
        let some : nat_lt 0 (length bytes) ≡ true = grind (arith, nat_tests) in
        let one : one_if (nat_lt 0 (length bytes)) ≡ 1 = ap one_if some in
        omega (arith, one)

    by_stage : (here : SessionStage) → owed_in (session.unread ++ piece) here ≤ owed_in session.unread here + one_if (turn_in session.unread here)
    by_stage stage.Requests = by_test session.unread (nat_eq (length session.unread) 0) refl (nat_lt 0 (length (session.unread ++ piece)))
    by_stage stage.Greeting = omega arith
    by_stage stage.Flags = omega arith
    by_stage (stage.Options brief) = omega arith
    by_stage (stage.Replying cookie error) = omega arith
    by_stage stage.Sending = omega arith
    by_stage (stage.Over end) = omega arith

owed_none : (bytes : List ℕ) (here : SessionStage) → length bytes ≡ 0 → owed_in bytes here ≡ 0
owed_none bytes stage.Requests none =
    let no : nat_lt 0 (length bytes) ≡ false = grind (arith, nat_tests) in
    ap one_if no
owed_none bytes stage.Greeting none = refl
owed_none bytes stage.Flags none = refl
owed_none bytes (stage.Options brief) none = refl
owed_none bytes (stage.Replying cookie error) none = refl
owed_none bytes stage.Sending none = refl
owed_none bytes (stage.Over end) none = refl

-- none is owed behind what a session said
pub owed_said : (old new : Session) (bytes : List ℕ) → IsLive old → move_of old ≡ Says bytes new → owed new ≡ 0
owed_said old new bytes runs is =
    let leads : LeadsOn (Says bytes new) = subst LeadsOn is (leads_on old runs) in
    owed_none new.unread new.stage leads.1

-- one is for a command
pub owed_asks : (session : Session) → move_of session ≡ Asks → owed session ≡ 1
owed_asks session asks =
    let head = (asks_whole session asks).head in
    let some : nat_lt 0 (length session.unread) ≡ true = grind (arith, nat_tests) in
    ap (owed_in session.unread) (asks_stage session asks) ∙ ap one_if some
