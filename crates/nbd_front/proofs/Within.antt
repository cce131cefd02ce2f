-- A session to which no more bytes come than it wants takes none behind the part that it reads next.
use Rattle.std.proofs.Common.{◌≡◌, ℕ, ◌+◌, ◌-◌, ◌≤◌, nat_eq, nat_lt, nat_le, Bool, true, false, ◌&&◌, cond, List, ◌++◌, length, drop, Option, Some, None, length-append, refl, ap, subst, ◌∙◌, arith}
use Rattle.std.proofs.lemmas.Bool.Decides.{nat_tests}
use Rattle.std.proofs.lemmas.List.{drop-append-le, length-drop}
use Rattle.fab_base.specs.Layouts.{Volume}
use Rattle.front.specs.declared.steps.RangeAnswer.{RangeAnswer}
use Rattle.nbd_front.specs.declared.parts.NbdOption.{NbdOption}
use Rattle.nbd_front.specs.declared.parts.NbdOption.TheVariants as choice
use Rattle.nbd_front.specs.declared.parts.NbdKind.{NbdKind}
use Rattle.nbd_front.specs.declared.parts.NbdKind.TheVariants as kind
use Rattle.nbd_front.specs.declared.steps.End.TheVariants.{Eof}
use Rattle.nbd_front.specs.declared.steps.ReplyError.TheVariants.{Invalid}
use Rattle.nbd_front.specs.declared.steps.SessionStage.{SessionStage}
use Rattle.nbd_front.specs.declared.steps.SessionStage.TheVariants as stage
use Rattle.nbd_front.specs.Wire.{client_flags, is_option, option_length, option_size, option_number, option_data, choice_of, is_request, request_size, request_of, bytes_behind}
use Rattle.nbd_front.specs.Sessions.{Session, Move, Waits, Asks, Ends, export_of, chosen, reply_to, option_move, opened, flags_move, past_request, replied, served, request_move, move_in, move_of, after, fed, answered, part_size, wanted_of, ReadsNoFurther, EndsInPart}
use Rattle.nbd_front.proofs.Asking.{asks_stage}
use Rattle.nbd_front.proofs.Prefixes.{sized, some_head, option_size_known, request_size_known}
use Rattle.nbd_front.proofs.Finishing.{past_option, option_by, flags_by, request_by}

-- what is known of a part's size only grows as its bytes come
option_grows : (xs ys : List ℕ) → option_size xs ≤ option_size (xs ++ ys)
option_grows xs ys = by_head (nat_le 16 (length xs)) refl
  where
    by_head : (b : Bool) → nat_le 16 (length xs) ≡ b → option_size xs ≤ option_size (xs ++ ys)
    by_head true test =
        let head : 16 ≤ length xs = grind (arith, nat_tests) in
        omega (arith, option_size_known xs ys head)
    by_head false test =
        let here : option_size xs ≡ 16 = ap (λ (t : Bool). sized (t && is_option xs) 16 (option_length xs)) test in
        omega (arith, here, some_head (nat_le 16 (length (xs ++ ys)) && is_option (xs ++ ys)) 16 (option_length (xs ++ ys)))

request_grows : (xs ys : List ℕ) → request_size xs ≤ request_size (xs ++ ys)
request_grows xs ys = by_head (nat_le 28 (length xs)) refl
  where
    by_head : (b : Bool) → nat_le 28 (length xs) ≡ b → request_size xs ≤ request_size (xs ++ ys)
    by_head true test =
        let head : 28 ≤ length xs = grind (arith, nat_tests) in
        omega (arith, request_size_known xs ys head)
    by_head false test =
        let here : request_size xs ≡ 28 =
        ap (λ (t : Bool). sized (t && is_request xs) 28 (bytes_behind (request_of xs).kind (request_of xs).length)) test in
        omega (
          arith,
          here,
          some_head (nat_le 28 (length (xs ++ ys)) && is_request (xs ++ ys)) 28
              (bytes_behind (request_of (xs ++ ys)).kind (request_of (xs ++ ys)).length),
        )

-- the size of the client's flags, and of the option behind them
abbrev flagged : Bool → ℕ → ℕ
flagged short size = cond short 4 (4 + size)

some_flags : (short : Bool) (size : ℕ) → 4 ≤ flagged short size
some_flags true size = omega arith
some_flags false size = omega arith

flags_grow : (xs ys : List ℕ) → part_size xs stage.Flags ≤ part_size (xs ++ ys) stage.Flags
flags_grow xs ys = by_short (nat_lt (length xs) 4) refl
  where
    by_short : (short : Bool) → nat_lt (length xs) 4 ≡ short
        → flagged short (option_size (drop 4 xs)) ≤ part_size (xs ++ ys) stage.Flags
    by_short true test = some_flags (nat_lt (length (xs ++ ys)) 4) (option_size (drop 4 (xs ++ ys)))
    by_short false test =
        let whole : 4 ≤ length xs = grind (arith, nat_tests) in
        let sum = length-append xs ys in
        let longer : nat_lt (length (xs ++ ys)) 4 ≡ false = grind (arith, nat_tests) in
        let there : part_size (xs ++ ys) stage.Flags ≡ 4 + option_size (drop 4 xs ++ ys) =
        ap (λ (t : Bool). flagged t (option_size (drop 4 (xs ++ ys)))) longer
        ∙ ap (λ (l : List ℕ). 4 + option_size l) (drop-append-le 4 xs ys whole) in
        omega (arith, there, option_grows (drop 4 xs) ys)

part_grows : (xs ys : List ℕ) (here : SessionStage) → part_size xs here ≤ part_size (xs ++ ys) here
part_grows xs ys stage.Greeting = omega arith
part_grows xs ys stage.Flags = flags_grow xs ys
part_grows xs ys (stage.Options brief) = option_grows xs ys
part_grows xs ys stage.Requests = request_grows xs ys
part_grows xs ys (stage.Replying cookie error) = omega arith
part_grows xs ys stage.Sending = omega arith
part_grows xs ys (stage.Over end) = omega arith

fits : (xs ys : List ℕ) (size larger : ℕ) → length xs ≤ size → size ≤ larger → length ys ≤ size - length xs → length (xs ++ ys) ≤ larger
fits xs ys size larger within grows few = omega (arith, within, grows, few, length-append xs ys)

-- so many bytes as are wanted, or fewer
pub feeds_within : (session : Session) (piece : List ℕ) → length piece ≤ wanted_of session → ReadsNoFurther session → ReadsNoFurther (fed session piece)
feeds_within session piece few within = by_stage session.stage few within
  where
    by_size : (here : SessionStage) → length piece ≤ part_size session.unread here - length session.unread
        → length session.unread ≤ part_size session.unread here → length (session.unread ++ piece) ≤ part_size (session.unread ++ piece) here
    by_size here few within =
        fits session.unread piece (part_size session.unread here) (part_size (session.unread ++ piece) here) within
        (part_grows session.unread piece here) few

    by_stage : (here : SessionStage) → length piece ≤ part_size session.unread here - length session.unread
        → EndsInPart session.unread here → EndsInPart (session.unread ++ piece) here
    by_stage stage.Greeting few within = by_size stage.Greeting few within
    by_stage stage.Flags few within = by_size stage.Flags few within
    by_stage (stage.Options brief) few within = by_size (stage.Options brief) few within
    by_stage stage.Requests few within = by_size stage.Requests few within
    by_stage (stage.Replying cookie error) few within = by_size (stage.Replying cookie error) few within
    by_stage stage.Sending few within = by_size stage.Sending few within
    by_stage (stage.Over end) few within = tt

-- ---- moves

-- a session of which no byte is unread
nothing_left : (bytes : List ℕ) (here : SessionStage) → length bytes ≡ 0 → EndsInPart bytes here
nothing_left bytes stage.Greeting none = omega (arith, none)
nothing_left bytes stage.Flags none = omega (arith, none)
nothing_left bytes (stage.Options brief) none = omega (arith, none)
nothing_left bytes stage.Requests none = omega (arith, none)
nothing_left bytes (stage.Replying cookie error) none = omega (arith, none)
nothing_left bytes stage.Sending none = omega (arith, none)
nothing_left bytes (stage.Over end) none = tt

-- what a move leads to is within its part
abbrev LeadsWithin : Session → Move → Type 0
LeadsWithin session move = ReadsNoFurther (after session move)

waits_within : (session : Session) (ended : Bool) → ReadsNoFurther session → LeadsWithin session (cond ended (Ends Eof) Waits)
waits_within session true within = tt
waits_within session false within = within

-- all bytes of a part that is whole are read
all_read : (xs : List ℕ) (size : ℕ) → length xs ≤ size → length (drop size xs) ≡ 0
all_read xs size within = omega (arith, within, length-drop size xs)

-- an option is read next, where the session was this before
option_leads : (before session : Session) (brief : Bool) → length session.unread ≤ option_size session.unread → ReadsNoFurther before
    → LeadsWithin before (option_move session brief)
option_leads before session brief whole within =
    by_tests (nat_lt (length session.unread) (option_size session.unread)) (is_option session.unread)
    (all_read session.unread (option_size session.unread) whole)
  where
    by_export : (found : Option Volume) → length (drop (option_size session.unread) session.unread) ≡ 0
        → LeadsWithin before (chosen (past_option session) brief found)
    by_export None none = tt
    by_export (Some volume) none = nothing_left (drop (option_size session.unread) session.unread) stage.Requests none

    by_wish : (wish : NbdOption) → length (drop (option_size session.unread) session.unread) ≡ 0
        → LeadsWithin before (reply_to (past_option session) brief (option_number session.unread) (option_data session.unread) wish)
    by_wish choice.ExportName none = by_export (export_of session.layout (option_data session.unread)) none
    by_wish choice.Abort none = tt
    by_wish choice.Other none = nothing_left (drop (option_size session.unread) session.unread) (stage.Options brief) none

    by_tests : (short right : Bool) → length (drop (option_size session.unread) session.unread) ≡ 0
        → LeadsWithin before (option_by session brief short right)
    by_tests true right none = waits_within before session.ended within
    by_tests false true none = by_wish (choice_of (option_number session.unread)) none
    by_tests false false none = tt

flags_lead : (session : Session) → length session.unread ≤ part_size session.unread stage.Flags → ReadsNoFurther session
    → LeadsWithin session (flags_move session)
flags_lead session whole within =
    by_tests (nat_lt (length session.unread) 4) refl (nat_lt 3 (client_flags session.unread)) whole
  where
    by_tests : (short : Bool) → nat_lt (length session.unread) 4 ≡ short → (bad : Bool)
        → length session.unread ≤ flagged short (option_size (drop 4 session.unread)) → LeadsWithin session (flags_by session short bad)
    by_tests true test bad whole = waits_within session session.ended within
    by_tests false test true whole = tt
    by_tests false test false whole =
        option_leads session (opened session) (nat_le 2 (client_flags session.unread)) (omega (arith, whole, length-drop 4 session.unread)) within

request_leads : (session : Session) → length session.unread ≤ request_size session.unread → ReadsNoFurther session
    → LeadsWithin session (request_move session)
request_leads session whole within =
    by_tests (nat_lt (length session.unread) (request_size session.unread)) (is_request session.unread)
    (nat_eq (request_of session.unread).flags 0) (all_read session.unread (request_size session.unread) whole)
  where
    by_length : (short : Bool) → length (drop (request_size session.unread) session.unread) ≡ 0
        → LeadsWithin session (cond short Asks (replied (past_request session) (request_of session.unread) Invalid))
    by_length true none = within
    by_length false none = nothing_left (drop (request_size session.unread) session.unread) stage.Requests none

    by_kind : (asked : NbdKind) → length (drop (request_size session.unread) session.unread) ≡ 0
        → LeadsWithin session (served (past_request session) (request_of session.unread) asked)
    by_kind kind.Read none = by_length (nat_le (request_of session.unread).length 33_554_432) none
    by_kind kind.Write none = within
    by_kind kind.Disc none = tt
    by_kind kind.Flush none = nothing_left (drop (request_size session.unread) session.unread) stage.Requests none
    by_kind kind.Other none = nothing_left (drop (request_size session.unread) session.unread) stage.Requests none

    by_tests : (short right none : Bool) → length (drop (request_size session.unread) session.unread) ≡ 0
        → LeadsWithin session (request_by session short right none)
    by_tests true right plain none = waits_within session session.ended within
    by_tests false true true none = by_kind (request_of session.unread).kind none
    by_tests false true false none = nothing_left (drop (request_size session.unread) session.unread) stage.Requests none
    by_tests false false plain none = tt

-- a session stays within its part as it moves
pub moves_within : (session : Session) → ReadsNoFurther session → ReadsNoFurther (after session (move_of session))
moves_within session within = by_stage session.stage within
  where
    by_reply : (none : Bool) → length session.unread ≡ 0 → EndsInPart session.unread (cond none stage.Requests stage.Sending)
    by_reply true empty = nothing_left session.unread stage.Requests empty
    by_reply false empty = nothing_left session.unread stage.Sending empty

    by_stage : (here : SessionStage) → EndsInPart session.unread here → LeadsWithin session (move_in session here)
    by_stage stage.Greeting whole = nothing_left session.unread stage.Flags (omega (arith, whole))
    by_stage stage.Flags whole = flags_lead session whole within
    by_stage (stage.Options brief) whole = option_leads session session brief whole within
    by_stage stage.Requests whole = request_leads session whole within
    by_stage (stage.Replying cookie error) whole = by_reply (nat_eq (length session.found) 0) (omega (arith, whole))
    by_stage stage.Sending whole = nothing_left session.unread stage.Requests (omega (arith, whole))
    by_stage (stage.Over end) whole = tt

-- and as its command is answered
pub answers_within : (session : Session) (answer : RangeAnswer) → move_of session ≡ Asks → ReadsNoFurther session
    → ReadsNoFurther (answered session answer)
answers_within session answer asks within =
    let whole : length session.unread ≤ request_size session.unread =
    subst (λ (here : SessionStage). EndsInPart session.unread here) (asks_stage session asks) within in
    omega (arith, all_read session.unread (request_size session.unread) whole)
