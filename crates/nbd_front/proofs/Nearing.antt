-- With each step a session comes nearer its next turn, or its end.
use Rattle.std.proofs.Common.{◌≡◌, ℕ, ◌+◌, ◌-◌, ◌*◌, ◌≤◌, ◌<◌, nat_eq, nat_lt, nat_le, Bool, true, false, ◌&&◌, cond, List, ◌++◌, length, drop, Option, Some, None, length-append, refl, sym, ap, subst, ◌∙◌, arith}
use Rattle.std.proofs.lemmas.Bool.Decides.{nat_tests}
use Rattle.std.proofs.lemmas.List.{length-drop}
use Rattle.fab_base.specs.Layouts.{Volume}
use Rattle.front.specs.declared.steps.RangeAnswer.{RangeAnswer}
use Rattle.nbd_front.specs.declared.parts.NbdOption.{NbdOption}
use Rattle.nbd_front.specs.declared.parts.NbdOption.TheVariants as choice
use Rattle.nbd_front.specs.declared.parts.NbdKind.{NbdKind}
use Rattle.nbd_front.specs.declared.parts.NbdKind.TheVariants as kind
use Rattle.nbd_front.specs.declared.steps.End.{End}
use Rattle.nbd_front.specs.declared.steps.End.TheVariants.{Eof}
use Rattle.nbd_front.specs.declared.steps.ReplyError.TheVariants.{Invalid}
use Rattle.nbd_front.specs.declared.steps.SessionStage.{SessionStage}
use Rattle.nbd_front.specs.declared.steps.SessionStage.TheVariants as stage
use Rattle.nbd_front.specs.Wire.{client_flags, option_magic, option_length, is_option, option_size, option_number, option_data, choice_of, request_magic, is_request, request_size, request_of, bytes_behind}
use Rattle.nbd_front.specs.Sessions.{Session, Move, Waits, Says, Asks, Ends, export_of, chosen, reply_to, option_move, opened, flags_move, past_request, replied, served, request_move, move_in, move_of, fed, answered, part_size, EndsInPart, ReadsNoFurther, turn_in, wants_turn}
use Rattle.nbd_front.specs.Lives.{IsLive, one_if, most_ahead, bytes_ahead, ahead_in, ahead, effort}
use Rattle.nbd_front.proofs.Asking.{asks_stage, asks_whole}
use Rattle.nbd_front.proofs.Finishing.{past_option, option_by, flags_by, request_by}
use Rattle.nbd_front.proofs.Prefixes.{sized, some_head}

-- ---- a part has few bytes

option_few : (bytes : List ℕ) → option_size bytes ≤ 4112
option_few bytes = by_tests (nat_le 16 (length bytes)) (nat_eq (option_magic bytes) 0x4948_4156_454f_5054) (nat_le (option_length bytes) 4096) refl
  where
    by_tests : (head right few : Bool) → nat_le (option_length bytes) 4096 ≡ few → sized (head && (right && few)) 16 (option_length bytes) ≤ 4112
    by_tests true true true test = let few : option_length bytes ≤ 4096 = grind (arith, nat_tests) in omega (arith, few)
    by_tests true true false test = omega arith
    by_tests true false few test = omega arith
    by_tests false right few test = omega arith

request_few : (bytes : List ℕ) → request_size bytes ≤ 33_554_460
request_few bytes =
    by_tests (nat_le 28 (length bytes)) (nat_eq (request_magic bytes) 0x2560_9513)
    (nat_le (bytes_behind (request_of bytes).kind (request_of bytes).length) 33_554_432) refl
  where
    by_tests : (head right few : Bool) → nat_le (bytes_behind (request_of bytes).kind (request_of bytes).length) 33_554_432 ≡ few
        → sized (head && (right && few)) 28 (bytes_behind (request_of bytes).kind (request_of bytes).length) ≤ 33_554_460
    by_tests true true true test =
        let few : bytes_behind (request_of bytes).kind (request_of bytes).length ≤ 33_554_432 = grind (arith, nat_tests) in omega (arith, few)
    by_tests true true false test = omega arith
    by_tests true false few test = omega arith
    by_tests false right few test = omega arith

part_few : (bytes : List ℕ) (here : SessionStage) → part_size bytes here ≤ 33_554_460
part_few bytes stage.Greeting = omega arith
part_few bytes stage.Flags = by_short (nat_lt (length bytes) 4) (option_few (drop 4 bytes))
  where
    by_short : (short : Bool) → option_size (drop 4 bytes) ≤ 4112 → cond short 4 (4 + option_size (drop 4 bytes)) ≤ 33_554_460
    by_short true few = omega arith
    by_short false few = omega (arith, few)
part_few bytes (stage.Options brief) = omega (arith, option_few bytes)
part_few bytes stage.Requests = request_few bytes
part_few bytes (stage.Replying cookie error) = omega arith
part_few bytes stage.Sending = omega arith
part_few bytes (stage.Over end) = omega arith

-- ---- what is ahead

bytes_most : (wants : Bool) (count : ℕ) → bytes_ahead wants count ≤ most_ahead
bytes_most true count = omega arith
bytes_most false count = omega arith

-- none is ahead where no byte of an option or of a request has come
none_ahead : (bytes : List ℕ) (count : ℕ) → length bytes ≡ 0 → bytes_ahead (nat_eq (length bytes) 0) count ≡ 0
none_ahead bytes count none = ap (λ (n : ℕ). bytes_ahead (nat_eq n 0) count) none

-- some bytes of a part have come, and no turn is wanted: more than three are ahead
some_ahead : (wants : Bool) (count : ℕ) → wants ≡ false → count ≤ 33_554_460 → 4 ≤ bytes_ahead wants count
some_ahead wants count is few =
    let one : bytes_ahead wants count ≡ most_ahead - count = ap (λ (b : Bool). bytes_ahead b count) is in
    omega (arith, one, few)

-- less is ahead than before once a session has said something
abbrev NearsBy : ℕ → Move → Type 0
NearsBy before (Says bytes next) = ahead next < before
NearsBy before move = Unit {0}

waits_near : (before : ℕ) (ended : Bool) → NearsBy before (cond ended (Ends Eof) Waits)
waits_near before true = tt
waits_near before false = tt

option_near : (before : ℕ) (session : Session) (brief : Bool) → length session.unread ≤ option_size session.unread
    → (option_size session.unread ≤ length session.unread → 1 ≤ before) → NearsBy before (option_move session brief)
option_near before session brief whole some =
    by_tests (nat_lt (length session.unread) (option_size session.unread)) refl (is_option session.unread)
  where
    rest : List ℕ
    rest = drop (option_size session.unread) session.unread

    none : length rest ≡ 0
    none = omega (arith, whole, length-drop (option_size session.unread) session.unread)

    by_export : (found : Option Volume) → 1 ≤ before → NearsBy before (chosen (past_option session) brief found)
    by_export None any = tt
    by_export (Some volume) any = omega (arith, any, none_ahead rest (length rest) none)

    by_wish : (wish : NbdOption) → 1 ≤ before
        → NearsBy before (reply_to (past_option session) brief (option_number session.unread) (option_data session.unread) wish)
    by_wish choice.ExportName any = by_export (export_of session.layout (option_data session.unread)) any
    by_wish choice.Abort any = omega (arith, any)
    by_wish choice.Other any = omega (arith, any, none_ahead rest (length rest) none)

    by_tests : (short : Bool) → nat_lt (length session.unread) (option_size session.unread) ≡ short → (right : Bool)
        → NearsBy before (option_by session brief short right)
    by_tests true test right = waits_near before session.ended
    by_tests false test true =
        let came : option_size session.unread ≤ length session.unread = grind (arith, nat_tests) in
        by_wish (choice_of (option_number session.unread)) (some came)
    by_tests false test false = tt

-- the size of the client's flags, and of the option behind them
abbrev flagged : Bool → ℕ → ℕ
flagged short size = cond short 4 (4 + size)

option_some : (bytes : List ℕ) → 16 ≤ option_size bytes
option_some bytes = some_head (nat_le 16 (length bytes) && is_option bytes) 16 (option_length bytes)

flags_near : (session : Session) → length session.unread ≤ part_size session.unread stage.Flags
    → NearsBy (ahead_in session.unread stage.Flags) (flags_move session)
flags_near session whole = by_tests (nat_lt (length session.unread) 4) refl (nat_lt 3 (client_flags session.unread)) whole
  where
    few : length session.unread ≤ 33_554_460
    few = omega (arith, whole, part_few session.unread stage.Flags)

    by_tests : (short : Bool) → nat_lt (length session.unread) 4 ≡ short → (bad : Bool)
        → length session.unread ≤ flagged short (option_size (drop 4 session.unread))
        → NearsBy (ahead_in session.unread stage.Flags) (flags_by session short bad)
    by_tests true test bad whole = waits_near (ahead_in session.unread stage.Flags) session.ended
    by_tests false test true whole = tt
    by_tests false test false whole =
        option_near (ahead_in session.unread stage.Flags) (opened session) (nat_le 2 (client_flags session.unread))
        (omega (arith, whole, length-drop 4 session.unread))
        (λ came.
        let more : 20 ≤ length session.unread = omega (arith, came, option_some (drop 4 session.unread), length-drop 4 session.unread) in
        let past : nat_eq (length session.unread) 4 ≡ false = grind (arith, nat_tests) in
        let wants : turn_in session.unread stage.Flags ≡ false = ap (λ (b : Bool). b && nat_le (client_flags session.unread) 3) past in
        omega (arith, some_ahead (turn_in session.unread stage.Flags) (length session.unread) wants few))

-- a part of which so many bytes came, and some
past_first : (bytes : List ℕ) → 1 ≤ length bytes → length bytes ≤ 33_554_460 → 4 ≤ bytes_ahead (nat_eq (length bytes) 0) (length bytes)
past_first bytes some few =
    let past : nat_eq (length bytes) 0 ≡ false = grind (arith, nat_tests) in
    some_ahead (nat_eq (length bytes) 0) (length bytes) past few

request_near : (session : Session) → length session.unread ≤ request_size session.unread
    → NearsBy (ahead_in session.unread stage.Requests) (request_move session)
request_near session whole =
    by_tests (nat_lt (length session.unread) (request_size session.unread)) refl (is_request session.unread)
    (nat_eq (request_of session.unread).flags 0)
  where
    before : ℕ
    before = ahead_in session.unread stage.Requests

    rest : List ℕ
    rest = drop (request_size session.unread) session.unread

    none : length rest ≡ 0
    none = omega (arith, whole, length-drop (request_size session.unread) session.unread)

    replies : 4 ≤ before → (bytes_ahead (nat_eq (length rest) 0) (length rest)) < before
    replies some = omega (arith, some, none_ahead rest (length rest) none)

    by_length : (short : Bool) → 4 ≤ before → NearsBy before (cond short Asks (replied (past_request session) (request_of session.unread) Invalid))
    by_length true some = tt
    by_length false some = replies some

    by_kind : (asked : NbdKind) → 4 ≤ before → NearsBy before (served (past_request session) (request_of session.unread) asked)
    by_kind kind.Read some = by_length (nat_le (request_of session.unread).length 33_554_432) some
    by_kind kind.Write some = tt
    by_kind kind.Disc some = tt
    by_kind kind.Flush some = replies some
    by_kind kind.Other some = replies some

    came : nat_lt (length session.unread) (request_size session.unread) ≡ false → 4 ≤ before
    came test =
        let all : request_size session.unread ≤ length session.unread = grind (arith, nat_tests) in
        let head = some_head (nat_le 28 (length session.unread) && is_request session.unread) 28
        (bytes_behind (request_of session.unread).kind (request_of session.unread).length) in
        past_first session.unread (omega (arith, all, head)) (omega (arith, whole, request_few session.unread))

    by_tests : (short : Bool) → nat_lt (length session.unread) (request_size session.unread) ≡ short → (right plain : Bool)
        → NearsBy before (request_by session short right plain)
    by_tests true test right plain = waits_near before session.ended
    by_tests false test true true = by_kind (request_of session.unread).kind (came test)
    by_tests false test true false = replies (came test)
    by_tests false test false plain = tt

nears : (session : Session) → IsLive session → NearsBy (ahead session) (move_of session)
nears session live = by_stage session.stage live.within
  where
    by_reply : (none : Bool) → length session.unread ≡ 0 → ahead_in session.unread (cond none stage.Requests stage.Sending) < 2
    by_reply true empty = omega (arith, none_ahead session.unread (length session.unread) empty)
    by_reply false empty = omega arith

    by_stage : (here : SessionStage) → EndsInPart session.unread here → NearsBy (ahead_in session.unread here) (move_in session here)
    by_stage stage.Greeting whole = omega (arith, bytes_most (turn_in session.unread stage.Flags) (length session.unread))
    by_stage stage.Flags whole = flags_near session whole
    by_stage (stage.Options brief) whole =
        option_near (ahead_in session.unread (stage.Options brief)) session brief whole
        (λ came.
        omega (arith, past_first session.unread (omega (arith, came, option_some session.unread)) (omega (arith, whole, option_few session.unread))))
    by_stage stage.Requests whole = request_near session whole
    by_stage (stage.Replying cookie error) whole = by_reply (nat_eq (length session.found) 0) (omega (arith, whole))
    by_stage stage.Sending whole = omega (arith, none_ahead session.unread (length session.unread) (omega (arith, whole)))
    by_stage (stage.Over end) whole = tt

-- ---- the steps

-- once it has said something
pub effort_said : (session next : Session) (bytes : List ℕ) (turns : ℕ) → IsLive session → move_of session ≡ Says bytes next
    → effort next turns < effort session turns
effort_said session next bytes turns live is =
    let near : NearsBy (ahead session) (Says bytes next) = subst (NearsBy (ahead session)) is (nears session live) in
    omega (arith, near)

-- once its command is answered
pub effort_answered : (session : Session) (answer : RangeAnswer) (turns turns_then : ℕ) → IsLive session → move_of session ≡ Asks → turns_then ≤ turns
    → effort (answered session answer) turns_then < effort session turns
effort_answered session answer turns turns_then live asks fewer =
    let at = asks_stage session asks in
    let whole : length session.unread ≤ request_size session.unread =
    subst (λ (here : SessionStage). EndsInPart session.unread here) at live.within in
    let head = (asks_whole session asks).head in
    let some : 4 ≤ bytes_ahead (nat_eq (length session.unread) 0) (length session.unread) =
    past_first session.unread (omega (arith, head)) (omega (arith, whole, request_few session.unread)) in
    let here : ahead session ≡ bytes_ahead (nat_eq (length session.unread) 0) (length session.unread) = ap (ahead_in session.unread) at in
    omega (arith, some, here, fewer)

-- once bytes of the client are read
pub effort_fed : (session : Session) (piece : List ℕ) (turns turns_then : ℕ) → move_of session ≡ Waits → ReadsNoFurther (fed session piece)
    → 1 ≤ length piece → one_if (wants_turn session) ≤ turns → turns_then ≡ turns - one_if (wants_turn session)
    → effort (fed session piece) turns_then < effort session turns
effort_fed session piece turns turns_then waits within some paid is = by_stage session.stage waits within paid is
  where
    here_near : (w : Bool) (later : ℕ) → one_if w ≤ turns → turns_then ≡ turns - one_if w → later ≤ most_ahead
        → later ≤ most_ahead - length (session.unread ++ piece) → length (session.unread ++ piece) ≤ 33_554_460
        → turns_then * (most_ahead + 2) + later < turns * (most_ahead + 2) + bytes_ahead w (length session.unread)
    here_near true later paid is most less few = omega (arith, paid, is, most)
    here_near false later paid is most less few = omega (arith, is, less, few, some, length-append session.unread piece)

    less_left : (w : Bool) (count : ℕ) → bytes_ahead w count ≤ most_ahead - count
    less_left true count = omega arith
    less_left false count = omega arith

    by_turn : (here : SessionStage) (wants : Bool) → length (session.unread ++ piece) ≤ part_size (session.unread ++ piece) here
        → one_if wants ≤ turns → turns_then ≡ turns - one_if wants
        → turns_then * (most_ahead + 2) + bytes_ahead (turn_in (session.unread ++ piece) here) (length (session.unread ++ piece))
        < turns * (most_ahead + 2) + bytes_ahead wants (length session.unread)
    by_turn here wants whole paid is =
        let now = turn_in (session.unread ++ piece) here in
        let count = length (session.unread ++ piece) in
        here_near wants (bytes_ahead now count) paid is (bytes_most now count) (less_left now count)
        (omega (arith, whole, part_few (session.unread ++ piece) here))

    by_stage : (here : SessionStage) → move_in session here ≡ Waits → EndsInPart (session.unread ++ piece) here
        → one_if (turn_in session.unread here) ≤ turns → turns_then ≡ turns - one_if (turn_in session.unread here)
        → turns_then * (most_ahead + 2) + ahead_in (session.unread ++ piece) here < turns * (most_ahead + 2) + ahead_in session.unread here
    by_stage stage.Greeting waits whole paid is = let never : move_in session stage.Greeting ≡ Waits = waits in cc
    by_stage stage.Flags waits whole paid is = by_turn stage.Flags (turn_in session.unread stage.Flags) whole paid is
    by_stage (stage.Options brief) waits whole paid is = by_turn (stage.Options brief) (nat_eq (length session.unread) 0) whole paid is
    by_stage stage.Requests waits whole paid is = by_turn stage.Requests (nat_eq (length session.unread) 0) whole paid is
    by_stage (stage.Replying cookie error) waits whole paid is =
        let never : move_in session (stage.Replying cookie error) ≡ Waits = waits in cc
    by_stage stage.Sending waits whole paid is = let never : move_in session stage.Sending ≡ Waits = waits in cc
    by_stage (stage.Over end) waits whole paid is = let never : Ends end ≡ Waits = waits in cc
