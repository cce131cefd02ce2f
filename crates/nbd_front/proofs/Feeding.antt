-- What a session does next is the same whatever bytes come behind those that it reads.
use Rattle.std.proofs.Common.{◌≡◌, ℕ, ◌≤◌, nat_eq, nat_lt, nat_le, Bool, true, false, cond, List, ◌++◌, length, drop, Option, Some, None, length-append, refl, ap, subst, ◌∙◌, arith}
use Rattle.std.proofs.lemmas.Bool.Decides.{nat_tests}
use Rattle.std.proofs.lemmas.List.{drop-append-le}
use Rattle.fab_base.specs.Layouts.{Volume}
use Rattle.nbd_front.specs.declared.parts.NbdOption.{NbdOption}
use Rattle.nbd_front.specs.declared.parts.NbdOption.TheVariants as choice
use Rattle.nbd_front.specs.declared.parts.NbdKind.{NbdKind}
use Rattle.nbd_front.specs.declared.parts.NbdKind.TheVariants as kind
use Rattle.nbd_front.specs.declared.parts.NbdRequest.{NbdRequest}
use Rattle.nbd_front.specs.declared.steps.End.TheVariants.{Eof, Dropped}
use Rattle.nbd_front.specs.declared.steps.ReplyError.TheVariants.{Invalid}
use Rattle.nbd_front.specs.declared.steps.SessionStage.{SessionStage}
use Rattle.nbd_front.specs.declared.steps.SessionStage.TheVariants as stage
use Rattle.nbd_front.specs.Wire.{client_flags, is_option, option_size, option_number, option_data, choice_of, is_request, request_size, request_of}
use Rattle.nbd_front.specs.Sessions.{Session, Move, Waits, Says, Asks, Ends, waiting, export_of, chosen, reply_to, option_move, opened, flags_move, past_request, replied, served, request_move, move_in, move_of, fed}
use Rattle.nbd_front.proofs.Prefixes.{field_same, is_option_same, option_size_same, option_head, option_all, option_data_same, request_same, is_request_same, request_head, request_size_same}

-- a session that does not wait
abbrev pub MovesOn : Move → Type 0
MovesOn Waits = ⊥
MovesOn move = Unit {0}

-- the same move of a session to which these bytes have come too
abbrev pub fed_move : List ℕ → Move → Move
fed_move piece (Says sent next) = Says sent (fed next piece)
fed_move piece move = move

pub waits_on : (session : Session) → session.ended ≡ false → MovesOn (waiting session) → ⊥
waits_on session open_still speaks = subst (λ (t : Bool). MovesOn (cond t (Ends Eof) Waits)) open_still speaks

long : (xs ys : List ℕ) (n m : ℕ) → m ≡ n → n ≤ length xs → nat_lt (length (xs ++ ys)) m ≡ false
long xs ys n m same whole = let sum = length-append xs ys in grind (arith, nat_tests)

-- ---- options

chosen_same : (session : Session) (piece : List ℕ) (brief : Bool) (found : Option Volume)
    → chosen (fed session piece) brief found ≡ fed_move piece (chosen session brief found)
chosen_same session piece brief None = refl
chosen_same session piece brief (Some volume) = refl

reply_same : (session : Session) (piece : List ℕ) (brief : Bool) (number : ℕ) (name : List ℕ) (wish : NbdOption)
    → reply_to (fed session piece) brief number name wish ≡ fed_move piece (reply_to session brief number name wish)
reply_same session piece brief number name choice.ExportName = chosen_same session piece brief (export_of session.layout name)
reply_same session piece brief number name choice.Abort = refl
reply_same session piece brief number name choice.Other = refl

-- what comes of an option, by its tests and fields
abbrev option_by : Session → Bool → Bool → Bool → List ℕ → ℕ → List ℕ → Move
option_by session brief short right rest number name =
    cond short (waiting session)
    (cond right (reply_to (record session { unread = rest }) brief number name (choice_of number)) (Ends Dropped))

pub option_fed : (session : Session) (piece : List ℕ) (brief : Bool) → session.ended ≡ false → MovesOn (option_move session brief)
    → option_move (fed session piece) brief ≡ fed_move piece (option_move session brief)
option_fed session piece brief open_still speaks =
    by_short (nat_lt (length session.unread) (option_size session.unread)) refl speaks
  where
    by_right : (right : Bool) → is_option session.unread ≡ right → option_size session.unread ≤ length session.unread
        → option_by (fed session piece) brief false right (drop (option_size session.unread) session.unread ++ piece)
        (option_number session.unread) (option_data (session.unread ++ piece))
        ≡ fed_move piece
        (option_by session brief false right (drop (option_size session.unread) session.unread) (option_number session.unread)
        (option_data session.unread))
    by_right false wrong whole = refl
    by_right true right whole =
        let xs = session.unread in
        let at : Session = record session { unread = drop (option_size xs) xs } in
        ap (λ name. reply_to (fed at piece) brief (option_number xs) name (choice_of (option_number xs)))
        (option_data_same xs piece (option_all xs whole right))
        ∙ reply_same at piece brief (option_number xs) (option_data xs) (choice_of (option_number xs))

    by_short : (short : Bool) → nat_lt (length session.unread) (option_size session.unread) ≡ short
        → MovesOn (option_by session brief short (is_option session.unread) (drop (option_size session.unread) session.unread)
        (option_number session.unread) (option_data session.unread))
        → option_move (fed session piece) brief
        ≡ fed_move piece
        (option_by session brief short (is_option session.unread) (drop (option_size session.unread) session.unread)
        (option_number session.unread) (option_data session.unread))
    by_short true test speaks = absurd (waits_on session open_still speaks)
    by_short false test speaks =
        let xs = session.unread in
        let more : Session = fed session piece in
        let whole : option_size xs ≤ length xs = grind (arith, nat_tests) in
        let size = option_size_same xs piece whole in
        let head = option_head xs whole in
        ap (λ t. option_by more brief t (is_option (xs ++ piece)) (drop (option_size (xs ++ piece)) (xs ++ piece)) (option_number (xs ++ piece))
        (option_data (xs ++ piece)))
        (long xs piece (option_size xs) (option_size (xs ++ piece)) size whole)
        ∙ ap (λ n. option_by more brief false (is_option (xs ++ piece)) (drop n (xs ++ piece)) (option_number (xs ++ piece)) (option_data (xs ++ piece)))
        size
        ∙ ap (λ l. option_by more brief false (is_option (xs ++ piece)) l (option_number (xs ++ piece)) (option_data (xs ++ piece)))
        (drop-append-le (option_size xs) xs piece whole)
        ∙ ap (λ n. option_by more brief false (is_option (xs ++ piece)) (drop (option_size xs) xs ++ piece) n (option_data (xs ++ piece)))
        (field_same 8 4 xs piece (omega (arith, head)))
        ∙ ap (λ t. option_by more brief false t (drop (option_size xs) xs ++ piece) (option_number xs) (option_data (xs ++ piece)))
        (is_option_same xs piece head)
        ∙ by_right (is_option xs) refl whole

-- what comes of the client's flags
abbrev flags_by : Session → Bool → ℕ → List ℕ → Move
flags_by session short flags rest =
    cond short (waiting session)
    (cond (nat_lt 3 flags) (Ends Dropped) (option_move (record session { unread = rest }) (nat_le 2 flags)))

flags_fed : (session : Session) (piece : List ℕ) → session.ended ≡ false → MovesOn (flags_move session)
    → flags_move (fed session piece) ≡ fed_move piece (flags_move session)
flags_fed session piece open_still speaks = by_short (nat_lt (length session.unread) 4) refl speaks
  where
    by_bad : (bad : Bool)
        → MovesOn (cond bad (Ends Dropped) (option_move (opened session) (nat_le 2 (client_flags session.unread))))
        → cond bad (Ends Dropped) (option_move (fed (opened session) piece) (nat_le 2 (client_flags session.unread)))
        ≡ fed_move piece (cond bad (Ends Dropped) (option_move (opened session) (nat_le 2 (client_flags session.unread))))
    by_bad true speaks = refl
    by_bad false speaks = option_fed (opened session) piece (nat_le 2 (client_flags session.unread)) open_still speaks

    by_short : (short : Bool) → nat_lt (length session.unread) 4 ≡ short
        → MovesOn (flags_by session short (client_flags session.unread) (drop 4 session.unread))
        → flags_move (fed session piece) ≡ fed_move piece (flags_by session short (client_flags session.unread) (drop 4 session.unread))
    by_short true test speaks = absurd (waits_on session open_still speaks)
    by_short false test speaks =
        let xs = session.unread in
        let more : Session = fed session piece in
        let whole : 4 ≤ length xs = grind (arith, nat_tests) in
        ap (λ t. flags_by more t (client_flags (xs ++ piece)) (drop 4 (xs ++ piece))) (long xs piece 4 4 refl whole)
        ∙ ap (λ n. flags_by more false n (drop 4 (xs ++ piece))) (field_same 0 4 xs piece whole)
        ∙ ap (λ l. flags_by more false (client_flags xs) l) (drop-append-le 4 xs piece whole)
        ∙ by_bad (nat_lt 3 (client_flags xs)) speaks

-- ---- requests

served_same : (past : Session) (piece : List ℕ) (request : NbdRequest) (asked : NbdKind)
    → served (fed past piece) request asked ≡ fed_move piece (served past request asked)
served_same past piece request kind.Read = by_length (nat_le request.length 33_554_432)
  where
    by_length : (within : Bool)
        → cond within Asks (replied (fed past piece) request Invalid) ≡ fed_move piece (cond within Asks (replied past request Invalid))
    by_length true = refl
    by_length false = refl
served_same past piece request kind.Write = refl
served_same past piece request kind.Disc = refl
served_same past piece request kind.Flush = refl
served_same past piece request kind.Other = refl

-- what comes of a right request where the session that has read it is this
abbrev right_by : Session → NbdRequest → Move
right_by past request = cond (nat_eq request.flags 0) (served past request request.kind) (replied past request Invalid)

right_same : (past : Session) (piece : List ℕ) (request : NbdRequest) → right_by (fed past piece) request ≡ fed_move piece (right_by past request)
right_same past piece request = by_flags (nat_eq request.flags 0)
  where
    by_flags : (none : Bool)
        → cond none (served (fed past piece) request request.kind) (replied (fed past piece) request Invalid)
        ≡ fed_move piece (cond none (served past request request.kind) (replied past request Invalid))
    by_flags true = served_same past piece request request.kind
    by_flags false = refl

-- the session once its request is read, of which these bytes are left
abbrev past_by : Session → List ℕ → Session
past_by session rest = record session { stage = stage.Requests; unread = rest }

-- what comes of a request, by its tests
abbrev request_by : Session → Bool → Bool → List ℕ → NbdRequest → Move
request_by session short right rest request =
    cond short (waiting session) (cond right (right_by (past_by session rest) request) (Ends Dropped))

request_fed : (session : Session) (piece : List ℕ) → session.ended ≡ false → MovesOn (request_move session)
    → request_move (fed session piece) ≡ fed_move piece (request_move session)
request_fed session piece open_still speaks =
    by_short (nat_lt (length session.unread) (request_size session.unread)) refl speaks
  where
    by_right : (right : Bool)
        → request_by (fed session piece) false right (drop (request_size session.unread) session.unread ++ piece) (request_of session.unread)
        ≡ fed_move piece
        (request_by session false right (drop (request_size session.unread) session.unread) (request_of session.unread))
    by_right false = refl
    by_right true = right_same (past_request session) piece (request_of session.unread)

    by_short : (short : Bool) → nat_lt (length session.unread) (request_size session.unread) ≡ short
        → MovesOn (request_by session short (is_request session.unread) (drop (request_size session.unread) session.unread)
        (request_of session.unread))
        → request_move (fed session piece)
        ≡ fed_move piece
        (request_by session short (is_request session.unread) (drop (request_size session.unread) session.unread)
        (request_of session.unread))
    by_short true test speaks = absurd (waits_on session open_still speaks)
    by_short false test speaks =
        let xs = session.unread in
        let more : Session = fed session piece in
        let whole : request_size xs ≤ length xs = grind (arith, nat_tests) in
        let size = request_size_same xs piece whole in
        let head = request_head xs whole in
        ap (λ t. request_by more t (is_request (xs ++ piece)) (drop (request_size (xs ++ piece)) (xs ++ piece)) (request_of (xs ++ piece)))
        (long xs piece (request_size xs) (request_size (xs ++ piece)) size whole)
        ∙ ap (λ n. request_by more false (is_request (xs ++ piece)) (drop n (xs ++ piece)) (request_of (xs ++ piece))) size
        ∙ ap (λ l. request_by more false (is_request (xs ++ piece)) l (request_of (xs ++ piece)))
        (drop-append-le (request_size xs) xs piece whole)
        ∙ ap (λ t. request_by more false t (drop (request_size xs) xs ++ piece) (request_of (xs ++ piece))) (is_request_same xs piece head)
        ∙ ap (λ r. request_by more false (is_request xs) (drop (request_size xs) xs ++ piece) r) (request_same xs piece head)
        ∙ by_right (is_request xs)

-- ---- the session

-- A session whose bytes have not ended, and which does not wait, makes the same move if more bytes have come.
pub move_fed : (session : Session) (piece : List ℕ) → session.ended ≡ false → MovesOn (move_of session)
    → move_of (fed session piece) ≡ fed_move piece (move_of session)
move_fed session piece open_still speaks = by_stage session.stage speaks
  where
    by_stage : (here : SessionStage) → MovesOn (move_in session here) → move_in (fed session piece) here ≡ fed_move piece (move_in session here)
    by_stage stage.Greeting speaks = refl
    by_stage stage.Flags speaks = flags_fed session piece open_still speaks
    by_stage (stage.Options brief) speaks = option_fed session piece brief open_still speaks
    by_stage stage.Requests speaks = request_fed session piece open_still speaks
    by_stage (stage.Replying cookie error) speaks = refl
    by_stage stage.Sending speaks = refl
    by_stage (stage.Over end) speaks = refl
