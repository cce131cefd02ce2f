-- A session that asks a command has read the whole of its request.
use Rattle.std.proofs.Common.{◌≡◌, ℕ, ◌+◌, ◌≤◌, nat_eq, nat_lt, nat_le, Bool, true, false, ◌&&◌, cond, List, length, drop, Option, Some, None, refl, ap, subst, ◌∙◌, arith}
use Rattle.std.proofs.lemmas.Bool.Decides.{nat_tests}
use Rattle.fab_base.specs.Layouts.{Volume}
use Rattle.nbd_front.specs.declared.parts.NbdOption.{NbdOption}
use Rattle.nbd_front.specs.declared.parts.NbdOption.TheVariants as choice
use Rattle.nbd_front.specs.declared.steps.End.TheVariants.{Eof, Dropped, NoExport}
use Rattle.nbd_front.specs.declared.steps.ReplyError.TheVariants.{Invalid}
use Rattle.nbd_front.specs.declared.steps.SessionStage.{SessionStage}
use Rattle.nbd_front.specs.declared.steps.SessionStage.TheVariants as stage
use Rattle.nbd_front.specs.Wire.{is_option, option_size, option_number, option_data, choice_of, client_flags, is_request, request_size, request_of, bytes_behind}
use Rattle.nbd_front.specs.Sessions.{Session, Waits, Asks, Ends, waiting, export_of, chosen, reply_to, option_move, opened, flags_move, past_request, replied, served, request_move, move_in, move_of}

-- a request has come whole, with the bytes behind it
pub record IsWhole (bytes : List ℕ) : Type 0 where
  pub size : request_size bytes ≤ length bytes
  pub head : 28 ≤ length bytes
  pub all : 28 + bytes_behind (request_of bytes).kind (request_of bytes).length ≤ length bytes

waits_not : (ended : Bool) → cond ended (Ends Eof) Waits ≡ Asks → ⊥
waits_not true is = let never : Ends Eof ≡ Asks = is in cc
waits_not false is = let never : Waits ≡ Asks = is in cc

chosen_not : (session : Session) (brief : Bool) (found : Option Volume) → chosen session brief found ≡ Asks → ⊥
chosen_not session brief None is = let never : Ends NoExport ≡ Asks = is in cc
chosen_not session brief (Some volume) is = let never : chosen session brief (Some volume) ≡ Asks = is in cc

reply_not : (session : Session) (brief : Bool) (number : ℕ) (name : List ℕ) (wish : NbdOption) → reply_to session brief number name wish ≡ Asks → ⊥
reply_not session brief number name choice.ExportName is = chosen_not session brief (export_of session.layout name) is
reply_not session brief number name choice.Abort is = let never : reply_to session brief number name choice.Abort ≡ Asks = is in cc
reply_not session brief number name choice.Other is = let never : reply_to session brief number name choice.Other ≡ Asks = is in cc

option_not : (session : Session) (brief : Bool) → option_move session brief ≡ Asks → ⊥
option_not session brief is = by_tests (nat_lt (length session.unread) (option_size session.unread)) (is_option session.unread) is
  where
    by_tests : (short ok : Bool)
        → cond short (waiting session)
        (cond ok
        (reply_to (record session { unread = drop (option_size session.unread) session.unread }) brief (option_number session.unread)
        (option_data session.unread) (choice_of (option_number session.unread)))
        (Ends Dropped))
        ≡ Asks → ⊥
    by_tests true ok is = waits_not session.ended is
    by_tests false true is = reply_not (record session { unread = drop (option_size session.unread) session.unread }) brief (option_number session.unread)
        (option_data session.unread) (choice_of (option_number session.unread)) is
    by_tests false false is = let never : Ends Dropped ≡ Asks = is in cc

flags_not : (session : Session) → flags_move session ≡ Asks → ⊥
flags_not session is = by_tests (nat_lt (length session.unread) 4) (nat_lt 3 (client_flags session.unread)) is
  where
    by_tests : (short bad : Bool)
        → cond short (waiting session) (cond bad (Ends Dropped) (option_move (opened session) (nat_le 2 (client_flags session.unread)))) ≡ Asks → ⊥
    by_tests true bad is = waits_not session.ended is
    by_tests false true is = let never : Ends Dropped ≡ Asks = is in cc
    by_tests false false is = option_not (opened session) (nat_le 2 (client_flags session.unread)) is

-- a right request, all of whose bytes came
whole : (bytes : List ℕ) (b : Bool) → nat_le 28 (length bytes) ≡ b → is_request bytes ≡ true
    → nat_lt (length bytes) (request_size bytes) ≡ false → IsWhole bytes
whole bytes true head right test =
    let size : request_size bytes ≡ 28 + bytes_behind (request_of bytes).kind (request_of bytes).length =
    ap (λ (t : Bool). cond (t && is_request bytes) (28 + bytes_behind (request_of bytes).kind (request_of bytes).length) 28) head
    ∙ ap (λ (t : Bool). cond t (28 + bytes_behind (request_of bytes).kind (request_of bytes).length) 28) right in
    record {
      size = grind (arith, nat_tests);
      head = grind (arith, nat_tests);
      all = subst (λ n. n ≤ length bytes) size (grind (arith, nat_tests));
    }
whole bytes false head right test =
    let size : request_size bytes ≡ 28 =
    ap (λ (t : Bool). cond (t && is_request bytes) (28 + bytes_behind (request_of bytes).kind (request_of bytes).length) 28) head in
    absurd (grind (arith, nat_tests))

request_whole : (session : Session) → request_move session ≡ Asks → IsWhole session.unread
request_whole session is = by_tests (nat_lt (length session.unread) (request_size session.unread)) refl (is_request session.unread) refl is
  where
    by_tests : (short : Bool) → nat_lt (length session.unread) (request_size session.unread) ≡ short → (ok : Bool) → is_request session.unread ≡ ok
        → cond short (waiting session)
        (cond ok
        (cond (nat_eq (request_of session.unread).flags 0) (served (past_request session) (request_of session.unread) (request_of session.unread).kind)
        (replied (past_request session) (request_of session.unread) Invalid))
        (Ends Dropped))
        ≡ Asks → IsWhole session.unread
    by_tests true test ok right is = absurd (waits_not session.ended is)
    by_tests false test false right is = let never : Ends Dropped ≡ Asks = is in cc
    by_tests false test true right is = whole session.unread (nat_le 28 (length session.unread)) refl right test

-- the request of a session that asks has come whole
pub asks_whole : (session : Session) → move_of session ≡ Asks → IsWhole session.unread
asks_whole session is = by_stage session.stage is
  where
    by_stage : (here : SessionStage) → move_in session here ≡ Asks → IsWhole session.unread
    by_stage stage.Greeting is = let never : move_in session stage.Greeting ≡ Asks = is in cc
    by_stage stage.Flags is = absurd (flags_not session is)
    by_stage (stage.Options brief) is = absurd (option_not session brief is)
    by_stage stage.Requests is = request_whole session is
    by_stage (stage.Replying cookie error) is = let never : move_in session (stage.Replying cookie error) ≡ Asks = is in cc
    by_stage stage.Sending is = let never : move_in session stage.Sending ≡ Asks = is in cc
    by_stage (stage.Over end) is = let never : Ends end ≡ Asks = is in cc

-- a session that asks reads requests
pub asks_stage : (session : Session) → move_of session ≡ Asks → session.stage ≡ stage.Requests
asks_stage session is = by_stage session.stage refl is
  where
    by_stage : (here : SessionStage) → session.stage ≡ here → move_in session here ≡ Asks → session.stage ≡ stage.Requests
    by_stage stage.Greeting at is = let never : move_in session stage.Greeting ≡ Asks = is in cc
    by_stage stage.Flags at is = absurd (flags_not session is)
    by_stage (stage.Options brief) at is = absurd (option_not session brief is)
    by_stage stage.Requests at is = at
    by_stage (stage.Replying cookie error) at is = let never : move_in session (stage.Replying cookie error) ≡ Asks = is in cc
    by_stage stage.Sending at is = let never : move_in session stage.Sending ≡ Asks = is in cc
    by_stage (stage.Over end) at is = let never : Ends end ≡ Asks = is in cc
