-- What comes of a session in pieces comes of it whole.
use Rattle.std.proofs.Common.{◌≡◌, ℕ, ◌+◌, ◌≤◌, false, List, [], ◌∷◌, ◌++◌, length, drop, refl, sym, ap, subst, ◌∙◌}
use Rattle.std.proofs.lemmas.List.{drop-append-le}
use Rattle.fab_base.specs.Layouts.{Layout}
use Rattle.front.specs.declared.steps.RangeAnswer.{RangeAnswer}
use Rattle.nbd_front.specs.declared.parts.NbdKind.{NbdKind}
use Rattle.nbd_front.specs.declared.parts.NbdKind.TheVariants as kind
use Rattle.nbd_front.specs.declared.parts.NbdRequest.{NbdRequest}
use Rattle.nbd_front.specs.Wire.{bytes_behind, request_of, request_size}
use Rattle.nbd_front.specs.Sessions.{Session, Move, Waits, Says, Asks, Ends, move_of, step_of, after, fed, finished, stopped, answered, Writing, asked_by, asked_of, error_of, found_by}
use Rattle.nbd_front.specs.declared.steps.SessionStage.TheVariants.{Replying}
use Rattle.nbd_front.specs.Talks.{Saying, Sent, Answered, OutOfTurns, Closed, TalkFollows, whole, HasSaid, said_by, TalkGoesOn, TakesBytes, TakesEnd}
use Rattle.nbd_front.proofs.Asking.{IsWhole, asks_whole}
use Rattle.nbd_front.proofs.Prefixes.{request_same, request_size_same, cut_same}
use Rattle.nbd_front.proofs.Feeding.{MovesOn, fed_move, move_fed}
use Rattle.nbd_front.proofs.Finishing.{EndsWith, finished_move, move_ended, move_with}

-- one run after another is a run
joined : (said more : List Saying) (first middle last : Session) → TalkFollows first said middle → TalkFollows middle more last
    → TalkFollows first (said ++ more) last
unfolding TalkFollows
joined [] more first middle last is next = subst (λ (s : Session). TalkFollows s more last) (sym is) next
joined (Sent bytes ∷ said) more first middle last (after_it, is, rest) next =
    (after_it, is, joined said more after_it middle last rest next)
joined (Answered asked answer ∷ said) more first middle last (asks, same, rest) next =
    (asks, same, joined said more (answered first answer) middle last rest next)
joined (OutOfTurns ∷ said) more first middle last rest next = joined said more (stopped first) middle last rest next
joined (Closed end ∷ said) more first middle last (is, rest) next =
    (is, joined said more (after first (Ends end)) middle last rest next)

-- ---- a command is the same whatever bytes come behind it

abbrev answered_by : Session → NbdRequest → List ℕ → RangeAnswer → Session
answered_by session request rest answer =
    record session {
      stage = Replying request.cookie (error_of request.kind answer);
      unread = rest;
      found = found_by request.kind answer;
    }

answered_fed : (session : Session) (piece : List ℕ) (answer : RangeAnswer) → IsWhole session.unread
    → answered (fed session piece) answer ≡ fed (answered session answer) piece
answered_fed session piece answer held =
    let xs = session.unread in
    ap (λ r. answered_by session r (drop (request_size (xs ++ piece)) (xs ++ piece)) answer) (request_same xs piece held.head)
    ∙ ap (λ n. answered_by session (request_of xs) (drop n (xs ++ piece)) answer) (request_size_same xs piece held.size)
    ∙ ap (λ l. answered_by session (request_of xs) l answer) (drop-append-le (request_size xs) xs piece held.size)

asked_fed : (session : Session) (piece : List ℕ) → IsWhole session.unread → asked_of (fed session piece) ≡ asked_of session
asked_fed session piece held =
    ap (λ (r : NbdRequest). asked_by session.volume (session.unread ++ piece) r r.kind) (request_same session.unread piece held.head)
    ∙ by_kind (request_of session.unread).kind held.all
  where
    by_kind : (asked : NbdKind) → 28 + bytes_behind asked (request_of session.unread).length ≤ length session.unread
        → asked_by session.volume (session.unread ++ piece) (request_of session.unread) asked
        ≡ asked_by session.volume session.unread (request_of session.unread) asked
    by_kind kind.Write all =
        ap (Writing session.volume (request_of session.unread).offset)
        (cut_same 28 (request_of session.unread).length session.unread piece all)
    by_kind kind.Read all = refl
    by_kind kind.Disc all = refl
    by_kind kind.Flush all = refl
    by_kind kind.Other all = refl

-- ---- bytes that come later, and the end of the bytes

follows_fed : (said : List Saying) (first last : Session) (piece : List ℕ) → first.ended ≡ false → TalkFollows first said last
    → TalkFollows (fed first piece) said (fed last piece)
unfolding TalkFollows
follows_fed [] first last piece open_still is = ap (λ (s : Session). fed s piece) is
follows_fed (Sent bytes ∷ said) first last piece open_still (next, is, rest) =
    let goes : next.ended ≡ first.ended = subst (EndsWith first.ended) is (move_with first) in (
      fed next piece,
      move_fed first piece open_still (subst MovesOn (sym is) tt) ∙ ap (fed_move piece) is,
      follows_fed said next last piece (goes ∙ open_still) rest,
    )
follows_fed (Answered asked answer ∷ said) first last piece open_still (asks, same, rest) =
    let held = asks_whole first asks in (
      move_fed first piece open_still (subst MovesOn (sym asks) tt) ∙ ap (fed_move piece) asks,
      asked_fed first piece held ∙ same,
      subst (λ (s : Session). TalkFollows s said (fed last piece)) (sym (answered_fed first piece answer held))
          (follows_fed said (answered first answer) last piece open_still rest),
    )
follows_fed (OutOfTurns ∷ said) first last piece open_still rest = follows_fed said (stopped first) last piece open_still rest
follows_fed (Closed end ∷ said) first last piece open_still (is, rest) = (
  move_fed first piece open_still (subst MovesOn (sym is) tt) ∙ ap (fed_move piece) is,
  follows_fed said (after first (Ends end)) last piece open_still rest,
)

follows_ended : (said : List Saying) (first last : Session) → first.ended ≡ false → TalkFollows first said last
    → TalkFollows (finished first) said (finished last)
unfolding TalkFollows
follows_ended [] first last open_still is = ap (λ (s : Session). finished s) is
follows_ended (Sent bytes ∷ said) first last open_still (next, is, rest) =
    let goes : next.ended ≡ first.ended = subst (EndsWith first.ended) is (move_with first) in (
      finished next,
      move_ended first open_still (subst MovesOn (sym is) tt) ∙ ap finished_move is,
      follows_ended said next last (goes ∙ open_still) rest,
    )
follows_ended (Answered asked answer ∷ said) first last open_still (asks, same, rest) = (
  move_ended first open_still (subst MovesOn (sym asks) tt) ∙ ap finished_move asks,
  same,
  follows_ended said (answered first answer) last open_still rest,
)
follows_ended (OutOfTurns ∷ said) first last open_still rest = follows_ended said (stopped first) last open_still rest
follows_ended (Closed end ∷ said) first last open_still (is, rest) = (
  move_ended first open_still (subst MovesOn (sym is) tt) ∙ ap finished_move is,
  follows_ended said (after first (Ends end)) last open_still rest,
)

-- ---- the calls of a session

pub begins : (layout : Layout) (session : Session) → session ≡ whole layout [] false → HasSaid layout [] false [] session
unfolding TalkFollows
begins layout session is = sym is

pub takes_bytes : (old : Session) (piece : List ℕ) → TakesBytes old piece (fed old piece)
takes_bytes old piece = λ layout bytes said has. follows_fed said (whole layout bytes false) old piece refl has

pub takes_end : (old : Session) → TakesEnd old (finished old)
takes_end old = λ layout bytes said has. follows_ended said (whole layout bytes false) old refl has

goes_on : (old : Session) (more : List Saying) (new : Session) → TalkFollows old more new → TalkGoesOn old more new
goes_on old more new follows = λ layout bytes ended said has. joined said more (whole layout bytes ended) old new has follows

pub moves_on : (old : Session) → TalkGoesOn old (said_by (step_of (move_of old))) (after old (move_of old))
unfolding TalkFollows
moves_on old = goes_on old (said_by (step_of (move_of old))) (after old (move_of old)) (by_move (move_of old) refl)
  where
    by_move : (move : Move) → move_of old ≡ move → TalkFollows old (said_by (step_of move)) (after old move)
    by_move Waits is = refl
    by_move (Says sent next) is = (next, is, refl)
    by_move Asks is = refl
    by_move (Ends end) is = (is, refl)

pub answers_on : (old : Session) (answer : RangeAnswer) → move_of old ≡ Asks
    → TalkGoesOn old (Answered (asked_of old) answer ∷ []) (answered old answer)
unfolding TalkFollows
answers_on old answer asks = goes_on old (Answered (asked_of old) answer ∷ []) (answered old answer) (asks, refl, refl)

pub stops : (old : Session) → TalkGoesOn old (OutOfTurns ∷ []) (stopped old)
unfolding TalkFollows
stops old = goes_on old (OutOfTurns ∷ []) (stopped old) refl
