-- What the machine decides in the phases of a recovery: they stay its phases, and it ends aborted, or once its version is stored.
use Rattle.std.proofs.Common.{◌≡◌, ℕ, Bool, true, false, cond, nat_lt, length, List, Option, Some, None, refl}
use Rattle.std.proofs.lemmas.Bool.{false≢true}
use Rattle.fab_base.specs.declared.identities.BrickId.{BrickId}
use Rattle.fab_base.specs.declared.stamps.Stamp.{Stamp}
use Rattle.messages.specs.declared.calls.Call.{Call}
use Rattle.messages.specs.declared.replies.Reply.{Reply}
use Rattle.protocol.specs.Settings.{Code}
use Rattle.protocol.specs.declared.phases.Dropper.{Dropper}
use Rattle.protocol.specs.declared.phases.FullMember.{FullMember}
use Rattle.protocol.specs.declared.phases.Mover.{Mover}
use Rattle.protocol.specs.declared.phases.Phase.{Phase}
use Rattle.protocol.specs.declared.phases.Phase.TheVariants.{Looks, LooksAt, Orders, OrdersAt, Recovers, Descends, LooksBack, Modifies, Bases, Stores}
use Rattle.protocol.specs.declared.phases.Refuser.{Refuser}
use Rattle.protocol.specs.Coordinators.{Coordinator, Next, Ignores, Waits, Sends, Makes, Ends, aborted_by, answer_with, counted_at, counts_at, decided, forgetting, greatest_found, greatest_refuser, in_phase, lower_phase, lowest_dropper, lowest_full, lowest_mover, may_look_back, needed, on_reply, once_ordered, ordered_again, pieces_at, read_back, reordering, restoring, unless_refused, unless_told_full, unless_told_gone, unless_told_moved, with_reply}
use Rattle.reg_model.specs.Registers.{read_of}
use Rattle.protocol.specs.Jobs.{abort_cause}
use Rattle.protocol.specs.Scrubs.{is_look, scrub_answer}
use Rattle.coord_recover.specs.Recoveries.{is_of_recovery}

-- it goes on in a phase of a recovery; or it ends without a version that it saw, aborted, or once its own is stored
abbrev pub OfRecovery : Coordinator → Next → Type 0
OfRecovery c Ignores = Unit {0}
OfRecovery c (Waits d) = is_of_recovery d.phase ≡ true
OfRecovery c (Sends d) = is_of_recovery d.phase ≡ true
OfRecovery c (Makes d) = is_of_recovery d.phase ≡ true
OfRecovery c (Ends answer seen stored) =
    (seen ≡ None) × ((lagging : List BrickId) → scrub_answer lagging (abort_cause answer) stored ≡ scrub_answer lagging (abort_cause answer) (Some c.stamp))

-- such a phase does not look
pub looks_never : (phase : Phase) → is_of_recovery phase ≡ true → is_look phase ≡ false
looks_never Looks is = absurd (false≢true is)
looks_never (LooksAt j) is = refl
looks_never Orders is = refl
looks_never (OrdersAt j) is = refl
looks_never Recovers is = refl
looks_never (Descends bound) is = refl
looks_never (LooksBack bound) is = refl
looks_never (Modifies base j) is = refl
looks_never (Bases base) is = refl
looks_never Stores is = refl

module _ (block : ℕ) (code : Code) (fresh : Option Stamp) (c : Coordinator) where
  either : (b : Bool) (x y : Next) → OfRecovery c x → OfRecovery c y → OfRecovery c (cond b x y)
  either true x y first second = first
  either false x y first second = second

  unless_moved : (o : Option Mover) (next : Next) → OfRecovery c next → OfRecovery c (unless_told_moved o next)
  unless_moved None next is = is
  unless_moved (Some m) next is = (refl, λ lagging. refl)

  unless_gone : (o : Option Dropper) (next : Next) → OfRecovery c next → OfRecovery c (unless_told_gone o next)
  unless_gone None next is = is
  unless_gone (Some m) next is = (refl, λ lagging. refl)

  unless_full : (o : Option FullMember) (next : Next) → OfRecovery c next → OfRecovery c (unless_told_full o next)
  unless_full None next is = is
  unless_full (Some m) next is = (refl, λ lagging. refl)

  unless_later : (o : Option Refuser) (next : Next) → OfRecovery c next → OfRecovery c (unless_refused o next)
  unless_later None next is = is
  unless_later (Some r) next is = (refl, λ lagging. refl)

  again : (o : Option Stamp) (r : Refuser) → is_of_recovery c.phase ≡ true → OfRecovery c (ordered_again o c r)
  again None r is = (refl, λ lagging. refl)
  again (Some t) r is = either (nat_lt c.round 4) (Sends (reordering c t)) (aborted_by r) is (refl, λ lagging. refl)

  ordered : (o : Option Refuser) (next : Next) → is_of_recovery c.phase ≡ true → OfRecovery c next → OfRecovery c (once_ordered fresh c o next)
  ordered None next is goes = goes
  ordered (Some r) next is goes = again fresh r is

  lower : (phase : Phase) (v : Stamp) → is_of_recovery (lower_phase phase v) ≡ true
  lower Looks v = refl
  lower (LooksAt j) v = refl
  lower Orders v = refl
  lower (OrdersAt j) v = refl
  lower Recovers v = refl
  lower (Descends bound) v = refl
  lower (LooksBack bound) v = refl
  lower (Modifies base j) v = refl
  lower (Bases base) v = refl
  lower Stores v = refl

  reads : (o : Option Stamp) → is_of_recovery c.phase ≡ true → OfRecovery c (read_back block code c o)
  reads None is = either (may_look_back c) (Sends (in_phase c (LooksBack None))) (Waits (forgetting c)) refl is
  reads (Some v) is =
      either (nat_lt (length (pieces_at v c.counted)) c.group.m) (Sends (in_phase c (lower_phase c.phase v)))
      (Makes (restoring block c v (code.decode c.group.m (pieces_at v c.counted)))) (lower c.phase v) refl

  stores : OfRecovery c (unless_refused (greatest_refuser c.counted) (Ends (answer_with (read_of block c.ask.op c.content)) None (Some c.stamp)))
  stores = unless_later (greatest_refuser c.counted) _ (refl, λ lagging. refl)

-- so it is decided
decides_in : (block : ℕ) (code : Code) (fresh : Option Stamp) (c : Coordinator) (phase : Phase) → is_of_recovery phase ≡ true
    → OfRecovery (record c { phase = phase }) (decided block code fresh (record c { phase = phase }))
unfolding decided
decides_in block code fresh c Recovers is =
    let d : Coordinator = record c { phase = Recovers } in
    unless_moved block code fresh d (lowest_mover c.counted) _ (unless_gone block code fresh d (lowest_dropper c.counted) _
    (unless_full block code fresh d (lowest_full c.counted) _
    (ordered block code fresh d (greatest_refuser c.counted) _ refl (reads block code fresh d (greatest_found c.counted) refl))))
decides_in block code fresh c (Descends bound) is =
    let d : Coordinator = record c { phase = Descends bound } in
    unless_moved block code fresh d (lowest_mover c.counted) _ (unless_gone block code fresh d (lowest_dropper c.counted) _
    (unless_full block code fresh d (lowest_full c.counted) _
    (unless_later block code fresh d (greatest_refuser c.counted) _ (reads block code fresh d (greatest_found c.counted) refl))))
decides_in block code fresh c (LooksBack bound) is =
    let d : Coordinator = record c { phase = LooksBack bound } in
    unless_moved block code fresh d (lowest_mover c.counted) _ (unless_gone block code fresh d (lowest_dropper c.counted) _
    (unless_full block code fresh d (lowest_full c.counted) _ (reads block code fresh d (greatest_found c.counted) refl)))
decides_in block code fresh c Stores is =
    let d : Coordinator = record c { phase = Stores } in
    unless_moved block code fresh d (lowest_mover c.counted) _ (unless_gone block code fresh d (lowest_dropper c.counted) _
    (unless_full block code fresh d (lowest_full c.counted) _ (stores block code fresh d)))
decides_in block code fresh c Looks is = absurd (false≢true is)
decides_in block code fresh c (LooksAt j) is = absurd (false≢true is)
decides_in block code fresh c Orders is = absurd (false≢true is)
decides_in block code fresh c (OrdersAt j) is = absurd (false≢true is)
decides_in block code fresh c (Modifies base j) is = absurd (false≢true is)
decides_in block code fresh c (Bases base) is = absurd (false≢true is)

-- and so a reply is answered
answers_at : (block : ℕ) (code : Code) (fresh : Option Stamp) (c : Coordinator) (from : BrickId) (reply : Reply) (seat : Option ℕ)
    → is_of_recovery c.phase ≡ true → OfRecovery c (counted_at block code fresh c from reply seat)
answers_at block code fresh c from reply None is = tt
answers_at block code fresh c from reply (Some seat) is =
    let d = with_reply c seat from reply in
    either block code fresh c (nat_lt (length d.counted) (needed d)) (Waits d) (decided block code fresh d) is (decides_in block code fresh d d.phase is)

pub recovery_decides : (block : ℕ) (code : Code) (fresh : Option Stamp) (c : Coordinator) (from : BrickId) (call : Call) (reply : Reply)
    → is_of_recovery c.phase ≡ true → OfRecovery c (on_reply block code fresh c from call reply)
unfolding on_reply
recovery_decides block code fresh c from call reply is = answers_at block code fresh c from reply (counts_at block c from.0 call reply) is
