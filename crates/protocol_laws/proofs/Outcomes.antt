-- What a coordinator decides once a reply counts, by its phase.
use Rattle.protocol.specs.declared.phases.Dropper.{Dropper}
use Rattle.fab_base.specs.declared.identities.ViewNo.{ViewNo}
use Rattle.protocol.specs.declared.phases.Mover.{Mover}
use Rattle.protocol_laws.proofs.Counting.{NoneStops}
use Rattle.std.proofs.Common.{◌≡◌, ℕ, ◌+◌, ◌<◌, ◌≤◌, ◌⊎◌, inl, inr, true, false, List, [], length, Option, Some, None, is_some, refl, arith, subst, ⊎_elim, sym, not}
use Rattle.std.specs.Prelude.{nat_lt}
use Rattle.std.proofs.lemmas.Bool.{cond_both, false≢true, ltb-true, ltb-false, and_parts, not-true}
use Rattle.fab_base.specs.declared.asks.Ask.{Ask}
use Rattle.fab_base.specs.declared.identities.BrickId.{BrickId}
use Rattle.fab_base.specs.declared.stamps.Stamp.{Stamp}
use Rattle.fab_base.specs.declared.answers.Answer.{Answer}
use Rattle.fab_base.specs.declared.answers.Answer.TheVariants.{Data, Done, Aborted}
use Rattle.fab_base.specs.declared.answers.Cause.{Cause}
use Rattle.messages.specs.declared.calls.Call.{Call}
use Rattle.fab_base.specs.Layouts.{Group}
use Rattle.reg_model.specs.Registers.{read_of, after_op}
use Rattle.protocol.specs.Settings.{Code}
use Rattle.protocol.specs.declared.phases.Phase.{Phase}
use Rattle.protocol.specs.declared.phases.Phase.TheVariants.{Looks, LooksAt, Orders, OrdersAt, Recovers, Descends, Modifies, Bases, Stores, LooksBack}
use Rattle.protocol.specs.declared.phases.Counted.{Counted}
use Rattle.protocol.specs.declared.phases.Refuser.{Refuser}
use Rattle.protocol.specs.declared.phases.FullMember.{FullMember}
use Rattle.protocol.specs.Coordinators.{Coordinator, Next, Ignores, Waits, Sends, Makes, Ends, next_phase, in_phase, restoring, reordering, forgetting, most_rounds, aborted_by, unless_told_full, unless_told_moved, lowest_mover, ordered_again, once_ordered, unless_refused, answered_fast, read_back, answer_with, pieces_at, greatest_refuser, lowest_full, greatest_found, fast_version, decided, once_full, answered_fast_at, modified_if, once_modified, rebuilt, some_behind, bytes_at, block_written, fast_version_at, common_version_at, asked_view, looks_back, may_look_back, lower_phase, lowest_dropper, unless_told_gone, needed}
use Rattle.protocol.specs.Worlds.{is_answer}

-- the call of an operation's next phase
abbrev pub call_after : Coordinator → Phase → Call
call_after c phase = record (next_phase c.call) { view = asked_view c.stamp phase }

-- the coordinator of the same operation, under the same call
pub record SameOperation (c d : Coordinator) : Type 0 where
  pub ask : d.ask ≡ c.ask
  pub members : d.group ≡ c.group
  pub prior : d.prior ≡ c.prior
  pub only : d.only ≡ c.only
  pub boot : d.call.boot ≡ c.call.boot
  pub seq : d.call.seq ≡ c.call.seq
  pub group : d.call.group ≡ c.call.group
  pub stripe : d.call.stripe ≡ c.call.stripe

-- a phase that reads back the base of a change
abbrev pub IsRebuild : Phase → Type 0
IsRebuild (Bases base) = Unit {0}
IsRebuild phase = ⊥

-- a phase in which a read looks
abbrev pub IsLook : Phase → Type 0
IsLook Looks = Unit {0}
IsLook (LooksAt j) = Unit {0}
IsLook phase = ⊥

-- it forgot the replies that counted: none refused what it was asked, or told a later stamp in a phase that orders; and none found a version, unless it reads a base back
pub record Forgets (c d : Coordinator) : Type 0 where
  pub counted : d.counted ≡ []
  pub stops : NoneStops c.counted
  pub refused : looks_back c.phase ≡ false → greatest_refuser c.counted ≡ None
  pub found : (greatest_found c.counted ≡ None) ⊎ IsRebuild c.phase
  pub later : IsLook c.phase → ⊥

-- it waits in its phase, with the replies that count, or once it forgot them
pub record WaitsFits (c d : Coordinator) : Type 0 where
  pub same : SameOperation c d
  pub stamp : d.stamp ≡ c.stamp
  pub round : d.round ≡ c.round
  pub base : d.base ≡ c.base
  pub call : d.call ≡ c.call
  pub phase : d.phase ≡ c.phase
  pub counted : (d.counted ≡ c.counted) ⊎ Forgets c d

-- a phase that is a round of ordering
abbrev pub IsRound : Phase → Type 0
IsRound Looks = ⊥
IsRound (LooksAt j) = ⊥
IsRound Orders = Unit {0}
IsRound (OrdersAt j) = Unit {0}
IsRound Recovers = Unit {0}
IsRound (Descends bound) = ⊥
IsRound (LooksBack bound) = ⊥
IsRound (Modifies base j) = ⊥
IsRound (Bases base) = ⊥
IsRound Stores = ⊥

-- a phase that an operation is in once it made its version
abbrev pub IsMaking : Phase → Type 0
IsMaking (Modifies base j) = Unit {0}
IsMaking (Bases base) = Unit {0}
IsMaking Stores = Unit {0}
IsMaking phase = ⊥

-- the phase number of an operation's first round of ordering: a recovery has looked before it
abbrev pub first_round : Phase → ℕ
first_round Recovers = 2
first_round phase = 1

pub first_round_above : (p : Phase) → 1 ≤ first_round p
first_round_above Recovers = omega arith
first_round_above phase = omega arith

-- an order that was refused is in its next round, with the fresh stamp
pub record ReordersFits (fresh : Option Stamp) (c d : Coordinator) : Type 0 where
  pub was : IsRound c.phase
  pub unmade : IsMaking c.phase → ⊥
  pub base : d.base ≡ c.base
  pub phase : d.phase ≡ c.phase
  pub stamp : fresh ≡ Some d.stamp
  pub left : c.round < most_rounds
  pub round : d.round ≡ c.round + 1
  pub refused : is_some (greatest_refuser c.counted) ≡ true

-- an operation that found nothing in its view begins to look back, or looks further down in the view before
abbrev pub BackFits : Coordinator → Coordinator → Type 0
BackFits c d =
    ((d.phase ≡ LooksBack None) × (looks_back c.phase ≡ false) × (greatest_found c.counted ≡ None) × (IsRebuild c.phase → ⊥))
    ⊎ ((bound : Option Stamp) × (v : Stamp) × (c.phase ≡ LooksBack bound) × (d.phase ≡ LooksBack (Some v)))

-- the operation, under its stamp, begins to recover, or looks further down, or looks back
pub record RecoversFits (c d : Coordinator) : Type 0 where
  pub unmade : IsMaking c.phase → ⊥
  pub base : d.base ≡ c.base
  pub stamp : d.stamp ≡ c.stamp
  pub round : d.round ≡ c.round
  pub phase : (IsLook c.phase × (d.phase ≡ Recovers)) ⊎ (((bound : Stamp) × (d.phase ≡ Descends bound)) ⊎ BackFits c d)

-- the operation, which made its version by a change, reads the base of that back, or stores what it made of it
abbrev pub RebuildsIn : Coordinator → Coordinator → Type 0
RebuildsIn c d =
    ((base : Stamp) × (j : ℕ) × (c.phase ≡ Modifies base j) × (d.phase ≡ Bases base) × (d.base ≡ c.base))
    ⊎ ((base : Stamp) × (c.phase ≡ Bases base) × (d.phase ≡ Stores) × (d.base ≡ Some base))

pub record RebuildsFits (c d : Coordinator) : Type 0 where
  pub stamp : d.stamp ≡ c.stamp
  pub round : d.round ≡ c.round
  pub how : RebuildsIn c d

-- it is in its next phase, and makes no version by that
pub record SendsFits (fresh : Option Stamp) (c d : Coordinator) : Type 0 where
  pub same : SameOperation c d
  pub call : d.call ≡ call_after c d.phase
  pub counted : d.counted ≡ []
  pub how : ReordersFits fresh c d ⊎ (RecoversFits c d ⊎ RebuildsFits c d)

-- it makes its version: it is in its store phase, or modifies its base
abbrev pub MakesIn : Coordinator → Type 0
MakesIn d = (d.phase ≡ Stores) ⊎ ((base : Stamp) × (j : ℕ) × (d.phase ≡ Modifies base j) × (d.base ≡ Some base))

pub record MakesFits (c d : Coordinator) : Type 0 where
  pub same : SameOperation c d
  pub unmade : IsMaking c.phase → ⊥
  pub later : IsLook c.phase → ⊥
  pub phase : MakesIn d
  pub stamp : d.stamp ≡ c.stamp
  pub round : d.round ≡ c.round
  pub call : d.call ≡ call_after c d.phase
  pub counted : d.counted ≡ []

-- an operation that looks back does so in its next phase
pub back_phase : (c d : Coordinator) → BackFits c d → (bound : Option Stamp) × (d.phase ≡ LooksBack bound)
back_phase c d (inl first) = (None, first.0)
back_phase c d (inr lower) = (Some lower.1, lower.3)

-- the next phase of an operation that has made nothing is none of those of a version that was made
pub unmade_again : (fresh : Option Stamp) (c d : Coordinator) → ReordersFits fresh c d → IsMaking d.phase → ⊥
unmade_again fresh c d again is = again.unmade (subst (λ (p : Phase). IsMaking p) again.phase is)

pub unmade_recovers : (c d : Coordinator) → RecoversFits c d → IsMaking d.phase → ⊥
unmade_recovers c d goes is = ⊎_elim
    (λ (look : IsLook c.phase × (d.phase ≡ Recovers)). subst (λ (p : Phase). IsMaking p) look.1 is)
    (λ (down : ((bound : Stamp) × (d.phase ≡ Descends bound)) ⊎ BackFits c d). ⊎_elim
    (λ (lower : (bound : Stamp) × (d.phase ≡ Descends bound)). subst (λ (p : Phase). IsMaking p) lower.1 is)
    (λ (back : BackFits c d). subst (λ (p : Phase). IsMaking p) (back_phase c d back).1 is)
    down)
    goes.phase

-- how each phase ends: a read that looks tells a version, where it is answered, and all but what stores or modifies ends only by an abort
abbrev pub EndFits : Phase → Answer → Option Stamp → Type 0
EndFits Looks answer seen = is_answer answer ≡ true → (v : Stamp) × (seen ≡ Some v)
EndFits (LooksAt j) answer seen = is_answer answer ≡ true → (v : Stamp) × (seen ≡ Some v)
EndFits (Modifies base j) answer seen = Unit {0}
EndFits Stores answer seen = Unit {0}
EndFits phase answer seen = is_answer answer ≡ false

-- an abort ends any phase
abort_ends : (phase : Phase) (cause : Cause) → EndFits phase (Aborted cause) None
abort_ends Looks cause = λ is. absurd (false≢true is)
abort_ends (LooksAt j) cause = λ is. absurd (false≢true is)
abort_ends (Modifies base j) cause = tt
abort_ends Stores cause = tt
abort_ends phase cause = refl

-- no other round of ordering follows: there is no fresh stamp, or no round is left
abbrev pub NoRoundFits : Option Stamp → Coordinator → Type 0
NoRoundFits fresh c = (fresh ≡ None) ⊎ (most_rounds ≤ c.round)

-- a phase is aborted only where no other round of ordering follows
abbrev pub LastFits : Option Stamp → Coordinator → Phase → Type 0
LastFits fresh c Looks = ⊥
LastFits fresh c (LooksAt j) = ⊥
LastFits fresh c Orders = NoRoundFits fresh c
LastFits fresh c (OrdersAt j) = NoRoundFits fresh c
LastFits fresh c Recovers = NoRoundFits fresh c
LastFits fresh c (LooksBack bound) = ⊥
LastFits fresh c phase = Unit {0}

-- the abort tells of the member that told the greatest later stamp
pub record AbortFits (fresh : Option Stamp) (c : Coordinator) (brick : BrickId) (x : Stamp) : Type 0 where
  pub seat : ℕ
  pub refused : greatest_refuser c.counted ≡ Some (record { seat = seat; brick = brick; stamp = x })
  pub last : LastFits fresh c c.phase

-- the abort tells of the member of the lowest seat that told that its store is full
pub record FullFits (c : Coordinator) (brick : BrickId) (live : ℕ) : Type 0 where
  pub seat : ℕ
  pub told : lowest_full c.counted ≡ Some (record { seat = seat; brick = brick; live = live })

-- the abort tells of the member of the lowest seat that told a later view
pub record MovedFits (c : Coordinator) (brick : BrickId) (view : ViewNo) : Type 0 where
  pub seat : ℕ
  pub told : lowest_mover c.counted ≡ Some (record { seat = seat; brick = brick; view = view })

-- the abort tells of the member of the lowest seat that told that it has dropped the versions of the view before
pub record GoneFits (c : Coordinator) (brick : BrickId) : Type 0 where
  pub seat : ℕ
  pub told : lowest_dropper c.counted ≡ Some (record { seat = seat; brick = brick })
  pub stays : lowest_mover c.counted ≡ None

-- what an answer tells is so
abbrev pub AnswerFits : Option Stamp → Coordinator → Answer → Type 0
AnswerFits fresh c (Data bytes) = Unit {0}
AnswerFits fresh c Done = Unit {0}
AnswerFits fresh c (Aborted (Cause.Later brick x)) = AbortFits fresh c brick x
AnswerFits fresh c (Aborted (Cause.Full brick live)) = FullFits c brick live
AnswerFits fresh c (Aborted (Cause.Moved brick view)) = MovedFits c brick view
AnswerFits fresh c (Aborted (Cause.Gone brick)) = GoneFits c brick

-- what is decided fits the coordinator
abbrev pub NextFits : Option Stamp → Coordinator → Next → Type 0
NextFits fresh c Ignores = ⊥
NextFits fresh c (Waits d) = WaitsFits c d
NextFits fresh c (Sends d) = SendsFits fresh c d
NextFits fresh c (Makes d) = MakesFits c d
NextFits fresh c (Ends answer seen stored) = EndFits c.phase answer seen × AnswerFits fresh c answer

-- a coordinator of these parts
abbrev at : Group → List BrickId → Option (List BrickId) → Ask → Stamp → ℕ → Option Stamp → List ℕ → Call → Phase → List Counted → Coordinator
at group prior only ask stamp round base content call phase counted = record {
  group = group;
  prior = prior;
  only = only;
  ask = ask;
  stamp = stamp;
  round = round;
  base = base;
  content = content;
  call = call;
  phase = phase;
  counted = counted;
}

module _ (group : Group) (prior : List BrickId) (only : Option (List BrickId)) (ask : Ask) (stamp : Stamp) (round : ℕ) (base : Option Stamp) (content : List ℕ) (call : Call) (counted : List Counted) where
  -- the coordinator in a phase
  abbrev within : Phase → Coordinator
  within phase = at group prior only ask stamp round base content call phase counted

  waits_fits : (phase : Phase) → WaitsFits (within phase) (within phase)
  waits_fits phase = record {
    same = record { ask = refl; members = refl; prior = refl; only = refl; boot = refl; seq = refl; group = refl; stripe = refl };
    stamp = refl;
    round = refl;
    base = refl;
    call = refl;
    phase = refl;
    counted = inl refl;
  }

  forgets_fits : (phase : Phase) → (IsLook phase → ⊥) → (looks_back phase ≡ false → greatest_refuser counted ≡ None) → NoneStops counted
      → (greatest_found counted ≡ None) ⊎ IsRebuild phase → WaitsFits (within phase) (forgetting (within phase))
  forgets_fits phase later none roomy nothing = record {
    same = record { ask = refl; members = refl; prior = refl; only = refl; boot = refl; seq = refl; group = refl; stripe = refl };
    stamp = refl;
    round = refl;
    base = refl;
    call = refl;
    phase = refl;
    counted = inr (record { counted = refl; stops = roomy; refused = none; found = nothing; later = later });
  }

  same_next : (phase next : Phase) (base_of : Option Stamp) (bytes : List ℕ) → SameOperation (within phase)
      (record (in_phase (within phase) next) { base = base_of; content = bytes })
  same_next phase next base_of bytes = record { ask = refl; members = refl; prior = refl; only = refl; boot = refl; seq = refl; group = refl; stripe = refl }

  makes_fits : (phase : Phase) → (IsMaking phase → ⊥) → (IsLook phase → ⊥) → MakesFits (within phase) (in_phase (within phase) Stores)
  makes_fits phase unmade later = record {
    same = same_next phase Stores base content;
    unmade = unmade;
    later = later;
    phase = inl refl;
    stamp = refl;
    round = refl;
    call = refl;
    counted = refl;
  }

  restores_fits : (block : ℕ) (phase : Phase) (v : Stamp) (bytes : List ℕ) → (IsMaking phase → ⊥) → (IsLook phase → ⊥)
      → MakesFits (within phase) (restoring block (within phase) v bytes)
  restores_fits block phase v bytes unmade later = record {
    same = same_next phase Stores (Some v) (after_op block ask.op bytes);
    unmade = unmade;
    later = later;
    phase = inl refl;
    stamp = refl;
    round = refl;
    call = refl;
    counted = refl;
  }

  descends_fits : (fresh : Option Stamp) (phase : Phase) (v : Stamp) → (IsMaking phase → ⊥)
      → SendsFits fresh (within phase) (in_phase (within phase) (Descends v))
  descends_fits fresh phase v unmade = record {
    same = same_next phase (Descends v) base content;
    call = refl;
    counted = refl;
    how = inr (inl (record { unmade = unmade; base = refl; stamp = refl; round = refl; phase = inr (inl (v, refl)) }));
  }

  -- an operation that found nothing in its view looks back
  looks_back_fits : (fresh : Option Stamp) (phase : Phase) → (IsMaking phase → ⊥) → (IsRebuild phase → ⊥) → looks_back phase ≡ false
      → greatest_found counted ≡ None → SendsFits fresh (within phase) (in_phase (within phase) (LooksBack None))
  looks_back_fits fresh phase unmade other ahead nothing = record {
    same = same_next phase (LooksBack None) base content;
    call = refl;
    counted = refl;
    how = inr (inl (record { unmade = unmade; base = refl; stamp = refl; round = refl; phase = inr (inr (inl (refl, ahead, nothing, other))) }));
  }

  -- and further down
  lower_fits : (fresh : Option Stamp) (phase : Phase) (v : Stamp) → (IsMaking phase → ⊥)
      → SendsFits fresh (within phase) (in_phase (within phase) (lower_phase phase v))
  lower_fits fresh (LooksBack bound) v unmade = record {
    same = same_next (LooksBack bound) (LooksBack (Some v)) base content;
    call = refl;
    counted = refl;
    how = inr (inl (record { unmade = unmade; base = refl; stamp = refl; round = refl; phase = inr (inr (inr (bound, v, refl, refl))) }));
  }
  lower_fits fresh phase v unmade = descends_fits fresh phase v unmade

  -- a read that looked begins to recover
  recovers_fits : (fresh : Option Stamp) (phase : Phase) → (IsMaking phase → ⊥) → IsLook phase
      → SendsFits fresh (within phase) (in_phase (within phase) Recovers)
  recovers_fits fresh phase unmade look = record {
    same = same_next phase Recovers base content;
    call = refl;
    counted = refl;
    how = inr (inl (record { unmade = unmade; base = refl; stamp = refl; round = refl; phase = inl (look, refl) }));
  }

  answered_fast_fits : (code : Code) (fresh v : Option Stamp) → NextFits fresh (within Looks) (answered_fast code (within Looks) v)
  answered_fast_fits code fresh None = recovers_fits fresh Looks (λ is. is) tt
  answered_fast_fits code fresh (Some v) = ((λ is. (v, refl)), tt)

  answered_fast_at_fits : (fresh : Option Stamp) (j : ℕ) (v : Option Stamp) → NextFits fresh (within (LooksAt j)) (answered_fast_at (within (LooksAt j)) j v)
  answered_fast_at_fits fresh j None = recovers_fits fresh (LooksAt j) (λ is. is) tt
  answered_fast_at_fits fresh j (Some v) = ((λ is. (v, refl)), tt)

  -- a write of a block modifies the version that all found, or looks for one
  modified_fits : (code : Code) (fresh : Option Stamp) (j : ℕ) (v : Option Stamp) → NextFits fresh (within (OrdersAt j)) (modified_if code (within (OrdersAt j)) j v)
  modified_fits code fresh j None = descends_fits fresh (OrdersAt j) stamp (λ is. is)
  modified_fits code fresh j (Some v) = record {
    same = same_next (OrdersAt j) (Modifies v j) (Some v) (code.delta (bytes_at j counted) (block_written ask.op));
    unmade = λ is. is;
    later = λ is. is;
    phase = inr (v, j, refl, refl);
    stamp = refl;
    round = refl;
    call = refl;
    counted = refl;
  }

  -- it is done, or reads its base back
  once_modified_fits : (fresh : Option Stamp) (v : Stamp) (j : ℕ) → NextFits fresh (within (Modifies v j)) (once_modified (within (Modifies v j)) v)
  once_modified_fits fresh v j =
      cond_both (some_behind counted) (Sends (in_phase (within (Modifies v j)) (Bases v))) (Ends Done None (Some stamp))
      (λ (next : Next). NextFits fresh (within (Modifies v j)) next)
      (λ behind. record {
        same = same_next (Modifies v j) (Bases v) base content;
        call = refl;
        counted = refl;
        how = inr (inr (record { stamp = refl; round = refl; how = inl (v, j, refl, refl, refl) }));
      })
      (λ all. (tt, tt))

  -- and stores what it made of that
  rebuilt_fits : (block : ℕ) (code : Code) (fresh : Option Stamp) (v : Stamp) → greatest_refuser counted ≡ None → NoneStops counted
      → NextFits fresh (within (Bases v)) (rebuilt block code (within (Bases v)) v)
  rebuilt_fits block code fresh v none roomy =
      cond_both (nat_lt (length (pieces_at v counted)) group.m) (Waits (forgetting (within (Bases v))))
      (Sends (restoring block (within (Bases v)) v (code.decode group.m (pieces_at v counted))))
      (λ (next : Next). NextFits fresh (within (Bases v)) next)
      (λ few. forgets_fits (Bases v) (λ is. is) (λ ahead. none) roomy (inr tt))
      (λ enough. record {
        same = same_next (Bases v) Stores (Some v) (after_op block ask.op (code.decode group.m (pieces_at v counted)));
        call = refl;
        counted = refl;
        how = inr (inr (record { stamp = refl; round = refl; how = inr (v, refl, refl, refl) }));
      })

  read_back_fits : (block : ℕ) (code : Code) (fresh : Option Stamp) (phase : Phase) (v : Option Stamp) → greatest_found counted ≡ v → (IsMaking phase → ⊥)
      → (IsLook phase → ⊥) → (IsRebuild phase → ⊥) → (looks_back phase ≡ false → greatest_refuser counted ≡ None) → NoneStops counted
      → NextFits fresh (within phase) (read_back block code (within phase) v)
  read_back_fits block code fresh phase None nothing unmade later other none roomy =
      cond_both (may_look_back (within phase)) (Sends (in_phase (within phase) (LooksBack None))) (Waits (forgetting (within phase)))
      (λ (next : Next). NextFits fresh (within phase) next)
      (λ may. looks_back_fits fresh phase unmade other (not-true (looks_back phase) (and_parts (nat_lt 1 stamp.view.0) (not (looks_back phase)) may).1) nothing)
      (λ isnt. forgets_fits phase later none roomy (inl nothing))
  read_back_fits block code fresh phase (Some v) found unmade later other none roomy =
      cond_both (nat_lt (length (pieces_at v counted)) group.m) (Sends (in_phase (within phase) (lower_phase phase v)))
      (Makes (restoring block (within phase) v (code.decode group.m (pieces_at v counted))))
      (λ (next : Next). NextFits fresh (within phase) next)
      (λ few. lower_fits fresh phase v unmade)
      (λ enough. restores_fits block phase v (code.decode group.m (pieces_at v counted)) unmade later)

  -- an abort in a phase that is no round of ordering, or in the last one
  aborts_fits : (fresh : Option Stamp) (phase : Phase) (r : Refuser) → greatest_refuser counted ≡ Some r → LastFits fresh (within phase) phase
      → NextFits fresh (within phase) (aborted_by r)
  aborts_fits fresh phase r refused last =
      (abort_ends phase (Cause.Later r.brick r.stamp), record { seat = r.seat; refused = refused; last = last })

  -- a member that moved on aborts any phase, and so does one that dropped the view before, or one whose store is full
  unless_told_fits : (fresh : Option Stamp) (phase : Phase) (next : Next) (m : Option Mover) (g : Option Dropper) (f : Option FullMember)
      → lowest_mover counted ≡ m → lowest_dropper counted ≡ g → lowest_full counted ≡ f → (NoneStops counted → NextFits fresh (within phase) next)
      → NextFits fresh (within phase) (unless_told_moved m (unless_told_gone g (unless_told_full f next)))
  unless_told_fits fresh phase next None None None stays kept roomy fits = fits (stays, kept, roomy)
  unless_told_fits fresh phase next None None (Some f) stays kept told fits = (abort_ends phase (Cause.Full f.brick f.live), record { seat = f.seat; told = told })
  unless_told_fits fresh phase next None (Some g) f stays told roomy fits = (abort_ends phase (Cause.Gone g.brick), record { seat = g.seat; told = told; stays = stays })
  unless_told_fits fresh phase next (Some m) g f told kept roomy fits = (abort_ends phase (Cause.Moved m.brick m.view), record { seat = m.seat; told = told })

  again_fits : (fresh : Option Stamp) (phase : Phase) (r : Refuser) → IsRound phase
      → ((f : Option Stamp) → NoRoundFits f (within phase) → LastFits f (within phase) phase)
      → (IsMaking phase → ⊥) → greatest_refuser counted ≡ Some r → NextFits fresh (within phase) (ordered_again fresh (within phase) r)
  again_fits None phase r is last unmade refused = aborts_fits None phase r refused (last None (inl refl))
  again_fits (Some t) phase r is last unmade refused =
      cond_both (nat_lt round most_rounds) (Sends (reordering (within phase) t)) (aborted_by r)
      (λ (next : Next). NextFits (Some t) (within phase) next)
      (λ few. record {
        same = record { ask = refl; members = refl; prior = refl; only = refl; boot = refl; seq = refl; group = refl; stripe = refl };
        call = refl;
        counted = refl;
        how = inl (record {
          unmade = unmade;
          base = refl;
          was = is;
          phase = refl;
          stamp = refl;
          left = ltb-true round most_rounds few;
          round = refl;
          refused = rw refused refl;
        });
      })
      (λ all. aborts_fits (Some t) phase r refused (last (Some t) (inr (ltb-false round most_rounds all))))

  ordered_fits : (fresh : Option Stamp) (r : Option Refuser) → greatest_refuser counted ≡ r
      → NextFits fresh (within Orders) (once_ordered fresh (within Orders) r (Makes (in_phase (within Orders) Stores)))
  ordered_fits fresh None refused = makes_fits Orders (λ is. is) (λ is. is)
  ordered_fits fresh (Some r) refused = again_fits fresh Orders r tt (λ f none. none) (λ is. is) refused

  ordered_at_fits : (code : Code) (fresh : Option Stamp) (j : ℕ) (r : Option Refuser) → greatest_refuser counted ≡ r
      → NextFits fresh (within (OrdersAt j)) (once_ordered fresh (within (OrdersAt j)) r (modified_if code (within (OrdersAt j)) j (common_version_at j counted)))
  ordered_at_fits code fresh j None refused = modified_fits code fresh j (common_version_at j counted)
  ordered_at_fits code fresh j (Some r) refused = again_fits fresh (OrdersAt j) r tt (λ f none. none) (λ is. is) refused

  recovered_fits : (block : ℕ) (code : Code) (fresh : Option Stamp) (r : Option Refuser) → greatest_refuser counted ≡ r → NoneStops counted
      → NextFits fresh (within Recovers) (once_ordered fresh (within Recovers) r (read_back block code (within Recovers) (greatest_found counted)))
  recovered_fits block code fresh None refused roomy = read_back_fits block code fresh Recovers (greatest_found counted) refl (λ is. is) (λ is. is) (λ is. is) (λ ahead. refused) roomy
  recovered_fits block code fresh (Some r) refused roomy = again_fits fresh Recovers r tt (λ f none. none) (λ is. is) refused

  descended_fits : (block : ℕ) (code : Code) (fresh : Option Stamp) (bound : Stamp) (r : Option Refuser) → greatest_refuser counted ≡ r
      → NoneStops counted
      → NextFits fresh (within (Descends bound)) (unless_refused r (read_back block code (within (Descends bound)) (greatest_found counted)))
  descended_fits block code fresh bound None refused roomy =
      read_back_fits block code fresh (Descends bound) (greatest_found counted) refl (λ is. is) (λ is. is) (λ is. is) (λ ahead. refused) roomy
  descended_fits block code fresh bound (Some r) refused roomy = aborts_fits fresh (Descends bound) r refused tt

  modifies_fits : (fresh : Option Stamp) (v : Stamp) (j : ℕ) (r : Option Refuser) → greatest_refuser counted ≡ r
      → NextFits fresh (within (Modifies v j)) (unless_refused r (once_modified (within (Modifies v j)) v))
  modifies_fits fresh v j None refused = once_modified_fits fresh v j
  modifies_fits fresh v j (Some r) refused = aborts_fits fresh (Modifies v j) r refused tt

  bases_fits : (block : ℕ) (code : Code) (fresh : Option Stamp) (v : Stamp) (r : Option Refuser) → greatest_refuser counted ≡ r
      → NoneStops counted → NextFits fresh (within (Bases v)) (unless_refused r (rebuilt block code (within (Bases v)) v))
  bases_fits block code fresh v None refused roomy = rebuilt_fits block code fresh v refused roomy
  bases_fits block code fresh v (Some r) refused roomy = aborts_fits fresh (Bases v) r refused tt

  answer_fits : (fresh : Option Stamp) (read : Option (List ℕ)) → AnswerFits fresh (within Stores) (answer_with read)
  answer_fits fresh None = tt
  answer_fits fresh (Some bytes) = tt

  stored_fits : (fresh stored : Option Stamp) (read : Option (List ℕ)) (r : Option Refuser) → greatest_refuser counted ≡ r
      → NextFits fresh (within Stores) (unless_refused r (Ends (answer_with read) None stored))
  stored_fits fresh stored read None refused = (tt, answer_fits fresh read)
  stored_fits fresh stored read (Some r) refused = aborts_fits fresh Stores r refused tt

  decided_fits : (block : ℕ) (code : Code) (fresh : Option Stamp) (phase : Phase) → NextFits fresh (within phase) (decided block code fresh (within phase))
  unfolding decided
  decided_fits block code fresh Looks = unless_told_fits fresh Looks _ (lowest_mover counted) (lowest_dropper counted) (lowest_full counted) refl refl refl (λ roomy. answered_fast_fits code fresh (fast_version counted))
  decided_fits block code fresh Orders = unless_told_fits fresh Orders _ (lowest_mover counted) (lowest_dropper counted) (lowest_full counted) refl refl refl (λ roomy. ordered_fits fresh (greatest_refuser counted) refl)
  decided_fits block code fresh (LooksAt j) =
      unless_told_fits fresh (LooksAt j) _ (lowest_mover counted) (lowest_dropper counted) (lowest_full counted) refl refl refl (λ roomy. answered_fast_at_fits fresh j (fast_version_at j counted))
  decided_fits block code fresh (OrdersAt j) =
      unless_told_fits fresh (OrdersAt j) _ (lowest_mover counted) (lowest_dropper counted) (lowest_full counted) refl refl refl (λ roomy. ordered_at_fits code fresh j (greatest_refuser counted) refl)
  decided_fits block code fresh Recovers =
      unless_told_fits fresh Recovers _ (lowest_mover counted) (lowest_dropper counted) (lowest_full counted) refl refl refl (recovered_fits block code fresh (greatest_refuser counted) refl)
  decided_fits block code fresh (Descends bound) =
      unless_told_fits fresh (Descends bound) _ (lowest_mover counted) (lowest_dropper counted) (lowest_full counted) refl refl refl (descended_fits block code fresh bound (greatest_refuser counted) refl)
  decided_fits block code fresh (LooksBack bound) =
      unless_told_fits fresh (LooksBack bound) _ (lowest_mover counted) (lowest_dropper counted) (lowest_full counted) refl refl refl
      (read_back_fits block code fresh (LooksBack bound) (greatest_found counted) refl (λ is. is) (λ is. is) (λ is. is) (λ ahead. absurd (false≢true (sym ahead))))
  decided_fits block code fresh (Modifies u j) =
      unless_told_fits fresh (Modifies u j) _ (lowest_mover counted) (lowest_dropper counted) (lowest_full counted) refl refl refl (λ roomy. modifies_fits fresh u j (greatest_refuser counted) refl)
  decided_fits block code fresh (Bases u) =
      unless_told_fits fresh (Bases u) _ (lowest_mover counted) (lowest_dropper counted) (lowest_full counted) refl refl refl (bases_fits block code fresh u (greatest_refuser counted) refl)
  decided_fits block code fresh Stores =
      unless_told_fits fresh Stores _ (lowest_mover counted) (lowest_dropper counted) (lowest_full counted) refl refl refl (λ roomy. stored_fits fresh (Some stamp) (read_of block ask.op content) (greatest_refuser counted) refl)

-- what a coordinator decides, with as many replies as are needed or without, fits it
pub once_full_fits : (block : ℕ) (code : Code) (fresh : Option Stamp) (c : Coordinator) → NextFits fresh c (once_full block code fresh c)
once_full_fits block code fresh c =
    cond_both (nat_lt (length c.counted) (needed c)) _ _ (λ (next : Next). NextFits fresh c next)
    (λ few. waits_fits c.group c.prior c.only c.ask c.stamp c.round c.base c.content c.call c.counted c.phase)
    (λ enough. decided_fits c.group c.prior c.only c.ask c.stamp c.round c.base c.content c.call c.counted block code fresh c.phase)
