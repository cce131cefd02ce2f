-- What the machine decides once a scrub has looked.
use Rattle.std.proofs.Common.{◌≡◌, ℕ, true, List, [], ◌∷◌, Option, Some, None, refl, sym, ap, ◌∙◌, subst}
use Rattle.std.specs.List.{list_all}
use Rattle.std.proofs.lemmas.Bool.{and_parts, cond_both, false≢true}
use Rattle.fab_base.specs.declared.identities.BrickId.{BrickId}
use Rattle.fab_base.specs.declared.stamps.Stamp.{Stamp}
use Rattle.messages.specs.declared.replies.Reply.{Reply}
use Rattle.messages.specs.declared.replies.Reply.TheVariants.{Full, Moved, Retired}
use Rattle.protocol.specs.Settings.{Code}
use Rattle.protocol.specs.declared.phases.Counted.{Counted}
use Rattle.protocol.specs.declared.phases.Mover.{Mover}
use Rattle.protocol.specs.declared.phases.Phase.{Phase}
use Rattle.protocol.specs.declared.phases.Phase.TheVariants.{Looks}
use Rattle.protocol.specs.Coordinators.{Coordinator, all_tell, answers_phase, answered_fast, decided, dropper_of, fast_version, full_member_of, lowest_dropper, lowest_full, lowest_mover, aborted_moved, mover_of, tells, told_by_all, told_stamp, unless_told_full, unless_told_gone, unless_told_moved}

-- these replies all answer a look
abbrev pub AnswerLook : ℕ → Stamp → List Counted → Type 0
AnswerLook block t counted = list_all (λ reply. answers_phase block t reply.seat Looks reply.reply) counted ≡ true

-- a reply that answers a look tells nothing of dropped versions, nor of a full store
no_dropper : (block : ℕ) (t : Stamp) (seat : ℕ) (brick : BrickId) (reply : Reply) → answers_phase block t seat Looks reply ≡ true
    → dropper_of (record { seat = seat; brick = brick; reply = reply }) ≡ None
no_dropper block t seat brick Retired answers = absurd (false≢true answers)
no_dropper block t seat brick reply answers = refl

no_full : (block : ℕ) (t : Stamp) (seat : ℕ) (brick : BrickId) (reply : Reply) → answers_phase block t seat Looks reply ≡ true
    → full_member_of (record { seat = seat; brick = brick; reply = reply }) ≡ None
no_full block t seat brick (Full live) answers = absurd (false≢true answers)
no_full block t seat brick reply answers = refl

-- so no member tells these
none_drops : (block : ℕ) (t : Stamp) (counted : List Counted) → AnswerLook block t counted → lowest_dropper counted ≡ None
none_drops block t [] answer = refl
none_drops block t (c ∷ counted) answer =
    let parts = and_parts (answers_phase block t c.seat Looks c.reply) _ answer in
    rw (no_dropper block t c.seat c.brick c.reply parts.0) (rw (none_drops block t counted parts.1) refl)

none_full : (block : ℕ) (t : Stamp) (counted : List Counted) → AnswerLook block t counted → lowest_full counted ≡ None
none_full block t [] answer = refl
none_full block t (c ∷ counted) answer =
    let parts = and_parts (answers_phase block t c.seat Looks c.reply) _ answer in
    rw (no_full block t c.seat c.brick c.reply parts.0) (rw (none_full block t counted parts.1) refl)

-- a reply that tells a version tells no later view
no_mover : (v : Stamp) (seat : ℕ) (brick : BrickId) (reply : Reply) → tells v reply ≡ true → mover_of (record { seat = seat; brick = brick; reply = reply }) ≡ None
no_mover v seat brick (Moved view lineage) told = absurd (false≢true told)
no_mover v seat brick reply told = refl

none_moves : (v : Stamp) (counted : List Counted) → all_tell v counted ≡ true → lowest_mover counted ≡ None
none_moves v [] all = refl
none_moves v (c ∷ counted) all =
    let parts = and_parts (tells v c.reply) (all_tell v counted) all in
    rw (no_mover v c.seat c.brick c.reply parts.0) (rw (none_moves v counted parts.1) refl)

told_so : (o : Option Stamp) (counted : List Counted) (v : Stamp) → told_by_all o counted ≡ Some v → all_tell v counted ≡ true
told_so None counted v is = absurd cc
told_so (Some w) counted v is =
    cond_both (all_tell w counted) (Some w) None (λ (z : Option Stamp). z ≡ Some v → all_tell v counted ≡ true)
    (λ all e. let same : w ≡ v = cc in subst (λ (x : Stamp). all_tell x counted ≡ true) same all)
    (λ not e. absurd cc)
    is

all_told : (counted : List Counted) (v : Stamp) → fast_version counted ≡ Some v → all_tell v counted ≡ true
unfolding fast_version
all_told [] v is = absurd cc
all_told (c ∷ counted) v is = told_so (told_stamp c.reply) (c ∷ counted) v is

-- where a member told a later view, no version is told by all
pub moved_none : (counted : List Counted) (m : Mover) → lowest_mover counted ≡ Some m → fast_version counted ≡ None
moved_none counted m moved = by (fast_version counted) refl
  where
    by : (o : Option Stamp) → fast_version counted ≡ o → o ≡ None
    by None is = refl
    by (Some v) is = absurd (let none : Some m ≡ None = sym moved ∙ none_moves v counted (all_told counted v is) in cc)

-- what replies to a look decide
look_decided : (block : ℕ) (code : Code) (fresh : Option Stamp) (c : Coordinator) → c.phase ≡ Looks
    → decided block code fresh c
    ≡ unless_told_moved (lowest_mover c.counted)
    (unless_told_gone (lowest_dropper c.counted) (unless_told_full (lowest_full c.counted) (answered_fast code c (fast_version c.counted))))
unfolding decided
look_decided block code fresh c looks =
    subst
    (λ (z : Coordinator). decided block code fresh z
    ≡ unless_told_moved (lowest_mover z.counted)
    (unless_told_gone (lowest_dropper z.counted) (unless_told_full (lowest_full z.counted) (answered_fast code z (fast_version z.counted)))))
    (sym (ap (λ (phase : Phase). record c { phase = phase }) looks)) refl

-- that a member serves the view no more; or else what the fast version says
pub look_moved : (block : ℕ) (code : Code) (fresh : Option Stamp) (c : Coordinator) (m : Mover) → c.phase ≡ Looks → lowest_mover c.counted ≡ Some m
    → decided block code fresh c ≡ aborted_moved m
look_moved block code fresh c m looks moved = look_decided block code fresh c looks ∙ (rw moved refl)

pub look_answered : (block : ℕ) (code : Code) (fresh : Option Stamp) (c : Coordinator) → c.phase ≡ Looks → AnswerLook block c.stamp c.counted
    → lowest_mover c.counted ≡ None → decided block code fresh c ≡ answered_fast code c (fast_version c.counted)
look_answered block code fresh c looks answer none =
    look_decided block code fresh c looks
    ∙ (rw none (rw (none_drops block c.stamp c.counted answer) (rw (none_full block c.stamp c.counted answer) refl)))
