-- A version that all replies tell is the one whose blocks they tell, and the one that they agree on.
use Rattle.std.proofs.Common.{◌≡◌, ℕ, ◌≤◌, Bool, true, cond, if◌then◌else◌, not, List, [], ◌∷◌, length, Option, Some, None, refl, sym, ap, ◌∙◌, subst, arith}
use Rattle.std.specs.List.{list_all}
use Rattle.std.specs.Option.{MatchOption}
use Rattle.std.specs.Prelude.{filter, ◌&&◌}
use Rattle.std.proofs.lemmas.Bool.{and_parts, and_from, cond_both, false≢true}
use Rattle.fab_base.specs.declared.identities.BrickId.{BrickId}
use Rattle.fab_base.specs.declared.stamps.Stamp.{Stamp}
use Rattle.fab_base.specs.Stamps.{stamp_below, stamp_same}
use Rattle.messages.specs.declared.replies.Reply.{Reply}
use Rattle.messages.specs.declared.replies.Reply.TheVariants as replies
use Rattle.protocol.specs.declared.phases.Counted.{Counted}
use Rattle.protocol.specs.Coordinators.{tells, all_tell, told_stamp, told_by_all, fast_version, finds, all_find, found_by_all, common_version, common_version_at, has_seat, pieces_of, pieces_at}
use Rattle.coord_phase.specs.Tallies.{IsAgreed}
use Rattle.coord_phase.proofs.Pieces.{length-pieces_of}
use Rattle.coord_phase.proofs.TallyOf.{found_stamp}

-- a reply that tells it as the newest tells it
tells_found : (v : Stamp) (seat : ℕ) (brick : BrickId) (reply : Reply) → tells v reply ≡ true
    → finds v (record { seat = seat; brick = brick; reply = reply }) ≡ true
tells_found v seat brick (replies.Found order (Some version)) told = (and_parts (stamp_same version.stamp v) (not (stamp_below v order)) told).0
tells_found v seat brick reply told = absurd (false≢true told)

all_found : (v : Stamp) (counted : List Counted) → all_tell v counted ≡ true → filter (finds v) counted ≡ counted
all_found v [] told = refl
all_found v (c ∷ counted) told =
    let parts = and_parts (tells v c.reply) (all_tell v counted) told in
    ap (λ (b : Bool). cond b (c ∷ filter (finds v) counted) (filter (finds v) counted)) (tells_found v c.seat c.brick c.reply parts.0)
    ∙ ap (λ (rest : List Counted). c ∷ rest) (all_found v counted parts.1)

-- so all blocks are of the version
pub all_pieces : (v : Stamp) (counted : List Counted) → all_tell v counted ≡ true → pieces_at v counted ≡ pieces_of counted
all_pieces v counted told = ap pieces_of (all_found v counted told)

-- and there are enough of them
pub enough_pieces : (m : ℕ) (v : Stamp) (counted : List Counted) → m ≤ length counted → all_tell v counted ≡ true → m ≤ length (pieces_at v counted)
enough_pieces m v counted enough told =
    let many : length (pieces_at v counted) ≡ length counted = ap length (all_pieces v counted told) ∙ length-pieces_of counted in
    omega (arith, many, enough)

-- replies that all tell a version agree on it
told_found : (v : Stamp) (counted : List Counted) → all_tell v counted ≡ true → list_all (finds v) counted ≡ true
told_found v [] told = refl
told_found v (c ∷ counted) told =
    let parts = and_parts (tells v c.reply) (all_tell v counted) told in
    and_from (finds v c) (list_all (finds v) counted) (tells_found v c.seat c.brick c.reply parts.0) (told_found v counted parts.1)

-- where they agree on none, none may be answered at once
pub fast_none : (counted : List Counted) → ((v : Stamp) → ¬ (IsAgreed counted v)) → None ≡ fast_version counted
unfolding fast_version
fast_none [] none = refl
fast_none (c ∷ counted) none = by (told_stamp c.reply)
  where
    by : (told : Option Stamp) → None ≡ told_by_all told (c ∷ counted)
    by None = refl
    by (Some v) =
        cond_both (all_tell v (c ∷ counted)) (Some v) None (λ (z : Option Stamp). None ≡ z)
        (λ is. absurd (none v (record { some = omega arith; all = told_found v (c ∷ counted) is })))
        (λ isnt. refl)

-- the version that they agree on may be, where they tell no order above it
pub fast_some : (v : Stamp) (counted : List Counted) → IsAgreed counted v → fast_version counted ≡ (if all_tell v counted then Some v else None)
unfolding fast_version
fast_some v [] agreed = absurd (omega (arith, agreed.some))
fast_some v (c ∷ counted) agreed =
    ap (λ (told : Option Stamp). told_by_all told (c ∷ counted))
    (found_stamp v c (and_parts (finds v c) (list_all (finds v) counted) agreed.all).0)

-- the version that all replies find is the one that they agree on
all_find-finds : (v : Stamp) (counted : List Counted) → all_find v counted ≡ list_all (finds v) counted
all_find-finds v [] = refl
all_find-finds v (c ∷ counted) = ap (λ (b : Bool). finds v c && b) (all_find-finds v counted)

common_none : (counted : List Counted) → ((v : Stamp) → ¬ (IsAgreed counted v)) → None ≡ common_version counted
unfolding common_version
common_none [] none = refl
common_none (c ∷ counted) none = by (told_stamp c.reply)
  where
    by : (told : Option Stamp) → None ≡ found_by_all told (c ∷ counted)
    by None = refl
    by (Some v) =
        cond_both (all_find v (c ∷ counted)) (Some v) None (λ (z : Option Stamp). None ≡ z)
        (λ is. absurd (none v (record { some = omega arith; all = sym (all_find-finds v (c ∷ counted)) ∙ is })))
        (λ isnt. refl)

common_some : (v : Stamp) (counted : List Counted) → IsAgreed counted v → Some v ≡ common_version counted
unfolding common_version
common_some v [] agreed = absurd (omega (arith, agreed.some))
common_some v (c ∷ counted) agreed =
    sym (ap (λ (told : Option Stamp). found_by_all told (c ∷ counted))
    (found_stamp v c (and_parts (finds v c) (list_all (finds v) counted) agreed.all).0)
    ∙ ap (λ (b : Bool). if b then Some v else None) (all_find-finds v (c ∷ counted) ∙ agreed.all))

pub common_is : (o : Option Stamp) (counted : List Counted) → MatchOption o ((v : Stamp) → ¬ (IsAgreed counted v)) (IsAgreed counted)
    → o ≡ common_version counted
common_is None counted none = common_none counted none
common_is (Some v) counted agreed = common_some v counted agreed

-- a version that all find is found by each reply
found_of_all : (told : Option Stamp) (counted : List Counted) (v : Stamp) → found_by_all told counted ≡ Some v → all_find v counted ≡ true
found_of_all None counted v is = cc
found_of_all (Some u) counted v is =
    cond_both (all_find u counted) (Some u) None (λ (z : Option Stamp). z ≡ Some v → all_find v counted ≡ true)
    (λ all e. let same : u ≡ v = cc in subst (λ (z : Stamp). all_find z counted ≡ true) same all)
    (λ isnt e. cc)
    is

common_found : (counted : List Counted) (v : Stamp) → common_version counted ≡ Some v → all_find v counted ≡ true
unfolding common_version
common_found [] v is = refl
common_found (c ∷ counted) v is = found_of_all (told_stamp c.reply) (c ∷ counted) v is

pub common_at : (j : ℕ) (counted : List Counted) (v : Stamp) → common_version_at j counted ≡ Some v
    → (has_seat j counted ≡ true) × (all_find v counted ≡ true)
unfolding common_version_at
common_at j counted v is =
    cond_both (has_seat j counted) (common_version counted) None
    (λ (z : Option Stamp). z ≡ Some v → (has_seat j counted ≡ true) × (all_find v counted ≡ true))
    (λ has e. (has, common_found counted v e))
    (λ isnt e. cc)
    is
