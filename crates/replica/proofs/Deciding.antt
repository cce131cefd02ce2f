-- What a member decides, by the greater of its order stamp and the newest version's.
use Rattle.std.proofs.Common.{◌≡◌, Bool, true, false, not, ◌&&◌, ◌||◌, cond, Option, Some, None, List, [], ◌∷◌, refl, sym, ap, ◌∙◌}
use Rattle.std.proofs.Common.{ℕ}
use Rattle.fab_base.specs.declared.stamps.Stamp.{Stamp}
use Rattle.fab_base.specs.Stamps.{stamp_below, stamp_same, first_stamp}
use Rattle.fab_base.proofs.StampOrder.{stamp_below_asym, stamp_not_below_trans, stamp_neither_below, stamp_same_refl, stamp_same_true}
use Rattle.messages.specs.declared.requests.Version.{Version}
use Rattle.messages.specs.declared.replies.Reply.{Reply}
use Rattle.version_log.specs.Versions.{Version as Kept, newest}
use Rattle.messages.specs.declared.replies.Reply.TheVariants.{Stored, Later}
use Rattle.protocol.specs.Settings.{Code}
use Rattle.protocol.specs.Replicas.{Replica, Reaction, newest_of, is_held, top_of, stamp_max, stays, promised, stored, written, modified, modified_on, unless_full}
use Rattle.replica.specs.Parts.{part_of}
use Rattle.replica.specs.Plans.{settled_reply, IsAboveNewest}
use Rattle.replica.proofs.Logs.{newest_seen}

differ : {A : Type 0} → false ≡ true → A
differ h = absurd cc

-- ---- the top

abbrev pub top_with : Stamp → Option Kept → Stamp
top_with order None = order
top_with order (Some v) = stamp_max order v.stamp

pub top_is : (order : Stamp) (log : List Kept) (start : Bool) (found : Option Kept) → found ≡ newest log
    → top_of (part_of order log start) ≡ top_with order found
unfolding top_of
top_is order log start None is = rw (newest_seen log, ← is) refl
top_is order log start (Some v) is = rw (newest_seen log, ← is) refl

-- what is not below the top is not below the order stamp
pub not_below_order : (part : Replica) (t : Stamp) → stamp_below t (top_of part) ≡ false → stamp_below t part.order ≡ false
unfolding top_of
not_below_order part t h = by (newest_of part.log) refl
  where
    max_of : (b : Bool) (v : Version) → stamp_below part.order v.stamp ≡ b → stamp_below t (cond b v.stamp part.order) ≡ false
        → stamp_below t part.order ≡ false
    max_of true v at h' = stamp_not_below_trans part.order v.stamp t (stamp_below_asym part.order v.stamp at) h'
    max_of false v at h' = h'

    by : (found : Option Version) → newest_of part.log ≡ found → stamp_below t part.order ≡ false
    by None at = rw at at h
    by (Some v) at = max_of (stamp_below part.order v.stamp) v refl (rw at at h)

-- nor below the newest version
not_below_newest : (part : Replica) (t : Stamp) (v : Version) → newest_of part.log ≡ Some v → stamp_below t (top_of part) ≡ false
    → stamp_below t v.stamp ≡ false
unfolding top_of
not_below_newest part t v at h = max_of (stamp_below part.order v.stamp) refl (rw at at h)
  where
    max_of : (b : Bool) → stamp_below part.order v.stamp ≡ b → stamp_below t (cond b v.stamp part.order) ≡ false → stamp_below t v.stamp ≡ false
    max_of true above h' = h'
    max_of false above h' = stamp_not_below_trans v.stamp part.order t above h'

-- the newest version is not of a stamp that is not held
newest_other : (t : Stamp) (log : List Version) (v : Version) → is_held t log ≡ false → newest_of log ≡ Some v → stamp_same v.stamp t ≡ false
newest_other t [] v held at = absurd cc
newest_other t (w ∷ []) v held at = by (stamp_same w.stamp t) refl held
  where
    some_same : {a b : Version} → Some a ≡ Some b → a ≡ b
    some_same e = cc

    by : (b : Bool) → stamp_same w.stamp t ≡ b → (b || false) ≡ false → stamp_same v.stamp t ≡ false
    by true is h = differ (sym h)
    by false is h = ap (λ (x : Version). stamp_same x.stamp t) (sym (some_same at)) ∙ is
newest_other t (w ∷ x ∷ log) v held at = newest_other t (x ∷ log) v (by (stamp_same w.stamp t) held) at
  where
    by : (b : Bool) → (b || is_held t (x ∷ log)) ≡ false → is_held t (x ∷ log) ≡ false
    by true h = differ (sym h)
    by false h = h

-- a version that is not held, and not below the top, is above the newest
pub above_newest : (part : Replica) (t : Stamp) → is_held t part.log ≡ false → stamp_below t (top_of part) ≡ false → IsAboveNewest part.log t
above_newest part t held h v at = by (stamp_below v.stamp t) refl
  where
    by : (b : Bool) → stamp_below v.stamp t ≡ b → stamp_below v.stamp t ≡ true
    by true is = is
    by false is =
        let same : v.stamp ≡ t = stamp_neither_below v.stamp t is (not_below_newest part t v at h) in
        differ (sym (newest_other t part.log v held at) ∙ ap (λ (u : Stamp). stamp_same u t) same ∙ stamp_same_refl t)

-- ---- a request to store a version

-- one that is settled is answered at once
abbrev pub unless_settled : Replica → Option Reply → Reaction → Reaction
unless_settled part None reaction = reaction
unless_settled part (Some reply) reaction = stays part reply

settled_first : (held late : Bool) (part : Replica) (reaction : Reaction)
    → cond held (stays part Stored) (cond late (stays part (Later (top_of part))) reaction)
    ≡ unless_settled part (cond held (Some Stored) (cond late (Some (Later (top_of part))) None)) reaction
settled_first true late part reaction = refl
settled_first false true part reaction = refl
settled_first false false part reaction = refl

-- and another is stored, where there is room
pub written_is : (full : Option ℕ) (part : Replica) (t : Stamp) (block : List ℕ)
    → written full part t block ≡ unless_settled part (settled_reply part t) (unless_full full part (stored part t block))
written_is full part t block =
    settled_first (is_held t part.log) (stamp_below t (top_of part)) part (unless_full full part (stored part t block))

-- or as its base says
pub modified_is : (code : Code) (m : ℕ) (full : Option ℕ) (seat : ℕ) (part : Replica) (t base : Stamp) (j : ℕ) (delta : List ℕ)
    → modified code m full seat part t base j delta
    ≡ unless_settled part (settled_reply part t) (modified_on code m full seat part t base j delta (newest_of part.log))
modified_is code m full seat part t base j delta =
    settled_first (is_held t part.log) (stamp_below t (top_of part)) part (modified_on code m full seat part t base j delta (newest_of part.log))

-- what is not below another stamp, and not the same, is above it
pub above_order : (order t : Stamp) → stamp_below t order ≡ false → stamp_same order t ≡ false → stamp_below order t ≡ true
above_order order t h other = by (stamp_below order t) refl
  where
    by : (b : Bool) → stamp_below order t ≡ b → stamp_below order t ≡ true
    by true is = is
    by false is = differ (sym other ∙ ap (λ (u : Stamp). stamp_same u t) (stamp_neither_below order t is h) ∙ stamp_same_refl t)

-- ---- a promise that is kept already

unless_stays : (full : Option ℕ) (part : Replica) (reply : Reply) → unless_full full part (stays part reply) ≡ stays part reply
unless_stays None part reply = refl
unless_stays (Some live) part reply = refl

and_not : (b : Bool) → (b && not b) ≡ false
and_not true = refl
and_not false = refl

pub promised_again : (full : Option ℕ) (part : Replica) (t : Stamp) (reply : Reply) → stamp_same part.order t ≡ true
    → stays part reply ≡ unless_full full part (promised part t reply)
promised_again full part t reply same =
    sym (ap (unless_full full part) (ap promise (sym (stamp_same_true part.order t same)) ∙ ap adding (and_not (stamp_same part.order first_stamp)))
    ∙ unless_stays full part reply)
  where
    promise : Stamp → Reaction
    promise o = promised part o reply

    adding : Bool → Reaction
    adding b = record { replica = part; reply = Some reply; adds = cond b 1 0; drops = 0 }
