-- Parts that take what the coordinator asks: they have come to nothing above its stamp, and have room.
use Rattle.std.proofs.Common.{Bool, List, None, Option, Some, ap, arith, cond, false, inl, inr, not, refl, subst, sym, true, ℕ, ⊎_elim, ◌&&◌, ◌+◌, ◌∙◌, ◌≡◌, ◌≤◌, ◌⊎◌}
use Rattle.std.proofs.lemmas.Bool.{cond_both, ne_eqb}
use Rattle.std.specs.Prelude.{nat_eq, ◌-◌}
use Rattle.calm_laws.proofs.Scenes.{Part, Stage}
use Rattle.fab_base.proofs.StampOrder.{stamp_below_asym, stamp_below_irrefl, stamp_not_below_trans}
use Rattle.fab_base.specs.Stamps.{first_stamp, stamp_below, stamp_same}
use Rattle.fab_base.specs.declared.stamps.Stamp.{Stamp}
use Rattle.messages.specs.declared.replies.Reply.{Reply}
use Rattle.messages.specs.declared.replies.Reply.TheVariants.{Later, Ordered, OrderedRead}
use Rattle.messages.specs.declared.requests.Look.{Look}
use Rattle.messages.specs.declared.requests.Version.{Version}
use Rattle.protocol.specs.Nodes.{full_at}
use Rattle.protocol.specs.Replicas.{Replica, looked_up, newest_of, order_read, ordered, promised, stamp_max, stays, told_version, top_of, unless_full}

-- room for two records; or for one, where the order is there already
abbrev pub Room : Stage → Part → Type 0
Room stage part =
    (part.live + 2 ≤ stage.setting.layout.records)
    ⊎ ((part.live + 1 ≤ stage.setting.layout.records) × (stamp_same part.replica.order first_stamp ≡ false))

-- then the store is not full
pub not_full : (stage : Stage) (part : Part) → Room stage part → full_at stage.setting.layout.records part.live ≡ None
not_full stage part room =
    let other : nat_eq part.live stage.setting.layout.records ≡ false = ⊎_elim
    (λ (two : part.live + 2 ≤ stage.setting.layout.records). ne_eqb part.live stage.setting.layout.records (omega arith))
    (λ (one : (part.live + 1 ≤ stage.setting.layout.records) × (stamp_same part.replica.order first_stamp ≡ false)).
    ne_eqb part.live stage.setting.layout.records (omega (arith, one.0)))
    room in
    ap (λ (b : Bool). cond b (Some part.live) None) other

-- a part with this log, that has come to nothing above t
pub record IsTame (stage : Stage) (t : Stamp) (log : List Version) (part : Part) : Type 0 where
  pub log_is : part.replica.log ≡ log
  pub tame : stamp_below t (top_of part.replica) ≡ false
  pub room : Room stage part

-- the greater of two stamps is at least each
pub max_left : (a b : Stamp) → stamp_below (stamp_max a b) a ≡ false
max_left a b = cond_both (stamp_below a b) b a (λ (z : Stamp). stamp_below z a ≡ false)
    (λ less. stamp_below_asym a b less) (λ not_less. stamp_below_irrefl a)

pub max_right : (a b : Stamp) → stamp_below (stamp_max a b) b ≡ false
max_right a b = cond_both (stamp_below a b) b a (λ (z : Stamp). stamp_below z b ≡ false)
    (λ less. stamp_below_irrefl b) (λ not_less. not_less)

-- the top of a part, by its newest version
top_with : Stamp → Option Version → Stamp
top_with order None = order
top_with order (Some version) = stamp_max order version.stamp

top_is : (replica : Replica) → top_of replica ≡ top_with replica.order (newest_of replica.log)
unfolding top_of top_with
top_is replica = go (newest_of replica.log) refl
  where
    go : (z : Option Version) → newest_of replica.log ≡ z → top_of replica ≡ top_with replica.order (newest_of replica.log)
    go None is = rw is refl
    go (Some version) is = rw is refl

-- what has come to nothing above t keeps nothing above t
pub newest_within : (t : Stamp) (replica : Replica) (version : Version) → stamp_below t (top_of replica) ≡ false
    → newest_of replica.log ≡ Some version → stamp_below t version.stamp ≡ false
unfolding top_with
newest_within t replica version tame newest =
    stamp_not_below_trans version.stamp (stamp_max replica.order version.stamp) t (max_right replica.order version.stamp)
    (subst (λ (z : Stamp). stamp_below t z ≡ false) (top_is replica ∙ ap (λ (z : Option Version). top_with replica.order z) newest) tame)

-- once it promised t, its top is t
promised_top : (t : Stamp) (replica : Replica) → stamp_below t (top_of replica) ≡ false
    → top_of (record replica { order = t }) ≡ t
unfolding top_with
promised_top t replica tame = go (newest_of replica.log) refl
  where
    go : (z : Option Version) → newest_of replica.log ≡ z → top_of (record replica { order = t }) ≡ t
    go None is = top_is (record replica { order = t }) ∙ ap (λ (z : Option Version). top_with t z) is
    go (Some version) is =
        top_is (record replica { order = t }) ∙ ap (λ (z : Option Version). top_with t z) is
        ∙ ap (λ (b : Bool). cond b version.stamp t) (newest_within t replica version tame is)

-- a promise takes one record at most, and none where an order was there
adds_most : (b : Bool) → cond b 1 0 ≤ 1
adds_most true = omega arith
adds_most false = omega arith

promised_room : (stage : Stage) (t : Stamp) (reply : Reply) (part : Part) → stamp_same t first_stamp ≡ false → Room stage part
    → Room stage (record {
      replica = (promised part.replica t reply).replica;
      live = part.live + (promised part.replica t reply).adds - (promised part.replica t reply).drops;
    })
promised_room stage t reply part later (inl two) =
    inr (omega (arith, adds_most (stamp_same part.replica.order first_stamp && not (stamp_same t first_stamp))), later)
promised_room stage t reply part later (inr one) =
    let none : (promised part.replica t reply).adds ≡ 0 = ap (λ (b : Bool). cond (b && not (stamp_same t first_stamp)) 1 0) one.1 in
    inr (omega (arith, none, one.0), later)

-- a promise keeps a part tame
pub promised_tame : (stage : Stage) (t : Stamp) (log : List Version) (reply : Reply) (part : Part) → stamp_same t first_stamp ≡ false
    → IsTame stage t log part
    → IsTame stage t log (record {
      replica = (promised part.replica t reply).replica;
      live = part.live + (promised part.replica t reply).adds - (promised part.replica t reply).drops;
    })
promised_tame stage t log reply part later is = record {
  log_is = is.log_is;
  tame = subst (λ (z : Stamp). stamp_below t z ≡ false) (sym (promised_top t part.replica is.tame)) (stamp_below_irrefl t);
  room = promised_room stage t reply part later is.room;
}

-- what is not above t promises t
pub order_accepts : (t : Stamp) (full : Option ℕ) (replica : Replica) → stamp_below t (top_of replica) ≡ false → full ≡ None
    → ordered full replica t ≡ promised replica t Ordered
order_accepts t full replica tame roomy =
    ap (λ (b : Bool). cond b (stays replica (Later (top_of replica))) (unless_full full replica (promised replica t Ordered))) tame
    ∙ ap (λ (z : Option ℕ). unless_full z replica (promised replica t Ordered)) roomy

pub order_read_accepts : (t : Stamp) (full : Option ℕ) (replica : Replica) (look : Look) (wanted : Bool) → stamp_below t (top_of replica) ≡ false
    → full ≡ None
    → order_read full replica t look wanted ≡ promised replica t (OrderedRead (told_version wanted (looked_up look replica.log)))
order_read_accepts t full replica look wanted tame roomy =
    ap (λ (b : Bool). cond b (stays replica (Later (top_of replica)))
    (unless_full full replica (promised replica t (OrderedRead (told_version wanted (looked_up look replica.log)))))) tame
    ∙ ap (λ (z : Option ℕ). unless_full z replica (promised replica t (OrderedRead (told_version wanted (looked_up look replica.log))))) roomy
