-- A block write whose quorum finds one version: it is the newest at each member, so the write modifies it.
use Rattle.std.proofs.Common.{Bool, List, None, Option, Some, [], ap, arith, cond, false, length, map, refl, subst, sym, true, ℕ, ⊎_elim, ◌+◌, ◌<◌, ◌||◌, ◌∙◌, ◌∷◌, ◌≡◌, ◌≤◌, inr}
use Rattle.std.proofs.lemmas.Bool.{and_parts, cases_Bool, cond_both, eq-eqb, eqb-true, false≢true, or_left, or_right}
use Rattle.std.proofs.lemmas.Option.{same_Some}
use Rattle.std.specs.Prelude.{nat_eq, slice_get, ◌-◌, ◌^◌}
use Rattle.calm_laws.proofs.Asking.{Holds, each_then}
use Rattle.calm_laws.proofs.Counts.{Carries, counted_of}
use Rattle.calm_laws.proofs.Decided.{order_at_decides}
use Rattle.calm_laws.proofs.Descending.{Lore, after_replies, having, told_fits, IsAbove}
use Rattle.calm_laws.proofs.Finds.{finding, total_below}
use Rattle.protocol_laws.proofs.Logs.{LogAscends}
use Rattle.calm_laws.proofs.OrderPhases.{lower_closes}
use Rattle.calm_laws.proofs.OrderRuns.{IsOrdering, IsUnheld, held_below}
use Rattle.calm_laws.proofs.Ordering.{TameWith, looking, orders_at_ask, read_fits, told_below, told_facts}
use Rattle.calm_laws.proofs.PhaseRuns.{Cast, next_open}
use Rattle.calm_laws.proofs.Rounds.{reads_whole}
use Rattle.calm_laws.proofs.Scenes.{Each, Part, Scene, Seated, Stage, made, IsInView}
use Rattle.calm_laws.proofs.StorePhases.{AreOn, modify_phase}
use Rattle.fab_base.proofs.StampOrder.{stamp_same_refl, stamp_same_true}
use Rattle.fab_base.specs.Stamps.{first_stamp, stamp_below, stamp_same}
use Rattle.fab_base.specs.declared.stamps.Stamp.{Stamp}
use Rattle.messages.specs.declared.replies.Reply.TheVariants.{Later, OrderedRead}
use Rattle.messages.specs.declared.requests.Look.TheVariants.{Below}
use Rattle.messages.specs.declared.requests.Version.{Version}
use Rattle.messages.specs.declared.requests.Want.{Want}
use Rattle.protocol.specs.Calms.{early}
use Rattle.protocol.specs.Coordinators.{Next, all_find, answers_phase, block_written, bytes_at, bytes_of, common_version, common_version_at, finds, found_by_all, has_seat, may_be_found, modified_if, modifying, told_stamp}
use Rattle.protocol.specs.Replicas.{below, is_held, newest_of, written}
use Rattle.protocol.specs.declared.phases.Counted.{Counted}
use Rattle.protocol.specs.declared.phases.Phase.{Phase}
use Rattle.protocol.specs.declared.phases.Phase.TheVariants.{OrdersAt}

-- a log of which all is below a bound
pub below_whole : (bound : Stamp) (log : List Version) → ((d : Stamp) → is_held d log ≡ true → stamp_below d bound ≡ true) → below bound log ≡ log
below_whole bound [] all = refl
below_whole bound (x ∷ log) all =
    ap (λ (b : Bool). cond b (x ∷ below bound log) (below bound log))
    (all x.stamp (or_left (stamp_same x.stamp x.stamp) (is_held x.stamp log) (stamp_same_refl x.stamp)))
    ∙ ap (λ (l : List Version). x ∷ l) (below_whole bound log (λ d held. all d (or_right (stamp_same x.stamp d) (is_held d log) held)))

-- the version that all find, where the seat has replied
common_parts : (j : ℕ) (counted : List Counted) (v : Stamp) → common_version_at j counted ≡ Some v
    → (has_seat j counted ≡ true) × (common_version counted ≡ Some v)
unfolding common_version_at
common_parts j counted v is =
    cond_both (has_seat j counted) (common_version counted) None
    (λ (z : Option Stamp). z ≡ Some v → (has_seat j counted ≡ true) × (common_version counted ≡ Some v))
    (λ has e. (has, e)) (λ isnt e. cc) is

found_by : (z : Option Stamp) (counted : List Counted) (v : Stamp) → found_by_all z counted ≡ Some v → all_find v counted ≡ true
found_by None counted v is = cc
found_by (Some u) counted v is =
    cond_both (all_find u counted) (Some u) None (λ (z : Option Stamp). z ≡ Some v → all_find v counted ≡ true)
    (λ all e. subst (λ (w : Stamp). all_find w counted ≡ true) (same_Some u v e) all) (λ isnt e. cc) is

common_found : (counted : List Counted) (v : Stamp) → common_version counted ≡ Some v → all_find v counted ≡ true
unfolding common_version
common_found [] v is = cc
common_found (c ∷ counted) v is = found_by (told_stamp c.reply) (c ∷ counted) v is

-- a member finds this version
abbrev pub FindsIt : (Seated → Option Version) → Stamp → Seated → Type 0
FindsIt g v x = (version : Version) × (g x ≡ Some version) × (version.stamp ≡ v)

each_finds : (g : Seated → Option Version) (v : Stamp) (xs : List Seated) → all_find v (map (counted_of (finding g)) xs) ≡ true
    → Each (FindsIt g v) xs
each_finds g v [] all = tt
each_finds g v (x ∷ xs) all =
    let parts = and_parts (finds v (counted_of (finding g) x)) (all_find v (map (counted_of (finding g)) xs)) all in
    (one (g x) refl parts.0, each_finds g v xs parts.1)
  where
    one : (z : Option Version) → g x ≡ z → finds v (record { seat = x.seat; brick = x.brick; reply = OrderedRead (g x) }) ≡ true → FindsIt g v x
    one None is found =
        absurd (false≢true (ap (λ (z : Option Version). finds v (record { seat = x.seat; brick = x.brick; reply = OrderedRead z })) (sym is) ∙ found))
    one (Some version) is found = (
      version,
      is,
      stamp_same_true version.stamp v
          (ap (λ (z : Option Version). finds v (record { seat = x.seat; brick = x.brick; reply = OrderedRead z })) (sym is) ∙ found),
    )

module _ (stage : Stage) (cast : Cast stage) (logs : ℕ → List Version) (lore : Lore stage cast logs) (s : Scene) (j : ℕ) where
  abbrev look : Seated → Option Version
  look = told_below logs s.c.stamp (Want.Seat j)

  abbrev looked : List Counted
  looked = map (counted_of (finding look)) cast.xs

  -- the bytes that the block's seat tells are a block
  bytes_long : (v : Stamp) (ys : List Seated) → Each (FindsIt look v) ys
      → Each (λ x. (k : ℕ) (version : Version) → slice_get (logs x.brick.0) k ≡ Some version → length version.block ≡ stage.setting.layout.block) ys
      → has_seat j (map (counted_of (finding look)) ys) ≡ true
      → length (bytes_at j (map (counted_of (finding look)) ys)) ≡ stage.setting.layout.block
  bytes_long v [] found long has = absurd (false≢true has)
  bytes_long v (y ∷ ys) found long has = ⊎_elim
      (λ (here : nat_eq y.seat j ≡ true).
      let told = told_facts logs s.c.stamp (Want.Seat j) y found.0.0 found.0.1 in
      let wanted : nat_eq j y.seat ≡ true = eq-eqb j y.seat (sym (eqb-true y.seat j here)) in
      ap (λ (b : Bool). length (cond b (bytes_of (look y)) (bytes_at j (map (counted_of (finding look)) ys)))) here
      ∙ ap (λ (z : Option Version). length (bytes_of z)) found.0.1
      ∙ ap (λ (l : List ℕ). length l) told.block_is
      ∙ ap (λ (b : Bool). length (cond b told.inner.block [])) wanted
      ∙ long.0 told.facts.place told.inner told.facts.stands)
      (λ (other : nat_eq y.seat j ≡ false).
      ap (λ (b : Bool). length (cond b (bytes_of (look y)) (bytes_at j (map (counted_of (finding look)) ys)))) other
      ∙ bytes_long v ys found.1 long.1
      (ap (λ (b : Bool). b || has_seat j (map (counted_of (finding look)) ys)) (sym other) ∙ has))
      (cases_Bool (nat_eq y.seat j))

  -- what all find is the newest version at each
  newest_so : (v : Stamp) (parts : ℕ → Part) (ys : List Seated) → Each (FindsIt look v) ys → Holds (TameWith stage s.c.stamp logs) parts ys
      → IsUnheld logs s.c.stamp ys → Each (λ x. LogAscends (logs x.brick.0)) ys → AreOn stage s.c.stamp v parts ys
  newest_so v parts [] found tame unheld ascends = tt
  newest_so v parts (y ∷ ys) found tame unheld ascends =
      let told = told_facts logs s.c.stamp (Want.Seat j) y found.0.0 found.0.1 in
      let whole : below s.c.stamp (logs y.brick.0) ≡ logs y.brick.0
      = below_whole s.c.stamp (logs y.brick.0) (held_below stage s.c.stamp (logs y.brick.0) (parts y.brick.0) tame.0 ascends.0 unheld.0) in (
        (
          tame.0.tame,
          tame.0.room,
          subst (λ (l : List Version). LogAscends l) (sym tame.0.log_is) ascends.0,
          (
            told.inner,
            ap (λ (l : List Version). newest_of l) (tame.0.log_is ∙ sym whole) ∙ told.newest,
            told.stamp_is ∙ found.0.2,
          ),
        ),
        newest_so v parts ys found.1 tame.1 unheld.1 ascends.1,
      )

  abbrev pub block_goes : List Counted → Next
  block_goes counted = modified_if stage.setting.code (having s.c counted) j (common_version_at j counted)

  pub block_ordering : stage.only ≡ None → s.c.phase ≡ OrdersAt j
      → IsOrdering stage cast logs s (looking (Below s.c.stamp) (Want.Seat j)) block_goes
  block_ordering every phase = record {
    all = inr every;
    so = reads_whole stage s.c (Below s.c.stamp) (Want.Seat j) (orders_at_ask stage s.c j phase);
    fits = λ x seated. read_fits stage s.c s.c.stamp (Below s.c.stamp) (Want.Seat j) x (orders_at_ask stage s.c j phase x);
    answers = each_then (λ (x : Seated). may_be_found (cond (nat_eq j x.seat) stage.setting.layout.block 0) s.c.stamp (look x) ≡ true)
        (λ (x : Seated). answers_phase stage.setting.layout.block s.c.stamp x.seat s.c.phase (finding look x) ≡ true) cast.xs
        (λ x fits. ap (λ (p : Phase). answers_phase stage.setting.layout.block s.c.stamp x.seat p (finding look x)) phase ∙ fits)
        (told_fits stage.setting.layout.block logs cast.xs s.c.stamp (Want.Seat j) lore.blocks);
    answers_later = λ x t. ap (λ (p : Phase). answers_phase stage.setting.layout.block s.c.stamp x.seat p (Later t)) phase;
    unfull = λ x log. refl;
    unmoved = λ x log. refl;
    undropped = λ x log. refl;
    unrefused = λ x log. refl;
    decides_so = λ fresh counted roomy.
        order_at_decides stage.setting.layout.block stage.setting.code fresh (having s.c counted) roomy j phase;
  }

  pub block_accepted : stage.only ≡ None → IsInView stage s.c → stamp_same s.c.stamp first_stamp ≡ false
      → s.c.call.phase + total_below logs s.c.stamp cast.xs + lore.phases + 4 ≤ 2 ^ 32 - 1 → IsAbove stage cast logs lore.phases lore.ground s.c.stamp
      → IsUnheld logs s.c.stamp cast.xs → j < stage.group.m → length (block_written s.c.ask.op) ≡ stage.setting.layout.block
      → ((old new : List ℕ) → length old ≡ stage.setting.layout.block → length new ≡ stage.setting.layout.block
      → length (stage.setting.code.delta old new) ≡ stage.setting.layout.block)
      → (others : List Seated) (before parts : ℕ → Part) (known : ℕ) → Holds (TameWith stage s.c.stamp logs) parts cast.xs
      → Carries stage (after_replies stage s known parts others before) (block_goes looked)
  block_accepted every in_view later early above unheld below_m written deltas others before parts known tame =
      go (common_version_at j looked) refl
    where
      go : (z : Option Stamp) → common_version_at j looked ≡ z
          → Carries stage (after_replies stage s known parts others before) (modified_if stage.setting.code (having s.c looked) j z)
      go None is = (
        record { group = refl; prior = refl; only = refl; boot = refl; seq = refl; of_group = refl; view = refl; stripe = refl },
        lower_closes stage cast logs lore s in_view later early others before parts known looked s.c.stamp tame above (omega arith),
      )
      go (Some v) is =
          let common = common_parts j looked v is in
          let found = each_finds look v cast.xs (common_found looked v common.1) in (
            record { group = refl; prior = refl; only = refl; boot = refl; seq = refl; of_group = refl; view = refl; stripe = refl },
            modify_phase stage cast (made stage (after_replies stage s known parts others before) (modifying stage.setting.code (having s.c looked) v j)) v j every
                (next_open stage cast s.c (modifying stage.setting.code (having s.c looked) v j) others before
                (made stage (after_replies stage s known parts others before) (modifying stage.setting.code (having s.c looked) v j)) in_view
                (record {
                  same = record { group = refl; prior = refl; only = refl; boot = refl; seq = refl; of_group = refl; view = refl; stripe = refl };
                  ahead = refl;
                  own = refl;
                  later = refl;
                  counted = refl;
                })
                refl refl)
                refl (omega (arith, early)) below_m
                (deltas (bytes_at j looked) (block_written s.c.ask.op) (bytes_long v cast.xs found lore.blocks common.0) written)
                (newest_so v parts cast.xs found tame unheld lore.ascends),
          )
