-- The three phases that order, alone: each closes, in its first round or in its second.
use Rattle.std.proofs.Common.{List, [], ap, arith, false, inl, inr, map, refl, true, ℕ, ◌+◌, ◌<◌, ◌∙◌, ◌∷◌, ◌≡◌, ◌≤◌, None}
use Rattle.std.specs.Prelude.{◌-◌, ◌^◌}
use Rattle.calm_laws.proofs.Asking.{Holds, each_then, each_so}
use Rattle.calm_laws.proofs.Counts.{Carries, counted_of}
use Rattle.calm_laws.proofs.Decided.{order_decides, recover_decides}
use Rattle.calm_laws.proofs.Descending.{are_taking, IsSet, Lore, after_replies, down_phase, having, read_back_goes, told_fits, Ground, IsAbove, all_holders}
use Rattle.calm_laws.proofs.Finds.{Has, finding, some_of, total_below}
use Rattle.protocol_laws.proofs.Logs.{LogAscends}
use Rattle.calm_laws.proofs.OrderRuns.{IsOrdering, IsUnheld, held_below}
use Rattle.calm_laws.proofs.Ordering.{TameWith, looking, order_fits, orders_ask, read_fits, recovers_ask, told_below}
use Rattle.calm_laws.proofs.PhaseRuns.{Cast, IsAfter, next_open}
use Rattle.calm_laws.proofs.Rounds.{order_whole, reads_whole}
use Rattle.calm_laws.proofs.Scenes.{Closes, Each, Part, Scene, Seated, Stage, made, sent, IsInView, view_ahead}
use Rattle.calm_laws.proofs.StorePhases.{store_phase}
use Rattle.fab_base.specs.Stamps.{first_stamp, stamp_below, stamp_same}
use Rattle.fab_base.specs.declared.stamps.Stamp.{Stamp}
use Rattle.messages.specs.declared.replies.Reply.TheVariants.{Later, Ordered}
use Rattle.messages.specs.declared.requests.Look.TheVariants.{Below}
use Rattle.messages.specs.declared.requests.Version.{Version}
use Rattle.messages.specs.declared.requests.Want.{Want}
use Rattle.protocol.specs.Coordinators.{Coordinator, Makes, Next, answers_phase, greatest_found, in_phase, may_be_found, read_back, looks_back, asks_each}
use Rattle.protocol.specs.Replicas.{is_held}
use Rattle.protocol.specs.declared.phases.Counted.{Counted}
use Rattle.protocol.specs.declared.phases.Phase.{Phase}
use Rattle.protocol.specs.declared.phases.Phase.TheVariants.{Descends, Orders, Recovers, Stores}

-- a coordinator goes on to its next phase
pub after_in_phase : (c : Coordinator) → (counted : List Counted) (phase : Phase) → looks_back phase ≡ false
    → IsAfter c (in_phase (having c counted) phase)
after_in_phase c counted phase ahead = record {
  same = record { group = refl; prior = refl; only = refl; boot = refl; seq = refl; of_group = refl; view = refl; stripe = refl };
  ahead = ahead;
  own = view_ahead c.stamp phase ahead;
  later = refl;
  counted = refl;
}

-- the floor is below a stamp that tame parts do not hold
pub floor_below : (stage : Stage) (cast : Cast stage) (logs : ℕ → List Version) (lore : Lore stage cast logs) (t : Stamp) (parts : ℕ → Part)
    → Holds (TameWith stage t logs) parts cast.xs → IsUnheld logs t cast.xs → IsAbove stage cast logs lore.phases lore.ground t
floor_below stage cast logs lore t parts tame unheld = by lore.ground
  where
    by : (ground : Ground stage cast logs lore.phases) → IsAbove stage cast logs lore.phases ground t
    by (inr back) = tt
    by (inl at) =
        go cast.xs (let many = all_holders stage cast logs at in let one = lore.some_block in some_of (λ x. is_held at.floor (logs x.brick.0)) cast.xs (omega (arith, many, one)))
        tame unheld lore.ascends
      where
        go : (ys : List Seated) → Has (λ x. is_held at.floor (logs x.brick.0) ≡ true) ys → Holds (TameWith stage t logs) parts ys → IsUnheld logs t ys
            → Each (λ x. LogAscends (logs x.brick.0)) ys → stamp_below at.floor t ≡ true
        go [] has tame unheld ascends = absurd has
        go (y ∷ ys) (inl held) tame unheld ascends =
            held_below stage t (logs y.brick.0) (parts y.brick.0) tame.0 ascends.0 unheld.0 at.floor held
        go (y ∷ ys) (inr there) tame unheld ascends = go ys there tame.1 unheld.1 ascends.1

-- A phase at tame parts, with a stamp that none of them holds; and phases enough are left.
pub record IsReadyToGo (stage : Stage) (cast : Cast stage) (logs : ℕ → List Version) (s : Scene) : Type 0 where
  pub set : IsSet stage cast logs s
  pub unheld : IsUnheld logs s.c.stamp cast.xs
  pub early : s.c.call.phase + total_below logs s.c.stamp cast.xs + 3 ≤ 2 ^ 32 - 1

module _ (stage : Stage) (cast : Cast stage) (logs : ℕ → List Version) (lore : Lore stage cast logs) (s : Scene) where
  -- a stripe write stores what it was given
  abbrev pub write_goes : List Counted → Next
  write_goes counted = Makes (in_phase (having s.c counted) Stores)

  pub write_ordering : stage.only ≡ None → s.c.phase ≡ Orders → IsOrdering stage cast logs s (λ x log. Ordered) write_goes
  write_ordering every phase = record {
    all = inr every;
    so = order_whole stage s.c (orders_ask stage s.c phase);
    fits = λ x seated. order_fits stage s.c s.c.stamp x (orders_ask stage s.c phase x);
    answers = each_so (λ (x : Seated). answers_phase stage.setting.layout.block s.c.stamp x.seat s.c.phase Ordered ≡ true)
        (λ x. ap (λ (p : Phase). answers_phase stage.setting.layout.block s.c.stamp x.seat p Ordered) phase) cast.xs;
    answers_later = λ x t. ap (λ (p : Phase). answers_phase stage.setting.layout.block s.c.stamp x.seat p (Later t)) phase;
    unfull = λ x log. refl;
    unmoved = λ x log. refl;
    undropped = λ x log. refl;
    unrefused = λ x log. refl;
    decides_so = λ fresh counted roomy.
        order_decides stage.setting.layout.block stage.setting.code fresh (having s.c counted) roomy phase;
  }

  pub write_accepted : IsInView stage s.c → s.c.call.phase + 1 < 2 ^ 32 - 1 → (others : List Seated) (before parts : ℕ → Part) (known : ℕ)
      → Holds (TameWith stage s.c.stamp logs) parts cast.xs
      → Carries stage (after_replies stage s known parts others before) (write_goes (map (counted_of (λ x. Ordered)) cast.xs))
  write_accepted in_view early others before parts known tame = (
    record { group = refl; prior = refl; only = refl; boot = refl; seq = refl; of_group = refl; view = refl; stripe = refl },
    store_phase stage cast
        (made stage (after_replies stage s known parts others before) (in_phase (having s.c (map (counted_of (λ x. Ordered)) cast.xs)) Stores))
        (next_open stage cast s.c (in_phase (having s.c (map (counted_of (λ x. Ordered)) cast.xs)) Stores) others before
        (made stage (after_replies stage s known parts others before) (in_phase (having s.c (map (counted_of (λ x. Ordered)) cast.xs)) Stores)) in_view
        (after_in_phase s.c (map (counted_of (λ x. Ordered)) cast.xs) Stores refl) refl refl)
        refl early (λ x seated. lore.encodes s.c.group.m s.c.content x.seat)
        (are_taking stage s.c.stamp logs parts cast.xs lore.ascends tame),
  )

  -- a recovery reads back what it finds
  abbrev pub recover_goes : List Counted → Next
  recover_goes counted = read_back stage.setting.layout.block stage.setting.code (having s.c counted) (greatest_found counted)

  pub recover_ordering : s.c.phase ≡ Recovers
      → IsOrdering stage cast logs s (looking (Below s.c.stamp) Want.All) recover_goes
  recover_ordering phase = record {
    all = inl (ap (λ (p : Phase). asks_each p) phase);
    so = reads_whole stage s.c (Below s.c.stamp) Want.All (recovers_ask stage s.c phase);
    fits = λ x seated. read_fits stage s.c s.c.stamp (Below s.c.stamp) Want.All x (recovers_ask stage s.c phase x);
    answers = each_then (λ (x : Seated). may_be_found stage.setting.layout.block s.c.stamp (told_below logs s.c.stamp Want.All x) ≡ true)
        (λ (x : Seated). answers_phase stage.setting.layout.block s.c.stamp x.seat s.c.phase
        (finding (told_below logs s.c.stamp Want.All) x) ≡ true) cast.xs
        (λ x fits. ap (λ (p : Phase). answers_phase stage.setting.layout.block s.c.stamp x.seat p
        (finding (told_below logs s.c.stamp Want.All) x)) phase ∙ fits)
        (told_fits stage.setting.layout.block logs cast.xs s.c.stamp Want.All lore.blocks);
    answers_later = λ x t. ap (λ (p : Phase). answers_phase stage.setting.layout.block s.c.stamp x.seat p (Later t)) phase;
    unfull = λ x log. refl;
    unmoved = λ x log. refl;
    undropped = λ x log. refl;
    unrefused = λ x log. refl;
    decides_so = λ fresh counted roomy.
        recover_decides stage.setting.layout.block stage.setting.code fresh (having s.c counted) roomy phase;
  }

  -- below the bound where it looks next it closes
  pub lower_closes : IsInView stage s.c → stamp_same s.c.stamp first_stamp ≡ false
      → s.c.call.phase + total_below logs s.c.stamp cast.xs + lore.phases + 4 ≤ 2 ^ 32 - 1
      → (others : List Seated) (before parts : ℕ → Part) (known : ℕ) (counted : List Counted) (v : Stamp)
      → Holds (TameWith stage s.c.stamp logs) parts cast.xs → IsAbove stage cast logs lore.phases lore.ground v
      → total_below logs v cast.xs ≤ total_below logs s.c.stamp cast.xs
      → Closes stage (sent stage (after_replies stage s known parts others before) (in_phase (having s.c counted) (Descends v)))
  lower_closes in_view later early others before parts known counted v tame above few =
      down_phase stage cast logs lore (total_below logs s.c.stamp cast.xs)
      (sent stage (after_replies stage s known parts others before) (in_phase (having s.c counted) (Descends v))) v
      (record {
        open_is = next_open stage cast s.c (in_phase (having s.c counted) (Descends v)) others before
            (sent stage (after_replies stage s known parts others before) (in_phase (having s.c counted) (Descends v))) in_view
            (after_in_phase s.c counted (Descends v) refl) refl refl;
        tame = tame;
        later = later;
      })
      refl above few (omega (arith, early))

  pub recover_accepted : IsInView stage s.c → stamp_same s.c.stamp first_stamp ≡ false
      → s.c.call.phase + total_below logs s.c.stamp cast.xs + lore.phases + 4 ≤ 2 ^ 32 - 1 → IsAbove stage cast logs lore.phases lore.ground s.c.stamp
      → (others : List Seated) (before parts : ℕ → Part) (known : ℕ) → Holds (TameWith stage s.c.stamp logs) parts cast.xs
      → Carries stage (after_replies stage s known parts others before)
      (recover_goes (map (counted_of (λ x. looking (Below s.c.stamp) Want.All x (logs x.brick.0))) cast.xs))
  recover_accepted in_view later early above others before parts known tame =
      read_back_goes stage cast logs lore s in_view s.c.stamp Want.All above cast.xs (inl refl) others before parts known tame later (omega (arith, early))
      (λ v over falls. lower_closes in_view later early others before parts known
      (map (counted_of (finding (told_below logs s.c.stamp Want.All))) cast.xs) v tame over (omega (arith, falls)))
