-- An operation that orders first, and a recovery, close.
use Rattle.std.proofs.Common.{List, arith, length, refl, ℕ, ◌+◌, ◌<◌, ◌≡◌, ◌≤◌, None}
use Rattle.std.specs.Prelude.{◌-◌, ◌^◌}
use Rattle.calm_laws.proofs.BlockWrites.{block_accepted, block_goes, block_ordering}
use Rattle.calm_laws.proofs.Descending.{IsSet, Lore, after_replies, having}
use Rattle.calm_laws.proofs.Finds.{total_below}
use Rattle.calm_laws.proofs.FirstRounds.{IsFirst, not_first, ordering_first, second_stamp}
use Rattle.calm_laws.proofs.OrderPhases.{floor_below, recover_accepted, recover_goes, recover_ordering, write_accepted, write_goes, write_ordering}
use Rattle.calm_laws.proofs.OrderRuns.{IsUnheld, ordering_tame}
use Rattle.calm_laws.proofs.Ordering.{looking}
use Rattle.calm_laws.proofs.PhaseRuns.{Cast}
use Rattle.calm_laws.proofs.Scenes.{Closes, Scene, Stage, sent}
use Rattle.fab_base.specs.declared.stamps.Stamp.{Stamp}
use Rattle.messages.specs.declared.replies.Reply.TheVariants.{Ordered}
use Rattle.messages.specs.declared.requests.Look.TheVariants.{Below}
use Rattle.messages.specs.declared.requests.Version.{Version}
use Rattle.messages.specs.declared.requests.Want.{Want}
use Rattle.protocol.specs.Calms.{early}
use Rattle.protocol.specs.Coordinators.{block_written, reordering}
use Rattle.protocol.specs.Replicas.{written}
use Rattle.protocol.specs.declared.phases.Phase.TheVariants.{Orders, OrdersAt, Recovers}

-- there are fewer versions than phases that can be numbered
abbrev pub AreFew : (stage : Stage) (cast : Cast stage) (logs : ℕ → List Version) → Lore stage cast logs → Type 0
AreFew stage cast logs lore = (bound : Stamp) → total_below logs bound cast.xs + lore.phases + 16 ≤ 2 ^ 32 - 1

module _ (stage : Stage) (cast : Cast stage) (logs : ℕ → List Version) (lore : Lore stage cast logs) (few : AreFew stage cast logs lore) where
  -- a recovery at tame parts
  recover_tame : (s : Scene) → IsSet stage cast logs s → s.c.phase ≡ Recovers → s.c.call.phase ≤ 4 → IsUnheld logs s.c.stamp cast.xs → Closes stage s
  recover_tame s set phase early unheld =
      let low = few s.c.stamp in
      ordering_tame stage cast logs s (looking (Below s.c.stamp) Want.All) (recover_goes stage cast logs lore s)
      (recover_ordering stage cast logs lore s phase) set.open_is (omega (arith, early)) set.later set.tame
      (λ before parts known tame.
      recover_accepted stage cast logs lore s set.open_is.in_view set.later (omega (arith, early, low))
      (floor_below stage cast logs lore s.c.stamp parts tame unheld) set.open_is.others before parts known tame)

  -- a recovery in its first round
  pub recover_first : (s : Scene) → IsFirst stage cast logs s → s.c.phase ≡ Recovers → s.c.call.phase ≤ 3 → IsUnheld logs s.c.stamp cast.xs
      → Closes stage s
  recover_first s first phase early unheld =
      let low = few s.c.stamp in
      ordering_first stage cast logs s (looking (Below s.c.stamp) Want.All) (recover_goes stage cast logs lore s)
      (recover_ordering stage cast logs lore s phase) first (omega (arith, early)) (λ y log. refl)
      (λ before parts known tame.
      recover_accepted stage cast logs lore s first.open_is.in_view (not_first s.c.stamp first.from_one) (omega (arith, early, low))
      (floor_below stage cast logs lore s.c.stamp parts tame unheld) first.open_is.others before parts known tame)
      (λ before parts known counted grows set free.
      recover_tame (sent stage (after_replies stage s known parts first.open_is.others before) (reordering (having s.c counted) (second_stamp stage s.c known)))
      set phase (omega (arith, early)) free)

  -- a stripe write at tame parts
  write_tame : stage.only ≡ None → (s : Scene) → IsSet stage cast logs s → s.c.phase ≡ Orders → s.c.call.phase ≤ 4 → Closes stage s
  write_tame every s set phase early =
      ordering_tame stage cast logs s (λ x log. Ordered) (write_goes stage cast logs lore s)
      (write_ordering stage cast logs lore s every phase) set.open_is (omega (arith, early)) set.later set.tame
      (λ before parts known tame.
      write_accepted stage cast logs lore s set.open_is.in_view (omega (arith, early)) set.open_is.others before parts known tame)

  -- a stripe write
  pub write_first : stage.only ≡ None → (s : Scene) → IsFirst stage cast logs s → s.c.phase ≡ Orders → s.c.call.phase ≤ 3 → Closes stage s
  write_first every s first phase early =
      ordering_first stage cast logs s (λ x log. Ordered) (write_goes stage cast logs lore s)
      (write_ordering stage cast logs lore s every phase) first (omega (arith, early)) (λ y log. refl)
      (λ before parts known tame.
      write_accepted stage cast logs lore s first.open_is.in_view (omega (arith, early)) first.open_is.others before parts known tame)
      (λ before parts known counted grows set free.
      write_tame every (sent stage (after_replies stage s known parts first.open_is.others before) (reordering (having s.c counted) (second_stamp stage s.c known)))
      set phase (omega (arith, early)))

  module _ (deltas : (old new : List ℕ) → length old ≡ stage.setting.layout.block → length new ≡ stage.setting.layout.block
      → length (stage.setting.code.delta old new) ≡ stage.setting.layout.block) (every : stage.only ≡ None) where
    -- a block write at tame parts
    block_tame : (s : Scene) (j : ℕ) → IsSet stage cast logs s → s.c.phase ≡ OrdersAt j → s.c.call.phase ≤ 4 → IsUnheld logs s.c.stamp cast.xs
        → j < stage.group.m → length (block_written s.c.ask.op) ≡ stage.setting.layout.block → Closes stage s
    block_tame s j set phase early unheld below_m written =
        let low = few s.c.stamp in
        ordering_tame stage cast logs s (looking (Below s.c.stamp) (Want.Seat j)) (block_goes stage cast logs lore s j)
        (block_ordering stage cast logs lore s j every phase) set.open_is (omega (arith, early)) set.later set.tame
        (λ before parts known tame.
        block_accepted stage cast logs lore s j every set.open_is.in_view set.later (omega (arith, early, low))
        (floor_below stage cast logs lore s.c.stamp parts tame unheld) unheld below_m written deltas set.open_is.others before parts known tame)

    -- a block write
    pub block_first : (s : Scene) (j : ℕ) → IsFirst stage cast logs s → s.c.phase ≡ OrdersAt j → s.c.call.phase ≤ 3
        → IsUnheld logs s.c.stamp cast.xs → j < stage.group.m → length (block_written s.c.ask.op) ≡ stage.setting.layout.block → Closes stage s
    block_first s j first phase early unheld below_m written =
        let low = few s.c.stamp in
        ordering_first stage cast logs s (looking (Below s.c.stamp) (Want.Seat j)) (block_goes stage cast logs lore s j)
        (block_ordering stage cast logs lore s j every phase) first (omega (arith, early)) (λ y log. refl)
        (λ before parts known tame.
        block_accepted stage cast logs lore s j every first.open_is.in_view (not_first s.c.stamp first.from_one) (omega (arith, early, low))
        (floor_below stage cast logs lore s.c.stamp parts tame unheld) unheld below_m written deltas first.open_is.others before parts known tame)
        (λ before parts known counted grows set free.
        block_tame (sent stage (after_replies stage s known parts first.open_is.others before) (reordering (having s.c counted) (second_stamp stage s.c known))) j
        set phase (omega (arith, early)) free below_m written)
