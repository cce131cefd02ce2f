-- What the further lines of a run cannot undo: laws of an earlier world of the run and a later one. And what holds of the views of a world.
use Rattle.std.specs.Prelude.{◌≡◌, ℕ, Some}
use Rattle.fab_base.specs.declared.stamps.Stamp.{Stamp}
use Rattle.fab_base.specs.Layouts.{Layout, Group}
use Rattle.protocol.specs.Views.{view_of, group_in, views_in}
use Rattle.protocol.specs.Worlds.{World}
use Rattle.view_laws.specs.Ends.{ProposalsShowIn}
use Rattle.view_laws.specs.Successors.{OneSuccessorIn, NamesAreChosenIn, ChoicesHoldIn, StaysClosed}
use Rattle.view_laws.specs.Syncs.{SyncsAreSaidIn}
use Rattle.protocol_laws.specs.Laws.{NeverFalls, AddsNothingBelow, OrdersRise, IsLost, IsHeldByQuorum}

-- No brick has lowered the stamp below which it takes nothing for a stripe, added a version below that, or replaced an order stamp by one of an earlier
-- time, and no version that was lost to the members of its view has surfaced: those that the
-- later world's messages teach, or the layout's. What was accepted and chosen to follow a view is so still, and a view that was closed is closed.
pub record Succeeds (layout : Layout) (earlier later : World) : Type 0 where
  pub never_falls : NeverFalls earlier later
  pub adds_nothing_below : AddsNothingBelow earlier later
  pub orders_rise : OrdersRise earlier later
  pub never_surfaces : (g s : ℕ) (group : Group) (v : Stamp) → group_in layout (views_in layout later.packets) g (view_of v) ≡ Some group
      → IsLost earlier g s group v → IsHeldByQuorum later g s group v → ⊥
  pub choices_hold : ChoicesHoldIn earlier later
  pub stays_closed : StaysClosed layout earlier later

-- What holds of the views of a world. Each has one successor at most; whatever names the members of a later view names those that were chosen;
-- each end of a proposal shows its cause; and a view is followed only once all stripes are said to be kept in it.
pub record ViewsHold (layout : Layout) (world : World) : Type 0 where
  pub one_successor : OneSuccessorIn layout world
  pub names_are_chosen : NamesAreChosenIn layout world
  pub ends_show : ProposalsShowIn layout world
  pub syncs_are_said : SyncsAreSaidIn layout world
