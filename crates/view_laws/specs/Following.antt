-- What it is for a world to follow an assignment of members to views, and for a run.
use Rattle.std.specs.Prelude.{◌≡◌, ℕ, ◌+◌, ◌-◌, ◌<◌, ◌≤◌, Bool, not, nat_eq, List, ◌++◌, length, map, Some, slice_get}
use Rattle.std.specs.List.{IsDistinct}
use Rattle.fab_base.specs.declared.stamps.Stamp.{Stamp}
use Rattle.fab_base.specs.Layouts.{Layout, Group, brick_at}
use Rattle.fab_base.specs.Stamps.{stamp_below}
use Rattle.messages.specs.declared.packets.Packet.{Packet}
use Rattle.quorum.specs.Quorums.{count, quorum_of, IsWithinLimits}
use Rattle.protocol.specs.Settings.{Setting, IsSound}
use Rattle.protocol.specs.Views.{Views, views_in, floor_of, group_in}
use Rattle.protocol.specs.Nodes.{view_at, top_at}
use Rattle.protocol.specs.Worlds.{World, Event, first_world, run}

-- the packet was sent
abbrev pub WasSent : World → Packet → Type 0
WasSent w packet = (k : ℕ) × (slice_get w.packets k ≡ Some packet)

-- the stamp below which a brick takes nothing for a stripe
abbrev pub top_in : World → ℕ → ℕ → ℕ → Stamp
top_in w group stripe brick = top_at (w.nodes brick) group stripe

-- a test holds at a quorum of the group's seats
abbrev pub AtQuorum : Group → (ℕ → Bool) → Type 0
AtQuorum group test = quorum_of group ≤ count (length group.members) test

-- a quorum of the group's members takes nothing below this stamp for the stripe
abbrev pub IsGuarded : World → ℕ → ℕ → Group → Stamp → Type 0
IsGuarded w number stripe group stamp = AtQuorum group (λ seat. not (stamp_below (top_in w number stripe (brick_at group seat)) stamp))

-- A world follows an assignment of members to views: each of its lists is within the limits of its group's m, and distinct; what a brick has
-- learnt as its view is the assignment's, and so are the members of the view before that; and where a brick has learnt a view, a quorum of each view before that takes nothing below the next.
pub record Follows (layout : Layout) (views : Views) (w : World) : Type 0 where
  pub limits : (number view : ℕ) (group : Group) → group_in layout views number view ≡ Some group → IsWithinLimits group.m (length group.members)
  pub distinct : (number view : ℕ) (group : Group) → group_in layout views number view ≡ Some group → IsDistinct nat_eq (map (λ member. member.0) group.members)
  pub learnt : (brick number : ℕ) → ((w.nodes brick).learnt number).view.members ≡ views number (view_at (w.nodes brick) number)
  pub prior : (brick number : ℕ) → 1 < view_at (w.nodes brick) number → ((w.nodes brick).learnt number).view.prior ≡ views number (view_at (w.nodes brick) number - 1)
  pub passed : (brick number view stripe : ℕ) (group : Group) → 1 ≤ view → view < view_at (w.nodes brick) number → group_in layout views number view ≡ Some group
      → IsGuarded w number stripe group (floor_of (view + 1))

-- a run follows an assignment where each world on its way does
abbrev pub RunFollows : Setting → Views → List Event → Type 0
RunFollows setting views events =
    (earlier later : List Event) → events ≡ earlier ++ later → Follows setting.layout views (run setting earlier (first_world setting.layout))

-- every run follows the members that its messages teach
abbrev pub EveryRunFollowsItsViews : Type 0
EveryRunFollowsItsViews =
    (setting : Setting) (events : List Event) → IsSound setting
    → RunFollows setting (views_in setting.layout (run setting events (first_world setting.layout)).packets) events
