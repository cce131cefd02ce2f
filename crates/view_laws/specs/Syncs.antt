-- Synchronised views: what follows a view is chosen only once all stripes are said to be kept in that view.
use Rattle.std.specs.Prelude.{◌≡◌, ℕ, ◌-◌, ◌<◌, ◌≤◌, true, ◌⊎◌, List, Some}
use Rattle.fab_base.specs.declared.identities.BrickId.{BrickId}
use Rattle.fab_base.specs.declared.identities.GroupId.{GroupId}
use Rattle.fab_base.specs.declared.member_lists.View.{View}
use Rattle.fab_base.specs.Layouts.{Layout, Group}
use Rattle.messages.specs.declared.packets.Message.{Message}
use Rattle.protocol.specs.Settings.{Setting, IsSound}
use Rattle.protocol.specs.Views.{views_in, group_in}
use Rattle.protocol.specs.Coordinators.{Coordinator}
use Rattle.protocol.specs.Nodes.{view_at}
use Rattle.protocol.specs.Worlds.{World, Event, first_world, run}
use Rattle.view_laws.specs.Following.{WasSent}
use Rattle.view_laws.specs.Successors.{WasChosen, HasVoted}

-- a message was sent that says that all stripes of a group are kept in a view
abbrev pub SyncedWasSent : World → ℕ → ℕ → Type 0
SyncedWasSent w number view =
    (from : BrickId) × (to : BrickId)
    × WasSent w (record { from = from; to = to; message = Message.Synced (record { 0 = number }) (record { 0 = view }) })

-- a view of a group is said to be synced: it is view 1, in which all stripes are kept at first, or a message that says so was sent
abbrev pub IsSaidSynced : World → ℕ → ℕ → Type 0
IsSaidSynced w number view = (view ≡ 1) ⊎ SyncedWasSent w number view

-- What a brick knows to be synced is said to be. So is each view that a brick has accepted a list to follow, each that a list was chosen to follow, each that is
-- followed by one that a message teaches or that an open operation is of, and each before one that a brick has learnt.
pub record SyncsAreSaidIn (layout : Layout) (w : World) : Type 0 where
  pub synced : (brick number : ℕ) → ((w.nodes brick).learnt number).synced ≡ true → IsSaidSynced w number (view_at (w.nodes brick) number)
  pub voted : (number view brick : ℕ) → HasVoted w number view brick → IsSaidSynced w number view
  pub chosen : (number view : ℕ) (group : Group) (members : List BrickId) → group_in layout (views_in layout w.packets) number view ≡ Some group
      → WasChosen w number view group members → IsSaidSynced w number view
  pub taught : (from to : BrickId) (number : GroupId) (view : View)
      → WasSent w (record { from = from; to = to; message = Message.Learn number view }) → IsSaidSynced w number.0 (view.number.0 - 1)
  pub called : (brick k : ℕ) (c : Coordinator) → (w.nodes brick).calls k ≡ Some c → 1 < c.stamp.view.0
      → IsSaidSynced w c.call.group.0 (c.stamp.view.0 - 1)
  pub learnt : (brick number view : ℕ) → 1 ≤ view → view < view_at (w.nodes brick) number → IsSaidSynced w number view

-- so it is in every world that a run reaches
abbrev pub SyncsAreSaid : Type 0
SyncsAreSaid = (setting : Setting) (events : List Event) → IsSound setting → SyncsAreSaidIn setting.layout (run setting events (first_world setting.layout))
