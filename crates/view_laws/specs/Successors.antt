-- The successors of views: a quorum of a view's members chooses the list that follows it, and from then on the view is closed.
use Rattle.std.specs.Prelude.{◌≡◌, ℕ, ◌+◌, ◌<◌, ◌≤◌, Bool, true, false, nat_eq, nat_lt, ◌&&◌, ◌||◌, ◌⊎◌, List, ◌++◌, length, Some, None, slice_get}
use Rattle.fab_base.specs.declared.identities.BrickId.{BrickId}
use Rattle.fab_base.specs.declared.identities.GroupId.{GroupId}
use Rattle.fab_base.specs.declared.identities.ViewNo.{ViewNo}
use Rattle.fab_base.specs.declared.member_lists.View.{View}
use Rattle.fab_base.specs.declared.stamps.Ballot.{Ballot}
use Rattle.fab_base.specs.Layouts.{Layout, Group, brick_at}
use Rattle.messages.specs.declared.calls.Call.{Call}
use Rattle.messages.specs.declared.packets.Message.{Message}
use Rattle.messages.specs.declared.packets.Packet.{Packet}
use Rattle.messages.specs.declared.replies.Lineage.{Lineage}
use Rattle.messages.specs.declared.replies.Reply.{Reply}
use Rattle.messages.specs.declared.requests.Version.{Version}
use Rattle.synod_laws.specs.Synods.{is_promised_above}
use Rattle.protocol.specs.declared.tellings.Report.TheVariants as report
use Rattle.protocol.specs.declared.tellings.ViewAnswer.TheVariants as answer
use Rattle.protocol.specs.Settings.{Setting, IsSound}
use Rattle.protocol.specs.Views.{views_in, group_in}
use Rattle.protocol.specs.Replicas.{Replica, fresh_replica}
use Rattle.protocol.specs.declared.tellings.Report.{Report}
use Rattle.protocol.specs.Nodes.{Node, view_at, has_accepted}
use Rattle.protocol.specs.Worlds.{World, Event, first_world, run}
use Rattle.view_laws.specs.Following.{WasSent, AtQuorum}

-- This list was chosen to follow a view of a group: a quorum of the view's members accepted it, all under one ballot.
pub record WasChosen (w : World) (number view : ℕ) (group : Group) (members : List BrickId) : Type 0 where
  pub ballot : Ballot
  pub seats : ℕ → Bool
  pub many : AtQuorum group seats
  pub accepted : (seat : ℕ) → seat < length group.members → seats seat ≡ true
      → w.choices.votes (brick_at group seat) number view ballot ≡ Some members

-- a brick has accepted a list to follow a view of a group, under some ballot
pub record HasVoted (w : World) (number view brick : ℕ) : Type 0 where
  pub ballot : Ballot
  pub members : List BrickId
  pub accepted : w.choices.votes brick number view ballot ≡ Some members

-- a brick reported this
abbrev pub WasReported : World → BrickId → Report → Type 0
WasReported w brick reported = (k : ℕ) × (slice_get w.choices.reports k ≡ Some (brick, reported))

-- A view of a group follows another: its number is one more, its prior members are that one's, and its members were chosen to follow that one. They are those that
-- the first message names that teaches the view.
pub record Succeeds (layout : Layout) (w : World) (number : ℕ) (view : View) : Type 0 where
  pub before : ℕ
  pub positive : 1 ≤ before
  pub next : view.number.0 ≡ before + 1
  pub group : Group
  pub group_is : group_in layout (views_in layout w.packets) number before ≡ Some group
  pub prior : view.prior ≡ group.members
  pub chosen : WasChosen w number before group view.members
  pub named : views_in layout w.packets number view.number.0 ≡ view.members

-- Of each view at most one list is chosen to follow it, and each answer that a list was decided names that one.
pub record OneSuccessorIn (layout : Layout) (w : World) : Type 0 where
  pub chosen : (number view : ℕ) (group : Group) (one other : List BrickId) → group_in layout (views_in layout w.packets) number view ≡ Some group
      → WasChosen w number view group one → WasChosen w number view group other → one ≡ other
  pub decided : (brick : BrickId) (number : GroupId) (call : Call) (next : ViewNo) (members other : List BrickId) (group : Group)
      → WasReported w brick (report.View number (Some call) (answer.Decided next members))
      → group_in layout (views_in layout w.packets) number.0 call.view.0 ≡ Some group → WasChosen w number.0 call.view.0 group other → members ≡ other

-- in every world that a run reaches a view has one successor at most
abbrev pub OneSuccessor : Type 0
OneSuccessor = (setting : Setting) (events : List Event) → IsSound setting → OneSuccessorIn setting.layout (run setting events (first_world setting.layout))

-- Whatever names the members of a later view than view 1 names those that were chosen to follow the view before: each message that teaches a view, each reply that
-- tells of one with its members, each answer that a list was decided, and what a brick has learnt. A reply that tells of the next view without its members is of a
-- brick that has accepted a list to be that.
pub record NamesAreChosenIn (layout : Layout) (w : World) : Type 0 where
  pub taught : (from to : BrickId) (number : GroupId) (view : View)
      → WasSent w (record { from = from; to = to; message = Message.Learn number view }) → Succeeds layout w number.0 view
  pub moved : (from to : BrickId) (call : Call) (later : ViewNo) (lineage : Lineage)
      → WasSent w (record { from = from; to = to; message = Message.Reply call (Reply.Moved later (Some lineage)) })
      → Succeeds layout w call.group.0 (record { number = later; members = lineage.members; prior = lineage.prior })
  pub accepted : (from to : BrickId) (call : Call) (later : ViewNo)
      → WasSent w (record { from = from; to = to; message = Message.Reply call (Reply.Moved later None) })
      → (later.0 ≡ call.view.0 + 1) × HasVoted w call.group.0 call.view.0 from.0
  pub decided : (brick : BrickId) (number : GroupId) (call : Call) (next : ViewNo) (members : List BrickId)
      → WasReported w brick (report.View number (Some call) (answer.Decided next members))
      → (next.0 ≡ call.view.0 + 1)
      × Succeeds layout w number.0 (record { number = next; members = members; prior = views_in layout w.packets number.0 call.view.0 })
  pub learnt : (brick number : ℕ) → 1 < view_at (w.nodes brick) number → Succeeds layout w number ((w.nodes brick).learnt number).view

-- in every world that a run reaches the names of members are those that were chosen
abbrev pub NamesAreChosen : Type 0
NamesAreChosen = (setting : Setting) (events : List Event) → IsSound setting → NamesAreChosenIn setting.layout (run setting events (first_world setting.layout))

-- ---- what was chosen holds

-- A ballot for the successor of a view is past for a brick: it has promised to a greater one, or has learnt a later view.
abbrev pub is_past : Node → ℕ → ℕ → Ballot → Bool
is_past node number view ballot =
    nat_lt view (view_at node number) || (nat_eq view (view_at node number) && is_promised_above (node.ballots number) ballot)

-- What a brick has accepted it has accepted in each later world, and what was chosen is chosen there. A ballot that is past for a brick stays past, over each stop and
-- start, so no promise is taken back; and it accepts nothing under one that it had not accepted.
pub record ChoicesHoldIn (w later : World) : Type 0 where
  pub accepted : (brick number view : ℕ) (ballot : Ballot) (members : List BrickId) → w.choices.votes brick number view ballot ≡ Some members
      → later.choices.votes brick number view ballot ≡ Some members
  pub past : (brick number view : ℕ) (ballot : Ballot) → is_past (w.nodes brick) number view ballot ≡ true
      → is_past (later.nodes brick) number view ballot ≡ true
  pub barred : (brick number view : ℕ) (ballot : Ballot) (members : List BrickId) → is_past (w.nodes brick) number view ballot ≡ true
      → later.choices.votes brick number view ballot ≡ Some members → w.choices.votes brick number view ballot ≡ Some members
  pub chosen : (number view : ℕ) (group : Group) (members : List BrickId) → WasChosen w number view group members → WasChosen later number view group members

-- so it is however a run goes on
abbrev pub ChoicesHold : Type 0
ChoicesHold =
    (setting : Setting) (events more : List Event) → IsSound setting
    → ChoicesHoldIn (run setting events (first_world setting.layout)) (run setting (events ++ more) (first_world setting.layout))

-- ---- closed views

-- a brick has closed a view of a group for itself: it has learnt a later one, or has accepted a list to follow it
abbrev pub has_closed : Node → ℕ → ℕ → Bool
has_closed node number view = nat_lt view (view_at node number) || (nat_eq view (view_at node number) && has_accepted node number)

-- the same, of a brick in a world: of one that is down it is what its store keeps of the last handling that was not cut short
abbrev pub closes_in : World → ℕ → ℕ → ℕ → Bool
closes_in w number view brick = has_closed (w.nodes brick) number view

-- a version is one of a part's log
abbrev pub IsKeptIn : Replica → Version → Type 0
IsKeptIn part version = (k : ℕ) × (slice_get part.log k ≡ Some version)

-- A part took nothing since: its promise is as it was, and so is each version that it keeps, unless it was dropped, so that it is as a store reads a part that it
-- does not list.
pub record TakesNothing (fresh before later : Replica) : Type 0 where
  pub order : (later.order ≡ before.order) ⊎ (later.order ≡ fresh.order)
  pub log : (version : Version) → IsKeptIn later version → IsKeptIn before version ⊎ IsKeptIn fresh version

-- the reply serves a view: it tells what a member keeps of a stripe, or what it promised or stored, or refuses by that
abbrev pub is_serving : Reply → Bool
is_serving (Reply.Found order newest) = true
is_serving Reply.Ordered = true
is_serving (Reply.OrderedRead found) = true
is_serving Reply.Stored = true
is_serving (Reply.Behind newest) = true
is_serving (Reply.Later stamp) = true
is_serving (Reply.Full live) = true
is_serving reply = false

-- A packet was sent after this world, and by a later one.
abbrev pub WasSentSince : World → World → Packet → Type 0
WasSentSince w later packet = (k : ℕ) × (length w.packets ≤ k) × (slice_get later.packets k ≡ Some packet)

-- What a world has closed is closed in a later one. Where a list was chosen to follow a view, a quorum of the view's members has closed it. A brick that has closed
-- a view has it closed later, whether it stops and starts in between or not, and whether a handling that a stop cut short was kept or not; it takes no promise and
-- no version for a stripe of that view any more; and it sends no reply that serves the view.
pub record StaysClosed (layout : Layout) (w later : World) : Type 0 where
  pub chosen : (number view : ℕ) (group : Group) (members : List BrickId) → WasChosen w number view group members
      → AtQuorum group (λ seat. closes_in w number view (brick_at group seat))
  pub quorum : (number view : ℕ) (group : Group) → AtQuorum group (λ seat. closes_in w number view (brick_at group seat))
      → AtQuorum group (λ seat. closes_in later number view (brick_at group seat))
  pub closed : (number view brick : ℕ) → closes_in w number view brick ≡ true → closes_in later number view brick ≡ true
  pub takes : (number view stripe brick : ℕ) → closes_in w number view brick ≡ true
      → TakesNothing (fresh_replica layout.block view) ((w.nodes brick).replicas number view stripe) ((later.nodes brick).replicas number view stripe)
  pub tells : (from to : BrickId) (call : Call) (reply : Reply) → closes_in w call.group.0 call.view.0 from.0 ≡ true
      → WasSentSince w later (record { from = from; to = to; message = Message.Reply call reply }) → is_serving reply ≡ false

-- a view that a quorum has closed stays closed, however the run goes on
abbrev pub ClosedStays : Type 0
ClosedStays =
    (setting : Setting) (events more : List Event) → IsSound setting
    → StaysClosed setting.layout (run setting events (first_world setting.layout)) (run setting (events ++ more) (first_world setting.layout))
