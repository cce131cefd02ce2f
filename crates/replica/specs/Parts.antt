-- What a store keeps, as what a brick of the machine has: of views and ballots by group, and the parts of stripes.
use Rattle.std.specs.Prelude.{◌≡◌, ℕ, Bool, true, nat_eq, ◌&&◌, Option, Some, None, is_some, List, filter, map, IsTrue}
use Rattle.fab_base.specs.declared.identities.BrickId.{BrickId}
use Rattle.fab_base.specs.declared.member_lists.View.{View}
use Rattle.fab_base.specs.declared.stamps.Ballot.{Ballot}
use Rattle.fab_base.specs.declared.stamps.Stamp.{Stamp}
use Rattle.fab_base.specs.Stamps.{first_stamp}
use Rattle.fab_base.specs.Layouts.{Layout, Group, group_of}
use Rattle.messages.specs.declared.requests.Version.{Version}
use Rattle.version_log.specs.Versions.{Version as Kept}
use Rattle.brick_state.specs.declared.groups.Group.{Group as KeptGroup}
use Rattle.brick_state.specs.States.{Place, StripeOf, StateOf, stripe_at, group_at, live, live_in}
use Rattle.brick_store.specs.Blocks.{log_at, accepted_of, learnt_view}
use Rattle.brick_store.specs.Logs.{StripeLog}
use Rattle.synod_laws.specs.Synods.{Kept as KeptBallots}
use Rattle.quorum.specs.Memberships.{is_membership}
use Rattle.protocol.specs.Views.{Learnt, first_learnt, may_be_taught, is_later, is_unsynced}
use Rattle.protocol.specs.Nodes.{may_teach}
use Rattle.protocol.specs.Replicas.{Replica, is_held}
use Rattle.protocol.specs.Nodes.{Node}

-- a version that a store keeps, as one that a message carries
abbrev pub as_version : Kept → Version
as_version v = record { stamp = v.stamp; block = v.block }

-- a member's part with this order stamp and these versions, and whether the first one is still there
abbrev pub part_of : Stamp → List Kept → Bool → Replica
part_of order log from_start = record { order = order; log = map as_version log; from_start = from_start }

-- the versions that a look-up of a stripe sees
abbrev pub log_seen : StripeLog → List Version
log_seen seen = map as_version seen.log

-- the part that it sees: it does not tell whether the first version is still there
abbrev pub part_seen : StripeLog → Bool → Replica
part_seen seen from_start = part_of seen.order seen.log from_start

-- the first version is in the log where it is said to be there
abbrev pub IsBegun : Bool → List Version → Type 0
IsBegun from_start log = IsTrue from_start → IsTrue (is_held first_stamp log)

-- what is kept of a group's stripe in a view
abbrev pub part_in : ℕ → StateOf Kept → ℕ → ℕ → ℕ → Replica
part_in block st g e s = part_of (stripe_at st (g, e, s)).order (log_at block st (g, e, s)) (stripe_at st (g, e, s)).from_start

-- the view that a store has learnt of a group: one with the layout's members at first
abbrev pub learnt_or : Learnt → Option (View × Bool) → Learnt
learnt_or first None = first
learnt_or first (Some known) = record { view = known.0; synced = known.1 }

abbrev pub learnt_in : Layout → StateOf Kept → ℕ → Learnt
learnt_in layout st g = learnt_or (first_learnt layout g) (group_at st g).known

-- the brick is to learn a view that it is taught of a group: the view may be taught, and is later than the one that it has learnt
abbrev pub is_to_learn : Layout → StateOf Kept → ℕ → View → Bool
is_to_learn layout st g view = may_teach layout (Some view) (group_of layout g) && is_later (learnt_in layout st g) view

-- the brick is to note that all stripes of a group are kept in the view of a number: the layout has the group, and that is the view that it has learnt, of
-- which it does not know so yet
abbrev pub is_to_note : Layout → StateOf Kept → ℕ → ℕ → Bool
is_to_note layout st g number = is_some (group_of layout g) && is_unsynced (learnt_in layout st g) number

-- what is kept of ballots for the successor of the learnt view of a group
abbrev pub ballots_in : StateOf Kept → ℕ → KeptBallots (List BrickId)
ballots_in st g = (group_at st g).ballots

-- the stripe is one of a group in a view
abbrev pub is_in_view : ℕ → ℕ → Place × StripeOf Kept → Bool
is_in_view g e entry = nat_eq entry.0.0 g && nat_eq entry.0.1 e

-- the live records of a group in a view
abbrev pub live_at : StateOf Kept → ℕ → ℕ → ℕ
live_at st g e = live_in (filter (is_in_view g e) st.stripes)

-- the machine's brick keeps what the store keeps
pub record IsPartsOf (layout : Layout) (st : StateOf Kept) (node : Node) : Type 0 where
  pub boot : node.boot ≡ st.boot
  pub live : node.live ≡ live st
  pub live_in : (g e : ℕ) → node.live_in g e ≡ live_at st g e
  pub learnt : (g : ℕ) → node.learnt g ≡ learnt_in layout st g
  pub ballots : (g : ℕ) → node.ballots g ≡ ballots_in st g
  pub replicas : (g e s : ℕ) → node.replicas g e s ≡ part_in layout.block st g e s

-- a list that was accepted, if one was, may keep a group of m data blocks on a disk of so many bricks
abbrev pub may_be_accepted : ℕ → ℕ → Option (Ballot × List BrickId) → Bool
may_be_accepted m bricks None = true
may_be_accepted m bricks (Some accepted) = is_membership m bricks accepted.1

-- the lists that are kept of a group may keep it: those of the view that was learnt, and the one that was accepted to follow that
abbrev pub lists_stand : ℕ → ℕ → KeptGroup → Bool
lists_stand m bricks kept = may_be_taught m bricks (learnt_view kept) && may_be_accepted m bricks (accepted_of kept)

-- the lists that a store keeps of the layout's groups may keep these
abbrev pub ListsStand : Layout → StateOf Kept → Type 0
ListsStand layout st = (g : ℕ) (group : Group) → group_of layout g ≡ Some group → lists_stand group.m layout.bricks (group_at st g) ≡ true
