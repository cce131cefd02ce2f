-- Views: the lists of members that keep a group, one after another, by number from 1 (Saito 2004, section 5).
use Rattle.messages.specs.declared.packets.Packet.{Packet}
use Rattle.messages.specs.declared.packets.Message.{Message}
use Rattle.messages.specs.declared.replies.Reply.{Reply}
use Rattle.messages.specs.declared.replies.Reply.TheVariants.{Moved}
use Rattle.std.specs.Prelude.{ℕ, true, false, Bool, not, nat_lt, if◌then◌else◌, List, [], Option, Some, None, max, ◌-◌, ◌∷◌, nat_eq, ◌&&◌}
use Rattle.std.specs.Option.{option_map, unwrap_or}
use Rattle.fab_base.specs.declared.identities.BrickId.{BrickId}
use Rattle.fab_base.specs.declared.member_lists.View.{View}
use Rattle.fab_base.specs.declared.stamps.Stamp.{Stamp}
use Rattle.fab_base.specs.Layouts.{Layout, Group, group_of, first_view}
use Rattle.fab_base.specs.Stamps.{first_stamp}
use Rattle.quorum.specs.Memberships.{is_membership}

-- the members, by seat, of each view of each group: by group and view
abbrev pub Views : Type 0
Views = ℕ → ℕ → List BrickId

-- the layout's members, in every view
abbrev pub members_of : Option Group → List BrickId
members_of None = []
members_of (Some group) = group.members

abbrev pub layout_views : Layout → Views
layout_views layout group view = members_of (group_of layout group)

-- the view that a stamp is of: the first stamp counts as one of view 1
abbrev pub view_of : Stamp → ℕ
view_of stamp = max stamp.view.0 1

-- the stamp that is below all that are made in a view, and above all of the views before it; in view 1, which has none before it, the first stamp
abbrev pub floor_of : ℕ → Stamp
floor_of view = if nat_lt 1 view then record { view = record { 0 = view }; time = 0; brick = record { 0 = 0 }; boot = 0 } else first_stamp

-- a view of a group that a brick has learnt, and whether all its stripes are known to be kept in it
pub record Learnt : Type 0 where
  pub view : View
  pub synced : Bool

-- what a brick has learnt of a group at first: view 1, with the layout's members and none before them
abbrev pub first_learnt : Layout → ℕ → Learnt
first_learnt layout group =
    record { view = first_view (members_of (group_of layout group)); synced = true }

-- the view's members, and those before them, may keep a group of m data blocks on a disk of so many bricks
abbrev pub is_view : ℕ → ℕ → View → Bool
is_view m bricks view = is_membership m bricks view.members && is_membership m bricks view.prior

-- the view that a reply teaches: a later one that it tells with its members
abbrev pub view_told : Reply → Option View
view_told (Moved number (Some lineage)) = Some (record { number = number; members = lineage.members; prior = lineage.prior })
view_told reply = None

-- the lists of a view that is taught, if one is, may keep a group of m data blocks on a disk of so many bricks
abbrev pub may_be_taught : ℕ → ℕ → Option View → Bool
may_be_taught m bricks None = true
may_be_taught m bricks (Some view) = is_view m bricks view

-- a view is later than the one that was learnt
abbrev pub is_later : Learnt → View → Bool
is_later learnt view = nat_lt learnt.view.number.0 view.number.0

-- what a brick has learnt of a group once it is taught a view: a later one takes the place of the learnt one, and its stripes are not known to be kept in it
unfoldable pub learns : Learnt → View → Learnt
learns learnt view = if is_later learnt view then record { view = view; synced = false } else learnt

-- the learnt view has this number, and its stripes are not known yet to be kept in it
abbrev pub is_unsynced : Learnt → ℕ → Bool
is_unsynced learnt number = nat_eq number learnt.view.number.0 && not learnt.synced

-- what it has learnt once it hears that all stripes are kept in the view of a number
unfoldable pub notes_synced : Learnt → ℕ → Learnt
notes_synced learnt number = if is_unsynced learnt number then record learnt { synced = true } else learnt

-- the first view of a group whose versions a brick keeps: the learnt one, or the one before it while not all stripes are known to be kept in the learnt one
abbrev pub first_kept : Learnt → ℕ
first_kept learnt = if learnt.synced then learnt.view.number.0 else learnt.view.number.0 - 1

-- a group that these members keep
abbrev pub kept_by : List BrickId → Group → Group
kept_by members group = record { members = members; m = group.m; stripes = group.stripes }

-- the group of a number, as these members keep it
abbrev pub group_kept : Layout → List BrickId → ℕ → Option Group
group_kept layout members group = option_map (kept_by members) (group_of layout group)

-- the group of a number in a view
abbrev pub group_in : Layout → Views → ℕ → ℕ → Option Group
group_in layout views group view = group_kept layout (views group view) group

-- what a message names as this view of this group, if it teaches that
abbrev pub learn_in : ℕ → ℕ → Message → Option View
learn_in group view (Message.Learn named taught) = if nat_eq named.0 group && nat_eq taught.number.0 view then Some taught else None
learn_in group view message = None

-- what the first of these messages names that teaches it
abbrev pub first_learn : ℕ → ℕ → List Packet → Option View
first_learn group view [] = None
first_learn group view (packet ∷ packets) = either_view (learn_in group view packet.message) (first_learn group view packets)
  where
    either_view : Option View → Option View → Option View
    either_view None later = later
    either_view (Some view) later = Some view

-- the members that a group has in a view: in a later view than 1 those that the first of these messages names that teaches it, else the layout's
abbrev pub views_in : Layout → List Packet → Views
views_in layout packets group view =
    if nat_lt 1 view then unwrap_or (option_map (λ (named : View). named.members) (first_learn group view packets)) (layout_views layout group view) else layout_views layout group view
