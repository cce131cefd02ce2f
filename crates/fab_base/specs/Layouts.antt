-- A disk's layout, as the machine and its text speak of it: its bricks, its groups of stripes, and its volumes.
use Rattle.std.specs.Prelude.{ℕ, ◌+◌, nat_eq, if◌then◌else◌, List, [], ◌∷◌, Option, Some, None, slice_get, slice_index_or}
use Rattle.std.specs.Option.{option_map}
use Rattle.fab_base.specs.declared.identities.BrickId.{BrickId}
use Rattle.fab_base.specs.declared.member_lists.View.{View}
use Rattle.fab_base.specs.declared.segments.Segment.{Segment}

-- how many groups a layout may have; of so many a brick's store keeps views and ballots
abbrev pub most_groups : ℕ
most_groups = 64

-- a group: the members of its view 1, by seat; the data blocks of a stripe; and how many stripes
pub record Group : Type 0 where
  pub members : List BrickId
  pub m : ℕ
  pub stripes : ℕ

-- view 1 of a group of these members: none were before them
abbrev pub first_view : List BrickId → View
first_view members = record { number = record { 0 = 1 }; members = members; prior = [] }

-- a volume: its name in ASCII, and the runs of stripes that its bytes stand in, in order
pub record Volume : Type 0 where
  pub name : List ℕ
  pub segments : List Segment

-- The bytes of a block, the number of bricks, how many live records a brick may keep, the UDP port of brick 0 (brick b has the
-- port b above it), the form of a store, the bricks that may replace a member, the groups by number, and the volumes.
pub record Layout : Type 0 where
  pub block : ℕ
  pub bricks : ℕ
  pub records : ℕ
  pub port : ℕ
  pub store : ℕ
  pub spares : List BrickId
  pub groups : List Group
  pub volumes : List Volume

-- the group of a number, if there is one
abbrev pub group_of : Layout → ℕ → Option Group
group_of layout g = slice_get layout.groups g

-- the seat of a brick in a list of members, the first if there are several
abbrev pub seat_in : List BrickId → ℕ → Option ℕ
seat_in [] brick = None
seat_in (member ∷ members) brick = if nat_eq member.0 brick then Some 0 else option_map (λ seat. seat + 1) (seat_in members brick)

-- the brick at a seat of a group
abbrev pub brick_at : Group → ℕ → ℕ
brick_at group seat = (slice_index_or group.members seat (record { 0 = 0 })).0
