-- The limits of a layout.
use Rattle.std.specs.Prelude.{◌≡◌, ℕ, ◌+◌, ◌*◌, ◌<◌, ◌≤◌, nat_eq, Bool, true, List, length, map, Some, IsSomeAnd, slice_get}
use Rattle.std.specs.List.{IsDistinct, AllByRecursion}
use Rattle.std.specs.Str.{bytes_eq}
use Rattle.fab_base.specs.declared.segments.Segment.{Segment}
use Rattle.fab_base.specs.Layouts.{Group, Volume, Layout, group_of, most_groups}
use Rattle.quorum.specs.Quorums.{IsWithinLimits}
use Rattle.layout.specs.Names.{is_name}
use Rattle.layout.specs.Segments.{AreApart, segments_of}

-- A group of a disk with blocks of this many bytes and this many bricks: its stripes and blocks are within the limits, and its
-- members are distinct bricks of the disk.
pub record IsGroup (block bricks : ℕ) (group : Group) : Type 0 where
  pub limits : IsWithinLimits group.m (length group.members)
  pub room : group.m * block ≤ 32768
  pub distinct : IsDistinct nat_eq (map (λ member. member.0) group.members)
  pub below : AllByRecursion (λ member. member.0 < bricks) group.members
  pub some_stripe : 1 ≤ group.stripes
  pub few_stripes : group.stripes ≤ 65536

-- a segment of a disk with these groups: at least one stripe, and all are stripes of one of the groups
pub record IsSegment (groups : List Group) (segment : Segment) : Type 0 where
  pub some_stripe : 1 ≤ segment.stripes
  pub held : IsSomeAnd (slice_get groups segment.group.0) (λ group. segment.first.0 + segment.stripes ≤ group.stripes)

-- a volume of a disk with these groups: its name, the number of its segments and each of them are within the limits
pub record IsVolume (groups : List Group) (volume : Volume) : Type 0 where
  pub named : is_name volume.name ≡ true
  pub some_segment : 1 ≤ length volume.segments
  pub few_segments : length volume.segments ≤ 1024
  pub each : AllByRecursion (IsSegment groups) volume.segments

-- two volumes have the same name
abbrev pub same_name : Volume → Volume → Bool
same_name v w = bytes_eq v.name w.name

-- The volumes of a disk with these groups: at most 64, of names that differ, and no stripe stands in two segments.
pub record AreVolumes (groups : List Group) (volumes : List Volume) : Type 0 where
  pub few : length volumes ≤ 64
  pub each : AllByRecursion (IsVolume groups) volumes
  pub names : IsDistinct same_name volumes
  pub apart : AreApart (segments_of volumes)

-- all that a layout text promises of the layout that it says
pub record IsLayout (layout : Layout) : Type 0 where
  pub some_byte : 1 ≤ layout.block
  pub few_bytes : layout.block ≤ 4096
  pub some_brick : 1 ≤ layout.bricks
  pub few_bricks : layout.bricks ≤ 64
  pub some_record : 1 ≤ layout.records
  pub few_records : layout.records ≤ 1048576
  pub some_port : 1 ≤ layout.port
  pub few_ports : layout.port ≤ 65472
  pub some_group : 1 ≤ length layout.groups
  pub few_groups : length layout.groups ≤ most_groups
  pub each : (g : ℕ) (group : Group) → group_of layout g ≡ Some group → IsGroup layout.block layout.bricks group
  pub volumes : AreVolumes layout.groups layout.volumes
