-- What the limits give of a sound setting: its fields `limits` and `distinct`.
use Rattle.std.proofs.Common.{◌≡◌, ℕ, ◌<◌, nat_eq, length, map, Some}
use Rattle.std.specs.List.{IsDistinct, AllByRecursion}
use Rattle.fab_base.specs.declared.identities.BrickId.{BrickId}
use Rattle.quorum.specs.Quorums.{IsWithinLimits}
use Rattle.fab_base.specs.Layouts.{Group, Layout, group_of}
use Rattle.layout.specs.Limits.{IsLayout}

-- each group is within the limits of a quorum
pub limits_of : (layout : Layout) → IsLayout layout → (g : ℕ) (group : Group) → group_of layout g ≡ Some group
    → IsWithinLimits group.m (length group.members)
limits_of layout is g group found = (is.each g group found).limits

-- the members of each group are distinct bricks
pub distinct_of : (layout : Layout) → IsLayout layout → (g : ℕ) (group : Group) → group_of layout g ≡ Some group
    → IsDistinct nat_eq (map (λ (member : BrickId). member.0) group.members)
distinct_of layout is g group found = (is.each g group found).distinct

-- the members of each group are bricks of the disk
pub below_of : (layout : Layout) → IsLayout layout → (g : ℕ) (group : Group) → group_of layout g ≡ Some group
    → AllByRecursion (λ (member : BrickId). member.0 < layout.bricks) group.members
below_of layout is g group found = (is.each g group found).below
