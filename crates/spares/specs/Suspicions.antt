-- What the bricks of a disk suspect of each other, and which bricks may replace a member.
use Rattle.std.specs.Prelude.{ℕ, ◌<◌, Bool, false, List, [], map, replicate, unwrap_or, slice_get, slice_set}
use Rattle.std.specs.List.{range_with_len}
use Rattle.fab_base.specs.declared.identities.BrickId.{BrickId}
use Rattle.fab_base.specs.Layouts.{Layout}
use Rattle.quorum.specs.Memberships.{stands_in}

-- How many bricks the disk has; by brick, whether it is of the pool; and by brick, what it suspects: a row that says so of each brick.
pub record Suspicions : Type 0 where
  pub bricks : ℕ
  pub pool : List Bool
  pub rows : List (List Bool)

-- what flags say of a brick, false where there is none for it
abbrev pub flag_of : List Bool → BrickId → Bool
flag_of flags brick = unwrap_or (slice_get flags brick.0) false

-- the brick is of the pool
abbrev pub is_spare : Suspicions → BrickId → Bool
is_spare suspicions brick = flag_of suspicions.pool brick

-- what a brick suspects
abbrev pub row_of : Suspicions → BrickId → List Bool
row_of suspicions by = unwrap_or (slice_get suspicions.rows by.0) []

-- one brick suspects another
abbrev pub suspects : Suspicions → BrickId → BrickId → Bool
suspects suspicions by brick = flag_of (row_of suspicions by) brick

-- the disk has both bricks
abbrev pub HasBoth : Suspicions → BrickId → BrickId → Type 0
HasBoth suspicions by brick = (by.0 < suspicions.bricks) × (brick.0 < suspicions.bricks)

-- a disk whose bricks suspect none: its pool is the layout's
abbrev pub unsuspecting : Layout → Suspicions
unsuspecting layout =
    record {
      bricks = layout.bricks;
      pool = map (λ brick. stands_in layout.spares (record { 0 = brick })) (range_with_len 0 layout.bricks);
      rows = replicate layout.bricks (replicate 64 false);
    }

-- one brick suspects another from now on, or no longer
abbrev pub with_opinion : Suspicions → BrickId → BrickId → Bool → Suspicions
with_opinion suspicions by brick suspected =
    record suspicions { rows = slice_set suspicions.rows by.0 (slice_set (row_of suspicions by) brick.0 suspected) }
