-- Where the bytes of volumes lie.
use Rattle.std.specs.Prelude.{◌≡◌, ◌↔◌, ℕ, ◌+◌, ◌-◌, ◌*◌, ◌/◌, ◌%◌, ◌<◌, ◌≤◌, nat_lt, if◌then◌else◌, List, [], ◌∷◌, Option, Some, None, option_map, option_and_then, IsSome, IsSomeAnd, slice_get}
use Rattle.std.specs.List.{find}
use Rattle.std.specs.Str.{bytes_eq}
use Rattle.fab_base.specs.declared.segments.Segment.{Segment}
use Rattle.fab_base.specs.Layouts.{Group, Volume, Layout, group_of}
use Rattle.layout.specs.declared.places.Place.{Place}

-- the volume of a name, if there is one
abbrev pub volume_of : Layout → List ℕ → Option Volume
volume_of layout name = find (λ volume. bytes_eq volume.name name) layout.volumes

-- the data blocks of a stripe, none where there is no such group
abbrev pub blocks_of : Option Group → ℕ
blocks_of None = 0
blocks_of (Some group) = group.m

-- the data blocks of each stripe of a segment
abbrev pub stripe_blocks : Layout → Segment → ℕ
stripe_blocks layout segment = blocks_of (group_of layout segment.group.0)

-- the bytes of a segment: those of the data blocks of its stripes
abbrev pub segment_length : Layout → Segment → ℕ
segment_length layout segment = segment.stripes * stripe_blocks layout segment * layout.block

-- the bytes of some segments
abbrev pub run_length : Layout → List Segment → ℕ
run_length layout [] = 0
run_length layout (segment ∷ more) = segment_length layout segment + run_length layout more

-- the bytes of the volume of a name, if there is one
abbrev pub length_of : Layout → List ℕ → Option ℕ
length_of layout name = option_map (λ volume. run_length layout volume.segments) (volume_of layout name)

-- the place of a byte of a segment, whose bytes are those of its stripes in order, and a stripe's those of its data blocks
abbrev pub place_from : Layout → Segment → ℕ → Place
place_from layout segment byte =
    record {
      group = segment.group;
      stripe = record { 0 = segment.first.0 + byte / layout.block / stripe_blocks layout segment };
      block = byte / layout.block % stripe_blocks layout segment;
      within = byte % layout.block;
    }

-- the place of a byte of some segments, one after another, if they have so many
abbrev pub place_in : Layout → List Segment → ℕ → Option Place
place_in layout [] byte = None
place_in layout (segment ∷ more) byte =
    if nat_lt byte (segment_length layout segment) then Some (place_from layout segment byte)
    else place_in layout more (byte - segment_length layout segment)

-- the place of a byte of the volume of a name, if there is such a volume and byte
abbrev pub place_of : Layout → List ℕ → ℕ → Option Place
place_of layout name byte = option_and_then (λ volume. place_in layout volume.segments byte) (volume_of layout name)

-- a place of a segment: one of its stripes, one of the stripe's data blocks, and a byte of the block
pub record LiesIn (layout : Layout) (segment : Segment) (place : Place) : Type 0 where
  pub group : place.group.0 ≡ segment.group.0
  pub from : segment.first.0 ≤ place.stripe.0
  pub below : place.stripe.0 < segment.first.0 + segment.stripes
  pub block : place.block < stripe_blocks layout segment
  pub within : place.within < layout.block

-- a place of one of the segments
abbrev pub LiesInOne : Layout → List Segment → Place → Type 0
LiesInOne layout segments place = (i : ℕ) × (segment : Segment) × (slice_get segments i ≡ Some segment) × LiesIn layout segment place

-- The bytes of the volumes and the places of their segments are one to one: a volume has a place for each byte below its length and for
-- no other, each is a place of one of its segments, each such place is that of a byte, and no two bytes have the same.
pub record AreOneToOne (layout : Layout) : Type 0 where
  pub each : (name : List ℕ) (byte : ℕ) → IsSome (place_of layout name byte) ↔ IsSomeAnd (length_of layout name) (λ end. byte < end)
  pub inside : (name : List ℕ) (volume : Volume) (byte : ℕ) (place : Place) → volume_of layout name ≡ Some volume
      → place_of layout name byte ≡ Some place → LiesInOne layout volume.segments place
  pub reached : (name : List ℕ) (volume : Volume) (place : Place) → volume_of layout name ≡ Some volume
      → LiesInOne layout volume.segments place → (byte : ℕ) × (place_of layout name byte ≡ Some place)
  pub one : (name other : List ℕ) (byte at : ℕ) (place : Place) → place_of layout name byte ≡ Some place
      → place_of layout other at ≡ Some place → (name ≡ other) × (byte ≡ at)
