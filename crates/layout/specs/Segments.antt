-- Segments of volumes, and the stripes that they have.
use Rattle.std.specs.Prelude.{◌+◌, nat_eq, nat_lt, Bool, true, not, ◌&&◌, List, [], ◌∷◌, ◌++◌}
use Rattle.std.specs.List.{IsDistinct, flat_map, list_any}
use Rattle.fab_base.specs.declared.segments.Segment.{Segment}
use Rattle.fab_base.specs.Layouts.{Volume}

-- a stripe of a group stands in both segments, which have at least one each
abbrev pub shares_stripe : Segment → Segment → Bool
shares_stripe s t = nat_eq s.group.0 t.group.0 && (nat_lt s.first.0 (t.first.0 + t.stripes) && nat_lt t.first.0 (s.first.0 + s.stripes))

-- a stripe of the segment stands in one of these
abbrev pub is_taken : List Segment → Segment → Bool
is_taken segments segment = list_any (λ s. shares_stripe s segment) segments

-- each stripe is free when its segment comes: it stands in none of those before, nor in an earlier one of the list
abbrev pub are_free : List Segment → List Segment → Bool
are_free before [] = true
are_free before (segment ∷ more) = not (is_taken before segment) && are_free (before ++ (segment ∷ [])) more

-- no stripe of a group stands in two of the segments
abbrev pub AreApart : List Segment → Type 0
AreApart segments = IsDistinct shares_stripe segments

-- the segments of some volumes, one volume after another
abbrev pub segments_of : List Volume → List Segment
segments_of volumes = flat_map (λ volume. volume.segments) volumes
