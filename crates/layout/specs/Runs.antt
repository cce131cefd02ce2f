-- The stripes that segments have taken, as runs of places. Each group has 131,072 places of its own, one a stripe and as many left: a segment
-- that starts below 65,536 and has at most 65,536 stripes ends before the places of the next group.
use Rattle.std.specs.Prelude.{◌≡◌, ℕ, ◌+◌, ◌*◌, ◌<◌, ◌≤◌, nat_lt, Bool, true, not, ◌&&◌, List, [], ◌∷◌, ◌++◌, Some}
use Rattle.std.specs.BTreeMap.{BTreeMap, get}
use Rattle.std.specs.List.{AllByRecursion, list_any}
use Rattle.std.specs.Ordering.{nat_cmp}
use Rattle.fab_base.specs.declared.segments.Segment.{Segment}
use Rattle.layout.specs.Segments.{is_taken, are_free}

-- the place of the first stripe of a segment, and the place after its last
abbrev pub start_of : Segment → ℕ
start_of segment = segment.group.0 * 131072 + segment.first.0

abbrev pub end_of : Segment → ℕ
end_of segment = start_of segment + segment.stripes

-- the segment has a place from `start` up to before `end`
abbrev pub reaches : ℕ → ℕ → Segment → Bool
reaches start end segment = nat_lt (start_of segment) end && nat_lt start (end_of segment)

-- one of the segments has a place from `start` up to before `end`
abbrev pub one_reaches : ℕ → ℕ → List Segment → Bool
one_reaches start end segments = list_any (reaches start end) segments

-- the segment has at least one place, and none of another group
pub record HasOwnPlaces (segment : Segment) : Type 0 where
  pub near : segment.first.0 ≤ 65535
  pub some_stripe : 1 ≤ segment.stripes
  pub few_stripes : segment.stripes ≤ 65536

-- The map has the end of each segment's run at its start, and no other entry; no two of the runs have a place in common.
pub record HasRuns (ends : BTreeMap ℕ ℕ) (segments : List Segment) : Type 0 where
  pub runs : AllByRecursion HasOwnPlaces segments
  pub long : (start end : ℕ) → get nat_cmp ends start ≡ Some end → start < end
  pub apart : (start end next last : ℕ) → get nat_cmp ends start ≡ Some end → get nat_cmp ends next ≡ Some last → start < next → end ≤ next
  pub only : (start end first last : ℕ) → get nat_cmp ends first ≡ Some last → first < end → start < last
      → one_reaches start end segments ≡ true
  pub each : (start end : ℕ) → one_reaches start end segments ≡ true
      → (first : ℕ) × (last : ℕ) × (get nat_cmp ends first ≡ Some last) × (first < end) × (start < last)

-- of whatever segments the map has the runs, `taken` says whether one of them has a place from `start` up to before `end`
abbrev pub TellsTaken : BTreeMap ℕ ℕ → ℕ → ℕ → Bool → Type 0
TellsTaken ends start end taken = (segments : List Segment) → HasRuns ends segments → taken ≡ one_reaches start end segments

-- of whatever segments the map had the runs, `free` says that no stripe was taken of one more, and then it has that one's too
abbrev pub Takes : BTreeMap ℕ ℕ → BTreeMap ℕ ℕ → Segment → Bool → Type 0
Takes old new segment free =
    (segments : List Segment) → HasRuns old segments
    → (free ≡ not (is_taken segments segment)) × (free ≡ true → HasRuns new (segments ++ (segment ∷ [])))

-- the same of some segments, one after another
abbrev pub TakesAll : BTreeMap ℕ ℕ → BTreeMap ℕ ℕ → List Segment → Bool → Type 0
TakesAll old new more free =
    (segments : List Segment) → HasRuns old segments
    → (free ≡ are_free segments more) × (free ≡ true → HasRuns new (segments ++ more))
