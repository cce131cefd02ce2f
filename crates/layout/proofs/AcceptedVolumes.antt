-- The volumes that the checks accept are within the limits.
use Rattle.std.proofs.Common.{◌≡◌, ℕ, ℤ, ◌+◌, ◌≤◌, nat_le, Bool, true, false, not, ◌&&◌, cond, List, [], ◌∷◌, ◌++◌, length, Option, Some, None, option_and_then, slice_get, IsSomeAnd, Ok, refl, subst, sym, append-nil, append_assoc, arith}
use Rattle.std.specs.List.{IsDistinct, AllByRecursion, list_any}
use Rattle.std.specs.Option.{ok_or}
use Rattle.std.proofs.lemmas.Bool.{and_parts, not-true}
use Rattle.std.proofs.lemmas.Bool.Decides.{nat_tests}
use Rattle.std.proofs.lemmas.List.{flat_map_more, length-append}
use Rattle.fab_base.specs.declared.segments.Segment.{Segment}
use Rattle.fab_base.specs.Layouts.{Group, Volume}
use Rattle.toml.specs.Data.{Data, Members, as_array}
use Rattle.layout.specs.Names.{is_name}
use Rattle.layout.specs.declared.faults.Key.TheVariants as keys
use Rattle.layout.specs.declared.faults.LayoutFault.TheVariants.{Limit}
use Rattle.layout.specs.declared.faults.FieldName.TheVariants.{OtherOfVolume}
use Rattle.layout.specs.Limits.{IsSegment, IsVolume, same_name, AreVolumes}
use Rattle.layout.specs.Runs.{HasOwnPlaces}
use Rattle.layout.specs.Segments.{shares_stripe, is_taken, are_free, AreApart, segments_of}
use Rattle.layout.specs.Checks.{no_field, array_at, tables_in, no_other, natural, within, text_at, has_name, new_name, name_at, rows_in, number_in, stripes_of, segment_in, segments_in, few_segments, listed_segments, free_segments, segments_at, volume_keys, volume_in, volumes_in, up_to_64, volume_tables_in}
use Rattle.layout.proofs.Passing.{passed, there, natural_range, or_both, taken, went_on}

-- a text that is read is a name that no volume before has
record IsNewName (before : List Volume) (name : List ℕ) : Type 0 where
  named : is_name name ≡ true
  free : has_name before name ≡ false

name_is : (before : List Volume) (table : Members) (name : List ℕ) → name_at before table ≡ Ok name → IsNewName before name
name_is before table name is =
    let (text, read, rest) =
    passed (ok_or (text_at table keys.VolumeName) (no_field keys.VolumeName))
    (λ (text : List ℕ). ok_or (new_name before text) (Limit keys.VolumeName)) name is in
    chosen text (is_name text && not (has_name before text)) refl (there (new_name before text) (Limit keys.VolumeName) name rest)
  where
    chosen : (text : List ℕ) (b : Bool) → (is_name text && not (has_name before text)) ≡ b → cond b (Some text) None ≡ Some name
        → IsNewName before name
    chosen text true both same =
        let e : Some text ≡ Some name = same in
        let text_is : text ≡ name = cc in
        let parts = and_parts (is_name text) (not (has_name before text)) both in
        subst (IsNewName before) text_is (record { named = parts.0; free = not-true (has_name before text) parts.1 })
    chosen text false either same = let never : None ≡ Some name = same in cc

-- a segment that is read is one of the groups', and a run
record IsRead (groups : List Group) (segment : Segment) : Type 0 where
  held : IsSegment groups segment
  run : HasOwnPlaces segment

-- the number at a place of a row is within its limits
number_range : (row : List ℤ) (place low high n : ℕ) → number_in row place low high ≡ Some n → (low ≤ n) × (n ≤ high)
number_range row place low high n is = at_place (slice_get row place) is
  where
    at_place : (o : Option ℤ) → option_and_then (natural low high) o ≡ Some n → (low ≤ n) × (n ≤ high)
    at_place None same = let never : None ≡ Some n = same in cc
    at_place (Some z) same = natural_range low high z n same

-- the stripes of a group
abbrev stripes_from : ℕ → ℕ → ℕ → Segment
stripes_from g first stripes = record { group = record { 0 = g }; first = record { 0 = first }; stripes = stripes }

-- the stripes of a group that has them
held_stripes : (groups : List Group) (g first stripes : ℕ) (segment : Segment) (group : Group) → first ≤ 65535 → (1 ≤ stripes) × (stripes ≤ 65536)
    → slice_get groups g ≡ Some group → stripes_of g first stripes group ≡ Some segment → IsRead groups segment
held_stripes groups g first stripes segment group near some here is = fits (nat_le (first + stripes) group.stripes) refl is
  where
    fits : (b : Bool) → nat_le (first + stripes) group.stripes ≡ b → cond b (Some (stripes_from g first stripes)) None ≡ Some segment
        → IsRead groups segment
    fits true within same =
        let e : Some (stripes_from g first stripes) ≡ Some segment = same in
        let segment_is : stripes_from g first stripes ≡ segment = cc in
        let held : first + stripes ≤ group.stripes = grind (arith, nat_tests, within) in
        subst (IsRead groups) segment_is (record {
          held = record {
            some_stripe = some.0;
            held = subst (λ (o : Option Group). IsSomeAnd o (λ (g : Group). first + stripes ≤ g.stripes)) (sym here) held;
          };
          run = record { near = near; some_stripe = some.0; few_stripes = some.1 };
        })
    fits false past same = let never : None ≡ Some segment = same in cc

segment_is : (groups : List Group) (row : List ℤ) (segment : Segment) → segment_in groups row ≡ Some segment → IsRead groups segment
segment_is groups row segment is =
    let (g, g_read, after_g) = went_on (number_in row 0 0 63) _ segment is in
    let (first, first_read, after_first) = went_on (number_in row 1 0 65535) _ segment after_g in
    let (stripes, stripes_read, after_stripes) = went_on (number_in row 2 1 65536) _ segment after_first in
    let (group, here, last) = went_on (slice_get groups g) _ segment after_stripes in
    held_stripes groups g first stripes segment group (number_range row 1 0 65535 first first_read).1
    (number_range row 2 1 65536 stripes stripes_read) here last

segments_are : (groups : List Group) (rows : List (List ℤ)) (segments : List Segment) → segments_in groups rows ≡ Some segments
    → AllByRecursion (IsRead groups) segments
segments_are groups [] segments is =
    let same : Some [] ≡ Some segments = is in
    let empty : [] ≡ segments = cc in
    subst (AllByRecursion (IsRead groups)) empty tt
segments_are groups (row ∷ rows) segments is =
    let (segment, more, here, rest, all) = taken (segment_in groups row) (segments_in groups rows) segments is in
    subst (AllByRecursion (IsRead groups)) (sym all) (segment_is groups row segment here, segments_are groups rows more rest)

-- the segments of a table are 1 to 1,024, and each is read
record AreListed (groups : List Group) (segments : List Segment) : Type 0 where
  some : 1 ≤ length segments
  few : length segments ≤ 1024
  each : AllByRecursion (IsRead groups) segments

few_are : (groups : List Group) (all segments : List Segment) → AllByRecursion (IsRead groups) all → few_segments all ≡ Some segments
    → AreListed groups segments
few_are groups all segments each is = chosen (nat_le 1 (length all) && nat_le (length all) 1024) refl is
  where
    chosen : (b : Bool) → (nat_le 1 (length all) && nat_le (length all) 1024) ≡ b → cond b (Some all) None ≡ Some segments
        → AreListed groups segments
    chosen true both same =
        let e : Some all ≡ Some segments = same in
        let all_are : all ≡ segments = cc in
        let parts = and_parts (nat_le 1 (length all)) (nat_le (length all) 1024) both in
        let low : 1 ≤ length all = grind (arith, nat_tests, parts) in
        let high : length all ≤ 1024 = grind (arith, nat_tests, parts) in
        subst (AreListed groups) all_are (record { some = low; few = high; each = each })
    chosen false either same = let never : None ≡ Some segments = same in cc

listed_when : (groups : List Group) (found : Option (List Segment)) (segments : List Segment)
    → ((all : List Segment) → found ≡ Some all → AllByRecursion (IsRead groups) all)
    → option_and_then few_segments found ≡ Some segments → AreListed groups segments
listed_when groups None segments each is = let never : None ≡ Some segments = is in cc
listed_when groups (Some all) segments each is = few_are groups all segments (each all refl) is

listed_are : (groups : List Group) (table : Members) (segments : List Segment) → listed_segments groups table ≡ Ok segments
    → AreListed groups segments
listed_are groups table segments is =
    let (rows, read, rest) =
    passed (ok_or (option_and_then rows_in (array_at table keys.VolumeSegments)) (no_field keys.VolumeSegments))
    (λ (rows : List (List ℤ)). ok_or (option_and_then few_segments (segments_in groups rows)) (Limit keys.VolumeSegments)) segments is in
    listed_when groups (segments_in groups rows) segments (λ all found. segments_are groups rows all found)
    (there (option_and_then few_segments (segments_in groups rows)) (Limit keys.VolumeSegments) segments rest)

-- each of the segments of a table is a run
runs_of : (groups : List Group) (segments : List Segment) → AllByRecursion (IsRead groups) segments → AllByRecursion HasOwnPlaces segments
runs_of groups [] each = tt
runs_of groups (segment ∷ segments) each = (each.0.run, runs_of groups segments each.1)

pub listed_runs : (groups : List Group) (table : Members) (segments : List Segment) → listed_segments groups table ≡ Ok segments
    → AllByRecursion HasOwnPlaces segments
listed_runs groups table segments is = runs_of groups segments (listed_are groups table segments is).each

-- and each is a segment of the groups
held_of : (groups : List Group) (segments : List Segment) → AllByRecursion (IsRead groups) segments
    → AllByRecursion (IsSegment groups) segments
held_of groups [] each = tt
held_of groups (segment ∷ segments) each = (each.0.held, held_of groups segments each.1)

-- what is true of each of some elements, and of one more, is true of all
all_push : {X : Type 0} (P : X → Type 0) (xs : List X) (y : X) → AllByRecursion P xs → P y → AllByRecursion P (xs ++ (y ∷ []))
all_push P [] y each here = (here, tt)
all_push P (x ∷ xs) y each here = (each.0, all_push P xs y each.1 here)

-- elements that are distinct from each other, and from one more, are distinct with it
distinct_push : {X : Type 0} (same : X → X → Bool) (xs : List X) (y : X) → IsDistinct same xs → list_any (λ x. same x y) xs ≡ false
    → IsDistinct same (xs ++ (y ∷ []))
unfolding IsDistinct
distinct_push same [] y distinct none = (tt, tt)
distinct_push same (x ∷ xs) y distinct none =
    let parts = or_both (same x y) (list_any (λ z. same z y) xs) none in
    (all_push (λ z. same x z ≡ false) xs y distinct.0 parts.0, distinct_push same xs y distinct.1 parts.1)

-- segments whose stripes are free when they come have no stripe twice
apart_after : (before segments : List Segment) → AreApart before → are_free before segments ≡ true → AreApart (before ++ segments)
apart_after before [] apart free = subst AreApart (sym (append-nil before)) apart
apart_after before (segment ∷ segments) apart free =
    let parts = and_parts (not (is_taken before segment)) (are_free (before ++ (segment ∷ [])) segments) free in
    let here = distinct_push shares_stripe before segment apart (not-true (is_taken before segment) parts.0) in
    subst AreApart (append_assoc before (segment ∷ []) segments) (apart_after (before ++ (segment ∷ [])) segments here parts.1)

-- the segments of a volume that stands after these volumes
record AreAfter (groups : List Group) (before : List Volume) (segments : List Segment) : Type 0 where
  listed : AreListed groups segments
  apart : AreApart (segments_of before) → AreApart (segments_of before ++ segments)

after_are : (groups : List Group) (before : List Volume) (table : Members) (segments : List Segment) → segments_at groups before table ≡ Ok segments
    → AreAfter groups before segments
after_are groups before table segments is =
    let (all, read, rest) =
    passed (listed_segments groups table)
    (λ (all : List Segment). ok_or (free_segments (segments_of before) all) (Limit keys.VolumeSegments)) segments is in
    chosen all (listed_are groups table all read) (are_free (segments_of before) all) refl
    (there (free_segments (segments_of before) all) (Limit keys.VolumeSegments) segments rest)
  where
    chosen : (all : List Segment) → AreListed groups all → (b : Bool) → are_free (segments_of before) all ≡ b
        → cond b (Some all) None ≡ Some segments → AreAfter groups before segments
    chosen all listed true free same =
        let e : Some all ≡ Some segments = same in
        let all_are : all ≡ segments = cc in
        subst (AreAfter groups before) all_are
        (record { listed = listed; apart = λ apart. apart_after (segments_of before) all apart free })
    chosen all listed false taken same = let never : None ≡ Some segments = same in cc

-- volumes so far: each is within its limits, their names differ, and no stripe stands in two of their segments
record AreSoFar (groups : List Group) (volumes : List Volume) : Type 0 where
  each : AllByRecursion (IsVolume groups) volumes
  names : IsDistinct same_name volumes
  apart : AreApart (segments_of volumes)

-- the segments of one volume more
segments_more : (volumes : List Volume) (volume : Volume) → segments_of volumes ++ volume.segments ≡ segments_of (volumes ++ (volume ∷ []))
segments_more volumes volume = flat_map_more (λ (v : Volume). v.segments) [] volumes volume

one_more : (groups : List Group) (before : List Volume) (table : Members) (volume : Volume) → volume_in groups before table ≡ Ok volume
    → AreSoFar groups before → AreSoFar groups (before ++ (volume ∷ []))
one_more groups before table volume is so_far =
    let (name, name_read, after_name) = passed (name_at before table) _ volume is in
    let (segments, segments_read, after_segments) = passed (segments_at groups before table) _ volume after_name in
    let (known, known_read, last) = passed (no_other OtherOfVolume volume_keys table) _ volume after_segments in
    let text = name_is before table name name_read in
    let after = after_are groups before table segments segments_read in
    let same : Ok (record { name = name; segments = segments }) ≡ Ok volume = last in
    let volume_same : record { name = name; segments = segments } ≡ volume = cc in
    let one : Volume = record { name = name; segments = segments } in
    subst (λ (v : Volume). AreSoFar groups (before ++ (v ∷ []))) volume_same (record {
      each = all_push (IsVolume groups) before one so_far.each (record {
        named = text.named;
        some_segment = after.listed.some;
        few_segments = after.listed.few;
        each = held_of groups segments after.listed.each;
      });
      names = distinct_push same_name before one so_far.names text.free;
      apart = subst AreApart (segments_more before one) (after.apart so_far.apart);
    })

-- volumes that are read after some are as many more as their tables
record AreMore (groups : List Group) (before : List Volume) (tables : List Members) (volumes : List Volume) : Type 0 where
  count : length volumes ≡ length before + length tables
  so_far : AreSoFar groups volumes

volumes_more : (groups : List Group) (before : List Volume) (tables : List Members) (volumes : List Volume) → AreSoFar groups before
    → volumes_in groups before tables ≡ Ok volumes → AreMore groups before tables volumes
volumes_more groups before [] volumes so_far is =
    let same : Ok before ≡ Ok volumes = is in
    let all : before ≡ volumes = cc in
    subst (AreMore groups before []) all (record { count = omega arith; so_far = so_far })
volumes_more groups before (table ∷ tables) volumes so_far is =
    let (volume, read, rest) = passed (volume_in groups before table) _ volumes is in
    let more = volumes_more groups (before ++ (volume ∷ [])) tables volumes (one_more groups before table volume read so_far) rest in
    let longer : length (before ++ (volume ∷ [])) ≡ length before + 1 = length-append before (volume ∷ []) in
    record { count = omega (arith, more.count, longer); so_far = more.so_far }

-- at most 64 tables
pub few_volume_tables : (o : Option Data) (tables : List Members) → volume_tables_in o ≡ Ok tables → length tables ≤ 64
few_volume_tables None tables is =
    let same : Ok [] ≡ Ok tables = is in
    let empty : [] ≡ tables = cc in
    subst (λ (l : List Members). length l ≤ 64) empty (omega arith)
few_volume_tables (Some value) tables is =
    let (all, read, rest) = passed (ok_or (option_and_then tables_in (as_array value)) (no_field keys.Volume))
    (λ (all : List Members). ok_or (up_to_64 all) (Limit keys.Volume)) tables is in
    few (nat_le (length all) 64) all refl (there (up_to_64 all) (Limit keys.Volume) tables rest)
  where
    few : (b : Bool) (all : List Members) → nat_le (length all) 64 ≡ b → cond b (Some all) None ≡ Some tables → length tables ≤ 64
    few true all small same =
        let e : Some all ≡ Some tables = same in
        let all_same : all ≡ tables = cc in
        let high : length all ≤ 64 = grind (arith, nat_tests, small) in
        subst (λ (l : List Members). length l ≤ 64) all_same high
    few false all big same = let never : None ≡ Some tables = same in cc

-- no volumes so far
none_so_far : (groups : List Group) → AreSoFar groups []
unfolding IsDistinct
none_so_far groups = record { each = tt; names = tt; apart = tt }

pub volumes_are : (groups : List Group) (tables : List Members) (volumes : List Volume) → length tables ≤ 64
    → volumes_in groups [] tables ≡ Ok volumes → AreVolumes groups volumes
volumes_are groups tables volumes few is =
    let all = volumes_more groups [] tables volumes (none_so_far groups) is in
    record {
      few = omega (arith, all.count, few);
      each = all.so_far.each;
      names = all.so_far.names;
      apart = all.so_far.apart;
    }
