-- The checks of a layout text over the table that it is as a TOML document, in their order: the first that fails gives the fault, and
-- where none fails, the table says a layout.
use Rattle.std.specs.Prelude.{ℕ, ℤ, pos, negsuc, ◌+◌, ◌*◌, nat_eq, nat_lt, nat_le, Bool, not, ◌&&◌, if◌then◌else◌, List, [], ◌∷◌, ◌++◌, length, slice_get, Option, Some, None, option_map, option_and_then, Result, Ok, Err}
use Rattle.std.specs.List.{list_any}
use Rattle.std.specs.Option.{ok_or}
use Rattle.std.specs.Ordering.{nat_cmp, is_lt}
use Rattle.std.specs.Cmp.Lexicographic.{slice_cmp}
use Rattle.std.specs.Str.{bytes_eq}
use Rattle.fab_base.specs.declared.identities.BrickId.{BrickId}
use Rattle.fab_base.specs.declared.segments.Segment.{Segment}
use Rattle.fab_base.specs.Layouts.{Group, Volume, Layout}
use Rattle.quorum.specs.Memberships.{are_distinct, is_membership}
use Rattle.toml.specs.Data.{Data, Items, no_items, item, Members, no_members, member, get_member, as_str, as_integer, as_array, as_table}
use Rattle.layout.specs.declared.faults.Key.{Key}
use Rattle.layout.specs.declared.faults.Key.TheVariants as keys
use Rattle.layout.specs.declared.faults.FieldName.{FieldName}
use Rattle.layout.specs.declared.faults.FieldName.TheVariants.{Known, Other, OtherOfGroup, OtherOfVolume}
use Rattle.layout.specs.declared.faults.LayoutFault.{LayoutFault}
use Rattle.layout.specs.declared.faults.LayoutFault.TheVariants.{Field, Limit}
use Rattle.layout.specs.Names.{key_text, is_name}
use Rattle.layout.specs.Segments.{are_free, segments_of}

infixl 10 ◌>>=◌
-- the next check, where this one passed
abbrev pub ◌>>=◌ : {A B : Type 0} → Result A LayoutFault → (A → Result B LayoutFault) → Result B LayoutFault
Ok a >>= next = next a
Err fault >>= next = Err fault

-- a missing key, or a value of a wrong type
abbrev pub no_field : Key → LayoutFault
no_field key = Field (Known key)

-- ---- one value

-- the whole number at a key, if there is one
abbrev pub integer_at : Members → Key → Option ℤ
integer_at table key = option_and_then as_integer (get_member (key_text key) table)

-- the list at a key, if there is one
abbrev pub array_at : Members → Key → Option Items
array_at table key = option_and_then as_array (get_member (key_text key) table)

-- the number, if it is from the lower limit to the upper
abbrev pub natural : ℕ → ℕ → ℤ → Option ℕ
natural low high (pos n) = if nat_le low n && nat_le n high then Some n else None
natural low high (negsuc n) = None

-- a whole number, and then within its limits
abbrev pub within : Key → ℕ → ℕ → Option ℤ → Result ℕ LayoutFault
within key low high None = Err (no_field key)
within key low high (Some z) = ok_or (natural low high z) (Limit key)

-- the number of a key that has to be there
abbrev pub number_at : Members → Key → ℕ → ℕ → Result ℕ LayoutFault
number_at table key low high = within key low high (integer_at table key)

-- the port, 17000 where the key is missing
abbrev pub port_in : Option Data → Result ℕ LayoutFault
port_in None = Ok 17000
port_in (Some value) = within keys.Port 1 65472 (as_integer value)

abbrev pub port_at : Members → Result ℕ LayoutFault
port_at table = port_in (get_member (key_text keys.Port) table)

-- ---- keys that the format has not

-- the lesser of two texts in byte order, if there are two
abbrev pub lesser : List ℕ → Option (List ℕ) → List ℕ
lesser text None = text
lesser text (Some best) = if is_lt (slice_cmp nat_cmp best text) then best else text

-- the text is one of these keys
abbrev pub is_known : List Key → List ℕ → Bool
is_known known text = list_any (λ key. bytes_eq (key_text key) text) known

-- the least of the texts, in byte order, that is none of these keys
abbrev pub least_other : List Key → List (List ℕ) → Option (List ℕ)
least_other known [] = None
least_other known (text ∷ texts) =
    if is_known known text then least_other known texts else Some (lesser text (least_other known texts))

-- the keys of a table
abbrev pub keys_of : Members → List (List ℕ)
keys_of no_members = []
keys_of (member key value rest) = key ∷ keys_of rest

-- no key is another than these
abbrev pub refused_key : (List ℕ → FieldName) → Option (List ℕ) → Result (Unit {0}) LayoutFault
refused_key name None = Ok tt
refused_key name (Some text) = Err (Field (name text))

abbrev pub no_other : (List ℕ → FieldName) → List Key → Members → Result (Unit {0}) LayoutFault
no_other name known table = refused_key name (least_other known (keys_of table))

-- ---- the members of a group

-- the whole numbers of a list, if it has nothing else
abbrev pub integers_in : Items → Option (List ℤ)
integers_in no_items = Some []
integers_in (item value rest) = option_and_then (λ z. option_map (λ more. z ∷ more) (integers_in rest)) (as_integer value)

-- the brick of a number, if the disk has it
abbrev pub brick_in : ℕ → ℤ → Option BrickId
brick_in bricks (pos n) = if nat_lt n bricks then Some (record { 0 = n }) else None
brick_in bricks (negsuc n) = None

-- the bricks of some numbers, if the disk has them all
abbrev pub bricks_in : ℕ → List ℤ → Option (List BrickId)
bricks_in bricks [] = Some []
bricks_in bricks (z ∷ numbers) =
    option_and_then (λ brick. option_map (λ more. brick ∷ more) (bricks_in bricks numbers)) (brick_in bricks z)

-- the members, if they may keep a group of m data blocks
abbrev pub seats_in : ℕ → ℕ → List BrickId → Option (List BrickId)
seats_in m bricks members = if is_membership m bricks members then Some members else None

-- a list of whole numbers, and then m to 32 distinct bricks of the disk
abbrev pub members_at : ℕ → ℕ → Members → Result (List BrickId) LayoutFault
members_at m bricks table = do
  numbers ← ok_or (option_and_then integers_in (array_at table keys.GroupMembers)) (no_field keys.GroupMembers)
  ok_or (option_and_then (seats_in m bricks) (bricks_in bricks numbers)) (Limit keys.GroupMembers)

-- ---- the form of stores, and spares

-- the form of the bricks' stores, 2 where the key is missing
abbrev pub store_in : Option Data → Result ℕ LayoutFault
store_in None = Ok 2
store_in (Some value) = within keys.Store 1 2 (as_integer value)

abbrev pub store_at : Members → Result ℕ LayoutFault
store_at table = store_in (get_member (key_text keys.Store) table)

-- the bricks, if there are at most 64 and none stands twice
abbrev pub up_to_64_bricks : List BrickId → Option (List BrickId)
up_to_64_bricks bricks = if nat_le (length bricks) 64 && are_distinct bricks then Some bricks else None

-- no spares where the key is missing; else a list of whole numbers, and then 0 to 64 distinct bricks of the disk
abbrev pub spares_in : ℕ → Option Data → Result (List BrickId) LayoutFault
spares_in bricks None = Ok []
spares_in bricks (Some value) = do
  numbers ← ok_or (option_and_then integers_in (as_array value)) (no_field keys.Spares)
  ok_or (option_and_then up_to_64_bricks (bricks_in bricks numbers)) (Limit keys.Spares)

abbrev pub spares_at : ℕ → Members → Result (List BrickId) LayoutFault
spares_at bricks table = spares_in bricks (get_member (key_text keys.Spares) table)

-- ---- groups

-- the number of data blocks, if a stripe's data then has at most 32,768 bytes
abbrev pub blocks_in : ℕ → ℕ → Option ℕ
blocks_in block m = if nat_le (m * block) 32768 then Some m else None

abbrev pub blocks_at : ℕ → Members → Result ℕ LayoutFault
blocks_at block table = do
  m ← number_at table keys.GroupM 1 16
  ok_or (blocks_in block m) (Limit keys.GroupM)

-- the keys of a group
abbrev pub group_keys : List Key
group_keys = keys.GroupM ∷ (keys.GroupMembers ∷ (keys.GroupStripes ∷ []))

-- the group of a table
abbrev pub group_in : ℕ → ℕ → Members → Result Group LayoutFault
group_in block bricks table = do
  m ← blocks_at block table
  members ← members_at m bricks table
  stripes ← number_at table keys.GroupStripes 1 65536
  known ← no_other OtherOfGroup group_keys table
  Ok (record { members = members; m = m; stripes = stripes })

-- the tables of a list, if it has nothing else
abbrev pub tables_in : Items → Option (List Members)
tables_in no_items = Some []
tables_in (item value rest) = option_and_then (λ table. option_map (λ more. table ∷ more) (tables_in rest)) (as_table value)

-- 1 to 64 tables
abbrev pub few_tables : List Members → Option (List Members)
few_tables tables = if nat_le 1 (length tables) && nat_le (length tables) 64 then Some tables else None

-- a list of tables, and then 1 to 64 of them
abbrev pub tables_at : Members → Result (List Members) LayoutFault
tables_at table = do
  tables ← ok_or (option_and_then tables_in (array_at table keys.Group)) (no_field keys.Group)
  ok_or (few_tables tables) (Limit keys.Group)

-- the groups of some tables, by number
abbrev pub groups_in : ℕ → ℕ → List Members → Result (List Group) LayoutFault
groups_in block bricks [] = Ok []
groups_in block bricks (table ∷ tables) = do
  group ← group_in block bricks table
  groups ← groups_in block bricks tables
  Ok (group ∷ groups)

-- ---- the name of a volume

-- the text at a key, if there is one
abbrev pub text_at : Members → Key → Option (List ℕ)
text_at table key = option_and_then as_str (get_member (key_text key) table)

-- one of the volumes has this name
abbrev pub has_name : List Volume → List ℕ → Bool
has_name volumes name = list_any (λ volume. bytes_eq volume.name name) volumes

-- the text, if it is a name and none of the volumes has it
abbrev pub new_name : List Volume → List ℕ → Option (List ℕ)
new_name before text = if is_name text && not (has_name before text) then Some text else None

-- the name of a volume that stands after these volumes: a text, and then a name that none of them has
abbrev pub name_at : List Volume → Members → Result (List ℕ) LayoutFault
name_at before table = do
  text ← ok_or (text_at table keys.VolumeName) (no_field keys.VolumeName)
  ok_or (new_name before text) (Limit keys.VolumeName)

-- ---- the segments of a volume

-- the numbers, if there are three
abbrev pub three_of : List ℤ → Option (List ℤ)
three_of numbers = if nat_eq (length numbers) 3 then Some numbers else None

-- the row of a value: a list of three whole numbers and nothing else
abbrev pub row_in : Data → Option (List ℤ)
row_in value = option_and_then three_of (option_and_then integers_in (as_array value))

-- the rows of a list, if it has nothing else
abbrev pub rows_in : Items → Option (List (List ℤ))
rows_in no_items = Some []
rows_in (item value rest) = option_and_then (λ row. option_map (λ more. row ∷ more) (rows_in rest)) (row_in value)

-- the number at a place of a row, if it is from the lower limit to the upper
abbrev pub number_in : List ℤ → ℕ → ℕ → ℕ → Option ℕ
number_in row place low high = option_and_then (natural low high) (slice_get row place)

-- so many stripes of a group from the first on, if it has them
abbrev pub stripes_of : ℕ → ℕ → ℕ → Group → Option Segment
stripes_of g first stripes group =
    if nat_le (first + stripes) group.stripes
    then Some (record { group = record { 0 = g }; first = record { 0 = first }; stripes = stripes }) else None

-- the segment of a row: the number of a group, its first stripe and how many, at least one, if the group has them
abbrev pub segment_in : List Group → List ℤ → Option Segment
segment_in groups row =
    option_and_then (λ g. option_and_then (λ first. option_and_then (λ stripes.
    option_and_then (stripes_of g first stripes) (slice_get groups g))
    (number_in row 2 1 65536)) (number_in row 1 0 65535)) (number_in row 0 0 63)

-- the segments of some rows, if each is one
abbrev pub segments_in : List Group → List (List ℤ) → Option (List Segment)
segments_in groups [] = Some []
segments_in groups (row ∷ rows) =
    option_and_then (λ segment. option_map (λ more. segment ∷ more) (segments_in groups rows)) (segment_in groups row)

-- 1 to 1,024 segments
abbrev pub few_segments : List Segment → Option (List Segment)
few_segments segments = if nat_le 1 (length segments) && nat_le (length segments) 1024 then Some segments else None

-- a list of rows, and then 1 to 1,024 segments of the groups
abbrev pub listed_segments : List Group → Members → Result (List Segment) LayoutFault
listed_segments groups table = do
  rows ← ok_or (option_and_then rows_in (array_at table keys.VolumeSegments)) (no_field keys.VolumeSegments)
  ok_or (option_and_then few_segments (segments_in groups rows)) (Limit keys.VolumeSegments)

-- the segments, if each of their stripes is free when its segment comes
abbrev pub free_segments : List Segment → List Segment → Option (List Segment)
free_segments before segments = if are_free before segments then Some segments else None

-- the segments of a volume that stands after these volumes: no stripe stands in two, those of the volumes before included
abbrev pub segments_at : List Group → List Volume → Members → Result (List Segment) LayoutFault
segments_at groups before table = do
  segments ← listed_segments groups table
  ok_or (free_segments (segments_of before) segments) (Limit keys.VolumeSegments)

-- ---- volumes

-- the keys of a volume
abbrev pub volume_keys : List Key
volume_keys = keys.VolumeName ∷ (keys.VolumeSegments ∷ [])

-- the volume of a table that stands after these volumes
abbrev pub volume_in : List Group → List Volume → Members → Result Volume LayoutFault
volume_in groups before table = do
  name ← name_at before table
  segments ← segments_at groups before table
  known ← no_other OtherOfVolume volume_keys table
  Ok (record { name = name; segments = segments })

-- these volumes, and after them those of some tables, in their order
abbrev pub volumes_in : List Group → List Volume → List Members → Result (List Volume) LayoutFault
volumes_in groups before [] = Ok before
volumes_in groups before (table ∷ tables) = do
  volume ← volume_in groups before table
  volumes_in groups (before ++ (volume ∷ [])) tables

-- at most 64 tables
abbrev pub up_to_64 : List Members → Option (List Members)
up_to_64 tables = if nat_le (length tables) 64 then Some tables else None

-- no tables where the key is missing; else a list of tables, and then at most 64 of them
abbrev pub volume_tables_in : Option Data → Result (List Members) LayoutFault
volume_tables_in None = Ok []
volume_tables_in (Some value) = do
  tables ← ok_or (option_and_then tables_in (as_array value)) (no_field keys.Volume)
  ok_or (up_to_64 tables) (Limit keys.Volume)

abbrev pub volume_tables_at : Members → Result (List Members) LayoutFault
volume_tables_at table = volume_tables_in (get_member (key_text keys.Volume) table)

-- ---- the whole table

-- the keys at the top
abbrev pub top_keys : List Key
top_keys =
    keys.Block ∷ (keys.Bricks ∷ (keys.Records ∷ (keys.Port ∷ (keys.Store ∷ (keys.Spares ∷ (keys.Group ∷ (keys.Volume ∷ [])))))))

-- the layout with these values at its keys
abbrev pub layout_with : ℕ → ℕ → ℕ → ℕ → ℕ → List BrickId → List Group → List Volume → Layout
layout_with block bricks records port store spares groups volumes =
    record {
      block = block;
      bricks = bricks;
      records = records;
      port = port;
      store = store;
      spares = spares;
      groups = groups;
      volumes = volumes;
    }

-- the layout that the table of a text says
abbrev pub layout_in : Members → Result Layout LayoutFault
layout_in table = do
  block ← number_at table keys.Block 1 4096
  bricks ← number_at table keys.Bricks 1 64
  records ← number_at table keys.Records 1 1048576
  port ← port_at table
  store ← store_at table
  spares ← spares_at bricks table
  tables ← tables_at table
  volume_tables ← volume_tables_at table
  groups ← groups_in block bricks tables
  volumes ← volumes_in groups [] volume_tables
  known ← no_other Other top_keys table
  Ok (layout_with block bricks records port store spares groups volumes)
