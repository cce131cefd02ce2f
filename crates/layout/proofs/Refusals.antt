-- The faults that the checks of a table give: those of a field or a limit.
use Rattle.std.proofs.Common.{◌≡◌, ◌≢◌, ℕ, ℤ, List, [], ◌∷◌, ◌++◌, Option, Some, None, Result, Ok, Err, IfErr, option_and_then, refl, subst}
use Rattle.std.specs.Option.{ok_or}
use Rattle.toml.specs.Data.{Data, Members, as_integer, as_array, get_member}
use Rattle.layout.specs.declared.faults.Key.{Key}
use Rattle.layout.specs.declared.faults.Key.TheVariants as keys
use Rattle.layout.specs.declared.faults.FieldName.{FieldName}
use Rattle.layout.specs.declared.faults.FieldName.TheVariants.{Other, OtherOfGroup, OtherOfVolume}
use Rattle.layout.specs.declared.faults.LayoutFault.{LayoutFault}
use Rattle.layout.specs.declared.faults.LayoutFault.TheVariants.{Toml, Field, Limit, NoMemory}
use Rattle.fab_base.specs.declared.identities.BrickId.{BrickId}
use Rattle.fab_base.specs.Layouts.{Group, Volume, Layout}
use Rattle.layout.specs.Names.{key_text}
use Rattle.layout.specs.Checks.{◌>>=◌, no_field, natural, within, integer_at, array_at, number_at, port_in, port_at, least_other, keys_of, refused_key, no_other, integers_in, bricks_in, seats_in, members_at, store_in, store_at, up_to_64_bricks, spares_in, spares_at, blocks_in, blocks_at, group_keys, group_in, tables_in, few_tables, tables_at, groups_in, text_at, new_name, name_at, rows_in, segments_in, few_segments, listed_segments, free_segments, segments_at, volume_keys, volume_in, volumes_in, up_to_64, volume_tables_in, volume_tables_at, top_keys, layout_in}
use Rattle.layout.specs.Segments.{segments_of}
use Rattle.layout.specs.Texts.{document_of, layout_or, layout_of}

-- a fault of a field or a limit
abbrev pub IsOfTable : LayoutFault → Type 0
IsOfTable (Field name) = Unit {0}
IsOfTable (Limit key) = Unit {0}
IsOfTable Toml = ⊥
IsOfTable NoMemory = ⊥

-- passed, or refused by a field or a limit
abbrev pub ChecksTable : {A : Type 0} → Result A LayoutFault → Type 0
ChecksTable (Ok a) = Unit {0}
ChecksTable (Err fault) = IsOfTable fault

then_checks : {A B : Type 0} (first : Result A LayoutFault) (next : A → Result B LayoutFault) → ChecksTable first → ((a : A) → ChecksTable (next a))
    → ChecksTable (first >>= next)
then_checks (Ok a) next here rest = rest a
then_checks (Err fault) next here rest = here

or_checks : {A : Type 0} (o : Option A) (fault : LayoutFault) → IsOfTable fault → ChecksTable (ok_or o fault)
or_checks None fault of_table = of_table
or_checks (Some a) fault of_table = tt

within_checks : (key : Key) (low high : ℕ) (o : Option ℤ) → ChecksTable (within key low high o)
within_checks key low high None = tt
within_checks key low high (Some z) = or_checks (natural low high z) (Limit key) tt

port_checks : (o : Option Data) → ChecksTable (port_in o)
port_checks None = tt
port_checks (Some value) = within_checks keys.Port 1 65472 (as_integer value)

key_checks : (name : List ℕ → FieldName) (o : Option (List ℕ)) → ChecksTable (refused_key name o)
key_checks name None = tt
key_checks name (Some text) = tt

members_checks : (m bricks : ℕ) (table : Members) → ChecksTable (members_at m bricks table)
members_checks m bricks table =
    then_checks (ok_or (option_and_then integers_in (array_at table keys.GroupMembers)) (no_field keys.GroupMembers)) _
    (or_checks (option_and_then integers_in (array_at table keys.GroupMembers)) (no_field keys.GroupMembers) tt)
    (λ (numbers : List ℤ). or_checks (option_and_then (seats_in m bricks) (bricks_in bricks numbers)) (Limit keys.GroupMembers) tt)

blocks_checks : (block : ℕ) (table : Members) → ChecksTable (blocks_at block table)
blocks_checks block table =
    then_checks (number_at table keys.GroupM 1 16) _ (within_checks keys.GroupM 1 16 (integer_at table keys.GroupM))
    (λ (m : ℕ). or_checks (blocks_in block m) (Limit keys.GroupM) tt)

group_checks : (block bricks : ℕ) (table : Members) → ChecksTable (group_in block bricks table)
group_checks block bricks table =
    then_checks (blocks_at block table) _ (blocks_checks block table) (λ (m : ℕ).
    then_checks (members_at m bricks table) _ (members_checks m bricks table) (λ members.
    then_checks (number_at table keys.GroupStripes 1 65536) _ (within_checks keys.GroupStripes 1 65536 (integer_at table keys.GroupStripes))
    (λ (stripes : ℕ).
    then_checks (no_other OtherOfGroup group_keys table) _ (key_checks OtherOfGroup (least_other group_keys (keys_of table))) (λ known. tt))))

groups_checks : (block bricks : ℕ) (tables : List Members) → ChecksTable (groups_in block bricks tables)
groups_checks block bricks [] = tt
groups_checks block bricks (table ∷ tables) =
    then_checks (group_in block bricks table) _ (group_checks block bricks table) (λ group.
    then_checks (groups_in block bricks tables) _ (groups_checks block bricks tables) (λ groups. tt))

tables_checks : (table : Members) → ChecksTable (tables_at table)
tables_checks table =
    then_checks (ok_or (option_and_then tables_in (array_at table keys.Group)) (no_field keys.Group)) _
    (or_checks (option_and_then tables_in (array_at table keys.Group)) (no_field keys.Group) tt)
    (λ (tables : List Members). or_checks (few_tables tables) (Limit keys.Group) tt)

name_checks : (before : List Volume) (table : Members) → ChecksTable (name_at before table)
name_checks before table =
    then_checks (ok_or (text_at table keys.VolumeName) (no_field keys.VolumeName)) _
    (or_checks (text_at table keys.VolumeName) (no_field keys.VolumeName) tt)
    (λ (text : List ℕ). or_checks (new_name before text) (Limit keys.VolumeName) tt)

listed_checks : (groups : List Group) (table : Members) → ChecksTable (listed_segments groups table)
listed_checks groups table =
    then_checks (ok_or (option_and_then rows_in (array_at table keys.VolumeSegments)) (no_field keys.VolumeSegments)) _
    (or_checks (option_and_then rows_in (array_at table keys.VolumeSegments)) (no_field keys.VolumeSegments) tt)
    (λ (rows : List (List ℤ)). or_checks (option_and_then few_segments (segments_in groups rows)) (Limit keys.VolumeSegments) tt)

segments_checks : (groups : List Group) (before : List Volume) (table : Members) → ChecksTable (segments_at groups before table)
segments_checks groups before table =
    then_checks (listed_segments groups table) _ (listed_checks groups table)
    (λ segments. or_checks (free_segments (segments_of before) segments) (Limit keys.VolumeSegments) tt)

volume_checks : (groups : List Group) (before : List Volume) (table : Members) → ChecksTable (volume_in groups before table)
volume_checks groups before table =
    then_checks (name_at before table) _ (name_checks before table) (λ name.
    then_checks (segments_at groups before table) _ (segments_checks groups before table) (λ segments.
    then_checks (no_other OtherOfVolume volume_keys table) _ (key_checks OtherOfVolume (least_other volume_keys (keys_of table))) (λ known. tt)))

volumes_checks : (groups : List Group) (before : List Volume) (tables : List Members) → ChecksTable (volumes_in groups before tables)
volumes_checks groups before [] = tt
volumes_checks groups before (table ∷ tables) =
    then_checks (volume_in groups before table) _ (volume_checks groups before table)
    (λ (volume : Volume). volumes_checks groups (before ++ (volume ∷ [])) tables)

volume_tables_checks : (o : Option Data) → ChecksTable (volume_tables_in o)
volume_tables_checks None = tt
volume_tables_checks (Some value) =
    then_checks (ok_or (option_and_then tables_in (as_array value)) (no_field keys.Volume)) _
    (or_checks (option_and_then tables_in (as_array value)) (no_field keys.Volume) tt)
    (λ (tables : List Members). or_checks (up_to_64 tables) (Limit keys.Volume) tt)

store_checks : (table : Members) → ChecksTable (store_at table)
store_checks table = by_value (get_member (key_text keys.Store) table)
  where
    by_value : (o : Option Data) → ChecksTable (store_in o)
    by_value None = tt
    by_value (Some value) = within_checks keys.Store 1 2 (as_integer value)

spares_checks : (bricks : ℕ) (table : Members) → ChecksTable (spares_at bricks table)
spares_checks bricks table = by_value (get_member (key_text keys.Spares) table)
  where
    by_value : (o : Option Data) → ChecksTable (spares_in bricks o)
    by_value None = tt
    by_value (Some value) =
        then_checks (ok_or (option_and_then integers_in (as_array value)) (no_field keys.Spares)) _
        (or_checks (option_and_then integers_in (as_array value)) (no_field keys.Spares) tt)
        (λ (numbers : List ℤ). or_checks (option_and_then up_to_64_bricks (bricks_in bricks numbers)) (Limit keys.Spares) tt)

-- the checks of a whole table
pub layout_checks : (table : Members) → ChecksTable (layout_in table)
layout_checks table =
    then_checks (number_at table keys.Block 1 4096) _ (within_checks keys.Block 1 4096 (integer_at table keys.Block)) (λ (block : ℕ).
    then_checks (number_at table keys.Bricks 1 64) _ (within_checks keys.Bricks 1 64 (integer_at table keys.Bricks)) (λ (bricks : ℕ).
    then_checks (number_at table keys.Records 1 1048576) _ (within_checks keys.Records 1 1048576 (integer_at table keys.Records)) (λ (records : ℕ).
    then_checks (port_at table) _ (port_checks (get_member (key_text keys.Port) table)) (λ (port : ℕ).
    then_checks (store_at table) _ (store_checks table) (λ (store : ℕ).
    then_checks (spares_at bricks table) _ (spares_checks bricks table) (λ (spares : List BrickId).
    then_checks (tables_at table) _ (tables_checks table) (λ tables.
    then_checks (volume_tables_at table) _ (volume_tables_checks (get_member (key_text keys.Volume) table)) (λ volume_tables.
    then_checks (groups_in block bricks tables) _ (groups_checks block bricks tables) (λ groups.
    then_checks (volumes_in groups [] volume_tables) _ (volumes_checks groups [] volume_tables) (λ volumes.
    then_checks (no_other Other top_keys table) _ (key_checks Other (least_other top_keys (keys_of table))) (λ known. tt)))))))))))

-- a fault of the checks is one of a field or a limit
pub fault_of_table : (table : Members) (fault : LayoutFault) → layout_in table ≡ Err fault → IsOfTable fault
fault_of_table table fault is = subst (λ (r : Result Layout LayoutFault). ChecksTable r) is (layout_checks table)

-- no document is what `Toml` says
pub toml-none : (text : List ℕ) → layout_of text ≡ Err Toml → document_of text ≡ None
toml-none text is = by_document (document_of text) is
  where
    by_document : (document : Option Members) → layout_or document ≡ Err Toml → document ≡ None
    by_document None same = refl
    by_document (Some table) same = absurd (fault_of_table table Toml same)

-- no text says that memory ran out
pub never_memory : (text : List ℕ) → layout_of text ≢ Err NoMemory
never_memory text = by_document (document_of text)
  where
    by_document : (document : Option Members) → layout_or document ≡ Err NoMemory → ⊥
    by_document None same = let never : Err Toml ≡ Err NoMemory = same in cc
    by_document (Some table) same = fault_of_table table NoMemory same

-- the reading of a table does not say that the text is no document
pub never_toml : (table : Members) (r : Result Layout LayoutFault)
    → IfErr r (λ (fault : LayoutFault). fault ≢ NoMemory → layout_in table ≡ Err fault)
    → r ≡ Err Toml → ⊥
never_toml table r refused is =
    let read = subst (λ (x : Result Layout LayoutFault). IfErr x (λ (fault : LayoutFault). fault ≢ NoMemory
    → layout_in table ≡ Err fault)) is refused in
    fault_of_table table Toml (read (λ (same : Toml ≡ NoMemory). cc))
