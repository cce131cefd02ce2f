-- What the checks accept is within the limits.
use Rattle.std.proofs.Common.{◌≡◌, ℕ, ℤ, pos, negsuc, zero, suc, ◌*◌, ◌<◌, ◌≤◌, nat_eq, nat_lt, nat_le, Bool, true, false, not, ◌&&◌, cond, List, [], ◌∷◌, length, map, Option, Some, None, option_and_then, slice_get, Ok, Err, refl, ap, subst, sym, arith}
use Rattle.std.specs.List.{IsDistinct, AllByRecursion, list_all}
use Rattle.std.specs.Option.{ok_or}
use Rattle.std.proofs.lemmas.Bool.{and_parts, not-true}
use Rattle.std.proofs.lemmas.Bool.Decides.{nat_tests}
use Rattle.fab_base.specs.declared.identities.BrickId.{BrickId}
use Rattle.fab_base.specs.Layouts.{Group, Layout}
use Rattle.toml.specs.Data.{Data, Members, as_integer, get_member}
use Rattle.quorum.specs.Memberships.{stands_in, are_distinct, is_membership}
use Rattle.layout.specs.Names.{key_text}
use Rattle.layout.specs.declared.faults.Key.TheVariants as keys
use Rattle.layout.specs.declared.faults.LayoutFault.TheVariants.{Toml, Limit}
use Rattle.layout.specs.declared.faults.FieldName.TheVariants.{OtherOfGroup}
use Rattle.layout.specs.Limits.{IsGroup, IsLayout}
use Rattle.layout.specs.Texts.{document_of, layout_or, layout_of}
use Rattle.layout.specs.Checks.{no_field, integer_at, array_at, integers_in, tables_in, no_other, group_keys, port_in, number_at, blocks_in, blocks_at, brick_in, bricks_in, seats_in, members_at, group_in, few_tables, tables_at, groups_in, layout_in}
use Rattle.layout.proofs.Parts.{parts_of}
use Rattle.layout.proofs.Passing.{passed, there, within_range, or_both, taken}
use Rattle.layout.proofs.AcceptedVolumes.{few_volume_tables, volumes_are}

-- the port is between its limits, the default too
port_range : (o : Option Data) (port : ℕ) → port_in o ≡ Ok port → (1 ≤ port) × (port ≤ 65472)
port_range None port is =
    let same : Ok 17000 ≡ Ok port = is in
    let e : 17000 ≡ port = cc in
    (omega (arith, e), omega (arith, e))
port_range (Some value) port is = within_range keys.Port 1 65472 (as_integer value) port is

-- the brick of a number
abbrev numbered : ℕ → BrickId
numbered n = record { 0 = n }

brick_below : (bricks : ℕ) (z : ℤ) (brick : BrickId) → brick_in bricks z ≡ Some brick → brick.0 < bricks
brick_below bricks (negsuc k) brick is = let never : None ≡ Some brick = is in cc
brick_below bricks (pos k) brick is = in_disk (nat_lt k bricks) refl is
  where
    in_disk : (b : Bool) → nat_lt k bricks ≡ b → cond b (Some (numbered k)) None ≡ Some brick → brick.0 < bricks
    in_disk true below same =
        let e : Some (numbered k) ≡ Some brick = same in
        let brick_is : numbered k ≡ brick = cc in
        let k_is : k ≡ brick.0 = ap (λ (b : BrickId). b.0) brick_is in
        let lt : k < bricks = grind (arith, nat_tests, below) in
        omega arith
    in_disk false past same = let never : None ≡ Some brick = same in cc

-- the bricks are those of the disk
bricks_below : (bricks : ℕ) (numbers : List ℤ) (members : List BrickId) → bricks_in bricks numbers ≡ Some members
    → AllByRecursion (λ (member : BrickId). member.0 < bricks) members
bricks_below bricks [] members is =
    let same : Some [] ≡ Some members = is in
    let empty : [] ≡ members = cc in
    subst (AllByRecursion (λ (member : BrickId). member.0 < bricks)) empty tt
bricks_below bricks (z ∷ numbers) members is =
    let (brick, more, here, rest, members_are) = taken (brick_in bricks z) (bricks_in bricks numbers) members is in
    subst (AllByRecursion (λ (member : BrickId). member.0 < bricks)) (sym members_are)
    (brick_below bricks z brick here, bricks_below bricks numbers more rest)

-- no other has the brick's number
none_equal : (brick : BrickId) (members : List BrickId) → stands_in members brick ≡ false
    → AllByRecursion (λ n. nat_eq brick.0 n ≡ false) (map (λ (member : BrickId). member.0) members)
none_equal brick [] none = tt
none_equal brick (member ∷ members) none =
    let parts = or_both (nat_eq brick.0 member.0) (stands_in members brick) none in
    (parts.0, none_equal brick members parts.1)

-- where no brick stands twice, their numbers are distinct
numbers_distinct : (members : List BrickId) → are_distinct members ≡ true → IsDistinct nat_eq (map (λ (member : BrickId). member.0) members)
unfolding IsDistinct
numbers_distinct [] once = tt
numbers_distinct (brick ∷ members) once =
    let parts = and_parts (not (stands_in members brick)) (are_distinct members) once in
    (none_equal brick members (not-true (stands_in members brick) parts.0), numbers_distinct members parts.1)

-- what the members of an accepted group meet
record AreMembers (m bricks : ℕ) (members : List BrickId) : Type 0 where
  enough : m ≤ length members
  few : length members ≤ 32
  once : are_distinct members ≡ true
  below : AllByRecursion (λ (member : BrickId). member.0 < bricks) members

-- a list that may keep a group meets it
membership_are : (m bricks : ℕ) (members : List BrickId) → AllByRecursion (λ (member : BrickId). member.0 < bricks) members
    → is_membership m bricks members ≡ true → AreMembers m bricks members
unfolding is_membership
membership_are m bricks members below is =
    let parts = and_parts (nat_le m (length members) && nat_le (length members) 32) (are_distinct members && list_all (λ brick. nat_lt brick.0 bricks) members) is in
    let sizes = and_parts (nat_le m (length members)) (nat_le (length members) 32) parts.0 in
    let once = and_parts (are_distinct members) (list_all (λ brick. nat_lt brick.0 bricks) members) parts.1 in
    record { enough = grind (arith, nat_tests, sizes); few = grind (arith, nat_tests, sizes); once = once.0; below = below }

seats_are : (m bricks : ℕ) (members seats : List BrickId) → AllByRecursion (λ (member : BrickId). member.0 < bricks) members
    → seats_in m bricks members ≡ Some seats → AreMembers m bricks seats
seats_are m bricks members seats below is = chosen (is_membership m bricks members) refl is
  where
    chosen : (b : Bool) → is_membership m bricks members ≡ b → cond b (Some members) None ≡ Some seats → AreMembers m bricks seats
    chosen true all same =
        let e : Some members ≡ Some seats = same in
        let seats_are_all : members ≡ seats = cc in
        subst (AreMembers m bricks) seats_are_all (membership_are m bricks members below all)
    chosen false some same = let never : None ≡ Some seats = same in cc

seated : (m bricks : ℕ) (numbers : List ℤ) (found : Option (List BrickId)) (members : List BrickId) → bricks_in bricks numbers ≡ found
    → option_and_then (seats_in m bricks) found ≡ Some members → AreMembers m bricks members
seated m bricks numbers None members found_is is = let never : None ≡ Some members = is in cc
seated m bricks numbers (Some all) members found_is is = seats_are m bricks all members (bricks_below bricks numbers all found_is) is

members_are : (m bricks : ℕ) (table : Members) (members : List BrickId) → members_at m bricks table ≡ Ok members → AreMembers m bricks members
members_are m bricks table members is =
    let (numbers, read, rest) =
    passed (ok_or (option_and_then integers_in (array_at table keys.GroupMembers)) (no_field keys.GroupMembers))
    (λ (numbers : List ℤ). ok_or (option_and_then (seats_in m bricks) (bricks_in bricks numbers)) (Limit keys.GroupMembers)) members is in
    seated m bricks numbers (bricks_in bricks numbers) members refl (there (option_and_then (seats_in m bricks) (bricks_in bricks numbers))
    (Limit keys.GroupMembers) members rest)

-- the number of data blocks is within its limits, and a stripe's data too
blocks_are : (block : ℕ) (table : Members) (m : ℕ) → blocks_at block table ≡ Ok m → (1 ≤ m) × (m ≤ 16) × (m * block ≤ 32768)
blocks_are block table m is =
    let (n, read, rest) = passed (number_at table keys.GroupM 1 16) (λ (n : ℕ). ok_or (blocks_in block n) (Limit keys.GroupM)) m is in
    let range = within_range keys.GroupM 1 16 (integer_at table keys.GroupM) n read in
    fits (nat_le (n * block) 32768) n m refl range (there (blocks_in block n) (Limit keys.GroupM) m rest)
  where
    fits : (b : Bool) (n m : ℕ) → nat_le (n * block) 32768 ≡ b → (1 ≤ n) × (n ≤ 16) → cond b (Some n) None ≡ Some m → (1 ≤ m) × (m ≤ 16)
        × (m * block ≤ 32768)
    fits true n m small range same =
        let e : Some n ≡ Some m = same in
        let n_is : n ≡ m = cc in
        let room : n * block ≤ 32768 = grind (arith, nat_tests, small) in
        subst (λ (k : ℕ). (1 ≤ k) × (k ≤ 16) × (k * block ≤ 32768)) n_is (range.0, range.1, room)
    fits false n m big range same = let never : None ≡ Some m = same in cc

-- an accepted group is within the limits
pub group_is : (block bricks : ℕ) (table : Members) (group : Group) → group_in block bricks table ≡ Ok group → IsGroup block bricks group
group_is block bricks table group is =
    let (m, m_read, after_m) = passed (blocks_at block table) _ group is in
    let (members, members_read, after_members) = passed (members_at m bricks table) _ group after_m in
    let (stripes, stripes_read, after_stripes) = passed (number_at table keys.GroupStripes 1 65536) _ group after_members in
    let (known, known_read, last) = passed (no_other OtherOfGroup group_keys table) _ group after_stripes in
    let blocks = blocks_are block table m m_read in
    let seats = members_are m bricks table members members_read in
    let range = within_range keys.GroupStripes 1 65536 (integer_at table keys.GroupStripes) stripes stripes_read in
    let same : Ok (record { members = members; m = m; stripes = stripes }) ≡ Ok group = last in
    let group_same : record { members = members; m = m; stripes = stripes } ≡ group = cc in
    subst (IsGroup block bricks) group_same (record {
      limits = record { some_block = blocks.0; few_blocks = blocks.1; enough_seats = seats.enough; few_seats = seats.few };
      room = blocks.2;
      distinct = numbers_distinct members seats.once;
      below = seats.below;
      some_stripe = range.0;
      few_stripes = range.1;
    })

-- accepted groups are as many as their tables, and each is within the limits
record AreGroups (block bricks : ℕ) (tables : List Members) (groups : List Group) : Type 0 where
  count : length groups ≡ length tables
  each : (g : ℕ) (group : Group) → slice_get groups g ≡ Some group → IsGroup block bricks group

groups_are : (block bricks : ℕ) (tables : List Members) (groups : List Group) → groups_in block bricks tables ≡ Ok groups
    → AreGroups block bricks tables groups
groups_are block bricks [] groups is =
    let same : Ok [] ≡ Ok groups = is in
    let empty : [] ≡ groups = cc in
    subst (AreGroups block bricks []) empty (record { count = refl; each = λ g group found. let never : None ≡ Some group = found in cc })
groups_are block bricks (table ∷ tables) groups is =
    let (first, first_read, after_first) = passed (group_in block bricks table) _ groups is in
    let (more, more_read, last) = passed (groups_in block bricks tables) _ groups after_first in
    let same : Ok (first ∷ more) ≡ Ok groups = last in
    let groups_same : first ∷ more ≡ groups = cc in
    let rest = groups_are block bricks tables more more_read in
    subst (AreGroups block bricks (table ∷ tables)) groups_same (record {
      count = ap (λ n. suc n) rest.count;
      each = either first more (group_is block bricks table first first_read) rest.each;
    })
  where
    either : (first : Group) (more : List Group) → IsGroup block bricks first
        → ((g : ℕ) (group : Group) → slice_get more g ≡ Some group → IsGroup block bricks group)
        → (g : ℕ) (group : Group) → slice_get (first ∷ more) g ≡ Some group → IsGroup block bricks group
    either first more here rest zero group found =
        let same : Some first ≡ Some group = found in
        let e : first ≡ group = cc in
        subst (IsGroup block bricks) e here
    either first more here rest (suc g) group found = rest g group found

-- 1 to 64 tables
tables_are : (table : Members) (tables : List Members) → tables_at table ≡ Ok tables → (1 ≤ length tables) × (length tables ≤ 64)
tables_are table tables is =
    let (all, read, rest) = passed (ok_or (option_and_then tables_in (array_at table keys.Group)) (no_field keys.Group))
    (λ (all : List Members). ok_or (few_tables all) (Limit keys.Group)) tables is in
    few (nat_le 1 (length all) && nat_le (length all) 64) all refl (there (few_tables all) (Limit keys.Group) tables rest)
  where
    few : (b : Bool) (all : List Members) → (nat_le 1 (length all) && nat_le (length all) 64) ≡ b → cond b (Some all) None ≡ Some tables
        → (1 ≤ length tables) × (length tables ≤ 64)
    few true all sizes same =
        let e : Some all ≡ Some tables = same in
        let all_same : all ≡ tables = cc in
        let parts = and_parts (nat_le 1 (length all)) (nat_le (length all) 64) sizes in
        let low : 1 ≤ length all = grind (arith, nat_tests, parts) in
        let high : length all ≤ 64 = grind (arith, nat_tests, parts) in
        subst (λ (l : List Members). (1 ≤ length l) × (length l ≤ 64)) all_same (low, high)
    few false all sizes same = let never : None ≡ Some tables = same in cc

-- as many groups as tables
counted : (n tables : ℕ) → n ≡ tables → (1 ≤ tables) × (tables ≤ 64) → (1 ≤ n) × (n ≤ 64)
counted n tables same count = subst (λ (k : ℕ). (1 ≤ k) × (k ≤ 64)) (sym same) count

-- an accepted layout is within the limits
pub layout_is : (table : Members) (layout : Layout) → layout_in table ≡ Ok layout → IsLayout layout
layout_is table layout is =
    let (p, same) = parts_of table layout is in
    let bytes = within_range keys.Block 1 4096 (integer_at table keys.Block) p.block p.block_read in
    let disk = within_range keys.Bricks 1 64 (integer_at table keys.Bricks) p.bricks p.bricks_read in
    let room = within_range keys.Records 1 1048576 (integer_at table keys.Records) p.records p.records_read in
    let ports = port_range (get_member (key_text keys.Port) table) p.port p.port_read in
    let count = tables_are table p.tables p.tables_read in
    let all = groups_are p.block p.bricks p.tables p.groups p.groups_read in
    let number = counted (length p.groups) (length p.tables) all.count count in
    let few = few_volume_tables (get_member (key_text keys.Volume) table) p.volume_tables p.volume_tables_read in
    subst IsLayout same (record {
      some_byte = bytes.0;
      few_bytes = bytes.1;
      some_brick = disk.0;
      few_bricks = disk.1;
      some_record = room.0;
      few_records = room.1;
      some_port = ports.0;
      few_ports = ports.1;
      some_group = number.0;
      few_groups = number.1;
      each = all.each;
      volumes = volumes_are p.groups p.volume_tables p.volumes few p.volumes_read;
    })

-- what a text says is within the limits
pub accepted_is : (text : List ℕ) (layout : Layout) → layout_of text ≡ Ok layout → IsLayout layout
accepted_is text layout is = by_document (document_of text) is
  where
    by_document : (document : Option Members) → layout_or document ≡ Ok layout → IsLayout layout
    by_document None same = let never : Err Toml ≡ Ok layout = same in cc
    by_document (Some table) same = layout_is table layout same
