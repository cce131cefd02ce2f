-- The checks of a table, one after another: what each of them gave, where all passed.
use Rattle.std.proofs.Common.{◌≡◌, ℕ, List, [], Ok, refl}
use Rattle.fab_base.specs.declared.identities.BrickId.{BrickId}
use Rattle.fab_base.specs.Layouts.{Group, Volume, Layout}
use Rattle.toml.specs.Data.{Members}
use Rattle.layout.specs.declared.faults.Key.TheVariants as keys
use Rattle.layout.specs.declared.faults.FieldName.TheVariants.{Other}
use Rattle.layout.specs.Checks.{no_other, number_at, port_at, store_at, spares_at, tables_at, volume_tables_at, groups_in, volumes_in, top_keys, layout_with, layout_in}
use Rattle.layout.proofs.Passing.{passed, made}

-- what each check gave
pub record Parts (table : Members) : Type 0 where
  pub block : ℕ
  pub bricks : ℕ
  pub records : ℕ
  pub port : ℕ
  pub store : ℕ
  pub spares : List BrickId
  pub tables : List Members
  pub volume_tables : List Members
  pub groups : List Group
  pub volumes : List Volume
  pub known : Unit {0}
  pub block_read : number_at table keys.Block 1 4096 ≡ Ok block
  pub bricks_read : number_at table keys.Bricks 1 64 ≡ Ok bricks
  pub records_read : number_at table keys.Records 1 1048576 ≡ Ok records
  pub port_read : port_at table ≡ Ok port
  pub store_read : store_at table ≡ Ok store
  pub spares_read : spares_at bricks table ≡ Ok spares
  pub tables_read : tables_at table ≡ Ok tables
  pub volume_tables_read : volume_tables_at table ≡ Ok volume_tables
  pub groups_read : groups_in block bricks tables ≡ Ok groups
  pub volumes_read : volumes_in groups [] volume_tables ≡ Ok volumes
  pub known_read : no_other Other top_keys table ≡ Ok known

-- the layout of what they gave
abbrev pub said : (table : Members) → Parts table → Layout
said table p = layout_with p.block p.bricks p.records p.port p.store p.spares p.groups p.volumes

-- where a table says a layout, each check passed, and the layout is what they gave
pub parts_of : (table : Members) (layout : Layout) → layout_in table ≡ Ok layout
    → (p : Parts table) × (said table p ≡ layout)
parts_of table layout is =
    let (block, block_read, after_block) = passed (number_at table keys.Block 1 4096) _ layout is in
    let (bricks, bricks_read, after_bricks) = passed (number_at table keys.Bricks 1 64) _ layout after_block in
    let (records, records_read, after_records) = passed (number_at table keys.Records 1 1048576) _ layout after_bricks in
    let (port, port_read, after_port) = passed (port_at table) _ layout after_records in
    let (store, store_read, after_store) = passed (store_at table) _ layout after_port in
    let (spares, spares_read, after_spares) = passed (spares_at bricks table) _ layout after_store in
    let (tables, tables_read, after_tables) = passed (tables_at table) _ layout after_spares in
    let (volume_tables, volume_tables_read, after_volume_tables) = passed (volume_tables_at table) _ layout after_tables in
    let (groups, groups_read, after_groups) = passed (groups_in block bricks tables) _ layout after_volume_tables in
    let (volumes, volumes_read, after_volumes) = passed (volumes_in groups [] volume_tables) _ layout after_groups in
    let (known, known_read, last) = passed (no_other Other top_keys table) _ layout after_volumes in
    let all : Layout = layout_with block bricks records port store spares groups volumes in (
      record {
        block = block;
        bricks = bricks;
        records = records;
        port = port;
        store = store;
        spares = spares;
        tables = tables;
        volume_tables = volume_tables;
        groups = groups;
        volumes = volumes;
        known = known;
        block_read = block_read;
        bricks_read = bricks_read;
        records_read = records_read;
        port_read = port_read;
        store_read = store_read;
        spares_read = spares_read;
        tables_read = tables_read;
        volume_tables_read = volume_tables_read;
        groups_read = groups_read;
        volumes_read = volumes_read;
        known_read = known_read;
      },
      made all layout (Ok all) refl last,
    )

-- where each check passes, the table says the layout of what they gave
pub says_parts : (table : Members) (p : Parts table) → layout_in table ≡ Ok (said table p)
says_parts table p =
    rw p.block_read (rw p.bricks_read (rw p.records_read (rw p.port_read (rw p.store_read (rw p.spares_read (rw p.tables_read
    (rw p.volume_tables_read (rw p.groups_read (rw p.volumes_read (rw p.known_read refl))))))))))
