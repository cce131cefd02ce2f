-- The groups so far, and those of the rest, are those of the tables.
use Rattle.std.proofs.Common.{◌≡◌, drop, map}
use Rattle.toml.specs.View.{table_view}
use Rattle.layout.specs.Checks.{groups_in}
use Rattle.layout.proofs.Readings.{after_groups}
use Rattle.layout.proofs.tables.groups_in.Given as goal

abbrev pub invariant-loop-table : goal.invariant-loop-table
invariant-loop-table l =
    groups_in l.block l.bricks (map (λ table. table_view table.now) l.tables)
    ≡ after_groups l.groups.items (groups_in l.block l.bricks (map (λ table. table_view table.now) (drop l.table-index l.tables)))
