-- The runs of the volumes so far are taken, and these volumes, with those of the rest, are those of the tables.
use Rattle.std.proofs.Common.{◌≡◌, [], drop, map}
use Rattle.toml.specs.View.{table_view}
use Rattle.layout.specs.Checks.{volumes_in}
use Rattle.layout.specs.Runs.{HasRuns}
use Rattle.layout.specs.Segments.{segments_of}
use Rattle.layout.proofs.volume_tables.volumes_in.Given as goal

abbrev pub invariant-loop-table : goal.invariant-loop-table
invariant-loop-table l = record {
  runs : HasRuns l.ends (segments_of l.volumes.items);
  read : volumes_in l.groups [] (map (λ table. table_view table.now) l.tables)
      ≡ volumes_in l.groups l.volumes.items (map (λ table. table_view table.now) (drop l.table-index l.tables));
}
