-- What is listed are runs.
use Rattle.std.proofs.Common.{sym, subst}
use Rattle.std.specs.List.{AllByRecursion}
use Rattle.toml.specs.View.{table_view}
use Rattle.layout.specs.Runs.{HasOwnPlaces}
use Rattle.layout.proofs.AcceptedVolumes.{listed_runs}
use Rattle.layout.proofs.volume_tables.volume_in.Goals as goal

pub take_all-requires : goal.take_all-requires
take_all-requires c =
    subst (AllByRecursion HasOwnPlaces) (sym c.as_slice.ensures.value)
    (listed_runs c.args.groups.now (table_view c.args.table.now) c.in_ok-segments.segments.items c.in_ok-segments.ensures.ok)
