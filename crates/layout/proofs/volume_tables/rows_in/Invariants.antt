-- The rows so far, and those of the rest, are those of the list.
use Rattle.std.proofs.Common.{◌≡◌, drop, map}
use Rattle.toml.specs.View.{array_view, items_view}
use Rattle.layout.specs.Checks.{rows_in}
use Rattle.layout.proofs.Readings.{with_rest}
use Rattle.layout.proofs.volume_tables.rows_in.Given as goal

abbrev pub invariant-loop-value : goal.invariant-loop-value
invariant-loop-value l =
    rows_in (array_view l.array) ≡ with_rest (map (λ row. row.items) l.rows.items)
    (rows_in (items_view (drop l.value-index l.array.items)))
