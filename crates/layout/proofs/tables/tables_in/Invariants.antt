-- The tables so far, and those of the rest, are those of the list.
use Rattle.std.proofs.Common.{◌≡◌, drop, map}
use Rattle.toml.specs.View.{array_view, items_view, table_view}
use Rattle.layout.specs.Checks.{tables_in}
use Rattle.layout.proofs.Readings.{with_rest}
use Rattle.layout.proofs.tables.tables_in.Given as goal

abbrev pub invariant-loop-value : goal.invariant-loop-value
invariant-loop-value l =
    tables_in (array_view l.array) ≡ with_rest (map (λ table. table_view table.now) l.tables.items)
    (tables_in (items_view (drop l.value-index l.array.items)))
