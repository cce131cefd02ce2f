-- The numbers so far, and those of the rest, are those of the list.
use Rattle.std.proofs.Common.{◌≡◌, drop}
use Rattle.toml.specs.View.{array_view, items_view}
use Rattle.layout.specs.Checks.{integers_in}
use Rattle.layout.proofs.Readings.{with_rest}
use Rattle.layout.proofs.tables.integers_in.Given as goal

abbrev pub invariant-loop-value : goal.invariant-loop-value
invariant-loop-value l = integers_in (array_view l.array) ≡ with_rest l.numbers.items (integers_in (items_view (drop l.value-index l.array.items)))
