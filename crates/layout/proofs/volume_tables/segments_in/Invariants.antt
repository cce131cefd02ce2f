-- The segments so far, and those of the rest, are those of the rows.
use Rattle.std.proofs.Common.{◌≡◌, drop, map}
use Rattle.layout.specs.Checks.{segments_in}
use Rattle.layout.proofs.Readings.{with_rest}
use Rattle.layout.proofs.volume_tables.segments_in.Given as goal

abbrev pub invariant-loop-row : goal.invariant-loop-row
invariant-loop-row l =
    segments_in l.groups (map (λ row. row.items) l.rows)
    ≡ with_rest l.segments.items (segments_in l.groups (map (λ row. row.items) (drop l.row-index l.rows)))
