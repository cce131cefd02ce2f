use Rattle.std.proofs.Common.{◌≡◌, ◌++◌}
use Rattle.brick_state.specs.Maps.{listed, placed}
use Rattle.brick_state.specs.Rewrites.{stripes_records}
use Rattle.brick_state.proofs.rewrites.put_table.Given as goal

abbrev pub invariant-loop-number : goal.invariant-loop-number
invariant-loop-number l = l.records.items ++ stripes_records (listed (placed l.key l.number-iterator)) ≡ l.fn.records.items ++ stripes_records
    (listed (placed l.key l.stripes.entries))
