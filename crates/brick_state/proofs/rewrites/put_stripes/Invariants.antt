use Rattle.std.proofs.Common.{◌≡◌, ◌++◌}
use Rattle.brick_state.specs.Maps.{listed, flat}
use Rattle.brick_state.specs.Rewrites.{stripes_records}
use Rattle.brick_state.proofs.rewrites.put_stripes.Given as goal

abbrev pub invariant-loop-key : goal.invariant-loop-key
invariant-loop-key l = l.records.items ++ stripes_records (listed (flat l.key-iterator)) ≡ l.fn.records.items ++ stripes_records (listed (flat l.views.entries))
