use Rattle.std.proofs.Common.{◌≡◌, ◌++◌, drop}
use Rattle.brick_state.specs.Rewrites.{groups_records}
use Rattle.brick_state.proofs.rewrites.put_groups.Given as goal

abbrev pub invariant-loop-number : goal.invariant-loop-number
invariant-loop-number l = l.records.items ++ groups_records l.number (drop l.number l.groups) ≡ l.fn.records.items ++ groups_records 0 l.groups
