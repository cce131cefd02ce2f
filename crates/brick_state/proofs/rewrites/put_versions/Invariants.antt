use Rattle.std.proofs.Common.{◌≡◌, ◌++◌, drop}
use Rattle.brick_state.specs.Rewrites.{version_records}
use Rattle.brick_state.proofs.rewrites.put_versions.Given as goal

abbrev pub invariant-loop-entry : goal.invariant-loop-entry
invariant-loop-entry l = l.records.items ++ version_records l.place l.under
    (drop l.entry-index l.entries) ≡ l.fn.records.items ++ version_records l.place l.initial.under l.entries
