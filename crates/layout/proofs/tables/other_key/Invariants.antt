-- The keys that are left ascend, and decide.
use Rattle.std.proofs.Common.{◌≡◌}
use Rattle.std.specs.List.Sorted.{IsStrictlySortedBy}
use Rattle.std.specs.String.{string_cmp}
use Rattle.toml.specs.View.{table_view}
use Rattle.layout.specs.Checks.{keys_of, least_other}
use Rattle.layout.proofs.Keys.{texts_of}
use Rattle.layout.proofs.tables.other_key.Given as goal

abbrev pub invariant-loop-key : goal.invariant-loop-key
invariant-loop-key l =
    (goal.iterator-loop-key).can_next l.key-iterator ×
    (goal.iterator-loop-key).is_finite l.key-iterator ×
    IsStrictlySortedBy string_cmp l.key-iterator ×
    (least_other l.known (keys_of (table_view l.table)) ≡ least_other l.known (texts_of l.key-iterator))
