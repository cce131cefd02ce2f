-- The messages so far, and those of the operations that are left, are all; and there is room for a full phase of each that is left.
use Rattle.std.proofs.Common.{◌≡◌, ◌≤◌, ◌+◌, ◌*◌, ◌++◌, length, vec_len}
use Rattle.std.specs.List.{flat_map}
use Rattle.std.specs.BTreeMap.{values}
use Rattle.node.specs.declared.operations.Operation.{Operation}
use Rattle.node.proofs.Resending.{sends_again}
use Rattle.node.proofs.open_calls.OpenCalls.on_tick.Given as goal

abbrev pub invariant-loop-operation : goal.invariant-loop-operation
invariant-loop-operation l =
    record {
      sends : l.messages.items ++ flat_map (λ (op : Operation). sends_again op) l.operation-iterator
          ≡ flat_map (λ (op : Operation). sends_again op) (values l.self.operations);
      few : vec_len l.messages + 64 * length l.operation-iterator ≤ 4096;
    }
