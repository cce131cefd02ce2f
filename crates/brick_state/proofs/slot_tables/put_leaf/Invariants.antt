use Rattle.std.proofs.Common.{◌+◌, set}
use Rattle.brick_state.proofs.SlotTrees.{IsClimbing}
use Rattle.brick_state.proofs.slot_tables.put_leaf.Given as goal

abbrev pub invariant-loop-node : goal.invariant-loop-node
invariant-loop-node l = IsClimbing l.slots (set l.fn.least.items (l.slots + l.slot) l.value) l.least.items l.node

abbrev pub decreases-loop-node : goal.decreases-loop-node
decreases-loop-node l = l.node
