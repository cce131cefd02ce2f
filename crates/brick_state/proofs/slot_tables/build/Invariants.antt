use Rattle.brick_state.proofs.SlotTrees.{IsBuilt}
use Rattle.brick_state.proofs.slot_tables.build.Given as goal

abbrev pub invariant-loop-node : goal.invariant-loop-node
invariant-loop-node l = IsBuilt l.slots l.counts l.least.items l.node

abbrev pub decreases-loop-node : goal.decreases-loop-node
decreases-loop-node l = l.node
