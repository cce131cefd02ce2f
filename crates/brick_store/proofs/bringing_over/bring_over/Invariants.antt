use Rattle.std.proofs.Common.{length}
use Rattle.brick_state.specs.Indexes.{limits_of, state_of}
use Rattle.brick_store.proofs.Bringing.{IsOnItsWay}
use Rattle.brick_store.proofs.bringing_over.bring_over.Given as goal

abbrev pub invariant-loop-item : goal.invariant-loop-item
invariant-loop-item l = record {
  way : IsOnItsWay l.fn.folded.sizes.block l.fn.folded.sizes.records l.fn.folded.blocks (state_of l.fn.folded.index) l.remaining
      l.bringing.slots.moved.items l.bringing.slots.next l.bringing.held l.bringing.brought.blocks
      (limits_of l.bringing.brought.index) (state_of l.bringing.brought.index) l.bringing.brought.frames;
}

abbrev pub decreases-loop-item : goal.decreases-loop-item
decreases-loop-item l = length l.remaining
