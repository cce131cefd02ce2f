-- The lists that are kept of each group below may keep it.
use Rattle.std.proofs.Common.{◌≡◌, ◌<◌, ℕ, true, Some}
use Rattle.fab_base.specs.Layouts.{Group, group_of}
use Rattle.brick_state.specs.States.{group_at}
use Rattle.replica.specs.Parts.{lists_stand}
use Rattle.node.proofs.learnt_views.do_lists_stand.Given as goal

abbrev pub invariant-loop-number : goal.invariant-loop-number
invariant-loop-number g l =
    record {
      below : (k : ℕ) (group : Group) → k < l.number → group_of l.layout k ≡ Some group → lists_stand group.m l.layout.bricks (group_at l.store.state k) ≡ true;
    }
