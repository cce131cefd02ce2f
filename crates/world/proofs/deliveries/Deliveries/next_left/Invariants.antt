-- the first message that is left of those that were looked at, and none of these stands before the place
use Rattle.std.proofs.Common.{◌≡◌, ℕ, ◌≤◌, length, Some}
use Rattle.world.specs.Deliveries.{FindsLeft}
use Rattle.world.proofs.deliveries.Deliveries.next_left.Given as goal

abbrev pub invariant-loop-end : goal.invariant-loop-end
invariant-loop-end l =
    record {
      within : l.end ≤ length l.sent.packets.items;
      finds : FindsLeft l.self.reached.items l.operation l.bricks l.end l.sent.packets.items l.found;
      least : (k : ℕ) → l.found ≡ Some k → l.from ≤ k;
    }

abbrev pub decreases-loop-end : goal.decreases-loop-end
decreases-loop-end l = l.end
