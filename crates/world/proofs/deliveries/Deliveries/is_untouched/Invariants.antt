-- no message of the operation was delivered, of those that were looked at
use Rattle.std.proofs.Common.{◌≡◌, ℕ, ◌≤◌, true, false, get_or, length, Some}
use Rattle.std.specs.Prelude.{slice_get}
use Rattle.messages.specs.declared.packets.Packet.{Packet}
use Rattle.world.specs.Deliveries.{is_of}
use Rattle.world.proofs.deliveries.Deliveries.is_untouched.Given as goal

abbrev pub invariant-loop-end : goal.invariant-loop-end
invariant-loop-end l =
    record {
      within : l.end ≤ length l.sent.packets.items;
      none : (k : ℕ) (packet : Packet) → l.end ≤ k → slice_get l.sent.packets.items k ≡ Some packet
          → is_of l.operation.brick.0 l.operation.boot l.operation.seq packet ≡ true → get_or l.self.reached.items k false ≡ false;
    }

abbrev pub decreases-loop-end : goal.decreases-loop-end
decreases-loop-end l = l.end
