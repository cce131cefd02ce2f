-- What was put so far are the packets of the messages so far.
use Rattle.std.proofs.Common.{◌≡◌, ◌+◌, ◌++◌, vec_len, vec_capacity, length}
use Rattle.coord_phase.specs.Messages.{packets_from}
use Rattle.world.proofs.histories.put_packets.Given as goal

abbrev pub invariant-loop-to : goal.invariant-loop-to
invariant-loop-to l =
    record {
      items : l.sent.packets.items ≡ l.initial.sent.packets.items ++ packets_from l.brick l.yielded;
      count : vec_len l.sent.packets ≡ vec_len l.initial.sent.packets + length l.yielded;
      room : vec_capacity l.sent.packets ≡ vec_capacity l.initial.sent.packets;
    }
