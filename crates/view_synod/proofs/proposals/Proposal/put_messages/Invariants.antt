-- The messages so far, and those to the members that are left, are all; and there is room for those that are left.
use Rattle.std.proofs.Common.{◌≡◌, ◌≤◌, ◌++◌, drop, length, vec_len, vec_capacity}
use Rattle.view_synod.specs.Proposers.{ballot_messages}
use Rattle.view_synod.proofs.Sending.{to_silent}
use Rattle.view_synod.proofs.proposals.Proposal.put_messages.Given as goal

abbrev pub invariant-loop-seat : goal.invariant-loop-seat
invariant-loop-seat l =
    record {
      sends : l.room.items ++ to_silent l.self.state l.seat (drop l.seat l.self.state.view.members) ≡ ballot_messages l.self.state;
      count : vec_len l.room ≤ l.seat;
      room : length l.self.state.view.members ≤ vec_capacity l.room;
    }
