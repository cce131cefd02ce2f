-- A member with a counted reply is passed.
use Rattle.std.proofs.Common.{◌<◌, ◌≡◌, true, length, rules, arith}
use Rattle.protocol.specs.Coordinators.{has_seat}
use Rattle.view_synod.specs.Proposers.{ballot_messages}
use Rattle.view_synod.proofs.Sending.{silent_passed}
use Rattle.view_synod.proofs.proposals.Proposal.put_messages.Goals as goal

pub loop-seat-preserved-then-has_seat : goal.loop-seat-preserved-then-has_seat
loop-seat-preserved-then-has_seat c =
    let p = c.args.self.now.state in
    let within : c.loop-seat.seat < length c.args.self.now.state.view.members = search rules in
    let replied : has_seat c.loop-seat.seat c.args.self.now.state.counted ≡ true = search rules in
    record {
      sends = silent_passed c.loop-seat.room.items p c.loop-seat.seat p.view.members (ballot_messages p) within replied c.loop-seat.invariant.sends;
      count = omega (arith, c.loop-seat.invariant.count);
      room = c.loop-seat.invariant.room;
    }
