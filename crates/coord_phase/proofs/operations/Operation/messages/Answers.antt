-- A member with a counted reply is passed.
use Rattle.std.proofs.Common.{◌<◌, ◌≡◌, true, length, rules}
use Rattle.protocol.specs.Coordinators.{asked_group, has_seat}
use Rattle.coord_phase.proofs.Requests.{silent_passed}
use Rattle.coord_phase.proofs.operations.Operation.messages.Goals as goal

pub loop-seat-preserved-then-has_reply : goal.loop-seat-preserved-then-has_reply
loop-seat-preserved-then-has_reply c =
    let within : c.loop-seat.seat < length (asked_group c.args.self.now.state).members = search rules in
    let replied : has_seat c.loop-seat.seat c.args.self.now.state.counted ≡ true = search rules in
    silent_passed _ _ _ _ _ _ _ within replied c.loop-seat.invariant
