-- The messages so far, and those to the members that are left, are all.
use Rattle.std.proofs.Common.{◌≡◌, ◌++◌, map, drop}
use Rattle.stripe_code.specs.Codes.{block_code}
use Rattle.protocol.specs.Coordinators.{asked_group, request_of}
use Rattle.protocol.specs.Nodes.{resent_to}
use Rattle.coord_phase.specs.Messages.{without_sender, phase_messages}
use Rattle.coord_phase.proofs.operations.Operation.messages.Given as goal

abbrev pub invariant-loop-seat : goal.invariant-loop-seat
invariant-loop-seat l =
    let op = l.self in
    l.messages.items
    ++ map without_sender (resent_to (record { 0 = 0 }) op.state.call (request_of (block_code op.block) op.state) op.state.counted l.seat
    (drop l.seat (asked_group op.state).members))
    ≡ phase_messages op
