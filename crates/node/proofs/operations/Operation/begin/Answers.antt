-- The first phase is sent to all members.
use Rattle.std.proofs.Common.{◌≡◌, ◌∙◌, ap, arith}
use Rattle.coord_phase.specs.Operations as phased
use Rattle.coord_phase.specs.Messages.{packets_from, phase_messages}
use Rattle.node.specs.Operations.{shown_of}
use Rattle.node.proofs.Resending.{phase_sent, few_again}
use Rattle.node.proofs.GoingOn.{sent_so}
use Rattle.node.proofs.operations.Operation.begin.Goals as goal
use Rattle.node.proofs.operations.Operation.begin.Goals.{After-messages_in}

-- the messages are those of the operation's phase
sent : (c : After-messages_in) → c.messages_in.result.items ≡ phase_messages (shown_of c.in_ok-op.op)
sent c = c.messages_in.ensures ∙ sent_so (shown_of c.in_ok-op.op) _ c.in_ok-op.ensures.send c.in_ok-op.ensures.sent

pub returns-clause-sends : goal.returns-clause-sends
returns-clause-sends c = λ me.
    ap (packets_from me) (sent c)
    ∙ phase_sent c.args.layout.now (shown_of c.in_ok-op.op) me (ap (λ (op : phased.Operation). op.block) c.in_ok-op.ensures.operation)
    (ap (λ (op : phased.Operation). op.state.counted) c.in_ok-op.ensures.operation)

pub returns-clause-few : goal.returns-clause-few
returns-clause-few c =
    let few = few_again (shown_of c.in_ok-op.op) c.messages_in.result.items (sent c)
    (omega (arith, c.asked_count.ensures.value, c.asked_count.ensures.few)) in
    omega arith
