-- The first phase of the recovery is sent to all members.
use Rattle.std.proofs.Common.{◌≡◌, sym, ◌∙◌, ap, arith}
use Rattle.coord_phase.specs.Messages.{phase_messages}
use Rattle.node.specs.Kinds.{shown_in}
use Rattle.node.specs.declared.operations.Kind.{Kind}
use Rattle.node.proofs.Resending.{few_again}
use Rattle.node.proofs.GoingOn.{sent_so}
use Rattle.node.proofs.operations.Operation.recovering.Goals as goal
use Rattle.node.proofs.operations.Operation.recovering.Goals.{After-messages_in}

-- the messages are those of the recovery's phase
sent : (c : After-messages_in) → c.messages_in.result.items ≡ phase_messages (shown_in c.in_ok-new.field-0.value)
sent c =
    c.messages_in.ensures
    ∙ sent_so c.in_ok-recovery.recovery _ c.in_ok-recovery.ensures.send c.in_ok-recovery.ensures.sent
    ∙ ap (λ (kind : Kind). phase_messages (shown_in kind)) (sym c.in_ok-new.ensures.ok)

pub returns-clause-sends : goal.returns-clause-sends
returns-clause-sends c = sent c

pub returns-clause-few : goal.returns-clause-few
returns-clause-few c =
    let few = few_again (shown_in c.in_ok-new.field-0.value) c.messages_in.result.items (sent c)
    (omega (arith, c.asked_count.ensures.value, c.asked_count.ensures.few)) in
    omega arith
