-- There is at most a message for each member.
use Rattle.std.proofs.Common.{◌≡◌, ◌≤◌, length, ◌∙◌, ap, arith}
use Rattle.std.proofs.lemmas.Result.{IfOk-weaker}
use Rattle.coord_phase.specs.Messages.{phase_messages}
use Rattle.protocol.specs.Coordinators.{asked_group}
use Rattle.node.specs.Operations.{shown_of}
use Rattle.node.proofs.Resending.{few_again}
use Rattle.node.proofs.operations.Operation.messages.Goals as goal

pub returns-clause-few : goal.returns-clause-few
returns-clause-few c =
    let op = shown_of c.args.self.now in
    let small : length (asked_group op.state).members ≤ 32 = omega (arith, c.asked_count.ensures.value, c.asked_count.ensures.few) in
    IfOk-weaker c.messages.result (λ again. again.items ≡ phase_messages c.shown.result.now) _
    (λ again sent. let few = few_again op again.items (sent ∙ ap phase_messages c.shown.ensures) small in omega (arith, few)) c.messages.ensures
