-- The proposal sends its phase again.
use Rattle.std.proofs.Common.{◌≡◌, ◌≤◌, ◌*◌, length, vec_len, ◌∙◌, ap, subst, arith}
use Rattle.std.proofs.lemmas.Result.{IfOk-weaker}
use Rattle.view_synod.specs.declared.answers.ViewNext.{ViewNext}
use Rattle.view_synod.specs.Proposers.{SendsAgain}
use Rattle.coord_phase.specs.Messages.{packets_from}
use Rattle.node.specs.Teaching.{teaching}
use Rattle.node.proofs.Ballots.{again_so, again_few}
use Rattle.node.proofs.proposals.OpenProposal.on_tick.Goals as goal

pub returns-in-Send-clause-packets : goal.returns-in-Send-clause-packets
returns-in-Send-clause-packets c =
    let held = c.args.self.now in
    let sends = subst (λ (does : ViewNext). SendsAgain held.proposer does) c.in-Send.is c.in_ok-messages.ensures in
    IfOk-weaker c.teaching.result (λ taught. taught.items ≡ teaching held.group held.view c.in-Send.messages.items) _
    (λ taught is me. ap (packets_from me) is ∙ again_so held.proposer held.group held.view held.about c.in-Send.messages sends me) c.teaching.ensures.items

pub returns-in-Send-clause-few : goal.returns-in-Send-clause-few
returns-in-Send-clause-few c =
    let held = c.args.self.now in
    let sends = subst (λ (does : ViewNext). SendsAgain held.proposer does) c.in-Send.is c.in_ok-messages.ensures in
    let few = again_few held.proposer held.group held.view held.about c.in-Send.messages sends in
    let same = ap length c.as_slice.ensures.value in
    IfOk-weaker c.teaching.result (λ taught. vec_len taught ≤ 2 * vec_len c.in-Send.messages) _
    (λ taught is. omega (arith, is, few, same, c.as_slice.ensures.small)) c.teaching.ensures.few
