-- The proposal begins as the machine's.
use Rattle.std.proofs.Common.{length, refl, ap, subst, arith}
use Rattle.fab_base.specs.declared.member_lists.View.{View}
use Rattle.view_synod.specs.declared.answers.ViewNext.{ViewNext}
use Rattle.protocol.specs.Proposals.{next_ballot}
use Rattle.view_synod.specs.Proposers.{StartsAs, started}
use Rattle.node.specs.Outcomes.{Outcome}
use Rattle.node.proofs.Ballots.{begins_few, begins_so}
use Rattle.node.proofs.proposals.Proposals.propose.Goals as goal

pub returns-in-Send-clause-proposes : goal.returns-in-Send-clause-proposes
returns-in-Send-clause-proposes c = λ node round held view call.
    begins_so c.args.layout.now c.args.me node c.args.kept.now c.args.group c.args.view c.args.call c.args.members.now c.args.self.now.rounds round view call
    c.bricks-bricks.result c.m-m.result c.copy-about.result c.bricks-bricks.ensures.value c.m-m.ensures c.copy-about.ensures c.in-Send.messages
    c.in_ok-proposer.proposer _ c.sending.result
    (subst (λ (does : ViewNext). StartsAs (started c.bricks-bricks.result c.m-m.result c.args.group c.copy-about.result c.args.call
    (next_ballot c.args.self.now.rounds c.args.me c.args.call) c.args.members.now) does c.in_ok-proposer.proposer) c.in-Send.is c.in_ok-proposer.ensures.starts)
    c.in_ok-proposer.ensures.used refl c.sending.ensures

pub returns-in-Send-clause-few : goal.returns-in-Send-clause-few
returns-in-Send-clause-few c =
    let starts = subst (λ (does : ViewNext). StartsAs (started c.bricks-bricks.result c.m-m.result c.args.group c.copy-about.result c.args.call
    (next_ballot c.args.self.now.rounds c.args.me c.args.call) c.args.members.now) does c.in_ok-proposer.proposer) c.in-Send.is c.in_ok-proposer.ensures.starts in
    let few = begins_few c.bricks-bricks.result c.m-m.result c.args.group c.copy-about.result c.args.call (next_ballot c.args.self.now.rounds c.args.me c.args.call)
    c.args.members.now c.in-Send.messages c.in_ok-proposer.proposer starts in
    let same = ap (λ (v : View). length v.members) c.copy-about.ensures in
    let sent = ap (λ (outs : Outcome). length outs.messages) c.sending.ensures in
    omega (arith, few, same, sent, c.requires.limits.few_seats)
