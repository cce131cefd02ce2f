-- The proposal does with the message what the machine's does.
use Rattle.std.proofs.Common.{◌≡◌, [], length, Some, None, refl, sym, ◌∙◌, ap, subst, arith}
use Rattle.view_synod.specs.declared.answers.ViewNext.{ViewNext}
use Rattle.view_synod.specs.Proposers.{GoesOn, voting_in}
use Rattle.node.specs.Outcomes.{Outcome}
use Rattle.node.specs.Proposals.{HearsSo}
use Rattle.node.proofs.Ballots.{sent_by, IsNoEnd, stays_about, sends_few, hears_on, hears_end}
use Rattle.node.proofs.proposals.OpenProposal.hear.Goals.{in-Wait, in-Send}
use Rattle.node.proofs.proposals.OpenProposal.hear.Goals as goal

pub returns-in-End-clause-hears : goal.returns-in-End-clause-hears
returns-in-End-clause-hears c =
    let held = c.args.self in
    let told = c.args.message.now in
    let layout = c.args.layout.now in
    subst (λ (outs : Outcome). HearsSo layout (Some held) c.args.from c.args.call told outs None) (sym c.reporting.ensures)
    (hears_end layout c.args.from c.args.call told held c.requires.on c.in-End.answer c.on_reply.new.self
    (subst (λ (does : ViewNext). GoesOn held.proposer (voting_in held.proposer c.args.from told) does c.on_reply.new.self) c.in-End.is c.in_ok-on_reply.ensures.next)
    c.in_ok-messages-in-End.messages.items c.in_ok-messages-in-End.ensures.packets)

-- it goes on
goes : (c : goal.Joined-branch-2) → IsNoEnd c.in_ok-on_reply.field-0
goes c =
    elim c.match-branch-2.branch [
      | in-Wait w ↦ subst IsNoEnd (sym w.in-Wait.is) tt
      | in-Send w ↦ subst IsNoEnd (sym w.in-Send.is) tt
    ]

-- and sends that
sends : (c : goal.Joined-branch-2) → c.match-branch-2.outs ≡ record { messages = sent_by c.in_ok-on_reply.field-0; told = []; answers = []; reports = [] }
sends c =
    elim c.match-branch-2.branch [
      | in-Wait w ↦ w.outs-is ∙ w.nothing-outs.ensures ∙ ap (λ (does : ViewNext). record { messages = sent_by does; told = []; answers = []; reports = [] }) (sym w.in-Wait.is)
      | in-Send w ↦ w.outs-is ∙ w.sending-outs.ensures ∙ ap (λ (does : ViewNext). record { messages = sent_by does; told = []; answers = []; reports = [] }) (sym w.in-Send.is)
    ]

pub invariant_of-result-2 : goal.invariant_of-result-2
invariant_of-result-2 c =
    record {
      about = stays_about c.args.self.proposer c.args.self.group c.args.self.view c.args.self.about c.args.from c.args.message.now c.in_ok-on_reply.field-0
          c.on_reply.new.self c.in_ok-on_reply.ensures.next (goes c);
    }

pub invariant_of-result-3 : goal.invariant_of-result-3
invariant_of-result-3 c =
    let few = sends_few c.args.self.proposer c.args.self.group c.args.self.view c.args.self.about c.args.from c.args.message.now c.in_ok-on_reply.field-0
    c.on_reply.new.self c.in_ok-on_reply.ensures.next (goes c.before) in
    let sent = ap (λ (outs : Outcome). length outs.messages) (sends c.before) in
    let same = ap length c.as_slice.ensures.value in
    record { few = omega (arith, few, sent, same, c.as_slice.ensures.small) }

pub returns-clause-hears : goal.returns-clause-hears
returns-clause-hears c =
    hears_on c.args.layout.now c.args.from c.args.call c.args.message.now c.args.self c.requires.on c.in_ok-on_reply.field-0 c.on_reply.new.self
    c.in_ok-on_reply.ensures.next (goes c.before.before) c.match-branch-2.outs (sends c.before.before) _ refl
