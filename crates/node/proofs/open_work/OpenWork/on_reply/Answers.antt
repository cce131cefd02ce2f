-- An open operation counts the reply, or else the proposal does.
use Rattle.std.proofs.Common.{◌≡◌, ℕ, Option, refl, sym, ◌∙◌, ap, subst}
use Rattle.std.specs.Option.{option_map}
use Rattle.std.specs.Ordering.{nat_cmp}
use Rattle.std.specs.BTreeMap.{get}
use Rattle.stripe_code.specs.Codes.{coding}
use Rattle.protocol.specs.Nodes.{Node, NodeStep, known_after, replied_at, with_known, with_round}
use Rattle.protocol.specs.Proposals.{Proposal, round_after, round_heard}
use Rattle.coord_phase.specs.Messages.{packets_from}
use Rattle.node.specs.declared.operations.Operation.{Operation}
use Rattle.node.specs.declared.proposals.OpenProposal.{OpenProposal}
use Rattle.node.specs.Operations.{coordinator_of}
use Rattle.node.specs.Outcomes.{Outcome}
use Rattle.node.specs.Proposals.{IsUnderWayOn, proposal_in}
use Rattle.node.specs.States.{OtherParts, StepsAs, parts_with, state_in, state_with}
use Rattle.node.proofs.Hearing.{none_of}
use Rattle.node.proofs.Underway.{same_work}
use Rattle.node.proofs.open_work.OpenWork.on_reply.Goals as goal

pub returns-in_err-outs-clause-same : goal.returns-in_err-outs-clause-same
returns-in_err-outs-clause-same c =
    same_work c.args.layout.now c.args.self.now c.on_reply.new.self c.args.self.now.proposals (c.on_reply.ensures.same c.args.layout.now) (λ left. left)

pub returns-then-is_open-clause-same : goal.returns-then-is_open-clause-same
returns-then-is_open-clause-same c =
    same_work c.args.layout.now c.args.self.now c.on_reply.new.self c.heard.new.self (c.on_reply.ensures.same c.args.layout.now)
    (subst (λ (held : Option OpenProposal). IsUnderWayOn c.args.layout.now.bricks held) (sym c.heard.ensures.under_way))

pub returns-then-is_open-clause-step : goal.returns-then-is_open-clause-step
unfolding state_with
returns-then-is_open-clause-step c = λ kept.
    let work = c.args.self.now in
    let layout = c.args.layout.now in
    let call = c.args.call in
    let told = c.args.reply.now in
    let me = work.calls.me in
    let held = parts_with kept work.proposals in
    let heard : OtherParts = record held { round = round_after work.proposals.rounds told } in
    let rounds = c.heard.ensures.rounds ∙ ap (round_heard work.proposals.rounds) c.requires.reply in
    let same : parts_with kept c.heard.new.self ≡ heard = λ i. record held { round = rounds i; proposal = proposal_in (c.heard.ensures.under_way i) } in
    let step : NodeStep = replied_at (coding layout) me c.args.now c.args.packet.now.from (with_round (state_in kept work) told) call told
    ((state_in kept work).calls call.seq) in
    subst (λ (parts : OtherParts). StepsAs me (state_with parts c.on_reply.new.self) step c.in_ok-outs.outs) (sym same)
    (c.in_ok-outs.ensures.step layout c.requires.of.calls heard)

pub returns-clause-step : goal.returns-clause-step
unfolding state_with
returns-clause-step c = λ kept.
    let work = c.args.self.now in
    let reply = c.args.reply.now in
    let after = c.go_on.new.self in
    let before : Node = with_round (state_in kept work) reply in
    let node : Node = with_known before (known_after before.known reply) in
    let goes = c.in_ok-heard.ensures.hears work.calls.me node reply c.requires.reply refl in
    let none = none_of (get nat_cmp work.calls.operations c.args.call.seq) (sym c.is_open.ensures ∙ c.if-is_open.false) in
    let rounds = c.go_on.ensures.rounds ∙ c.heard-3.ensures.rounds ∙ ap (round_heard work.proposals.rounds) c.requires.reply in
    let parts = λ (round : ℕ) (proposal : Option Proposal). (let p : OtherParts = record (parts_with kept work.proposals) { round = round; proposal = proposal } in p) in
    subst (λ (step : NodeStep). StepsAs work.calls.me (state_with (parts_with kept after) c.heard-2.new.self) step c.go_on.result)
    (sym (ap (λ (o : Option Operation). replied_at (coding c.args.layout.now) work.calls.me c.args.now c.args.packet.now.from before c.args.call reply (option_map coordinator_of o)) none))
    (record {
      packets = ap (λ (o : Outcome). packets_from work.calls.me o.messages) c.go_on.ensures.outs ∙ goes.packets;
      told = ap (λ (o : Outcome). o.told) c.go_on.ensures.outs ∙ goes.told;
      answers = ap (λ (o : Outcome). o.answers) c.go_on.ensures.outs ∙ goes.answers;
      reports = ap (λ (o : Outcome). o.reports) c.go_on.ensures.outs ∙ goes.reports;
      state_is = c.heard-2.ensures.state (parts_with kept after)
          ∙ (λ i. with_known (state_with (parts (rounds i) (proposal_in (c.go_on.ensures.under_way i))) work.calls) (known_after work.calls.stamps.known reply))
          ∙ sym goes.node_is;
    })

pub returns-clause-same : goal.returns-clause-same
returns-clause-same c =
    same_work c.args.layout.now c.args.self.now c.heard-2.new.self c.go_on.new.self (c.heard-2.ensures.same c.args.layout.now)
    (λ was. subst (λ (held : Option OpenProposal). IsUnderWayOn c.args.layout.now.bricks held) (sym c.go_on.ensures.under_way) c.in_ok-heard.ensures.left)
