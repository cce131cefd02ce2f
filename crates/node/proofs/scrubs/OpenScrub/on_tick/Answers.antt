-- The present phase is sent again.
use Rattle.std.proofs.Common.{◌≡◌, Option, Some, length, sym, ◌∙◌, ap, subst, arith}
use Rattle.std.proofs.lemmas.Result.{IfOk-weaker}
use Rattle.fab_base.specs.Layouts.{Group}
use Rattle.protocol.specs.Coordinators.{asked_group}
use Rattle.protocol.specs.Nodes.{resent, view_in}
use Rattle.stripe_code.specs.Codes.{coding}
use Rattle.coord_phase.specs.Operations as phased
use Rattle.coord_phase.specs.Messages.{packets_from, phase_messages}
use Rattle.scrub.specs.declared.answers.ScrubNext.{ScrubNext}
use Rattle.scrub.specs.Decisions.{SendsLook}
use Rattle.node.specs.declared.operations.Operation.{Operation}
use Rattle.node.specs.Scrubs.{GoesOnFrom, phase_of}
use Rattle.node.specs.Teaching.{teaching}
use Rattle.node.proofs.Resending.{again_is, again_so, few_again}
use Rattle.node.proofs.scrubs.OpenScrub.on_tick.Goals as goal
use Rattle.node.proofs.scrubs.OpenScrub.on_tick.Goals.{After-teaching}

pub returns-in-Some-clause-packets : goal.returns-in-Some-clause-packets
returns-in-Some-clause-packets c =
    IfOk-weaker c.on_tick.result _ _
    (λ messages is layout me of.
    let goes_on = subst (λ (o : Option Operation). GoesOnFrom c.args.self.now.scrub.look o) c.in-Some.is of.goes_on in
    ap (packets_from me) is ∙ again_is layout c.in-Some.recovery me (goes_on.0 ∙ of.block)
    ∙ ap (λ (o : Option Operation). resent (coding layout) me (Some (phase_of c.args.self.now.scrub.look o).state)) (sym c.in-Some.is))
    c.on_tick.ensures.messages

-- the messages are those of the look
sent : (c : After-teaching) → c.in-Send.messages.items ≡ phase_messages c.args.self.now.scrub.look
sent c = subst (λ (next : ScrubNext). SendsLook c.args.self.now.scrub next) c.in-Send.is c.in_ok-messages.ensures.sent

pub returns-clause-packets : goal.returns-clause-packets
returns-clause-packets c =
    let look = c.args.self.now.scrub.look in
    let shown = ap (λ (o : Option Operation). (phase_of look o).state) c.in_default.is in
    IfOk-weaker c.teaching.result _ _
    (λ messages is layout me of.
    ap (packets_from me) is
    ∙ (λ i. packets_from me (teaching ((c.call.ensures i).group) (c.view.ensures i) (sent c i)))
    ∙ (λ i. packets_from me (teaching (shown i).call.group (view_in (shown i)) (phase_messages look)))
    ∙ again_so layout look me of.block
    ∙ (λ i. resent (coding layout) me (Some (sym shown i))))
    c.teaching.ensures.items

pub returns-clause-few : goal.returns-clause-few
returns-clause-few c =
    let asked = ap (λ (group : Group). length group.members) (c.asked.ensures ∙ ap (λ (op : phased.Operation). asked_group op.state) c.look.ensures) in
    let few = few_again c.args.self.now.scrub.look c.in-Send.messages.items (sent c) (omega (arith, asked, c.policy.ensures.n, c.n.ensures.limits.few_seats)) in
    IfOk-weaker c.teaching.result _ _ (λ messages most. omega (arith, most, few)) c.teaching.ensures.few
