-- What the recovery decides is what the machine does.
use Rattle.std.proofs.Common.{◌≡◌, ℕ, [], Option, Some, None, option_to_list, sym, ◌∙◌, ap, subst}
use Rattle.std.proofs.lemmas.Result.{IfOk-weaker}
use Rattle.fab_base.specs.declared.identities.BrickId.{BrickId}
use Rattle.fab_base.specs.declared.stamps.Stamp.{Stamp}
use Rattle.fab_base.specs.Layouts.{Layout}
use Rattle.messages.specs.declared.packets.Message.{Message}
use Rattle.protocol.specs.declared.tellings.Answered.{Answered}
use Rattle.protocol.specs.Jobs.{abort_cause}
use Rattle.protocol.specs.Scrubs.{scrub_answer}
use Rattle.coord_phase.specs.Operations as phased
use Rattle.coord_phase.specs.declared.operations.Stage.{Stage}
use Rattle.scrub.specs.Scrubs as looks
use Rattle.node.specs.declared.operations.Operation.{Operation}
use Rattle.node.specs.declared.scrubs.OpenScrub.{OpenScrub}
use Rattle.node.specs.Outcomes.{Outcome, told_list}
use Rattle.node.specs.Scrubs.{IsScrubOf, StepsScrub, end_outs, phase_of}
use Rattle.node.proofs.ScrubReplies.{recovery_ends, recovery_goes}
use Rattle.node.proofs.scrubs.OpenScrub.on_reply.Goals as goal

pub returns-in_default-clause-step : goal.returns-in_default-clause-step
returns-in_default-clause-step c =
    IfOk-weaker c.on_look_reply.result _ _ (λ outs steps layout of. steps layout c.args.fresh of) c.on_look_reply.ensures.step

-- a scrub whose stripe is being recovered, or not
abbrev with : looks.Scrubbing → Option Operation → OpenScrub
with scrub recovery = record { scrub = scrub; recovery = recovery }

-- what the recovery that is under way does, the scrub does
steps_so : (layout : Layout) (scrub : looks.Scrubbing) (recovery : Option Operation) (op after : Operation) (from : BrickId) (told : Message) (fresh : Option Stamp)
    (known later : ℕ) (outs done : Outcome) → recovery ≡ Some op → done ≡ outs
    → StepsScrub layout (with scrub (Some op)) from told fresh known outs (with scrub (Some after)) later
    → StepsScrub layout (with scrub recovery) from told fresh known done (with scrub (Some after)) later
steps_so layout scrub recovery op after from told fresh known later outs done is same steps =
    subst (λ (o : Option Operation). StepsScrub layout (with scrub o) from told fresh known done (with scrub (Some after)) later) (sym is)
    (subst (λ (o : Outcome). StepsScrub layout (with scrub (Some op)) from told fresh known o (with scrub (Some after)) later) (sym same) steps)

pub returns-in-None-clause-step : goal.returns-in-None-clause-step
returns-in-None-clause-step c = λ layout of.
    let scrub = c.args.self.now.scrub in
    let outs = c.in_ok-outs.outs in
    let parts = c.into_parts-messages.ensures in
    let of_op = subst (λ (o : Option Operation). IsScrubOf layout (with scrub o)) c.in-Some.is of in
    let told : Outcome = record { messages = outs.messages; told = outs.told; answers = []; reports = [] } in
    let sent : Outcome = record { messages = c.into_parts-messages.result.0.items; told = told_list c.into_parts-messages.result.1; answers = []; reports = [] } in
    steps_so layout scrub c.args.self.now.recovery c.in-Some.recovery c.on_reply.new.self c.args.from c.args.message.now c.args.fresh c.args.stamps.now.known
    c.on_reply.new.stamps.known told sent c.in-Some.is (λ i. record { messages = parts.messages i; told = parts.told i; answers = []; reports = [] })
    (recovery_goes layout scrub c.in-Some.recovery c.on_reply.new.self c.args.from c.args.message.now c.args.fresh c.args.stamps.now.known
    c.on_reply.new.stamps.known of_op outs (c.in_ok-outs.ensures.step layout (of_op.goes_on.0 ∙ of_op.block))
    (sym parts.answers ∙ ap (λ (o : Option Answered). option_to_list o) c.in-None.is) c.in_ok-outs.ensures.only)

pub returns-in-Some-answer-clause-step : goal.returns-in-Some-answer-clause-step
returns-in-Some-answer-clause-step c = λ layout of.
    let look = c.args.self.now.scrub in
    let op = c.in-Some.recovery in
    let after = c.on_reply.new.self in
    let ends = c.into_parts-messages.ensures in
    let x = c.in-Some-answer.field-0 in
    let of_it = subst (λ (o : Option Operation). IsScrubOf layout (with look o)) c.in-Some.is of in
    let shown = c.shown.ensures ∙ ap (λ (o : Option Operation). phase_of look.look o) c.in-Some.is in
    let call = ap (λ (s : Stage). s.call) c.stage.ensures.stage ∙ ap (λ (o : phased.Operation). o.state.call) shown in
    let stamp = ap (λ (s : Stage). s.stamp) c.stage.ensures.stage ∙ ap (λ (o : phased.Operation). o.state.stamp) shown in
    let answer = c.answer.ensures
    ∙ (λ i. scrub_answer look.lagging (abort_cause x.answer) (Some (stamp i))) in
    steps_so layout look c.args.self.now.recovery op after c.args.from c.args.message.now c.args.fresh c.args.stamps.now.known c.on_reply.new.stamps.known _
    c.end.result c.in-Some.is (c.end.ensures ∙ (λ i. end_outs (with look (Some after)) (call i) (ends.messages i) None (answer i)))
    (recovery_ends layout look op after c.args.from c.args.message.now c.args.fresh c.args.stamps.now.known c.on_reply.new.stamps.known of_it c.in_ok-outs.outs
    (c.in_ok-outs.ensures.step layout (of_it.goes_on.0 ∙ of_it.block)) x
    (sym ends.answers ∙ ap (λ (o : Option Answered). option_to_list o) c.in-Some-answer.is))
