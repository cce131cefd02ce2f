-- What the operation did with the message is carried out.
use Rattle.std.proofs.Common.{◌≡◌, ◌≤◌, true, length, vec_capacity, ap, sym, ◌∙◌, subst, arith}
use Rattle.messages.specs.declared.turns.Next.{Next}
use Rattle.messages.specs.declared.turns.Next.TheVariants.{Wait, Send, End}
use Rattle.fab_base.specs.Layouts.{Group}
use Rattle.protocol.specs.Coordinators as machine
use Rattle.coord_phase.specs.Operations.{is_storing, seen_in, stored_in}
use Rattle.coord_phase.specs.Decisions.{Answers, begins_in}
use Rattle.coord_phase.specs.Messages.{packets_from}
use Rattle.node.specs.Operations.{shown_of, coordinator_of}
use Rattle.node.specs.Outcomes.{Outcome}
use Rattle.node.specs.Decisions.{or_waits, CarriesOut}
use Rattle.node.proofs.Answered.{answers_as, waits_so, or_waits-begins, decided_if_busy, follows_if_busy, begins_so}
use Rattle.node.proofs.Resending.{phase_sent, few_again}
use Rattle.node.proofs.GoingOn.{waits_out, begins_out, ends_out, few_collects, collects_more}
use Rattle.node.proofs.operations.Operation.on_reply.Goals as goal
use Rattle.node.proofs.operations.Operation.on_reply.Goals.{In_ok-take_reply}

-- what the message let the operation do
answers_is : (c : In_ok-take_reply) (next : Next) → c.in_ok-take_reply.field-0 ≡ next
    → Answers c.args.fresh (shown_of c.args.self.now) c.args.from c.args.message.now next (shown_of c.take_reply.new.self)
answers_is c next is =
    answers_as c.args.fresh (shown_of c.args.self.now) c.args.from c.args.message.now _ next (shown_of c.take_reply.new.self) is
    c.in_ok-take_reply.ensures.answers

pub returns-in-Wait-clause-step : goal.returns-in-Wait-clause-step
returns-in-Wait-clause-step c = λ layout of.
    let known = c.args.stamps.now.known in
    let is = answers_is (goal.at.returns-in-Wait-clause-step c).In_ok-take_reply Wait c.in-Wait.is in
    let waits = waits_so c.args.fresh (shown_of c.args.self.now) c.args.from c.args.message.now (shown_of c.take_reply.new.self) is in
    subst (λ (next : machine.Next). CarriesOut layout c.args.self.now c.take_reply.new.self known known next c.nothing.result) waits.0
    (subst (λ (outs : Outcome). CarriesOut layout c.args.self.now c.take_reply.new.self known known (machine.Waits (coordinator_of c.take_reply.new.self)) outs)
    (sym c.nothing.ensures) (waits_out layout c.args.self.now c.take_reply.new.self is.stays.block known waits.1))

pub returns-in-Send-clause-step : goal.returns-in-Send-clause-step
returns-in-Send-clause-step c = λ layout of.
    let before = c.args.self.now in
    let after = c.take_reply.new.self in
    let was = coordinator_of before in
    let d = coordinator_of after in
    let news = (shown_of after).news in
    let later = c.begin_phase.new.stamps.known in
    let is = answers_is (goal.at.returns-in-Send-clause-step c).In_ok-take_reply (Send c.in-Send.messages) c.in-Send.is in
    let begins = begins_so news was d
    (follows_if_busy c.args.fresh (shown_of before) c.args.from c.args.message.now (Send c.in-Send.messages) (shown_of after) (λ wrong. wrong) is) in
    let decided = sym (or_waits-begins was d news)
    ∙ ap (or_waits was) (sym (decided_if_busy c.args.fresh (shown_of before) c.args.from c.args.message.now (Send c.in-Send.messages) (shown_of after)
    (λ wrong. wrong) is)) in
    subst (λ (next : machine.Next). CarriesOut layout before after c.args.stamps.now.known later next c.begin_phase.result) decided
    (subst (λ (outs : Outcome). CarriesOut layout before after c.args.stamps.now.known later (begins_in news d) outs) (sym c.begin_phase.ensures.outs)
    (begins_out layout before after is.stays.block c.args.stamps.now.known later c.in-Send.messages.items
    (λ me. ap (packets_from me) is.sent ∙ phase_sent layout (shown_of after) me (is.stays.block ∙ of) begins.counted) begins.seq
    c.begin_phase.ensures.known))

pub returns-in-Send-clause-few : goal.returns-in-Send-clause-few
returns-in-Send-clause-few c =
    let is = answers_is (goal.at.returns-in-Send-clause-few c).In_ok-take_reply (Send c.in-Send.messages) c.in-Send.is in
    let few = few_again (shown_of c.take_reply.new.self) c.in-Send.messages.items is.sent
    (omega (arith, c.asked_count.ensures.value, c.asked_count.ensures.few)) in
    let sent = ap (λ (outs : Outcome). length outs.messages) c.begin_phase.ensures.outs in
    omega arith

pub end-requires-clause-room : goal.end-requires-clause-room
end-requires-clause-room c =
    let before = shown_of c.args.self.now in
    let after = shown_of c.take_reply.new.self in
    let is = answers_is (goal.at.end-requires-clause-room c).In_ok-take_reply (End c.in-End.answer) c.in-End.is in
    let stored = follows_if_busy c.args.fresh before c.args.from c.args.message.now (End c.in-End.answer) after (λ wrong. wrong) is in
    collects_more (stored_in after.news after.state.stamp) (is_storing before.state.phase ≡ true) (length after.state.group.members ≤ vec_capacity c.in_ok-room.room)
    (λ stores. subst (λ (group : Group). length group.members ≤ vec_capacity c.in_ok-room.room) (sym is.stays.group) (c.in_ok-room.ensures.room stores)) stored

pub returns-in-End-clause-step : goal.returns-in-End-clause-step
returns-in-End-clause-step c = λ layout of.
    let was = c.args.self.now in
    let now = c.take_reply.new.self in
    let known = c.args.stamps.now.known in
    let is = answers_is (goal.at.returns-in-End-clause-step c).In_ok-take_reply (End c.in-End.answer) c.in-End.is in
    let seen = seen_in (shown_of now).news in
    let stored = stored_in (shown_of now).news (coordinator_of now).stamp in
    let decided = ap (or_waits (coordinator_of was)) (sym (decided_if_busy c.args.fresh (shown_of was) c.args.from c.args.message.now
    (End c.in-End.answer) (shown_of now) (λ wrong. wrong) is)) in
    subst (λ (next : machine.Next). CarriesOut layout was now known known next c.end.result) decided
    (subst (λ (outs : Outcome). CarriesOut layout was now known known (machine.Ends c.in-End.answer seen stored) outs) (sym c.end.ensures)
    (ends_out layout was now is.stays.block known c.call-call.result c.in-End.answer seen stored is.stays.group c.call-call.ensures))

pub returns-in-End-clause-few : goal.returns-in-End-clause-few
returns-in-End-clause-few c =
    let after = c.take_reply.new.self in
    let same = ap (λ (group : Group). length group.members) c.in_ok-take_reply.ensures.answers.stays.group in
    let sent = ap (λ (outs : Outcome). length outs.messages) c.end.ensures in
    let few = few_collects c.call-call.result (stored_in (shown_of after).news (coordinator_of after).stamp) (coordinator_of after).group.members in
    omega (arith, c.room_to_collect.ensures.few, same)

pub returns-in-Wait-clause-group : goal.returns-in-Wait-clause-group
returns-in-Wait-clause-group c = c.in_ok-take_reply.ensures.answers.stays.group

pub returns-in-Send-clause-group : goal.returns-in-Send-clause-group
returns-in-Send-clause-group c = c.in_ok-take_reply.ensures.answers.stays.group

pub returns-in-End-clause-group : goal.returns-in-End-clause-group
returns-in-End-clause-group c = c.in_ok-take_reply.ensures.answers.stays.group

pub returns-in-Wait-clause-only : goal.returns-in-Wait-clause-only
returns-in-Wait-clause-only c = c.in_ok-take_reply.ensures.answers.stays.only

pub returns-in-Send-clause-only : goal.returns-in-Send-clause-only
returns-in-Send-clause-only c = c.in_ok-take_reply.ensures.answers.stays.only

pub returns-in-End-clause-only : goal.returns-in-End-clause-only
returns-in-End-clause-only c = c.in_ok-take_reply.ensures.answers.stays.only
