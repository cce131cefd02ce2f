-- What is answered, by whether the message counts and whether a quorum then counts.
use Rattle.std.proofs.Common.{ap, ◌∙◌, sym}
use Rattle.coord_phase.specs.Operations.{Operation, with_state, without_last}
use Rattle.coord_phase.proofs.Answered.{answers_ignored, answers_waiting, answers_moved, answers_gone, answers_full, answers_decided, asked_as_before, taken_back}
use Rattle.coord_phase.proofs.operations.Operation.on_reply.Goals as goal

pub returns-then-not-branch-clause-answers : goal.returns-then-not-branch-clause-answers
returns-then-not-branch-clause-answers g c =
    answers_ignored c.args.fresh c.args.self.now c.args.from c.args.message.now c.count.new.self c.wait.new.self c.wait.result
    c.in_ok-count.ensures.heard (sym c.in_ok-count.ensures.counted ∙ c.if-not-branch.true) c.wait.ensures.next c.wait.ensures.state

pub returns-then-not-is_full-clause-answers : goal.returns-then-not-is_full-clause-answers
returns-then-not-is_full-clause-answers g c =
    answers_waiting c.args.fresh c.args.self.now c.args.from c.args.message.now c.count.new.self c.wait-then-not-is_full.new.self
    c.wait-then-not-is_full.result c.is_full.result c.in_ok-count.ensures.heard (sym c.in_ok-count.ensures.counted ∙ c.if-not-branch.false)
    c.is_full.ensures.full c.if-not-is_full.true c.wait-then-not-is_full.ensures.next c.wait-then-not-is_full.ensures.state

pub returns-in-Some-clause-answers : goal.returns-in-Some-clause-answers
returns-in-Some-clause-answers g c =
    answers_moved c.args.fresh c.args.self.now c.args.from c.args.message.now c.count.new.self c.abort_moved.new.self c.abort_moved.result c.is_full.result
    c.in-Some.member c.in_ok-count.ensures.heard (sym c.in_ok-count.ensures.counted ∙ c.if-not-branch.false) c.is_full.ensures.full
    c.if-not-is_full.false (sym c.mover.ensures ∙ c.in-Some.is) c.abort_moved.ensures.next c.abort_moved.ensures.sent c.abort_moved.ensures.state

pub returns-in-Some-dropper-clause-answers : goal.returns-in-Some-dropper-clause-answers
returns-in-Some-dropper-clause-answers g c =
    answers_gone c.args.fresh c.args.self.now c.args.from c.args.message.now c.count.new.self c.abort_gone.new.self c.abort_gone.result c.is_full.result
    c.in-Some-dropper.member c.in_ok-count.ensures.heard (sym c.in_ok-count.ensures.counted ∙ c.if-not-branch.false) c.is_full.ensures.full
    c.if-not-is_full.false (sym c.mover.ensures ∙ c.in_default.is) (sym c.dropper.ensures ∙ c.in-Some-dropper.is) c.abort_gone.ensures.next
    c.abort_gone.ensures.sent c.abort_gone.ensures.state

pub returns-in-Some-full_member-clause-answers : goal.returns-in-Some-full_member-clause-answers
returns-in-Some-full_member-clause-answers g c =
    answers_full c.args.fresh c.args.self.now c.args.from c.args.message.now c.count.new.self c.abort_full.new.self c.abort_full.result c.is_full.result
    c.in-Some-full_member.member c.in_ok-count.ensures.heard (sym c.in_ok-count.ensures.counted ∙ c.if-not-branch.false) c.is_full.ensures.full
    c.if-not-is_full.false (sym c.mover.ensures ∙ c.in_default.is) (sym c.dropper.ensures ∙ c.in_default-dropper.is)
    (sym c.full_member.ensures ∙ c.in-Some-full_member.is) c.abort_full.ensures.next c.abort_full.ensures.sent c.abort_full.ensures.state

pub returns-in-Ok-clause-answers : goal.returns-in-Ok-clause-answers
returns-in-Ok-clause-answers g c =
    answers_decided c.args.fresh c.args.self.now c.args.from c.args.message.now c.count.new.self c.decide.new.op c.in-Ok.next c.is_full.result
    c.in_ok-count.ensures.heard (sym c.in_ok-count.ensures.counted ∙ c.if-not-branch.false) c.is_full.ensures.full c.if-not-is_full.false
    c.in-Ok.ensures.next c.in-Ok.ensures.sent c.in-Ok.ensures.stays

pub returns-in-Ok-clause-recovery : goal.returns-in-Ok-clause-recovery
returns-in-Ok-clause-recovery g c =
    asked_as_before c.args.self.now c.args.from c.args.message.now c.count.new.self c.decide.new.op _ c.in-Ok.next c.in_ok-count.ensures.heard
    (sym c.in_ok-count.ensures.counted ∙ c.if-not-branch.false) c.in-Ok.ensures.recovery

pub returns-in-Err-clause-err : goal.returns-in-Err-clause-err
returns-in-Err-clause-err g c =
    let back : Operation → Operation = λ op. with_state op (without_last op.state) in
    c.take_back.ensures
    ∙ ap back (c.in-Err.ensures.err ∙ c.in_ok-count.ensures.heard)
    ∙ taken_back c.args.self.now c.args.from c.args.message.now (sym c.in_ok-count.ensures.counted ∙ c.if-not-branch.false)
