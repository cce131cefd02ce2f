-- The operation is open no more.
use Rattle.std.proofs.Common.{List, None, refl, ap, subst, arith}
use Rattle.protocol.specs.declared.tellings.Answered.{Answered}
use Rattle.node.specs.Operations.{coordinator_of}
use Rattle.node.specs.Outcomes.{Outcome}
use Rattle.node.specs.States.{state_with, AreCallsAfter}
use Rattle.node.proofs.States.{same_states}
use Rattle.node.proofs.Tables.{shown_after}
use Rattle.node.proofs.open_calls.OpenCalls.close.Goals as goal

pub returns-clause-state : goal.returns-clause-state
unfolding state_with
returns-clause-state c = λ parts.
    let seq = c.args.seq in
    let m = c.args.self.now.operations in
    let n = c.close_answered.new.values in
    let closed = subst (λ (answers : List Answered). AreCallsAfter answers seq m n) (ap (λ (outs : Outcome). outs.answers) c.answering-outs.ensures)
    c.close_answered.ensures.calls in
    same_states _ _ refl refl refl refl (omega (arith, closed.count)) refl (λ g e. refl) (λ g. refl) (λ g. refl) (λ g e s. refl)
    (λ k. shown_after coordinator_of m n seq None closed.calls k) refl refl refl
