-- What follows of the store is what the machine's brick does.
use Rattle.std.proofs.Common.{◌≡◌, false, Err, refl, sym, ◌∙◌, ap, subst, rules}
use Rattle.std.proofs.lemmas.Result.{err_from_is_err_and}
use Rattle.coord_phase.specs.Messages.{packets_from}
use Rattle.replica.specs.Reactions.{IsStep, member_step}
use Rattle.replica.specs.Calls.{message_append}
use Rattle.node.specs.declared.faults.NodeFault.{NodeFault}
use Rattle.node.specs.Outcomes.{Outcome}
use Rattle.node.specs.States.{StepsAs}
use Rattle.node.specs.Running.{Running, running, state_of}
use Rattle.node.proofs.Handled.{handled_change, handled_step, handled_still, refused_change}
use Rattle.node.proofs.KeptBricks.{follows_brick}
use Rattle.node.proofs.Views.{same_kept}
use Rattle.node.proofs.States.{on_err}
use Rattle.node.proofs.Sent.{answered_is}
use Rattle.node.proofs.Requests.{follows_state, follows_packets, follows_told}
use Rattle.node.proofs.Shown.{step_refused}
use Rattle.node.proofs.nodes.Node.serve.Given.{Over}
use Rattle.node.proofs.nodes.Node.serve.Goals as goal
use Rattle.node.proofs.nodes.Node.serve.Goals.{After-handle, In_ok-answer}

-- without room nothing is done
pub returns-in_default : goal.returns-in_default
returns-in_default g c =
    let same = c.args.self.now in
    let change =
    step_refused g.D.Disk g.met.D.Disk.only_now
    (message_append same.layout same.me c.args.from (state_of same) c.args.message.now)
    (member_step same.layout same.me c.args.from (state_of same) c.args.message.now).node same c.requires.stands in
    search (rules, change)

-- the brick's store is not halted
runs_so : (g : Over) (c : After-handle g) → c.self.inside.store.halted ≡ false
runs_so g c = ap (λ (n : Running g.row.D.Denot). n.brick.halted) c.self.view_is ∙ c.requires.runs

-- what the store has become follows the message
follows_so : (g : Over) (c : In_ok-answer g) → (let x = c.self.inside in
    IsStep x.layout x.tasks.work.calls.me c.args.from c.args.message.now x.store.state c.in_ok-answer.answer c.handle.new.store.state)
follows_so g c =
    handled_step g.D.Disk _ _ c.args.from c.args.message.now c.self.inside.store c.handle.new.store _ c.self.view_is c.self.invariant c.in_ok-answer.answer
    c.in_ok-answer.ensures.handles

pub returns-in_err-answer : goal.returns-in_err-answer
returns-in_err-answer g c =
    let handled = c.in_err-answer.ensures in
    let fault = err_from_is_err_and c.from_residual.result c.from_residual.ensures.1 in
    let err =
    on_err c.from_residual.result
    (same_kept c.self.inside.layout c.self.inside.tasks c.self.inside.store c.handle.new.store handled.handles.refused
    ∙ ap (λ (n : Running g.row.D.Denot). state_of n) c.self.view_is) in
    let refused =
    refused_change g.D.Disk _ _ c.args.from c.args.message.now c.self.inside.store c.handle.new.store _ c.self.view_is c.self.invariant _
    c.in_err-answer.field-0.0 c.from_residual.result c.self.inside.tasks handled.handles handled.change c.requires.stands
    (runs_so g (goal.at.returns-in_err-answer g c).After-handle) (fault.1 ∙ ap (λ (e : NodeFault). Err e) fault.2) in
    search (rules, err, refused)

pub invariant_of-self-2 : goal.invariant_of-self-2
invariant_of-self-2 g c =
    let handles = c.in_ok-answer.ensures.handles in
    follows_brick _ _ _ c.self.inside.store c.handle.new.store c.self.invariant (record { me = refl; boot = refl; of = λ are. are }) handles.shape
    c.args.from c.args.message.now c.in_ok-answer.answer handles.ok

pub returns-clause-step : goal.returns-clause-step
returns-clause-step g c =
    let x = c.self.inside in
    let from = c.args.from in
    let message = c.args.message.now in
    let answer = c.in_ok-answer.answer in
    let new = c.handle.new.store in
    let is = follows_so g (goal.at.returns-clause-step g c).In_ok-answer in
    subst
    (λ (n : Running g.row.D.Denot). StepsAs n.me (state_of (running x.layout x.tasks new))
    (member_step n.layout n.me from (state_of n) message) c.sending.result)
    c.self.view_is
    (record {
      packets = ap (λ (outs : Outcome). packets_from x.tasks.work.calls.me outs.messages) c.sending.ensures
          ∙ ap (packets_from x.tasks.work.calls.me) c.answer_messages.ensures.items ∙ answered_is x.tasks.work.calls.me from answer
          ∙ sym (follows_packets x.layout x.tasks x.store from message new.state answer is);
      told = ap (λ (outs : Outcome). outs.told) c.sending.ensures ∙ (follows_told x.layout x.tasks x.store from message).0;
      answers = ap (λ (outs : Outcome). outs.answers) c.sending.ensures ∙ (follows_told x.layout x.tasks x.store from message).1;
      reports = ap (λ (outs : Outcome). outs.reports) c.sending.ensures ∙ (follows_told x.layout x.tasks x.store from message).2;
      state_is = follows_state x.layout x.tasks x.store from message new answer is;
    })

pub returns-clause-still : goal.returns-clause-still
returns-clause-still g c =
    handled_still g.D.Disk _ _ c.args.from c.args.message.now c.self.inside.store c.handle.new.store _ c.self.view_is c.self.invariant c.in_ok-answer.answer
    c.in_ok-answer.ensures.handles

pub returns-clause-change : goal.returns-clause-change
returns-clause-change g c =
    handled_change g.D.Disk _ _ c.args.from c.args.message.now c.self.inside.store c.handle.new.store _ c.self.view_is c.self.invariant c.in_ok-answer.answer
    c.self.inside.tasks c.in_ok-answer.ensures.handles c.in_ok-answer.ensures.change c.requires.stands
    (runs_so g (goal.at.returns-clause-change g c).After-handle) refl (invariant_of-self-2 g c)

pub returns-clause-few : goal.returns-clause-few
returns-clause-few g c = search rules

pub returns-clause-err : goal.returns-clause-err
returns-clause-err g c = search rules

pub returns-clause-same : goal.returns-clause-same
returns-clause-same g c = search rules

pub returns-clause-answer : goal.returns-clause-answer
returns-clause-answer g c = record { not_halted = search rules; halts = search rules; not_refused = search rules }
