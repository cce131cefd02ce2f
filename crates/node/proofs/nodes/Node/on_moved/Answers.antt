-- The reply counts, and its view is learnt; where it can't be, the reply is taken back.
use Rattle.std.proofs.Common.{◌≡◌, ◌≢◌, Option, None, false, true, Result, Err, refl, sym, ◌∙◌, ap, subst}
use Rattle.std.proofs.lemmas.Bool.{true≢false}
use Rattle.fab_base.specs.declared.identities.BrickId.{BrickId}
use Rattle.messages.specs.declared.packets.Message.{Message}
use Rattle.messages.specs.declared.packets.Message.TheVariants as message
use Rattle.stripe_code.specs.Codes.{coding}
use Rattle.protocol.specs.Nodes.{Node, heard, replied_at}
use Rattle.replica.specs.declared.faults.ReplicaFault.{ReplicaFault}
use Rattle.replica.specs.declared.faults.ReplicaFault.TheVariants as replica
use Rattle.replica.specs.Reactions.{IsStep}
use Rattle.node.specs.declared.faults.NodeFault.{NodeFault}
use Rattle.node.specs.declared.outs.Outs.{Outs}
use Rattle.node.specs.Tasks.{AreSameTasks, counts_at}
use Rattle.node.specs.States.{StepsAs, parts_in}
use Rattle.node.specs.Running.{Running, running, state_of}
use Rattle.node.specs.Teaching.{is_taught}
use Rattle.node.proofs.CountsHere.{taught_counts}
use Rattle.node.proofs.Handled.{handled_change, handled_step, handled_still, refused_change}
use Rattle.node.proofs.KeptBricks.{answers_fault, answers_made, follows_brick, stays_brick}
use Rattle.node.proofs.Learning.{learns_so}
use Rattle.node.proofs.States.{on_err}
use Rattle.node.proofs.Steps.{steps_so, stays_so}
use Rattle.node.proofs.Views.{same_kept}
use Rattle.node.proofs.nodes.Node.on_moved.Given.{Over}
use Rattle.node.proofs.nodes.Node.on_moved.Goals as goal
use Rattle.node.proofs.nodes.Node.on_moved.Goals.{After-finish, After-learn, After-take_back}

pub hear_moved-requires-clause-counts : goal.hear_moved-requires-clause-counts
hear_moved-requires-clause-counts g c =
    let x = c.self.inside in
    let told = c.args.reply.now in
    let from = c.args.packet.now.from in
    let taught = subst (λ (n : Running g.row.D.Denot). is_taught n.layout (state_of n) from c.args.call told ≡ true) (sym c.self.view_is)
    c.requires.teaches.counts in
    subst (λ (m : Message). counts_at x.tasks c.args.call.seq from m ≡ true) (sym c.requires.reply)
    (taught_counts x.layout from c.args.call told x.tasks x.store c.self.invariant.tasks_are c.self.invariant.boot taught)

pub returns-in_err-turn-clause-err : goal.returns-in_err-turn-clause-err
returns-in_err-turn-clause-err g c =
    let was = c.self.inside in
    on_err _
    (stays_so was.layout was.tasks c.hear_moved.new.self was.store c.self.invariant.boot c.in_err-turn.ensures.same.boot
    (c.in_err-turn.ensures.err (parts_in was.layout was.store.state))
    ∙ ap (λ (n : Running g.row.D.Denot). state_of n) c.self.view_is)

-- the brick's store was not halted
runs_so : (g : Over) (c : After-learn g) → c.self.inside.store.halted ≡ false
runs_so g c = ap (λ (n : Running g.row.D.Denot). n.brick.halted) c.self.view_is ∙ c.requires.runs

-- what is under way is of the same brick, once the turn is done
done_same : (g : Over) (c : After-finish g) → AreSameTasks c.self.inside.layout c.self.inside.tasks c.finish.new.self
done_same g c =
    c.finish.ensures.same c.self.inside.layout c.args.now c.args.packet.now.from c.args.call c.args.reply.now c.self.inside.tasks refl
    c.in_ok-turn.ensures.turn c.in_ok-turn.ensures.same

-- so it is, once the turn is taken back
taken_same : (g : Over) (c : After-take_back g) → AreSameTasks c.self.inside.layout c.self.inside.tasks c.take_back.new.self
taken_same g c =
    c.take_back.ensures.same c.self.inside.layout c.args.now c.args.packet.now.from c.args.call c.args.reply.now c.self.inside.tasks refl
    c.in_ok-turn.ensures.turn c.in_ok-turn.ensures.same

-- ---- the view is learnt

pub invariant_of-self-in-Ok : goal.invariant_of-self-in-Ok
invariant_of-self-in-Ok g c =
    let handles = (c.in-Ok.ensures c.args.self.now.me).handles in
    follows_brick _ _ c.finish.new.self c.self.inside.store c.learn.new.store c.self.invariant
    (done_same g (goal.at.invariant_of-self-in-Ok g c).After-finish) handles.shape c.args.self.now.me (message.Learn c.args.call.group c.args.view) None
    handles.ok

pub returns-in-Ok-clause-step : goal.returns-in-Ok-clause-step
returns-in-Ok-clause-step g c =
    let x = c.self.inside in
    let now = c.args.now in
    let tasks = c.finish.new.self in
    let new = c.learn.new.store in
    let from = c.args.packet.now.from in
    let call = c.args.call in
    let reply = c.args.reply.now in
    let view = c.args.view in
    let me = x.tasks.work.calls.me in
    let teach = message.Learn call.group view in
    let same = done_same g (goal.at.returns-in-Ok-clause-step g c).After-finish in
    let follows = subst (λ (brick : BrickId). IsStep x.layout brick brick teach x.store.state None new.state) (sym same.me)
    (handled_step g.D.Disk x.layout x.tasks me teach x.store new _ c.self.view_is c.self.invariant None (c.in-Ok.ensures me).handles) in
    let taught = subst (λ (n : Running g.row.D.Denot). is_taught n.layout (state_of n) from call reply ≡ true) (sym c.self.view_is)
    c.requires.teaches.counts in
    let steps = steps_so x.layout x.tasks tasks x.store c.self.invariant.boot
    (λ (s : Node). replied_at (coding x.layout) me now from s call reply (s.calls call.seq)) c.finish.result same.boot
    (c.finish.ensures.step x.layout now from call reply x.tasks refl c.in_ok-turn.ensures.turn (parts_in x.layout x.store.state)) in
    subst
    (λ (n : Running g.row.D.Denot). StepsAs n.me (state_of (running x.layout tasks new)) (heard (coding n.layout) n.me now from (state_of n) call reply) c.finish.result)
    c.self.view_is
    (learns_so x.layout x.tasks tasks x.store new now from call reply view None c.finish.result same.me c.requires.teaches.told taught follows steps)

pub returns-in-Ok-clause-still : goal.returns-in-Ok-clause-still
returns-in-Ok-clause-still g c =
    handled_still g.D.Disk _ _ c.args.self.now.me (message.Learn c.args.call.group c.args.view) c.self.inside.store c.learn.new.store _ c.self.view_is
    c.self.invariant None (c.in-Ok.ensures c.args.self.now.me).handles

pub returns-in-Ok-clause-change : goal.returns-in-Ok-clause-change
returns-in-Ok-clause-change g c =
    let e = goal.at.returns-in-Ok-clause-change g c in
    let learnt = c.in-Ok.ensures c.args.self.now.me in
    handled_change g.D.Disk _ _ c.args.self.now.me (message.Learn c.args.call.group c.args.view) c.self.inside.store c.learn.new.store _ c.self.view_is
    c.self.invariant None c.finish.new.self learnt.handles learnt.change c.requires.stands (runs_so g e.After-learn) (done_same g e.After-finish).me
    (invariant_of-self-in-Ok g c)

pub returns-in-Ok-clause-answer : goal.returns-in-Ok-clause-answer
returns-in-Ok-clause-answer g c =
    answers_made c.finish.result c.learn.new.store.halted
    ((c.in-Ok.ensures c.args.packet.now.from).handles.halts ∙ runs_so g (goal.at.returns-in-Ok-clause-answer g c).After-learn)

-- ---- it is not

pub invariant_of-self-in-Err : goal.invariant_of-self-in-Err
invariant_of-self-in-Err g c =
    let handles = (c.in-Err.ensures c.args.packet.now.from).handles in
    stays_brick c.self.inside.layout c.self.inside.tasks c.take_back.new.self c.self.inside.store c.learn.new.store c.self.invariant
    (taken_same g (goal.at.invariant_of-self-in-Err g c).After-take_back) handles.shape handles.refused

pub returns-in-Err-clause-err : goal.returns-in-Err-clause-err
returns-in-Err-clause-err g c =
    let x = c.self.inside in
    let from = c.args.packet.now.from in
    same_kept x.layout c.take_back.new.self x.store c.learn.new.store (c.in-Err.ensures from).handles.refused
    ∙ stays_so x.layout x.tasks c.take_back.new.self x.store c.self.invariant.boot
    (taken_same g (goal.at.returns-in-Err-clause-err g c).After-take_back).boot
    (c.take_back.ensures.state x.layout c.args.now from c.args.call c.args.reply.now x.tasks refl c.in_ok-turn.ensures.turn (parts_in x.layout x.store.state))
    ∙ ap (λ (n : Running g.row.D.Denot). state_of n) c.self.view_is

pub returns-in-Err-clause-same : goal.returns-in-Err-clause-same
returns-in-Err-clause-same g c =
    record {
      layout = ap (λ (n : Running g.row.D.Denot). n.layout) c.self.view_is;
      me = (taken_same g (goal.at.returns-in-Err-clause-same g c).After-take_back).me ∙ ap (λ (n : Running g.row.D.Denot). n.me) c.self.view_is;
    }

pub returns-in-Err-clause-change : goal.returns-in-Err-clause-change
returns-in-Err-clause-change g c =
    let learnt = c.in-Err.ensures c.args.self.now.me in
    refused_change g.D.Disk _ _ c.args.self.now.me (message.Learn c.args.call.group c.args.view) c.self.inside.store c.learn.new.store _ c.self.view_is
    c.self.invariant Outs c.in-Err.fault (Err c.from.result) c.take_back.new.self learnt.handles learnt.change c.requires.stands
    (runs_so g (goal.at.returns-in-Err-clause-change g c).After-learn)
    (ap (λ (e : NodeFault). (let r : Result Outs NodeFault = Err e in r)) c.from.ensures)

pub returns-in-Err-clause-answer : goal.returns-in-Err-clause-answer
returns-in-Err-clause-answer g c =
    let handles = (c.in-Err.ensures c.args.packet.now.from).handles in
    let runs = runs_so g (goal.at.returns-in-Err-clause-answer g c).After-learn in
    let not_halted : c.in-Err.fault ≢ replica.Halted =
    λ is. true≢false (sym (handles.only_halted (ap (λ (e : ReplicaFault). Err e) is)) ∙ runs) in
    answers_fault Outs (Option Message) c.in-Err.fault c.from.result c.self.inside.store.halted c.learn.new.store.halted c.from.ensures runs not_halted
    handles.halts
