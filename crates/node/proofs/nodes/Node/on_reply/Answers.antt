-- A reply is counted or left out; and the view that it teaches is learnt.
use Rattle.std.proofs.Common.{◌≡◌, Option, None, Result, Ok, refl, sym, ◌∙◌, ap, subst}
use Rattle.std.specs.Result.{OnOk, IfOk}
use Rattle.fab_disk.specs.Disk.{IsUntouched}
use Rattle.brick_store.specs.Bricks.{Brick}
use Rattle.brick_store.specs.Calls.{Append, calls_for}
use Rattle.messages.specs.declared.packets.Message.TheVariants as message
use Rattle.replica.specs.Calls.{learnt_append, message_append}
use Rattle.stripe_code.specs.Codes.{coding}
use Rattle.protocol.specs.Nodes.{Node, NodeStep, heard, node_learnt, received}
use Rattle.coord_phase.specs.Messages.{packets_from}
use Rattle.node.specs.declared.faults.NodeFault.{NodeFault}
use Rattle.node.specs.declared.outs.Outs.{Outs}
use Rattle.node.specs.Ends.{end_of}
use Rattle.node.specs.Outcomes.{Outcome}
use Rattle.node.specs.Running.{Running, state_of, shape_at}
use Rattle.node.specs.States.{StepsAs}
use Rattle.node.proofs.Hearing.{heard_left, absorbed_untaught, absorbed_left, absorbed_taught, learnt_none}
use Rattle.node.proofs.Learning.{received_reply, append_reply, change_replied}
use Rattle.node.proofs.Moments.{untouched_same}
use Rattle.node.proofs.Shown.{step_still}
use Rattle.node.proofs.States.{on_ok}
use Rattle.node.proofs.nodes.Node.on_reply.Given.{Over}
use Rattle.node.proofs.nodes.Node.on_reply.Goals as goal
use Rattle.node.proofs.nodes.Node.on_reply.Goals.{After-view_told}

-- a step on the reply that is heard is one on the packet
received_so : (g : Over) (c : After-view_told g) (result : Result Outs NodeFault) (after : Running g.row.D.Denot) → (let old = c.args.self.now in
    IfOk result (StepsAs old.me (state_of after) (heard (coding old.layout) old.me c.args.now c.args.packet.now.from (state_of old) c.args.call
    c.args.reply.now)) → IfOk result (StepsAs old.me (state_of after) (received (coding old.layout) old.me c.args.now (state_of old) c.args.packet.now)))
received_so g c result after =
    let old = c.args.self.now in
    subst (λ (step : NodeStep). IfOk result (StepsAs old.me (state_of after) step))
    (sym (received_reply old.layout old.me c.args.now (state_of old) c.args.packet.now c.args.call c.args.reply.now c.requires.reply))

-- ---- a reply that teaches no view

pub returns-in_default-clause-step : goal.returns-in_default-clause-step
returns-in_default-clause-step g c =
    received_so g (goal.at.returns-in_default-clause-step g c).After-view_told c.count.result c.count.new.self c.count.ensures.step

pub returns-in_default-clause-still : goal.returns-in_default-clause-still
returns-in_default-clause-still g c = λ none.
    let d = g.D.Disk in
    let was = c.args.self.now.brick in
    subst (λ (b : Brick g.row.D.Denot). OnOk c.count.result ((b.state ≡ was.state) × IsUntouched d.seen d.may_leave d.moment d.left_since was.disk b.disk))
    (sym c.count.ensures.brick)
    (on_ok c.count.result (refl, untouched_same d.moment d.left_since d.seen d.may_leave was.disk))

pub returns-in_default-clause-change : goal.returns-in_default-clause-change
returns-in_default-clause-change g c =
    let was = c.args.self.now in
    let packet = c.args.packet.now in
    change_replied g.D.Disk was c.count.new.self packet c.args.call c.args.reply.now (state_of was) None (end_of c.count.result) c.requires.reply
    (absorbed_untaught was.layout was.me packet.from packet.to (state_of was) c.args.call c.args.reply.now (sym c.in_default.ensures))
    (learnt_none ((state_of was).learnt c.args.call.group.0))
    (step_still g.D.Disk g.met.D.Disk.only_now was c.count.new.self _ c.count.result c.count.ensures.only c.count.ensures.brick c.count.ensures.shown
    c.requires.stands c.requires.runs)

-- ---- a reply that would teach a view, and does not count

pub returns-then-not-is_taught_by-clause-step : goal.returns-then-not-is_taught_by-clause-step
returns-then-not-is_taught_by-clause-step g c =
    let me = c.args.self.now.me in
    let layout = c.args.self.now.layout in
    let node = state_of c.args.self.now in
    let left = sym (c.if-not-is_taught_by.ensures c.args.reply.now c.requires.reply (sym c.in-Some.ensures)) in
    subst (λ (step : NodeStep). StepsAs me node step c.nothing.result)
    (sym (received_reply layout me c.args.now node c.args.packet.now c.args.call c.args.reply.now c.requires.reply
    ∙ heard_left layout me c.args.now c.args.packet.now.from node c.args.call c.args.reply.now c.in-Some.view (sym c.in-Some.ensures) left))
    (record {
      packets = ap (λ (outs : Outcome). packets_from me outs.messages) c.nothing.ensures;
      told = ap (λ (outs : Outcome). outs.told) c.nothing.ensures;
      answers = ap (λ (outs : Outcome). outs.answers) c.nothing.ensures;
      reports = ap (λ (outs : Outcome). outs.reports) c.nothing.ensures;
      state_is = refl;
    })

pub returns-then-not-is_taught_by-clause-still : goal.returns-then-not-is_taught_by-clause-still
returns-then-not-is_taught_by-clause-still g c = λ none.
    (refl, untouched_same g.D.Disk.moment g.D.Disk.left_since g.D.Disk.seen g.D.Disk.may_leave c.args.self.now.brick.disk)

pub returns-then-not-is_taught_by-clause-change : goal.returns-then-not-is_taught_by-clause-change
returns-then-not-is_taught_by-clause-change g c =
    let same = c.args.self.now in
    let from = c.args.packet.now.from in
    let told = c.args.reply.now in
    change_replied g.D.Disk same same c.args.packet.now c.args.call told (state_of same) None (end_of {T = Unit {0}} (Ok tt)) c.requires.reply
    (absorbed_left same.layout same.me from c.args.packet.now.to (state_of same) c.args.call told c.in-Some.view (sym c.in-Some.ensures)
    (sym (c.if-not-is_taught_by.ensures told c.requires.reply (sym c.in-Some.ensures))))
    (learnt_none ((state_of same).learnt c.args.call.group.0))
    (step_still g.D.Disk g.met.D.Disk.only_now same same (Unit {0}) (Ok tt) tt refl (λ image shows. shows) c.requires.stands c.requires.runs)

-- ---- a reply that counts and teaches a view

pub on_moved-requires-clause-teaches : goal.on_moved-requires-clause-teaches
on_moved-requires-clause-teaches g c =
    let told = sym c.in-Some.ensures in
    record { told = told; counts = sym (c.if-not-is_taught_by.ensures c.args.reply.now c.requires.reply told) }

pub returns-clause-step : goal.returns-clause-step
returns-clause-step g c = received_so g (goal.at.returns-clause-step g c).After-view_told c.on_moved.result c.on_moved.new.self c.on_moved.ensures.step

pub returns-clause-still : goal.returns-clause-still
returns-clause-still g c = λ none.
    let old = c.args.self.now in
    let told = c.args.reply.now in
    let group = c.args.call.group.0 in
    let taught = sym (c.if-not-is_taught_by.ensures told c.requires.reply (sym c.in-Some.ensures)) in
    let append_is = append_reply old.layout old.me (state_of old) c.args.packet.now c.args.call told c.requires.reply
    ∙ ap (λ (n : Node). learnt_append ((state_of old).learnt group) (n.learnt group))
    (absorbed_taught old.layout old.me c.args.packet.now.from c.args.packet.now.to (state_of old) c.args.call told c.in-Some.view (sym c.in-Some.ensures) taught) in
    c.on_moved.ensures.still (sym (ap (λ (append : Option Append). calls_for (shape_at old.layout old.me) old.brick.listed append) append_is) ∙ none)

pub returns-clause-change : goal.returns-clause-change
returns-clause-change g c =
    let old = c.args.self.now in
    let packet = c.args.packet.now in
    let node = state_of old in
    let call = c.args.call in
    change_replied g.D.Disk old c.on_moved.new.self packet call c.args.reply.now (node_learnt old.layout node call.group c.in-Some.view)
    (message_append old.layout old.me old.me node (message.Learn call.group c.in-Some.view)) (end_of c.on_moved.result) c.requires.reply
    (absorbed_taught old.layout old.me packet.from packet.to node call c.args.reply.now c.in-Some.view (sym c.in-Some.ensures)
    (sym (c.if-not-is_taught_by.ensures c.args.reply.now c.requires.reply (sym c.in-Some.ensures)))) refl c.on_moved.ensures.change
