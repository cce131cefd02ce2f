-- The view's lists are looked at, and whether the reply counts.
use Rattle.std.proofs.Common.{◌≡◌, Bool, true, ◌&&◌, sym, ◌∙◌, ap, subst}
use Rattle.messages.specs.declared.packets.Message.{Message}
use Rattle.messages.specs.declared.packets.Message.TheVariants as message
use Rattle.protocol.specs.Views.{is_view}
use Rattle.node.specs.Tasks.{counts_at}
use Rattle.node.specs.Running.{Running, state_of}
use Rattle.node.specs.Teaching.{is_taught}
use Rattle.node.proofs.CountsHere.{taught_so}
use Rattle.node.proofs.nodes.Node.is_taught_by.Goals as goal

pub returns-then-is_view : goal.returns-then-is_view
returns-then-is_view g c = λ told is teaches.
    let x = c.self.inside in
    let from = c.args.packet.now.from in
    let call = c.args.call in
    let view = c.args.view.now in
    let group = c.in-Some.group.now in
    let fits : is_view group.m x.layout.bricks view ≡ true = sym ((λ i. is_view (c.m.ensures i) (c.bricks.ensures.value i) view)) ∙ sym c.is_view.ensures ∙ c.if-is_view.true in
    let counted = c.counts.ensures ∙ ap (λ (m : Message). counts_at x.tasks call.seq from m) is in
    subst (λ (n : Running g.row.D.Denot). c.counts.result ≡ is_taught n.layout (state_of n) from call told) c.self.view_is
    (counted ∙ ap (λ (b : Bool). b && counts_at x.tasks call.seq from (message.Reply call told)) (sym fits)
    ∙ sym (taught_so x.layout from call told x.tasks x.store c.self.invariant.tasks_are c.self.invariant.boot view teaches group (sym c.in-Some.ensures.found)))
