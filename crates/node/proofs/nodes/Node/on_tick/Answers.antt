-- The open calls send what the brick does.
use Rattle.std.proofs.Common.{◌≡◌, sym, ◌∙◌, ap, subst}
use Rattle.protocol.specs.Nodes.{Node, ticked}
use Rattle.stripe_code.specs.Codes.{coding}
use Rattle.coord_phase.specs.Messages.{packets_from}
use Rattle.node.specs.States.{parts_in}
use Rattle.node.specs.Running.{Running, state_of}
use Rattle.node.proofs.Views.{seen_so}
use Rattle.node.proofs.nodes.Node.on_tick.Goals as goal

pub returns-clause-packets : goal.returns-clause-packets
returns-clause-packets g c =
    let x = c.self.inside in
    subst (λ (n : Running g.row.D.Denot). packets_from n.me c.in_ok-on_tick.field-0.items ≡ ticked (coding n.layout) n.me (state_of n)) c.self.view_is
    (c.in_ok-on_tick.ensures.packets x.layout (parts_in x.layout x.store.state) c.self.invariant.tasks_are
    ∙ ap (λ (s : Node). ticked (coding x.layout) x.tasks.work.calls.me s) (sym (seen_so x.layout x.tasks x.store c.self.invariant.boot)))
