-- The call has a coordinator where its operation is open, or it is that of the synchronisation's read.
use Rattle.std.proofs.Common.{◌≡◌, is_some, sym, ◌∙◌, ap, subst}
use Rattle.protocol.specs.Nodes.{Node}
use Rattle.node.specs.States.{parts_in}
use Rattle.node.specs.Running.{Running, state_of}
use Rattle.node.proofs.Views.{seen_so}
use Rattle.node.proofs.nodes.Node.is_open.Goals as goal

pub returns : goal.returns
returns g c =
    let x = c.self.inside in
    subst (λ (n : Running g.row.D.Denot). c.is_open.result ≡ is_some ((state_of n).calls c.args.seq)) c.self.view_is
    (c.is_open.ensures (parts_in x.layout x.store.state)
    ∙ ap (λ (n : Node). is_some (n.calls c.args.seq)) (sym (seen_so x.layout x.tasks x.store c.self.invariant.boot)))
