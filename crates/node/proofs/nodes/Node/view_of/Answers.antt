-- The view is that of the call's coordinator, if it has one.
use Rattle.std.proofs.Common.{◌≡◌, sym, ◌∙◌, ap, subst}
use Rattle.std.specs.Option.{option_map}
use Rattle.protocol.specs.Nodes.{Node, view_in}
use Rattle.node.specs.States.{parts_in}
use Rattle.node.specs.Running.{Running, state_of}
use Rattle.node.proofs.Views.{seen_so}
use Rattle.node.proofs.nodes.Node.view_of.Goals as goal

pub returns : goal.returns
returns g c =
    let x = c.self.inside in
    subst (λ (n : Running g.row.D.Denot). c.view_of.result ≡ option_map view_in ((state_of n).calls c.args.seq)) c.self.view_is
    (c.view_of.ensures (parts_in x.layout x.store.state)
    ∙ ap (λ (n : Node). option_map view_in (n.calls c.args.seq)) (sym (seen_so x.layout x.tasks x.store c.self.invariant.boot)))
