-- What the store keeps shows the brick.
use Rattle.std.proofs.Common.{subst}
use Rattle.node.specs.Ends.{IsShown}
use Rattle.node.specs.Running.{Running, state_of, IsKept}
use Rattle.node.proofs.Views.{kept_so}
use Rattle.node.proofs.Shown.{shown_so}
use Rattle.node.proofs.nodes.Node.is_halted.Goals as goal

pub returns-clause-stands : goal.returns-clause-stands
returns-clause-stands g c =
    let d = g.D.Disk in
    let x = c.self.inside in
    subst (λ (n : Running g.row.D.Denot). IsShown d n) c.self.view_is
    (λ told runs. shown_so d x.layout x.tasks x.store x.store.disk c.self.invariant (c.is_halted.ensures.stands told runs))

pub returns-clause-kept : goal.returns-clause-kept
returns-clause-kept g c =
    let x = c.self.inside in
    subst (λ (n : Running g.row.D.Denot). IsKept n.layout n.brick.state (state_of n)) c.self.view_is
    (kept_so x.layout x.tasks x.store c.self.invariant)
