-- What the store's disk holds shows the brick.
use Rattle.std.proofs.Common.{◌≡◌, false, subst}
use Rattle.fab_disk.specs.Changing.{Stands}
use Rattle.node.specs.Running.{Running, state_of, ImageShows}
use Rattle.node.proofs.Shown.{shown_so}
use Rattle.node.proofs.nodes.Node.into_disk.Goals as goal

pub returns-clause-stands : goal.returns-clause-stands
returns-clause-stands g c =
    let d = g.D.Disk in
    let x = c.self.inside in
    subst (λ (n : Running g.row.D.Denot). d.tells → n.brick.halted ≡ false → Stands d (ImageShows n.layout n.me (state_of n)) c.into_disk.result)
    c.self.view_is
    (λ told runs. shown_so d x.layout x.tasks x.store c.into_disk.result c.self.invariant (c.into_disk.ensures.stands told runs))
