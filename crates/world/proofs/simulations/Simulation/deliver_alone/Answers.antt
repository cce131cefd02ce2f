-- Chaining what was sent leaves what the delivery came to.
use Rattle.std.proofs.Common.{None, refl}
use Rattle.lines.specs.declared.forms.Line.TheVariants.{Deliver}
use Rattle.world.specs.Shown.{disks_of, world_in}
use Rattle.world.proofs.DeliveryLemmas.{came_alike}
use Rattle.world.proofs.simulations.Simulation.deliver_alone.Goals as goal

pub returns-clause-ok : goal.returns-clause-ok
returns-clause-ok c =
    let (events, comes, course) = c.in_ok-take.ensures.ok in (
      c.in_ok-take.field-0,
      (
        events,
        came_alike c.args.layout.now (world_in c.args.layout.now c.args.self.now) (disks_of c.args.self.now.bricks.items) c.take.new.self _
            (Deliver c.args.message None) c.in_ok-take.field-0 events refl c.chain_sent.ensures comes,
        course,
      ),
    )
