-- The events that the line was go into the course.
use Rattle.std.proofs.Common.{List, refl, sym, ap, ◌∙◌, subst}
use Rattle.fab_disk.specs.declared.mem_disk.MemDisk.{MemDisk}
use Rattle.world.specs.Runs.{with_events, world_at}
use Rattle.world.specs.Shown.{Comes, ComesTo, world_in}
use Rattle.world.specs.declared.trails.Trail.{Trail}
use Rattle.world.proofs.DeliveryLemmas.{came_alike}
use Rattle.world.proofs.HistoryLemmas.{same_all}
use Rattle.world.proofs.simulations.Simulation.take.Goals as goal

pub with-self-requires : goal.with-self-requires
with-self-requires c =
    let layout = c.args.layout.now in
    let ran = c.in_ok-outcome.ensures.ok in
    subst (λ (trail : Trail). Comes layout (world_at layout trail.course) c.of-shelf.result.disks c.happen.new.self c.args.line.now c.in_ok-outcome.outcome)
    (sym ran.trail)
    (subst (λ (disks : List MemDisk). Comes layout (world_in layout c.args.self.now) disks c.happen.new.self c.args.line.now c.in_ok-outcome.outcome)
    (sym c.of-shelf.ensures) ran.comes)

pub returns-clause-ok : goal.returns-clause-ok
returns-clause-ok c =
    let layout = c.args.layout.now in
    let ran = c.in_ok-outcome.ensures.ok in
    let (events, comes, course) = c.with-self.ensures in (
      events,
      came_alike layout (world_in layout c.args.self.now) _ c.happen.new.self _ c.args.line.now c.in_ok-outcome.outcome events refl (same_all _)
          (subst (λ (disks : List MemDisk). ComesTo layout (world_in layout c.args.self.now) disks c.happen.new.self c.args.line.now c.in_ok-outcome.outcome events)
          c.of-shelf.ensures
          (subst (λ (trail : Trail). ComesTo layout (world_at layout trail.course) c.of-shelf.result.disks c.happen.new.self c.args.line.now
          c.in_ok-outcome.outcome events) ran.trail comes)),
      course ∙ ap (λ (trail : Trail). with_events trail.course events) ran.trail,
    )
