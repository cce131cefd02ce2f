-- The clock of the brick is set, as the machine's is.
use Rattle.std.proofs.Common.{arith, refl}
use Rattle.stripe_code.specs.Codes.{coding}
use Rattle.protocol.specs.Worlds.{World}
use Rattle.world.specs.Runs.{brick_of}
use Rattle.world.specs.Shown.{world_in}
use Rattle.world.proofs.BrickListLemmas.{shows_clock}
use Rattle.world.proofs.DiskLemmas.{disks_same}
use Rattle.world.proofs.MachineBegins.{happens_unset}
use Rattle.world.proofs.SimulationLemmas.{shows_set, set_here, set_nowhere, takes_still}
use Rattle.world.proofs.simulations.Simulation.set_clock.Goals as goal

pub returns-then-brick-from : goal.returns-then-brick-from
returns-then-brick-from c =
    let layout = c.args.layout.now in
    let w : World = world_in layout c.args.self.now in
    takes_still layout c.args.self.now _ _ c.requires (happens_unset (coding layout) w (brick_of c.args.brick) c.args.time (omega arith))
    (set_nowhere layout (brick_of c.args.brick) (omega arith))

pub index_mut-brick-requires : goal.index_mut-brick-requires
index_mut-brick-requires c = omega (arith, c.args.self.now.bricks.ok.0, c.requires.bricks.count)

pub returns : goal.returns
returns c =
    let layout = c.args.layout.now in
    let w : World = world_in layout c.args.self.now in
    record {
      trail = refl;
      shows = shows_set layout c.args.self.now _ w (brick_of c.args.brick) c.args.time (omega arith)
          (shows_clock layout c.args.self.now.bricks.items c.args.brick c.index_mut-brick.result.now c.args.time w
          (omega (arith, c.args.self.now.bricks.ok.0, c.requires.bricks.count)) c.index_mut-brick.ensures.value c.requires.bricks) refl c.requires;
      outcome_is = set_here layout (brick_of c.args.brick) (omega arith);
      disks = disks_same c.args.self.now.bricks.items c.args.brick c.index_mut-brick.result.now _ c.index_mut-brick.ensures.value refl;
    }
