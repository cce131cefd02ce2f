-- A brick that is up stops as the machine's does, with its mark.
use Rattle.std.proofs.Common.{None, ap, arith, refl, subst}
use Rattle.fab_base.specs.declared.identities.BrickId.{BrickId}
use Rattle.stripe_code.specs.Codes.{coding}
use Rattle.std.proofs.lemmas.Bool.{and_parts}
use Rattle.protocol.specs.Worlds.{World, Stops, is_brick, happens}
use Rattle.world.specs.Runs.{brick_of}
use Rattle.world.specs.Shown.{Shows, disk_in, seqs_of, world_in}
use Rattle.world.specs.declared.simulations.Simulation.{Simulation}
use Rattle.world.proofs.BrickListLemmas.{running_not, up_at, up_there, shows_stopped}
use Rattle.world.proofs.DiskLemmas.{disks_kept}
use Rattle.world.proofs.HistoryLemmas.{tells_crashed, tells_same}
use Rattle.world.proofs.MachineBegins.{happens_unstopped}
use Rattle.world.proofs.SimulationLemmas.{on_err_always, shows_crashed, stays_alike, takes_still, done_here, done_nowhere}
use Rattle.world.proofs.simulations.Simulation.crash.Goals as goal

pub returns-in_err-make_room-clause-err : goal.returns-in_err-make_room-clause-err
returns-in_err-make_room-clause-err c =
    on_err_always c.from_residual.result (stays_alike c.args.layout.now c.args.self.now _ c.make_room.ensures.same c.requires)

pub stop_brick-requires : goal.stop_brick-requires
stop_brick-requires c = omega (arith, c.args.self.now.bricks.ok.0, c.in-Some.ensures.1.within)

pub returns-in-None-clause-ok : goal.returns-in-None-clause-ok
returns-in-None-clause-ok c =
    let layout = c.args.layout.now in
    let w : World = world_in layout c.args.self.now in
    let down = running_not layout c.args.self.now.bricks.items w c.args.brick c.requires.bricks c.in-None.ensures in
    takes_still layout c.args.self.now _ _ c.requires (happens_unstopped (coding layout) w (brick_of c.args.brick) down)
    (done_nowhere layout w (brick_of c.args.brick) down)

pub returns-clause-ok : goal.returns-clause-ok
returns-clause-ok c =
    let layout = c.args.layout.now in
    let w : World = world_in layout c.args.self.now in
    let state : Simulation = record c.args.self.now { bricks = c.stop_brick.new.bricks; history = c.crash.new.self } in
    let (is, on) = c.in-Some.ensures in
    let up = up_there layout _ w _ on c.requires.bricks in
    record {
      trail = refl;
      shows = subst (λ (brick : BrickId). Shows layout state (happens (coding layout) w (Stops brick None))) is
          (shows_crashed layout state w c.in-Some.brick up
          (shows_stopped w (and_parts (is_brick layout c.in-Some.brick) (w.up c.in-Some.brick.0) up).1 c.requires.bricks c.stop_brick.ensures)
          (tells_crashed (coding layout) _ _ w c.in-Some.brick (tells_same (seqs_of w) _ _ w c.make_room.ensures.same c.requires.history) c.crash.ensures));
      outcome_is = done_here layout w (brick_of c.args.brick)
          (up_at layout c.args.self.now.bricks.items c.args.brick c.in-Some.brick c.in-Some.ensures w c.requires.bricks);
      disks = disks_kept c.stop_brick.ensures (ap disk_in c.stop_brick.ensures.holds);
    }
