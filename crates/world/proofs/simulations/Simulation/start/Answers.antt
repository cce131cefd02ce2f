-- The brick of the number starts where the machine's may.
use Rattle.std.proofs.Common.{◌≡◌, Bool, true, false, Option, Ok, arith, refl, subst}
use Rattle.std.specs.Prelude.{if◌then◌else◌}
use Rattle.fab_base.specs.declared.identities.BrickId.{BrickId}
use Rattle.fab_base.specs.Layouts.{Layout}
use Rattle.lines.specs.declared.forms.Fault.{Fault}
use Rattle.lines.specs.declared.forms.Line.TheVariants.{Start}
use Rattle.protocol.specs.Worlds.{World}
use Rattle.world.specs.Runs.{brick_of}
use Rattle.world.specs.Shown.{RunsLine, Stands, world_in}
use Rattle.world.specs.declared.simulations.Outcome.TheVariants.{Marks, Idle}
use Rattle.world.specs.declared.simulations.Simulation.{Simulation}
use Rattle.world.proofs.BrickListLemmas.{bricks_there}
use Rattle.world.proofs.DeliveryLemmas.{start_comes}
use Rattle.world.proofs.SimulationLemmas.{on_err_always}
use Rattle.world.proofs.StartLemmas.{StartedAs, refused_contents, started_as, starts_nowhere}
use Rattle.world.proofs.simulations.Simulation.start.Goals as goal

pub start_brick-requires-clause-nodes : goal.start_brick-requires-clause-nodes
start_brick-requires-clause-nodes c = (bricks_there c.requires.bricks).each

pub start_brick-requires-clause-brick : goal.start_brick-requires-clause-brick
start_brick-requires-clause-brick c = omega (arith, c.args.self.now.bricks.ok.0, c.requires.bricks.count)

-- a start, by whether the brick was found to have started
start_runs : (layout : Layout) (old new : Simulation) (brick : BrickId) (fault : Option Fault) (found started : Bool) → new.trail ≡ old.trail
    → new.history ≡ old.history → Stands layout old → found ≡ started
    → StartedAs layout (world_in layout old) brick fault old.bricks.items new.bricks.items (Ok found)
    → RunsLine layout old new (Start brick.0 fault) (if started then Marks else Idle)
start_runs layout old new brick fault found started trail history stands same starts = record {
  trail = trail;
  comes = start_comes layout (world_in layout old) old new brick fault started history stands
      (subst (λ (b : Bool). StartedAs layout (world_in layout old) brick fault old.bricks.items new.bricks.items (Ok b)) same starts);
}

pub returns-then-brick-from-clause-ok : goal.returns-then-brick-from-clause-ok
returns-then-brick-from-clause-ok c =
    let w : World = world_in c.args.layout.now c.args.self.now in
    start_runs c.args.layout.now c.args.self.now c.args.self.now (brick_of c.args.brick) c.args.fault false false refl refl c.requires refl
    (starts_nowhere c.args.layout.now c.args.self.now.bricks.items (brick_of c.args.brick) c.args.fault w (omega arith) c.requires.bricks)

pub returns-then-branch-clause-ok : goal.returns-then-branch-clause-ok
returns-then-branch-clause-ok c =
    start_runs c.args.layout.now c.args.self.now (record c.args.self.now { bricks = c.start_brick.new.bricks }) (brick_of c.args.brick) c.args.fault _ true
    refl refl c.requires c.if-branch.true
    (started_as c.args.fault _ (world_in c.args.layout.now c.args.self.now) c.requires.bricks c.in_ok-start_brick.ensures)

pub returns-else-branch-clause-ok : goal.returns-else-branch-clause-ok
returns-else-branch-clause-ok c =
    start_runs c.args.layout.now c.args.self.now (record c.args.self.now { bricks = c.start_brick.new.bricks }) (brick_of c.args.brick) c.args.fault _ false
    refl refl c.requires c.if-branch.false
    (started_as c.args.fault _ (world_in c.args.layout.now c.args.self.now) c.requires.bricks c.in_ok-start_brick.ensures)

pub returns-in_err-start_brick-clause-err : goal.returns-in_err-start_brick-clause-err
returns-in_err-start_brick-clause-err c =
    let w : World = world_in c.args.layout.now c.args.self.now in
    on_err_always c.from_residual.result
    (record {
      trail = refl;
      shows = record { bricks = started_as c.args.fault _ w c.requires.bricks c.in_err-start_brick.ensures; history = c.requires.history };
      contents = refused_contents c.args.fault _ (bricks_there c.requires.bricks).each c.in_err-start_brick.ensures;
    })
