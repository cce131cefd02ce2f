-- The brick synchronises, or refuses, as the machine's does.
use Rattle.std.proofs.Common.{refl, sym, ap, ◌∙◌, subst}
use Rattle.std.specs.Prelude.{Ok, Err}
use Rattle.std.proofs.lemmas.Bool.{and_parts}
use Rattle.stripe_code.specs.Codes.{coding}
use Rattle.node.specs.declared.faults.NodeFault.{NodeFault}
use Rattle.node.specs.declared.faults.NodeFault.TheVariants.{Refused}
use Rattle.protocol.specs.Settings.{Setting}
use Rattle.protocol.specs.Nodes.{Node, NodeStep, put, synced_at}
use Rattle.protocol.specs.Worlds.{World, Syncs, is_brick}
use Rattle.world.specs.Texts.{refused_or_begun}
use Rattle.world.specs.BrickSteps.{ChangesBrick, RunsOn, DoesSync}
use Rattle.world.specs.Shown.{ShowsBricks, seqs_of, world_in}
use Rattle.world.proofs.Asking.{asked_refused, asked_stays}
use Rattle.world.proofs.BrickListLemmas.{disks_on, shows_on, up_there}
use Rattle.world.proofs.HistoryLemmas.{tells_same}
use Rattle.world.proofs.HearingLemmas.{tells_step}
use Rattle.world.proofs.MachineBegins.{unsynced_here, happens_unsynced}
use Rattle.world.proofs.MachineSteps.{synced_opens_reads}
use Rattle.world.proofs.SimulationLemmas.{on_err_always, shows_synced, stays_alike}
use Rattle.world.proofs.simulations.Simulation.begin_sync.Goals as goal

pub ask_to_sync-requires : goal.ask_to_sync-requires
ask_to_sync-requires c = c.requires.up

-- the room that was made tells nothing
pub returns-in_err-expect_call-clause-err : goal.returns-in_err-expect_call-clause-err
returns-in_err-expect_call-clause-err c =
    on_err_always c.from_residual.result (stays_alike c.args._layout.now c.args.self.now _ c.expect_call.ensures.same c.requires.stands)

pub returns-in-Ok-clause-ok : goal.returns-in-Ok-clause-ok
returns-in-Ok-clause-ok c =
    let layout = c.args._layout.now in
    let brick = c.args.brick in
    let setting : Setting = coding layout in
    let w : World = world_in layout c.args.self.now in
    let shows = c.requires.stands in
    let did = shows_on w (DoesSync c.args.group (Ok c.in-Ok.outs)) shows.bricks c.in-Ok.ensures.asks in
    record {
      trail = refl;
      shows =
          (let step : NodeStep = synced_at setting brick (w.clocks brick.0) (w.nodes brick.0) c.args.group in
          let up = up_there layout _ w _ c.requires.up shows.bricks in
          shows_synced layout _ w brick c.args.group up did.holds.refused
          (subst (λ (n : Node). ShowsBricks layout c.ask_to_sync.new.bricks.items (put w.nodes brick.0 n) w.after w.up w.clocks) did.holds.steps.state_is did.bricks)
          (tells_step setting c.expect_call.new.self c.step.new.self w brick c.in-Ok.outs did.next step
          (tells_same (seqs_of w) _ _ w c.expect_call.ensures.same shows.history) (and_parts (is_brick layout brick) (w.up brick.0) up).1
          (synced_opens_reads setting brick (w.clocks brick.0) (w.nodes brick.0) c.args.group) did.holds.steps c.step.ensures));
      outcome_is =
          sym (ap refused_or_begun (unsynced_here setting w brick c.args.group (up_there layout _ w _ c.requires.up shows.bricks)
          ∙ did.holds.refused));
      disks = disks_on (DoesSync c.args.group (Ok c.in-Ok.outs)) c.in-Ok.ensures.asks;
    }

pub returns-in-Err-Refused-clause-ok : goal.returns-in-Err-Refused-clause-ok
returns-in-Err-Refused-clause-ok c =
    let w : World = world_in c.args._layout.now c.args.self.now in
    rw c.in-Err-Refused.field-0-is
    (asked_refused c.args._layout.now c.args.self.now (record c.args.self.now { bricks = c.ask_to_sync.new.bricks; history = c.expect_call.new.self }) c.args.brick
    (DoesSync c.args.group (Err (Refused c.in-Err-Refused.refusal))) refl c.expect_call.ensures.same c.requires.stands
    (subst (λ (fault : NodeFault). ChangesBrick c.args.self.now.bricks.items c.ask_to_sync.new.bricks.items c.args.brick (RunsOn (DoesSync c.args.group (Err fault))))
    c.in-Err-Refused.field-0-is c.in-Err-Refused.ensures.asks)
    (λ next held. held.stays) (Syncs c.args.brick c.args.group) _
    (λ next held. happens_unsynced (coding c.args._layout.now) w c.args.brick c.args.group c.in-Err-Refused.refusal held.refused)
    (λ next held. sym (ap refused_or_begun (unsynced_here (coding c.args._layout.now) w c.args.brick c.args.group
    (up_there c.args._layout.now _ w _ c.requires.up c.requires.stands.bricks) ∙ held.refused))))

pub returns-in-Err-NoMemory-clause-err : goal.returns-in-Err-NoMemory-clause-err
returns-in-Err-NoMemory-clause-err c =
    asked_stays c.args._layout.now c.args.self.now (record c.args.self.now { bricks = c.ask_to_sync.new.bricks; history = c.expect_call.new.self }) c.args.brick
    (DoesSync c.args.group (Err c.in-Err-NoMemory.field-0)) refl c.expect_call.ensures.same c.requires.stands c.in-Err-NoMemory.ensures.asks (λ next held. held.stays)
