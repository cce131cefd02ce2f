-- The brick proposes, or refuses, as the machine's does.
use Rattle.std.proofs.Common.{refl, sym, ap, ◌∙◌, subst}
use Rattle.std.specs.Prelude.{Ok, Err}
use Rattle.std.proofs.lemmas.Bool.{and_parts}
use Rattle.stripe_code.specs.Codes.{coding}
use Rattle.node.specs.declared.faults.NodeFault.{NodeFault}
use Rattle.node.specs.declared.faults.NodeFault.TheVariants.{Refused}
use Rattle.protocol.specs.Settings.{Setting}
use Rattle.protocol.specs.Nodes.{Node, NodeStep, put, proposed}
use Rattle.protocol.specs.Worlds.{World, Proposes, is_brick}
use Rattle.world.specs.Texts.{refused_or_begun}
use Rattle.world.specs.BrickSteps.{ChangesBrick, RunsOn, DoesPropose}
use Rattle.world.specs.Shown.{ShowsBricks, seqs_of, world_in}
use Rattle.world.proofs.Asking.{asked_refused, asked_stays}
use Rattle.world.proofs.BrickListLemmas.{disks_on, shows_on, up_there}
use Rattle.world.proofs.HistoryLemmas.{tells_proposed, tells_same}
use Rattle.world.proofs.MachineBegins.{proposed_aside, unproposed_here, happens_unproposed}
use Rattle.world.proofs.RunLaws.{reached_next}
use Rattle.world.proofs.SimulationLemmas.{come_to, on_err_always, shows_proposed, stays_alike}
use Rattle.world.proofs.simulations.Simulation.begin_proposal.Goals as goal

pub ask_to_propose-requires : goal.ask_to_propose-requires
ask_to_propose-requires c = c.requires.up

-- the room that was made tells nothing
pub returns-in_err-expect_call-clause-err : goal.returns-in_err-expect_call-clause-err
returns-in_err-expect_call-clause-err c =
    on_err_always c.from_residual.result (stays_alike c.args._layout.now c.args.self.now _ c.expect_call.ensures.same c.requires.stands)

pub returns-in-Ok-clause-ok : goal.returns-in-Ok-clause-ok
returns-in-Ok-clause-ok c =
    let layout = c.args._layout.now in
    let brick = c.args.brick in
    let setting : Setting = coding layout in
    let w : World = world_in layout c.args.self.now in
    let shows = c.requires.stands in
    let did = shows_on w (DoesPropose c.args.group c.args.members.now (Ok c.in-Ok.outs)) shows.bricks c.in-Ok.ensures.asks in
    record {
      trail = refl;
      shows =
          (let step : NodeStep = proposed setting brick (w.nodes brick.0) c.args.group c.args.members.now in
          let steps = did.holds.steps in
          let up = up_there layout _ w _ c.requires.up shows.bricks in
          let aside = proposed_aside setting brick (w.nodes brick.0) c.args.group c.args.members.now did.holds.refused in
          shows_proposed layout _ w brick c.args.group c.args.members.now up did.holds.refused
          (subst (λ (n : Node). ShowsBricks layout c.ask_to_propose.new.bricks.items (put w.nodes brick.0 n) w.after w.up w.clocks) steps.state_is did.bricks)
          (tells_proposed setting c.expect_call.new.self c.propose.new.self w brick c.in-Ok.outs step
          (tells_same (seqs_of w) _ _ w c.expect_call.ensures.same shows.history) (and_parts (is_brick layout brick) (w.up brick.0) up).1
          (record {
            boot = aside.boot;
            told = aside.told;
            answers = aside.answers;
            seq = aside.seq;
            unnumbered = reached_next layout w (come_to layout c.args.self.now) brick.0;
          }) steps.packets steps.reports c.propose.ensures));
      outcome_is =
          sym (ap refused_or_begun (unproposed_here setting w brick c.args.group (up_there layout _ w _ c.requires.up shows.bricks)
          ∙ did.holds.refused));
      disks = disks_on (DoesPropose c.args.group c.args.members.now (Ok c.in-Ok.outs)) c.in-Ok.ensures.asks;
    }

pub returns-in-Err-Refused-clause-ok : goal.returns-in-Err-Refused-clause-ok
returns-in-Err-Refused-clause-ok c =
    let w : World = world_in c.args._layout.now c.args.self.now in
    rw c.in-Err-Refused.field-0-is
    (asked_refused c.args._layout.now c.args.self.now (record c.args.self.now { bricks = c.ask_to_propose.new.bricks; history = c.expect_call.new.self }) c.args.brick
    (DoesPropose c.args.group c.args.members.now (Err (Refused c.in-Err-Refused.refusal))) refl c.expect_call.ensures.same c.requires.stands
    (subst (λ (fault : NodeFault). ChangesBrick c.args.self.now.bricks.items c.ask_to_propose.new.bricks.items c.args.brick (RunsOn (DoesPropose c.args.group c.args.members.now (Err fault))))
    c.in-Err-Refused.field-0-is c.in-Err-Refused.ensures.asks)
    (λ next held. held.stays) (Proposes c.args.brick c.args.group c.args.members.now) _
    (λ next held. happens_unproposed (coding c.args._layout.now) w c.args.brick c.args.group c.args.members.now c.in-Err-Refused.refusal held.refused)
    (λ next held. sym (ap refused_or_begun (unproposed_here (coding c.args._layout.now) w c.args.brick c.args.group
    (up_there c.args._layout.now _ w _ c.requires.up c.requires.stands.bricks) ∙ held.refused))))

pub returns-in-Err-NoMemory-clause-err : goal.returns-in-Err-NoMemory-clause-err
returns-in-Err-NoMemory-clause-err c =
    asked_stays c.args._layout.now c.args.self.now (record c.args.self.now { bricks = c.ask_to_propose.new.bricks; history = c.expect_call.new.self }) c.args.brick
    (DoesPropose c.args.group c.args.members.now (Err c.in-Err-NoMemory.field-0)) refl c.expect_call.ensures.same c.requires.stands c.in-Err-NoMemory.ensures.asks (λ next held. held.stays)
