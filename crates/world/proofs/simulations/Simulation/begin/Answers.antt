-- The brick begins, or refuses, as the machine's does.
use Rattle.std.proofs.Common.{◌≡◌, List, refl, sym, ap, ◌∙◌, subst}
use Rattle.std.specs.Prelude.{Ok, Err, IfSome}
use Rattle.std.proofs.lemmas.Bool.{and_parts}
use Rattle.stripe_code.specs.Codes.{coding}
use Rattle.node.specs.Running.{state_of}
use Rattle.node.specs.declared.faults.NodeFault.{NodeFault}
use Rattle.node.specs.declared.faults.NodeFault.TheVariants.{Refused}
use Rattle.protocol.specs.Settings.{Setting}
use Rattle.protocol.specs.Nodes.{Node, NodeStep, put, invoked}
use Rattle.protocol.specs.Worlds.{World, Invokes, is_brick}
use Rattle.world.specs.BrickSteps.{ChangesBrick, RunsOn, DoesBegin}
use Rattle.world.specs.Shown.{IsUp, ShowsBricks, running_at, seqs_of, world_in}
use Rattle.world.specs.declared.bricks.Brick.{Brick}
use Rattle.world.specs.Texts.{refused_or_begun}
use Rattle.world.proofs.MachineBegins.{refusal_here, invoked_boot, invoked_next, happens_refused}
use Rattle.world.proofs.Asking.{asked_refused, asked_stays}
use Rattle.world.proofs.BrickListLemmas.{boots_as, disks_on, shows_on, up_there}
use Rattle.world.proofs.HistoryLemmas.{tells_began, tells_same}
use Rattle.world.proofs.SimulationLemmas.{on_err_always, shows_begun, stays_alike}
use Rattle.world.proofs.simulations.Simulation.begin.Goals as goal

pub ask_brick-requires : goal.ask_brick-requires
ask_brick-requires c = c.requires.up

pub boot_of-boot-requires : goal.boot_of-boot-requires
boot_of-boot-requires c = subst (λ (bricks : List Brick). IsUp bricks c.args.brick) (sym c.deref.ensures.value) c.requires.up

-- the room that was made tells nothing
pub returns-in_err-expect_call-clause-err : goal.returns-in_err-expect_call-clause-err
returns-in_err-expect_call-clause-err c =
    on_err_always c.from_residual.result (stays_alike c.args.layout.now c.args.self.now _ c.expect_call.ensures.same c.requires.stands)

pub returns-in-Ok-clause-ok : goal.returns-in-Ok-clause-ok
returns-in-Ok-clause-ok c =
    let layout = c.args.layout.now in
    let brick = c.args.brick in
    let setting : Setting = coding layout in
    let w : World = world_in layout c.args.self.now in
    let shows = c.requires.stands in
    let did = shows_on w (DoesBegin c.args.ask (Ok c.in-Ok.begun)) shows.bricks c.in-Ok.ensures.asks in
    record {
      trail = refl;
      shows =
          (let node : Node = w.nodes brick.0 in
          let step : NodeStep = invoked setting brick (w.clocks brick.0) node c.args.ask in
          let begun = did.holds.begun in
          let up = up_there layout _ w _ c.requires.up shows.bricks in
          let boot : step.node.boot ≡ node.boot = invoked_boot setting brick (w.clocks brick.0) node c.args.ask in
          let was : c.boot_of-boot.result ≡ node.boot =
          boots_as layout c.args.self.now.bricks.items w brick c.boot_of-boot.result c.requires.up
          (subst (λ (bricks : List Brick). IfSome (running_at bricks brick.0) (λ one. c.boot_of-boot.result ≡ (state_of one).boot))
          c.deref.ensures.value c.boot_of-boot.ensures) shows.bricks in
          shows_begun layout _ w brick c.args.ask up did.holds.refused
          (subst (λ (n : Node). ShowsBricks layout c.ask_brick.new.bricks.items (put w.nodes brick.0 n) w.after w.up w.clocks) begun.state_is did.bricks)
          (tells_began c.expect_call.new.self c.begin.new.self w brick c.boot_of-boot.result c.args.ask c.in-Ok.begun step
          (tells_same (seqs_of w) _ _ w c.expect_call.ensures.same shows.history) (and_parts (is_brick layout brick) (w.up brick.0) up).1
          begun.packets (was ∙ sym boot) begun.seq boot (invoked_next setting brick (w.clocks brick.0) node c.args.ask did.holds.refused) c.begin.ensures));
      outcome_is =
          sym (ap refused_or_begun (refusal_here setting w brick c.args.ask (up_there layout _ w _ c.requires.up shows.bricks)
          ∙ did.holds.refused));
      disks = disks_on (DoesBegin c.args.ask (Ok c.in-Ok.begun)) c.in-Ok.ensures.asks;
    }

pub returns-in-Err-Refused-clause-ok : goal.returns-in-Err-Refused-clause-ok
returns-in-Err-Refused-clause-ok c =
    let w : World = world_in c.args.layout.now c.args.self.now in
    rw c.in-Err-Refused.field-0-is
    (asked_refused c.args.layout.now c.args.self.now (record c.args.self.now { bricks = c.ask_brick.new.bricks; history = c.expect_call.new.self }) c.args.brick
    (DoesBegin c.args.ask (Err (Refused c.in-Err-Refused.refusal))) refl c.expect_call.ensures.same c.requires.stands
    (subst (λ (fault : NodeFault). ChangesBrick c.args.self.now.bricks.items c.ask_brick.new.bricks.items c.args.brick (RunsOn (DoesBegin c.args.ask (Err fault))))
    c.in-Err-Refused.field-0-is c.in-Err-Refused.ensures.asks)
    (λ next held. held.stays) (Invokes c.args.brick c.args.ask) _
    (λ next held. happens_refused (coding c.args.layout.now) w c.args.brick c.args.ask c.in-Err-Refused.refusal held.refused)
    (λ next held. sym (ap refused_or_begun (refusal_here (coding c.args.layout.now) w c.args.brick c.args.ask
    (up_there c.args.layout.now _ w _ c.requires.up c.requires.stands.bricks) ∙ held.refused))))

pub returns-in-Err-NoMemory-clause-err : goal.returns-in-Err-NoMemory-clause-err
returns-in-Err-NoMemory-clause-err c =
    asked_stays c.args.layout.now c.args.self.now (record c.args.self.now { bricks = c.ask_brick.new.bricks; history = c.expect_call.new.self }) c.args.brick
    (DoesBegin c.args.ask (Err c.in-Err-NoMemory.field-0)) refl c.expect_call.ensures.same c.requires.stands c.in-Err-NoMemory.ensures.asks (λ next held. held.stays)
