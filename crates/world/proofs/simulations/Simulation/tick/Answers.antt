-- A brick that is up sends what the machine's does.
use Rattle.std.proofs.Common.{◌≡◌, List, ◌++◌, refl, sym, subst}
use Rattle.std.specs.Prelude.{IfSome}
use Rattle.coord_phase.specs.Messages.{packets_from}
use Rattle.fab_base.specs.declared.identities.BrickId.{BrickId}
use Rattle.messages.specs.declared.packets.Packet.{Packet}
use Rattle.node.specs.Running.{state_of}
use Rattle.stripe_code.specs.Codes.{coding}
use Rattle.protocol.specs.Nodes.{ticked}
use Rattle.protocol.specs.Worlds.{World, Ticks, happens}
use Rattle.world.specs.Runs.{brick_of}
use Rattle.world.specs.Shown.{IsUp, Shows, Tells, running_at, seqs_of, world_in}
use Rattle.world.specs.declared.bricks.Brick.{Brick}
use Rattle.world.specs.declared.simulations.Simulation.{Simulation}
use Rattle.world.proofs.BrickListLemmas.{running_not, up_at, up_there, ticks_as}
use Rattle.world.proofs.HistoryLemmas.{same_sent, tells_sent}
use Rattle.world.proofs.MachineBegins.{happens_unticked}
use Rattle.world.proofs.SimulationLemmas.{on_err_always, shows_ticked, stays_alike, takes_still, done_here, done_nowhere}
use Rattle.world.proofs.simulations.Simulation.tick.Goals as goal

pub tick_brick-requires : goal.tick_brick-requires
tick_brick-requires c = subst (λ (bricks : List Brick). IsUp bricks c.in-Some.brick) (sym c.deref.ensures.value) c.in-Some.ensures.1

pub returns-in_err-send_more-clause-err : goal.returns-in_err-send_more-clause-err
returns-in_err-send_more-clause-err c =
    on_err_always c.from_residual-in_err-send_more.result
    (stays_alike c.args.layout.now c.args.self.now _ (same_sent _ _ c.in_err-send_more.ensures.rest c.in_err-send_more.ensures.err) c.requires)

pub returns-in-None-clause-ok : goal.returns-in-None-clause-ok
returns-in-None-clause-ok c =
    let layout = c.args.layout.now in
    let w : World = world_in layout c.args.self.now in
    let down = running_not layout c.args.self.now.bricks.items w c.args.brick c.requires.bricks c.in-None.ensures in
    takes_still layout c.args.self.now _ _ c.requires (happens_unticked (coding layout) w (brick_of c.args.brick) down)
    (done_nowhere layout w (brick_of c.args.brick) down)

pub returns-clause-ok : goal.returns-clause-ok
returns-clause-ok c =
    let layout = c.args.layout.now in
    let w : World = world_in layout c.args.self.now in
    let state : Simulation = record c.args.self.now { history = c.send_more.new.self } in
    let (is, on) = c.in-Some.ensures in
    record {
      trail = refl;
      shows = subst (λ (brick : BrickId). Shows layout state (happens (coding layout) w (Ticks brick))) is
          (shows_ticked layout state w c.in-Some.brick (up_there layout _ w _ on c.requires.bricks) c.requires.bricks
          (subst (λ (sent : List Packet). Tells c.send_more.new.self (record w { packets = w.packets ++ sent }))
          (ticks_as layout c.args.self.now.bricks.items w c.in-Some.brick c.in_ok-messages.messages.items on
          (subst (λ (bricks : List Brick). IfSome (running_at bricks c.in-Some.brick.0) (λ node.
          packets_from node.me c.in_ok-messages.messages.items ≡ ticked (coding node.layout) node.me (state_of node))) c.deref.ensures.value c.in_ok-messages.ensures)
          c.requires.bricks)
          (tells_sent (seqs_of w) _ _ w (packets_from c.in-Some.brick c.in_ok-messages.messages.items) c.in_ok-send_more.ensures.rest
          c.in_ok-send_more.ensures.items c.requires.history)));
      outcome_is = done_here layout w (brick_of c.args.brick)
          (up_at layout c.args.self.now.bricks.items c.args.brick c.in-Some.brick c.in-Some.ensures w c.requires.bricks);
      disks = refl;
    }
