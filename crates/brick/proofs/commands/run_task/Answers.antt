-- The commands were run, or the session was served, by the task.
use Rattle.std.proofs.Common.{refl, sym, subst}
use Rattle.fab_base.proofs.Keeping.{Kept-refl, Kept-narrower}
use Rattle.brick_words.specs.declared.words.Task.{Task}
use Rattle.brick_words.specs.declared.words.Task.TheVariants.{Commands, Session}
use Rattle.brick.specs.Hosts.{host_seen, Has}
use Rattle.brick.specs.Locals.{FailsOut, DoesTask, HasCommands, HasSession, HasTask}
use Rattle.brick.specs.Views.{views, streams}
use Rattle.brick.proofs.Lending.{has_as}
use Rattle.brick.proofs.commands.run_task.Goals as goal

pub returns-in-Commands : goal.returns-in-Commands
returns-in-Commands g c =
    let host = g.H.Host in
    let ran = c.run_by_source in
    let before = host_seen (host.faults c.args.host.now) (host.asked c.args.host.now) (host.holds c.args.host.now) in
    let after = host_seen (host.faults ran.new.host) (host.asked ran.new.host) (host.holds ran.new.host) in
    record {
      hosts = subst (λ (t : Task). DoesTask (streams g.H.Source.Source g.H.Input.Source g.H.Output.Sink) (views g.H.Disk.Disk g.H.Link.Link g.H.Clock.Clock)
          c.args.layout.now t before after c.args.bricks ran.result.0 c.args.link ran.result.1 (g.K.Sink.told c.args.out.now) (g.K.Sink.told ran.new.out)
          ran.result.2) (sym c.in-Commands.is) ran.ensures.hosts;
      keeps = ran.ensures.keeps;
      knows = ran.ensures.knows;
      stays = ran.ensures.stays;
      sink = Kept-narrower (λ e. subst (λ (t : Task). FailsOut t ran.result.2) c.in-Commands.is e) ran.ensures.sink;
      done = λ s sound link sink has. ran.ensures.done s sound link sink
          (has_as {P = HasTask (Commands c.in-Commands.turns)} {Q = HasCommands} (host.holds c.args.host.now)
          (subst (λ (t : Task). Has (host.holds c.args.host.now) (HasTask t)) c.in-Commands.is has) (λ h p. p));
    }

pub returns-in-Session : goal.returns-in-Session
returns-in-Session g c =
    let host = g.H.Host in
    let ran = c.run_by_session in
    let before = host_seen (host.faults c.args.host.now) (host.asked c.args.host.now) (host.holds c.args.host.now) in
    let after = host_seen (host.faults ran.new.host) (host.asked ran.new.host) (host.holds ran.new.host) in
    let out = g.K.Sink.told c.args.out.now in
    record {
      hosts = subst (λ (t : Task). DoesTask (streams g.H.Source.Source g.H.Input.Source g.H.Output.Sink) (views g.H.Disk.Disk g.H.Link.Link g.H.Clock.Clock)
          c.args.layout.now t before after c.args.bricks ran.result.0 c.args.link ran.result.1 out out ran.result.2) (sym c.in-Session.is) (ran.ensures.hosts, refl);
      keeps = ran.ensures.keeps;
      knows = ran.ensures.knows;
      stays = ran.ensures.stays;
      sink = Kept-narrower (λ e. absurd (subst (λ (t : Task). FailsOut t ran.result.2) c.in-Session.is e)) (Kept-refl _ _);
      done = λ s sound link sink has. ran.ensures.done s sound link
          (has_as {P = HasTask (Session c.in-Session.port c.in-Session.turns)} {Q = HasSession c.in-Session.port} (host.holds c.args.host.now)
          (subst (λ (t : Task). Has (host.holds c.args.host.now) (HasTask t)) c.in-Session.is has) (λ h p. p));
    }
