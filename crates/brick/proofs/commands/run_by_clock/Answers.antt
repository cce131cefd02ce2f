-- The clock is lent to the bricks, and a link to their client.
use Rattle.std.proofs.Common.{ℕ, Err, inl, inr, refl, sym, ap, ◌∙◌, subst}
use Rattle.fab_base.proofs.Keeping.{Kept-refl, Kept-narrower}
use Rattle.fab_host.specs.declared.hosts.Asked.TheVariants as calls
use Rattle.brick.specs.Endings.{status_of, IsDone}
use Rattle.brick.specs.Hosts.{host_seen, IsRefused}
use Rattle.brick.specs.Locals.{DoesTask}
use Rattle.brick.specs.Views.{views, streams}
use Rattle.brick.proofs.Knowing.{clock_borrowed, clock_lent, link_borrowed, link_lent}
use Rattle.brick.proofs.Lending.{lends_told, regains_told}
use Rattle.brick.proofs.MayHosting.{clock_lends, client_lends}
use Rattle.brick.proofs.Refusing.{err_knows, refused_by, refused_done, refused_not_sink, not_out}
use Rattle.brick.proofs.SameBricks.{same_refl}
use Rattle.brick.proofs.commands.run_by_clock.Goals as goal

pub returns-in-Err : goal.returns-in-Err
returns-in-Err g c =
    let host = g.H.Host in
    let before = host_seen (host.faults c.args.host.now) (host.asked c.args.host.now) (host.holds c.args.host.now) in
    let after = host_seen (host.faults c.clock.new.self) (host.asked c.clock.new.self) (host.holds c.clock.new.self) in
    let fault = c.in-Err.fault in
    let said = c.in-Err.ensures in
    record {
      hosts = inl (
        subst (IsRefused before after calls.Clock) (sym c.refusal.ensures)
            (refused_by before after calls.Clock _ _ fault said.asked said.lends said.kept.later (λ e. said.kept.rose (ap (λ z. Err z) e))),
        refl,
        refl,
      );
      same = same_refl c.args.bricks.bricks;
      runs_still = λ run not. run;
      knows = err_knows _ _ _ _ fault said.lends;
      stays = λ s sound. (said.kept.stays s, sound);
      sink = Kept-narrower (λ e. absurd (not_out c.args.task c.refusal.result (λ six. refused_not_sink fault (ap status_of (sym c.refusal.ensures) ∙ six)) e)) (Kept-refl _ _);
      done = λ s sound sink has. subst IsDone (sym c.refusal.ensures)
          (refused_done (host.holds c.args.host.now) fault has (λ e. said.kept.only s (ap (λ z. Err z) e)) (λ h p q. p.0 q));
    }

-- the client's link was refused: the clock is given back as it was
pub keep_clock-requires : goal.keep_clock-requires
keep_clock-requires g c =
    clock_lent _ c.in-Ok.clock _ _ _ (lends_told _ _ _ _ _ _ c.in-Ok.ensures.lends) (err_knows _ _ _ _ c.in-Err-link.fault c.in-Err-link.ensures.lends)

pub returns-in-Err-link : goal.returns-in-Err-link
returns-in-Err-link g c =
    let host = g.H.Host in
    let began = host_seen (host.faults c.clock.new.self) (host.asked c.clock.new.self) (host.holds c.clock.new.self) in
    let ended = host_seen (host.faults c.link.new.self) (host.asked c.link.new.self) (host.holds c.link.new.self) in
    let ending = c.refusal-in-Err-link in
    let lent = c.in-Ok.ensures in
    let lends = lends_told _ _ _ _ _ _ lent.lends in
    let fault = c.in-Err-link.fault in
    let said = c.in-Err-link.ensures in
    record {
      hosts = inr (
        c.in-Ok.clock,
        record { bricks = record { bricks = c.args.bricks.bricks; room = c.args.layout.now.bricks }; clock = c.in-Ok.clock },
        refl,
        record {
          began = began;
          ended = ended;
          lends = record { asked = lent.asked; later = lent.kept.later; told = lends };
          does = inl (
            subst (IsRefused began ended (calls.Link 0)) (sym ending.ensures)
                (refused_by began ended (calls.Link 0) _ _ fault said.asked said.lends said.kept.later (λ e. said.kept.rose (ap (λ z. Err z) e))),
            refl,
            refl,
          );
          asked = c.keep_clock.ensures.asked;
          faults = c.keep_clock.ensures.faults;
          regains = regains_told _ _ _ c.keep_clock.ensures.holds;
        },
      );
      same = same_refl c.args.bricks.bricks;
      runs_still = λ run not. run;
      knows = clock_borrowed _ c.in-Ok.clock _ _ _ _ lends (err_knows _ _ _ _ fault said.lends) (regains_told _ _ _ c.keep_clock.ensures.holds);
      stays = λ s sound. (c.keep_clock.ensures.sound (lent.gives s) (said.kept.stays (lent.kept.stays s)), sound);
      sink = Kept-narrower (λ e. absurd (not_out c.args.task ending.result (λ six. refused_not_sink fault (ap status_of (sym ending.ensures) ∙ six)) e)) (Kept-refl _ _);
      done = λ s sound sink has. subst IsDone (sym ending.ensures)
          (refused_done (host.holds c.clock.new.self) fault (clock_lends c.args.task c.in-Ok.clock _ _ lends has)
          (λ e. said.kept.only (lent.kept.stays s) (ap (λ z. Err z) e)) (λ h p q. p.0 q));
    }

-- ---- the task was done

pub keep_link-requires : goal.keep_link-requires
keep_link-requires g c = link_lent _ 0 c.in-Ok-link.link _ _ _ (lends_told _ _ _ _ _ _ c.in-Ok-link.ensures.lends) c.run_task-timed.ensures.knows

pub keep_clock-requires-2 : goal.keep_clock-requires-2
keep_clock-requires-2 g c =
    clock_lent _ c.in-Ok.clock _ _ _ (lends_told _ _ _ _ _ _ c.in-Ok.ensures.lends)
    (link_borrowed _ 0 c.run_task-timed.result.1 _ _ _ _ (lends_told _ _ _ _ _ _ c.in-Ok-link.ensures.lends) c.run_task-timed.ensures.knows
    (regains_told _ _ _ c.keep_link.ensures.holds))

pub returns : goal.returns
returns g c =
    let host = g.H.Host in
    let ran = c.run_task-timed in
    let began = host_seen (host.faults c.clock.new.self) (host.asked c.clock.new.self) (host.holds c.clock.new.self) in
    let linked = host_seen (host.faults c.link.new.self) (host.asked c.link.new.self) (host.holds c.link.new.self) in
    let done = host_seen (host.faults ran.new.host) (host.asked ran.new.host) (host.holds ran.new.host) in
    let ended = host_seen (host.faults c.keep_link.new.self) (host.asked c.keep_link.new.self) (host.holds c.keep_link.new.self) in
    let clock = c.in-Ok.ensures in
    let link = c.in-Ok-link.ensures in
    let clock_lent = lends_told _ _ _ _ _ _ clock.lends in
    let link_lent = lends_told _ _ _ _ _ _ link.lends in
    record {
      hosts = inr (
        c.in-Ok.clock,
        ran.result.0,
        refl,
        record {
          began = began;
          ended = ended;
          lends = record { asked = clock.asked; later = clock.kept.later; told = clock_lent };
          does = inr (
            c.in-Ok-link.link,
            ran.result.1,
            record {
              began = linked;
              ended = done;
              lends = record { asked = link.asked; later = link.kept.later; told = link_lent };
              does = subst (λ (n : ℕ). DoesTask (streams g.H.Source.Source g.H.Input.Source g.H.Output.Sink) (views g.H.Disk.Disk g.H.Link.Link g.H.Clock.Clock)
                  c.args.layout.now c.args.task linked done (record { bricks = record { bricks = c.args.bricks.bricks; room = n }; clock = c.in-Ok.clock }) ran.result.0
                  c.in-Ok-link.link ran.result.1 (g.K.Sink.told c.args.out.now) (g.K.Sink.told ran.new.out) ran.result.2)
                  c.requires ran.ensures.hosts;
              asked = c.keep_link.ensures.asked;
              faults = c.keep_link.ensures.faults;
              regains = regains_told _ _ _ c.keep_link.ensures.holds;
            },
          );
          asked = c.keep_clock-2.ensures.asked;
          faults = c.keep_clock-2.ensures.faults;
          regains = regains_told _ _ _ c.keep_clock-2.ensures.holds;
        },
      );
      same = ran.ensures.keeps.same;
      runs_still = ran.ensures.keeps.runs_still;
      knows = clock_borrowed _ ran.result.0.clock _ _ _ _ clock_lent
          (link_borrowed _ 0 ran.result.1 _ _ _ _ link_lent ran.ensures.knows (regains_told _ _ _ c.keep_link.ensures.holds))
          (regains_told _ _ _ c.keep_clock-2.ensures.holds);
      stays = λ s sound.
          let bricks = ran.ensures.keeps.bricks (sound, clock.gives s) in
          let standing = clock.kept.stays s in (
            c.keep_clock-2.ensures.sound bricks.1 (c.keep_link.ensures.sound (ran.ensures.keeps.link (link.gives standing)) (ran.ensures.stays (link.kept.stays standing))),
            bricks.0,
          );
      sink = ran.ensures.sink;
      done = λ s sound sink has.
          let standing = clock.kept.stays s in
          ran.ensures.done (link.kept.stays standing) (sound, clock.gives s) (link.gives standing) sink
          (client_lends c.args.task c.in-Ok-link.link _ _ link_lent (clock_lends c.args.task c.in-Ok.clock _ _ clock_lent has));
    }
