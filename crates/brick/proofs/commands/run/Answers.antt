-- The commands were run to their end, or until a fault.
use Rattle.std.proofs.Common.{Err, inl, inr, refl, sym, ap, ◌∙◌, subst, arith}
use Rattle.fab_base.proofs.Keeping.{Kept-narrower}
use Rattle.brick.specs.Endings.{status_of, IsDone}
use Rattle.brick.specs.Locals.{ending_by}
use Rattle.brick.specs.Views.{views}
use Rattle.brick.proofs.MayHosting.{six_is_sink, rose_by, run_done}
use Rattle.brick.proofs.SameBricks.{same_hosts, same_until, run_hosts, run_until, rose_until}
use Rattle.brick.proofs.commands.run.Goals as goal

pub returns-in-Ok-clause-runs : goal.returns-in-Ok-clause-runs
returns-in-Ok-clause-runs g c = inl (refl, (rw c.in-Ok.is at c.host-bricks.ensures.hosts))

pub returns-in-Ok-clause-keeps : goal.returns-in-Ok-clause-keeps
returns-in-Ok-clause-keeps g c =
    let v = views g.D.Disk g.L.Link g.C.Clock in
    let ran = c.host-bricks.ensures in
    record {
      same = same_hosts v _ _ _ _ _ _ _ _ _ _ (rw c.in-Ok.is at ran.hosts);
      runs_still = λ run not. run_hosts v _ _ _ _ _ _ _ _ _ _ run (rw c.in-Ok.is at ran.hosts);
      bricks = ran.bricks.stays;
      link = ran.link.stays;
    }

pub returns-in-Ok-clause-sink : goal.returns-in-Ok-clause-sink
returns-in-Ok-clause-sink g c = Kept-narrower (λ e. absurd (omega arith)) c.host-bricks.ensures.sink

pub returns-in-Err : goal.returns-in-Err
returns-in-Err g c =
    let ran = c.host-bricks.ensures in
    let stopped = rw c.in-Err.is at ran.stopped in
    record {
      runs = inr (
        c.in-Err.fault,
        c.ending_by.ensures,
        stopped,
        rose_by (views g.D.Disk g.L.Link g.C.Clock) c.in-Err.fault _ _ _ _ _ _
            (λ e run. rose_until (views g.D.Disk g.L.Link g.C.Clock) _ _ _ _ _ _ _ _ _ _ c.in-Err.fault e run stopped) (λ e. ran.link.rose (c.in-Err.is ∙ ap (λ z. Err z) e)) (λ e. ran.source.rose (c.in-Err.is ∙ ap (λ z. Err z) e)),
      );
      keeps = record {
        same = same_until (views g.D.Disk g.L.Link g.C.Clock) _ _ _ _ _ _ _ _ _ _ c.in-Err.fault stopped;
        runs_still = λ run not. run_until (views g.D.Disk g.L.Link g.C.Clock) _ _ _ _ _ _ _ _ _ _ run c.in-Err.fault
            (λ e. not (c.ending_by.ensures ∙ ap ending_by e)) stopped;
        bricks = ran.bricks.stays;
        link = ran.link.stays;
      };
      source = ran.source.stays;
      sink = Kept-narrower (λ e. c.in-Err.is ∙ ap (λ z. Err z) (six_is_sink c.in-Err.fault (ap status_of (sym c.ending_by.ensures) ∙ e))) ran.sink;
      done = λ bricks link source sink. subst IsDone (sym c.ending_by.ensures)
          (run_done c.host-bricks.result.2 c.in-Err.fault c.in-Err.is (ran.sound bricks link source sink));
    }
