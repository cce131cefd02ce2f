-- A client was served until its session ended, or until a fault.
use Rattle.std.proofs.Common.{Err, inl, inr, refl, sym, ap, ◌∙◌, subst}
use Rattle.brick.specs.Endings.{IsDone}
use Rattle.brick.specs.Locals.{ending_by}
use Rattle.brick.specs.Views.{views}
use Rattle.brick.proofs.MayHosting.{rose_by, run_done}
use Rattle.brick.proofs.SameBricks.{same_session, same_session_until, run_session, run_session_until, rose_session}
use Rattle.brick.proofs.commands.serve.Goals as goal

pub returns-in-Ok-clause-runs : goal.returns-in-Ok-clause-runs
returns-in-Ok-clause-runs g c = inl (c.in-Ok.end, refl, (rw c.in-Ok.is at c.serve_session-bricks.ensures.serves))

pub returns-in-Ok-clause-keeps : goal.returns-in-Ok-clause-keeps
returns-in-Ok-clause-keeps g c =
    let v = views g.D.Disk g.L.Link g.C.Clock in
    let ran = c.serve_session-bricks.ensures in
    record {
      same = same_session v _ _ _ _ c.in-Ok.end (rw c.in-Ok.is at ran.serves);
      runs_still = λ run not. run_session v _ _ _ _ c.in-Ok.end run (rw c.in-Ok.is at ran.serves);
      bricks = ran.bricks.stays;
      link = ran.link.stays;
    }

pub returns-in-Err : goal.returns-in-Err
returns-in-Err g c =
    let v = views g.D.Disk g.L.Link g.C.Clock in
    let ran = c.serve_session-bricks.ensures in
    let fault = c.in-Err.fault in
    let stopped = rw c.in-Err.is at ran.stopped in
    record {
      runs = inr (
        fault,
        c.ending_by.ensures,
        stopped,
        rose_by v fault _ _ _ _ _ _ (λ e run. rose_session v _ _ _ _ fault e run stopped) (λ e. ran.link.rose (c.in-Err.is ∙ ap (λ z. Err z) e))
            (λ e. ran.source.rose (c.in-Err.is ∙ ap (λ z. Err z) e)),
        λ e. ran.sink.rose (c.in-Err.is ∙ ap (λ z. Err z) e),
      );
      keeps = record {
        same = same_session_until v _ _ _ _ fault stopped;
        runs_still = λ run not. run_session_until v _ _ _ _ fault run (λ e. not (c.ending_by.ensures ∙ ap ending_by e)) stopped;
        bricks = ran.bricks.stays;
        link = ran.link.stays;
      };
      source = ran.source.stays;
      sink = ran.sink.stays;
      done = λ bricks link source sink. subst IsDone (sym c.ending_by.ensures)
          (run_done c.serve_session-bricks.result.2 fault c.in-Err.is (ran.sound bricks link source sink));
    }
