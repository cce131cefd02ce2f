-- The reads show how it ends.
use Rattle.std.proofs.Common.{sym, subst}
use Rattle.view_sync.specs.declared.answers.JobEnd.{JobEnd}
use Rattle.view_sync.specs.declared.answers.JobEnd.TheVariants as end
use Rattle.view_sync.specs.Evidence.{EndIsShown}
use Rattle.view_sync.proofs.Shown.{end_is_shown}
use Rattle.view_sync.proofs.jobs.Job.on_end.Goals as goal

pub returns-in-Answered-clause-evidence : goal.returns-in-Answered-clause-evidence
returns-in-Answered-clause-evidence c =
    subst (λ (how : JobEnd). EndIsShown c.args.self.now how c.on_answered.result) (sym c.in-Answered.is)
    (end_is_shown c.args.self.now end.Answered _ c.on_answered.ensures.next)

pub returns-in-Aborted-clause-evidence : goal.returns-in-Aborted-clause-evidence
returns-in-Aborted-clause-evidence c =
    subst (λ (how : JobEnd). EndIsShown c.args.self.now how c.on_aborted.result) (sym c.in-Aborted.is)
    (end_is_shown c.args.self.now (end.Aborted c.in-Aborted.cause) _ c.on_aborted.ensures.next)
