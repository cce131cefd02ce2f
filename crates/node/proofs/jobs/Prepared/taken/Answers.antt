-- The next read is the one that was prepared.
use Rattle.std.proofs.Common.{sym, subst}
use Rattle.node.specs.declared.jobs.Followed.{Followed}
use Rattle.node.specs.Jobs.{FollowsFrom}
use Rattle.node.proofs.Following.{follows_by_cause}
use Rattle.node.proofs.jobs.Prepared.taken.Goals as goal

pub returns-in-None-clause-from : goal.returns-in-None-clause-from
returns-in-None-clause-from c = λ layout seq group answered aborted. c.after.ensures.from layout seq group answered

pub returns-in-Some-clause-from : goal.returns-in-Some-clause-from
returns-in-Some-clause-from c = λ layout seq group answered aborted.
    c.after-in-Some.ensures.from layout seq group
    (subst (λ (next : Followed). FollowsFrom layout seq group next) (sym c.by_cause.ensures)
    (follows_by_cause layout seq group c.in-Some.cause c.args.self.aborted aborted))
