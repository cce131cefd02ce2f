-- Nothing is under way.
use Rattle.node.proofs.tasks.Tasks.new.Goals as goal

pub returns-clause-of : goal.returns-clause-of
returns-clause-of c = λ layout. record { work_is = c.new.ensures.of layout; job_is = tt; scrub_is = tt }
