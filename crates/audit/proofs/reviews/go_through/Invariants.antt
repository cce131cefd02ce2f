-- the marks so far hold, and this is kept of them
use Rattle.audit.specs.Reviews.{Reviewed}
use Rattle.audit.proofs.reviews.go_through.Given as goal

abbrev pub invariant-loop-place : goal.invariant-loop-place
invariant-loop-place l = Reviewed l.layout l.claims l.place l.operations l.lasts
