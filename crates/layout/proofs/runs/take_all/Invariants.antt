-- The segments so far are taken, and the rest decides.
use Rattle.layout.proofs.TakenRuns.{SoFar}
use Rattle.layout.proofs.runs.take_all.Given as goal

abbrev pub invariant-loop-segment : goal.invariant-loop-segment
invariant-loop-segment l = SoFar l.fn.ends l.ends l.segments l.segment-index
