-- What is no longer in the rest was written.
use Rattle.fab_io.proofs.Pieces.{Written}
use Rattle.fab_io.proofs.standard.write_out.Given as goal

abbrev pub invariant-loop : goal.invariant-loop
invariant-loop g l = Written (g.W.Write.contents l.initial.output) (g.W.Write.contents l.output) l.from l.rest
