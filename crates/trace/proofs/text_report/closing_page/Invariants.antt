use Rattle.std.proofs.Common.{[]}
use Rattle.trace.specs.Told.{IsTold}
use Rattle.trace.proofs.text_report.closing_page.Given as goal

abbrev pub invariant-loop-history : goal.invariant-loop-history
invariant-loop-history l = IsTold l.page []
