use Rattle.std.proofs.Common.{List, ℕ}
use Rattle.trace.specs.Told.{IsTold}
use Rattle.trace.proofs.text_report.add_notes.Given as goal

abbrev pub invariant-loop-note : goal.invariant-loop-note
invariant-loop-note l = (told : List ℕ) → IsTold l.initial.page told → IsTold l.page told
