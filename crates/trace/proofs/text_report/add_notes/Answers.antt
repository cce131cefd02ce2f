use Rattle.std.proofs.Common.{rules}
use Rattle.trace.proofs.text_report.add_notes.Goals as goal

pub loop-note-init : goal.loop-note-init
loop-note-init c = search rules

pub loop-note-preserved : goal.loop-note-preserved
loop-note-preserved c = λ told is. c.in_ok-note.ensures told (c.loop-note.invariant told is)

pub returns-in_err-note : goal.returns-in_err-note
returns-in_err-note c = search rules

pub returns : goal.returns
returns c = search rules
