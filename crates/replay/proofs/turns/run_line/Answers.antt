-- A line was run, and not all of its text was written.
use Rattle.std.proofs.Common.{List, ℕ, inr, subst}
use Rattle.fab_io.specs.Ends.{AppendsFront}
use Rattle.replay.specs.Turns.{LineMeans}
use Rattle.replay.proofs.Printing.{at_err}
use Rattle.replay.proofs.Rests.{line_begins}
use Rattle.replay.proofs.turns.run_line.Goals as goal

pub returns-in_err-write-in-Ok-clause-content : goal.returns-in_err-write-in-Ok-clause-content
returns-in_err-write-in-Ok-clause-content g c =
    let old = g.K.Sink.told c.args.sink.now in
    let new = g.K.Sink.told c.write.new.sink in
    let front = subst (λ (l : List ℕ). AppendsFront old new l) c.as_slice.ensures.value c.in_err-write-in-Ok.ensures.content in
    at_err c.from_residual.result (LineMeans c.args.world.now c.step.new.self c.args.content.now old new)
    (λ halt. inr (line_begins c.args.world.now c.step.new.self c.args.content.now _ old new c.in-Ok.ensures.ok front)) c.from_residual.ensures.0
