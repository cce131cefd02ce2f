-- The page tells nothing, and it was written, or some of it.
use Rattle.std.proofs.Common.{[], Result}
use Rattle.replay.specs.declared.endings.RunResult.{RunResult}
use Rattle.replay.specs.declared.endings.Halt.{Halt}
use Rattle.trace.specs.TextReport.{WritesTold}
use Rattle.trace.proofs.WholeTexts.{told-none}
use Rattle.trace.proofs.LinesTold.{at_err, page-told}
use Rattle.trace.proofs.text_report.refuse.Goals as goal

pub returns-in_err-write-clause-writes : goal.returns-in_err-write-clause-writes
returns-in_err-write-clause-writes g c =
    let told = c.in_ok-head.ensures [] (page-told c.new-page.result [] [] c.new-page.ensures told-none) in
    at_err c.from_residual-in_err-write.result
    (λ (r : Result RunResult Halt). WritesTold r (g.K.Sink.told c.args.sink.now) (g.K.Sink.told c.write.new.sink) [])
    (λ halt. record {
      text = c.as_slice.result.now;
      is_told = page-told c.as_slice.result.now c.head.new.self [] c.as_slice.ensures told;
      taken = c.in_err-write.ensures.content;
    })
    c.from_residual-in_err-write.ensures.0

pub returns-clause-writes : goal.returns-clause-writes
returns-clause-writes g c =
    let told = c.in_ok-head.ensures [] (page-told c.new-page.result [] [] c.new-page.ensures told-none) in
    record {
      text = c.as_slice.result.now;
      is_told = page-told c.as_slice.result.now c.head.new.self [] c.as_slice.ensures told;
      taken = c.in_ok-write.ensures.content;
    }
