use Rattle.std.proofs.Common.{Result}
use Rattle.replay.specs.declared.endings.Halt.{Halt}
use Rattle.trace.specs.TextReport.{WritesTold}
use Rattle.trace.proofs.LinesTold.{at_err, writes-page, writes-line-stopped}
use Rattle.trace.proofs.text_report.tell_line.Goals as goal

pub returns-in_err-page-clause-writes : goal.returns-in_err-page-clause-writes
returns-in_err-page-clause-writes g c =
    let sink = g.K.Sink.told c.args.sink.now in
    at_err c.from_residual.result (λ (r : Result (Unit {0}) Halt). WritesTold r sink sink c.args.run.now.printed)
    (λ halt. writes-line-stopped halt sink c.args.run.now.printed c.requires) c.from_residual.ensures.0

pub returns-clause-writes : goal.returns-clause-writes
returns-clause-writes g c =
    writes-page c.write.result (g.K.Sink.told c.args.sink.now) (g.K.Sink.told c.write.new.sink) c.as_slice.result.now c.in_ok-page.page
    c.args.run.now.printed c.write.ensures.content c.as_slice.ensures c.in_ok-page.ensures
