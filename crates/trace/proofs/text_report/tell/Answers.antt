use Rattle.std.proofs.Common.{Result, Err, inl, inr}
use Rattle.replay.specs.declared.endings.RunResult.{RunResult}
use Rattle.replay.specs.declared.endings.RunResult.TheVariants.{Whole, BadLayout, Refuted}
use Rattle.replay.specs.declared.endings.Halt.{Halt}
use Rattle.trace.specs.Calls.{EndsAsCalled}
use Rattle.trace.specs.TextReport.{Tells}
use Rattle.trace.proofs.CalledEnds.{left-first, called-first, ends-called}
use Rattle.trace.proofs.LinesTold.{at_err, writes-stopped, stopped, layout_not_whole, layout_not_refuted, ends_not, run-told, nothing-told, from-start}
use Rattle.trace.proofs.text_report.tell.Goals as goal

pub returns-in_err-world-clause-tells : goal.returns-in_err-world-clause-tells
returns-in_err-world-clause-tells g c =
    let sink = g.K.Sink.told c.args.sink.now in
    at_err c.from_residual.result (λ (r : Result RunResult Halt). Tells (g.S.Source.told c.args.source.now) sink sink r)
    (λ halt. inr (nothing-told sink sink (Err halt) (writes-stopped halt sink) (stopped halt Whole ⊥) (stopped halt Refuted ⊥))) c.from_residual.ensures.0

pub returns-in-Opened-clause-tells : goal.returns-in-Opened-clause-tells
returns-in-Opened-clause-tells g c =
    let opens = (rw c.in-Opened.is at c.in_ok-world.ensures.opens).0 in
    let read = from-start (g.S.Source.told c.args.source.now) _ c.new-unread.result opens.0 c.new-unread.ensures opens.1 in
    inl (run-told _ _ _ c.tell_lines.result opens.0 c.in-Opened.world opens.2.0 opens.2.1.0 opens.2.1.1
    (c.tell_lines.ensures.tells (g.S.Source.told c.args.source.now) opens.0 read))

pub returns-clause-tells : goal.returns-clause-tells
returns-clause-tells g c =
    inr (nothing-told _ _ c.refuse.result c.refuse.ensures.writes
    (ends_not BadLayout Whole c.refuse.result c.refuse.ensures.ends layout_not_whole)
    (ends_not BadLayout Refuted c.refuse.result c.refuse.ensures.ends layout_not_refuted))

pub returns-in_err-world-clause-called : goal.returns-in_err-world-clause-called
returns-in_err-world-clause-called g c =
    at_err c.from_residual.result (EndsAsCalled (g.S.Source.told c.args.source.now)) (λ halt. tt) c.from_residual.ensures.0

pub returns-in-Opened-clause-called : goal.returns-in-Opened-clause-called
returns-in-Opened-clause-called g c =
    let opens = rw c.in-Opened.is at c.in_ok-world.ensures.opens in
    c.tell_lines.ensures.called _ (left-first _ _ _ 0 c.new-unread.ensures opens.1)

pub returns-clause-called : goal.returns-clause-called
returns-clause-called g c =
    let opens = rw c.in-Refused.is at c.in_ok-world.ensures.opens in
    ends-called _ BadLayout c.refuse.result c.refuse.ensures.ends (called-first _ _ BadLayout c.new-unread.ensures opens.1)
