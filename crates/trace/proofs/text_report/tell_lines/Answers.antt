-- What was told of the lines so far, and of the next one or the end.
use Rattle.std.proofs.Common.{Result, Ok, Err}
use Rattle.replay.specs.declared.endings.RunResult.{RunResult}
use Rattle.replay.specs.declared.endings.RunResult.TheVariants.{Whole, Refuted}
use Rattle.replay.specs.declared.endings.Halt.{Halt}
use Rattle.replay.specs.declared.endings.Halt.TheVariants.{Memory}
use Rattle.fab_base.proofs.Keeping.{Kept-refl, Kept-trans, Kept-calm}
use Rattle.trace.specs.Calls.{EndsAsCalled}
use Rattle.trace.specs.TextReport.{TellsRest}
use Rattle.trace.proofs.CalledEnds.{left-more, ends-called}
use Rattle.trace.proofs.LinesTold.{at_err, writes-stopped, writes-halt, lines-none, lines-more, lines-end, lines-stopped, stopped, ends_not, whole_not_refuted}
use Rattle.trace.proofs.text_report.tell_lines.Goals as goal

pub returns-in_err-line-clause-tells : goal.returns-in_err-line-clause-tells
returns-in_err-line-clause-tells g c = λ input head read.
    at_err c.from_residual.result
    (λ (r : Result RunResult Halt). TellsRest c.args.world.now input head (g.K.Sink.told c.args.sink.now) (g.K.Sink.told c.loop-count.sink) r)
    (λ halt. lines-end (Err halt) tt _ _ _ _ _ _ _ _ (c.loop-count.invariant.told input head read) (writes-stopped halt (g.K.Sink.told c.loop-count.sink))
    (stopped halt Whole _) (stopped halt Refuted ⊥))
    c.from_residual.ensures.0

pub returns-in_err-tell_line-in-Ran-clause-tells : goal.returns-in_err-tell_line-in-Ran-clause-tells
returns-in_err-tell_line-in-Ran-clause-tells g c = λ input head read.
    let turn = rw c.in-Ran.is at c.in_ok-line.ensures.turns in
    at_err c.from_residual-in_err-tell_line-in-Ran.result
    (λ (r : Result RunResult Halt). TellsRest c.args.world.now input head (g.K.Sink.told c.args.sink.now) (g.K.Sink.told c.tell_line.new.sink) r)
    (λ halt. lines-stopped halt _ _ _ _ _ _ _
    (lines-more {T = RunResult} (Err halt) tt _ _ _ _ _ _ _ c.in-Ran.line c.in-Ran.line_run.printed _ _ _ (c.loop-count.invariant.told input head read) turn.0.0 turn.0.1
    (writes-halt c.in_err-tell_line-in-Ran.field-0.0 halt _ _ c.in-Ran.line_run.printed c.in_err-tell_line-in-Ran.ensures.writes)))
    c.from_residual-in_err-tell_line-in-Ran.ensures.0

pub returns-in-Ended-clause-tells : goal.returns-in-Ended-clause-tells
returns-in-Ended-clause-tells g c = λ input head read.
    let turn = rw c.in-Ended.is at c.in_ok-line.ensures.turns in
    lines-end c.finish.result tt _ _ _ _ _ _ _ _ (c.loop-count.invariant.told input head read) c.finish.ensures.writes (λ e. turn.0)
    (ends_not Whole Refuted c.finish.result c.finish.ensures.ends whole_not_refuted)

pub returns-in-Refused-clause-tells : goal.returns-in-Refused-clause-tells
returns-in-Refused-clause-tells g c = λ input head read.
    let turn = rw c.in-Refused.is at c.in_ok-line.ensures.turns in
    lines-end c.refuse.result tt _ _ _ _ _ _ _ _ (c.loop-count.invariant.told input head read) c.refuse.ensures.writes
    (λ e. absurd (ends_not c.in-Refused.verdict Whole c.refuse.result c.refuse.ensures.ends turn.0.0 e))
    (ends_not c.in-Refused.verdict Refuted c.refuse.result c.refuse.ensures.ends turn.0.1)

pub loop-count-preserved : goal.loop-count-preserved
loop-count-preserved g c =
    let turn = rw c.in-Ran.is at c.in_ok-line.ensures.turns in
    record {
      told = λ input head read.
          lines-more {T = Unit {0}} (Ok tt) tt _ _ _ _ _ _ _ c.in-Ran.line c.in-Ran.line_run.printed _ _ _ (c.loop-count.invariant.told input head read)
          turn.0.0 turn.0.1 c.in_ok-tell_line-in-Ran.ensures.writes;
      left = λ input left. left-more input _ _ _ (c.loop-count.invariant.left input left) turn.1;
      source = Kept-trans c.loop-count.invariant.source (Kept-calm c.take_turn.ensures.kept);
      sink = Kept-trans c.loop-count.invariant.sink (Kept-calm c.tell_line.ensures.kept);
    }

pub loop-count-init : goal.loop-count-init
loop-count-init g c = record {
  told = λ input head read. lines-none _ _ _ _ _ tt read;
  left = λ input left. left;
  source = Kept-refl _ _;
  sink = Kept-refl _ _;
}

pub returns-in_err-line-clause-called : goal.returns-in_err-line-clause-called
returns-in_err-line-clause-called g c = λ input left. at_err c.from_residual.result (EndsAsCalled input) (λ halt. tt) c.from_residual.ensures.0

pub returns-in_err-tell_line-in-Ran-clause-called : goal.returns-in_err-tell_line-in-Ran-clause-called
returns-in_err-tell_line-in-Ran-clause-called g c = λ input left.
    at_err c.from_residual-in_err-tell_line-in-Ran.result (EndsAsCalled input) (λ halt. tt) c.from_residual-in_err-tell_line-in-Ran.ensures.0

pub returns-in-Ended-clause-called : goal.returns-in-Ended-clause-called
returns-in-Ended-clause-called g c = λ input left.
    let turn = rw c.in-Ended.is at c.in_ok-line.ensures.turns in
    ends-called input Whole c.finish.result c.finish.ensures.ends (c.loop-count.invariant.left input left Whole turn.1)

pub returns-in-Refused-clause-called : goal.returns-in-Refused-clause-called
returns-in-Refused-clause-called g c = λ input left.
    let turn = rw c.in-Refused.is at c.in_ok-line.ensures.turns in
    ends-called input c.in-Refused.verdict c.refuse.result c.refuse.ensures.ends (c.loop-count.invariant.left input left c.in-Refused.verdict turn.1)

pub returns-clause-tells : goal.returns-clause-tells
returns-clause-tells g c = λ input head read.
    lines-end (Err Memory) tt _ _ _ _ _ _ _ _ (c.loop-count.invariant.told input head read) (writes-stopped Memory (g.K.Sink.told c.loop-count.sink))
    (stopped Memory Whole _) (stopped Memory Refuted ⊥)
