use Rattle.std.proofs.Common.{◌+◌, arith, rules}
use Rattle.replay.specs.declared.endings.RunResult.TheVariants.{BadLine, TooManyLines}
use Rattle.trace.proofs.CalledEnds.{end-called, long-called, many-called, turns-line, turns-refused, bad_not_whole, bad_not_refuted, many_not_whole, many_not_refuted}
use Rattle.trace.proofs.schedules.take_turn.Goals as goal

pub returns-in-Ended-clause-turns : goal.returns-in-Ended-clause-turns
returns-in-Ended-clause-turns g c =
    let says = rw c.in-Ended.is at c.in_ok-piece.ensures.says in
    (says.0, end-called _ _ says.0)

pub returns-then-count-ge-MOST_LINES : goal.returns-then-count-ge-MOST_LINES
returns-then-count-ge-MOST_LINES g c = record {
  turns = turns-refused _ _ _ _ _ TooManyLines c.too_many_lines.result many_not_whole many_not_refuted
      (many-called _ _ _ _ (omega arith) c.in_ok-piece.ensures.says c.in_default.not-Ended) c.too_many_lines.ensures.refusal;
  kept = search rules;
  cause = search rules;
}

pub returns-in-Whole-clause-turns : goal.returns-in-Whole-clause-turns
returns-in-Whole-clause-turns g c =
    let says = rw c.in-Whole.is at c.in_ok-piece.ensures.says in
    turns-line _ _ _ _ _ _ c.run_line.result (omega arith) says.1 c.run_line.ensures.runs

pub returns-in-Last-clause-turns : goal.returns-in-Last-clause-turns
returns-in-Last-clause-turns g c =
    let says = rw c.in-Last.is at c.in_ok-piece.ensures.says in
    turns-line _ _ _ _ _ _ c.run_line-in-Last.result (omega arith) says.1 c.run_line-in-Last.ensures.runs

pub returns-in-Long-clause-turns : goal.returns-in-Long-clause-turns
returns-in-Long-clause-turns g c =
    let says = rw c.in-Long.is at c.in_ok-piece.ensures.says in
    turns-refused _ _ _ _ _ (BadLine (c.args.count + 1)) c.bad_line.result (bad_not_whole _) (bad_not_refuted _)
    (long-called _ _ (omega arith) says.1) c.bad_line.ensures.refusal
