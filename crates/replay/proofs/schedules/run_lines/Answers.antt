use Rattle.std.proofs.Common.{◌≡◌, Ok, Err, refl, ap, ◌∙◌, arith}
use Rattle.std.specs.Io.KnownBytes.{prepend_known}
use Rattle.std.proofs.lemmas.Result.{err_from_is_err_and}
use Rattle.replay.specs.declared.endings.Halt.{Halt}
use Rattle.fab_base.proofs.Keeping.{Kept-refl, Kept-trans, Kept-calm}
use Rattle.printed.specs.Outputs.{most_lines}
use Rattle.replay.specs.Turns.{PrintsRest}
use Rattle.replay.proofs.Printing.{at_err, same_error}
use Rattle.replay.proofs.Rests.{PrintsRest-stopped, PrintsRest-number, PrintsRest-halt, HasRun-start, HasRun-turn, HasRun-rest, ReadsPart-ended, ReadsPart-failed, at_the_end, whole_turn}
use Rattle.replay.proofs.schedules.run_lines.Goals as goal

pub loop-count-init : goal.loop-count-init
loop-count-init g c = record { ran = HasRun-start _ _ _ _ _ _ refl; source = Kept-refl _ _; sink = Kept-refl _ _ }

pub loop-count-preserved : goal.loop-count-preserved
loop-count-preserved g c =
    let turn = rw c.in_default.is at c.in_ok-verdict.ensures.means in
    record {
      ran = HasRun-turn _ _ _ _ _ _ _ _ _ _ _ _ _ _ _ _ _ _ _ _ c.loop-count-test.true c.loop-count.invariant.ran c.in_ok-piece.ensures.says
          c.in_ok-piece.ensures.reads (λ e. (ap g.S.Source.came e, λ u. e ∙ u)) turn;
      source = Kept-trans c.loop-count.invariant.source (Kept-calm c.next.ensures.kept);
      sink = Kept-trans c.loop-count.invariant.sink (Kept-calm c.take_turn.ensures.kept);
    }

pub returns-in_err-piece-clause-rest : goal.returns-in_err-piece-clause-rest
returns-in_err-piece-clause-rest g c =
    let left = prepend_known c.loop-count.unread (g.S.Source.told c.loop-count.source) in
    at_err c.from_residual.result (PrintsRest c.args.world.now 0 (prepend_known c.args.unread.now (g.S.Source.told c.args.source.now)) (g.K.Sink.told c.args.sink.now)
    (g.K.Sink.told c.loop-count.sink))
    (λ halt. HasRun-rest _ _ _ _ _ _ _ _ _ _ _ _ (Err halt) c.loop-count.invariant.ran
    (PrintsRest-stopped c.loop-count.world c.loop-count.count left (g.K.Sink.told c.loop-count.sink) halt (omega (arith, c.loop-count-test.true))))
    c.from_residual.ensures.0

pub returns-in_err-piece-clause-reads : goal.returns-in_err-piece-clause-reads
returns-in_err-piece-clause-reads g c =
    let q = err_from_is_err_and c.from_residual.result c.from_residual.ensures.1 in
    ReadsPart-failed _ _ _ _ _ _ _ _ _ _ _ _ _ _ _ _ _ _ (omega (arith, c.loop-count-test.true)) c.loop-count.invariant.ran c.in_err-piece.ensures.reads (λ e. (ap g.S.Source.came e, λ u. e ∙ u))
    (λ e. ap (λ (h : Halt). Err h) (same_error _ _ _ _ q.1 q.2 e))

pub returns-in_err-verdict-clause-rest : goal.returns-in_err-verdict-clause-rest
returns-in_err-verdict-clause-rest g c =
    let rest = c.in_err-verdict.ensures.means _ _ c.in_ok-piece.ensures.says in
    at_err c.from_residual-in_err-verdict.result (PrintsRest c.args.world.now 0 (prepend_known c.args.unread.now (g.S.Source.told c.args.source.now)) (g.K.Sink.told c.args.sink.now)
    (g.K.Sink.told c.take_turn.new.sink))
    (λ halt. HasRun-rest _ _ _ _ _ _ _ _ _ _ _ _ (Err halt) c.loop-count.invariant.ran (PrintsRest-halt _ _ _ _ _ _ halt rest))
    c.from_residual-in_err-verdict.ensures.0

pub returns-in_err-verdict-clause-reads : goal.returns-in_err-verdict-clause-reads
returns-in_err-verdict-clause-reads g c =
    let q = err_from_is_err_and c.from_residual-in_err-verdict.result c.from_residual-in_err-verdict.ensures.1 in
    ReadsPart-ended _ _ _ _ _ _ _ _ _ _ _ _ _ _ _ _ _ _ _ _ (omega (arith, c.loop-count-test.true)) c.loop-count.invariant.ran c.in_ok-piece.ensures.reads (λ e. (ap g.S.Source.came e, λ u. e ∙ u))
    (λ e. c.in_err-verdict.ensures.cause (ap (λ (h : Halt). Err h) (same_error _ _ _ _ q.1 q.2 e)))

pub returns-in-Some-clause-rest : goal.returns-in-Some-clause-rest
returns-in-Some-clause-rest g c =
    let turn = rw c.in-Some.is at c.in_ok-verdict.ensures.means in
    HasRun-rest _ _ _ _ _ _ _ _ _ _ _ _ (Ok c.in-Some.verdict) c.loop-count.invariant.ran (turn _ _ c.in_ok-piece.ensures.says)

pub returns-in-Some-clause-reads : goal.returns-in-Some-clause-reads
returns-in-Some-clause-reads g c =
    ReadsPart-ended _ _ _ _ _ _ _ _ _ _ _ _ _ _ _ _ _ _ _ _ (omega (arith, c.loop-count-test.true)) c.loop-count.invariant.ran c.in_ok-piece.ensures.reads (λ e. (ap g.S.Source.came e, λ u. e ∙ u))
    (λ e. cc)

pub returns-in-Some-clause-read : goal.returns-in-Some-clause-read
returns-in-Some-clause-read g c = λ whole.
    at_the_end _ _ _ c.in_ok-piece.ensures.says (c.in_ok-verdict.ensures.whole (whole_turn _ _ c.in-Some.is whole))

pub returns-in_err-more-clause-rest : goal.returns-in_err-more-clause-rest
returns-in_err-more-clause-rest g c =
    let left = prepend_known c.loop-count.unread (g.S.Source.told c.loop-count.source) in
    let all : most_lines ≡ c.loop-count.count = omega arith in
    at_err c.from_residual-in_err-more.result (PrintsRest c.args.world.now 0 (prepend_known c.args.unread.now (g.S.Source.told c.args.source.now)) (g.K.Sink.told c.args.sink.now)
    (g.K.Sink.told c.loop-count.sink))
    (λ halt. HasRun-rest _ _ _ _ _ _ _ _ _ _ _ _ (Err halt) c.loop-count.invariant.ran
    (PrintsRest-stopped c.loop-count.world c.loop-count.count left (g.K.Sink.told c.loop-count.sink) halt (omega (arith, all))))
    c.from_residual-in_err-more.ensures.0

pub returns-in_err-more-clause-reads : goal.returns-in_err-more-clause-reads
returns-in_err-more-clause-reads g c =
    let q = err_from_is_err_and c.from_residual-in_err-more.result c.from_residual-in_err-more.ensures.1 in
    let all : most_lines ≡ c.loop-count.count = omega arith in
    ReadsPart-failed _ _ _ _ _ _ _ _ _ _ _ _ _ _ _ _ _ _ (omega (arith, all)) c.loop-count.invariant.ran c.in_err-more.ensures.reads (λ e. (ap g.S.Source.came e, λ u. e ∙ u))
    (λ e. ap (λ (h : Halt). Err h) (same_error _ _ _ _ q.1 q.2 e))

pub returns-clause-rest : goal.returns-clause-rest
returns-clause-rest g c =
    let all : most_lines ≡ c.loop-count.count = omega arith in
    HasRun-rest _ _ _ _ _ _ _ _ _ _ _ _ _ c.loop-count.invariant.ran
    (PrintsRest-number _ _ _ _ _ _ _ all (c.take_last_turn.ensures.rest _ _ c.in_ok-more.ensures.says))

pub returns-clause-reads : goal.returns-clause-reads
returns-clause-reads g c =
    let all : most_lines ≡ c.loop-count.count = omega arith in
    ReadsPart-ended _ _ _ _ _ _ _ _ _ _ _ _ _ _ _ _ _ _ _ _ (omega (arith, all)) c.loop-count.invariant.ran c.in_ok-more.ensures.reads (λ e. (ap g.S.Source.came e, λ u. e ∙ u))
    (λ e. c.take_last_turn.ensures.cause e)

pub returns-clause-read : goal.returns-clause-read
returns-clause-read g c = λ whole. at_the_end _ _ _ c.in_ok-more.ensures.says (c.take_last_turn.ensures.whole whole)
