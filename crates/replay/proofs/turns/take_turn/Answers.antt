use Rattle.std.proofs.Common.{List, ℕ, Ok, Err, Some, inr, subst, arith}
use Rattle.lines.specs.Lines.{content}
use Rattle.replay.specs.Turns.{LineRuns, LineTurnMeans, TurnMeans}
use Rattle.replay.proofs.Printing.{at_err, stops_not}
use Rattle.replay.proofs.Rests.{PrintsRest-ended, PrintsRest-long, PieceMeans-line, PieceMeans-last, TurnMeans-line, line_halt}
use Rattle.replay.proofs.turns.take_turn.Goals as goal

pub returns-in-Whole-clause-means : goal.returns-in-Whole-clause-means
returns-in-Whole-clause-means g c =
    let old = g.K.Sink.told c.args.sink.now in
    let new = g.K.Sink.told c.run_or_refuse.new.sink in
    TurnMeans-line c.args.world.now c.run_or_refuse.new.world c.args.count c.args.piece.now c.in-Whole.line old new c.run_or_refuse.result c.in-Whole.is
    (subst (λ (l : List ℕ). LineTurnMeans c.args.world.now c.run_or_refuse.new.world c.args.count (content l) old new c.run_or_refuse.result)
    c.as_slice.ensures.value c.run_or_refuse.ensures.means)

pub returns-in_err-run_or_refuse-in-Last-clause-means : goal.returns-in_err-run_or_refuse-in-Last-clause-means
returns-in_err-run_or_refuse-in-Last-clause-means g c =
    let w = c.args.world.now in
    let old = g.K.Sink.told c.args.sink.now in
    let new = g.K.Sink.told c.run_or_refuse-in-Last.new.sink in
    let means = subst (λ (l : List ℕ). LineTurnMeans w c.run_or_refuse-in-Last.new.world c.args.count (content l) old new
    (Err c.in_err-run_or_refuse-in-Last.field-0.0)) c.as_slice-in-Last.ensures.value c.in_err-run_or_refuse-in-Last.ensures.means in
    at_err c.from_residual.result (TurnMeans w c.run_or_refuse-in-Last.new.world c.args.count c.args.piece.now old new)
    (λ halt. PieceMeans-line w c.args.count c.args.piece.now c.in-Last.line old new (Err halt) (inr c.in-Last.is)
    (line_halt w c.args.count (content c.in-Last.line) old new c.in_err-run_or_refuse-in-Last.field-0.0 halt means)) c.from_residual.ensures.0

pub returns-in-Some-clause-means : goal.returns-in-Some-clause-means
returns-in-Some-clause-means g c =
    let w = c.args.world.now in
    let old = g.K.Sink.told c.args.sink.now in
    let new = g.K.Sink.told c.run_or_refuse-in-Last.new.sink in
    let turn = rw c.in-Some.is at c.in_ok-run_or_refuse-in-Last.ensures.means in
    PieceMeans-line w c.args.count c.args.piece.now c.in-Last.line old new (Ok c.in-Some.verdict) (inr c.in-Last.is)
    (subst (λ (l : List ℕ). LineTurnMeans w c.run_or_refuse-in-Last.new.world c.args.count (content l) old new (Ok (Some c.in-Some.verdict)))
    c.as_slice-in-Last.ensures.value turn)

pub returns-in_err-finish-in-None-clause-means : goal.returns-in_err-finish-in-None-clause-means
returns-in_err-finish-in-None-clause-means g c =
    let w = c.args.world.now in
    let after = c.run_or_refuse-in-Last.new.world in
    let old = g.K.Sink.told c.args.sink.now in
    let mid = g.K.Sink.told c.run_or_refuse-in-Last.new.sink in
    let new = g.K.Sink.told c.finish.new.sink in
    let turn = rw c.in-None.is at c.in_ok-run_or_refuse-in-Last.ensures.means in
    let ran = subst (λ (l : List ℕ). LineRuns w after (content l) old mid) c.as_slice-in-Last.ensures.value turn in
    at_err c.from_residual-in_err-finish-in-None.result (TurnMeans w after c.args.count c.args.piece.now old new)
    (λ halt. PieceMeans-last w after c.args.count c.args.piece.now c.in-Last.line old mid new (Err halt) c.requires c.in-Last.is ran
    (λ e. absurd (stops_not halt e)) c.in_err-finish-in-None.ensures.content)
    c.from_residual-in_err-finish-in-None.ensures.0

pub returns-in_ok-finish-in-None-clause-means : goal.returns-in_ok-finish-in-None-clause-means
returns-in_ok-finish-in-None-clause-means g c =
    let w = c.args.world.now in
    let after = c.run_or_refuse-in-Last.new.world in
    let old = g.K.Sink.told c.args.sink.now in
    let mid = g.K.Sink.told c.run_or_refuse-in-Last.new.sink in
    let new = g.K.Sink.told c.finish.new.sink in
    let turn = rw c.in-None.is at c.in_ok-run_or_refuse-in-Last.ensures.means in
    let ran = subst (λ (l : List ℕ). LineRuns w after (content l) old mid) c.as_slice-in-Last.ensures.value turn in
    PieceMeans-last w after c.args.count c.args.piece.now c.in-Last.line old mid new (Ok c.in_ok-finish-in-None.field-0) c.requires c.in-Last.is ran
    c.in_ok-finish-in-None.ensures.told c.in_ok-finish-in-None.ensures.content

pub returns-in_err-refuse_line-in-Long-clause-means : goal.returns-in_err-refuse_line-in-Long-clause-means
returns-in_err-refuse_line-in-Long-clause-means g c =
    at_err c.from_residual-in_err-refuse_line-in-Long.result (TurnMeans c.args.world.now c.args.world.now c.args.count c.args.piece.now (g.K.Sink.told c.args.sink.now)
    (g.K.Sink.told c.refuse_line.new.sink))
    (λ halt left rest given.
    let says = rw c.in-Long.is at given in
    PrintsRest-long c.args.world.now c.args.count left (g.K.Sink.told c.args.sink.now) (g.K.Sink.told c.refuse_line.new.sink) (Err halt) c.requires
    says.1 c.in_err-refuse_line-in-Long.ensures.content)
    c.from_residual-in_err-refuse_line-in-Long.ensures.0

pub returns-in_ok-refuse_line-in-Long-clause-means : goal.returns-in_ok-refuse_line-in-Long-clause-means
returns-in_ok-refuse_line-in-Long-clause-means g c = λ left rest given.
    let says = rw c.in-Long.is at given in
    PrintsRest-long c.args.world.now c.args.count left (g.K.Sink.told c.args.sink.now) (g.K.Sink.told c.refuse_line.new.sink)
    (Ok c.in_ok-refuse_line-in-Long.field-0) c.requires says.1 c.in_ok-refuse_line-in-Long.ensures.content

pub returns-in_err-finish-in-Ended-clause-means : goal.returns-in_err-finish-in-Ended-clause-means
returns-in_err-finish-in-Ended-clause-means g c =
    at_err c.from_residual-in_err-finish-in-Ended.result (TurnMeans c.args.world.now c.args.world.now c.args.count c.args.piece.now (g.K.Sink.told c.args.sink.now)
    (g.K.Sink.told c.finish-in-Ended.new.sink))
    (λ halt left rest given.
    let says = rw c.in-Ended.is at given in
    PrintsRest-ended c.args.world.now c.args.count left (g.K.Sink.told c.args.sink.now) (g.K.Sink.told c.finish-in-Ended.new.sink) (Err halt)
    (omega (arith, c.requires)) says.0 (λ e. absurd (stops_not halt e)) c.in_err-finish-in-Ended.ensures.content)
    c.from_residual-in_err-finish-in-Ended.ensures.0

pub returns-in_ok-finish-in-Ended-clause-means : goal.returns-in_ok-finish-in-Ended-clause-means
returns-in_ok-finish-in-Ended-clause-means g c = λ left rest given.
    let says = rw c.in-Ended.is at given in
    PrintsRest-ended c.args.world.now c.args.count left (g.K.Sink.told c.args.sink.now) (g.K.Sink.told c.finish-in-Ended.new.sink)
    (Ok c.in_ok-finish-in-Ended.field-0) (omega (arith, c.requires)) says.0 c.in_ok-finish-in-Ended.ensures.told c.in_ok-finish-in-Ended.ensures.content
