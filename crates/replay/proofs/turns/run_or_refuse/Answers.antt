use Rattle.std.proofs.Common.{◌⊎◌, List, ℕ, Ok, Err, sym, ap, ◌∙◌, subst}
use Rattle.std.specs.Io.KnownBytes.{Keeps}
use Rattle.lines.specs.Grammar.{line_of}
use Rattle.lines.specs.Lines.{content}
use Rattle.replay.specs.Turns.{LineTurnMeans, LineBegins}
use Rattle.replay.proofs.Printing.{at_err}
use Rattle.replay.proofs.Rests.{line-bad, line-front}
use Rattle.replay.proofs.turns.run_or_refuse.Goals as goal

pub returns-in_err-run_line-clause-means : goal.returns-in_err-run_line-clause-means
returns-in_err-run_line-clause-means g c =
    let w = c.args.world.now in
    let old = g.K.Sink.told c.args.sink.now in
    let new = g.K.Sink.told c.run_line.new.sink in
    let stops = subst (λ (l : List ℕ). Keeps old new ⊎ LineBegins w c.run_line.new.world l old new) c.content_of.ensures c.in_err-run_line.ensures.content in
    at_err c.from_residual.result (LineTurnMeans w c.run_line.new.world c.args.count (content c.args.line.now) old new)
    (λ halt. line-front w c.run_line.new.world c.args.count old new (content c.args.line.now) halt c.requires stops) c.from_residual.ensures.0

pub returns-in_err-refuse_line-clause-means : goal.returns-in_err-refuse_line-clause-means
returns-in_err-refuse_line-clause-means g c =
    let w = c.args.world.now in
    let old = g.K.Sink.told c.args.sink.now in
    let mid = g.K.Sink.told c.run_line.new.sink in
    let new = g.K.Sink.told c.refuse_line.new.sink in
    let line = rw c.if-branch.false at c.in_ok-run_line.ensures.content in
    at_err c.from_residual-in_err-refuse_line.result (LineTurnMeans w c.run_line.new.world c.args.count (content c.args.line.now) old new)
    (λ halt. line-bad w c.args.count old mid new (content c.args.line.now) (Err halt) c.requires (ap line_of (sym c.content_of.ensures) ∙ line.0)
    line.2 c.in_err-refuse_line.ensures.content)
    c.from_residual-in_err-refuse_line.ensures.0

pub returns-in_ok-refuse_line-clause-means : goal.returns-in_ok-refuse_line-clause-means
returns-in_ok-refuse_line-clause-means g c =
    let line = rw c.if-branch.false at c.in_ok-run_line.ensures.content in
    line-bad c.args.world.now c.args.count (g.K.Sink.told c.args.sink.now) (g.K.Sink.told c.run_line.new.sink) (g.K.Sink.told c.refuse_line.new.sink)
    (content c.args.line.now) (Ok c.in_ok-refuse_line.field-0) c.requires (ap line_of (sym c.content_of.ensures) ∙ line.0) line.2
    c.in_ok-refuse_line.ensures.content
