use Rattle.std.proofs.Common.{rules, ◌≡◌, ◌-◌, ◌<◌, false, length, get_or, refl, ap, arith}
use Rattle.std.proofs.lemmas.Bool.Decides.{nat_tests}
use Rattle.std.proofs.lemmas.List.{length-take}
use Rattle.fab_base.proofs.Keeping.{Kept-trans, Kept-calm}
use Rattle.lines.specs.Lines.{is_line_feed}
use Rattle.hosting.specs.Reading.{ReadsLine, most_kept}
use Rattle.hosting.proofs.Exits.{at_err}
use Rattle.hosting.proofs.ReadingLines.{HasNoFeed-piece, Keeps-none, IsReading-more, ReadsLine-failed, ReadsLine-lost, ReadsLine-out, ReadsLine-end, ReadsLine-whole}
use Rattle.hosting.proofs.reading.read_line.Goals as goal

pub returns-then-turns-eq0-clause-reads : goal.returns-then-turns-eq0-clause-reads
returns-then-turns-eq0-clause-reads g c =
    ReadsLine-out _ _ _ _ _ _ c.loop-paid.invariant.reading c.if-paid-eq0.true c.if-turns-eq0.true

pub returns-in_err-piece-clause-reads : goal.returns-in_err-piece-clause-reads
returns-in_err-piece-clause-reads g c =
    at_err c.from_residual.result
    (ReadsLine c.args.turns.now c.loop-paid.turns (g.S.Source.told c.args.source.now) (g.S.Source.told c.read_piece.new.source))
    (λ fault. ReadsLine-failed _ _ _ _ _ _ _ fault c.loop-paid.invariant.reading c.in_err-piece.ensures.same) c.from_residual.ensures.0

pub returns-in_default-clause-reads : goal.returns-in_default-clause-reads
returns-in_default-clause-reads g c =
    let none : length c.in_ok-piece.piece.now ≡ 0 = search rules in
    let end = c.in_ok-piece.ensures.end none (search rules) (search rules) in
    ReadsLine-end _ _ _ _ _ _ _ _ c.loop-paid.invariant.reading (Keeps-none _ _ _ none c.in_ok-piece.ensures.came) end c.last_line.ensures

pub keep-requires : goal.keep-requires
keep-requires g c =
    omega (arith, ap length c.loop-paid.invariant.reading.kept_is, length-take most_kept c.loop-paid.invariant.reading.line)

pub returns-in_err-keep-clause-reads : goal.returns-in_err-keep-clause-reads
returns-in_err-keep-clause-reads g c =
    let some : 0 < length c.in_ok-piece.piece.now = search rules in
    let last = c.in-Some.last.now in
    let is : last ≡ get_or c.in_ok-piece.piece.now (length c.in_ok-piece.piece.now - 1) last = search rules in
    at_err c.from_residual-in_err-keep.result
    (ReadsLine c.args.turns.now c.pay.new.turns (g.S.Source.told c.args.source.now) (g.S.Source.told c.read_piece.new.source))
    (λ fault. ReadsLine-lost _ _ _ _ _ last _ _ _ _ _ fault c.loop-paid.invariant.reading c.in_ok-piece.ensures.came c.pay.ensures.pays c.pay.ensures.few some is
    c.in_ok-piece.ensures.stops)
    c.from_residual-in_err-keep.ensures.0

pub returns-then-last-eq10-clause-reads : goal.returns-then-last-eq10-clause-reads
returns-then-last-eq10-clause-reads g c =
    let some : 0 < length c.in_ok-piece.piece.now = search rules in
    let last = c.in-Some.last.now in
    let is : last ≡ get_or c.in_ok-piece.piece.now (length c.in_ok-piece.piece.now - 1) last = search rules in
    ReadsLine-whole _ _ _ _ _ last _ _ _ _ _ _ _ c.loop-paid.invariant.reading c.in_ok-piece.ensures.came c.pay.ensures.pays c.pay.ensures.few
    c.in_ok-keep.ensures some is c.if-last-eq10.true c.in_ok-piece.ensures.stops c.from_vec-kept.ensures refl

pub loop-paid-preserved : goal.loop-paid-preserved
loop-paid-preserved g c =
    let some : 0 < length c.in_ok-piece.piece.now = search rules in
    let last = c.in-Some.last.now in
    let is : last ≡ get_or c.in_ok-piece.piece.now (length c.in_ok-piece.piece.now - 1) last = search rules in
    let none : is_line_feed last ≡ false = grind (arith, nat_tests, c.if-last-eq10.false) in
    record {
      reading = IsReading-more _ _ _ _ _ _ _ _ _ _ _ c.loop-paid.invariant.reading c.in_ok-piece.ensures.came c.pay.ensures.pays c.pay.ensures.few
          c.in_ok-keep.ensures (HasNoFeed-piece _ last some is none c.in_ok-piece.ensures.stops);
      kept = Kept-trans c.loop-paid.invariant.kept (Kept-calm c.read_piece.ensures.kept);
    }
