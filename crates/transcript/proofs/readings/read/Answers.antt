-- What is left of the text tells what all of it is.
use Rattle.std.proofs.Common.{◌≡◌, Result, Err, refl, sym, ap, ◌∙◌, subst, arith, rules}
use Rattle.std.specs.Io.KnownBytes.{prepend_known}
use Rattle.std.proofs.lemmas.Result.{err_from_is_err_and}
use Rattle.fab_base.specs.declared.faults.IoFault.{IoFault}
use Rattle.fab_base.proofs.Keeping.{Kept-refl, Kept-trans, Kept-calm}
use Rattle.transcript.specs.declared.readings.Text.{Text}
use Rattle.transcript.specs.Said.{Transcribed}
use Rattle.transcript.specs.Transcripts.{IsTextBehind, IsTextOf, StripesRise, EndsWhole, most_lines}
use Rattle.transcript.proofs.Turns.{ends_whole, from_start, none_left_at, many_come}
use Rattle.transcript.proofs.TextReading.{HasText, HasText-start, HasText-line, TextReads-ended, TextReads-failed}
use Rattle.transcript.proofs.readings.read.Goals as goal

-- the fault of an exit is the one that was met
same_fault : {T : Type 0} (r : Result T IoFault) (met gave said : IoFault) → r ≡ Err gave → gave ≡ met → r ≡ Err said → met ≡ said
same_fault r met gave said is same e = cc

pub returns-in-Last-clause-text : goal.returns-in-Last-clause-text
returns-in-Last-clause-text g c =
    let turn = rw c.in-Last.is at c.in_ok-take_next.ensures.turn in
    let end = turn c.loop-count.count _ _ c.loop-count-test.true c.in_ok-piece.ensures.says in
    subst (λ (t : Text). IsTextOf (prepend_known c.args.unread.now (g.S.Source.told c.args.source.now)) t) (sym c.finish.ensures)
    (c.loop-count.invariant.leads _ end.0)

pub returns-in-Last-clause-end : goal.returns-in-Last-clause-end
returns-in-Last-clause-end g c =
    let turn = rw c.in-Last.is at c.in_ok-take_next.ensures.turn in
    let end = turn c.loop-count.count _ _ c.loop-count-test.true c.in_ok-piece.ensures.says in
    subst (λ (t : Text). EndsWhole t (prepend_known c.next_line.new.self (g.S.Source.told c.next_line.new.source))) (sym c.finish.ensures)
    (ends_whole _ _ _ _ end.1)

pub returns-in-Bad-clause-text : goal.returns-in-Bad-clause-text
returns-in-Bad-clause-text g c =
    let turn = rw c.in-Bad.is at c.in_ok-take_next.ensures.turn in
    c.loop-count.invariant.leads _ (turn c.loop-count.count _ _ c.loop-count-test.true c.in_ok-piece.ensures.says)

pub returns-in-Ended-clause-text : goal.returns-in-Ended-clause-text
returns-in-Ended-clause-text g c =
    let turn = rw c.in-Ended.is at c.in_ok-take_next.ensures.turn in
    let end = turn c.loop-count.count _ _ c.loop-count-test.true c.in_ok-piece.ensures.says in
    subst (λ (t : Text). IsTextOf (prepend_known c.args.unread.now (g.S.Source.told c.args.source.now)) t) (sym c.finish-in-Ended.ensures)
    (c.loop-count.invariant.leads _ end.0)

pub returns-in-Ended-clause-end : goal.returns-in-Ended-clause-end
returns-in-Ended-clause-end g c =
    let turn = rw c.in-Ended.is at c.in_ok-take_next.ensures.turn in
    let end = turn c.loop-count.count _ _ c.loop-count-test.true c.in_ok-piece.ensures.says in
    subst (λ (t : Text). EndsWhole t (prepend_known c.next_line.new.self (g.S.Source.told c.next_line.new.source))) (sym c.finish-in-Ended.ensures)
    (ends_whole _ _ _ _ end.1)

pub loop-count-preserved : goal.loop-count-preserved
loop-count-preserved g c =
    let turn = rw c.in-More.is at c.in_ok-take_next.ensures.turn in
    let takes = rw c.in-More.is at c.in_ok-take_next.ensures.takes in
    let says = rw takes.1 at c.in_ok-piece.ensures.says in
    record {
      has = HasText-line _ _ _ _ _ _ _ _ _ _ _ c.loop-count.count _ _ takes.0 _ c.loop-count-test.true c.loop-count.invariant.has
          (rw takes.1 at c.in_ok-piece.ensures.reads) (λ e. (ap g.S.Source.came e, λ u. e ∙ u)) says.2 takes.2;
      leads = λ text behind. c.loop-count.invariant.leads text (turn c.loop-count.count _ _ c.loop-count-test.true c.in_ok-piece.ensures.says text behind);
      rise = rw c.in-More.is at c.in_ok-take_next.ensures.rises c.loop-count.invariant.rise;
      source = Kept-trans c.loop-count.invariant.source (Kept-calm c.next_line.ensures.kept);
    }

pub returns-in-Ended-more-clause-text : goal.returns-in-Ended-more-clause-text
returns-in-Ended-more-clause-text g c =
    let says = rw c.in-Ended-more.is at c.in_ok-more.ensures.says in
    let all : c.loop-count.count ≡ most_lines = omega arith in
    subst (λ (t : Text). IsTextOf (prepend_known c.args.unread.now (g.S.Source.told c.args.source.now)) t) (sym c.finish-in-Ended-more.ensures)
    (c.loop-count.invariant.leads _ (none_left_at c.loop-count.count most_lines _ _ all says.0))

pub returns-clause-text : goal.returns-clause-text
returns-clause-text g c =
    c.loop-count.invariant.leads _
    (many_come c.loop-count.count _ _ _ _ (omega arith) c.in_default.not-Ended c.in_ok-more.ensures.says)

pub returns-in_err-piece-clause-reads : goal.returns-in_err-piece-clause-reads
returns-in_err-piece-clause-reads g c =
    let q = err_from_is_err_and c.from_residual.result c.from_residual.ensures.1 in
    TextReads-failed _ _ _ _ _ _ _ _ _ _ _ _ _ _ _ (omega (arith, c.loop-count-test.true)) c.loop-count.invariant.has c.in_err-piece.ensures.reads
    (λ e. (ap g.S.Source.came e, λ u. e ∙ u)) (λ e. cc)

pub returns-in_err-take_next-clause-reads : goal.returns-in_err-take_next-clause-reads
returns-in_err-take_next-clause-reads g c =
    let q = err_from_is_err_and c.from_residual-in_err-take_next.result c.from_residual-in_err-take_next.ensures.1 in
    TextReads-ended _ _ _ _ _ _ _ _ _ _ _ _ _ _ _ _ (omega (arith, c.loop-count-test.true)) c.loop-count.invariant.has c.in_ok-piece.ensures.reads
    (λ e. (ap g.S.Source.came e, λ u. e ∙ u))
    (λ e. c.in_err-take_next.ensures.cause (ap (λ (f : IoFault). Err f) (same_fault _ _ _ _ q.1 q.2 e)))

pub returns-in-Last-clause-reads : goal.returns-in-Last-clause-reads
returns-in-Last-clause-reads g c =
    TextReads-ended _ _ _ _ _ _ _ _ _ _ _ _ _ _ _ _ (omega (arith, c.loop-count-test.true)) c.loop-count.invariant.has c.in_ok-piece.ensures.reads
    (λ e. (ap g.S.Source.came e, λ u. e ∙ u)) (λ e. cc)

pub returns-in-Bad-clause-reads : goal.returns-in-Bad-clause-reads
returns-in-Bad-clause-reads g c =
    TextReads-ended _ _ _ _ _ _ _ _ _ _ _ _ _ _ _ _ (omega (arith, c.loop-count-test.true)) c.loop-count.invariant.has c.in_ok-piece.ensures.reads
    (λ e. (ap g.S.Source.came e, λ u. e ∙ u)) (λ e. cc)

pub returns-in-Ended-clause-reads : goal.returns-in-Ended-clause-reads
returns-in-Ended-clause-reads g c =
    TextReads-ended _ _ _ _ _ _ _ _ _ _ _ _ _ _ _ _ (omega (arith, c.loop-count-test.true)) c.loop-count.invariant.has c.in_ok-piece.ensures.reads
    (λ e. (ap g.S.Source.came e, λ u. e ∙ u)) (λ e. cc)

pub returns-in_err-more-clause-reads : goal.returns-in_err-more-clause-reads
returns-in_err-more-clause-reads g c =
    let q = err_from_is_err_and c.from_residual-in_err-more.result c.from_residual-in_err-more.ensures.1 in
    TextReads-failed _ _ _ _ _ _ _ _ _ _ _ _ _ _ _ (omega arith) c.loop-count.invariant.has c.in_err-more.ensures.reads
    (λ e. (ap g.S.Source.came e, λ u. e ∙ u)) (λ e. cc)

pub returns-in-Ended-more-clause-reads : goal.returns-in-Ended-more-clause-reads
returns-in-Ended-more-clause-reads g c =
    TextReads-ended _ _ _ _ _ _ _ _ _ _ _ _ _ _ _ _ (omega arith) c.loop-count.invariant.has c.in_ok-more.ensures.reads
    (λ e. (ap g.S.Source.came e, λ u. e ∙ u)) (λ e. cc)

pub returns-clause-reads : goal.returns-clause-reads
returns-clause-reads g c =
    TextReads-ended _ _ _ _ _ _ _ _ _ _ _ _ _ _ _ _ (omega arith) c.loop-count.invariant.has c.in_ok-more.ensures.reads
    (λ e. (ap g.S.Source.came e, λ u. e ∙ u)) (λ e. cc)

pub loop-count-init : goal.loop-count-init
loop-count-init g c =
    let none = sym c.new-said.ensures in
    let start = prepend_known c.args.unread.now (g.S.Source.told c.args.source.now) in
    record {
      leads = subst (λ (t : Transcribed). (text : Text) → IsTextBehind 0 t start text → IsTextOf start text) none (from_start start);
      has = subst (λ (t : Transcribed). HasText c.args.unread.now c.args.unread.now (g.S.Source.told c.args.source.now) (g.S.Source.told c.args.source.now)
          (g.S.Source.came c.args.source.now) (c.args.source.now ≡ c.args.source.now) 0 t) none (HasText-start _ _ _ _ refl);
      rise = subst (λ (t : Transcribed). StripesRise t.stripes) none (λ i j a b h x y. cc);
      source = Kept-refl _ _;
    }

pub returns-in_err-piece-clause-rises : goal.returns-in_err-piece-clause-rises
returns-in_err-piece-clause-rises g c = search rules

pub returns-in_err-piece-clause-text : goal.returns-in_err-piece-clause-text
returns-in_err-piece-clause-text g c = search rules

pub returns-in_err-piece-clause-end : goal.returns-in_err-piece-clause-end
returns-in_err-piece-clause-end g c = search rules

pub returns-in_err-piece-clause-kept : goal.returns-in_err-piece-clause-kept
returns-in_err-piece-clause-kept g c = search rules

pub returns-in_err-take_next-clause-rises : goal.returns-in_err-take_next-clause-rises
returns-in_err-take_next-clause-rises g c = search rules

pub returns-in_err-take_next-clause-text : goal.returns-in_err-take_next-clause-text
returns-in_err-take_next-clause-text g c = search rules

pub returns-in_err-take_next-clause-end : goal.returns-in_err-take_next-clause-end
returns-in_err-take_next-clause-end g c = search rules

pub returns-in_err-take_next-clause-kept : goal.returns-in_err-take_next-clause-kept
returns-in_err-take_next-clause-kept g c = search rules

pub returns-in-Last-clause-rises : goal.returns-in-Last-clause-rises
returns-in-Last-clause-rises g c = search rules

pub returns-in-Last-clause-kept : goal.returns-in-Last-clause-kept
returns-in-Last-clause-kept g c = search rules

pub returns-in-Bad-clause-rises : goal.returns-in-Bad-clause-rises
returns-in-Bad-clause-rises g c = search rules

pub returns-in-Bad-clause-end : goal.returns-in-Bad-clause-end
returns-in-Bad-clause-end g c = search rules

pub returns-in-Bad-clause-kept : goal.returns-in-Bad-clause-kept
returns-in-Bad-clause-kept g c = search rules

pub returns-in-Ended-clause-rises : goal.returns-in-Ended-clause-rises
returns-in-Ended-clause-rises g c = search rules

pub returns-in-Ended-clause-kept : goal.returns-in-Ended-clause-kept
returns-in-Ended-clause-kept g c = search rules

pub returns-in_err-more-clause-rises : goal.returns-in_err-more-clause-rises
returns-in_err-more-clause-rises g c = search rules

pub returns-in_err-more-clause-text : goal.returns-in_err-more-clause-text
returns-in_err-more-clause-text g c = search rules

pub returns-in_err-more-clause-end : goal.returns-in_err-more-clause-end
returns-in_err-more-clause-end g c = search rules

pub returns-in_err-more-clause-kept : goal.returns-in_err-more-clause-kept
returns-in_err-more-clause-kept g c = search rules

pub returns-in-Ended-more-clause-rises : goal.returns-in-Ended-more-clause-rises
returns-in-Ended-more-clause-rises g c = search rules

pub returns-in-Ended-more-clause-end : goal.returns-in-Ended-more-clause-end
returns-in-Ended-more-clause-end g c = search rules

pub returns-in-Ended-more-clause-kept : goal.returns-in-Ended-more-clause-kept
returns-in-Ended-more-clause-kept g c = search rules
