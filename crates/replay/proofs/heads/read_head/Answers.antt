use Rattle.std.proofs.Common.{◌≡◌, ℕ, ◌≤◌, false, List, ◌++◌, length, Err, refl, sym, ap, ◌∙◌, subst, arith, length-append}
use Rattle.std.proofs.KnownBytes.{Keeps-refl}
use Rattle.std.proofs.lemmas.Result.{err_from_is_err_and}
use Rattle.replay.specs.declared.endings.Halt.{Halt}
use Rattle.replay.proofs.Printing.{same_error, memory_alone}
use Rattle.replay.proofs.HeadReading.{HasHead, HasHead-start, HasHead-line, HeadReads-ended, HeadReads-failed, HeadTakes-text, HeadTakes-err}
use Rattle.std.specs.Io.KnownBytes.{prepend_known}
use Rattle.lines.specs.Lines.{ends_layout}
use Rattle.lines.specs.Reading.{ReadsHead}
use Rattle.lines.proofs.HeadLines.{ReadsHead-start, ReadsHead-line, ReadsSchedule-start}
use Rattle.fab_base.proofs.Keeping.{Kept-refl, Kept-trans, Kept-calm}
use Rattle.replay.specs.Inputs.{most_layout_bytes}
use Rattle.replay.proofs.LayoutTexts.{too_long, too_long-next, endless}
use Rattle.replay.proofs.heads.read_head.Goals as goal

pub returns-then-is_layout_end-clause-head : goal.returns-then-is_layout_end-clause-head
returns-then-is_layout_end-clause-head g c =
    let says = rw c.in-Whole.is at c.in_ok-line.ensures.says in (
      c.loop.invariant.within,
      ReadsSchedule-start _ _ _ _ c.in-Whole.line c.loop.invariant.read says.1
          (ap ends_layout (sym c.as_slice.ensures.value) ∙ sym c.is_layout_end.ensures ∙ c.if-is_layout_end.true),
    )

pub returns-then-len-clause-head : goal.returns-then-len-clause-head
returns-then-len-clause-head g c =
    let says = rw c.in-Whole.is at c.in_ok-line.ensures.says in
    let other : ends_layout c.in-Whole.line ≡ false =
    ap ends_layout (sym c.as_slice.ensures.value) ∙ sym c.is_layout_end.ensures ∙ c.if-is_layout_end.false in
    too_long _ _ (c.loop.head.items ++ c.in-Whole.line) (ReadsHead-line _ _ _ _ c.in-Whole.line c.loop.invariant.read says.1 other)
    (omega (arith, length-append c.loop.head.items c.in-Whole.line, c.if-len.true, c.len.ensures, c.len-in-Whole.ensures))

pub returns-in-Long-clause-head : goal.returns-in-Long-clause-head
returns-in-Long-clause-head g c =
    let says = rw c.in-Long.is at c.in_ok-line.ensures.says in
    too_long-next _ _ _ c.loop.invariant.read says.1

pub returns-in-Ended-clause-head : goal.returns-in-Ended-clause-head
returns-in-Ended-clause-head g c =
    let says = rw c.in-Ended.is at c.in_ok-line.ensures.says in
    endless _ _ _ c.loop.invariant.read says.0 c.loop.invariant.within

pub loop-preserved : goal.loop-preserved
loop-preserved g c =
    let says = rw c.in-Whole.is at c.in_ok-line.ensures.says in
    let other : ends_layout c.in-Whole.line ≡ false =
    ap ends_layout (sym c.as_slice.ensures.value) ∙ sym c.is_layout_end.ensures ∙ c.if-is_layout_end.false in
    let longer : c.extend_from_slice.new.self.items ≡ c.loop.head.items ++ c.in-Whole.line =
    c.in_ok-extend_from_slice-in-Whole.ensures.items ∙ ap (λ l. c.loop.head.items ++ l) c.as_slice-in-Whole.ensures.value in
    record {
      has = HasHead-line _ _ _ _ _ _ _ _ _ _ _ _ _ c.in-Whole.line _ c.loop.invariant.within c.loop.invariant.has
          (rw c.in-Whole.is at c.in_ok-line.ensures.reads) (λ e. (ap g.S.Source.came e, λ u. e ∙ u)) says.2 other longer;
      read = subst (λ (l : List ℕ). ReadsHead (prepend_known c.args.unread.now (g.S.Source.told c.args.source.now))
          (prepend_known c.next.new.unread (g.S.Source.told c.next.new.source)) l) (sym longer)
          (ReadsHead-line _ _ _ _ c.in-Whole.line c.loop.invariant.read says.1 other);
      within = subst (λ (l : List ℕ). length l ≤ most_layout_bytes) (sym longer)
          (omega (arith, length-append c.loop.head.items c.in-Whole.line, c.if-len.false, c.len.ensures, c.len-in-Whole.ensures));
      source = Kept-trans c.loop.invariant.source (Kept-calm c.next.ensures.kept);
    }

pub loop-init : goal.loop-init
loop-init g c =
    let start = prepend_known c.args.unread.now (g.S.Source.told c.args.source.now) in
    let empty = sym c.new-head.ensures.items in
    record {
      read = subst (λ (l : List ℕ). ReadsHead start start l) empty (ReadsHead-start start start (Keeps-refl start));
      has = subst (λ (l : List ℕ). HasHead c.args.unread.now c.args.unread.now (g.S.Source.told c.args.source.now) (g.S.Source.told c.args.source.now)
          (g.S.Source.came c.args.source.now) (c.args.source.now ≡ c.args.source.now) l) empty (HasHead-start _ _ _ _ refl);
      within = subst (λ (l : List ℕ). length l ≤ most_layout_bytes) empty (omega arith);
      source = Kept-refl _ _;
    }

pub returns-in_err-line-clause-reads : goal.returns-in_err-line-clause-reads
returns-in_err-line-clause-reads g c =
    let q = err_from_is_err_and c.from_residual.result c.from_residual.ensures.1 in
    HeadReads-failed _ _ _ _ _ _ _ _ _ _ _ _ _ _ c.from_residual.ensures.0 c.loop.invariant.within c.loop.invariant.has c.in_err-line.ensures.reads
    (λ e. (ap g.S.Source.came e, λ u. e ∙ u)) (λ e. ap (λ (h : Halt). Err h) (same_error _ _ _ _ q.1 q.2 e))

pub returns-then-is_layout_end-clause-reads : goal.returns-then-is_layout_end-clause-reads
returns-then-is_layout_end-clause-reads g c =
    let says = rw c.in-Whole.is at c.in_ok-line.ensures.says in
    let reads = rw c.in-Whole.is at c.in_ok-line.ensures.reads in
    let ends = ap ends_layout (sym c.as_slice.ensures.value) ∙ sym c.is_layout_end.ensures ∙ c.if-is_layout_end.true in
    HeadReads-ended _ _ _ _ _ _ _ _ _ _ _ _ _ _ _ c.loop.invariant.within c.loop.invariant.has reads
    (λ e. (ap g.S.Source.came e, λ u. e ∙ u))
    (HeadTakes-text _ _ _ _ _ _ _ _ _ _ _ c.in-Whole.line _ c.loop.invariant.within c.loop.invariant.has reads says.2 ends) (λ e. cc)

pub returns-then-len-clause-reads : goal.returns-then-len-clause-reads
returns-then-len-clause-reads g c =
    HeadReads-ended _ _ _ _ _ _ _ _ _ _ _ _ _ _ _ c.loop.invariant.within c.loop.invariant.has (rw c.in-Whole.is at c.in_ok-line.ensures.reads)
    (λ e. (ap g.S.Source.came e, λ u. e ∙ u)) tt (λ e. cc)

pub returns-in_err-extend_from_slice-in-Whole-clause-reads : goal.returns-in_err-extend_from_slice-in-Whole-clause-reads
returns-in_err-extend_from_slice-in-Whole-clause-reads g c =
    let exit = c.from_residual-in_err-extend_from_slice-in-Whole.ensures in
    let q = err_from_is_err_and c.from_residual-in_err-extend_from_slice-in-Whole.result exit.1 in
    HeadReads-ended _ _ _ _ _ _ _ _ _ _ _ _ _ _ _ c.loop.invariant.within c.loop.invariant.has (rw c.in-Whole.is at c.in_ok-line.ensures.reads)
    (λ e. (ap g.S.Source.came e, λ u. e ∙ u)) (HeadTakes-err _ _ _ exit.0) (λ e. memory_alone (same_error _ _ _ _ q.1 q.2 e))

pub returns-then-is_layout_end-2-clause-head : goal.returns-then-is_layout_end-2-clause-head
returns-then-is_layout_end-2-clause-head g c =
    let says = rw c.in-Last.is at c.in_ok-line.ensures.says in (
      c.loop.invariant.within,
      ReadsSchedule-start _ _ _ _ c.in-Last.line c.loop.invariant.read says.1
          (ap ends_layout (sym c.as_slice-in-Last.ensures.value) ∙ sym c.is_layout_end-in-Last.ensures ∙ c.if-is_layout_end-2.true),
      says.2,
    )

pub returns-then-is_layout_end-2-clause-reads : goal.returns-then-is_layout_end-2-clause-reads
returns-then-is_layout_end-2-clause-reads g c =
    HeadReads-ended _ _ _ _ _ _ _ _ _ _ _ _ _ _ _ c.loop.invariant.within c.loop.invariant.has (rw c.in-Last.is at c.in_ok-line.ensures.reads)
    (λ e. (ap g.S.Source.came e, λ u. e ∙ u)) tt (λ e. cc)

pub returns-then-len-2-clause-head : goal.returns-then-len-2-clause-head
returns-then-len-2-clause-head g c =
    let says = rw c.in-Last.is at c.in_ok-line.ensures.says in
    let other : ends_layout c.in-Last.line ≡ false =
    ap ends_layout (sym c.as_slice-in-Last.ensures.value) ∙ sym c.is_layout_end-in-Last.ensures ∙ c.if-is_layout_end-2.false in
    too_long _ _ (c.loop.head.items ++ c.in-Last.line) (ReadsHead-line _ _ _ _ c.in-Last.line c.loop.invariant.read says.1 other)
    (omega (arith, length-append c.loop.head.items c.in-Last.line, c.if-len-2.true, c.len-in-Last.ensures, c.len-in-Last-2.ensures))

pub returns-then-len-2-clause-reads : goal.returns-then-len-2-clause-reads
returns-then-len-2-clause-reads g c =
    HeadReads-ended _ _ _ _ _ _ _ _ _ _ _ _ _ _ _ c.loop.invariant.within c.loop.invariant.has (rw c.in-Last.is at c.in_ok-line.ensures.reads)
    (λ e. (ap g.S.Source.came e, λ u. e ∙ u)) tt (λ e. cc)

pub returns-in-Last-clause-head : goal.returns-in-Last-clause-head
returns-in-Last-clause-head g c =
    let says = rw c.in-Last.is at c.in_ok-line.ensures.says in
    let other : ends_layout c.in-Last.line ≡ false =
    ap ends_layout (sym c.as_slice-in-Last.ensures.value) ∙ sym c.is_layout_end-in-Last.ensures ∙ c.if-is_layout_end-2.false in
    endless _ _ (c.loop.head.items ++ c.in-Last.line) (ReadsHead-line _ _ _ _ c.in-Last.line c.loop.invariant.read says.1 other) says.2
    (omega (arith, length-append c.loop.head.items c.in-Last.line, c.if-len-2.false, c.len-in-Last.ensures, c.len-in-Last-2.ensures))

pub returns-in-Last-clause-reads : goal.returns-in-Last-clause-reads
returns-in-Last-clause-reads g c =
    HeadReads-ended _ _ _ _ _ _ _ _ _ _ _ _ _ _ _ c.loop.invariant.within c.loop.invariant.has (rw c.in-Last.is at c.in_ok-line.ensures.reads)
    (λ e. (ap g.S.Source.came e, λ u. e ∙ u)) tt (λ e. cc)

pub returns-in-Long-clause-reads : goal.returns-in-Long-clause-reads
returns-in-Long-clause-reads g c =
    HeadReads-ended _ _ _ _ _ _ _ _ _ _ _ _ _ _ _ c.loop.invariant.within c.loop.invariant.has (rw c.in-Long.is at c.in_ok-line.ensures.reads)
    (λ e. (ap g.S.Source.came e, λ u. e ∙ u)) tt (λ e. cc)

pub returns-in-Ended-clause-reads : goal.returns-in-Ended-clause-reads
returns-in-Ended-clause-reads g c =
    HeadReads-ended _ _ _ _ _ _ _ _ _ _ _ _ _ _ _ c.loop.invariant.within c.loop.invariant.has (rw c.in-Ended.is at c.in_ok-line.ensures.reads)
    (λ e. (ap g.S.Source.came e, λ u. e ∙ u)) tt (λ e. cc)
