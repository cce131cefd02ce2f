use Rattle.std.proofs.Common.{List, ℕ, Err, refl, sym, ap, ◌∙◌, subst}
use Rattle.std.specs.Io.KnownBytes.{prepend_known}
use Rattle.std.proofs.lemmas.Result.{err_from_is_err_and, IfOk-weaker}
use Rattle.replay.specs.declared.endings.Halt.{Halt}
use Rattle.replay.specs.Readings.{TakesHead}
use Rattle.replay.specs.Audits.{AuditGoesOn, FindsBehind, FindsIn}
use Rattle.replay.proofs.Printing.{same_error}
use Rattle.replay.proofs.OpenEnds.{HeadReads-first, ReadsPart-head, ReadsPart-both, ReadsPart-alone}
use Rattle.replay.proofs.Auditing.{told_alone, told_unread, FindsIn-behind}
use Rattle.replay.proofs.audits.audit_source.Goals as goal

pub returns-in-Text-clause-found : goal.returns-in-Text-clause-found
returns-in-Text-clause-found g c =
    let head = rw c.in-Text.is at c.in_ok-text.ensures.head in
    let left = prepend_known c.read_head.new.unread (g.S.Source.told c.read_head.new.source) in
    let left_after = prepend_known c.audit_layout.new.unread (g.S.Source.told c.audit_layout.new.source) in
    IfOk-weaker c.audit_layout.result (FindsBehind _ left left_after) (FindsIn (g.S.Source.told c.args.source.now) (g.S.Source.told c.audit_layout.new.source))
    (λ audited p. FindsIn-behind _ _ _ _ left c.in-Text.text.items audited c.new-unread.ensures head.1 head.0
    (subst (λ (l : List ℕ). FindsBehind l left left_after audited) c.as_slice.ensures.value p))
    c.audit_layout.ensures.found

pub returns-in-Alone-clause-found : goal.returns-in-Alone-clause-found
returns-in-Alone-clause-found g c =
    let head = rw c.in-Alone.is at c.in_ok-text.ensures.head in
    let left = prepend_known c.read_head.new.unread (g.S.Source.told c.read_head.new.source) in
    let left_after = prepend_known c.audit_layout-in-Alone.new.unread (g.S.Source.told c.audit_layout-in-Alone.new.source) in
    IfOk-weaker c.audit_layout-in-Alone.result (FindsBehind _ left left_after)
    (FindsIn (g.S.Source.told c.args.source.now) (g.S.Source.told c.audit_layout-in-Alone.new.source))
    (λ audited p. FindsIn-behind _ _ _ _ left c.in-Alone.text.items audited c.new-unread.ensures head.1 head.0
    (subst (λ (l : List ℕ). FindsBehind l left left_after audited) c.as_slice-in-Alone.ensures.value p))
    c.audit_layout-in-Alone.ensures.found

pub returns-in-TooLong-clause-found : goal.returns-in-TooLong-clause-found
returns-in-TooLong-clause-found g c =
    let head = rw c.in-TooLong.is at c.in_ok-text.ensures.head in
    (told_unread _ _ _ c.new-unread.ensures (told_alone _ _ _ head refl), tt)

pub returns-clause-found : goal.returns-clause-found
returns-clause-found g c =
    let head = rw c.in-Endless.is at c.in_ok-text.ensures.head in
    (told_unread _ _ _ c.new-unread.ensures (told_alone _ _ _ head refl), tt)

pub returns-in_err-text-clause-reads : goal.returns-in_err-text-clause-reads
returns-in_err-text-clause-reads g c =
    let q = err_from_is_err_and c.from_residual.result c.from_residual.ensures.1 in
    ReadsPart-head AuditGoesOn _ _ _ _ _ _ _ _ _ (HeadReads-first _ _ _ _ _ _ _ c.new-unread.ensures c.in_err-text.ensures.reads)
    (λ e. (ap (λ (h : Halt). Err h) (same_error _ _ _ _ q.1 q.2 e), tt))

pub returns-in-Text-clause-reads : goal.returns-in-Text-clause-reads
returns-in-Text-clause-reads g c =
    let reads = rw c.in-Text.is at c.in_ok-text.ensures.reads in
    let h = HeadReads-first _ _ _ _ _ _ _ c.new-unread.ensures reads in
    ReadsPart-both AuditGoesOn _ _ _ _ _ _ _ _ _ _ _ _ _ _ h
    (subst (λ (l : List ℕ). TakesHead l h.read c.read_head.new.unread) (sym c.as_slice.ensures.value) h.takes) c.audit_layout.ensures.reads
    (λ e. (ap g.S.Source.came e, λ u. e ∙ u))

pub returns-in-Alone-clause-reads : goal.returns-in-Alone-clause-reads
returns-in-Alone-clause-reads g c =
    let alone = c.audit_layout-in-Alone.ensures.alone refl in
    ReadsPart-alone AuditGoesOn _ _ _ _ _ _ _ _ _ _ _ _ (HeadReads-first _ _ _ _ _ _ _ c.new-unread.ensures c.in_ok-text.ensures.reads)
    (ap g.S.Source.told alone.0) (ap g.S.Source.came alone.0) (λ u. alone.0 ∙ u) (λ e. alone.1 e)

pub returns-in-TooLong-clause-reads : goal.returns-in-TooLong-clause-reads
returns-in-TooLong-clause-reads g c =
    ReadsPart-head AuditGoesOn _ _ _ _ _ _ _ _ _ (HeadReads-first _ _ _ _ _ _ _ c.new-unread.ensures c.in_ok-text.ensures.reads) (λ e. cc)

pub returns-clause-reads : goal.returns-clause-reads
returns-clause-reads g c =
    ReadsPart-head AuditGoesOn _ _ _ _ _ _ _ _ _ (HeadReads-first _ _ _ _ _ _ _ c.new-unread.ensures c.in_ok-text.ensures.reads) (λ e. cc)
