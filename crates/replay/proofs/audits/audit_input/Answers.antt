use Rattle.std.proofs.Common.{Err, ap, ◌∙◌, subst}
use Rattle.std.specs.Io.KnownBytes.{Appends}
use Rattle.std.proofs.KnownBytes.{Keeps-refl}
use Rattle.std.proofs.lemmas.Result.{err_from_is_err_and}
use Rattle.replay.specs.declared.endings.Halt.{Halt}
use Rattle.replay.proofs.Printing.{same_error, memory_alone}
use Rattle.replay.proofs.Auditing.{ReadsPart-sink}
use Rattle.replay.proofs.audits.audit_input.Goals as goal

pub returns-in_err-audited-clause-reads : goal.returns-in_err-audited-clause-reads
returns-in_err-audited-clause-reads g c =
    let q = err_from_is_err_and c.from_residual.result c.from_residual.ensures.1 in
    ReadsPart-sink _ _ _ _ _ _ _ _ (λ e. (ap (λ (h : Halt). Err h) (same_error _ _ _ _ q.1 q.2 e), Keeps-refl _)) c.in_err-audited.ensures.reads

pub returns-in_err-text-clause-reads : goal.returns-in_err-text-clause-reads
returns-in_err-text-clause-reads g c =
    let q = err_from_is_err_and c.from_residual-in_err-text.result c.from_residual-in_err-text.ensures.1 in
    ReadsPart-sink _ _ _ _ _ _ _ _ (λ e. absurd (memory_alone (same_error _ _ _ _ q.1 q.2 e))) c.in_ok-audited.ensures.reads

pub returns-in_err-write-clause-reads : goal.returns-in_err-write-clause-reads
returns-in_err-write-clause-reads g c =
    let q = err_from_is_err_and c.from_residual-in_err-write.result c.from_residual-in_err-write.ensures.1 in
    ReadsPart-sink _ _ _ _ _ _ _ _
    (λ e. absurd (c.in_err-write.ensures.cause (ap (λ (h : Halt). Err h) (same_error _ _ _ _ q.1 q.2 e)))) c.in_ok-audited.ensures.reads

pub returns-clause-reads : goal.returns-clause-reads
returns-clause-reads g c = ReadsPart-sink _ _ _ _ _ _ _ _ (λ e. cc) c.in_ok-audited.ensures.reads

pub returns-clause-output : goal.returns-clause-output
returns-clause-output g c = (
  c.in_ok-audited.audited,
  c.in_ok-audited.ensures.found,
  c.end.ensures,
  subst (Appends _ _) (c.as_bytes.ensures.value ∙ c.in_ok-text.ensures) c.in_ok-write.ensures.content,
)
