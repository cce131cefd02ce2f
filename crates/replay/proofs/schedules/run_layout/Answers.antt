use Rattle.std.proofs.Common.{◌≡◌, true, false, [], Err, refl, sym, ◌∙◌, arith}
use Rattle.std.proofs.lemmas.Result.{err_from_is_err_and}
use Rattle.replay.proofs.OpenEnds.{ReadsPart-none, ReadsPart-schedule}
use Rattle.replay.proofs.Rests.{PrintsRest-ended}
use Rattle.layout.specs.Names.{fault_text}
use Rattle.replay.specs.Turns.{PrintsHeaded}
use Rattle.replay.proofs.Printing.{at_err, same_error, memory_alone}
use Rattle.replay.proofs.OutputLines.{output_of-text}
use Rattle.replay.proofs.Inputs.{PrintsHeaded-stopped, PrintsHeaded-refused, PrintsHeaded-lines}
use Rattle.replay.proofs.schedules.run_layout.Goals as goal

pub returns-in_err-world-in-Ok-clause-output : goal.returns-in_err-world-in-Ok-clause-output
returns-in_err-world-in-Ok-clause-output g c =
    at_err _ (PrintsHeaded _ _ _ _) (λ halt. PrintsHeaded-stopped _ _ _ halt) c.from_residual.ensures.0

pub returns-else-is_alone-clause-output : goal.returns-else-is_alone-clause-output
returns-else-is_alone-clause-output g c =
    PrintsHeaded-lines _ _ _ _ _ _ _ c.in-Ok.ensures.read c.in_ok-world-in-Ok.ensures.first (c.in_ok-world-in-Ok.ensures.disks, c.in_ok-world-in-Ok.ensures.fresh) c.run_lines.ensures.rest

pub returns-then-is_memory-clause-output : goal.returns-then-is_memory-clause-output
returns-then-is_memory-clause-output g c = PrintsHeaded-stopped _ _ _ _

pub returns-else-is_memory-clause-output : goal.returns-else-is_memory-clause-output
returns-else-is_memory-clause-output g c =
    PrintsHeaded-refused _ _ _ _ _ (fault_text c.in-Err.fault)
    (λ schedule. output_of-text c.args.head.now [] schedule (Err c.in-Err.fault) (c.in-Err.ensures.refused (c.is_memory.ensures c.if-is_memory.false)))
    c.refuse_layout.ensures.content

pub returns-then-is_alone-clause-output : goal.returns-then-is_alone-clause-output
returns-then-is_alone-clause-output g c =
    PrintsHeaded-lines _ _ _ _ _ _ _ c.in-Ok.ensures.read c.in_ok-world-in-Ok.ensures.first (c.in_ok-world-in-Ok.ensures.disks, c.in_ok-world-in-Ok.ensures.fresh)
    (PrintsRest-ended _ _ _ _ _ _ (omega arith) (c.requires c.if-is_alone.true) c.finish.ensures.told c.finish.ensures.content)

pub returns-in_err-world-in-Ok-clause-reads : goal.returns-in_err-world-in-Ok-clause-reads
returns-in_err-world-in-Ok-clause-reads g c =
    let q = err_from_is_err_and c.from_residual.result c.from_residual.ensures.1 in
    ReadsPart-none _ _ _ _ _ _ _ _ refl (λ e. memory_alone (same_error _ _ _ _ q.1 q.2 e))

pub returns-in_err-world-in-Ok-clause-alone : goal.returns-in_err-world-in-Ok-clause-alone
returns-in_err-world-in-Ok-clause-alone g c = λ _.
    let q = err_from_is_err_and c.from_residual.result c.from_residual.ensures.1 in
    (refl, λ e. memory_alone (same_error _ _ _ _ q.1 q.2 e))

pub returns-then-is_alone-clause-reads : goal.returns-then-is_alone-clause-reads
returns-then-is_alone-clause-reads g c = ReadsPart-none _ _ _ _ _ _ _ _ refl (λ e. c.finish.ensures.cause e)

pub returns-then-is_alone-clause-alone : goal.returns-then-is_alone-clause-alone
returns-then-is_alone-clause-alone g c = λ _. (refl, λ e. c.finish.ensures.cause e)

pub returns-then-is_alone-clause-read : goal.returns-then-is_alone-clause-read
returns-then-is_alone-clause-read g c = λ _. c.requires c.if-is_alone.true

pub returns-else-is_alone-clause-reads : goal.returns-else-is_alone-clause-reads
returns-else-is_alone-clause-reads g c =
    ReadsPart-schedule _ _ _ _ _ _ _ _ _ _ _ c.in-Ok.ensures.read c.in_ok-world-in-Ok.ensures.first (c.in_ok-world-in-Ok.ensures.disks, c.in_ok-world-in-Ok.ensures.fresh) c.run_lines.ensures.reads

pub returns-else-is_alone-clause-alone : goal.returns-else-is_alone-clause-alone
returns-else-is_alone-clause-alone g c = λ t. absurd (let never : false ≡ true = sym c.if-is_alone.false ∙ t in cc)

pub returns-then-is_memory-clause-reads : goal.returns-then-is_memory-clause-reads
returns-then-is_memory-clause-reads g c = ReadsPart-none _ _ _ _ _ _ _ _ refl (λ e. cc)

pub returns-else-is_memory-clause-reads : goal.returns-else-is_memory-clause-reads
returns-else-is_memory-clause-reads g c = ReadsPart-none _ _ _ _ _ _ _ _ refl (λ e. c.refuse_layout.ensures.cause e)

pub returns-else-is_memory-clause-alone : goal.returns-else-is_memory-clause-alone
returns-else-is_memory-clause-alone g c = λ _. (refl, λ e. c.refuse_layout.ensures.cause e)
