use Rattle.std.proofs.Common.{refl}
use Rattle.replay.proofs.OpenEnds.{ReadsPart-none}
use Rattle.replay.proofs.Auditing.{left_found, none_found, refused_found, ReadsPart-text}
use Rattle.replay.proofs.audits.audit_layout.Goals as goal

pub returns-then-is_alone-clause-found : goal.returns-then-is_alone-clause-found
returns-then-is_alone-clause-found g c = (none_found _ _ _ c.in-Ok.ensures.read (c.requires c.if-is_alone.true), tt)

pub returns-then-is_alone-clause-reads : goal.returns-then-is_alone-clause-reads
returns-then-is_alone-clause-reads g c = ReadsPart-none _ _ _ _ _ _ _ _ refl (λ e. cc)

pub returns-in-Ok-examine-clause-found : goal.returns-in-Ok-examine-clause-found
returns-in-Ok-examine-clause-found g c =
    (left_found _ _ _ _ c.in-Ok.ensures.read c.in-Ok-examine.ensures.verdict, c.in-Ok-examine.ensures.end)

pub returns-in-Ok-examine-clause-reads : goal.returns-in-Ok-examine-clause-reads
returns-in-Ok-examine-clause-reads g c = ReadsPart-text _ _ _ _ _ _ _ _ _ c.in-Ok.ensures.read (λ e. cc) c.examine.ensures.reads

pub returns-then-is_memory-clause-reads : goal.returns-then-is_memory-clause-reads
returns-then-is_memory-clause-reads g c = ReadsPart-none _ _ _ _ _ _ _ _ refl (λ e. cc)

pub returns-in-Err-Failed-clause-reads : goal.returns-in-Err-Failed-clause-reads
returns-in-Err-Failed-clause-reads g c = ReadsPart-text _ _ _ _ _ _ _ _ _ c.in-Ok.ensures.read (λ e. cc) c.examine.ensures.reads

pub returns-in-Ok-clause-reads : goal.returns-in-Ok-clause-reads
returns-in-Ok-clause-reads g c = ReadsPart-text _ _ _ _ _ _ _ _ _ c.in-Ok.ensures.read (λ e. cc) c.examine.ensures.reads

pub returns-clause-found : goal.returns-clause-found
returns-clause-found g c = (refused_found _ _ c.in-Err.fault (c.in-Err.ensures.refused (c.is_memory.ensures c.if-is_memory.false)), tt)

pub returns-clause-reads : goal.returns-clause-reads
returns-clause-reads g c = ReadsPart-none _ _ _ _ _ _ _ _ refl (λ e. cc)
