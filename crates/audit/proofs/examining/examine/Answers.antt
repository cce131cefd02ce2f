-- What was read is what it took to read the text.
use Rattle.std.proofs.Common.{◌≡◌, Err}
use Rattle.std.proofs.lemmas.Result.{err_from_is_err_and}
use Rattle.transcript.proofs.TextReading.{TextReads-as}
use Rattle.audit.proofs.examining.examine.Goals as goal

pub returns-in_err-text-clause-reads : goal.returns-in_err-text-clause-reads
returns-in_err-text-clause-reads g c =
    let q = err_from_is_err_and c.from_residual.result c.from_residual.ensures.1 in
    TextReads-as _ _ _ _ _ _ _ (λ e. cc) c.in_err-text.ensures.reads

pub returns-in-Ok-clause-reads : goal.returns-in-Ok-clause-reads
returns-in-Ok-clause-reads g c = TextReads-as _ _ _ _ _ _ _ (λ e. cc) c.in_ok-text.ensures.reads

pub returns-clause-reads : goal.returns-clause-reads
returns-clause-reads g c = TextReads-as _ _ _ _ _ _ _ (λ e. cc) c.in_ok-text.ensures.reads
