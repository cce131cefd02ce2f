use Rattle.std.proofs.Common.{◌∙◌}
use Rattle.layout.specs.Names.{fault_text}
use Rattle.replay.specs.Outputs.{bad_layout}
use Rattle.replay.specs.Turns.{Prints}
use Rattle.replay.proofs.Printing.{Prints-nothing, Prints-text, at_err}
use Rattle.replay.proofs.schedules.refuse_layout.Goals as goal

pub returns-in_err-text-clause-content : goal.returns-in_err-text-clause-content
returns-in_err-text-clause-content g c =
    at_err _ (Prints _ _ (bad_layout (fault_text c.args.fault.now))) (λ halt. Prints-nothing _ (bad_layout (fault_text c.args.fault.now)) halt)
    c.from_residual.ensures.0

pub returns-clause-content : goal.returns-clause-content
returns-clause-content g c =
    Prints-text _ _ _ _ (bad_layout (fault_text c.args.fault.now)).text _ (c.as_bytes.ensures.value ∙ c.in_ok-text.ensures.ok) c.close.ensures.content
