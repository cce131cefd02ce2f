use Rattle.trace.proofs.Margins.{on_ok}
use Rattle.trace.proofs.text_report.add_stripe.Goals as goal

pub returns : goal.returns
returns c = on_ok c.add_notes.result _ _ (λ h told is. h told (c.in_ok-head.ensures told is)) c.add_notes.ensures
