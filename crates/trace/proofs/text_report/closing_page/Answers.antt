use Rattle.std.proofs.Common.{[]}
use Rattle.trace.proofs.text_report.closing_page.Goals as goal

pub loop-history-preserved : goal.loop-history-preserved
loop-history-preserved c = c.in_ok-add_stripe.ensures [] c.loop-history.invariant
