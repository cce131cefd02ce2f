use Rattle.std.proofs.Common.{List, ℕ, [], subst}
use Rattle.trace.specs.Told.{IsTold}
use Rattle.trace.proofs.text_report.line_page.Goals as goal

pub returns : goal.returns
returns c =
    c.in_ok-add_notes.ensures c.args.run.now.printed
    (subst (λ (l : List ℕ). IsTold c.tell.new.self l) c.as_slice.ensures.value (c.in_ok-tell.ensures [] c.in_ok-page.ensures))
