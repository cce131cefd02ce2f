use Rattle.std.proofs.Common.{List, ℕ, sym, ap, ◌∙◌}
use Rattle.lines.specs.Grammar.{line_of}
use Rattle.lines.specs.Lines.{content}
use Rattle.trace.proofs.CalledEnds.{runs-none}
use Rattle.trace.proofs.schedules.run_line.Goals as goal

pub returns-in-None-clause-runs : goal.returns-in-None-clause-runs
returns-in-None-clause-runs c =
    runs-none _ _ _ _ c.bad_line.result
    (ap (λ (l : List ℕ). line_of (content l)) (sym c.as_slice.ensures.value) ∙ ap line_of (sym c.content_of.ensures) ∙ (rw c.in-None.is at c.in_ok-run.ensures))
    c.bad_line.ensures.refusal
