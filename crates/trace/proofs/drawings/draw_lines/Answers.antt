use Rattle.std.proofs.Common.{sym, ◌∙◌, subst}
use Rattle.fab_base.proofs.Keeping.{Kept-refl, Kept-trans, Kept-calm}
use Rattle.replay.specs.declared.endings.RunResult.{RunResult}
use Rattle.replay.specs.declared.endings.RunResult.TheVariants.{Whole}
use Rattle.trace.specs.Calls.{CallsFor}
use Rattle.trace.proofs.CalledEnds.{left-more}
use Rattle.trace.proofs.LinesTold.{whole_not_refuted}
use Rattle.trace.proofs.drawings.draw_lines.Goals as goal

pub loop-count-init : goal.loop-count-init
loop-count-init g c = record { left = λ input left. left; source = Kept-refl _ _ }

pub loop-count-preserved : goal.loop-count-preserved
loop-count-preserved g c =
    let turn = rw c.in-Ran.is at c.in_ok-line.ensures.turns in
    record {
      left = λ input left. left-more input _ _ _ (c.loop-count.invariant.left input left) turn.1;
      source = Kept-trans c.loop-count.invariant.source (Kept-calm c.take_turn.ensures.kept);
    }

pub returns-in-Ended-clause-called : goal.returns-in-Ended-clause-called
returns-in-Ended-clause-called g c = λ input left.
    let turn = rw c.in-Ended.is at c.in_ok-line.ensures.turns in
    subst (λ (v : RunResult). CallsFor input v) (sym c.drawn.ensures) (c.loop-count.invariant.left input left Whole turn.1)

pub returns-in-Refused-clause-called : goal.returns-in-Refused-clause-called
returns-in-Refused-clause-called g c = λ input left.
    let turn = rw c.in-Refused.is at c.in_ok-line.ensures.turns in
    subst (λ (v : RunResult). CallsFor input v) (sym c.refused.ensures) (c.loop-count.invariant.left input left c.in-Refused.verdict turn.1)

pub returns-in-Ended-clause-ran : goal.returns-in-Ended-clause-ran
returns-in-Ended-clause-ran g c = λ e. whole_not_refuted (sym c.drawn.ensures ∙ e)

pub returns-in-Refused-clause-ran : goal.returns-in-Refused-clause-ran
returns-in-Refused-clause-ran g c =
    let turn = rw c.in-Refused.is at c.in_ok-line.ensures.turns in
    λ e. turn.0.1 (sym c.refused.ensures ∙ e)
