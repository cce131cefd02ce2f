use Rattle.std.proofs.Common.{sym, ◌∙◌, subst}
use Rattle.replay.specs.declared.endings.RunResult.{RunResult}
use Rattle.replay.specs.declared.endings.RunResult.TheVariants.{BadLayout}
use Rattle.trace.specs.Calls.{CallsFor}
use Rattle.trace.proofs.CalledEnds.{left-first, called-first}
use Rattle.trace.proofs.LinesTold.{layout_not_refuted}
use Rattle.trace.proofs.drawings.draw_source.Goals as goal

pub returns-in-Opened-clause-called : goal.returns-in-Opened-clause-called
returns-in-Opened-clause-called g c =
    let opens = rw c.in-Opened.is at c.in_ok-world.ensures.opens in
    c.draw_lines.ensures.called _ (left-first _ _ _ 0 c.new-unread.ensures opens.1)

pub returns-clause-called : goal.returns-clause-called
returns-clause-called g c =
    let opens = rw c.in-Refused.is at c.in_ok-world.ensures.opens in
    subst (λ (v : RunResult). CallsFor (g.S.Source.told c.args.source.now) v) (sym c.refused.ensures) (called-first _ _ BadLayout c.new-unread.ensures opens.1)

pub returns-clause-ran : goal.returns-clause-ran
returns-clause-ran g c = λ e. layout_not_refuted (sym c.refused.ensures ∙ e)
