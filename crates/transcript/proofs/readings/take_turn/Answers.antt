-- A line leads on, or is not in its place, by what it says.
use Rattle.std.proofs.Common.{◌≡◌, ℕ, Bool, cond, List, Some, None, sym, ap, ◌∙◌, subst}
use Rattle.lines.specs.Lines.{content}
use Rattle.lines.specs.Reading.{Says}
use Rattle.lines.specs.declared.reader.NextLine.{NextLine}
use Rattle.transcript.specs.Said.{Transcribed}
use Rattle.transcript.specs.Forms.{entry_of, most_line_bytes}
use Rattle.transcript.specs.Transcripts.{after_line}
use Rattle.transcript.proofs.Turns.{leads_on, leads_last, leads_nowhere, long_line, none_left}
use Rattle.transcript.proofs.Rising.{rise_line}
use Rattle.transcript.proofs.readings.take_turn.Goals as goal

-- what was answered of a line, where that is known
answered : (old new : Transcribed) (line shown : List ℕ) (b t : Bool) → shown ≡ line → b ≡ t
    → after_line old (entry_of (content shown)) ≡ cond b (Some new) None → after_line old (entry_of (content line)) ≡ cond t (Some new) None
answered old new line shown b t same is given =
    ap (λ (l : List ℕ). after_line old (entry_of (content l))) (sym same) ∙ given ∙ ap (λ (x : Bool). cond x (Some new) None) is

pub returns-then-branch-clause-turn : goal.returns-then-branch-clause-turn
returns-then-branch-clause-turn c n left rest within says text behind =
    let at = subst (λ (p : NextLine). Says most_line_bytes left rest p) c.in-Whole.is says in
    leads_on n _ _ _ left rest within at.1 (answered _ _ _ _ _ _ c.as_slice.ensures.value c.if-branch.true c.in_ok-take_line-in-Whole.ensures) text behind

pub returns-else-branch-clause-turn : goal.returns-else-branch-clause-turn
returns-else-branch-clause-turn c n left rest within says =
    let at = subst (λ (p : NextLine). Says most_line_bytes left rest p) c.in-Whole.is says in
    leads_nowhere n _ _ left rest within at.1 (answered _ _ _ _ _ _ c.as_slice.ensures.value c.if-branch.false c.in_ok-take_line-in-Whole.ensures)

pub returns-then-branch-2-clause-turn : goal.returns-then-branch-2-clause-turn
returns-then-branch-2-clause-turn c n left rest within says =
    let at = subst (λ (p : NextLine). Says most_line_bytes left rest p) c.in-Last.is says in (
      leads_last n _ _ _ left rest within at.1 at.2
          (answered _ _ _ _ _ _ c.as_slice-in-Last.ensures.value c.if-branch-2.true c.in_ok-take_line-in-Last.ensures),
      at.2,
    )

pub returns-else-branch-2-clause-turn : goal.returns-else-branch-2-clause-turn
returns-else-branch-2-clause-turn c n left rest within says =
    let at = subst (λ (p : NextLine). Says most_line_bytes left rest p) c.in-Last.is says in
    leads_nowhere n _ _ left rest within at.1
    (answered _ _ _ _ _ _ c.as_slice-in-Last.ensures.value c.if-branch-2.false c.in_ok-take_line-in-Last.ensures)

pub returns-in-Long-clause-turn : goal.returns-in-Long-clause-turn
returns-in-Long-clause-turn c n left rest within says =
    let at = subst (λ (p : NextLine). Says most_line_bytes left rest p) c.in-Long.is says in
    long_line n _ left within at.1

pub returns-in-Ended-clause-turn : goal.returns-in-Ended-clause-turn
returns-in-Ended-clause-turn c n left rest within says =
    let at = subst (λ (p : NextLine). Says most_line_bytes left rest p) c.in-Ended.is says in
    (none_left n _ left at.0, at.1)

pub returns-then-branch-clause-rises : goal.returns-then-branch-clause-rises
returns-then-branch-clause-rises c rise =
    rise_line _ _ _ rise (answered _ _ _ _ _ _ c.as_slice.ensures.value c.if-branch.true c.in_ok-take_line-in-Whole.ensures)

pub returns-then-branch-2-clause-rises : goal.returns-then-branch-2-clause-rises
returns-then-branch-2-clause-rises c rise =
    rise_line _ _ _ rise (answered _ _ _ _ _ _ c.as_slice-in-Last.ensures.value c.if-branch-2.true c.in_ok-take_line-in-Last.ensures)

pub returns-then-branch-clause-takes : goal.returns-then-branch-clause-takes
returns-then-branch-clause-takes c =
    (c.in-Whole.line, c.in-Whole.is, answered _ _ _ _ _ _ c.as_slice.ensures.value c.if-branch.true c.in_ok-take_line-in-Whole.ensures)
