-- The line was run, and the text is what it prints.
use Rattle.std.proofs.Common.{length, sym, ap, ◌∙◌, subst}
use Rattle.std.proofs.lemmas.Option.{same_Some}
use Rattle.layout.specs.Limits.{IsLayout}
use Rattle.lines.specs.declared.forms.Line.{Line}
use Rattle.world.specs.Runs.{Run, world_of}
use Rattle.world.specs.Steps.{LeavesAside}
use Rattle.world.specs.Disks.{ShowsDisks}
use Rattle.world.proofs.Asides.{aside_left}
use Rattle.world.proofs.CalmEnds.{lone_scrubs_end}
use Rattle.world.proofs.RunLemmas.{rest_is, text_is, disks_shown}
use Rattle.world.proofs.worlds.World.step.Goals as goal

pub returns-clause-ok : goal.returns-clause-ok
returns-clause-ok c =
    let ran = c.in_ok-outcome.ensures.ok in
    record {
      line = c.in-Some.line;
      is_line = sym c.in_ok-line.ensures ∙ c.in-Some.is;
      step = ran.step;
      runs = ran.runs;
      text_is = text_is c.args.self.now c.run.new.self c.in-Some.line ran.step c.in_ok-outcome.outcome _ _ c.in_ok-print.field-0 ran.runs ran.prints
          (rest_is c.deref.result.now (world_of c.run.new.self).marks (world_of c.args.self.now).marks c.len-marks.result
          (c.deref.ensures.value ∙ c.self-2.invariant.shows.history.marks ∙ ap (λ (r : Run). (world_of r).marks) c.self-2.view_is)
          (c.len-marks.ensures ∙ c.self.inside.simulation.history.marks.ok.0
          ∙ ap length (c.self.invariant.shows.history.marks ∙ ap (λ (r : Run). (world_of r).marks) c.self.view_is)))
          (rest_is c.deref-2.result.now (world_of c.run.new.self).choices.reports (world_of c.args.self.now).choices.reports c.len-reports.result
          (c.deref-2.ensures.value ∙ c.self-2.invariant.shows.history.reports ∙ ap (λ (r : Run). (world_of r).choices.reports) c.self-2.view_is)
          (c.len-reports.ensures ∙ c.self.inside.simulation.history.reports.ok.0
          ∙ ap length (c.self.invariant.shows.history.reports ∙ ap (λ (r : Run). (world_of r).choices.reports) c.self.view_is)))
          c.in_ok-print.ensures;
    }

-- the line is the one that the content says
pub returns-clause-aside : goal.returns-clause-aside
returns-clause-aside c = λ line is_line.
    subst (λ (l : Line). LeavesAside c.args.self.now c.run.new.self l) (same_Some c.in-Some.line line (sym (sym c.in_ok-line.ensures ∙ c.in-Some.is) ∙ is_line))
    (aside_left c.args.self.now c.run.new.self c.in-Some.line c.in_ok-outcome.ensures.ok.step
    (subst (λ (r : Run). IsLayout r.layout) c.self.view_is c.bricks.ensures.limits) c.in_ok-outcome.ensures.ok.runs)

-- the layout is the one that it was
pub returns-clause-scrubs : goal.returns-clause-scrubs
returns-clause-scrubs c =
    lone_scrubs_end c.run.new.self
    (subst IsLayout (ap (λ (r : Run). r.layout) (c.self.view_is) ∙ sym (ap (λ (r : Run). r.layout) c.in_ok-outcome.ensures.ok.runs.run))
    c.bricks.ensures.limits)

-- what is not changed shows what it showed
pub returns-in_err-line-clause-disks : goal.returns-in_err-line-clause-disks
returns-in_err-line-clause-disks c =
    subst ShowsDisks c.self.view_is
    (disks_shown c.self.inside.layout c.self.inside.simulation c.self.inside.simulation.trail.course.steps c.self.invariant.shows)

pub returns-in-None-clause-disks : goal.returns-in-None-clause-disks
returns-in-None-clause-disks c =
    subst ShowsDisks c.self.view_is
    (disks_shown c.self.inside.layout c.self.inside.simulation c.self.inside.simulation.trail.course.steps c.self.invariant.shows)
