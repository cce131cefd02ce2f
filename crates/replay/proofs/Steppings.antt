-- Steps that were taken one after another.
use Rattle.std.proofs.Common.{◌≡◌, ℕ, List, [], ◌∷◌, ◌++◌, map, Option, Some, refl, sym, ap, ◌∙◌, subst, append_assoc}
use Rattle.std.proofs.lemmas.List.{map-append}
use Rattle.lines.specs.Grammar.{line_of}
use Rattle.lines.specs.declared.forms.Line.{Line}
use Rattle.fab_base.specs.Layouts.{Layout}
use Rattle.stripe_code.specs.Codes.{coding}
use Rattle.protocol.specs.Settings.{Setting}
use Rattle.protocol.specs.Worlds.{World, run}
use Rattle.world.specs.Runs.{Run, Step, world_of, all_events}
use Rattle.world.specs.Steps.{Runs}
use Rattle.world.specs.Texts.{step_text}
use Rattle.protocol.proofs.Events.{run-append}
use Rattle.printed.proofs.PrintedMarks.{after_step}
use Rattle.printed.specs.Outputs.{steps_text}
use Rattle.printed.specs.LineSteps.{LeadsTo, AreLinesOfSteps}

-- the world that steps leave
abbrev pub after_steps : Setting → World → List Step → World
after_steps setting w [] = w
after_steps setting w (step ∷ steps) = after_steps setting (run setting step.events w) steps

pub after_steps-all : (setting : Setting) (w : World) (steps : List Step) → run setting (all_events steps) w ≡ after_steps setting w steps
after_steps-all setting w [] = refl
after_steps-all setting w (step ∷ steps) =
    run-append setting w step.events (all_events steps) ∙ after_steps-all setting (run setting step.events w) steps

-- a step keeps the layout
pub same_layout_step : (before after : Run) (line : Line) (step : Step) → Runs before after line step → after.layout ≡ before.layout
same_layout_step before after line step runs = ap (λ (r : Run). r.layout) runs.run

-- no step, one, one more, and more
pub leads_none : (r : Run) → LeadsTo r [] r
leads_none r = refl

pub leads_one : (before after : Run) (step : Step) → Runs before after step.line step → LeadsTo before (step ∷ []) after
leads_one before after step runs = (after, runs, refl)

pub leads_both : (first mid last : Run) (steps more : List Step) → LeadsTo first steps mid → LeadsTo mid more last → LeadsTo first (steps ++ more) last
leads_both first mid last [] more same then = subst (λ (r : Run). LeadsTo r more last) same then
leads_both first mid last (step ∷ steps) more leads then = (leads.0, leads.1, leads_both leads.0 mid last steps more leads.2 then)

-- the layout and the world that they leave
pub leads_layout : (first last : Run) (steps : List Step) → LeadsTo first steps last → last.layout ≡ first.layout
leads_layout first last [] same = ap (λ (r : Run). r.layout) same
leads_layout first last (step ∷ steps) leads =
    leads_layout leads.0 last steps leads.2 ∙ same_layout_step first leads.0 step.line step leads.1

pub leads_world : (first last : Run) (steps : List Step) → LeadsTo first steps last
    → world_of last ≡ after_steps (coding first.layout) (world_of first) steps
leads_world first last [] same = ap world_of same
leads_world first last (step ∷ steps) leads =
    let next : Run = leads.0 in
    leads_world next last steps leads.2
    ∙ ap (λ (layout : Layout). after_steps (coding layout) (world_of next) steps) (same_layout_step first next step.line step leads.1)
    ∙ ap (λ (w : World). after_steps (coding first.layout) w steps) (after_step first next step.line step leads.1)

-- the lines of steps, and of more
pub lines_both : (contents rest : List (List ℕ)) (steps more : List Step) → AreLinesOfSteps contents steps → AreLinesOfSteps rest more
    → AreLinesOfSteps (contents ++ rest) (steps ++ more)
lines_both contents rest steps more first then =
    map-append line_of contents rest ∙ ap (λ (l : List (Option Line)). l ++ map line_of rest) first
    ∙ ap (λ (l : List (Option Line)). map (λ (step : Step). Some step.line) steps ++ l) then
    ∙ sym (map-append (λ (step : Step). Some step.line) steps more)

-- the text of steps, and then of more
pub steps_text-append : (setting : Setting) (w : World) (steps more : List Step)
    → steps_text setting w (steps ++ more) ≡ steps_text setting w steps ++ steps_text setting (after_steps setting w steps) more
steps_text-append setting w [] more = refl
steps_text-append setting w (first ∷ steps) more =
    let v : World = run setting first.events w in
    let text : List ℕ = step_text setting w first in
    ap (λ (t : List ℕ). text ++ t) (steps_text-append setting v steps more)
    ∙ sym (append_assoc text (steps_text setting v steps) (steps_text setting (after_steps setting v steps) more))
