-- What a part of a made run leaves.
use Rattle.std.specs.Prelude.{◌≡◌, ℕ, List, [], ◌∷◌, length, map, Some}
use Rattle.lines.specs.Grammar.{line_of}
use Rattle.protocol.specs.Settings.{Setting}
use Rattle.protocol.specs.Worlds.{World, run}
use Rattle.stripe_code.specs.Codes.{coding}
use Rattle.rand_pcg.specs.Lcg.{Lcg}
use Rattle.made.specs.Draws.{seeded}
use Rattle.made.specs.Lines.{next_line}
use Rattle.made.specs.Spellings.{spelt}
use Rattle.world.specs.Runs.{Run, Step, world_of}
use Rattle.world.specs.Steps.{Runs}
use Rattle.printed.specs.LineSteps.{LeadsTo, AreLinesOfSteps}
use Rattle.replay.specs.MadeRuns.{drawn_lines}

-- the line that is drawn was run, and it reads back as it is spelt
pub record RunsDrawn (before after : Run) (random random_after : Lcg) : Type 0 where
  pub step : Step
  pub drawn : (step.line, random_after) ≡ next_line (length (world_of before).packets) random
  pub reads : line_of (spelt step.line) ≡ Some step.line
  pub runs : Runs before after step.line step

-- the generator after the lines of these steps were drawn
unfoldable pub left_of : Setting → World → Lcg → List Step → Lcg
left_of setting w random [] = random
left_of setting w random (step ∷ steps) = left_of setting (run setting step.events w) (next_line (length w.packets) random).1 steps

-- so many lines were drawn and run, from a run on
pub record HasDrawn (first last : Run) (random random_after : Lcg) (count : ℕ) : Type 0 where
  pub steps : List Step
  pub leads : LeadsTo first steps last
  pub count_is : length steps ≡ count
  pub lines_are : map (λ step. step.line) steps ≡ drawn_lines (coding first.layout) (world_of first) random steps
  pub read : AreLinesOfSteps (map spelt (map (λ step. step.line) steps)) steps
  pub left : random_after ≡ left_of (coding first.layout) (world_of first) random steps

-- the same, of the generator of a seed
abbrev pub DrawsAll : Run → Run → ℕ → ℕ → Type 0
DrawsAll first last seed count = (left : Lcg) × HasDrawn first last (seeded seed) left count
