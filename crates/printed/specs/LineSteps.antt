-- Steps that are those of lines, one after another.
use Rattle.std.specs.Prelude.{◌≡◌, ℕ, List, [], ◌∷◌, map, Some}
use Rattle.lines.specs.Grammar.{line_of}
use Rattle.fab_base.specs.Layouts.{Layout}
use Rattle.world.specs.Runs.{Run, Step}
use Rattle.world.specs.Steps.{Runs}
use Rattle.world.specs.Disks.{ShowsDisks, HasFreshDisks}

-- these steps were taken, one after another, from this run to the last
abbrev pub LeadsTo : Run → List Step → Run → Type 0
LeadsTo r [] last = last ≡ r
LeadsTo r (step ∷ steps) last = (next : Run) × Runs r next step.line step × LeadsTo next steps last

-- the lines are those of these steps
abbrev pub AreLinesOfSteps : List (List ℕ) → List Step → Type 0
AreLinesOfSteps contents steps = map line_of contents ≡ map (λ step. Some step.line) steps

-- each disk keeps what its brick keeps, and its list is as long as a first opening leaves it
abbrev pub StartsFresh : Run → Type 0
StartsFresh first = ShowsDisks first × HasFreshDisks first

-- these are the steps of all lines of a schedule over this layout, from a first run whose disks are fresh
pub record AreStepsOf (layout : Layout) (schedule : List (List ℕ)) (steps : List Step) : Type 0 where
  pub lines : AreLinesOfSteps schedule steps
  pub first : Run
  pub last : Run
  pub first_is : first ≡ record { layout = layout; steps = []; disks = first.disks }
  pub fresh : StartsFresh first
  pub leads : LeadsTo first steps last
