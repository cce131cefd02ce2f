-- Steps that are those of the first lines of an input.
use Rattle.std.specs.Prelude.{◌≡◌, ℕ, ◌≤◌, ◌⊎◌, List, [], ◌++◌, length, Result, Ok}
use Rattle.fab_base.specs.Layouts.{Layout}
use Rattle.layout.specs.Texts.{layout_of}
use Rattle.world.specs.Runs.{Step}
use Rattle.replay.specs.declared.endings.RunResult.{RunResult}
use Rattle.replay.specs.declared.endings.RunResult.TheVariants.{Whole}
use Rattle.replay.specs.declared.endings.Halt.{Halt}
use Rattle.printed.specs.LineSteps.{AreStepsOf}
use Rattle.replay.specs.Inputs.{Input, Parted}
use Rattle.printed.specs.Outputs.{most_lines}

-- these are steps of the first lines of an input's schedule, over its layout
pub record BeginsWith (input : Input) (layout : Layout) (steps : List Step) : Type 0 where
  pub head : List ℕ
  pub schedule : List (List ℕ)
  pub rest : List (List ℕ)
  pub input_is : input ≡ Parted head (schedule ++ rest)
  pub layout_is : layout_of head ≡ Ok layout
  pub steps_are : AreStepsOf layout schedule steps

-- The steps are those of the first lines of the input, over its layout, and no more than there may be; or there is none, and not
-- all was run.
abbrev pub AreStepsIn : Input → List Step → Result RunResult Halt → Type 0
AreStepsIn input steps ending =
    ((layout : Layout) × BeginsWith input layout steps × (length steps ≤ most_lines)) ⊎ ((steps ≡ []) × (ending ≡ Ok Whole → ⊥))
