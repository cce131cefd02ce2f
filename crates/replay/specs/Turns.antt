-- What a part of a run printed, of the output that it had to print.
use Rattle.std.specs.Prelude.{◌≡◌, ℕ, ◌+◌, ◌≤◌, ◌⊎◌, Bool, true, false, List, [], ◌∷◌, ◌++◌, length, ⊤, map, Option, Some, None, Result, Ok, Err}
use Rattle.std.specs.Io.KnownBytes.{Appends, Keeps, IsAtEnd}
use Rattle.fab_io.specs.Ends.{AppendsFront}
use Rattle.lines.specs.Grammar.{line_of}
use Rattle.lines.specs.Lines.{raw_lines, content}
use Rattle.lines.specs.Reading.{Says, ReadsSchedule}
use Rattle.lines.specs.declared.reader.NextLine.{NextLine}
use Rattle.lines.specs.declared.reader.NextLine.TheVariants.{Whole, Last, Long, Ended}
use Rattle.fab_base.specs.Layouts.{Layout}
use Rattle.layout.specs.Texts.{layout_of}
use Rattle.stripe_code.specs.Codes.{coding}
use Rattle.world.specs.Runs.{Run, Step, world_of}
use Rattle.world.specs.Steps.{Runs}
use Rattle.world.specs.Texts.{step_text}
use Rattle.replay.specs.declared.endings.RunResult.{RunResult}
use Rattle.replay.specs.declared.endings.RunResult.TheVariants as verdict
use Rattle.replay.specs.declared.endings.Halt.{Halt}
use Rattle.replay.specs.declared.heads.Head.{Head}
use Rattle.replay.specs.declared.heads.Head.TheVariants.{Text, Alone}
use Rattle.replay.specs.Inputs.{Input, Parted, TooLong, Endless, most_layout_bytes, IsInput}
use Rattle.printed.specs.Outputs.{most_lines, left_by, steps_text}
use Rattle.printed.specs.Spellings.{WorldReads}
use Rattle.replay.specs.Outputs.{Output, onto, output_behind, output_of}
use Rattle.printed.specs.LineSteps.{LeadsTo, AreLinesOfSteps}
use Rattle.replay.specs.LineSteps.{AreStepsIn}

-- the sink took the whole output, which ends so; or a run that was stopped gave it some of the output, from
-- its front
abbrev pub Prints : Option (List ℕ) → Option (List ℕ) → Output → Result RunResult Halt → Type 0
Prints old new output (Ok one) = (output.verdict ≡ Some one) × Appends old new output.text
Prints old new output (Err halt) = AppendsFront old new output.text

-- in a run of all lines of this input, by these steps, what the marks and the reports tell has a spelling
abbrev pub WorldReadsOf : Input → List Step → Type 0
WorldReadsOf input steps =
    (head : List ℕ) (schedule : List (List ℕ)) (layout : Layout) → input ≡ Parted head schedule → layout_of head ≡ Ok layout
    → WorldReads (left_by layout steps)

-- these are the lines of what is left of the source, where it tells that
abbrev pub AreLinesOf : Option (List ℕ) → List (List ℕ) → Type 0
AreLinesOf None contents = ⊤
AreLinesOf (Some bytes) contents = map content (raw_lines bytes) ≡ contents

-- A run that n lines have left took the steps of the first of the lines that are left, and printed their texts and what ends the
-- output behind them. Where it ran all, what its marks and reports tell has a spelling.
pub record PrintsRest (run : Run) (n : ℕ) (left old new : Option (List ℕ)) (result : Result RunResult Halt) : Type 0 where
  pub done : List (List ℕ)
  pub behind : List (List ℕ)
  pub are_lines : AreLinesOf left (done ++ behind)
  pub steps : List Step
  pub last : Run
  pub leads : LeadsTo run steps last
  pub lines : AreLinesOfSteps done steps
  pub within : n + length steps ≤ most_lines
  pub printed : Prints old new (onto (steps_text (coding run.layout) (world_of run) steps)
      (output_behind run.layout (world_of last) (n + length steps) behind)) result
  pub told : result ≡ Ok verdict.Whole → WorldReads (world_of last)

-- a line was run and printed
pub record LineRuns (before after : Run) (content : List ℕ) (old new : Option (List ℕ)) : Type 0 where
  pub step : Step
  pub is_line : line_of content ≡ Some step.line
  pub runs : Runs before after step.line step
  pub printed : Appends old new (step_text (coding before.layout) (world_of before) step)

-- a line was run, and some of its text printed, from the front
pub record LineBegins (before after : Run) (content : List ℕ) (old new : Option (List ℕ)) : Type 0 where
  pub step : Step
  pub is_line : line_of content ≡ Some step.line
  pub runs : Runs before after step.line step
  pub printed : AppendsFront old new (step_text (coding before.layout) (world_of before) step)

-- a line was run and printed; or it is no line; or a run was stopped at it, before it printed anything or within the line's text
abbrev pub LineMeans : Run → Run → List ℕ → Option (List ℕ) → Option (List ℕ) → Result Bool Halt → Type 0
LineMeans before after content old new (Ok true) = LineRuns before after content old new
LineMeans before after content old new (Ok false) = (line_of content ≡ None) × (after ≡ before) × Keeps old new
LineMeans before after content old new (Err halt) = Keeps old new ⊎ LineBegins before after content old new

-- a run printed the output of this line and any lines behind it
abbrev pub PrintsLine : Run → ℕ → List ℕ → Option (List ℕ) → Option (List ℕ) → Result RunResult Halt → Type 0
PrintsLine run n content old new result =
    (left : Option (List ℕ)) (rest : List (List ℕ)) → AreLinesOf left (content ∷ rest) → PrintsRest run n left old new result

-- a line was run and printed; or the run ended at it, or was stopped, and printed the output of it and any lines behind it
abbrev pub LineTurnMeans : Run → Run → ℕ → List ℕ → Option (List ℕ) → Option (List ℕ) → Result (Option RunResult) Halt → Type 0
LineTurnMeans before after n content old new (Ok None) = LineRuns before after content old new
LineTurnMeans before after n content old new (Ok (Some one)) = PrintsLine before n content old new (Ok one)
LineTurnMeans before after n content old new (Err halt) = PrintsLine before n content old new (Err halt)

-- a run printed the output of what comes next, and of any lines that may be left behind it
abbrev pub PieceMeans : Run → ℕ → NextLine → Option (List ℕ) → Option (List ℕ) → Result RunResult Halt → Type 0
PieceMeans run n piece old new result = (left rest : Option (List ℕ)) → Says 70000 left rest piece → PrintsRest run n left old new result

-- a line was run, or the run ended
abbrev pub TurnMeans : Run → Run → ℕ → NextLine → Option (List ℕ) → Option (List ℕ) → Result (Option RunResult) Halt → Type 0
TurnMeans before after n piece old new (Ok None) =
    (line : List ℕ) × (piece ≡ Whole line) × LineRuns before after (content line) old new
TurnMeans before after n piece old new (Ok (Some one)) = PieceMeans before n piece old new (Ok one)
TurnMeans before after n piece old new (Err halt) = PieceMeans before n piece old new (Err halt)

-- nothing comes behind this
abbrev pub IsTheEnd : NextLine → Type 0
IsTheEnd (Whole line) = ⊥
IsTheEnd (Last line) = ⊤
IsTheEnd Long = ⊥
IsTheEnd Ended = ⊤

-- a run printed the output of this layout's text and the lines that are left behind it
pub record PrintsHeaded (head : List ℕ) (left old new : Option (List ℕ)) (result : Result RunResult Halt) : Type 0 where
  pub schedule : List (List ℕ)
  pub are_lines : AreLinesOf left schedule
  pub steps : List Step
  pub steps_are : AreStepsIn (Parted head schedule) steps result
  pub printed : Prints old new (output_of steps (Parted head schedule)) result
  pub told : result ≡ Ok verdict.Whole → WorldReadsOf (Parted head schedule) steps

-- What was read before the schedule of an input: a text within the limit, and the line that ends it; or what
-- else the input is.
abbrev pub HeadMeans : Option (List ℕ) → Option (List ℕ) → Head → Type 0
HeadMeans start now (Text text) = (length text.items ≤ most_layout_bytes) × ReadsSchedule start now text.items []
HeadMeans start now (Alone text) = (length text.items ≤ most_layout_bytes) × ReadsSchedule start now text.items [] × IsAtEnd now
HeadMeans start now Head.TooLong = IsInput start TooLong
HeadMeans start now Head.Endless = IsInput start Endless

-- a run printed the output of an input
pub record PrintsInput (source old new : Option (List ℕ)) (result : Result RunResult Halt) : Type 0 where
  pub input : Input
  pub is_input : IsInput source input
  pub steps : List Step
  pub steps_are : AreStepsIn input steps result
  pub printed : Prints old new (output_of steps input) result
  pub told : result ≡ Ok verdict.Whole → WorldReadsOf input steps
