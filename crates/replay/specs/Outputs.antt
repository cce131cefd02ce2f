-- What is printed for an input: the texts of its lines, and what closes them; or why it has no layout, or
-- where it is no schedule.
use Rattle.std.specs.Prelude.{ℕ, ◌+◌, Bool, true, false, nat_lt, List, [], ◌∷◌, ◌++◌, length, drop, codes, Option, Some, None, Result, Ok, Err}
use Rattle.std.specs.Fmt.{decimal}
use Rattle.lines.specs.declared.forms.Line.{Line}
use Rattle.lines.specs.Grammar.{line_of}
use Rattle.fab_base.specs.Layouts.{Layout}
use Rattle.protocol.specs.Worlds.{World, first_world}
use Rattle.stripe_code.specs.Codes.{coding}
use Rattle.layout.specs.declared.faults.LayoutFault.{LayoutFault}
use Rattle.layout.specs.Names.{fault_text}
use Rattle.layout.specs.Texts.{layout_of}
use Rattle.world.specs.Runs.{Step}
use Rattle.replay.specs.declared.endings.RunResult.{RunResult}
use Rattle.replay.specs.declared.endings.RunResult.TheVariants.{Whole, BadLayout, BadLine, TooManyLines}
use Rattle.fab_base.specs.Texts.{newline}
use Rattle.printed.specs.Outputs.{most_lines, closing_text, left_by, steps_text}
use Rattle.replay.specs.Inputs.{Input, Parted, TooLong, Endless}

-- what is printed, and how the input ends that; not yet, where a next line is left to be run
pub record Output : Type 0 where
  pub text : List ℕ
  pub verdict : Option RunResult

-- a text before the rest of an output
abbrev pub onto : List ℕ → Output → Output
onto text output = record { text = text ++ output.text; verdict = output.verdict }

-- the output's end after this many lines
abbrev pub finished : Layout → World → ℕ → Output
finished layout w lines = record { text = closing_text layout w lines; verdict = Some Whole }

-- the output's end at a line that is no line
abbrev pub bad_line : ℕ → Output
bad_line n = record { text = codes "bad line " ++ (decimal n ++ newline); verdict = Some (BadLine n) }

-- the output's end at a line too many
abbrev pub too_many_lines : Output
too_many_lines = record { text = codes "too many lines" ++ newline; verdict = Some TooManyLines }

-- a line of the schedule that is numbered n + 1: too many, or no line, or one that is left to be run
abbrev pub output_line : ℕ → Bool → Option Line → Output
output_line n false line = too_many_lines
output_line n true None = bad_line (n + 1)
output_line n true (Some line) = record { text = []; verdict = None }

-- What is printed behind the texts of the first n lines, which left this world, where these lines stand behind them; each is given
-- without its line end.
unfoldable pub output_behind : Layout → World → ℕ → List (List ℕ) → Output
output_behind layout w n [] = finished layout w n
output_behind layout w n (content ∷ contents) = output_line n (nat_lt n most_lines) (line_of content)

-- the output of an input without a layout, and why it has none
abbrev pub bad_layout : List ℕ → Output
bad_layout why = record { text = codes "bad layout: " ++ (why ++ newline); verdict = Some BadLayout }

-- what is printed for a layout and a schedule where these steps were run: their texts, and what stands behind them
abbrev pub output_with : Result Layout LayoutFault → List Step → List (List ℕ) → Output
output_with (Err fault) steps schedule = bad_layout (fault_text fault)
output_with (Ok layout) steps schedule =
    onto (steps_text (coding layout) (first_world layout) steps)
    (output_behind layout (left_by layout steps) (length steps) (drop (length steps) schedule))

-- what is printed for an input, of whose schedule these steps were run
unfoldable pub output_of : List Step → Input → Output
output_of steps (Parted text schedule) = output_with (layout_of text) steps schedule
output_of steps TooLong = bad_layout (codes "limit layout")
output_of steps Endless = bad_layout (codes "end")

-- how a line of the schedule that is numbered n + 1 ends the input, or what stands behind it does
abbrev pub verdict_line : ℕ → Bool → Option Line → RunResult → RunResult
verdict_line n false line behind = TooManyLines
verdict_line n true None behind = BadLine (n + 1)
verdict_line n true (Some line) behind = behind

-- how the lines behind the first n end the input
unfoldable pub verdict_behind : ℕ → List (List ℕ) → RunResult
verdict_behind n [] = Whole
verdict_behind n (content ∷ contents) = verdict_line n (nat_lt n most_lines) (line_of content) (verdict_behind (n + 1) contents)

-- how a layout and a schedule end
abbrev pub verdict_with : Result Layout LayoutFault → List (List ℕ) → RunResult
verdict_with (Err fault) schedule = BadLayout
verdict_with (Ok layout) schedule = verdict_behind 0 schedule

-- how an input ends a run that nothing stops from outside
unfoldable pub verdict_of : Input → RunResult
verdict_of (Parted text schedule) = verdict_with (layout_of text) schedule
verdict_of TooLong = BadLayout
verdict_of Endless = BadLayout
