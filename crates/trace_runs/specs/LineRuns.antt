-- What came of a line that was to be run.
use Rattle.std.specs.Prelude.{◌≡◌, ℕ, List, Option, Some, None}
use Rattle.lines.specs.Grammar.{line_of}
use Rattle.world.specs.Runs.{Run}
use Rattle.world.specs.Steps.{Ran}
use Rattle.trace_runs.specs.declared.line_runs.LineRun.{LineRun}

-- a line was run, and this is what `replay` prints for it; or it is no line
abbrev pub StepsTo : Run → Run → List ℕ → Option (List ℕ) → Type 0
StepsTo before after content None = line_of content ≡ None
StepsTo before after content (Some text) = Ran before after content text

-- a line was run, with what it did; or it is no line
abbrev pub IsLineRun : Run → Run → List ℕ → Option LineRun → Type 0
IsLineRun before after content None = line_of content ≡ None
IsLineRun before after content (Some run) = Ran before after content run.printed
