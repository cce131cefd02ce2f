-- How an input ends a run, by what was read of it and what is left.
use Rattle.std.specs.Prelude.{◌≡◌, ℕ, ◌+◌, List, map, ⊤, Option, Some, None, Result, Ok, Err}
use Rattle.lines.specs.Lines.{raw_lines, content}
use Rattle.replay.specs.declared.endings.RunResult.{RunResult}
use Rattle.replay.specs.declared.endings.Halt.{Halt}
use Rattle.replay.specs.Inputs.{input_of}
use Rattle.replay.specs.Outputs.{verdict_of, verdict_behind}

-- an input ends a run so, where the source tells its bytes
abbrev pub CallsFor : Option (List ℕ) → RunResult → Type 0
CallsFor None verdict = ⊤
CallsFor (Some bytes) verdict = verdict_of (input_of bytes) ≡ verdict

-- so do the lines behind the first n
abbrev pub CallsBehind : ℕ → Option (List ℕ) → RunResult → Type 0
CallsBehind n None verdict = ⊤
CallsBehind n (Some bytes) verdict = verdict_behind n (map content (raw_lines bytes)) ≡ verdict

-- a run that nothing stopped ended as its input calls for
abbrev pub EndsAsCalled : Option (List ℕ) → Result RunResult Halt → Type 0
EndsAsCalled source (Ok verdict) = CallsFor source verdict
EndsAsCalled source (Err halt) = ⊤

-- an input ends a run as the lines behind the first n do
abbrev pub IsLeftTo : Option (List ℕ) → ℕ → Option (List ℕ) → Type 0
IsLeftTo source n left = (verdict : RunResult) → CallsBehind n left verdict → CallsFor source verdict

-- the lines behind the first n end a run as those behind one more do
abbrev pub PassesOne : ℕ → Option (List ℕ) → Option (List ℕ) → Type 0
PassesOne n before now = (verdict : RunResult) → CallsBehind (n + 1) now verdict → CallsBehind n before verdict
