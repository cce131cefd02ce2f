-- What the lines of a text say together.
use Rattle.std.specs.Prelude.{List, Option}
use Rattle.transcript.specs.declared.claims.ParsedMark.{ParsedMark}
use Rattle.transcript.specs.declared.claims.Counts.{Counts}
use Rattle.transcript.specs.declared.claims.StripeLine.{StripeLine}

-- the marks, the happenings of stripes, and the counts, where they stand already
pub record Transcribed : Type 0 where
  pub claims : List ParsedMark
  pub stripes : List StripeLine
  pub counts : Option Counts
