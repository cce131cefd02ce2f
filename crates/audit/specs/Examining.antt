-- What an audit finds of the lines of a text.
use Rattle.std.specs.Prelude.{◌≡◌, ℕ, List, map, ⊤, Option, Some, None}
use Rattle.std.specs.Io.KnownBytes.{IsAtEnd}
use Rattle.lines.specs.Lines.{raw_lines, content}
use Rattle.fab_base.specs.Layouts.{Layout}
use Rattle.transcript.specs.declared.readings.Text.{Text}
use Rattle.transcript.specs.declared.readings.Text.TheVariants.{Whole, BadLine, TooManyLines}
use Rattle.transcript.specs.Marks.{marks_of}
use Rattle.transcript.specs.Transcripts.{text_of}
use Rattle.audit.specs.declared.examining.AuditResult.{AuditResult}
use Rattle.audit.specs.declared.examining.AuditResult.TheVariants.{Judged, BadForm, TooMany}
use Rattle.audit.specs.Checks.{Finds}

-- Whether this is found of a text: the forms, order and limits of its lines come first, and then what they say.
abbrev pub Examines : Layout → Text → AuditResult → Type 0
Examines layout (Whole said counts) (Judged finding) = Finds layout (marks_of said.claims) said.stripes counts finding
Examines layout (Whole said counts) (BadForm line) = ⊥
Examines layout (Whole said counts) TooMany = ⊥
Examines layout (BadLine n) (Judged finding) = ⊥
Examines layout (BadLine n) (BadForm line) = line ≡ n
Examines layout (BadLine n) TooMany = ⊥
Examines layout TooManyLines (Judged finding) = ⊥
Examines layout TooManyLines (BadForm line) = ⊥
Examines layout TooManyLines TooMany = ⊤

-- the same of what is left of a source, where that tells its bytes
abbrev pub ExaminesLeft : Layout → Option (List ℕ) → AuditResult → Type 0
ExaminesLeft layout None verdict = ⊤
ExaminesLeft layout (Some bytes) verdict = Examines layout (text_of (map content (raw_lines bytes))) verdict

-- a whole text was read to the end
abbrev pub EndsJudged : AuditResult → Option (List ℕ) → Type 0
EndsJudged (Judged finding) left = IsAtEnd left
EndsJudged (BadForm line) left = ⊤
EndsJudged TooMany left = ⊤
