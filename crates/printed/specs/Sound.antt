-- What anyone reads in a text, and a text that an audit finds sound.
use Rattle.std.specs.Prelude.{◌≡◌, ℕ, List, map}
use Rattle.fab_base.specs.Layouts.{Layout, group_of}
use Rattle.lines.specs.Lines.{raw_lines, content}
use Rattle.protocol.specs.Worlds.{World}
use Rattle.protocol.specs.Happenings.{happenings_of}
use Rattle.transcript.specs.declared.claims.Counts.{Counts}
use Rattle.transcript.specs.declared.readings.Text.TheVariants.{Whole}
use Rattle.transcript.specs.Marks.{marks_of}
use Rattle.transcript.specs.Said.{Transcribed}
use Rattle.transcript.specs.Transcripts.{text_of}
use Rattle.audit.specs.declared.findings.Finding.TheVariants.{Sound}
use Rattle.audit.specs.declared.examining.AuditResult.TheVariants.{Judged}
use Rattle.audit.specs.Checks.{HasStripe, happenings_said}
use Rattle.audit.specs.Examining.{Examines}

-- A text reads back as a world: it is whole, the marks that it says are those of the world, and so are the happenings that it says of each
-- stripe of the layout.
pub record ReadsBack (layout : Layout) (text : List ℕ) (world : World) : Type 0 where
  pub said : Transcribed
  pub counts : Counts
  pub whole : text_of (map content (raw_lines text)) ≡ Whole said counts
  pub marks_are : marks_of said.claims ≡ world.marks
  pub happenings_are : (g s : ℕ) → HasStripe (group_of layout g) s → happenings_said said.stripes g s ≡ happenings_of world g s

-- Its lines have the forms of a whole text, in their order and within its limits; and under the layout its marks hold, the happenings
-- that it says of each stripe are strict for these marks, and its counts are theirs.
abbrev pub IsSoundText : Layout → List ℕ → Type 0
IsSoundText layout text = Examines layout (text_of (map content (raw_lines text))) (Judged Sound)
