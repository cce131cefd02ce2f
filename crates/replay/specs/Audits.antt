-- What the program `replay` promises for the word `audit`: what is found of a text, what is printed of it, and how that ends.
use Rattle.std.specs.Prelude.{◌≡◌, ℕ, ◌⊎◌, List, [], ◌++◌, map, ⊤, codes, Option, Some, None, Result, Ok, Err}
use Rattle.std.specs.Fmt.{decimal}
use Rattle.std.specs.Io.KnownBytes.{Appends, Keeps}
use Rattle.fab_io.specs.Ends.{AppendsFront}
use Rattle.lines.specs.Lines.{raw_lines, content}
use Rattle.lines.specs.Reading.{IsBegun}
use Rattle.fab_base.specs.Layouts.{Layout}
use Rattle.layout.specs.Names.{fault_text}
use Rattle.layout.specs.Texts.{layout_of}
use Rattle.transcript.specs.Forms.{most_line_bytes}
use Rattle.transcript.specs.Readings.{LeadsOn}
use Rattle.audit.specs.declared.findings.Finding.TheVariants.{Sound, BadMarks, BadStripe, BadCount}
use Rattle.audit.specs.declared.examining.AuditResult.{AuditResult}
use Rattle.audit.specs.declared.examining.AuditResult.TheVariants.{Judged, BadForm, TooMany}
use Rattle.audit.specs.Examining.{EndsJudged}
use Rattle.fab_base.specs.Texts.{newline}
use Rattle.replay.specs.declared.endings.RunResult.{RunResult}
use Rattle.replay.specs.declared.endings.RunResult.TheVariants.{Whole, BadLayout, BadLine, TooManyLines, Refuted}
use Rattle.replay.specs.declared.endings.Halt.{Halt}
use Rattle.replay.specs.declared.endings.Halt.TheVariants.{Source, Sink, Memory}
use Rattle.replay.specs.declared.audits.Audited.{Audited}
use Rattle.replay.specs.declared.audits.Audited.TheVariants.{NoLayout, LongLayout, NoEnd, Examined}
use Rattle.replay.specs.Inputs.{input_of}
use Rattle.replay.specs.Outputs.{bad_layout, bad_line, too_many_lines}
use Rattle.replay.specs.AuditFindings.{AuditsWith, FindsAlone}
use Rattle.replay.specs.Replays.{status_of, ReadsAsNeeded, FailedSource}

-- what is printed of a text behind a layout
abbrev pub text_of_verdict : AuditResult → List ℕ
text_of_verdict (Judged Sound) = codes "audit ok" ++ newline
text_of_verdict (Judged BadMarks) = codes "audit bad marks" ++ newline
text_of_verdict (Judged (BadStripe g s)) = codes "audit bad " ++ (decimal g ++ (codes " " ++ (decimal s ++ newline)))
text_of_verdict (Judged BadCount) = codes "audit bad count" ++ newline
text_of_verdict (BadForm line) = (bad_line line).text
text_of_verdict TooMany = too_many_lines.text

-- how that ends the audit
abbrev pub end_of_verdict : AuditResult → RunResult
end_of_verdict (Judged Sound) = Whole
end_of_verdict (Judged BadMarks) = Refuted
end_of_verdict (Judged (BadStripe g s)) = Refuted
end_of_verdict (Judged BadCount) = Refuted
end_of_verdict (BadForm line) = BadLine line
end_of_verdict TooMany = TooManyLines

-- the same of an input: it has no layout, and this is why, or the text behind its layout was examined
abbrev pub audited_text : Audited → List ℕ
audited_text (NoLayout fault) = (bad_layout (fault_text fault)).text
audited_text LongLayout = (bad_layout (codes "limit layout")).text
audited_text NoEnd = (bad_layout (codes "end")).text
audited_text (Examined found) = text_of_verdict found

abbrev pub audited_end : Audited → RunResult
audited_end (NoLayout fault) = BadLayout
audited_end LongLayout = BadLayout
audited_end NoEnd = BadLayout
audited_end (Examined found) = end_of_verdict found

-- the same of what a source tells of its bytes
abbrev pub FindsTold : Option (List ℕ) → Audited → Type 0
FindsTold None audited = ⊤
FindsTold (Some bytes) audited = FindsAlone (input_of bytes) audited

-- a text whose lines all have the forms was read to its end
abbrev pub EndsAudited : Audited → Option (List ℕ) → Type 0
EndsAudited (NoLayout fault) left = ⊤
EndsAudited LongLayout left = ⊤
EndsAudited NoEnd left = ⊤
EndsAudited (Examined found) left = EndsJudged found left

-- what an audit found of a layout's text and of what was left of a source behind it, and left of that
abbrev pub FindsLeft : List ℕ → Option (List ℕ) → Audited → Type 0
FindsLeft head None audited = ⊤
FindsLeft head (Some bytes) audited = AuditsWith (layout_of head) (map content (raw_lines bytes)) audited

abbrev pub FindsBehind : List ℕ → Option (List ℕ) → Option (List ℕ) → Audited → Type 0
FindsBehind head left left_after audited = FindsLeft head left audited × EndsAudited audited left_after

-- what an audit found of a source, and left of it
abbrev pub FindsIn : Option (List ℕ) → Option (List ℕ) → Audited → Type 0
FindsIn source source_after audited = FindsTold source audited × EndsAudited audited source_after

-- The sink took the one text of what was found, and the audit ends so; or it was stopped from outside, and the sink took nothing, or
-- failed at that text and took some of it, from its front.
abbrev pub AuditPrints : (Audited → Type 0) → Option (List ℕ) → Option (List ℕ) → Result RunResult Halt → Type 0
AuditPrints finds old new (Ok one) = (audited : Audited) × finds audited × (one ≡ audited_end audited) × Appends old new (audited_text audited)
AuditPrints finds old new (Err Source) = Keeps old new
AuditPrints finds old new (Err Sink) = (audited : Audited) × finds audited × AppendsFront old new (audited_text audited)
AuditPrints finds old new (Err Memory) = Keeps old new

-- An audit goes on behind this layout's text and these lines, and the line that was begun: it is a layout, and the lines lead on. It has
-- printed nothing.
abbrev pub AuditGoesOn : List ℕ → List (List ℕ) → List ℕ → List ℕ → Type 0
AuditGoesOn head lines begun text =
    IsBegun most_line_bytes begun × ((layout : Layout) × (layout_of head ≡ Ok layout)) × LeadsOn lines × (text ≡ [])

-- An audit. There is an end, of which the status tells. The sink took the one text of what was found, and nothing before it. What was
-- found is what the input alone calls for, where the source tells its bytes: 0 exactly where its text has the forms, order and limits,
-- and its marks, happenings and counts hold under its layout. The source was read no further than it took, and where it failed nothing
-- was printed.
pub record AuditEnds (source source_after : Option (List ℕ)) (came : ℕ) (sink sink_after : Option (List ℕ)) (status : ℕ) : Type 0 where
  pub ending : Result RunResult Halt
  pub status_is : status ≡ status_of ending
  pub printed : AuditPrints (FindsIn source source_after) sink sink_after ending
  pub reads_as_needed : ReadsAsNeeded AuditGoesOn source source_after came
  pub failed_source : ending ≡ Err Source → FailedSource AuditGoesOn source source_after sink sink_after

-- the status is the one that the input alone calls for, or memory was lacking
abbrev pub IsAuditDecided : Option (List ℕ) → ℕ → Type 0
IsAuditDecided None status = ⊤
IsAuditDecided (Some bytes) status =
    ((audited : Audited) × FindsAlone (input_of bytes) audited × (status ≡ status_of (Ok (audited_end audited)))) ⊎ (status ≡ 7)
