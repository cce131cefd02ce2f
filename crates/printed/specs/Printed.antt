-- The lines that a run prints, one by one, before those that close its output.
use Rattle.std.specs.Prelude.{◌≡◌, ℕ, List, [], ◌∷◌, ◌++◌}
use Rattle.fab_base.specs.declared.answers.Refusal.{Refusal}
use Rattle.fab_base.specs.declared.identities.BrickId.{BrickId}
use Rattle.fab_base.specs.Layouts.{Layout}
use Rattle.reg_model.specs.declared.marks.Mark.{Mark}
use Rattle.protocol.specs.declared.tellings.Report.{Report}
use Rattle.protocol.specs.Worlds.{first_world}
use Rattle.stripe_code.specs.Codes.{coding}
use Rattle.world.specs.Runs.{Step}
use Rattle.fab_base.specs.Texts.{refusal_text}
use Rattle.world.specs.Texts.{mark_text, report_text, idle_text}
use Rattle.printed.specs.Outputs.{left_by, steps_text}

-- a printed line: a mark, or what a brick reported, or why an operation or a proposal was not begun, or that a line of the schedule found nothing to do
pub data Printed : Type 0 where
  OfMark : (mark : Mark) → Printed
  OfReport : (told : BrickId × Report) → Printed
  OfRefusal : (refusal : Refusal) → Printed
  OfNothing : Printed

-- the text of a printed line
abbrev pub printed_text : Printed → List ℕ
printed_text (OfMark mark) = mark_text mark
printed_text (OfReport told) = report_text told.1
printed_text (OfRefusal refusal) = refusal_text refusal
printed_text OfNothing = idle_text

-- the text of printed lines, in order
abbrev pub printed_texts : List Printed → List ℕ
printed_texts [] = []
printed_texts (line ∷ printed) = printed_text line ++ printed_texts printed

-- the marks that a printed line is
abbrev pub marks_in : Printed → List Mark
marks_in (OfMark mark) = mark ∷ []
marks_in (OfReport told) = []
marks_in (OfRefusal refusal) = []
marks_in OfNothing = []

-- the marks among printed lines, in order
abbrev pub printed_marks : List Printed → List Mark
printed_marks [] = []
printed_marks (line ∷ printed) = marks_in line ++ printed_marks printed

-- the reports that a printed line is, with the bricks that reported them
abbrev pub reports_in : Printed → List (BrickId × Report)
reports_in (OfMark mark) = []
reports_in (OfReport told) = told ∷ []
reports_in (OfRefusal refusal) = []
reports_in OfNothing = []

-- the reports among printed lines, in order
abbrev pub printed_reports : List Printed → List (BrickId × Report)
printed_reports [] = []
printed_reports (line ∷ printed) = reports_in line ++ printed_reports printed

-- The text of steps over the disk of a layout is that of printed lines, each a mark, a report, a refusal or `idle`. The marks among them are, in
-- order, those of the world that the steps leave, and so are the reports.
pub record ArePrinted (layout : Layout) (steps : List Step) : Type 0 where
  pub printed : List Printed
  pub text_is : steps_text (coding layout) (first_world layout) steps ≡ printed_texts printed
  pub marks_are : printed_marks printed ≡ (left_by layout steps).marks
  pub reports_are : printed_reports printed ≡ (left_by layout steps).choices.reports
