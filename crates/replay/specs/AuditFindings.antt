-- What an audit finds of an input.
use Rattle.std.specs.Prelude.{◌≡◌, ℕ, List, Result, Ok, Err}
use Rattle.fab_base.specs.Layouts.{Layout}
use Rattle.layout.specs.declared.faults.LayoutFault.{LayoutFault}
use Rattle.layout.specs.Texts.{layout_of}
use Rattle.transcript.specs.Transcripts.{text_of}
use Rattle.audit.specs.declared.examining.AuditResult.{AuditResult}
use Rattle.audit.specs.Examining.{Examines}
use Rattle.replay.specs.declared.audits.Audited.{Audited}
use Rattle.replay.specs.declared.audits.Audited.TheVariants.{NoLayout, LongLayout, NoEnd, Examined}
use Rattle.replay.specs.Inputs.{Input, Parted, TooLong, Endless}

-- what an audit finds of the lines behind a layout's text: why that is no layout, or what is found of them under the layout
abbrev pub AuditsWith : Result Layout LayoutFault → List (List ℕ) → Audited → Type 0
AuditsWith (Err fault) lines audited = audited ≡ NoLayout fault
AuditsWith (Ok layout) lines audited = (found : AuditResult) × Examines layout (text_of lines) found × (audited ≡ Examined found)

-- what an audit finds of an input
abbrev pub Audits : Input → Audited → Type 0
Audits (Parted head lines) audited = AuditsWith (layout_of head) lines audited
Audits TooLong audited = audited ≡ LongLayout
Audits Endless audited = audited ≡ NoEnd

-- an audit finds this of an input, and nothing else
pub record FindsAlone (input : Input) (audited : Audited) : Type 0 where
  pub finds : Audits input audited
  pub alone : (other : Audited) → Audits input other → other ≡ audited
