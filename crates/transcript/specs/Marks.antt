-- The marks and the counts of a text, as marks of a run.
use Rattle.std.specs.Prelude.{List, map}
use Rattle.lines.specs.declared.forms.Access.{Access}
use Rattle.lines.specs.declared.forms.Access.TheVariants.{ReadBlock, WriteBlock, ReadStripe, WriteStripe}
use Rattle.fab_base.specs.declared.asks.Op.{Op}
use Rattle.fab_base.specs.declared.answers.Answer.{Answer}
use Rattle.fab_base.specs.declared.answers.Cause.{Cause}
use Rattle.reg_model.specs.declared.marks.Mark.{Mark}
use Rattle.transcript.specs.declared.claims.ParsedMark.{ParsedMark}
use Rattle.transcript.specs.declared.claims.ParsedMark.TheVariants.{Begin, End, Crash}
use Rattle.transcript.specs.declared.claims.ParsedAnswer.{ParsedAnswer}
use Rattle.transcript.specs.declared.claims.ParsedAnswer.TheVariants.{Data, Done, Aborted}
use Rattle.transcript.specs.declared.claims.ParsedCause.{ParsedCause}
use Rattle.transcript.specs.declared.claims.ParsedCause.TheVariants.{Later, Gone, Full, Moved}

-- what is asked
abbrev pub op_of : Access → Op
op_of (ReadBlock j) = Op.ReadBlock j
op_of (WriteBlock j bytes) = Op.WriteBlock j bytes
op_of ReadStripe = Op.ReadStripe
op_of (WriteStripe bytes) = Op.WriteStripe bytes

-- why an operation was aborted
abbrev pub cause_of : ParsedCause → Cause
cause_of (Later b stamp) =
    Cause.Later (record { 0 = b })
    (record { view = record { 0 = stamp.view }; time = stamp.time; brick = record { 0 = stamp.brick }; boot = stamp.boot })
cause_of (Gone b) = Cause.Gone (record { 0 = b })
cause_of (Full b live) = Cause.Full (record { 0 = b }) live
cause_of (Moved b view) = Cause.Moved (record { 0 = b }) (record { 0 = view })

-- an answer
abbrev pub answer_of : ParsedAnswer → Answer
answer_of (Data bytes) = Answer.Data bytes
answer_of Done = Answer.Done
answer_of (Aborted reason) = Answer.Aborted (cause_of reason)

-- a mark
abbrev pub mark_of : ParsedMark → Mark
mark_of (Begin p n b g s access) =
    Mark.Begin p n (record { 0 = b }) (record { group = record { 0 = g }; stripe = record { 0 = s }; op = op_of access })
mark_of (End p n outcome) = Mark.End p n (answer_of outcome)
mark_of (Crash p b) = Mark.Crash p (record { 0 = b })

-- the marks of a text
abbrev pub marks_of : List ParsedMark → List Mark
marks_of claims = map mark_of claims
