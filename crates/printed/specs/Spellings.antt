-- Numbers that have a spelling, the causes that marks tell, and what bricks report: a text of them reads back.
use Rattle.std.specs.Prelude.{ℕ, ◌<◌, ◌≤◌, ◌^◌, List, ⊤, length, Option, Some, None, IfSome}
use Rattle.std.specs.List.{All}
use Rattle.fab_base.specs.declared.answers.Answer.TheVariants.{Data, Done, Aborted}
use Rattle.fab_base.specs.declared.answers.Cause.{Cause}
use Rattle.fab_base.specs.declared.answers.Cause.TheVariants.{Later, Gone, Full, Moved}
use Rattle.fab_base.specs.declared.identities.BrickId.{BrickId}
use Rattle.fab_base.specs.declared.stamps.Ballot.{Ballot}
use Rattle.fab_base.specs.declared.stamps.Stamp.{Stamp}
use Rattle.protocol.specs.declared.tellings.ViewAnswer.{ViewAnswer}
use Rattle.protocol.specs.declared.tellings.ViewAnswer.TheVariants as ended
use Rattle.protocol.specs.declared.tellings.SyncAnswer.{SyncAnswer}
use Rattle.protocol.specs.declared.tellings.SyncAnswer.TheVariants as synced
use Rattle.protocol.specs.declared.tellings.ScrubAnswer.{ScrubAnswer}
use Rattle.protocol.specs.declared.tellings.ScrubAnswer.TheVariants as scrubbed
use Rattle.protocol.specs.declared.tellings.Report.{Report}
use Rattle.protocol.specs.declared.tellings.Report.TheVariants.{View, Sync, Scrub}
use Rattle.protocol.specs.Worlds.{World}
use Rattle.reg_model.specs.declared.marks.Mark.{Mark}
use Rattle.reg_model.specs.declared.marks.Mark.TheVariants.{Begin, End, Crash}

-- a number below 2^64
abbrev pub IsSmall : ℕ → Type 0
IsSmall n = n < 2 ^ 64

-- the numbers of a stamp
pub record StampReads (stamp : Stamp) : Type 0 where
  pub view : IsSmall stamp.view.0
  pub time : IsSmall stamp.time
  pub brick : IsSmall stamp.brick.0
  pub boot : IsSmall stamp.boot

-- those of why an operation was aborted
abbrev pub CauseReads : Cause → Type 0
CauseReads (Later brick stamp) = IsSmall brick.0 × StampReads stamp
CauseReads (Gone brick) = IsSmall brick.0
CauseReads (Full brick live) = IsSmall brick.0 × IsSmall live
CauseReads (Moved brick view) = IsSmall brick.0 × IsSmall view.0

-- why a mark says that its operation was aborted, if it says so
abbrev pub cause_told : Mark → Option Cause
cause_told (Begin p n b ask) = None
cause_told (End p n (Data bytes)) = None
cause_told (End p n Done) = None
cause_told (End p n (Aborted cause)) = Some cause
cause_told (Crash p b) = None

-- what a mark says of that has a spelling
abbrev pub ToldReads : Mark → Type 0
ToldReads mark = IfSome (cause_told mark) CauseReads

-- so has what each of these marks says
abbrev pub AllToldRead : List Mark → Type 0
AllToldRead marks = All ToldReads marks

-- the numbers of a ballot
pub record BallotReads (ballot : Ballot) : Type 0 where
  pub round : IsSmall ballot.round
  pub brick : IsSmall ballot.brick.0
  pub boot : IsSmall ballot.boot

-- those of bricks
abbrev pub BricksRead : List BrickId → Type 0
BricksRead bricks = All (λ brick. IsSmall brick.0) bricks

-- those of how a proposal ended
abbrev pub ViewAnswerReads : ViewAnswer → Type 0
ViewAnswerReads (ended.Decided view members) = IsSmall view.0 × BricksRead members
ViewAnswerReads (ended.Outbid ballot) = BallotReads ballot
ViewAnswerReads (ended.NotSynced brick) = IsSmall brick.0
ViewAnswerReads (ended.Moved view) = IsSmall view.0
ViewAnswerReads ended.BadMembers = ⊤

-- those of how a synchronisation ended
abbrev pub SyncAnswerReads : SyncAnswer → Type 0
SyncAnswerReads (synced.Synced view) = IsSmall view.0
SyncAnswerReads (synced.Stopped stripe cause) = IsSmall stripe.0 × CauseReads cause
SyncAnswerReads (synced.Spent stripe) = IsSmall stripe.0

-- those of how a scrub ended; the bricks that it names are no more than may keep a group
abbrev pub ScrubAnswerReads : ScrubAnswer → Type 0
ScrubAnswerReads scrubbed.Clean = ⊤
ScrubAnswerReads (scrubbed.Repaired stamp lagging) = StampReads stamp × BricksRead lagging × (length lagging ≤ 32)
ScrubAnswerReads (scrubbed.Aborted cause) = CauseReads cause

-- those of a report
abbrev pub ReportReads : Report → Type 0
ReportReads (View group call answer) = IsSmall group.0 × ViewAnswerReads answer
ReportReads (Sync group answer) = IsSmall group.0 × SyncAnswerReads answer
ReportReads (Scrub call members answer) = IsSmall call.group.0 × IsSmall call.stripe.0 × ScrubAnswerReads answer

-- what each of these bricks reported has a spelling
abbrev pub AllReportsRead : List (BrickId × Report) → Type 0
AllReportsRead reports = All (λ told. ReportReads told.1) reports

-- what the marks and the reports of a world tell has a spelling
pub record WorldReads (world : World) : Type 0 where
  pub marks : AllToldRead world.marks
  pub reports : AllReportsRead world.choices.reports
