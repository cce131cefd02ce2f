-- The text that a step prints.
use Rattle.std.specs.Prelude.{ℕ, Bool, false, if◌then◌else◌, List, [], ◌∷◌, ◌++◌, length, drop, codes, Option, Some, None}
use Rattle.std.specs.Fmt.{decimal}
use Rattle.hex.specs.Hex.{encode_lower}
use Rattle.fab_base.specs.declared.identities.BrickId.{BrickId}
use Rattle.fab_base.specs.declared.asks.Ask.{Ask}
use Rattle.fab_base.specs.declared.asks.Op.{Op}
use Rattle.fab_base.specs.declared.asks.Op.TheVariants.{ReadBlock, WriteBlock, ReadStripe, WriteStripe}
use Rattle.fab_base.specs.declared.answers.Answer.{Answer}
use Rattle.fab_base.specs.declared.answers.Answer.TheVariants.{Data, Done, Aborted}
use Rattle.fab_base.specs.declared.answers.Refusal.{Refusal}
use Rattle.fab_base.specs.Stamps.{ballot_text, stamp_text}
use Rattle.fab_base.specs.Texts.{newline, cause_text, refusal_text}
use Rattle.reg_model.specs.declared.marks.Mark.{Mark}
use Rattle.reg_model.specs.declared.marks.Mark.TheVariants.{Begin, End}
use Rattle.messages.specs.declared.packets.Packet.{Packet}
use Rattle.protocol.specs.Settings.{Setting}
use Rattle.protocol.specs.declared.tellings.ViewAnswer.{ViewAnswer}
use Rattle.protocol.specs.declared.tellings.ViewAnswer.TheVariants.{Decided, Outbid, NotSynced, Moved, BadMembers}
use Rattle.protocol.specs.declared.tellings.SyncAnswer.{SyncAnswer}
use Rattle.protocol.specs.declared.tellings.SyncAnswer.TheVariants as sync
use Rattle.protocol.specs.declared.tellings.ScrubAnswer.{ScrubAnswer}
use Rattle.protocol.specs.declared.tellings.ScrubAnswer.TheVariants as scrub
use Rattle.protocol.specs.declared.tellings.Report.{Report}
use Rattle.protocol.specs.declared.tellings.Report.TheVariants as report
use Rattle.protocol.specs.Worlds.{World, Event, Invokes, Proposes, Syncs, Scrubs, Delivers, Sets, Ticks, Stops, Starts, is_brick, is_up, may_start, packet_of, happens}
use Rattle.lines.specs.declared.forms.Line.{Line}
use Rattle.lines.specs.declared.forms.Line.TheVariants.{Suspect, Trust, Spare, Calm}
use Rattle.world.specs.Suspected.{has_both}
use Rattle.world.specs.Runs.{Step, refusal_at, proposal_refusal_at, sync_refusal_at, scrub_refusal_at}
use Rattle.world.specs.declared.simulations.Outcome.{Outcome}
use Rattle.world.specs.declared.simulations.Outcome.TheVariants.{Marks, Refused, Idle}

-- the stripe of a group that is asked, before the rest of a line
abbrev pub place_text : Ask → List ℕ → List ℕ
place_text ask rest = decimal ask.group.0 ++ (codes " " ++ (decimal ask.stripe.0 ++ rest))

-- what is asked, of an operation at a place
abbrev pub op_text : Ask → Op → List ℕ
op_text ask (ReadBlock j) = codes "read " ++ place_text ask (codes " " ++ (decimal j ++ newline))
op_text ask (WriteBlock j bytes) =
    codes "write " ++ place_text ask (codes " " ++ (decimal j ++ (codes " " ++ (encode_lower bytes ++ newline))))
op_text ask ReadStripe = codes "readall " ++ place_text ask newline
op_text ask (WriteStripe bytes) = codes "writeall " ++ place_text ask (codes " " ++ (encode_lower bytes ++ newline))

-- what is asked
abbrev pub ask_text : Ask → List ℕ
ask_text ask = op_text ask ask.op

-- an answer
abbrev pub answer_text : Answer → List ℕ
answer_text (Data bytes) = codes "data " ++ (encode_lower bytes ++ newline)
answer_text Done = codes "done" ++ newline
answer_text (Aborted cause) = codes "aborted " ++ cause_text cause

-- a mark, on a line of its own
abbrev pub mark_text : Mark → List ℕ
mark_text (Begin p n brick ask) =
    decimal p ++ (codes " begin " ++ (decimal n ++ (codes " " ++ (decimal brick.0 ++ (codes " " ++ ask_text ask)))))
mark_text (End p n answer) = decimal p ++ (codes " end " ++ (decimal n ++ (codes " " ++ answer_text answer)))
mark_text (Mark.Crash p brick) = decimal p ++ (codes " crash " ++ (decimal brick.0 ++ newline))

-- marks, in order
abbrev pub marks_text : List Mark → List ℕ
marks_text [] = []
marks_text (mark ∷ marks) = mark_text mark ++ marks_text marks

-- the members of a view, to the end of a line
abbrev pub members_text : List BrickId → List ℕ
members_text [] = newline
members_text (member ∷ members) = codes " " ++ (decimal member.0 ++ members_text members)

-- how a proposal ended
abbrev pub view_answer_text : ViewAnswer → List ℕ
view_answer_text (Decided view members) = codes "decided " ++ (decimal view.0 ++ members_text members)
view_answer_text (Outbid ballot) = codes "outbid " ++ (ballot_text ballot ++ newline)
view_answer_text (NotSynced brick) = codes "notsynced " ++ (decimal brick.0 ++ newline)
view_answer_text (Moved view) = codes "moved " ++ (decimal view.0 ++ newline)
view_answer_text BadMembers = codes "badmembers" ++ newline

-- how a synchronisation ended
abbrev pub sync_answer_text : SyncAnswer → List ℕ
sync_answer_text (sync.Synced view) = codes "synced " ++ (decimal view.0 ++ newline)
sync_answer_text (sync.Stopped stripe cause) = codes "stopped " ++ (decimal stripe.0 ++ (codes " " ++ cause_text cause))
sync_answer_text (sync.Spent stripe) = codes "spent " ++ (decimal stripe.0 ++ newline)

-- how a scrub ended
abbrev pub scrub_answer_text : ScrubAnswer → List ℕ
scrub_answer_text scrub.Clean = codes "clean" ++ newline
scrub_answer_text (scrub.Repaired stamp lagging) = codes "repaired " ++ (stamp_text stamp ++ members_text lagging)
scrub_answer_text (scrub.Aborted cause) = codes "aborted " ++ cause_text cause

-- what a brick reports, on a line of its own
abbrev pub report_text : Report → List ℕ
report_text (report.View group call answer) = codes "view " ++ (decimal group.0 ++ (codes " " ++ view_answer_text answer))
report_text (report.Sync group answer) = codes "sync " ++ (decimal group.0 ++ (codes " " ++ sync_answer_text answer))
report_text (report.Scrub call members answer) =
    codes "scrub " ++ (decimal call.group.0 ++ (codes " " ++ (decimal call.stripe.0 ++ (codes " " ++ scrub_answer_text answer))))

-- what bricks report, in order
abbrev pub reports_text : List (BrickId × Report) → List ℕ
reports_text [] = []
reports_text (told ∷ reports) = report_text told.1 ++ reports_text reports

-- a line that finds nothing to do
abbrev pub idle_text : List ℕ
idle_text = codes "idle" ++ newline

-- the message of a number was sent, to a brick that is up
abbrev pub is_deliverable : Setting → World → Option Packet → Bool
is_deliverable setting w None = false
is_deliverable setting w (Some packet) = is_up setting.layout w packet.to

-- the marks that a world has after another
abbrev pub new_marks : World → World → List Mark
new_marks old new = drop (length old.marks) new.marks

-- what bricks have reported in a world since another
abbrev pub new_reports : World → World → List (BrickId × Report)
new_reports old new = drop (length old.choices.reports) new.choices.reports

-- an operation, a proposal, a synchronisation or a scrub was refused, or begun
abbrev pub refused_or_begun : Option Refusal → Outcome
refused_or_begun None = Marks
refused_or_begun (Some refusal) = Refused refusal

-- it happens where it may, with its marks, and else there is nothing to do
abbrev pub marks_if : Bool → Outcome
marks_if may = if may then Marks else Idle

-- what an event comes to
abbrev pub outcome_of : Setting → World → Event → Outcome
outcome_of setting w (Invokes brick ask) = refused_or_begun (refusal_at setting w brick ask)
outcome_of setting w (Proposes brick group members) = refused_or_begun (proposal_refusal_at setting w brick group)
outcome_of setting w (Syncs brick group) = refused_or_begun (sync_refusal_at setting w brick group)
outcome_of setting w (Scrubs brick group stripe members) = refused_or_begun (scrub_refusal_at setting w brick group stripe members)
outcome_of setting w (Delivers number) = marks_if (is_deliverable setting w (packet_of w.packets number))
outcome_of setting w (Sets brick time) = marks_if (is_brick setting.layout brick)
outcome_of setting w (Ticks brick) = marks_if (is_up setting.layout w brick)
outcome_of setting w (Stops brick during) = marks_if (is_up setting.layout w brick)
outcome_of setting w (Starts brick openings found) = marks_if (may_start setting.layout w brick openings)

-- the text of what an event came to, with the marks that it made, and then what bricks reported in it
abbrev pub outcome_text : Outcome → List Mark → List (BrickId × Report) → List ℕ
outcome_text Marks marks reports = marks_text marks ++ reports_text reports
outcome_text (Refused refusal) marks reports = refusal_text refusal
outcome_text Idle marks reports = idle_text

-- what an event prints: its marks, and then what a brick reported; or why it was refused; or that it found nothing to do
abbrev pub event_text : Setting → World → Event → List ℕ
event_text setting w event = (let next : World = happens setting w event in outcome_text (outcome_of setting w event) (new_marks w next) (new_reports w next))

-- what a step prints that is these events: their texts, one after another
abbrev pub text_of : Setting → World → List Event → List ℕ
text_of setting w [] = []
text_of setting w (event ∷ events) = event_text setting w event ++ text_of setting (happens setting w event) events

-- what a line prints for which the disk must have both bricks
abbrev pub suspicion_text : Bool → List ℕ
suspicion_text has = if has then [] else idle_text

-- what a line prints that is no event, on a disk of so many bricks: that there was nothing to do, where an operation was to run alone, where a brick was to
-- replace what it suspects, and where there is no brick that suspects or none that is suspected
abbrev pub empty_text : ℕ → Line → List ℕ
empty_text bricks (Suspect b c) = suspicion_text (has_both bricks b c)
empty_text bricks (Trust b c) = suspicion_text (has_both bricks b c)
empty_text bricks (Spare b g) = idle_text
empty_text bricks (Calm n others) = idle_text
empty_text bricks line = []

-- what a line prints that is these events
abbrev pub line_text : Setting → World → Line → List Event → List ℕ
line_text setting w line [] = empty_text setting.layout.bricks line
line_text setting w line (event ∷ events) = text_of setting w (event ∷ events)

-- what a step prints
abbrev pub step_text : Setting → World → Step → List ℕ
step_text setting w step = line_text setting w step.line step.events
