-- The marks and the reports among the printed lines are those of the world that the lines of the schedule leave, and how many lines there are.
use Rattle.std.proofs.Common.{◌≡◌, ◌≢◌, ℕ, suc, ◌+◌, ◌≤◌, inl, inr, Bool, true, false, cond, not, ◌&&◌, if◌then◌else◌, List, [], ◌∷◌, ◌++◌, length, drop, map, count_by, Option, Some, None, is_some, refl, sym, ap, ap₂, subst, ◌∙◌, append_assoc, append-nil, arith}
use Rattle.std.proofs.lemmas.List.{length-map}
use Rattle.std.proofs.lemmas.List.Sums.{sum_by-cons}
use Rattle.std.proofs.lemmas.Option.{same_Some}
use Rattle.fab_base.specs.declared.identities.BrickId.{BrickId}
use Rattle.fab_base.specs.declared.asks.Ask.{Ask}
use Rattle.fab_base.specs.declared.answers.Refusal.{Refusal}
use Rattle.fab_base.specs.declared.answers.Refusal.TheVariants.{Down}
use Rattle.messages.specs.declared.packets.Packet.{Packet}
use Rattle.reg_model.specs.declared.marks.Mark.{Mark}
use Rattle.reg_model.specs.declared.marks.Mark.TheVariants as mark
use Rattle.protocol.specs.Settings.{Setting}
use Rattle.protocol.specs.declared.tellings.Answered.{Answered}
use Rattle.protocol.specs.declared.tellings.Report.{Report}
use Rattle.protocol.specs.declared.tellings.Told.{Told}
use Rattle.protocol.specs.declared.tellings.Told.TheVariants as told
use Rattle.protocol.specs.Nodes.{Node, NodeStep, put, refusal_of, proposal_refusal, sync_refusal, scrub_refusal, group_at, began, invoked, proposed, synced_at, scrubbed_at, stopped, restarted}
use Rattle.protocol.specs.Worlds.{World, Event, first_world, Found, Invokes, Proposes, Syncs, Scrubs, Delivers, Sets, Ticks, Stops, Starts, Before, After, number_of, mark_of, is_brick, is_up, may_start, world_began, world_told, world_tells, world_answered, world_answers, reports_of, world_stepped, world_ticked, world_stopped, world_found, world_started, delivered, packet_of, happens, run}
use Rattle.lines.specs.declared.forms.Line.{Line}
use Rattle.lines.specs.declared.forms.Line.TheVariants.{Nothing, Invoke, Deliver, SetClock, Tick, Crash, Start, Propose, Sync, Scrub, Suspect, Trust, Spare, Calm}
use Rattle.fab_base.specs.Layouts.{Layout, Group}
use Rattle.fab_disk.specs.declared.mem_disk.MemDisk.{MemDisk}
use Rattle.stripe_code.specs.Codes.{coding}
use Rattle.protocol.specs.Coordinators.{Coordinator}
use Rattle.protocol.specs.Calms.{RunsAlone, Ended, Stuck, Next, open_call, next_delivery, operation_marked}
use Rattle.transcript.specs.Kinds.{is_begin}
use Rattle.world.specs.Faults.{IsEventsOf}
use Rattle.world.specs.Runs.{Run, Step, world_of, all_events, brick_of}
use Rattle.world.specs.Steps.{Runs}
use Rattle.world.specs.Suspected.{has_both, spare_list, proposing_line, meant}
use Rattle.world.proofs.RunLemmas.{world_of-with_step}
use Rattle.protocol.proofs.Events.{step_on, world_counting, world_handled, run-append}
use Rattle.protocol.proofs.Tables.{put_each}
use Rattle.world.specs.Texts.{mark_text, marks_text, report_text, reports_text, new_marks, new_reports, is_deliverable, marks_if, outcome_of, outcome_text, event_text, text_of, line_text, step_text, suspicion_text, refused_or_begun}
use Rattle.world.specs.declared.simulations.Outcome.{Outcome}
use Rattle.world.specs.declared.simulations.Outcome.TheVariants.{Marks, Refused, Idle}
use Rattle.printed.specs.Printed.{Printed, OfMark, OfReport, OfRefusal, OfNothing, printed_text, printed_texts, marks_in, printed_marks, reports_in, printed_reports}
use Rattle.printed.specs.Outputs.{left_by, steps_text}
use Rattle.printed.specs.LineSteps.{LeadsTo, AreStepsOf}
use Rattle.printed.proofs.Standing.{up_brick}
use Rattle.printed.proofs.OpenWorks.{works_in, works_none, works_put, OpensNone, opens_same, works_fewer, works_kept, Closes, received_closes, proposed_closes, synced_closes, scrubbed_closes}

-- the lines that an outcome prints, with the marks that were made, and what was reported
abbrev lines_of : Outcome → List Mark → List (BrickId × Report) → List Printed
lines_of Marks marks reports = map OfMark marks ++ map OfReport reports
lines_of (Refused refusal) marks reports = OfRefusal refusal ∷ []
lines_of Idle marks reports = OfNothing ∷ []

-- an End
abbrev pub is_end : Mark → Bool
is_end (mark.Begin p n b ask) = false
is_end (mark.End p n answer) = true
is_end (mark.Crash p b) = false

-- the printed lines that are no Ends
abbrev other_mark : Mark → ℕ
other_mark (mark.Begin p n b ask) = 1
other_mark (mark.End p n answer) = 0
other_mark (mark.Crash p b) = 1

-- the same of a printed line
abbrev other_line : Printed → ℕ
other_line (OfMark one) = other_mark one
other_line (OfReport told) = 1
other_line (OfRefusal refusal) = 1
other_line OfNothing = 1

-- of printed lines
abbrev pub others : List Printed → ℕ
others [] = 0
others (line ∷ printed) = other_line line + others printed

-- of printed lines and then others
others_both : (one other : List Printed) → others (one ++ other) ≡ others one + others other
others_both [] other = omega arith
others_both (line ∷ one) other = let rest = others_both one other in omega (arith, rest)

-- a mark more is counted, or is not
pub count_yes : (p : Mark → Bool) (one : Mark) (marks : List Mark) → p one ≡ true → count_by p (one ∷ marks) ≡ 1 + count_by p marks
count_yes p one marks is = sum_by-cons (λ (x : Mark). cond (p x) 1 0) one marks ∙ ap (λ (b : Bool). cond b 1 0 + count_by p marks) is

-- or is not
pub count_no : (p : Mark → Bool) (one : Mark) (marks : List Mark) → p one ≡ false → count_by p (one ∷ marks) ≡ count_by p marks
count_no p one marks isnt =
    sum_by-cons (λ (x : Mark). cond (p x) 1 0) one marks ∙ ap (λ (b : Bool). cond b 1 0 + count_by p marks) isnt
    ∙ (let none : 0 + count_by p marks ≡ count_by p marks = omega arith in none)

-- a line is an End or another line
pub lines_are : (printed : List Printed) → length printed ≡ others printed + count_by is_end (printed_marks printed)
lines_are [] = refl
lines_are (OfMark (mark.Begin p n b ask) ∷ printed) =
    let rest = lines_are printed in omega (arith, rest, count_no is_end (mark.Begin p n b ask) (printed_marks printed) refl)
lines_are (OfMark (mark.End p n answer) ∷ printed) =
    let rest = lines_are printed in omega (arith, rest, count_yes is_end (mark.End p n answer) (printed_marks printed) refl)
lines_are (OfMark (mark.Crash p b) ∷ printed) =
    let rest = lines_are printed in omega (arith, rest, count_no is_end (mark.Crash p b) (printed_marks printed) refl)
lines_are (OfReport told ∷ printed) = let rest = lines_are printed in omega (arith, rest)
lines_are (OfRefusal refusal ∷ printed) = let rest = lines_are printed in omega (arith, rest)
lines_are (OfNothing ∷ printed) = let rest = lines_are printed in omega (arith, rest)

-- no Begin is an End
pub begins_among : (printed : List Printed) → count_by is_begin (printed_marks printed) ≤ others printed
begins_among [] = omega arith
begins_among (OfMark (mark.Begin p n b ask) ∷ printed) =
    let rest = begins_among printed in omega (arith, rest, count_yes is_begin (mark.Begin p n b ask) (printed_marks printed) refl)
begins_among (OfMark (mark.End p n answer) ∷ printed) =
    let rest = begins_among printed in omega (arith, rest, count_no is_begin (mark.End p n answer) (printed_marks printed) refl)
begins_among (OfMark (mark.Crash p b) ∷ printed) =
    let rest = begins_among printed in omega (arith, rest, count_no is_begin (mark.Crash p b) (printed_marks printed) refl)
begins_among (OfReport told ∷ printed) = let rest = begins_among printed in omega (arith, rest)
begins_among (OfRefusal refusal ∷ printed) = let rest = begins_among printed in omega (arith, rest)
begins_among (OfNothing ∷ printed) = let rest = begins_among printed in omega (arith, rest)

-- a mark is a printed line
pub marks_among_lines : (printed : List Printed) → length (printed_marks printed) ≤ length printed
marks_among_lines [] = omega arith
marks_among_lines (OfMark one ∷ printed) = let rest = marks_among_lines printed in omega (arith, rest)
marks_among_lines (OfReport told ∷ printed) = let rest = marks_among_lines printed in omega (arith, rest)
marks_among_lines (OfRefusal refusal ∷ printed) = let rest = marks_among_lines printed in omega (arith, rest)
marks_among_lines (OfNothing ∷ printed) = let rest = marks_among_lines printed in omega (arith, rest)

-- of printed lines and then others
texts_both : (one other : List Printed) → printed_texts (one ++ other) ≡ printed_texts one ++ printed_texts other
texts_both [] other = refl
texts_both (line ∷ one) other =
    ap (λ (text : List ℕ). printed_text line ++ text) (texts_both one other)
    ∙ sym (append_assoc (printed_text line) (printed_texts one) (printed_texts other))

-- and the marks among them
marks_both : (one other : List Printed) → printed_marks (one ++ other) ≡ printed_marks one ++ printed_marks other
marks_both [] other = refl
marks_both (line ∷ one) other =
    ap (λ (marks : List Mark). marks_in line ++ marks) (marks_both one other)
    ∙ sym (append_assoc (marks_in line) (printed_marks one) (printed_marks other))

-- and the reports among them
reports_both : (one other : List Printed) → printed_reports (one ++ other) ≡ printed_reports one ++ printed_reports other
reports_both [] other = refl
reports_both (line ∷ one) other =
    ap (λ (reports : List (BrickId × Report)). reports_in line ++ reports) (reports_both one other)
    ∙ sym (append_assoc (reports_in line) (printed_reports one) (printed_reports other))

-- the text of marks is that of their lines
marks_printed : (marks : List Mark) → marks_text marks ≡ printed_texts (map OfMark marks)
marks_printed [] = refl
marks_printed (one ∷ marks) = ap (λ (text : List ℕ). mark_text one ++ text) (marks_printed marks)

-- and the text of reports
reports_printed : (reports : List (BrickId × Report)) → reports_text reports ≡ printed_texts (map OfReport reports)
reports_printed [] = refl
reports_printed (told ∷ reports) = ap (λ (text : List ℕ). report_text told.1 ++ text) (reports_printed reports)

-- the marks and the reports among the lines of marks, and of reports
marks_alone : (marks : List Mark) → printed_marks (map OfMark marks) ≡ marks
marks_alone [] = refl
marks_alone (one ∷ marks) = ap (λ (rest : List Mark). one ∷ rest) (marks_alone marks)

no_marks : (reports : List (BrickId × Report)) → printed_marks (map OfReport reports) ≡ []
no_marks [] = refl
no_marks (told ∷ reports) = no_marks reports

reports_alone : (reports : List (BrickId × Report)) → printed_reports (map OfReport reports) ≡ reports
reports_alone [] = refl
reports_alone (told ∷ reports) = ap (λ (rest : List (BrickId × Report)). told ∷ rest) (reports_alone reports)

no_reports : (marks : List Mark) → printed_reports (map OfMark marks) ≡ []
no_reports [] = refl
no_reports (one ∷ marks) = no_reports marks

-- of marks and then reports
marks_among : (marks : List Mark) (reports : List (BrickId × Report)) → printed_marks (map OfMark marks ++ map OfReport reports) ≡ marks
marks_among marks reports =
    marks_both (map OfMark marks) (map OfReport reports) ∙ ap₂ (λ (one other : List Mark). one ++ other) (marks_alone marks) (no_marks reports)
    ∙ append-nil marks

reports_among : (marks : List Mark) (reports : List (BrickId × Report)) → printed_reports (map OfMark marks ++ map OfReport reports) ≡ reports
reports_among marks reports =
    reports_both (map OfMark marks) (map OfReport reports)
    ∙ ap₂ (λ (one other : List (BrickId × Report)). one ++ other) (no_reports marks) (reports_alone reports)

-- each report is a line that is no End
others_reports : (reports : List (BrickId × Report)) → others (map OfReport reports) ≡ length reports
others_reports [] = refl
others_reports (told ∷ reports) = let rest = others_reports reports in omega (arith, rest)

others_among : (marks : List Mark) (reports : List (BrickId × Report))
    → others (map OfMark marks ++ map OfReport reports) ≡ others (map OfMark marks) + length reports
others_among marks reports =
    let both = others_both (map OfMark marks) (map OfReport reports) in let told = others_reports reports in omega (arith, both, told)

-- the text of an outcome is that of its lines
outcome_printed : (outcome : Outcome) (marks : List Mark) (reports : List (BrickId × Report))
    → outcome_text outcome marks reports ≡ printed_texts (lines_of outcome marks reports)
outcome_printed Marks marks reports =
    ap₂ (λ (one other : List ℕ). one ++ other) (marks_printed marks) (reports_printed reports)
    ∙ sym (texts_both (map OfMark marks) (map OfReport reports))
outcome_printed (Refused refusal) marks reports = sym (append-nil (printed_text (OfRefusal refusal)))
outcome_printed Idle marks reports = sym (append-nil (printed_text OfNothing))

-- what stands behind the first of a list
behind : {A : Type 0} (first more : List A) → drop (length first) (first ++ more) ≡ more
behind [] more = refl
behind (one ∷ first) more = behind first more

-- A world after another, whose new marks and reports are those that are printed. So many of the lines at most are no Ends, beside the reports that close proposals, synchronisations and scrubs.
record IsPrinted (setting : Setting) (w next : World) (outcome : Outcome) (most : ℕ) : Type 0 where
  marks : next.marks ≡ w.marks ++ printed_marks (lines_of outcome (new_marks w next) (new_reports w next))
  reports : next.choices.reports ≡ w.choices.reports ++ printed_reports (lines_of outcome (new_marks w next) (new_reports w next))
  few : others (lines_of outcome (new_marks w next) (new_reports w next)) + works_in setting.layout.bricks next.nodes
      ≤ most + works_in setting.layout.bricks w.nodes

-- marks were made, and something was reported
printed_more : (setting : Setting) (w next : World) (more : List Mark) (told : List (BrickId × Report)) (most : ℕ) → next.marks ≡ w.marks ++ more
    → next.choices.reports ≡ w.choices.reports ++ told
    → others (map OfMark more) + length told + works_in setting.layout.bricks next.nodes ≤ most + works_in setting.layout.bricks w.nodes
    → IsPrinted setting w next Marks most
printed_more setting w next more told most is reported few =
    let made : new_marks w next ≡ more = ap (λ (l : List Mark). drop (length w.marks) l) is ∙ behind w.marks more in
    let said : new_reports w next ≡ told = ap (λ (l : List (BrickId × Report)). drop (length w.choices.reports) l) reported
    ∙ behind w.choices.reports told in
    let count : others (map OfMark (new_marks w next) ++ map OfReport (new_reports w next)) ≡ others (map OfMark more) + length told =
    others_among (new_marks w next) (new_reports w next)
    ∙ ap₂ (λ (l : List Mark) (r : List (BrickId × Report)). others (map OfMark l) + length r) made said in
    record {
      marks = is ∙ ap (λ (l : List Mark). w.marks ++ l) (sym (marks_among (new_marks w next) (new_reports w next) ∙ made));
      reports = reported
          ∙ ap (λ (l : List (BrickId × Report)). w.choices.reports ++ l) (sym (reports_among (new_marks w next) (new_reports w next) ∙ said));
      few = omega (arith, count, few);
    }

-- no mark was made, and nothing reported
printed_none : (setting : Setting) (w next : World) (most : ℕ) → next.marks ≡ w.marks → next.choices.reports ≡ w.choices.reports
    → works_in setting.layout.bricks next.nodes ≤ works_in setting.layout.bricks w.nodes → IsPrinted setting w next Marks most
printed_none setting w next most same silent fewer =
    printed_more setting w next [] [] most (same ∙ sym (append-nil w.marks)) (silent ∙ sym (append-nil w.choices.reports)) (omega (arith, fewer))

-- the line was idle
printed_idle : (setting : Setting) (w : World) → IsPrinted setting w w Idle 1
printed_idle setting w = record { marks = sym (append-nil w.marks); reports = sym (append-nil w.choices.reports); few = omega arith }

-- the operation or the proposal was refused
printed_refused : (setting : Setting) (w : World) (refusal : Refusal) → IsPrinted setting w w (Refused refusal) 1
printed_refused setting w refusal = record {
  marks = sym (append-nil w.marks);
  reports = sym (append-nil w.choices.reports);
  few = omega arith;
}

-- where something is done, or the line is idle
done_or_not : (setting : Setting) (w next : World) (t : Bool) → (t ≡ true → IsPrinted setting w next Marks 1)
    → IsPrinted setting w (if t then next else w) (if t then Marks else Idle) 1
done_or_not setting w next true printed = printed refl
done_or_not setting w next false printed = printed_idle setting w

-- an answer is a mark, and nothing else that a step does is
told_marks : (setting : Setting) (nodes : ℕ → Node) (w : World) (brick : BrickId) (told : List Told) → (world_tells setting nodes w brick told).marks ≡ w.marks
told_marks setting nodes w brick [] = refl
told_marks setting nodes w brick (told.Made seq t base ∷ more) = told_marks setting nodes (world_told setting nodes w brick (told.Made seq t base)) brick more
told_marks setting nodes w brick (told.Seen seq t ∷ more) = told_marks setting nodes (world_told setting nodes w brick (told.Seen seq t)) brick more
told_marks setting nodes w brick (told.Began call ∷ more) = told_marks setting nodes (world_told setting nodes w brick (told.Began call)) brick more
told_marks setting nodes w brick (told.Closed seq cause ∷ more) = told_marks setting nodes (world_told setting nodes w brick (told.Closed seq cause)) brick more

-- answers are Ends
answer_marks : (w : World) (brick : BrickId) (answers : List Answered)
    → (more : List Mark) × ((world_answers w brick answers).marks ≡ w.marks ++ more) × (others (map OfMark more) ≡ 0)
answer_marks w brick [] = ([], sym (append-nil w.marks), refl)
answer_marks w brick (one ∷ answers) =
    let here : Mark = mark.End (length w.marks) (mark_of w (number_of w brick.0 one.seq)) one.answer in
    let rest = answer_marks (world_answered w brick one) brick answers in
    (here ∷ rest.0, rest.1 ∙ append_assoc w.marks (here ∷ []) rest.0, (let none = rest.2 in omega (arith, none)))

-- a step prints Ends and reports alone
stepped_printed : (setting : Setting) (w : World) (brick : BrickId) (step : NodeStep) (most : ℕ) → is_up setting.layout w brick ≡ true
    → Closes (w.nodes brick.0) step most → IsPrinted setting w (world_stepped setting w brick step) Marks most
stepped_printed setting w brick step most up closes =
    let more = answer_marks (world_tells setting (put w.nodes brick.0 step.node) w brick step.told) brick step.answers in
    let changed = works_put setting.layout.bricks brick.0 w.nodes step.node (up_brick setting.layout w brick up) in
    let many : length (reports_of brick step.reports) ≡ length step.reports = length-map step.reports (λ (report : Report). (brick, report)) in
    let none = more.2 in
    printed_more setting w (world_stepped setting w brick step) more.0 (reports_of brick step.reports) most
    (more.1 ∙ ap (λ (l : List Mark). l ++ more.0) (told_marks setting (put w.nodes brick.0 step.node) w brick step.told)) refl
    (omega (arith, none, many, changed, closes))

-- no other line is at most one
printed_fewer : (setting : Setting) (w next : World) (outcome : Outcome) → IsPrinted setting w next outcome 0 → IsPrinted setting w next outcome 1
printed_fewer setting w next outcome printed =
    record { marks = printed.marks; reports = printed.reports; few = (let few = printed.few in omega arith) }

-- a message that is delivered prints Ends and reports alone
handled_printed : (setting : Setting) (w : World) (number : ℕ) (packet : Packet) → is_up setting.layout w packet.to ≡ true
    → IsPrinted setting w (world_handled setting w number packet) Marks 0
handled_printed setting w number packet up =
    let printed = stepped_printed setting (world_counting setting w number packet) packet.to (step_on setting w packet) 0 up
    (received_closes setting packet.to (w.clocks packet.to.0) (w.nodes packet.to.0) packet) in
    record { marks = printed.marks; reports = printed.reports; few = printed.few }

-- a delivery prints Ends and reports, or that it is idle
delivered_printed : (setting : Setting) (w : World) (number : ℕ) (packet : Option Packet)
    → IsPrinted setting w (delivered setting w number packet) (marks_if (is_deliverable setting w packet)) 1
delivered_printed setting w number None = printed_idle setting w
delivered_printed setting w number (Some packet) =
    let next : World = world_handled setting w number packet in
    done_or_not setting w next (is_up setting.layout w packet.to)
    (λ up. printed_fewer setting w next Marks (handled_printed setting w number packet up))

-- an operation, a proposal, a synchronisation or a scrub begins exactly where no refusal is printed
begun_printed : (setting : Setting) (w next : World) (up : Bool) (refusal : Option Refusal) → (up ≡ true → IsPrinted setting w next Marks 1)
    → IsPrinted setting w (if up && not (is_some refusal) then next else w) (refused_or_begun (if up then refusal else Some Down)) 1
begun_printed setting w next false refusal printed = printed_refused setting w Down
begun_printed setting w next true None printed = printed refl
begun_printed setting w next true (Some refusal) printed = printed_refused setting w refusal

-- a brick that begins an operation opens no proposal, synchronisation or scrub
invoked_opens : (setting : Setting) (me : BrickId) (now : ℕ) (node : Node) (ask : Ask) → OpensNone node (invoked setting me now node ask).node
unfolding invoked
invoked_opens setting me now node ask = by (group_at setting.layout node ask.group.0)
  where
    by : (z : Option Group) → OpensNone node (began setting me now node ask z).node
    by None = opens_same node
    by (Some group) = record { proposal = λ is. is; job = λ is. is; scrub = λ is. is }

-- nor does one that stops or starts: it has none
no_some : {A : Type 0} → false ≡ true → A
no_some is = absurd (let never : false ≡ true = is in cc)

stopped_opens : (node other : Node) → OpensNone other (stopped node)
unfolding stopped
stopped_opens node other = record { proposal = λ is. no_some is; job = λ is. no_some is; scrub = λ is. no_some is }

restarted_opens : (openings : ℕ) (node other : Node) → OpensNone other (restarted openings node)
unfolding restarted
restarted_opens openings node other = record { proposal = λ is. no_some is; job = λ is. no_some is; scrub = λ is. no_some is }

-- a start prints nothing
started_printed : (setting : Setting) (w : World) (brick : BrickId) (openings : ℕ) (found : Found)
    → IsPrinted setting w (world_started (world_found w brick found) brick openings) Marks 1
started_printed setting w brick openings Before =
    printed_none setting w (world_started w brick openings) 1 refl refl
    (works_kept setting.layout.bricks brick.0 w.nodes (restarted openings (w.nodes brick.0)) (restarted_opens openings (w.nodes brick.0) (w.nodes brick.0)))
started_printed setting w brick openings After =
    let found : World = world_found w brick After in
    let node : Node = restarted openings (found.nodes brick.0) in
    printed_none setting w (world_started found brick openings) 1 refl (append-nil w.choices.reports)
    (works_fewer setting.layout.bricks w.nodes (put found.nodes brick.0 node)
    (put_each (λ j z. OpensNone (w.nodes j) z) found.nodes brick.0 node (restarted_opens openings (found.nodes brick.0) (w.nodes brick.0))
    (λ j other. put_each (λ k z. k ≢ brick.0 → OpensNone (w.nodes k) z) w.nodes brick.0 (w.after brick.0)
    (λ apart. absurd (apart refl)) (λ k away apart. opens_same (w.nodes k)) j other)))

-- the marks and the reports that an event makes are those that it prints
event_printed : (setting : Setting) (w : World) (event : Event) → IsPrinted setting w (happens setting w event) (outcome_of setting w event) 1
unfolding happens
event_printed setting w (Invokes brick ask) =
    let step : NodeStep = invoked setting brick (w.clocks brick.0) (w.nodes brick.0) ask in
    let fewer = works_kept setting.layout.bricks brick.0 w.nodes step.node (invoked_opens setting brick (w.clocks brick.0) (w.nodes brick.0) ask) in
    begun_printed setting w (world_began w brick ask step) (is_up setting.layout w brick) (refusal_of setting.layout (w.nodes brick.0) ask)
    (λ up. printed_more setting w (world_began w brick ask step) (mark.Begin (length w.marks) (w.marked + 1) brick ask ∷ []) [] 1 refl
    (sym (append-nil w.choices.reports)) (omega (arith, fewer)))
event_printed setting w (Proposes brick group members) =
    let step : NodeStep = proposed setting brick (w.nodes brick.0) group members in
    begun_printed setting w (world_stepped setting w brick step) (is_up setting.layout w brick)
    (proposal_refusal setting.layout (w.nodes brick.0) group.0)
    (λ up. stepped_printed setting w brick step 1 up (proposed_closes setting brick (w.nodes brick.0) group members))
event_printed setting w (Syncs brick group) =
    let step : NodeStep = synced_at setting brick (w.clocks brick.0) (w.nodes brick.0) group in
    begun_printed setting w (world_stepped setting w brick step) (is_up setting.layout w brick)
    (sync_refusal setting.layout (w.nodes brick.0) group.0)
    (λ up. stepped_printed setting w brick step 1 up (synced_closes setting brick (w.clocks brick.0) (w.nodes brick.0) group))
event_printed setting w (Scrubs brick group stripe members) =
    let step : NodeStep = scrubbed_at setting brick (w.clocks brick.0) (w.nodes brick.0) group stripe members in
    begun_printed setting w (world_stepped setting w brick step) (is_up setting.layout w brick)
    (scrub_refusal setting.layout (w.nodes brick.0) group stripe members)
    (λ up. stepped_printed setting w brick step 1 up (scrubbed_closes setting brick (w.clocks brick.0) (w.nodes brick.0) group stripe members))
event_printed setting w (Delivers number) = delivered_printed setting w number (packet_of w.packets number)
event_printed setting w (Sets brick time) =
    done_or_not setting w (record w { clocks = put w.clocks brick.0 time }) (is_brick setting.layout brick)
    (λ is. printed_none setting w (record w { clocks = put w.clocks brick.0 time }) 1 refl refl (omega arith))
event_printed setting w (Ticks brick) =
    done_or_not setting w (world_ticked setting w brick) (is_up setting.layout w brick)
    (λ is. printed_none setting w (world_ticked setting w brick) 1 refl refl (omega arith))
event_printed setting w (Stops brick during) =
    let fewer = works_kept setting.layout.bricks brick.0 w.nodes (stopped (w.nodes brick.0)) (stopped_opens (w.nodes brick.0) (w.nodes brick.0)) in
    done_or_not setting w (world_stopped setting w brick during) (is_up setting.layout w brick)
    (λ is. printed_more setting w (world_stopped setting w brick during) (mark.Crash (length w.marks) brick ∷ []) [] 1 refl
    (sym (append-nil w.choices.reports)) (omega (arith, fewer)))
event_printed setting w (Starts brick openings found) =
    done_or_not setting w (world_started (world_found w brick found) brick openings) (may_start setting.layout w brick openings)
    (λ is. started_printed setting w brick openings found)

-- A text is that of printed lines, and the marks and reports among them are those that a world has after another. So many of the lines at most are no Ends, beside
-- the reports that close proposals, synchronisations and scrubs.
pub record IsPrintedAs (setting : Setting) (w next : World) (text : List ℕ) (most : ℕ) : Type 0 where
  pub printed : List Printed
  pub text_is : text ≡ printed_texts printed
  pub marks_are : next.marks ≡ w.marks ++ printed_marks printed
  pub reports_are : next.choices.reports ≡ w.choices.reports ++ printed_reports printed
  pub few : others printed + works_in setting.layout.bricks next.nodes ≤ most + works_in setting.layout.bricks w.nodes

-- nothing
nothing_printed : (setting : Setting) (w : World) (most : ℕ) → IsPrintedAs setting w w [] most
nothing_printed setting w most = record {
  printed = [];
  text_is = refl;
  marks_are = sym (append-nil w.marks);
  reports_are = sym (append-nil w.choices.reports);
  few = omega arith;
}

-- one text, and then another
both_printed : (setting : Setting) (w mid next : World) (first second : List ℕ) (one_most other_most : ℕ) → IsPrintedAs setting w mid first one_most
    → IsPrintedAs setting mid next second other_most → IsPrintedAs setting w next (first ++ second) (one_most + other_most)
both_printed setting w mid next first second one_most other_most one other = record {
  printed = one.printed ++ other.printed;
  text_is = ap (λ (text : List ℕ). text ++ second) one.text_is ∙ ap (λ (text : List ℕ). printed_texts one.printed ++ text) other.text_is
      ∙ sym (texts_both one.printed other.printed);
  marks_are = other.marks_are ∙ ap (λ (marks : List Mark). marks ++ printed_marks other.printed) one.marks_are
      ∙ append_assoc w.marks (printed_marks one.printed) (printed_marks other.printed)
      ∙ ap (λ (marks : List Mark). w.marks ++ marks) (sym (marks_both one.printed other.printed));
  reports_are = other.reports_are ∙ ap (λ (reports : List (BrickId × Report)). reports ++ printed_reports other.printed) one.reports_are
      ∙ append_assoc w.choices.reports (printed_reports one.printed) (printed_reports other.printed)
      ∙ ap (λ (reports : List (BrickId × Report)). w.choices.reports ++ reports) (sym (reports_both one.printed other.printed));
  few = omega (arith, others_both one.printed other.printed, one.few, other.few);
}

-- so many are at most as many as more
most_printed : (setting : Setting) (w next : World) (text : List ℕ) (most more : ℕ) → most ≤ more → IsPrintedAs setting w next text most
    → IsPrintedAs setting w next text more
most_printed setting w next text most more le printed = record {
  printed = printed.printed;
  text_is = printed.text_is;
  marks_are = printed.marks_are;
  reports_are = printed.reports_are;
  few = omega (arith, printed.few, le);
}

-- from fresh bricks on there is no proposal that a report may close: so no more lines are no Ends
pub lines_few : (layout : Layout) (next : World) (text : List ℕ) (most : ℕ)
    → (printed : IsPrintedAs (coding layout) (first_world layout) next text most) → others printed.printed ≤ most
lines_few layout next text most printed =
    let none : works_in (coding layout).layout.bricks (first_world layout).nodes ≡ 0 = works_none (coding layout).layout.bricks layout in
    let few = printed.few in
    omega (arith, none, few)

-- what an event prints
event_lines : (setting : Setting) (w : World) (event : Event) (most : ℕ) → IsPrinted setting w (happens setting w event) (outcome_of setting w event) most
    → IsPrintedAs setting w (happens setting w event) (event_text setting w event) most
event_lines setting w event most printed =
    let next : World = happens setting w event in
    record {
      printed = lines_of (outcome_of setting w event) (new_marks w next) (new_reports w next);
      text_is = outcome_printed (outcome_of setting w event) (new_marks w next) (new_reports w next);
      marks_are = printed.marks;
      reports_are = printed.reports;
      few = printed.few;
    }

-- a line that is one event
one_printed : (setting : Setting) (w : World) (line : Line) (event : Event)
    → IsPrintedAs setting w (run setting (event ∷ []) w) (line_text setting w line (event ∷ [])) 1
one_printed setting w line event =
    both_printed setting w (happens setting w event) (happens setting w event) (event_text setting w event) [] 1 0
    (event_lines setting w event 1 (event_printed setting w event)) (nothing_printed setting (happens setting w event) 0)

-- The deliveries of an operation that runs alone are of messages that can be delivered: one that could not would be the next for ever.

-- nothing happens then
idle_stays : (setting : Setting) (w : World) (number : ℕ) (packet : Option Packet) → is_deliverable setting w packet ≡ false
    → delivered setting w number packet ≡ w
idle_stays setting w number None idle = refl
idle_stays setting w number (Some packet) idle =
    ap (λ (b : Bool). cond b (world_handled setting w number packet) w) idle

-- what a delivery is
delivers_is : (setting : Setting) (w : World) (number : ℕ)
    → happens setting w (Delivers number) ≡ delivered setting w number (packet_of w.packets number)
unfolding happens
delivers_is setting w number = refl

-- where the next message cannot be delivered
module _ (setting : Setting) (n : ℕ) (bricks : List BrickId) (w : World) (number : ℕ) (open_is : is_some (open_call w n) ≡ true)
    (next_is : next_delivery w n bricks ≡ Some number) (idle : is_deliverable setting w (packet_of w.packets number) ≡ false) where
  no_end : (v last : World) (events : List Event) → RunsAlone setting n bricks v events last → v ≡ w → ⊥
  no_end _ _ _ (Ended v ended) same =
      let never : is_some (open_call w n) ≡ false = ap (λ (x : World). is_some (open_call x n)) (sym same)
      ∙ ap (λ (o : Option Coordinator). is_some o) ended in
      (let bad : true ≡ false = sym open_is ∙ never in cc)
  no_end _ _ _ (Stuck v opens none) same =
      (let bad : None ≡ Some number = sym none ∙ ap (λ (x : World). next_delivery x n bricks) same ∙ next_is in cc)
  no_end _ _ _ (Next v last other events opens next more) same =
      let number_same : other ≡ number = same_Some other number (sym next ∙ ap (λ (x : World). next_delivery x n bricks) same ∙ next_is) in
      no_end (happens setting v (Delivers other)) last events more
      (ap (λ (x : World). happens setting x (Delivers other)) same ∙ ap (λ (k : ℕ). happens setting w (Delivers k)) number_same
      ∙ delivers_is setting w number ∙ idle_stays setting w number (packet_of w.packets number) idle)

-- a message that can be delivered prints Ends and reports alone
handled_alone : (setting : Setting) (w : World) (number : ℕ) (packet : Option Packet) → is_deliverable setting w packet ≡ true
    → IsPrinted setting w (delivered setting w number packet) (marks_if (is_deliverable setting w packet)) 0
handled_alone setting w number None up = absurd (let never : false ≡ true = up in cc)
handled_alone setting w number (Some packet) up =
    subst (λ (b : Bool). IsPrinted setting w (if b then world_handled setting w number packet else w)
    (if b then Marks else Idle) 0) (sym up) (handled_printed setting w number packet up)

-- the same of the event
delivers_alone : (setting : Setting) (w : World) (number : ℕ) → is_deliverable setting w (packet_of w.packets number) ≡ true
    → IsPrinted setting w (happens setting w (Delivers number)) (outcome_of setting w (Delivers number)) 0
delivers_alone setting w number up =
    subst (λ (v : World). IsPrinted setting w v (outcome_of setting w (Delivers number)) 0) (sym (delivers_is setting w number))
    (handled_alone setting w number (packet_of w.packets number) up)

-- the message that is delivered next can be delivered
next_up : (setting : Setting) (n : ℕ) (bricks : List BrickId) (w last : World) (number : ℕ) (events : List Event) → is_some (open_call w n) ≡ true
    → next_delivery w n bricks ≡ Some number → RunsAlone setting n bricks (happens setting w (Delivers number)) events last
    → is_deliverable setting w (packet_of w.packets number) ≡ true
next_up setting n bricks w last number events open_is next more = by (is_deliverable setting w (packet_of w.packets number)) refl
  where
    by : (b : Bool) → is_deliverable setting w (packet_of w.packets number) ≡ b → b ≡ true
    by true is = refl
    by false idle =
        absurd (no_end setting n bricks w number open_is next idle (happens setting w (Delivers number)) last events more
        (delivers_is setting w number ∙ idle_stays setting w number (packet_of w.packets number) idle))

-- an operation that runs alone prints Ends and reports alone
alone_printed : (setting : Setting) (n : ℕ) (bricks : List BrickId) (w last : World) (events : List Event) → RunsAlone setting n bricks w events last
    → IsPrintedAs setting w (run setting events w) (text_of setting w events) 0
alone_printed setting n bricks _ _ _ (Ended w ended) = nothing_printed setting w 0
alone_printed setting n bricks _ _ _ (Stuck w opens none) = nothing_printed setting w 0
alone_printed setting n bricks _ _ _ (Next w last number events opens next more) =
    both_printed setting w (happens setting w (Delivers number)) (run setting events (happens setting w (Delivers number)))
    (event_text setting w (Delivers number)) (text_of setting (happens setting w (Delivers number)) events) 0 0
    (event_lines setting w (Delivers number) 0
    (delivers_alone setting w number (next_up setting n bricks w last number events opens next more)))
    (alone_printed setting n bricks (happens setting w (Delivers number)) last events more)

-- where nothing is delivered, that it is idle
idle_printed : (setting : Setting) (n : ℕ) (numbers : List ℕ) (w : World)
    → IsPrintedAs setting w (run setting [] w) (line_text setting w (Calm n numbers) []) 1
idle_printed setting n numbers w = record {
  printed = OfNothing ∷ [];
  text_is = sym (append-nil (printed_text OfNothing));
  marks_are = sym (append-nil w.marks);
  reports_are = sym (append-nil w.choices.reports);
  few = omega arith;
}

-- a line of no event, and one of one event
of_none : (setting : Setting) (w : World) (line : Line) (events : List Event) → events ≡ []
    → IsPrintedAs setting w (run setting [] w) (line_text setting w line []) 1 → IsPrintedAs setting w (run setting events w) (line_text setting w line events) 1
of_none setting w line events are printed =
    subst (λ (l : List Event). IsPrintedAs setting w (run setting l w) (line_text setting w line l) 1) (sym are) printed

-- or of one event
of_one : (setting : Setting) (w : World) (line : Line) (event : Event) (events : List Event) → events ≡ event ∷ []
    → IsPrintedAs setting w (run setting events w) (line_text setting w line events) 1
of_one setting w line event events are =
    subst (λ (l : List Event). IsPrintedAs setting w (run setting l w) (line_text setting w line l) 1) (sym are) (one_printed setting w line event)

-- so its line prints one other line at most
calm_printed : (setting : Setting) (mark n : ℕ) (numbers : List ℕ) (w last : World) (events : List Event)
    → RunsAlone setting n (map brick_of numbers) w events last
    → IsPrintedAs setting w (run setting events w) (line_text setting w (Calm mark numbers) events) 1
calm_printed setting mark n numbers w last [] runs = idle_printed setting mark numbers w
calm_printed setting mark n numbers w last (event ∷ events) runs =
    most_printed setting w (run setting (event ∷ events) w) (text_of setting w (event ∷ events)) 0 1 (omega arith)
    (alone_printed setting n (map brick_of numbers) w last (event ∷ events) runs)

-- what a line prints that speaks of two bricks
suspicion_printed : (setting : Setting) (w : World) (has : Bool) → IsPrintedAs setting w (run setting [] w) (suspicion_text has) 1
suspicion_printed setting w true = nothing_printed setting w 1
suspicion_printed setting w false = idle_printed setting 0 [] w

-- What the events of a line print.
line_printed : (layout : Layout) (w : World) (old new : List MemDisk) (line : Line) (events : List Event) → IsEventsOf layout w old new line events
    → IsPrintedAs (coding layout) w (run (coding layout) events w) (line_text (coding layout) w line events) 1
line_printed layout w old new Nothing events are = of_none (coding layout) w Nothing events are (nothing_printed (coding layout) w 1)
line_printed layout w old new (Invoke b g s access) events are = of_one (coding layout) w (Invoke b g s access) _ events are
line_printed layout w old new (Deliver k fault) events (inl midway) = of_one (coding layout) w (Deliver k fault) _ events midway.events_are
line_printed layout w old new (Deliver k fault) events (inr whole) = of_one (coding layout) w (Deliver k fault) _ events whole.events_are
line_printed layout w old new (SetClock b v) events are = of_one (coding layout) w (SetClock b v) _ events are
line_printed layout w old new (Tick b) events are = of_one (coding layout) w (Tick b) _ events are
line_printed layout w old new (Crash b) events are = of_one (coding layout) w (Crash b) _ events are.0
line_printed layout w old new (Start b fault) events (inl down) = of_one (coding layout) w (Start b fault) _ events down.events_are
line_printed layout w old new (Start b fault) events (inr (inl started)) = of_one (coding layout) w (Start b fault) _ events started.events_are
line_printed layout w old new (Start b fault) events (inr (inr none)) = of_one (coding layout) w (Start b fault) _ events none.events_are
line_printed layout w old new (Propose b g members) events are = of_one (coding layout) w (Propose b g members) _ events are
line_printed layout w old new (Sync b g) events are = of_one (coding layout) w (Sync b g) _ events are
line_printed layout w old new (Scrub b g s members) events are = of_one (coding layout) w (Scrub b g s members) _ events are
line_printed layout w old new (Suspect b c) events are =
    of_none (coding layout) w (Suspect b c) events are (suspicion_printed (coding layout) w (has_both layout.bricks b c))
line_printed layout w old new (Trust b c) events are =
    of_none (coding layout) w (Trust b c) events are (suspicion_printed (coding layout) w (has_both layout.bricks b c))
line_printed layout w old new (Spare b g) events are = of_none (coding layout) w (Spare b g) events are (idle_printed (coding layout) 0 [] w)
line_printed layout w old new (Calm n numbers) events (inl calm) =
    calm_printed (coding layout) n (operation_marked w n) numbers w (run (coding layout) events w) events calm.runs
line_printed layout w old new (Calm n numbers) events (inr none) =
    of_none (coding layout) w (Calm n numbers) events none.1 (idle_printed (coding layout) n numbers w)

-- What the events of a line print that stands for another.
meant_printed : (r : Run) (new : List MemDisk) (line : Line) (events : List Event)
    → IsEventsOf r.layout (world_of r) r.disks new (meant r line) events
    → IsPrintedAs (coding r.layout) (world_of r) (run (coding r.layout) events (world_of r)) (line_text (coding r.layout) (world_of r) line events) 1
meant_printed r new (Spare b g) events are = by (spare_list r b g) are
  where
    by : (o : Option (List BrickId)) → IsEventsOf r.layout (world_of r) r.disks new (proposing_line b g o) events
        → IsPrintedAs (coding r.layout) (world_of r) (run (coding r.layout) events (world_of r)) (line_text (coding r.layout) (world_of r) (Spare b g) events) 1
    by None none = of_none (coding r.layout) (world_of r) (Spare b g) events none (idle_printed (coding r.layout) 0 [] (world_of r))
    by (Some members) one = of_one (coding r.layout) (world_of r) (Spare b g) _ events one
meant_printed r new line events are = line_printed r.layout (world_of r) r.disks new line events are

-- the world that a step leaves
pub after_step : (before after : Run) (line : Line) (step : Step) → Runs before after line step
    → world_of after ≡ run (coding before.layout) step.events (world_of before)
after_step before after line step runs = ap world_of runs.run ∙ world_of-with_step before step after.disks

-- What steps print that were taken one after another.
steps_printed : (r last : Run) (steps : List Step) → LeadsTo r steps last
    → IsPrintedAs (coding r.layout) (world_of r) (run (coding r.layout) (all_events steps) (world_of r)) (steps_text (coding r.layout) (world_of r) steps)
    (length steps)
steps_printed r last [] leads = nothing_printed (coding r.layout) (world_of r) 0
steps_printed r last (step ∷ steps) leads =
    let setting : Setting = coding r.layout in
    let w : World = world_of r in
    let next : World = run setting step.events w in
    let there : world_of leads.0 ≡ next = after_step r leads.0 step.line step leads.1 in
    let layout : leads.0.layout ≡ r.layout = ap (λ (x : Run). x.layout) leads.1.run in
    let rest : IsPrintedAs setting next (run setting (all_events steps) next) (steps_text setting next steps) (length steps) =
    subst (λ (v : World). IsPrintedAs setting v (run setting (all_events steps) v) (steps_text setting v steps) (length steps)) there
    (subst (λ (l : Layout). IsPrintedAs (coding l) (world_of leads.0) (run (coding l) (all_events steps) (world_of leads.0))
    (steps_text (coding l) (world_of leads.0) steps) (length steps)) layout (steps_printed leads.0 last steps leads.2))
    in
    subst (λ (v : World). IsPrintedAs setting w v (steps_text setting w (step ∷ steps)) (suc (length steps)))
    (sym (run-append setting w step.events (all_events steps)))
    (most_printed setting w (run setting (all_events steps) next) (steps_text setting w (step ∷ steps)) (1 + length steps) (suc (length steps)) (omega arith)
    (both_printed setting w next (run setting (all_events steps) next) (step_text setting w step) (steps_text setting next steps) 1 (length steps)
    (meant_printed r leads.0.disks step.line step.events leads.1.events_are) rest))

-- What the steps of a whole schedule print, from fresh bricks on.
pub schedule_printed : (layout : Layout) (schedule : List (List ℕ)) (steps : List Step) → AreStepsOf layout schedule steps
    → IsPrintedAs (coding layout) (first_world layout) (left_by layout steps) (steps_text (coding layout) (first_world layout) steps) (length steps)
schedule_printed layout schedule steps are =
    subst (λ (v : World). IsPrintedAs (coding layout) v (run (coding layout) (all_events steps) v) (steps_text (coding layout) v steps) (length steps))
    (ap world_of are.first_is)
    (subst (λ (l : Layout). IsPrintedAs (coding l) (world_of are.first) (run (coding l) (all_events steps) (world_of are.first))
    (steps_text (coding l) (world_of are.first) steps) (length steps)) (ap (λ (r : Run). r.layout) are.first_is)
    (steps_printed are.first are.last steps are.leads))
