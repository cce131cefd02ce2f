-- The deliveries that an operation makes alone, one after another, as a state shows them.
use Rattle.std.proofs.Common.{◌≡◌, ◌≢◌, ℕ, suc, ◌+◌, ◌<◌, ◌≤◌, Bool, true, false, not, cond, nat_eq, ◌&&◌, ◌||◌, ⊎_elim, List, [], ◌∷◌, ◌++◌, length, drop, append-nil, append_assoc, map, Option, Some, None, is_some, nat_lt, refl, sym, ap, ◌∙◌, subst, arith}
use Rattle.std.specs.Prelude.{slice_get}
use Rattle.std.proofs.lemmas.Bool.{and_parts, eqb-true, eqb-false, eq-eqb, cases_lt}
use Rattle.std.proofs.lemmas.Bool.Decides.{nat_tests}
use Rattle.std.proofs.Math.Seq.{drop-append_seam}
use Rattle.std.proofs.lemmas.List.{drop_all}
use Rattle.std.proofs.lemmas.Option.{slice_get_within}
use Rattle.fab_base.specs.Layouts.{Layout}
use Rattle.fab_base.specs.declared.identities.BrickId.{BrickId}
use Rattle.fab_disk.specs.MemDisk.{content_of}
use Rattle.fab_disk.specs.declared.mem_disk.MemDisk.{MemDisk}
use Rattle.lines.specs.declared.forms.Line.TheVariants.{Deliver}
use Rattle.messages.specs.declared.packets.Message.{Message}
use Rattle.messages.specs.declared.packets.Packet.{Packet}
use Rattle.messages.specs.declared.requests.Request.{Request}
use Rattle.stripe_code.specs.Codes.{coding}
use Rattle.protocol.specs.Settings.{Setting}
use Rattle.protocol.specs.Coordinators.{Coordinator}
use Rattle.protocol.specs.declared.tellings.Report.{Report}
use Rattle.protocol.specs.declared.tellings.Answered.{Answered}
use Rattle.protocol.specs.declared.tellings.Told.{Told}
use Rattle.protocol.specs.declared.tellings.Told.TheVariants.{Made, Seen, Began, Closed}
use Rattle.protocol.specs.Jobs.{Job}
use Rattle.protocol.specs.Scrubs.{Scrub}
use Rattle.protocol.specs.Happenings.{is_marked}
use Rattle.protocol.specs.Nodes.{Node, NodeStep, put, received, job_reading, scrub_of}
use Rattle.protocol.specs.Worlds.{World, Operation, Event, Delivers, is_brick, is_up, number_of, mark_of, packet_of, reports_of, world_told, world_tells, world_answered, world_answers, first_world, happens, run}
use Rattle.reg_model.specs.declared.marks.Mark.{Mark}
use Rattle.reg_model.specs.declared.marks.Mark.TheVariants.{End}
use Rattle.protocol.specs.Calms.{IsCalm, open_at, open_call, operation_of, is_one_of, goes_among, is_left, next_delivery}
use Rattle.world.specs.Calms.{BeginsAlone}
use Rattle.world.specs.Calms as begun
use Rattle.world.specs.Disks.{KeepsDisks}
use Rattle.world.specs.Faults.{StopsMidway, IsDelivered}
use Rattle.world.specs.Deliveries.{NoneLeft, FindsLeft, is_left_at}
use Rattle.world.specs.Runs.{brick_of}
use Rattle.world.specs.Runs.{Course, with_events, world_at}
use Rattle.world.proofs.SimulationLemmas.{course_on}
use Rattle.world.specs.Shown.{world_in, Shows, ComesTo, HasRun, HasBegun, IsReachedBy, IsNumbered, OpensAs, TellsOperation, HasMarks, disks_of, reads_begun, is_empty}
use Rattle.world.specs.Texts.{marks_if, is_deliverable, mark_text, marks_text, reports_text, new_marks, new_reports, outcome_text, event_text, text_of}
use Rattle.world.specs.declared.histories.OperationRecord.{OperationRecord}
use Rattle.world.specs.declared.simulations.Outcome.{Outcome}
use Rattle.world.specs.declared.simulations.Simulation.{Simulation}
use Rattle.world.proofs.CallNumbers.{NumbersSay, AreOfBricks, KnowsCalls, of_bricks}
use Rattle.world.proofs.HavingMarks.{marks_left}
use Rattle.world.proofs.CalmLemmas.{kept_at, kept_within}
use Rattle.world.proofs.CalmRuns.{begins_more, begins_run, runs_ended, runs_stuck, keeps_more, left_as, next_found, next_none}
use Rattle.world.proofs.HistoryLemmas.{heard_keeps}
use Rattle.world.proofs.MachineBegins.{happens_handled}
use Rattle.world.proofs.MachineSteps.{IsQuiet, request_quiet, reply_quiet}
use Rattle.world.proofs.Places.{append_get}
use Rattle.world.proofs.RunLaws.{OwnReadsUnmarked, reached_numbers, reached_numbered, reached_knows, reached_unmarked}
use Rattle.protocol.proofs.Events.{run-append, step_on, world_counting, world_handled}

-- what is told makes no mark, and what is answered adds some
told_marks : (setting : Setting) (nodes : ℕ → Node) (w : World) (brick : BrickId) (told : List Told) → (world_tells setting nodes w brick told).marks ≡ w.marks
told_marks setting nodes w brick [] = refl
told_marks setting nodes w brick (Made seq t base ∷ more) = told_marks setting nodes (world_told setting nodes w brick (Made seq t base)) brick more
told_marks setting nodes w brick (Seen seq v ∷ more) = told_marks setting nodes (world_told setting nodes w brick (Seen seq v)) brick more
told_marks setting nodes w brick (Began call ∷ more) = told_marks setting nodes (world_told setting nodes w brick (Began call)) brick more
told_marks setting nodes w brick (Closed seq cause ∷ more) = told_marks setting nodes (world_told setting nodes w brick (Closed seq cause)) brick more

-- nor does it number a call, where no read begins
told_numbers : (setting : Setting) (nodes : ℕ → Node) (w : World) (brick : BrickId) (told : List Told) → reads_begun told ≡ 0 → (world_tells setting nodes w brick told).numbers ≡ w.numbers
told_numbers setting nodes w brick [] none = refl
told_numbers setting nodes w brick (Made seq t base ∷ more) none = told_numbers setting nodes (world_told setting nodes w brick (Made seq t base)) brick more none
told_numbers setting nodes w brick (Seen seq v ∷ more) none = told_numbers setting nodes (world_told setting nodes w brick (Seen seq v)) brick more none
told_numbers setting nodes w brick (Began call ∷ more) none = absurd (omega (arith, none))
told_numbers setting nodes w brick (Closed seq cause ∷ more) none = told_numbers setting nodes (world_told setting nodes w brick (Closed seq cause)) brick more none

answers_numbers : (w : World) (brick : BrickId) (answers : List Answered) → (world_answers w brick answers).numbers ≡ w.numbers
answers_numbers w brick [] = refl
answers_numbers w brick (one ∷ more) = answers_numbers (world_answered w brick one) brick more

answers_marks : (w : World) (brick : BrickId) (answers : List Answered) → (made : List Mark) × ((world_answers w brick answers).marks ≡ w.marks ++ made)
answers_marks w brick [] = ([], sym (append-nil w.marks))
answers_marks w brick (one ∷ more) =
    let (made, are) = answers_marks (world_answered w brick one) brick more in
    let mark : Mark = End (length w.marks) (mark_of w (number_of w brick.0 one.seq)) one.answer in
    (mark ∷ made, are ∙ append_assoc w.marks (mark ∷ []) made)

-- the text of marks, and of events, one list behind another
marks_text-append : (marks more : List Mark) → marks_text (marks ++ more) ≡ marks_text marks ++ marks_text more
marks_text-append [] more = refl
marks_text-append (mark ∷ marks) more =
    ap (λ (text : List ℕ). mark_text mark ++ text) (marks_text-append marks more) ∙ sym (append_assoc (mark_text mark) (marks_text marks) (marks_text more))

text_of-more : (setting : Setting) (w : World) (events : List Event) (event : Event)
    → text_of setting w (events ++ event ∷ []) ≡ text_of setting w events ++ event_text setting (run setting events w) event
text_of-more setting w [] event = append-nil (event_text setting w event)
text_of-more setting w (first ∷ events) event =
    ap (λ (text : List ℕ). event_text setting w first ++ text) (text_of-more setting (happens setting w first) events event)
    ∙ sym (append_assoc (event_text setting w first) (text_of setting (happens setting w first) events) _)

-- a delivery to a brick that is up: no brick stops, the message was delivered, and messages are added
module _ (setting : Setting) (w : World) (number : ℕ) (packet : Packet) (sent : packet_of w.packets number ≡ Some packet)
    (up : is_up setting.layout w packet.to ≡ true) where
  abbrev step : NodeStep
  step = received setting packet.to (w.clocks packet.to.0) (w.nodes packet.to.0) packet

  abbrev marked : World
  marked = world_counting setting w number packet

  abbrev after_nodes : ℕ → Node
  after_nodes = put w.nodes packet.to.0 step.node

  after_is : happens setting w (Delivers number) ≡ world_handled setting w number packet
  after_is = happens_handled setting w number packet sent up

  reached_after : (k : ℕ) → (happens setting w (Delivers number)).reached k ≡ put w.reached number true k
  reached_after k =
      ap (λ (v : World). v.reached k) after_is
      ∙ ap (λ (f : ℕ → Bool). f k) (heard_keeps setting marked packet.to step).reached

  up_after : (happens setting w (Delivers number)).up ≡ w.up
  up_after =
      ap (λ (v : World). v.up) after_is ∙ (heard_keeps setting marked packet.to step).up

  marks_after : (made : List Mark) × ((happens setting w (Delivers number)).marks ≡ w.marks ++ made)
  marks_after =
      let (made, are) = answers_marks (world_tells setting after_nodes marked packet.to step.told) packet.to step.answers in
      (made, ap (λ (v : World). v.marks) after_is ∙ are ∙ ap (λ (l : List Mark). l ++ made) (told_marks setting after_nodes marked packet.to step.told))

  reports_after : (happens setting w (Delivers number)).choices.reports ≡ w.choices.reports ++ reports_of packet.to step.reports
  reports_after = ap (λ (v : World). v.choices.reports) after_is

  -- the calls keep their numbers, where no read begins
  numbers_after : reads_begun step.told ≡ 0 → (happens setting w (Delivers number)).numbers ≡ w.numbers
  numbers_after none =
      ap (λ (v : World). v.numbers) after_is ∙ answers_numbers (world_tells setting after_nodes marked packet.to step.told) packet.to step.answers
      ∙ told_numbers setting after_nodes marked packet.to step.told none

  -- of one that reports nothing
  module _ (quiet : step.reports ≡ []) where
    reports_stay : (happens setting w (Delivers number)).choices.reports ≡ w.choices.reports
    reports_stay =
        reports_after ∙ ap (λ (reports : List Report). w.choices.reports ++ reports_of packet.to reports) quiet ∙ append-nil w.choices.reports

    none_new : new_reports w (happens setting w (Delivers number)) ≡ []
    none_new = ap (drop (length w.choices.reports)) reports_stay ∙ drop_all (length w.choices.reports) w.choices.reports (omega arith)

    text_after : event_text setting w (Delivers number) ≡ marks_text marks_after.0
    text_after =
        let next : World = happens setting w (Delivers number) in
        ap (λ (o : Outcome). outcome_text o (new_marks w next) (new_reports w next))
        (ap (λ (p : Option Packet). marks_if (is_deliverable setting w p)) sent ∙ ap marks_if up)
        ∙ ap (λ (reports : List (BrickId × Report)). marks_text (new_marks w next) ++ reports_text reports) none_new
        ∙ append-nil (marks_text (new_marks w next))
        ∙ ap marks_text (ap (drop (length w.marks)) marks_after.1 ∙ drop-append_seam w.marks marks_after.0)

  packets_after : (happens setting w (Delivers number)).packets ≡ w.packets ++ step.packets
  packets_after = ap (λ (v : World). v.packets) after_is

-- the operation of a message goes by the numbers of calls
same_operation : (w v : World) → v.numbers ≡ w.numbers → (packet : Packet) → operation_of v packet ≡ operation_of w packet
same_operation w v same packet = by_message packet.from packet.to packet.message
  where
    by_message : (from to : BrickId) (message : Message)
        → operation_of v (record { from = from; to = to; message = message }) ≡ operation_of w (record { from = from; to = to; message = message })
    by_message from to (Message.Request call request) = ap (λ (f : ℕ → ℕ → ℕ → ℕ). f from.0 call.boot call.seq) same
    by_message from to (Message.Reply call reply) = ap (λ (f : ℕ → ℕ → ℕ → ℕ). f to.0 call.boot call.seq) same
    by_message from to message = refl

-- none of the messages before this place is left
abbrev pub SeenTo : World → ℕ → List BrickId → ℕ → Type 0
SeenTo v n bricks place = (k : ℕ) (packet : Packet) → k < place → slice_get v.packets k ≡ Some packet → is_left v n bricks (k + 1) packet ≡ false

-- the first message that was left is left no more, and none before it is
seen_after : (setting : Setting) (w : World) (n : ℕ) (bricks : List BrickId) (place : ℕ) (packet : Packet) → slice_get w.packets place ≡ Some packet
    → is_up setting.layout w packet.to ≡ true → reads_begun (step_on setting w packet).told ≡ 0 → SeenTo w n bricks place
    → SeenTo (happens setting w (Delivers (place + 1))) n bricks (place + 1)
seen_after setting w n bricks place packet at up none seen k one less is = by_place (nat_eq k place) refl
  where
    number : place + 1 ≡ suc place
    number = omega arith

    sent : packet_of w.packets (place + 1) ≡ Some packet
    sent = ap (packet_of w.packets) number ∙ at

    v : World
    v = happens setting w (Delivers (place + 1))

    was : slice_get w.packets k ≡ Some one
    was =
        append_get w.packets (step setting w (place + 1) packet sent up).packets k one (omega (arith, less, slice_get_within w.packets place packet at))
        (ap (λ (l : List Packet). slice_get l k) (sym (packets_after setting w (place + 1) packet sent up)) ∙ is)

    its : operation_of v one ≡ operation_of w one
    its = same_operation w v (numbers_after setting w (place + 1) packet sent up none) one

    no_more : (a b : Bool) → a && (not true && b) ≡ false
    no_more true b = refl
    no_more false b = refl

    by_place : (b : Bool) → nat_eq k place ≡ b → is_left v n bricks (k + 1) one ≡ false
    by_place true same =
        let here : nat_eq (k + 1) (place + 1) ≡ true = eq-eqb (k + 1) (place + 1) (ap (λ (i : ℕ). i + 1) (eqb-true k place same)) in
        ap (λ (b : Bool). nat_eq (operation_of v one) n && (not b && goes_among bricks one))
        (reached_after setting w (place + 1) packet sent up (k + 1) ∙ ap (λ (b : Bool). cond b true (w.reached (k + 1))) here)
        ∙ no_more (nat_eq (operation_of v one) n) (goes_among bricks one)
    by_place false other =
        let apart : k ≢ place = eqb-false k place other in
        let there : nat_eq (k + 1) (place + 1) ≡ false = (let e : nat_eq k place ≡ false = other in grind (arith, nat_tests)) in
        ap (λ (b : Bool). nat_eq (operation_of v one) n && (not b && goes_among bricks one))
        (reached_after setting w (place + 1) packet sent up (k + 1) ∙ ap (λ (b : Bool). cond b true (w.reached (k + 1))) there)
        ∙ ap (λ (m : ℕ). nat_eq m n && (not (w.reached (k + 1)) && goes_among bricks one)) its
        ∙ seen k one (omega (arith, less, apart)) was

-- the brick of an open operation is up, is of its boot, and has its call open
record HasOpen (w : World) (o : Operation) : Type 0 where
  up : w.up o.brick.0 ≡ true
  boot : (w.nodes o.brick.0).boot ≡ o.boot
  coordinator : Coordinator
  call : (w.nodes o.brick.0).calls o.seq ≡ Some coordinator

has_open : (w : World) (n : ℕ) (o : Operation) → is_some (open_call w n) ≡ true → w.operations n ≡ Some o → HasOpen w o
has_open w n o opens is =
    by_up (w.up o.brick.0) refl (nat_eq (w.nodes o.brick.0).boot o.boot) refl ((w.nodes o.brick.0).calls o.seq) refl
    (ap (λ (found : Option Operation). is_some (open_at w found)) (sym is) ∙ opens)
  where
    by_up : (x : Bool) → w.up o.brick.0 ≡ x → (y : Bool) → nat_eq (w.nodes o.brick.0).boot o.boot ≡ y → (z : Option Coordinator)
        → (w.nodes o.brick.0).calls o.seq ≡ z → is_some (cond (x && y) z None) ≡ true → HasOpen w o
    by_up true up true same (Some c) call goes =
        record { up = up; boot = eqb-true (w.nodes o.brick.0).boot o.boot same; coordinator = c; call = call }
    by_up true up true same None call goes = absurd (let never : false ≡ true = goes in cc)
    by_up true up false other z call goes = absurd (let never : false ≡ true = goes in cc)
    by_up false down y same z call goes = absurd (let never : false ≡ true = goes in cc)

-- the call of an operation that has marks is no read of its brick's synchronisation
not_reading : (w : World) (i n seq : ℕ) (o : Operation) (job : Option Job) → OwnReadsUnmarked w → (w.nodes i).job ≡ job → w.operations n ≡ Some o
    → number_of w i seq ≡ n → is_marked o ≡ true → job_reading job seq ≡ None
not_reading w i n seq o None unmarked is at number marked = refl
not_reading w i n seq o (Some job) unmarked is at number marked = by_call (nat_eq job.seq seq) refl
  where
    by_call : (b : Bool) → nat_eq job.seq seq ≡ b → cond b (Some job) None ≡ None
    by_call false other = refl
    by_call true same =
        let own : w.operations (number_of w i job.seq) ≡ Some o =
        ap (λ (k : ℕ). w.operations (number_of w i k)) (eqb-true job.seq seq same) ∙ ap w.operations number ∙ at in
        let none : o.mark ≡ 0 = unmarked.jobs i job is o own in
        let never : true ≡ false = sym marked ∙ ap (λ (m : ℕ). nat_lt 0 m) none in
        absurd (let e : true ≡ false = never in cc)

-- nor is it its brick's scrub
not_scrubbing : (w : World) (i n seq : ℕ) (o : Operation) (scrub : Option Scrub) → OwnReadsUnmarked w → (w.nodes i).scrub ≡ scrub
    → w.operations n ≡ Some o → number_of w i seq ≡ n → is_marked o ≡ true → scrub_of scrub seq ≡ None
not_scrubbing w i n seq o None unmarked is at number marked = refl
not_scrubbing w i n seq o (Some scrub) unmarked is at number marked = by_call (nat_eq scrub.seq seq) refl
  where
    by_call : (b : Bool) → nat_eq scrub.seq seq ≡ b → cond b (Some scrub) None ≡ None
    by_call false other = refl
    by_call true same =
        let own : w.operations (number_of w i scrub.seq) ≡ Some o =
        ap (λ (k : ℕ). w.operations (number_of w i k)) (eqb-true scrub.seq seq same) ∙ ap w.operations number ∙ at in
        let none : o.mark ≡ 0 = unmarked.scrubs i scrub is o own in
        let never : true ≡ false = sym marked ∙ ap (λ (m : ℕ). nat_lt 0 m) none in
        absurd (let e : true ≡ false = never in cc)

-- a message of an open operation that has marks has its receiver report nothing, and begin no read
message_as_quiet : (setting : Setting) (w : World) (n : ℕ) (from to : BrickId) (message : Message) → NumbersSay w → OwnReadsUnmarked w → HasMarks w n
    → IsNumbered w → n ≢ 0 → is_some (open_call w n) ≡ true
    → operation_of w (record { from = from; to = to; message = message }) ≡ n
    → IsQuiet (step_on setting w (record { from = from; to = to; message = message }))
unfolding received
message_as_quiet setting w n from to (Message.Request call request) says unmarked having numbered some opens its =
    request_quiet setting to from (w.nodes to.0) call request
message_as_quiet setting w n from to (Message.Reply call reply) says unmarked having numbered some opens its =
    let found = says to.0 call.boot call.seq (λ none. some (sym its ∙ none)) in
    let at : w.operations n ≡ Some found.1.0 = ap w.operations (sym its) ∙ found.1.1 in
    let has = has_open w n found.1.0 opens at in
    let called : (w.nodes to.0).calls call.seq ≡ Some has.coordinator =
    ap (λ (k : ℕ). (w.nodes to.0).calls k) (sym found.1.2.2) ∙ ap (λ (i : ℕ). (w.nodes i).calls found.1.0.seq) (sym found.1.2.0) ∙ has.call in
    let own : has.coordinator.call.seq ≡ call.seq = (numbered to.0 call.seq has.coordinator called).0 in
    let boot : (w.nodes to.0).boot ≡ call.boot =
    ap (λ (i : ℕ). (w.nodes i).boot) (sym found.1.2.0) ∙ has.boot ∙ found.1.2.1 in
    let number : number_of w to.0 has.coordinator.call.seq ≡ n =
    ap (λ (k : ℕ). number_of w to.0 k) own ∙ ap (λ (b : ℕ). w.numbers to.0 b call.seq) boot ∙ its in
    reply_quiet setting to (w.clocks to.0) from (w.nodes to.0) call reply has.coordinator called
    (not_reading w to.0 n has.coordinator.call.seq found.1.0 (w.nodes to.0).job unmarked refl at number (having found.1.0 at))
    (not_scrubbing w to.0 n has.coordinator.call.seq found.1.0 (w.nodes to.0).scrub unmarked refl at number (having found.1.0 at))
message_as_quiet setting w n from to message says unmarked having numbered some opens its = absurd (some (sym its))

message_quiet : (setting : Setting) (w : World) (n : ℕ) (packet : Packet) → NumbersSay w → OwnReadsUnmarked w → HasMarks w n → IsNumbered w → n ≢ 0
    → is_some (open_call w n) ≡ true → operation_of w packet ≡ n → IsQuiet (step_on setting w packet)
message_quiet setting w n packet says unmarked having numbered some opens its =
    message_as_quiet setting w n packet.from packet.to packet.message says unmarked having numbered some opens its

-- one of these bricks is up, where each is
among_up : (layout : Layout) (w : World) (bricks : List BrickId) → ((k : ℕ) (brick : BrickId) → slice_get bricks k ≡ Some brick → is_up layout w brick ≡ true)
    → (to : BrickId) → is_one_of bricks to ≡ true → is_up layout w to ≡ true
among_up layout w [] ups to some = absurd (let never : false ≡ true = some in cc)
among_up layout w (one ∷ bricks) ups to some =
    by_first (nat_eq one.0 to.0) refl (among_up layout w bricks (λ k brick at. ups (suc k) brick at) to)
  where
    by_first : (b : Bool) → nat_eq one.0 to.0 ≡ b → (is_one_of bricks to ≡ true → is_up layout w to ≡ true) → is_up layout w to ≡ true
    by_first true same more = subst (λ (i : ℕ). is_up layout w (brick_of i) ≡ true) (eqb-true one.0 to.0 same) (ups 0 one refl)
    by_first false other more = more (ap (λ (b : Bool). b || is_one_of bricks to) (sym other) ∙ some)

-- a message that is left is for a brick that is up
receiver_up : (layout : Layout) (w : World) (n : ℕ) (bricks : List BrickId) (packet : Packet) → NumbersSay w → AreOfBricks layout w → n ≢ 0
    → is_some (open_call w n) ≡ true → ((k : ℕ) (brick : BrickId) → slice_get bricks k ≡ Some brick → is_up layout w brick ≡ true)
    → operation_of w packet ≡ n → goes_among bricks packet ≡ true → is_up layout w packet.to ≡ true
receiver_up layout w n bricks packet says of_brick some opens ups = by_message packet.from packet.to packet.message
  where
    by_message : (from to : BrickId) (message : Message) → operation_of w (record { from = from; to = to; message = message }) ≡ n
        → goes_among bricks (record { from = from; to = to; message = message }) ≡ true → is_up layout w to ≡ true
    by_message from to (Message.Request call (Request.Collect t)) its goes = absurd (let never : false ≡ true = goes in cc)
    by_message from to (Message.Request call request) its goes = among_up layout w bricks ups to goes
    by_message from to (Message.Reply call reply) its goes =
        let found = says to.0 call.boot call.seq (λ none. some (sym its ∙ none)) in
        let is : w.operations n ≡ Some found.1.0 = ap w.operations (sym its) ∙ found.1.1 in
        let up : w.up found.1.0.brick.0 ≡ true = (has_open w n found.1.0 opens is).up in
        let there : is_up layout w found.1.0.brick ≡ true = ap (λ (b : Bool). b && w.up found.1.0.brick.0) (of_brick n found.1.0 is) ∙ up in
        subst (λ (i : ℕ). is_up layout w (brick_of i) ≡ true) found.1.2.0 there
    by_message from to message its goes = absurd (let never : false ≡ true = goes in cc)

-- a delivery that nothing befalls is one event
pub one_delivery : (layout : Layout) (w : World) (disks : List MemDisk) (next : Simulation) (number : ℕ) (outcome : Outcome) (events : List Event)
    → ComesTo layout w disks next (Deliver number None) outcome events → events ≡ Delivers number ∷ []
one_delivery layout w disks next number outcome events comes = ⊎_elim
    (λ (stops : StopsMidway layout w disks (disks_of next.bricks.items) number None events). absurd (omega (arith, stops.struck.reached.within.some)))
    (λ (is : IsDelivered layout w disks number None events). is.events_are) comes.are

-- The deliveries so far were made alone, and none of the messages that were looked at is left.
pub record SoFar (layout : Layout) (w : World) (n : ℕ) (numbers : List ℕ) (disks : List MemDisk) (state : Simulation) (from : ℕ) (some : Bool) (events : List Event) : Type 0 where
  pub last : World
  pub begins : BeginsAlone (coding layout) n (map brick_of numbers) w events last
  pub reached : IsReachedBy layout last
  pub shows : Shows layout state last
  pub kept : KeepsDisks (coding layout) w events disks (disks_of state.bricks.items)
  pub some_is : some ≡ not (is_empty events)
  pub made : List Mark
  pub marks : last.marks ≡ w.marks ++ made
  pub prints : text_of (coding layout) w events ≡ marks_text made
  pub reports : last.choices.reports ≡ w.choices.reports
  pub marked : HasMarks last n
  pub up : last.up ≡ w.up
  pub seen : SeenTo last n (map brick_of numbers) from

-- an event more is some
some_more : (events : List Event) (event : Event) → true ≡ not (is_empty (events ++ event ∷ []))
some_more [] event = refl
some_more (first ∷ events) event = refl

-- there is none at first
pub none_yet : (layout : Layout) (w : World) (n : ℕ) (numbers : List ℕ) (state : Simulation) → IsReachedBy layout w → Shows layout state w
    → HasMarks w n → SoFar layout w n numbers (disks_of state.bricks.items) state 0 false []
none_yet layout w n numbers state reached shows marked = record {
  last = w;
  begins = begun.Here w;
  reached = reached;
  shows = shows;
  kept = refl;
  some_is = refl;
  made = [];
  marks = sym (append-nil w.marks);
  prints = refl;
  reports = refl;
  marked = marked;
  up = refl;
  seen = λ k packet less at. absurd (omega arith);
}

-- it is the world that the state has come to
pub come_so : (layout : Layout) (old state : Simulation) (n : ℕ) (numbers : List ℕ) (disks : List MemDisk) (from : ℕ) (some : Bool) (events : List Event)
    → (so : SoFar layout (world_in layout old) n numbers disks state from some events) → state.trail.course ≡ with_events old.trail.course events
    → so.last ≡ world_in layout state
come_so layout old state n numbers disks from some events so course =
    begins_run (coding layout) n (map brick_of numbers) (world_in layout old) so.last events so.begins
    ∙ sym (ap (λ (x : Course). world_at layout x) course ∙ course_on layout old.trail.course events)

module _ (layout : Layout) (w : World) (n : ℕ) (numbers : List ℕ) (disks : List MemDisk) (state : Simulation) (from : ℕ) (some : Bool)
    (events : List Event) (may : IsCalm (coding layout) w n (map brick_of numbers)) (so : SoFar layout w n numbers disks state from some events) where
  abbrev bricks : List BrickId
  bricks = map brick_of numbers

  prints_new : text_of (coding layout) w events ≡ marks_text (new_marks w so.last)
  prints_new = so.prints ∙ ap marks_text (sym (ap (drop (length w.marks)) so.marks ∙ drop-append_seam w.marks so.made))

  -- the operation has ended
  pub has_ended : OpensAs state so.last n None → HasRun layout w n bricks disks state some events
  has_ended ended = record {
    some_is = so.some_is;
    prints = prints_new;
    reports = so.reports;
    last = so.last;
    runs = runs_ended (coding layout) n bricks w so.last events so.begins ended;
    shows = so.shows;
    kept = so.kept;
  }

  -- it is open, and began there
  module _ (kept : OperationRecord) (opens : OpensAs state so.last n (Some kept)) where
    noted : (o : Operation) × (so.last.operations n ≡ Some o) × TellsOperation kept o × (n ≢ 0)
    noted = kept_at so.last state.history n kept so.shows.history opens.1

    says : NumbersSay so.last
    says = reached_numbers layout so.last so.reached

    knows : KnowsCalls so.last
    knows = reached_knows layout so.last so.reached

    -- what is left is what the history tells
    left_is : (k : ℕ) (packet : Packet) → is_left so.last n bricks (k + 1) packet ≡ is_left_at state.history.delivered.reached.items kept numbers k packet
    left_is =
        left_as so.last n noted.0 says knows noted.3 noted.1 state.history kept so.shows.history noted.2 numbers

    none_before : NoneLeft state.history.delivered.reached.items kept numbers so.last.packets 0 from
    none_before k packet least less at = sym (left_is k packet) ∙ so.seen k packet less at

    -- none of its messages is left
    pub has_stuck : FindsLeft state.history.delivered.reached.items kept numbers from so.last.packets None
        → HasRun layout w n bricks disks state some events
    has_stuck none = record {
      some_is = so.some_is;
      prints = prints_new;
      reports = so.reports;
      last = so.last;
      runs =
          runs_stuck (coding layout) n bricks w so.last events so.begins opens.0
          (next_none so.last n noted.0 says knows noted.3 noted.1 state.history kept so.shows.history noted.2 numbers from
          none_before none);
      shows = so.shows;
      kept = so.kept;
    }

    -- one is, and is delivered
    pub goes_on : (place : ℕ) (next : Simulation) (outcome : Outcome)
        → FindsLeft state.history.delivered.reached.items kept numbers from so.last.packets (Some place)
        → ComesTo layout so.last (disks_of state.bricks.items) next (Deliver (place + 1) None) outcome (Delivers (place + 1) ∷ [])
        → SoFar layout w n numbers disks next (place + 1) true (events ++ Delivers (place + 1) ∷ [])
    goes_on place next outcome found comes = record {
      last = happens (coding layout) so.last (Delivers (place + 1));
      begins = begins_more (coding layout) n bricks w so.last events (place + 1) so.begins opens.0 its_next;
      reached = (so.reached.0 ++ Delivers (place + 1) ∷ [], reached_is);
      shows = comes.shows;
      kept =
          keeps_more (coding layout) w events (Delivers (place + 1) ∷ []) disks (disks_of state.bricks.items) (disks_of next.bricks.items) so.kept
          (subst (λ (v : World). KeepsDisks (coding layout) v (Delivers (place + 1) ∷ []) (disks_of state.bricks.items) (disks_of next.bricks.items))
          (begins_run (coding layout) n bricks w so.last events so.begins) comes.kept);
      some_is = some_more events (Delivers (place + 1));
      made = so.made ++ (marks_after (coding layout) so.last (place + 1) packet sent up).0;
      marks =
          (marks_after (coding layout) so.last (place + 1) packet sent up).1
          ∙ ap (λ (l : List Mark). l ++ (marks_after (coding layout) so.last (place + 1) packet sent up).0) so.marks
          ∙ append_assoc w.marks so.made (marks_after (coding layout) so.last (place + 1) packet sent up).0;
      prints =
          text_of-more (coding layout) w events (Delivers (place + 1))
          ∙ ap (λ (text : List ℕ). text ++ event_text (coding layout) (run (coding layout) events w) (Delivers (place + 1))) so.prints
          ∙ ap (λ (text : List ℕ). marks_text so.made ++ text)
          (ap (λ (v : World). event_text (coding layout) v (Delivers (place + 1))) (sym (begins_run (coding layout) n bricks w so.last events so.begins))
          ∙ text_after (coding layout) so.last (place + 1) packet sent up quiet.reports)
          ∙ sym (marks_text-append so.made (marks_after (coding layout) so.last (place + 1) packet sent up).0);
      reports = reports_stay (coding layout) so.last (place + 1) packet sent up quiet.reports ∙ so.reports;
      marked = (marks_left (coding layout) so.last (place + 1) n within so.marked).1;
      up = up_after (coding layout) so.last (place + 1) packet sent up ∙ so.up;
      seen = seen_after (coding layout) so.last n bricks place packet at up quiet.reads before;
    }
      where
        packet : Packet
        packet = found.2.0

        at : slice_get so.last.packets place ≡ Some packet
        at = found.2.1

        sent : packet_of so.last.packets (place + 1) ≡ Some packet
        sent = ap (packet_of so.last.packets) (let e : place + 1 ≡ suc place = omega arith in e) ∙ at

        left : is_left so.last n bricks (place + 1) packet ≡ true
        left = left_is place packet ∙ found.2.2

        goes : not (so.last.reached (place + 1)) && goes_among bricks packet ≡ true
        goes = (and_parts (nat_eq (operation_of so.last packet) n) (not (so.last.reached (place + 1)) && goes_among bricks packet) left).1

        ready_up : (k : ℕ) (brick : BrickId) → slice_get bricks k ≡ Some brick → is_up layout so.last brick ≡ true
        ready_up k brick there = ap (λ (f : ℕ → Bool). is_brick layout brick && f brick.0) so.up ∙ (may.ready k brick there).up

        its : operation_of so.last packet ≡ n
        its =
            eqb-true (operation_of so.last packet) n
            (and_parts (nat_eq (operation_of so.last packet) n) (not (so.last.reached (place + 1)) && goes_among bricks packet) left).0

        quiet : IsQuiet (step_on (coding layout) so.last packet)
        quiet =
            message_quiet (coding layout) so.last n packet says (reached_unmarked layout so.last so.reached) so.marked
            (reached_numbered layout so.last so.reached) noted.3 opens.0 its

        within : n ≤ so.last.begun
        within = kept_within so.last state.history n kept so.shows.history opens.1

        up : is_up layout so.last packet.to ≡ true
        up =
            receiver_up layout so.last n bricks packet says
            (subst (AreOfBricks layout) (sym so.reached.1) (of_bricks layout so.reached.0)) noted.3 opens.0 ready_up its
            (and_parts (not (so.last.reached (place + 1))) (goes_among bricks packet) goes).1

        before : SeenTo so.last n bricks place
        before k one less is = ⊎_elim
            (λ (earlier : k < from). so.seen k one earlier is)
            (λ (later : from ≤ k). left_is k one ∙ found.1 k one later less is) (cases_lt k from)

        its_next : next_delivery so.last n bricks ≡ Some (place + 1)
        its_next =
            next_found so.last n noted.0 says knows noted.3 noted.1 state.history kept so.shows.history noted.2 numbers from
            place none_before found

        reached_is : happens (coding layout) so.last (Delivers (place + 1))
            ≡ run (coding layout) (so.reached.0 ++ Delivers (place + 1) ∷ []) (first_world layout)
        reached_is =
            ap (λ (v : World). happens (coding layout) v (Delivers (place + 1))) so.reached.1
            ∙ sym (run-append (coding layout) (first_world layout) so.reached.0 (Delivers (place + 1) ∷ []))

  -- no memory was left for a delivery
  pub has_begun : (next : Simulation) → Shows layout next so.last
      → map content_of (disks_of next.bricks.items) ≡ map content_of (disks_of state.bricks.items) → HasBegun layout w n bricks disks next events
  has_begun next shows contents = record {
    last = so.last;
    begins = so.begins;
    shows = shows;
    kept = record { mid = disks_of state.bricks.items; kept = so.kept; contents = contents };
  }
