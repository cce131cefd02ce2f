-- What a world keeps, and the machine's world that it shows.
use Rattle.std.specs.Prelude.{◌≡◌, ◌⊎◌, ℕ, zero, suc, ◌+◌, ◌<◌, ◌≤◌, ◌&&◌, Bool, true, false, not, nat_eq, nat_lt, if◌then◌else◌, List, [], ◌∷◌, length, map, Option, Some, None, is_some, Result, Ok, Err, option_and_then, unwrap_or, get_or, slice_get, vec_len, vec_capacity}
use Rattle.std.specs.Bool.{Decides}
use Rattle.std.specs.declared.cmp.Ordering.{Ordering}
use Rattle.std.specs.Ordering.{nat_cmp, ordering_then}
use Rattle.std.specs.List.{AllByRecursion, list_any}
use Rattle.std.specs.Option.{option_map}
use Rattle.fab_base.specs.declared.faults.NoMem.{NoMem}
use Rattle.fab_base.specs.declared.identities.BrickId.{BrickId}
use Rattle.fab_base.specs.declared.member_lists.View.{View}
use Rattle.fab_base.specs.declared.stamps.Stamp.{Stamp}
use Rattle.fab_disk.specs.MemDisk.{IsSound, content_of}
use Rattle.fab_disk.specs.declared.mem_disk.MemDisk.{MemDisk}
use Rattle.brick_store.specs.Openings.{calls_on_opening}
use Rattle.node.specs.Calls.{packet_calls}
use Rattle.node.specs.Running.{Running, state_of, shape_at}
use Rattle.fab_base.specs.Layouts.{Layout}
use Rattle.frame_store.specs.Layouts.{formed}
use Rattle.protocol.specs.Coordinators.{Coordinator}
use Rattle.protocol.specs.Nodes as machine
use Rattle.protocol.specs.declared.tellings.Answered.{Answered}
use Rattle.protocol.specs.declared.tellings.Report.{Report}
use Rattle.protocol.specs.declared.tellings.Told.{Told}
use Rattle.protocol.specs.declared.tellings.Told.TheVariants as told
use Rattle.protocol.specs.Worlds.{World, Operation, is_up, number_of, first_brick, first_world, has_old_stores, happens, run}
use Rattle.protocol.specs.Happenings.{is_marked, writes}
use Rattle.protocol.specs.Settings.{Setting}
use Rattle.protocol.specs.Worlds.{Event}
use Rattle.world.specs.Runs.{brick_of, with_events, world_at}
use Rattle.world.specs.CallNumbers.{AreCalls, HasCallRoom, calls_in}
use Rattle.world.specs.Faults.{HoldsOne, IsEventsOf, IsStartOf, IsLeft, IsLeftOpening, IsReached, IsReachedOpening, Finds, plan_of, found_of}
use Rattle.world.specs.Disks.{ShowsDisk, IsFreshList, IsUnwritten, KeepsDisks, LeavesContents, ListsPacket, ListsOpening}
use Rattle.lines.specs.declared.forms.Fault.{Fault}
use Rattle.lines.specs.declared.forms.Line.{Line}
use Rattle.lines.specs.declared.forms.Line.TheVariants.{Suspect, Trust, Spare, Calm, Deliver}
use Rattle.messages.specs.declared.packets.Packet.{Packet}
use Rattle.coord_phase.specs.Messages.{packets_from}
use Rattle.node.specs.Outcomes.{Outcome as Sent}
use Rattle.stripe_code.specs.Codes.{coding}
use Rattle.protocol.specs.Calms.{IsCalm, IsEarly, RunsAlone, early, open_call, operation_marked}
use Rattle.world.specs.Calms.{BeginsCalm, BeginsAlone}
use Rattle.world.specs.Texts.{outcome_of, outcome_text, new_marks, new_reports, marks_text, line_text, text_of}
use Rattle.world.specs.declared.simulations.Outcome.{Outcome}
use Rattle.world.specs.declared.simulations.Outcome.TheVariants.{Marks, Idle}
use Rattle.world.specs.declared.histories.History.{History}
use Rattle.world.specs.declared.histories.OperationRecord.{OperationRecord}
use Rattle.world.specs.declared.bricks.Brick.{Brick}
use Rattle.world.specs.declared.bricks.Power.{Power}
use Rattle.world.specs.declared.bricks.Power.TheVariants.{Up, Down}
use Rattle.world.specs.declared.simulations.Simulation.{Simulation}

-- pairs of numbers compare by the first, and then by the second
abbrev pub pair_cmp : ℕ × ℕ → ℕ × ℕ → Ordering
pair_cmp x y = ordering_then (nat_cmp x.0 y.0) (nat_cmp x.1 y.1)

-- what is kept of an operation is the machine's
pub record TellsOperation (kept : OperationRecord) (o : Operation) : Type 0 where
  pub brick : kept.brick ≡ o.brick
  pub boot : kept.boot ≡ o.boot
  pub seq : kept.seq ≡ o.seq
  pub begin : kept.begin ≡ o.begin
  pub group : kept.group ≡ o.ask.group
  pub stripe : kept.stripe ≡ o.ask.stripe
  pub version : kept.version ≡ o.version
  pub made : kept.made ≡ o.made
  pub base : kept.base ≡ o.base
  pub writes : kept.writes ≡ writes o.ask.op
  pub answered : kept.answered ≡ o.answered
  pub mark : kept.mark ≡ o.mark

-- what is kept of the operation of a number
abbrev pub record_at : List OperationRecord → ℕ → Option OperationRecord
record_at kept zero = None
record_at kept (suc n) = slice_get kept n

-- what is kept of the operation of a number is the machine's, or there is none
abbrev pub TellsOne : Option OperationRecord → Option Operation → Type 0
TellsOne None None = Unit {0}
TellsOne (Some kept) (Some o) = TellsOperation kept o
TellsOne kept o = ⊥

-- so of each number
abbrev pub TellsOperations : List OperationRecord → (ℕ → Option Operation) → Type 0
TellsOperations kept operations = (n : ℕ) → TellsOne (record_at kept n) (operations n)

-- the number at the place of a mark's, from 1; 0 where there is none
abbrev pub number_at : List ℕ → ℕ → ℕ
number_at numbers zero = 0
number_at numbers (suc k) = get_or numbers k 0

-- these are the numbers of the operations that have marks, in the order of their Begins
pub record AreMarked (numbers : List ℕ) (w : World) : Type 0 where
  pub count : length numbers ≡ w.marked
  pub each : (mark : ℕ) → number_at numbers mark ≡ operation_marked w mark

-- the number of the marks of the operation of a number
abbrev pub mark_of_kept : ℕ → Option OperationRecord → ℕ
mark_of_kept n None = n
mark_of_kept n (Some kept) = kept.mark

abbrev pub mark_kept : List OperationRecord → ℕ → ℕ
mark_kept kept n = mark_of_kept n (record_at kept n)

-- what is kept of an operation that made a version, on this base
abbrev pub made_kept : Stamp → Option Stamp → OperationRecord → OperationRecord
made_kept stamp base kept = record kept { version = Some stamp; made = true; base = base }

-- what is kept of an operation that ended
abbrev pub ended_kept : Bool → OperationRecord → OperationRecord
ended_kept answered kept = record kept { answered = answered }

-- what is kept of an operation that read a version at once
abbrev pub seen_kept : Stamp → OperationRecord → OperationRecord
seen_kept stamp kept = record kept { version = Some stamp }

-- what is kept of the operation of a number changed, and of no other
abbrev pub ChangesAt : List OperationRecord → List OperationRecord → ℕ → (OperationRecord → OperationRecord) → Type 0
ChangesAt old new number change =
    (n : ℕ) → slice_get new n ≡ (if nat_eq (n + 1) number then option_map change (slice_get old n) else slice_get old n)

-- A brick that runs: it is this brick of this layout, the machine sees this of it, its disk keeps it, it is not
-- halted, and its disk is sound.
pub record IsRunning (layout : Layout) (me : BrickId) (state : machine.Node) (node : Running MemDisk) : Type 0 where
  pub layout_is : node.layout ≡ layout
  pub me_is : node.me ≡ me
  pub state_is : state_of node ≡ state
  pub kept : ShowsDisk layout me state node.brick.disk
  pub runs : node.brick.halted ≡ false
  pub sound : IsSound node.brick.disk

-- a disk at rest: it holds one of the two that the stop of its brick left possible, of as many openings, and is sound
pub record Rests (layout : Layout) (me : BrickId) (state after : machine.Node) (disk : MemDisk) : Type 0 where
  pub holds : HoldsOne layout me state after disk
  pub boots : after.boot ≡ state.boot
  pub sound : IsSound disk

-- a brick whose store was made, and not opened yet
abbrev pub unopened : Layout → machine.Node
unopened layout = record (machine.first_node layout) { boot = 0 }

-- the brick is up and runs, or it is down and its disk is at rest
abbrev pub ShowsPower : Layout → BrickId → machine.Node → machine.Node → Bool → Power → Type 0
ShowsPower layout me state after up (Up node) = (up ≡ true) × IsRunning layout me state node
ShowsPower layout me state after up (Down disk) = (up ≡ false) × Rests layout me state after disk

-- the disk of a brick
abbrev pub disk_in : Power → MemDisk
disk_in (Up node) = node.brick.disk
disk_in (Down disk) = disk

-- the disks of bricks
abbrev pub disks_of : List Brick → List MemDisk
disks_of bricks = map (λ brick. disk_in brick.power) bricks

-- The brick of a number is the machine's, it is up or not, and its clock reads this time.
pub record ShowsBrick (layout : Layout) (i : ℕ) (brick : Brick) (node after : machine.Node) (up : Bool) (time : ℕ) : Type 0 where
  pub power : ShowsPower layout (brick_of i) node after up brick.power
  pub clock : brick.clock ≡ time

-- The bricks, which of them are up, and their clocks show the machine's: there is one for each number of the
-- layout.
pub record ShowsBricks (layout : Layout) (bricks : List Brick) (nodes after : ℕ → machine.Node) (up : ℕ → Bool) (clocks : ℕ → ℕ) : Type 0 where
  pub count : length bricks ≡ layout.bricks
  pub each : (i : ℕ) (brick : Brick) → slice_get bricks i ≡ Some brick → ShowsBrick layout i brick (nodes i) (after i) (up i) (clocks i)

-- A brick as the first world has it: its clock at 0, and up, and the list of its disk as long as the first opening left it; or its store is of the old format,
-- and was not opened yet.
pub record IsFreshBrick (layout : Layout) (i : ℕ) (brick : Brick) : Type 0 where
  pub shows : ShowsBrick layout i brick (first_brick layout) (first_brick layout) (not (has_old_stores layout)) 0
  pub listed : IsFreshList (has_old_stores layout) (shape_at layout (brick_of i)) (content_of (disk_in brick.power))

-- the power of a brick shows one of the machine's
pub record IsNodeOf (layout : Layout) (i : ℕ) (power : Power) : Type 0 where
  pub state : machine.Node
  pub after : machine.Node
  pub up : Bool
  pub shows : ShowsPower layout (brick_of i) state after up power

-- each brick is one of this layout
abbrev pub AreNodesOf : Layout → List Brick → Type 0
AreNodesOf layout bricks = (i : ℕ) (brick : Brick) → slice_get bricks i ≡ Some brick → IsNodeOf layout i brick.power

-- so it is, and there is one for each number of the layout
pub record AreBricksOf (layout : Layout) (bricks : List Brick) : Type 0 where
  pub count : length bricks ≡ layout.bricks
  pub each : AreNodesOf layout bricks

-- a brick is up, and this holds of what runs
abbrev pub IsUpWith : Power → (Running MemDisk → Type 0) → Type 0
IsUpWith (Up node) Holds = Holds node
IsUpWith (Down disk) Holds = ⊥

-- it runs as the brick that it says it is
abbrev pub Runs : Running MemDisk → Type 0
Runs node = IsRunning node.layout node.me (state_of node) node

-- a brick that is up
pub record IsUp (bricks : List Brick) (brick : BrickId) : Type 0 where
  pub within : brick.0 < length bricks
  pub on : (x : Brick) → slice_get bricks brick.0 ≡ Some x → IsUpWith x.power Runs

-- what runs as the brick of a number, where there is one and it is up
abbrev pub node_in : Power → Option (Running MemDisk)
node_in (Up node) = Some node
node_in (Down disk) = None

abbrev pub running_at : List Brick → ℕ → Option (Running MemDisk)
running_at bricks number = option_and_then (λ brick. node_in brick.power) (slice_get bricks number)

-- the brick of a number was found up, or there is none that is
abbrev pub FindsUp : List Brick → ℕ → Option BrickId → Type 0
FindsUp bricks number None = running_at bricks number ≡ None
FindsUp bricks number (Some brick) = (brick ≡ brick_of number) × IsUp bricks brick

-- A brick that runs took a message whole: what it answered is the machine's, and it runs on.
pub record TookWhole (layout : Layout) (me : BrickId) (state : machine.Node) (time : ℕ) (packet : Packet) (disk : MemDisk) (fault : Option Fault)
    (power : Power) (outs : Sent) : Type 0 where
  pub packets : packets_from me outs.messages ≡ (machine.received (coding layout) me time state packet).packets
  pub told : outs.told ≡ (machine.received (coding layout) me time state packet).told
  pub answers : outs.answers ≡ (machine.received (coding layout) me time state packet).answers
  pub reports : outs.reports ≡ (machine.received (coding layout) me time state packet).reports
  pub on : IsUpWith power (IsRunning layout me (machine.received (coding layout) me time state packet).node)
  pub spared : IsReached layout me state packet disk (plan_of fault) → ⊥
  pub still : ((listed : ℕ) → packet_calls layout me state packet listed ≡ 0) → IsUnwritten disk (disk_in power)
  pub lists : ListsPacket layout me state packet disk (disk_in power)

-- or a call was befallen in the midst of that, and the brick is down
pub record TookPart (layout : Layout) (me : BrickId) (state : machine.Node) (packet : Packet) (disk : MemDisk) (fault : Option Fault)
    (power : Power) : Type 0 where
  pub reached : IsReached layout me state packet disk (plan_of fault)
  pub off : ShowsPower layout me (machine.stopped state) (machine.stopped (machine.absorbed (coding layout) me state packet)) false power
  pub left : IsLeft layout me (machine.stopped state) (machine.stopped (machine.absorbed (coding layout) me state packet))
      (packet_calls layout me state packet reached.listed) fault (disk_in power)

-- or memory was refused: it is as it was, and a read of its disk gives what it gave
abbrev pub Takes : Layout → BrickId → machine.Node → ℕ → Packet → MemDisk → Option Fault → Power → Result (Option Sent) NoMem → Type 0
Takes layout me state time packet disk fault power (Ok (Some outs)) = TookWhole layout me state time packet disk fault power outs
Takes layout me state time packet disk fault power (Ok None) = TookPart layout me state packet disk fault power
Takes layout me state time packet disk fault power (Err refused) =
    IsUpWith power (IsRunning layout me state) × (content_of (disk_in power) ≡ content_of disk)

-- A brick that was down was started, with what its disk was found to hold.
pub record WasStarted (layout : Layout) (me : BrickId) (state after : machine.Node) (disk : MemDisk) (fault : Option Fault) (power : Power) : Type 0 where
  pub finds : Finds layout me state after disk
  pub may : machine.may_open (finds.openings + 1) state ≡ true
  pub spared : IsReachedOpening layout me disk (plan_of fault) → ⊥
  pub on : IsUpWith power (IsRunning layout me (machine.restarted (finds.openings + 1) (found_of state after finds.found)))
  pub lists : ListsOpening layout me (found_of state after finds.found) disk (disk_in power)

-- or its store can't be opened once more
pub record IsWorn (layout : Layout) (me : BrickId) (state after : machine.Node) (disk : MemDisk) (power : Power) : Type 0 where
  pub finds : Finds layout me state after disk
  pub may : machine.may_open (finds.openings + 1) state ≡ false
  pub still : IsUnwritten disk (disk_in power)
  pub off : ShowsPower layout me state after false power

-- or a call was befallen in the midst of that
pub record WasCutShort (layout : Layout) (me : BrickId) (state after : machine.Node) (disk : MemDisk) (fault : Option Fault) (power : Power) : Type 0 where
  pub finds : Finds layout me state after disk
  pub may : machine.may_open (finds.openings + 1) state ≡ true
  pub reached : IsReachedOpening layout me disk (plan_of fault)
  pub off : ShowsPower layout me state after false power
  pub left : IsLeftOpening layout me state after disk finds (calls_on_opening (formed reached.form (shape_at layout me)) reached.frames reached.closed) fault
      (disk_in power)

-- or memory was refused
abbrev pub TurnsOn : Layout → BrickId → machine.Node → machine.Node → MemDisk → Option Fault → Power → Result Bool NoMem → Type 0
TurnsOn layout me state after disk fault power (Ok true) = WasStarted layout me state after disk fault power
TurnsOn layout me state after disk fault power (Ok false) =
    IsWorn layout me state after disk power ⊎ WasCutShort layout me state after disk fault power
TurnsOn layout me state after disk fault power (Err refused) =
    ShowsPower layout me state after false power × (content_of (disk_in power) ≡ content_of disk)

-- The history tells the machine's world, where each brick has made so many calls: every message, and which were delivered, every mark, every report, each
-- operation, those that have marks by these, and the operations of the calls so far of each brick that is up.
pub record TellsAt (seqs : ℕ → ℕ) (history : History) (w : World) : Type 0 where
  pub packets : history.sent.packets.items ≡ w.packets
  pub reached : (k : ℕ) → get_or history.delivered.reached.items k false ≡ w.reached (k + 1)
  pub marks : history.marks.items ≡ w.marks
  pub reports : history.reports.items ≡ w.choices.reports
  pub begun : length history.operations.items ≡ w.begun
  pub marked : AreMarked history.marked.items w
  pub operations : TellsOperations history.operations.items w.operations
  pub calls : (i : ℕ) → AreCalls (w.up i) (calls_in history.calls i) (number_of w i) (seqs i)

-- the number of each brick's last call
abbrev pub seqs_of : World → ℕ → ℕ
seqs_of w i = (w.nodes i).seq

-- the history tells the machine's world
abbrev pub Tells : History → World → Type 0
Tells history w = TellsAt (seqs_of w) history w

-- The state shows the machine's world.
pub record Shows (layout : Layout) (state : Simulation) (w : World) : Type 0 where
  pub bricks : ShowsBricks layout state.bricks.items w.nodes w.after w.up w.clocks
  pub history : Tells state.history w

-- the world of the machine that the state has come to
abbrev pub world_in : Layout → Simulation → World
world_in layout state = world_at layout state.trail.course

-- and the state shows it
abbrev pub Stands : Layout → Simulation → Type 0
Stands layout state = Shows layout state (world_in layout state)

-- it shows the first world, and has come no step
pub record IsFirst (layout : Layout) (state : Simulation) : Type 0 where
  pub shows : Shows layout state (first_world layout)
  pub course : state.trail.course ≡ record { steps = []; events = [] }

-- how many messages a step of a brick sends at most, on a message or as an operation, a proposal, a synchronisation or a scrub begins: one to each member of a
-- view, and one to each brick of a layout
abbrev pub most_sent : ℕ
most_sent = 96

-- there is room for what one step of a brick adds
pub record HasStepRoom (history : History) : Type 0 where
  pub sent : vec_len history.sent.packets + most_sent ≤ vec_capacity history.sent.packets
  pub marks : vec_len history.marks < vec_capacity history.marks
  pub reports : vec_len history.reports < vec_capacity history.reports
  pub operations : vec_len history.operations < vec_capacity history.operations
  pub marked : vec_len history.marked < vec_capacity history.marked

-- there is room for an operation without marks, which a brick begins
pub record HasReadRoom (history : History) (brick : BrickId) : Type 0 where
  pub operations : vec_len history.operations < vec_capacity history.operations
  pub call : HasCallRoom history.calls brick.0

-- a schedule of events reaches the world
abbrev pub IsReachedBy : Layout → World → Type 0
IsReachedBy layout w = (events : List Event) × (w ≡ run (coding layout) events (first_world layout))

-- each open call knows its number, and is one of the brick's calls so far
abbrev pub IsNumbered : World → Type 0
IsNumbered w = (i k : ℕ) (c : Coordinator) → (w.nodes i).calls k ≡ Some c → (c.call.seq ≡ k) × (1 ≤ k) × (k ≤ (w.nodes i).seq)

-- a call of this number is one of the first so many
abbrev pub IsOfCall : ℕ → ℕ → Type 0
IsOfCall seq k = (1 ≤ k) × (k ≤ seq)

-- What is told is of one of the brick's calls, which has made so many since it was opened so often; or a read begins under the next call.
abbrev pub IsToldAt : ℕ → ℕ → Told → Type 0
IsToldAt boot seq (told.Made k stamp base) = IsOfCall seq k
IsToldAt boot seq (told.Seen k stamp) = IsOfCall seq k
IsToldAt boot seq (told.Began call) = (call.boot ≡ boot) × (call.seq ≡ seq + 1)
IsToldAt boot seq (told.Closed k cause) = IsOfCall seq k

-- how many reads begin
abbrev pub reads_begun : List Told → ℕ
reads_begun [] = 0
reads_begun (told.Began call ∷ more) = 1 + reads_begun more
reads_begun (one ∷ more) = reads_begun more

-- so of all that is told, one after another
abbrev pub AreTold : ℕ → ℕ → List Told → Type 0
AreTold boot seq [] = Unit {0}
AreTold boot seq (one ∷ more) = IsToldAt boot seq one × AreTold boot (seq + reads_begun (one ∷ [])) more

-- what is answered is of the brick's calls so far
abbrev pub AreAnswered : ℕ → List Answered → Type 0
AreAnswered seq answers = AllByRecursion (λ one. IsOfCall seq one.seq) answers

-- the step of a brick opens no call but those of the reads that it tells to have begun, one at most, and tells and answers of the calls so far
pub record OpensReads (node : machine.Node) (step : machine.NodeStep) : Type 0 where
  pub boot : step.node.boot ≡ node.boot
  pub seq : step.node.seq ≡ node.seq + reads_begun step.told
  pub few : reads_begun step.told ≤ 1
  pub told : AreTold node.boot node.seq step.told
  pub answers : AreAnswered node.seq step.answers

-- how many calls a brick uses up as it is asked to propose: none where it reports at once that it begins no proposal
abbrev pub calls_used : List Report → ℕ
calls_used [] = 1
calls_used (report ∷ reports) = 0

-- The step begins a proposal under the next call, which is that of no operation, or it reports that it begins none.
pub record OpensAside (w : World) (brick : BrickId) (step : machine.NodeStep) : Type 0 where
  pub boot : step.node.boot ≡ (w.nodes brick.0).boot
  pub told : step.told ≡ []
  pub answers : step.answers ≡ []
  pub seq : step.node.seq ≡ (w.nodes brick.0).seq + calls_used step.reports
  pub unnumbered : number_of w brick.0 ((w.nodes brick.0).seq + 1) ≡ 0

-- what events that are none or one come to
abbrev pub came_to : Setting → World → List Event → Outcome
came_to setting w [] = Marks
came_to setting w (event ∷ events) = outcome_of setting w event

-- The start of a brick is these events, after which the bricks show the machine's; and whether it started is what they come to. The history
-- tells of none of it.
pub record StartsAs (layout : Layout) (w : World) (brick : BrickId) (fault : Option Fault) (old new : List Brick) (started : Bool)
    (events : List Event) : Type 0 where
  pub are : IsStartOf layout w (disks_of old) (disks_of new) brick fault events
  pub bricks : ShowsBricks layout new (run (coding layout) events w).nodes (run (coding layout) events w).after (run (coding layout) events w).up
      (run (coding layout) events w).clocks
  pub comes : (if started then Marks else Idle) ≡ came_to (coding layout) w events
  pub tells : (history : History) → Tells history w → Tells history (run (coding layout) events w)
  pub kept : KeepsDisks (coding layout) w events (disks_of old) (disks_of new)

-- A line came to this outcome, and is these events: the state shows the world after them, and no disk has changed but theirs.
pub record ComesTo (layout : Layout) (w : World) (disks : List MemDisk) (state : Simulation) (line : Line) (outcome : Outcome)
    (events : List Event) : Type 0 where
  pub are : IsEventsOf layout w disks (disks_of state.bricks.items) line events
  pub shows : Shows layout state (run (coding layout) events w)
  pub prints : (let next : World = run (coding layout) events w in outcome_text outcome (new_marks w next) (new_reports w next))
      ≡ line_text (coding layout) w line events
  pub kept : KeepsDisks (coding layout) w events disks (disks_of state.bricks.items)

-- the events are the first of a line's: it is one that has an operation run alone, and was not run to its end
abbrev pub IsBegunBy : Layout → World → Line → List Event → Type 0
IsBegunBy layout w (Calm n bricks) events = BeginsCalm (coding layout) w (operation_marked w n) (map brick_of bricks) events
IsBegunBy layout w line events = ⊥

-- a line came to this outcome, and is some events
abbrev pub Comes : Layout → World → List MemDisk → Simulation → Line → Outcome → Type 0
Comes layout w disks state line outcome = (events : List Event) × ComesTo layout w disks state line outcome events

-- No memory was left for a line that has an operation run alone: it began to.
pub record StopsAt (layout : Layout) (w : World) (disks : List MemDisk) (state : Simulation) (line : Line) (events : List Event) : Type 0 where
  pub are : IsBegunBy layout w line events
  pub shows : Shows layout state (run (coding layout) events w)
  pub kept : LeavesContents (coding layout) w events disks (disks_of state.bricks.items)

-- A line was run from one state to another, and came to this outcome; what it is has not gone into the state's course yet.
pub record RunsLine (layout : Layout) (old new : Simulation) (line : Line) (outcome : Outcome) : Type 0 where
  pub trail : new.trail ≡ old.trail
  pub comes : Comes layout (world_in layout old) (disks_of old.bricks.items) new line outcome

-- A line was run from one state to another, came to this outcome, and is these events.
abbrev pub GoesOn : Layout → Simulation → Simulation → Line → Outcome → Type 0
GoesOn layout old new line outcome =
    (events : List Event) × ComesTo layout (world_in layout old) (disks_of old.bricks.items) new line outcome events
    × (new.trail.course ≡ with_events old.trail.course events)

-- An event took one state to another, and came to this outcome. It makes no call of a disk, and has not gone into the state's course yet.
pub record TakesEvent (layout : Layout) (old new : Simulation) (event : Event) (outcome : Outcome) : Type 0 where
  pub trail : new.trail ≡ old.trail
  pub shows : Shows layout new (happens (coding layout) (world_in layout old) event)
  pub outcome_is : outcome ≡ outcome_of (coding layout) (world_in layout old) event
  pub disks : disks_of new.bricks.items ≡ disks_of old.bricks.items

-- nothing happened from one state to another, and a read of each disk gives what it gave
pub record StaysAs (layout : Layout) (old new : Simulation) : Type 0 where
  pub trail : new.trail ≡ old.trail
  pub shows : Shows layout new (world_in layout old)
  pub contents : map content_of (disks_of new.bricks.items) ≡ map content_of (disks_of old.bricks.items)

-- a message was delivered to an operation that runs alone
abbrev pub DeliversAlone : Layout → Simulation → Simulation → ℕ → Type 0
DeliversAlone layout old new message = (outcome : Outcome) × GoesOn layout old new (Deliver message None) outcome

-- the line asks something of bricks: it speaks of no suspicions
abbrev pub AsksBricks : Line → Type 0
AsksBricks (Suspect b c) = ⊥
AsksBricks (Trust b c) = ⊥
AsksBricks (Spare b g) = ⊥
AsksBricks line = Unit {0}

-- so it does, and has no operation run alone
abbrev pub IsOther : Line → Type 0
IsOther (Calm n bricks) = ⊥
IsOther line = AsksBricks line

-- no memory was left for an operation to run alone to its end
abbrev pub StopsShort : Layout → Simulation → Simulation → Line → Type 0
StopsShort layout old new line =
    (events : List Event) × StopsAt layout (world_in layout old) (disks_of old.bricks.items) new line events
    × (new.trail.course ≡ with_events old.trail.course events)

-- no memory was left for a line: nothing happened, but for an operation that began to run alone
abbrev pub RefusesLine : Layout → Simulation → Simulation → Line → Type 0
RefusesLine layout old new (Calm n bricks) = StopsShort layout old new (Calm n bricks)
RefusesLine layout old new line = StaysAs layout old new

-- what the clock of the brick of a number reads, 0 where there is none
abbrev pub clock_at : List Brick → ℕ → ℕ
clock_at bricks number = unwrap_or (option_map (λ brick. brick.clock) (slice_get bricks number)) 0

-- a brick serves a view of a group: it has learnt that and no later one, and has accepted no list to follow it
pub record Serves (node : machine.Node) (group view : ℕ) : Type 0 where
  pub view_is : machine.view_at node group ≡ view
  pub serves : machine.has_accepted node group ≡ false

-- a brick runs that serves a view of a group, has room for two records more, and its times are early
abbrev pub NodeIsAble : Layout → ℕ → ℕ → Option (Running MemDisk) → Type 0
NodeIsAble layout group view None = ⊥
NodeIsAble layout group view (Some node) =
    Serves (state_of node) group view × ((state_of node).live + 2 ≤ layout.records) × IsEarly (state_of node)

-- a brick runs that knows that all stripes of a group are kept in the view that it has learnt
abbrev pub node_knows_synced : ℕ → Option (Running MemDisk) → Bool
node_knows_synced group None = false
node_knows_synced group (Some node) = ((state_of node).learnt group).synced

-- an operation in a view may have to ask the members of the view before: it is a later view than 1, and none of the bricks of these numbers knows that
abbrev pub may_ask_prior_at : List Brick → ℕ → ℕ → List ℕ → Bool
may_ask_prior_at bricks group view numbers =
    nat_lt 1 view && not (list_any (λ number. node_knows_synced group (running_at bricks number)) numbers)

-- a brick runs whose clock reads this, and that and its times are early
abbrev pub NodeIsInTime : ℕ → Option (Running MemDisk) → Type 0
NodeIsInTime time None = ⊥
NodeIsInTime time (Some node) = (time < early) × IsEarly (state_of node)

-- a brick runs that was opened as often as where this was kept of an operation, and the operation is open there
abbrev pub node_has_open : OperationRecord → Option (Running MemDisk) → Bool
node_has_open kept None = false
node_has_open kept (Some node) = nat_eq (state_of node).boot kept.boot && is_some ((state_of node).calls kept.seq)

-- what is kept of an operation, if it is open
abbrev pub if_open : List Brick → Option OperationRecord → Option OperationRecord
if_open bricks None = None
if_open bricks (Some kept) = if node_has_open kept (running_at bricks kept.brick.0) then Some kept else None

abbrev pub open_record : Simulation → ℕ → Option OperationRecord
open_record state n = if_open state.bricks.items (record_at state.history.operations.items n)

-- the view of the operation of a call, if that is open at a brick that runs
abbrev pub node_view : ℕ → Option (Running MemDisk) → Option View
node_view seq None = None
node_view seq (Some node) = option_map machine.view_in ((state_of node).calls seq)

-- the view of an operation of which this is kept
abbrev pub open_view : Simulation → OperationRecord → Option View
open_view state kept = node_view kept.seq (running_at state.bricks.items kept.brick.0)

-- the brick of a number is up, serves a view of a group, has room for two records more, and its times are early
pub record IsAble (layout : Layout) (w : World) (group view number : ℕ) : Type 0 where
  pub up : is_up layout w (brick_of number) ≡ true
  pub serves : Serves (w.nodes number) group view
  pub room : (w.nodes number).live + 2 ≤ layout.records
  pub times : IsEarly (w.nodes number)

-- the brick of a number is up, and its clock and its times are early
pub record IsInTime (layout : Layout) (w : World) (number : ℕ) : Type 0 where
  pub up : is_up layout w (brick_of number) ≡ true
  pub clock : w.clocks number < early
  pub times : IsEarly (w.nodes number)

-- the operation of a number is open, and this is kept of it; or it is not open
abbrev pub OpensAs : Simulation → World → ℕ → Option OperationRecord → Type 0
OpensAs state w n None = open_call w n ≡ None
OpensAs state w n (Some kept) = (is_some (open_call w n) ≡ true) × (record_at state.history.operations.items n ≡ Some kept)

-- no event
abbrev pub is_empty : List Event → Bool
is_empty [] = true
is_empty (event ∷ events) = false

-- An operation ran alone among these bricks: these are its deliveries, and the state shows the world that they leave.
pub record HasRun (layout : Layout) (w : World) (n : ℕ) (bricks : List BrickId) (disks : List MemDisk) (state : Simulation) (some : Bool) (events : List Event) : Type 0 where
  pub some_is : some ≡ not (is_empty events)
  pub last : World
  pub prints : text_of (coding layout) w events ≡ marks_text (new_marks w last)
  pub reports : last.choices.reports ≡ w.choices.reports
  pub runs : RunsAlone (coding layout) n bricks w events last
  pub shows : Shows layout state last
  pub kept : KeepsDisks (coding layout) w events disks (disks_of state.bricks.items)

-- so it began to
pub record HasBegun (layout : Layout) (w : World) (n : ℕ) (bricks : List BrickId) (disks : List MemDisk) (state : Simulation) (events : List Event) : Type 0 where
  pub last : World
  pub begins : BeginsAlone (coding layout) n bricks w events last
  pub shows : Shows layout state last
  pub kept : LeavesContents (coding layout) w events disks (disks_of state.bricks.items)

-- it is said whether an operation may run alone among these bricks
abbrev pub DecidesCalm : Layout → Simulation → ℕ → List ℕ → Bool → Type 0
DecidesCalm layout state n bricks may = Decides may (IsCalm (coding layout) (world_in layout state) n (map brick_of bricks))

-- the operation of a number has marks, if there is one
abbrev pub HasMarks : World → ℕ → Type 0
HasMarks w n = (o : Operation) → w.operations n ≡ Some o → is_marked o ≡ true

-- it may run alone among these bricks, and has marks, in the world that the state shows
pub record MayRun (layout : Layout) (state : Simulation) (n : ℕ) (bricks : List ℕ) : Type 0 where
  pub stands : Stands layout state
  pub calm : IsCalm (coding layout) (world_in layout state) n (map brick_of bricks)
  pub marked : HasMarks (world_in layout state) n

-- one that may did, from one state to another; or it began to
abbrev pub RunsAloneTo : Layout → Simulation → Simulation → ℕ → List ℕ → Bool → Type 0
RunsAloneTo layout old new n bricks some =
    (events : List Event) × HasRun layout (world_in layout old) n (map brick_of bricks) (disks_of old.bricks.items) new some events
    × (new.trail.course ≡ with_events old.trail.course events)

abbrev pub BeginsAloneTo : Layout → Simulation → Simulation → ℕ → List ℕ → Type 0
BeginsAloneTo layout old new n bricks =
    (events : List Event) × HasBegun layout (world_in layout old) n (map brick_of bricks) (disks_of old.bricks.items) new events
    × (new.trail.course ≡ with_events old.trail.course events)
