-- The world that a run leaves, and what its disks keep.
use Rattle.std.proofs.Common.{◌≡◌, ℕ, ◌+◌, ◌≤◌, ◌-◌, ◌⊎◌, inl, inr, ⊎_elim, Bool, true, false, List, [], ◌∷◌, ◌++◌, length, length-append, take, drop, take_all, length-drop, append-nil, append_assoc, Option, Some, None, refl, sym, ap, ◌∙◌, subst, arith}
use Rattle.std.specs.Prelude.{slice_get}
use Rattle.std.specs.Option.{option_map}
use Rattle.std.proofs.lemmas.List.{drop_all, length-map}
use Rattle.std.proofs.lemmas.Option.{slice_get-map}
use Rattle.fab_base.specs.declared.identities.BrickId.{BrickId}
use Rattle.fab_disk.specs.declared.mem_disk.MemDisk.{MemDisk}
use Rattle.reg_model.specs.declared.marks.Mark.{Mark}
use Rattle.reg_model.specs.declared.marks.Mark.TheVariants as mark
use Rattle.lines.specs.declared.forms.Line.{Line}
use Rattle.lines.specs.declared.forms.Line.TheVariants.{Propose, Suspect, Trust, Spare}
use Rattle.lines.specs.declared.forms.Fault.{Fault}
use Rattle.spares.specs.Suspicions.{Suspicions, unsuspecting}
use Rattle.stripe_code.specs.Codes.{coding}
use Rattle.fab_base.specs.Layouts.{Layout}
use Rattle.protocol.specs.Nodes.{Node, NodeStep, proposed, synced_at, scrubbed_at}
use Rattle.protocol.specs.Settings.{Setting}
use Rattle.protocol.specs.declared.tellings.Report.{Report}
use Rattle.protocol.specs.Worlds.{World, Event, Stops, Starts, Before, first_world, number_of, reports_of, world_stepped, run}
use Rattle.protocol_laws.proofs.Books.{Books}
use Rattle.world.specs.Runs.{Course, Run, Step, world_of, all_events, brick_of, with_events, world_at}
use Rattle.world.specs.Suspected.{has_both, suspected_after, suspected_in, suspicions_of, spare_list, proposing_line, meant}
use Rattle.world.specs.Faults.{IsEventsOf, IsStartOf, StaysDown, IsStarted, IsNoStart}
use Rattle.world.specs.Disks.{ShowsDiskOf, ShowsDisks}
use Rattle.world.specs.Shown.{IsNumbered, GoesOn, StaysAs, StopsShort, Shows, ShowsBricks, ShowsPower, ComesTo, StopsAt, IsBegunBy, disk_in, disks_of, came_to, world_in}
use Rattle.protocol.proofs.Events.{run-append, EventCases, step_on, world_counting, stepped_each, started_each, run_each}
use Rattle.world.specs.Steps.{Runs, RunsTo, LeavesSome, Grows, with_step}
use Rattle.world.specs.Texts.{text_of, event_text, marks_text, reports_text, outcome_text, new_marks, new_reports, line_text, step_text, marks_if, empty_text, suspicion_text}
use Rattle.world.specs.declared.bricks.Brick.{Brick}
use Rattle.world.specs.declared.bricks.Power.{Power}
use Rattle.world.specs.declared.bricks.Power.TheVariants.{Up, Down}
use Rattle.world.specs.declared.simulations.Outcome.{Outcome}
use Rattle.world.specs.declared.simulations.Outcome.TheVariants.{Idle}
use Rattle.world.specs.declared.simulations.Simulation.{Simulation}
use Rattle.world.specs.declared.trails.Trail.{Trail}
use Rattle.world.proofs.Suspecting.{suspected_on}

-- the events of one step more
pub all_events-more : (steps : List Step) (step : Step) → all_events (steps ++ step ∷ []) ≡ all_events steps ++ step.events
all_events-more [] step = append-nil step.events
all_events-more (first ∷ steps) step = ap (λ events. first.events ++ events) (all_events-more steps step) ∙ sym (append_assoc first.events (all_events steps) step.events)

-- the world after one step more
pub world_of-with_step : (r : Run) (step : Step) (disks : List MemDisk)
    → world_of (with_step r step disks) ≡ run (coding r.layout) step.events (world_of r)
world_of-with_step r step disks =
    ap (λ events. run (coding r.layout) events (first_world r.layout)) (all_events-more r.steps step)
    ∙ run-append (coding r.layout) (first_world r.layout) (all_events r.steps) step.events

-- the disk of a brick that is shown keeps what the machine's brick keeps, or one of the two that its stop left possible
disk_kept : (layout : Layout) (me : BrickId) (node after : Node) (up : Bool) (power : Power) → ShowsPower layout me node after up power
    → ShowsDiskOf up layout me node after (disk_in power)
disk_kept layout me node after up (Up running) is =
    subst (λ (b : Bool). ShowsDiskOf b layout me node after running.brick.disk) (sym is.0) is.1.kept
disk_kept layout me node after up (Down disk) is = subst (λ (b : Bool). ShowsDiskOf b layout me node after disk) (sym is.0) is.1.holds

-- so do the disks of all
disks_kept : (layout : Layout) (bricks : List Brick) (nodes after : ℕ → Node) (up : ℕ → Bool) (clocks : ℕ → ℕ)
    → ShowsBricks layout bricks nodes after up clocks
    → (i : ℕ) (found : Option Brick) (disk : MemDisk) → slice_get bricks i ≡ found → option_map (λ (brick : Brick). disk_in brick.power) found ≡ Some disk
    → ShowsDiskOf (up i) layout (brick_of i) (nodes i) (after i) disk
disks_kept layout bricks nodes after up clocks shows i None disk at is = absurd (let e : None ≡ Some disk = is in cc)
disks_kept layout bricks nodes after up clocks shows i (Some brick) disk at is =
    subst (λ (d : MemDisk). ShowsDiskOf (up i) layout (brick_of i) (nodes i) (after i) d) (let e : Some (disk_in brick.power) ≡ Some disk = is in cc)
    (disk_kept layout (brick_of i) (nodes i) (after i) (up i) brick.power (shows.each i brick at).power)

-- the disks of a run whose world is shown
pub disks_shown : (layout : Layout) (state : Simulation) (steps : List Step)
    → Shows layout state (world_of (record { layout = layout; steps = steps; disks = disks_of state.bricks.items }))
    → ShowsDisks (record { layout = layout; steps = steps; disks = disks_of state.bricks.items })
disks_shown layout state steps shows = record {
  count = length-map state.bricks.items (λ (brick : Brick). disk_in brick.power) ∙ shows.bricks.count;
  each = λ i disk at.
      disks_kept layout state.bricks.items _ _ _ _ shows.bricks i (slice_get state.bricks.items i) disk refl
      (sym (slice_get-map (λ (brick : Brick). disk_in brick.power) state.bricks.items i) ∙ at);
}

-- marks are only added
abbrev HasAtLeast : ℕ → World → Type 0
HasAtLeast marks w = marks ≤ length w.marks

grown_by : (marks : List Mark) (mark : Mark) (least : ℕ) → least ≤ length marks → least ≤ length (marks ++ (mark ∷ []))
grown_by marks mark least few = omega (arith, few, length-append marks (mark ∷ []))

grow_stepped : (setting : Setting) (least : ℕ) (w : World) (brick : BrickId) (step : NodeStep) → HasAtLeast least w
    → HasAtLeast least (world_stepped setting w brick step)
grow_stepped setting least w brick step few =
    stepped_each (HasAtLeast least) setting brick step (λ x seq t base holds. holds) (λ x seq v holds. holds) (λ x nodes call holds. holds)
    (λ x seq cause holds. holds)
    (λ x one holds. grown_by x.marks (mark.End (length x.marks) _ one.answer) least holds)
    (λ x nodes held packets choices holds. holds) w few

grow_cases : (setting : Setting) (least : ℕ) (w : World) → HasAtLeast least w → EventCases setting w (HasAtLeast least)
grow_cases setting least w few = record {
  proposes = λ brick group members may. grow_stepped setting least w brick (proposed setting brick (w.nodes brick.0) group members) few;
  syncs = λ brick group may. grow_stepped setting least w brick (synced_at setting brick (w.clocks brick.0) (w.nodes brick.0) group) few;
  scrubs = λ brick group stripe members may.
      grow_stepped setting least w brick (scrubbed_at setting brick (w.clocks brick.0) (w.nodes brick.0) group stripe members) few;
  begins = λ brick ask may. grown_by w.marks (mark.Begin (length w.marks) (w.marked + 1) brick ask) least few;
  handles = λ number packet at up. grow_stepped setting least (world_counting setting w number packet) packet.to (step_on setting w packet) few;
  sets = λ brick time is. few;
  ticks = λ brick up. few;
  stops = λ brick during up. grown_by w.marks (mark.Crash (length w.marks) brick) least few;
  starts = λ brick openings found may. started_each (HasAtLeast least) w brick openings few few found;
}

run_grows : (setting : Setting) (w : World) (events : List Event) → length w.marks ≤ length (run setting events w).marks
run_grows setting w events =
    run_each (HasAtLeast (length w.marks)) (λ x. Unit {0}) setting (λ x known. grow_cases setting (length w.marks) x) events w (λ more. tt) (omega arith)

-- so are reports
reports_grown : (reports more : List (BrickId × Report)) (least : ℕ) → least ≤ length reports → least ≤ length (reports ++ more)
reports_grown reports more least few = omega (arith, few, length-append reports more)

report_cases : (setting : Setting) (least : ℕ) (w : World) → least ≤ length w.choices.reports → EventCases setting w (λ x. least ≤ length x.choices.reports)
report_cases setting least w few = record {
  begins = λ brick ask may. few;
  proposes = λ brick group members may.
      reports_grown w.choices.reports (reports_of brick (proposed setting brick (w.nodes brick.0) group members).reports) least few;
  syncs = λ brick group may.
      reports_grown w.choices.reports (reports_of brick (synced_at setting brick (w.clocks brick.0) (w.nodes brick.0) group).reports) least few;
  scrubs = λ brick group stripe members may.
      reports_grown w.choices.reports
      (reports_of brick (scrubbed_at setting brick (w.clocks brick.0) (w.nodes brick.0) group stripe members).reports) least few;
  handles = λ number packet at up. reports_grown w.choices.reports (reports_of packet.to (step_on setting w packet).reports) least few;
  sets = λ brick time is. few;
  ticks = λ brick up. few;
  stops = λ brick during up. few;
  starts = λ brick openings found may.
      started_each (λ (x : World). least ≤ length x.choices.reports) w brick openings few (reports_grown w.choices.reports [] least few) found;
}

run_reports : (setting : Setting) (w : World) (events : List Event) → length w.choices.reports ≤ length (run setting events w).choices.reports
run_reports setting w events =
    run_each (λ (x : World). length w.choices.reports ≤ length x.choices.reports) (λ x. Unit {0}) setting
    (λ x known. report_cases setting (length w.choices.reports) x) events w (λ more. tt) (omega arith)

-- what a world's books say of its open calls
pub numbered_from_books : (setting : Setting) (w : World) → Books setting w → IsNumbered w
numbered_from_books setting w books i k c is =
    let call = books.calls i k c is in
    let operation = books.operations (number_of w i k) call.operation call.operation_is in
    let boot : call.operation.boot ≡ (w.nodes call.operation.brick.0).boot = call.boot ∙ sym (ap (λ j. (w.nodes j).boot) call.brick) in
    let seq : (w.nodes call.operation.brick.0).seq ≡ (w.nodes i).seq = ap (λ j. (w.nodes j).seq) call.brick in
    (call.call_seq, omega (arith, operation.called.0, call.seq), omega (arith, operation.called.1 boot, call.seq, seq))

-- the start of a brick is one event
pub start_few : (layout : Layout) (w : World) (old new : List MemDisk) (brick : BrickId) (fault : Option Fault) (events : List Event)
    → IsStartOf layout w old new brick fault events → (events ≡ []) ⊎ ((event : Event) × (events ≡ event ∷ []))
start_few layout w old new brick fault events are = ⊎_elim
    (λ (stays : StaysDown layout w old new brick fault events). inr (Stops brick None, stays.events_are))
    (λ (other : IsStarted layout w old brick fault events ⊎ IsNoStart layout w brick events). ⊎_elim
    (λ (is : IsStarted layout w old brick fault events).
    inr (Starts brick (is.start.finds.openings + 1) is.start.finds.found, is.events_are))
    (λ (is : IsNoStart layout w brick events). inr (Starts brick 1 Before, is.events_are)) other) are

-- no mark and no report have no text
pub nothing_text : (w : World) → marks_text (new_marks w w) ++ reports_text (new_reports w w) ≡ []
nothing_text w =
    ap (λ (marks : List Mark). marks_text marks ++ reports_text (new_reports w w)) (drop_all (length w.marks) w.marks (omega arith))
    ∙ ap reports_text (drop_all (length w.choices.reports) w.choices.reports (omega arith))

-- what such events came to, with the marks and the reports behind those before, is what they print
abbrev CameText : Setting → World → List Event → Type 0
CameText setting w events =
    (let next : World = run setting events w in outcome_text (came_to setting w events) (new_marks w next) (new_reports w next) ≡ text_of setting w events)

pub came_text : (setting : Setting) (w : World) (events : List Event) → (events ≡ []) ⊎ ((event : Event) × (events ≡ event ∷ []))
    → CameText setting w events
came_text setting w events few = ⊎_elim
    (λ (none : events ≡ []). subst (CameText setting w) (sym none) (nothing_text w))
    (λ (one : (event : Event) × (events ≡ event ∷ [])). subst (CameText setting w) (sym one.1) (sym (append-nil (event_text setting w one.0))))
    few

-- what stands in a list behind those that stood in another
pub rest_is : {A : Type 0} (xs is was : List A) (before : ℕ) → xs ≡ is → before ≡ length was
    → take (length xs - before) (drop before xs) ≡ drop (length was) is
rest_is xs is was before are count =
    take_all (length xs - before) (drop before xs) (omega (arith, length-drop before xs))
    ∙ ap (λ n. drop n xs) count ∙ ap (λ (ys : List _). drop (length was) ys) are

-- the text of a line is that of its step
pub text_is : (old new : Run) (line : Line) (step : Step) (outcome : Outcome) (marks : List Mark) (reports : List (BrickId × Report)) (text : List ℕ)
    → Runs old new line step
    → outcome_text outcome (new_marks (world_of old) (world_of new)) (new_reports (world_of old) (world_of new))
    ≡ line_text (coding old.layout) (world_of old) line step.events
    → marks ≡ new_marks (world_of old) (world_of new) → reports ≡ new_reports (world_of old) (world_of new) → text ≡ outcome_text outcome marks reports
    → text ≡ step_text (coding old.layout) (world_of old) step
text_is old new line step outcome marks reports text runs prints made told is =
    is ∙ ap (λ (xs : List Mark). outcome_text outcome xs reports) made
    ∙ ap (λ (xs : List (BrickId × Report)). outcome_text outcome (new_marks (world_of old) (world_of new)) xs) told ∙ prints
    ∙ ap (λ (l : Line). line_text (coding old.layout) (world_of old) l step.events) (sym runs.line_is)

-- a course in whose midst no line is being run
pub at_rest : (layout : Layout) (course : Course) → course.events ≡ [] → world_at layout course ≡ run (coding layout) (all_events course.steps) (first_world layout)
at_rest layout course none =
    ap (λ (l : List Event). run (coding layout) l (first_world layout))
    (ap (λ (l : List Event). all_events course.steps ++ l) none ∙ append-nil (all_events course.steps))

-- A line was run in a simulation as another, to its end or as far as memory lasted, and its events were made a step.
module _ (layout : Layout) (old new : Simulation) (trail : Trail) (line other : Line) (was : Run) (none : old.trail.course.events ≡ [])
    (ended : trail.course ≡ record { steps = new.trail.course.steps ++ record { line = line; events = new.trail.course.events } ∷ []; events = [] })
    (view : record { layout = layout; steps = old.trail.course.steps; disks = disks_of old.bricks.items } ≡ was) where
  abbrev before : Run
  before = record { layout = layout; steps = old.trail.course.steps; disks = disks_of old.bricks.items }

  abbrev after : Run
  after = record { layout = layout; steps = trail.course.steps; disks = disks_of new.bricks.items }

  rest : world_in layout old ≡ world_of before
  rest = at_rest layout old.trail.course none

  is_after : (events : List Event) → new.trail.course ≡ with_events old.trail.course events
      → after ≡ with_step before (record { line = line; events = events }) after.disks
  is_after events goes =
      ap (λ (steps : List Step). record { layout = layout; steps = steps; disks = disks_of new.bricks.items })
      (ap (λ (c : Course). c.steps) ended
      ∙ ap (λ (c : Course). c.steps ++ record { line = line; events = c.events } ∷ []) goes
      ∙ ap (λ (l : List Event). old.trail.course.steps ++ record { line = line; events = l ++ events } ∷ []) none)

  world_after : (events : List Event) → new.trail.course ≡ with_events old.trail.course events
      → world_of after ≡ run (coding layout) events (world_of before)
  world_after events goes =
      ap world_of (is_after events goes) ∙ world_of-with_step before (record { line = line; events = events }) (disks_of new.bricks.items)

  shows_ended : (events : List Event) → new.trail.course ≡ with_events old.trail.course events
      → Shows layout new (run (coding layout) events (world_in layout old)) → Shows layout (record new { trail = trail }) (world_of after)
  shows_ended events goes shows =
      let now = subst (λ (v : World). Shows layout new v) (ap (run (coding layout) events) rest ∙ sym (world_after events goes)) shows in
      record { bricks = now.bricks; history = now.history }

  -- the state shows the world behind it
  pub shows_ran : (outcome : Outcome) → GoesOn layout old new other outcome → Shows layout (record new { trail = trail }) (world_of after)
  shows_ran outcome (events, comes, goes) = shows_ended events goes comes.shows

  pub shows_short : StopsShort layout old new other → Shows layout (record new { trail = trail }) (world_of after)
  shows_short (events, stops, goes) = shows_ended events goes stops.shows

  -- the step is one that was run, if the line stands for the other, and that prints as the line does
  pub runs_to : (outcome : Outcome) → meant was line ≡ other
      → ((events : List Event) → IsEventsOf layout (world_of before) (disks_of old.bricks.items) (disks_of new.bricks.items) other events
      → line_text (coding layout) (world_of before) other events ≡ line_text (coding layout) (world_of before) line events)
      → GoesOn layout old new other outcome → RunsTo was after line outcome
  runs_to outcome stands alike (events, comes, goes) =
      let came = subst (λ (w : World). ComesTo layout w (disks_of old.bricks.items) new other outcome events) rest comes in
      subst (λ (r : Run). RunsTo r after line outcome) view (record {
        step = record { line = line; events = events };
        runs = record {
          line_is = refl;
          events_are = subst (λ (l : Line). IsEventsOf layout (world_of before) (disks_of old.bricks.items) (disks_of new.bricks.items) l events)
              (sym (ap (λ (r : Run). meant r line) view ∙ stands)) came.are;
          run = is_after events goes;
          disks = came.kept;
          shows = disks_shown layout (record new { trail = trail }) trail.course.steps (shows_ended events goes comes.shows);
        };
        prints = ap (λ (v : World). outcome_text outcome (new_marks (world_of before) v) (new_reports (world_of before) v)) (world_after events goes)
            ∙ came.prints ∙ alike events came.are;
      })

  -- marks and reports are only added
  pub all_grow : (outcome : Outcome) → GoesOn layout old new other outcome → Grows was after
  all_grow outcome (events, comes, goes) =
      subst (λ (r : Run). Grows r after) view
      (subst (λ (v : World). (length (world_of before).marks ≤ length v.marks) × (length (world_of before).choices.reports ≤ length v.choices.reports))
      (sym (world_after events goes)) (run_grows (coding layout) (world_of before) events, run_reports (coding layout) (world_of before) events))

  -- or no memory was left for the rest of it
  pub leaves_part : line ≡ other → StopsShort layout old new other → LeavesSome was after line
  leaves_part same (events, stops, goes) =
      let came = subst (λ (w : World). StopsAt layout w (disks_of old.bricks.items) new other events) rest stops in
      subst (λ (r : Run). LeavesSome r after line) view (inr (
        record { line = line; events = events },
        record {
          line_is = refl;
          events_are = subst (λ (l : Line). IsBegunBy layout (world_of before) l events) (sym same) came.are;
          run = is_after events goes;
          disks = came.kept;
        },
      ))

  -- the steps are one more
  pub steps_after : (events : List Event) → new.trail.course ≡ with_events old.trail.course events
      → trail.course.steps ≡ old.trail.course.steps ++ record { line = line; events = events } ∷ []
  steps_after events goes = ap (λ (r : Run). r.steps) (is_after events goes)

  -- what is suspected is so still, if the line changes nothing of it
  suspects_on : (suspicions : Suspicions) (events : List Event) → suspected_after suspicions line ≡ suspicions → suspicions ≡ suspicions_of before
      → new.trail.course ≡ with_events old.trail.course events → suspicions ≡ suspicions_of after
  suspects_on suspicions events keeps is goes =
      suspected_on layout old.trail.course.steps trail.course.steps (record { line = line; events = events }) suspicions suspicions
      (steps_after events goes) is (sym keeps)

  pub suspects_ran : (suspicions : Suspicions) (outcome : Outcome) → suspected_after suspicions line ≡ suspicions → suspicions ≡ suspicions_of before
      → GoesOn layout old new other outcome → suspicions ≡ suspicions_of after
  suspects_ran suspicions outcome keeps is (events, comes, goes) = suspects_on suspicions events keeps is goes

  pub suspects_short : (suspicions : Suspicions) → suspected_after suspicions line ≡ suspicions → suspicions ≡ suspicions_of before
      → StopsShort layout old new other → suspicions ≡ suspicions_of after
  suspects_short suspicions keeps is (events, stops, goes) = suspects_on suspicions events keeps is goes

-- what is printed of two bricks for which there is nothing else to tell
pub noted_text : (has : Bool) → outcome_text (marks_if has) [] [] ≡ suspicion_text has
noted_text true = refl
noted_text false = refl

-- A line was run that is no event, and was made a step.
module _ (layout : Layout) (state : Simulation) (trail : Trail) (line : Line) (was : Run) (none : state.trail.course.events ≡ [])
    (ended : trail.course ≡ record { steps = state.trail.course.steps ++ record { line = line; events = state.trail.course.events } ∷ []; events = [] })
    (view : record { layout = layout; steps = state.trail.course.steps; disks = disks_of state.bricks.items } ≡ was)
    (shows : Shows layout state (world_of (record { layout = layout; steps = state.trail.course.steps; disks = disks_of state.bricks.items }))) where
  abbrev at_first : Run
  at_first = record { layout = layout; steps = state.trail.course.steps; disks = disks_of state.bricks.items }

  abbrev passed : Run
  passed = record { layout = layout; steps = trail.course.steps; disks = disks_of state.bricks.items }

  abbrev empty_step : Step
  empty_step = record { line = line; events = [] }

  pub steps_passed : trail.course.steps ≡ state.trail.course.steps ++ empty_step ∷ []
  steps_passed =
      ap (λ (c : Course). c.steps) ended
      ∙ ap (λ (l : List Event). state.trail.course.steps ++ record { line = line; events = l } ∷ []) none

  is_passed : passed ≡ with_step at_first empty_step passed.disks
  is_passed = ap (λ (steps : List Step). record { layout = layout; steps = steps; disks = disks_of state.bricks.items }) steps_passed

  world_passed : world_of passed ≡ world_of at_first
  world_passed = ap world_of is_passed ∙ world_of-with_step at_first empty_step (disks_of state.bricks.items)

  pub shows_passed : Shows layout (record state { trail = trail }) (world_of passed)
  shows_passed =
      let now = subst (λ (v : World). Shows layout state v) (sym world_passed) shows in
      record { bricks = now.bricks; history = now.history }

  -- the step is one that was run, if the line is no event, and this is what it prints
  pub passes : (outcome : Outcome) → IsEventsOf layout (world_of was) was.disks was.disks (meant was line) []
      → outcome_text outcome [] [] ≡ empty_text layout.bricks line → RunsTo was passed line outcome
  passes outcome are text =
      let w : World = world_of at_first in
      let none_made : new_marks w w ≡ [] = drop_all (length w.marks) w.marks (omega arith) in
      let none_told : new_reports w w ≡ [] = drop_all (length w.choices.reports) w.choices.reports (omega arith) in
      subst (λ (r : Run). RunsTo r passed line outcome) view (record {
        step = empty_step;
        runs = record {
          line_is = refl;
          events_are = subst (λ (r : Run). IsEventsOf r.layout (world_of r) r.disks r.disks (meant r line) []) (sym view)
              (subst (λ (l : Layout). IsEventsOf l (world_of was) was.disks was.disks (meant was line) []) (ap (λ (r : Run). r.layout) view) are);
          run = is_passed;
          disks = refl;
          shows = disks_shown layout (record state { trail = trail }) trail.course.steps shows_passed;
        };
        prints = ap (λ (v : World). outcome_text outcome (new_marks w v) (new_reports w v)) world_passed
            ∙ ap (λ (marks : List Mark). outcome_text outcome marks (new_reports w w)) none_made
            ∙ ap (outcome_text outcome []) none_told ∙ text;
      })

  -- so are the lines that speak of two bricks, and one for which no seat changes
  pub suspect_runs : (b c : ℕ) (both : Bool) → line ≡ Suspect b c → both ≡ has_both layout.bricks b c → RunsTo was passed line (marks_if both)
  suspect_runs b c both is has =
      passes (marks_if both) (subst (λ (l : Line). IsEventsOf layout (world_of was) was.disks was.disks (meant was l) []) (sym is) refl)
      (noted_text both ∙ ap suspicion_text has ∙ sym (ap (empty_text layout.bricks) is))

  pub trust_runs : (b c : ℕ) (both : Bool) → line ≡ Trust b c → both ≡ has_both layout.bricks b c → RunsTo was passed line (marks_if both)
  trust_runs b c both is has =
      passes (marks_if both) (subst (λ (l : Line). IsEventsOf layout (world_of was) was.disks was.disks (meant was l) []) (sym is) refl)
      (noted_text both ∙ ap suspicion_text has ∙ sym (ap (empty_text layout.bricks) is))

  pub idle_runs : (b g : ℕ) → line ≡ Spare b g → spare_list was b g ≡ None → RunsTo was passed line Idle
  idle_runs b g is none =
      passes Idle
      (subst (λ (l : Line). IsEventsOf layout (world_of was) was.disks was.disks (meant was l) []) (sym is)
      (subst (λ (o : Option (List BrickId)). IsEventsOf layout (world_of was) was.disks was.disks (proposing_line b g o) []) (sym none) refl))
      (sym (ap (empty_text layout.bricks) is))

  -- what is suspected has changed by the line
  pub suspects_passed : (old new : Suspicions) → old ≡ suspicions_of at_first → new ≡ suspected_after old line → new ≡ suspicions_of passed
  suspects_passed old new is now = suspected_on layout state.trail.course.steps trail.course.steps empty_step old new steps_passed is now

  pub grows_passed : Grows was passed
  grows_passed =
      subst (λ (r : Run). Grows r passed) view
      (subst (λ (v : World). (length (world_of at_first).marks ≤ length v.marks) × (length (world_of at_first).choices.reports ≤ length v.choices.reports))
      (sym world_passed) (omega arith, omega arith))

-- a proposal prints as the line that stands for it
pub proposal_text : (layout : Layout) (w : World) (old new : List MemDisk) (b g : ℕ) (members : List ℕ) (events : List Event)
    → IsEventsOf layout w old new (Propose b g members) events
    → line_text (coding layout) w (Propose b g members) events ≡ line_text (coding layout) w (Spare b g) events
proposal_text layout w old new b g members events are =
    subst (λ (l : List Event). line_text (coding layout) w (Propose b g members) l ≡ line_text (coding layout) w (Spare b g) l) (sym are) refl

-- no memory was left for a line, and nothing was run
module _ (layout : Layout) (old new : Simulation) (none : old.trail.course.events ≡ []) (stays : StaysAs layout old new) where
  abbrev run_now : Simulation → Run
  run_now state = record { layout = layout; steps = state.trail.course.steps; disks = disks_of state.bricks.items }

  pub shows_kept : Shows layout new (world_of (run_now new))
  shows_kept =
      subst (λ (v : World). Shows layout new v)
      (at_rest layout old.trail.course none ∙ ap (λ (t : Trail). run (coding layout) (all_events t.course.steps) (first_world layout)) (sym stays.trail)) stays.shows

  pub suspects_kept : (suspicions : Suspicions) → suspicions ≡ suspicions_of (run_now old) → suspicions ≡ suspicions_of (run_now new)
  suspects_kept suspicions is = is ∙ ap (λ (t : Trail). suspected_in (unsuspecting layout) t.course.steps) (sym stays.trail)

  pub leaves_none : (line : Line) (was : Run) → run_now old ≡ was → LeavesSome was (run_now new) line
  leaves_none line was view =
      subst (λ (r : Run). LeavesSome r (run_now new) line) view
      (inl (record { layout = refl; steps = ap (λ (t : Trail). t.course.steps) stays.trail; contents = stays.contents }))
