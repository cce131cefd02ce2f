-- What a state shows, line by line.
use Rattle.std.proofs.Common.{◌≡◌, ℕ, ◌<◌, ◌≤◌, Bool, true, false, cond, nat_lt, List, [], ◌++◌, append-nil, append_assoc, Option, Some, None, refl, sym, ap, ◌∙◌, subst, arith}
use Rattle.std.specs.Prelude.{Result, Ok, Err, IfNone, OnErr}
use Rattle.std.proofs.lemmas.Bool.Decides.{nat_tests}
use Rattle.fab_base.specs.declared.asks.Ask.{Ask}
use Rattle.fab_base.specs.declared.asks.Op.{Op}
use Rattle.fab_base.specs.declared.identities.BrickId.{BrickId}
use Rattle.fab_base.specs.declared.identities.GroupId.{GroupId}
use Rattle.fab_base.specs.declared.identities.StripeNo.{StripeNo}
use Rattle.messages.specs.declared.packets.Packet.{Packet}
use Rattle.stripe_code.specs.Codes.{coding}
use Rattle.fab_base.specs.Layouts.{Layout}
use Rattle.protocol.specs.Nodes.{Node, NodeStep, put, refusal_of, proposal_refusal, sync_refusal, scrub_refusal, invoked, proposed, synced_at, scrubbed_at, received, ticked, stopped}
use Rattle.protocol.specs.Worlds.{World, Event, first_world, run, Invokes, Proposes, Syncs, Scrubs, Delivers, Sets, Ticks, Stops, is_brick, is_up, packet_of, world_began, world_stepped, world_stopped, happens}
use Rattle.world.specs.Runs.{Course, all_events, ask_of, with_events, world_at}
use Rattle.protocol.proofs.Events.{run-append}
use Rattle.world.specs.Noted.{IsSameHistory}
use Rattle.world.specs.Shown.{IsReachedBy, Shows, Stands, StaysAs, TakesEvent, ShowsBricks, Tells, seqs_of, world_in}
use Rattle.world.specs.Texts.{marks_if, is_deliverable, outcome_of}
use Rattle.world.specs.declared.simulations.Outcome.{Outcome}
use Rattle.world.specs.declared.simulations.Outcome.TheVariants.{Marks, Idle}
use Rattle.world.specs.declared.bricks.Brick.{Brick}
use Rattle.world.specs.declared.histories.History.{History}
use Rattle.world.specs.declared.simulations.Simulation.{Simulation}
use Rattle.world.proofs.MachineBegins.{happens_begun, happens_proposed, happens_synced, happens_scrubbed, happens_handled, happens_set, happens_ticked, happens_stopped}
use Rattle.world.proofs.BrickListLemmas.{shows_unput}
use Rattle.world.proofs.HistoryLemmas.{tells_other, tells_same, heard_keeps}
use Rattle.protocol.proofs.Events.{world_counting, world_handled}

-- a schedule reaches the world that a state has come to
pub come_to : (layout : Layout) (state : Simulation) → IsReachedBy layout (world_in layout state)
come_to layout state = (all_events state.trail.course.steps ++ state.trail.course.events, refl)

-- a course with no events more, and with some and then others
pub with_more : (course : Course) → with_events course [] ≡ course
with_more course = ap (λ (l : List Event). record course { events = l }) (append-nil course.events)

pub with_both : (course : Course) (events more : List Event) → with_events (with_events course events) more ≡ with_events course (events ++ more)
with_both course events more = ap (λ (l : List Event). record course { events = l }) (append_assoc course.events events more)

-- the world that a course with some events more comes to
pub course_on : (layout : Layout) (course : Course) (events : List Event)
    → world_at layout (with_events course events) ≡ run (coding layout) events (world_at layout course)
course_on layout course events =
    ap (λ (l : List Event). run (coding layout) l (first_world layout)) (sym (append_assoc (all_events course.steps) course.events events))
    ∙ run-append (coding layout) (first_world layout) (all_events course.steps ++ course.events) events

-- a state stands that shows it
pub stands_on : (layout : Layout) (old new : Simulation) (events : List Event) → new.trail.course ≡ with_events old.trail.course events
    → Shows layout new (run (coding layout) events (world_in layout old)) → Stands layout new
stands_on layout old new events course shows =
    subst (λ (v : World). Shows layout new v)
    (sym (ap (λ (c : Course). world_at layout c) course ∙ course_on layout old.trail.course events)) shows

-- what holds anyway holds where there is an error
pub on_err_always : {T E P : Type 0} (r : Result T E) → P → OnErr r P
on_err_always (Ok x) p = tt
on_err_always (Err e) p = p

-- what holds anyway holds where there is no value
pub if_none_always : {T P : Type 0} (o : Option T) → P → IfNone o P
if_none_always None p = p
if_none_always (Some x) p = tt

-- an operation on the stripe of these numbers
pub ask_is : (ask : Ask) (g s : ℕ) (op : Op) → ask.group.0 ≡ g → ask.stripe.0 ≡ s → ask.op ≡ op → ask ≡ ask_of g s op
ask_is ask g s op group stripe same =
    ap (λ x. ask_of x ask.stripe.0 ask.op) group ∙ ap (λ x. ask_of g x ask.op) stripe ∙ ap (λ x. ask_of g s x) same

-- an operation that began
pub shows_begun : (layout : Layout) (state : Simulation) (w : World) (brick : BrickId) (ask : Ask) → is_up layout w brick ≡ true
    → refusal_of layout (w.nodes brick.0) ask ≡ None
    → ShowsBricks layout state.bricks.items (put w.nodes brick.0
    (invoked (coding layout) brick (w.clocks brick.0) (w.nodes brick.0) ask).node) w.after w.up w.clocks
    → Tells state.history (world_began w brick ask (invoked (coding layout) brick (w.clocks brick.0) (w.nodes brick.0) ask))
    → Shows layout state (happens (coding layout) w (Invokes brick ask))
shows_begun layout state w brick ask up none bricks history =
    subst (λ (v : World). Shows layout state v) (sym (happens_begun (coding layout) w brick ask up none))
    (record { bricks = bricks; history = history })

-- an event that changes nothing
pub shows_still : (layout : Layout) (state : Simulation) (w v : World) → v ≡ w → Shows layout state w → Shows layout state v
shows_still layout state w v same shows = subst (λ (x : World). Shows layout state x) (sym same) shows

-- so such an event takes a state to itself
pub takes_still : (layout : Layout) (state : Simulation) (event : Event) (outcome : Outcome) → Stands layout state
    → happens (coding layout) (world_in layout state) event ≡ world_in layout state → outcome ≡ outcome_of (coding layout) (world_in layout state) event
    → TakesEvent layout state state event outcome
takes_still layout state event outcome stands same is = record {
  trail = refl;
  shows = shows_still layout state (world_in layout state) (happens (coding layout) (world_in layout state) event) same stands;
  outcome_is = is;
  disks = refl;
}

-- a state of the same bricks, whose history tells what the other's told, shows what that shows
pub shows_alike : (layout : Layout) (old new : Simulation) (w : World) → new.bricks.items ≡ old.bricks.items → IsSameHistory old.history new.history
    → Shows layout old w → Shows layout new w
shows_alike layout old new w same stays shows = record {
  bricks = subst (λ (bricks : List Brick). ShowsBricks layout bricks w.nodes w.after w.up w.clocks) (sym same) shows.bricks;
  history = tells_same (seqs_of w) old.history new.history w stays shows.history;
}

-- so nothing happened where the history alone was written, and tells what it told
pub stays_alike : (layout : Layout) (old : Simulation) (history : History) → IsSameHistory old.history history → Stands layout old
    → StaysAs layout old (record old { history = history })
stays_alike layout old history same stands = record {
  trail = refl;
  shows = shows_alike layout old (record old { history = history }) (world_in layout old) refl same stands;
  contents = refl;
}

-- a brick that was asked, and stays as it was
pub shows_asked : (layout : Layout) (old new : Simulation) (w : World) (brick : BrickId) (next : Node) → next ≡ w.nodes brick.0
    → ShowsBricks layout new.bricks.items (put w.nodes brick.0 next) w.after w.up w.clocks → IsSameHistory old.history new.history
    → Shows layout old w → Shows layout new w
shows_asked layout old new w brick next stays bricks same shows = record {
  bricks = shows_unput layout new.bricks.items brick.0 w next stays bricks;
  history = tells_same (seqs_of w) old.history new.history w same shows.history;
}

-- which replies count is told by no history
pub tells_replies : (layout : Layout) (history : History) (w : World) (number : ℕ) (packet : Packet)
    → Tells history (record w { reached = put w.reached number true }) → Tells history (world_counting (coding layout) w number packet)
tells_replies layout history w number packet tells =
    tells_other (seqs_of w) history (record w { reached = put w.reached number true }) (seqs_of w) (world_counting (coding layout) w number packet)
    refl refl refl refl refl refl refl (λ i calls are. are) tells

-- what a step tells and answers changes no brick but its own
bricks_stepped : (layout : Layout) (bricks : List Brick) (w : World) (brick : BrickId) (step : NodeStep)
    → ShowsBricks layout bricks (put w.nodes brick.0 step.node) w.after w.up w.clocks
    → (let next : World = world_stepped (coding layout) w brick step in ShowsBricks layout bricks next.nodes next.after next.up next.clocks)
bricks_stepped layout bricks w brick step shows =
    let next : World = world_stepped (coding layout) w brick step in
    let keeps = heard_keeps (coding layout) w brick step in
    subst (λ (f : ℕ → ℕ). ShowsBricks layout bricks next.nodes next.after next.up f) (sym keeps.clocks)
    (subst (λ (f : ℕ → Bool). ShowsBricks layout bricks next.nodes next.after f w.clocks) (sym keeps.up)
    (subst (λ (f : ℕ → Node). ShowsBricks layout bricks next.nodes f w.up w.clocks) (sym keeps.after) shows))

-- a message that was handled
pub shows_handled : (layout : Layout) (state : Simulation) (w : World) (number : ℕ) (packet : Packet) → packet_of w.packets number ≡ Some packet
    → is_up layout w packet.to ≡ true
    → ShowsBricks layout state.bricks.items
    (put w.nodes packet.to.0 (received (coding layout) packet.to (w.clocks packet.to.0) (w.nodes packet.to.0) packet).node) w.after w.up w.clocks
    → Tells state.history (world_handled (coding layout) w number packet)
    → Shows layout state (happens (coding layout) w (Delivers number))
shows_handled layout state w number packet sent up bricks history =
    let step : NodeStep = received (coding layout) packet.to (w.clocks packet.to.0) (w.nodes packet.to.0) packet in
    subst (λ (x : World). Shows layout state x) (sym (happens_handled (coding layout) w number packet sent up))
    (record { bricks = bricks_stepped layout state.bricks.items (world_counting (coding layout) w number packet) packet.to step bricks; history = history })

-- a brick that proposed, or reported that it may not
pub shows_proposed : (layout : Layout) (state : Simulation) (w : World) (brick : BrickId) (group : GroupId) (members : List BrickId)
    → is_up layout w brick ≡ true → proposal_refusal layout (w.nodes brick.0) group.0 ≡ None
    → (let step : NodeStep = proposed (coding layout) brick (w.nodes brick.0) group members in
    ShowsBricks layout state.bricks.items (put w.nodes brick.0 step.node) w.after w.up w.clocks
    → Tells state.history (world_stepped (coding layout) w brick step) → Shows layout state (happens (coding layout) w (Proposes brick group members)))
shows_proposed layout state w brick group members up none bricks history =
    subst (λ (x : World). Shows layout state x) (sym (happens_proposed (coding layout) w brick group members up none)) (record {
      bricks = bricks_stepped layout state.bricks.items w brick (proposed (coding layout) brick (w.nodes brick.0) group members) bricks;
      history = history;
    })

-- a brick that synchronised, or began to
pub shows_synced : (layout : Layout) (state : Simulation) (w : World) (brick : BrickId) (group : GroupId)
    → is_up layout w brick ≡ true → sync_refusal layout (w.nodes brick.0) group.0 ≡ None
    → (let step : NodeStep = synced_at (coding layout) brick (w.clocks brick.0) (w.nodes brick.0) group in
    ShowsBricks layout state.bricks.items (put w.nodes brick.0 step.node) w.after w.up w.clocks
    → Tells state.history (world_stepped (coding layout) w brick step) → Shows layout state (happens (coding layout) w (Syncs brick group)))
shows_synced layout state w brick group up none bricks history =
    subst (λ (x : World). Shows layout state x) (sym (happens_synced (coding layout) w brick group up none)) (record {
      bricks = bricks_stepped layout state.bricks.items w brick (synced_at (coding layout) brick (w.clocks brick.0) (w.nodes brick.0) group) bricks;
      history = history;
    })

-- a brick that began to scrub
pub shows_scrubbed : (layout : Layout) (state : Simulation) (w : World) (brick : BrickId) (group : GroupId) (stripe : StripeNo) (members : List BrickId)
    → is_up layout w brick ≡ true → scrub_refusal layout (w.nodes brick.0) group stripe members ≡ None
    → (let step : NodeStep = scrubbed_at (coding layout) brick (w.clocks brick.0) (w.nodes brick.0) group stripe members in
    ShowsBricks layout state.bricks.items (put w.nodes brick.0 step.node) w.after w.up w.clocks
    → Tells state.history (world_stepped (coding layout) w brick step) → Shows layout state (happens (coding layout) w (Scrubs brick group stripe members)))
shows_scrubbed layout state w brick group stripe members up none bricks history =
    subst (λ (x : World). Shows layout state x) (sym (happens_scrubbed (coding layout) w brick group stripe members up none)) (record {
      bricks = bricks_stepped layout state.bricks.items w brick
          (scrubbed_at (coding layout) brick (w.clocks brick.0) (w.nodes brick.0) group stripe members) bricks;
      history = history;
    })

-- a clock that was set
pub shows_set : (layout : Layout) (old new : Simulation) (w : World) (brick : BrickId) (time : ℕ) → brick.0 < layout.bricks
    → ShowsBricks layout new.bricks.items w.nodes w.after w.up (put w.clocks brick.0 time) → new.history ≡ old.history
    → Shows layout old w → Shows layout new (happens (coding layout) w (Sets brick time))
shows_set layout old new w brick time within bricks same shows =
    subst (λ (v : World). Shows layout new v) (sym (happens_set (coding layout) w brick time within))
    (record {
      bricks = bricks;
      history = subst (λ (h : History). Tells h (record w { clocks = put w.clocks brick.0 time })) (sym same)
          (tells_other (seqs_of w) old.history w (seqs_of w) (record w { clocks = put w.clocks brick.0 time }) refl refl refl refl refl refl refl
          (λ i calls are. are) shows.history);
    })

-- what setting a clock comes to
pub set_here : (layout : Layout) (brick : BrickId) → brick.0 < layout.bricks → Marks ≡ marks_if (is_brick layout brick)
set_here layout brick within =
    sym (ap (λ b. cond b Marks Idle) (let e : nat_lt brick.0 layout.bricks ≡ true = grind (arith, nat_tests) in e))

pub set_nowhere : (layout : Layout) (brick : BrickId) → layout.bricks ≤ brick.0 → Idle ≡ marks_if (is_brick layout brick)
set_nowhere layout brick past =
    sym (ap (λ b. cond b Marks Idle) (let e : nat_lt brick.0 layout.bricks ≡ false = grind (arith, nat_tests) in e))

-- a message to a brick that is not up comes to nothing
pub handled_astray : (layout : Layout) (w : World) (packet : Packet) (found : Option Packet) → found ≡ Some packet → is_up layout w packet.to ≡ false
    → Idle ≡ marks_if (is_deliverable (coding layout) w found)
handled_astray layout w packet found is down = sym (ap (λ p. marks_if (is_deliverable (coding layout) w p)) is ∙ ap (λ b. cond b Marks Idle) down)

-- a message to a brick that is up is handled
pub handled_here : (layout : Layout) (w : World) (packet : Packet) (found : Option Packet) → found ≡ Some packet → is_up layout w packet.to ≡ true
    → Marks ≡ marks_if (is_deliverable (coding layout) w found)
handled_here layout w packet found is up = sym (ap (λ p. marks_if (is_deliverable (coding layout) w p)) is ∙ ap (λ b. cond b Marks Idle) up)

-- a brick that ticked
pub shows_ticked : (layout : Layout) (state : Simulation) (w : World) (brick : BrickId) → is_up layout w brick ≡ true
    → ShowsBricks layout state.bricks.items w.nodes w.after w.up w.clocks
    → Tells state.history (record w { packets = w.packets ++ ticked (coding layout) brick (w.nodes brick.0) })
    → Shows layout state (happens (coding layout) w (Ticks brick))
shows_ticked layout state w brick up bricks history =
    subst (λ (v : World). Shows layout state v) (sym (happens_ticked (coding layout) w brick up)) (record { bricks = bricks; history = history })

-- a brick that stopped
pub shows_crashed : (layout : Layout) (state : Simulation) (w : World) (brick : BrickId) → is_up layout w brick ≡ true
    → ShowsBricks layout state.bricks.items (put w.nodes brick.0 (stopped (w.nodes brick.0))) (put w.after brick.0 (stopped (w.nodes brick.0)))
    (put w.up brick.0 false) w.clocks
    → Tells state.history (world_stopped (coding layout) w brick None)
    → Shows layout state (happens (coding layout) w (Stops brick None))
shows_crashed layout state w brick up bricks history =
    subst (λ (v : World). Shows layout state v) (sym (happens_stopped (coding layout) w brick up)) (record { bricks = bricks; history = history })

-- what a tick and a crash come to
pub done_here : (layout : Layout) (w : World) (brick : BrickId) → is_up layout w brick ≡ true → Marks ≡ marks_if (is_up layout w brick)
done_here layout w brick up = sym (ap (λ b. cond b Marks Idle) up)

pub done_nowhere : (layout : Layout) (w : World) (brick : BrickId) → is_up layout w brick ≡ false → Idle ≡ marks_if (is_up layout w brick)
done_nowhere layout w brick down = sym (ap (λ b. cond b Marks Idle) down)
