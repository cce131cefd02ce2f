-- What a line that delivers a message, or another line, comes to.
use Rattle.std.proofs.Common.{◌≡◌, inl, inr, ℕ, Bool, true, false, cond, List, [], ◌∷◌, append-nil, arith, Option, Some, None, Result, Ok, Err, refl, sym, ap, ◌∙◌, subst}
use Rattle.std.specs.Prelude.{slice_get, map, IfOk}
use Rattle.std.proofs.lemmas.Bool.{and_parts, eq-eqb}
use Rattle.fab_base.specs.declared.identities.BrickId.{BrickId}
use Rattle.fab_base.specs.Layouts.{Layout}
use Rattle.fab_disk.specs.declared.disk.Plan.{Plan}
use Rattle.fab_disk.specs.Plan.{IsWithin}
use Rattle.fab_disk.specs.declared.mem_disk.MemDisk.{MemDisk}
use Rattle.frame_store.specs.declared.shapes.Form.TheVariants.{New}
use Rattle.lines.specs.declared.forms.Fault.{Fault}
use Rattle.lines.specs.declared.forms.Line.{Line}
use Rattle.lines.specs.declared.forms.Line.TheVariants.{Nothing, Deliver, Start, Calm}
use Rattle.messages.specs.declared.packets.Packet.{Packet}
use Rattle.node.specs.Calls.{packet_calls}
use Rattle.node.specs.Outcomes.{Outcome as Sent}
use Rattle.stripe_code.specs.Codes.{coding}
use Rattle.protocol.specs.Settings.{Setting}
use Rattle.protocol.specs.Nodes.{Node, put, received, absorbed, stopped}
use Rattle.protocol.specs.Worlds.{World, Event, Delivers, Stops, is_brick, is_up, packet_of, reached_at, reached_during, left_after, world_stopped, happens, run}
use Rattle.protocol.specs.Calms.{IsCalm, operation_marked}
use Rattle.world.specs.Runs.{brick_of}
use Rattle.world.specs.Faults.{IsEventsOf, IsLeft, IsReached, plan_of}
use Rattle.world.specs.BrickSteps.{ChangesBrick}
use Rattle.world.specs.Noted.{IsSameHistory}
use Rattle.world.specs.Disks.{KeepsDisks, KeepsOthers, LeavesDisks, ListsEvent, ListsHandled, ListsPacket, receiver_of, changes_disk_of}
use Rattle.world.specs.EventCalls.{handled_calls}
use Rattle.world.specs.declared.bricks.Power.{Power}
use Rattle.world.specs.Shown.{IsRunning, IsUpWith, Shows, ShowsBricks, ShowsPower, TookPart, TookWhole, disk_in, StartsAs, Tells, Comes, ComesTo, TakesEvent, StaysAs, StopsShort, RunsLine, RefusesLine, AsksBricks, IsOther, disks_of, world_in}
use Rattle.world.specs.Texts.{marks_if, is_deliverable, outcome_of, outcome_text, new_marks, new_reports, event_text, text_of, line_text}
use Rattle.world.specs.declared.simulations.Outcome.{Outcome}
use Rattle.world.specs.declared.simulations.Outcome.TheVariants.{Marks, Idle}
use Rattle.world.specs.declared.simulations.Simulation.{Simulation}
use Rattle.world.specs.declared.bricks.Brick.{Brick}
use Rattle.world.specs.declared.histories.History.{History}
use Rattle.world.proofs.BrickLemmas.{up_power}
use Rattle.world.proofs.BrickListLemmas.{shows_down, shows_step}
use Rattle.world.proofs.DiskLemmas.{disk_was, of_disk, of_now, one_kept, others_changed, same_kept, unwritten_changed}
use Rattle.world.proofs.HistoryLemmas.{tells_during}
use Rattle.world.proofs.MachineBegins.{happens_stopped_during, happens_unsent, happens_astray}
use Rattle.world.proofs.RunLemmas.{nothing_text, came_text, start_few}
use Rattle.world.proofs.SimulationLemmas.{shows_alike, shows_still, shows_handled, handled_here, handled_astray}
use Rattle.protocol.proofs.Events.{world_handled}

-- what follows of each value follows of a result
pub ok_each : {T E : Type 0} (r : Result T E) (Q R : T → Type 0) → ((x : T) → Q x → R x) → IfOk r Q → IfOk r R
ok_each (Ok x) Q R each q = each x q
ok_each (Err e) Q R each q = tt

-- a line that is one event
pub one_event : (layout : Layout) (w : World) (disks : List MemDisk) (state : Simulation) (line : Line) (outcome : Outcome) (event : Event)
    → IsEventsOf layout w disks (disks_of state.bricks.items) line (event ∷ [])
    → Shows layout state (happens (coding layout) w event) → outcome ≡ outcome_of (coding layout) w event
    → LeavesDisks layout w event disks (disks_of state.bricks.items)
    → Comes layout w disks state line outcome
one_event layout w disks state line outcome event are shows comes kept = (
  event ∷ [],
  record {
    are = are;
    shows = shows;
    prints = ap (λ (o : Outcome). outcome_text o (new_marks w (happens (coding layout) w event)) (new_reports w (happens (coding layout) w event))) comes
        ∙ sym (append-nil (event_text (coding layout) w event));
    kept = one_kept (coding layout) w event disks (disks_of state.bricks.items) kept;
  },
)

-- no call of none is named
never_within : (calls : ℕ) (plan : Plan) → calls ≡ 0 → IsWithin calls plan → ⊥
never_within calls plan none within = omega (arith, none, within.some, within.reached)

-- a message that was not sent
pub unsent_comes : (layout : Layout) (w : World) (state : Simulation) (number : ℕ) (fault : Option Fault) → packet_of w.packets number ≡ None
    → Shows layout state w → Comes layout w (disks_of state.bricks.items) state (Deliver number fault) Idle
unsent_comes layout w state number fault none shows =
    one_event layout w (disks_of state.bricks.items) state (Deliver number fault) Idle (Delivers number)
    (inr (record { spared = λ struck. (let never : Some struck.packet ≡ None = sym struck.sent ∙ none in cc); events_are = refl }))
    (shows_still layout state w (happens (coding layout) w (Delivers number)) (happens_unsent (coding layout) w number none) shows)
    (sym (ap (λ p. marks_if (is_deliverable (coding layout) w p)) none))
    (same_kept layout w (Delivers number) (disks_of state.bricks.items) (disks_of state.bricks.items) refl
    (subst (λ (p : Option Packet). ListsHandled layout w p (disks_of state.bricks.items) (disks_of state.bricks.items)) (sym none) tt))

-- a message to a brick that is not up
pub astray_comes : (layout : Layout) (w : World) (state : Simulation) (number : ℕ) (fault : Option Fault) (packet : Packet)
    → packet_of w.packets number ≡ Some packet → is_up layout w packet.to ≡ false → Shows layout state w
    → Comes layout w (disks_of state.bricks.items) state (Deliver number fault) Idle
astray_comes layout w state number fault packet sent down shows =
    one_event layout w (disks_of state.bricks.items) state (Deliver number fault) Idle (Delivers number)
    (inr (record { spared = λ struck. not_struck struck.packet struck.sent struck.up; events_are = refl }))
    (shows_still layout state w (happens (coding layout) w (Delivers number)) (happens_astray (coding layout) w number packet sent down) shows)
    (handled_astray layout w packet (packet_of w.packets number) sent down)
    (same_kept layout w (Delivers number) (disks_of state.bricks.items) (disks_of state.bricks.items) refl
    (subst (λ (p : Option Packet). ListsHandled layout w p (disks_of state.bricks.items) (disks_of state.bricks.items)) (sym sent)
    (λ up. let never : true ≡ false = sym up ∙ down in absurd cc)))
  where
    not_struck : (other : Packet) → packet_of w.packets number ≡ Some other → is_up layout w other.to ≡ true → ⊥
    not_struck other is up =
        let same : other ≡ packet = (let e : Some other ≡ Some packet = sym is ∙ sent in cc) in
        let never : true ≡ false = sym up ∙ ap (λ (p : Packet). is_up layout w p.to) same ∙ down in
        cc

-- A message to a brick that is up, which may have changed.
module _ (layout : Layout) (w : World) (old new : Simulation) (number : ℕ) (fault : Option Fault) (packet : Packet) {Holds : Brick → Power → Type 0}
    (sent : packet_of w.packets number ≡ Some packet) (up : is_up layout w packet.to ≡ true)
    (shows : ShowsBricks layout old.bricks.items w.nodes w.after w.up w.clocks)
    (changes : ChangesBrick old.bricks.items new.bricks.items packet.to Holds) where
  changes_here : changes_disk_of layout w (Delivers number) ≡ Some packet.to
  changes_here = ap (receiver_of layout w) sent ∙ ap (λ (b : Bool). cond b (Some packet.to) None) up

  calls_here : (listed : ℕ) → handled_calls layout w listed (packet_of w.packets number) ≡ packet_calls layout packet.to (w.nodes packet.to.0) packet listed
  calls_here listed =
      ap (handled_calls layout w listed) sent
      ∙ ap (λ (b : Bool). cond b (packet_calls layout packet.to (w.nodes packet.to.0) packet listed) 0) up

  -- it is up now
  pub on_now : (next : Node) → IsUpWith changes.power (IsRunning layout packet.to next)
      → ShowsPower layout packet.to next (w.after packet.to.0) (w.up packet.to.0) changes.power
  on_now next runs =
      subst (λ (on : Bool). ShowsPower layout packet.to next (w.after packet.to.0) on changes.power)
      (sym (and_parts (is_brick layout packet.to) (w.up packet.to.0) up).1) (up_power layout packet.to next (w.after packet.to.0) changes.power runs)

  pub whole_comes : (outs : Sent)
      → TookWhole layout packet.to (w.nodes packet.to.0) (w.clocks packet.to.0) packet (disk_in changes.brick.power) fault changes.power outs
      → Tells new.history (world_handled (coding layout) w number packet)
      → Comes layout w (disks_of old.bricks.items) new (Deliver number fault) Marks
  whole_comes outs took history =
      one_event layout w (disks_of old.bricks.items) new (Deliver number fault) Marks (Delivers number)
      (inr (record { spared = λ struck. not_struck struck.packet struck.sent struck.disk struck.disk_is struck.reached; events_are = refl }))
      (shows_handled layout new w number packet sent up
      (shows_step w shows changes _ (on_now (received (coding layout) packet.to (w.clocks packet.to.0) (w.nodes packet.to.0) packet).node took.on)) history)
      (handled_here layout w packet (packet_of w.packets number) sent up)
      (record {
        others = subst (λ (b : Option BrickId). KeepsOthers b (disks_of old.bricks.items) (disks_of new.bricks.items)) (sym changes_here) (others_changed changes);
        still = λ none. unwritten_changed changes (took.still (λ listed. sym (calls_here listed) ∙ none listed New true));
        lists = subst (λ (p : Option Packet). ListsHandled layout w p (disks_of old.bricks.items) (disks_of new.bricks.items)) (sym sent)
            (λ is. of_disk changes (ListsPacket layout packet.to (w.nodes packet.to.0) packet) took.lists);
      })
    where
      not_struck : (other : Packet) → packet_of w.packets number ≡ Some other → (disk : MemDisk)
          → slice_get (disks_of old.bricks.items) other.to.0 ≡ Some disk
          → IsReached layout other.to (w.nodes other.to.0) other disk (plan_of fault) → ⊥
      not_struck other is disk disk_is reached =
          let same : other ≡ packet = (let e : Some other ≡ Some packet = sym is ∙ sent in cc) in
          let here : slice_get (disks_of old.bricks.items) packet.to.0 ≡ Some disk =
          subst (λ (p : Packet). slice_get (disks_of old.bricks.items) p.to.0 ≡ Some disk) same disk_is in
          let its : disk ≡ disk_in changes.brick.power = (let e : Some disk ≡ Some (disk_in changes.brick.power) = sym here ∙ disk_was changes in cc) in
          took.spared (subst (λ (d : MemDisk). IsReached layout packet.to (w.nodes packet.to.0) packet d (plan_of fault)) its
          (subst (λ (p : Packet). IsReached layout p.to (w.nodes p.to.0) p disk (plan_of fault)) same reached))

  left_is : left_after (coding layout) packet.to (w.nodes packet.to.0) (packet_of w.packets number)
      ≡ stopped (absorbed (coding layout) packet.to (w.nodes packet.to.0) packet)
  left_is =
      ap (left_after (coding layout) packet.to (w.nodes packet.to.0)) sent
      ∙ ap (λ (b : Bool). cond b (stopped (absorbed (coding layout) packet.to (w.nodes packet.to.0) packet)) (stopped (w.nodes packet.to.0)))
      (eq-eqb packet.to.0 packet.to.0 refl)

  reached_is : reached_during w packet.to (Some number) ≡ put w.reached number true
  reached_is =
      ap (reached_at w.reached packet.to number) sent
      ∙ ap (λ (b : Bool). cond b (put w.reached number true) w.reached) (eq-eqb packet.to.0 packet.to.0 refl)

  pub part_comes : TookPart layout packet.to (w.nodes packet.to.0) packet (disk_in changes.brick.power) fault changes.power
      → Tells new.history (world_stopped (coding layout) (record w { reached = put w.reached number true }) packet.to None)
      → Comes layout w (disks_of old.bricks.items) new (Deliver number fault) Marks
  part_comes took history =
      let v : World = world_stopped (coding layout) w packet.to (Some number) in
      let before : Node = stopped (w.nodes packet.to.0) in
      let after : Node = stopped (absorbed (coding layout) packet.to (w.nodes packet.to.0) packet) in
      let calls : ℕ = packet_calls layout packet.to (w.nodes packet.to.0) packet took.reached.listed in
      one_event layout w (disks_of old.bricks.items) new (Deliver number fault) Marks (Stops packet.to (Some number))
      (inl (record {
        struck = record {
          packet = packet;
          sent = sent;
          up = up;
          disk = disk_in changes.brick.power;
          disk_is = disk_was changes;
          reached = took.reached;
        };
        events_are = refl;
        left = of_now changes (IsLeft layout packet.to before after calls fault) took.left;
      }))
      (subst (λ (x : World). Shows layout new x) (sym (happens_stopped_during (coding layout) w packet.to (Some number) up))
      (record {
        bricks = subst (λ (node : Node). ShowsBricks layout new.bricks.items v.nodes (put w.after packet.to.0 node) v.up v.clocks) (sym left_is)
            (shows_down w shows changes before after took.off);
        history = tells_during (coding layout) new.history w packet.to number reached_is history;
      }))
      (sym (ap marks_if up))
      (record {
        others = others_changed changes;
        still = λ none.
            absurd (never_within calls (plan_of fault) (sym (calls_here took.reached.listed) ∙ none took.reached.listed New true) took.reached.within);
        lists = tt;
      })

-- what a start prints is the text of its events
start_text : (setting : Setting) (w : World) (b : ℕ) (fault : Option Fault) (events : List Event)
    → line_text setting w (Start b fault) events ≡ text_of setting w events
start_text setting w b fault [] = refl
start_text setting w b fault (event ∷ events) = refl

-- the start of a brick
pub start_comes : (layout : Layout) (w : World) (old new : Simulation) (brick : BrickId) (fault : Option Fault) (started : Bool)
    → new.history ≡ old.history → Shows layout old w
    → (events : List Event) × StartsAs layout w brick fault old.bricks.items new.bricks.items started events
    → Comes layout w (disks_of old.bricks.items) new (Start brick.0 fault) (cond started Marks Idle)
start_comes layout w old new brick fault started same shows (events, starts) = (
  events,
  record {
    are = starts.are;
    shows = record {
      bricks = starts.bricks;
      history = starts.tells new.history (subst (λ (h : History). Tells h w) (sym same) shows.history);
    };
    prints = ap (λ (o : Outcome). outcome_text o (new_marks w (run (coding layout) events w)) (new_reports w (run (coding layout) events w))) starts.comes
        ∙ came_text (coding layout) w events (start_few layout w (disks_of old.bricks.items) (disks_of new.bricks.items) brick fault events starts.are)
        ∙ sym (start_text (coding layout) w brick.0 fault events);
    kept = starts.kept;
  },
)

-- a line that says nothing
pub nothing_comes : (layout : Layout) (w : World) (state : Simulation) → Shows layout state w
    → Comes layout w (disks_of state.bricks.items) state Nothing Marks
nothing_comes layout w state shows =
    ([], record { are = refl; shows = shows; prints = nothing_text w; kept = refl })

-- an operation that may not run alone
pub idle_comes : (layout : Layout) (w : World) (state : Simulation) (n : ℕ) (bricks : List ℕ)
    → (IsCalm (coding layout) w (operation_marked w n) (map brick_of bricks) → ⊥) → Shows layout state w
    → ComesTo layout w (disks_of state.bricks.items) state (Calm n bricks) Idle []
idle_comes layout w state n bricks not shows = record { are = inr (not, refl); shows = shows; prints = refl; kept = refl }

-- what a line came to is so of a state of the same bricks, whose history tells what the other's told
pub came_alike : (layout : Layout) (w : World) (disks : List MemDisk) (old new : Simulation) (line : Line) (outcome : Outcome) (events : List Event)
    → new.bricks.items ≡ old.bricks.items → IsSameHistory old.history new.history → ComesTo layout w disks old line outcome events
    → ComesTo layout w disks new line outcome events
came_alike layout w disks old new line outcome events same stays comes = record {
  are = subst (λ (bricks : List Brick). IsEventsOf layout w disks (disks_of bricks) line events) (sym same) comes.are;
  shows = shows_alike layout old new (run (coding layout) events w) same stays comes.shows;
  prints = comes.prints;
  kept = subst (λ (bricks : List Brick). KeepsDisks (coding layout) w events disks (disks_of bricks)) (sym same) comes.kept;
}

-- so such a line runs that is one event, which makes no call of a disk
pub takes_runs : (layout : Layout) (old new : Simulation) (line : Line) (event : Event) (outcome : Outcome)
    → (let w : World = world_in layout old in
    IsEventsOf layout w (disks_of old.bricks.items) (disks_of new.bricks.items) line (event ∷ [])
    → ListsEvent layout w event (disks_of old.bricks.items) (disks_of new.bricks.items)
    → TakesEvent layout old new event outcome → RunsLine layout old new line outcome)
takes_runs layout old new line event outcome are lists takes = record {
  trail = takes.trail;
  comes = one_event layout (world_in layout old) (disks_of old.bricks.items) new line outcome event are takes.shows takes.outcome_is
      (same_kept layout (world_in layout old) event (disks_of old.bricks.items) (disks_of new.bricks.items) takes.disks lists);
}

-- a line that asks something of bricks is such a one, or has an operation run alone
pub other_is : (line : Line) → AsksBricks line → ((n : ℕ) (bricks : List ℕ) → line ≡ Calm n bricks → ⊥) → IsOther line
other_is (Calm n bricks) asks never = absurd (never n bricks refl)
other_is line asks never = asks

pub other_refuses : (layout : Layout) (old new : Simulation) (line : Line) → ((n : ℕ) (bricks : List ℕ) → line ≡ Calm n bricks → ⊥)
    → StaysAs layout old new → RefusesLine layout old new line
other_refuses layout old new (Calm n bricks) never stays = absurd (never n bricks refl)
other_refuses layout old new line never stays = stays

pub other_stays : (layout : Layout) (old new : Simulation) (line : Line) → ((n : ℕ) (bricks : List ℕ) → line ≡ Calm n bricks → ⊥)
    → RefusesLine layout old new line → StaysAs layout old new
other_stays layout old new (Calm n bricks) never refuses = absurd (never n bricks refl)
other_stays layout old new line never refuses = refuses

-- and such a line was not run to its end
pub calm_stops : (layout : Layout) (old new : Simulation) (line : Line) (n : ℕ) (bricks : List ℕ) → line ≡ Calm n bricks → RefusesLine layout old new line
    → StopsShort layout old new line
calm_stops layout old new line n bricks is =
    subst (λ (l : Line). RefusesLine layout old new l → StopsShort layout old new l) (sym is) (λ refuses. refuses)
