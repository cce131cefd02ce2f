-- What an event makes of a world: nothing, or one of nine things. So a fact holds in every world of a run where it holds at first, and each of
-- these keeps it.
use Rattle.std.proofs.Common.{◌≡◌, ℕ, true, List, [], ◌∷◌, ◌++◌, Option, Some, None, refl, ap, subst, Bool}
use Rattle.std.proofs.lemmas.Bool.{cond_both}
use Rattle.fab_base.specs.declared.identities.BrickId.{BrickId}
use Rattle.fab_base.specs.declared.identities.GroupId.{GroupId}
use Rattle.fab_base.specs.declared.identities.StripeNo.{StripeNo}
use Rattle.fab_base.specs.declared.asks.Ask.{Ask}
use Rattle.fab_base.specs.declared.answers.Cause.{Cause}
use Rattle.fab_base.specs.declared.stamps.Stamp.{Stamp}
use Rattle.messages.specs.declared.calls.Call.{Call}
use Rattle.messages.specs.declared.packets.Packet.{Packet}
use Rattle.protocol.specs.Settings.{Setting}
use Rattle.protocol.specs.declared.tellings.Told.{Told}
use Rattle.protocol.specs.declared.tellings.Told.TheVariants.{Made, Seen, Began, Closed}
use Rattle.protocol.specs.declared.tellings.Answered.{Answered}
use Rattle.protocol.specs.Nodes.{Node, NodeStep, put, invoked, proposed, synced_at, scrubbed_at, received}
use Rattle.protocol.specs.Worlds.{World, Choices, Found, Before, After, Event, Invokes, Proposes, Syncs, Scrubs, Delivers, Sets, Ticks, Stops, Starts, first_world, is_brick, is_up, may_begin, may_propose, may_sync, may_scrub, may_start, replies_with, voiced, delivered, packet_of, world_began, world_told, world_tells, world_answered, world_answers, world_stepped, world_ticked, world_stopped, world_found, world_started, happens, run}

-- a brick's step on a packet
abbrev pub step_on : Setting → World → Packet → NodeStep
step_on setting w packet = received setting packet.to (w.clocks packet.to.0) (w.nodes packet.to.0) packet

-- the world in which a packet's reply has counted, and the packet has been delivered
abbrev pub world_counting : Setting → World → ℕ → Packet → World
world_counting setting w number packet = record w { replies = replies_with setting w packet; choices = voiced setting w packet; reached = put w.reached number true }

-- the world once a packet was handled
abbrev pub world_handled : Setting → World → ℕ → Packet → World
world_handled setting w number packet = world_stepped setting (world_counting setting w number packet) packet.to (step_on setting w packet)

-- a fact of each event that changes something, and of the world that it leaves
pub record EachEvent (setting : Setting) (w : World) (P : Event → World → Type 0) : Type 0 where
  pub begins : (brick : BrickId) (ask : Ask) → may_begin setting w brick ask ≡ true
      → P (Invokes brick ask) (world_began w brick ask (invoked setting brick (w.clocks brick.0) (w.nodes brick.0) ask))
  pub proposes : (brick : BrickId) (group : GroupId) (members : List BrickId) → may_propose setting w brick group ≡ true
      → P (Proposes brick group members) (world_stepped setting w brick (proposed setting brick (w.nodes brick.0) group members))
  pub syncs : (brick : BrickId) (group : GroupId) → may_sync setting w brick group ≡ true
      → P (Syncs brick group) (world_stepped setting w brick (synced_at setting brick (w.clocks brick.0) (w.nodes brick.0) group))
  pub scrubs : (brick : BrickId) (group : GroupId) (stripe : StripeNo) (members : List BrickId) → may_scrub setting w brick group stripe members ≡ true
      → P (Scrubs brick group stripe members)
      (world_stepped setting w brick (scrubbed_at setting brick (w.clocks brick.0) (w.nodes brick.0) group stripe members))
  pub handles : (number : ℕ) (packet : Packet) → packet_of w.packets number ≡ Some packet → is_up setting.layout w packet.to ≡ true
      → P (Delivers number) (world_handled setting w number packet)
  pub sets : (brick : BrickId) (time : ℕ) → is_brick setting.layout brick ≡ true
      → P (Sets brick time) (record w { clocks = put w.clocks brick.0 time })
  pub ticks : (brick : BrickId) → is_up setting.layout w brick ≡ true → P (Ticks brick) (world_ticked setting w brick)
  pub stops : (brick : BrickId) (during : Option ℕ) → is_up setting.layout w brick ≡ true
      → P (Stops brick during) (world_stopped setting w brick during)
  pub starts : (brick : BrickId) (openings : ℕ) (found : Found) → may_start setting.layout w brick openings ≡ true
      → P (Starts brick openings found) (world_started (world_found w brick found) brick openings)

-- the same, of the world alone
abbrev pub EventCases : Setting → World → (World → Type 0) → Type 0
EventCases setting w P = EachEvent setting w (λ (event : Event). P)

-- a packet of a number is handled, or nothing happens
pub handled_or_not : (P : World → Type 0) (setting : Setting) (w : World) → P w → (number : ℕ)
    → ((packet : Packet) → packet_of w.packets number ≡ Some packet → is_up setting.layout w packet.to ≡ true
    → P (world_handled setting w number packet))
    → P (happens setting w (Delivers number))
unfolding happens
handled_or_not P setting w still number handles = at (packet_of w.packets number) refl
  where
    at : (found : Option Packet) → packet_of w.packets number ≡ found → P (delivered setting w number found)
    at None is = still
    at (Some packet) is =
        cond_both (is_up setting.layout w packet.to) (world_handled setting w number packet) w P (λ up. handles packet is up) (λ down. still)

pub event_each : (P : Event → World → Type 0) (setting : Setting) (w : World) → EachEvent setting w P → ((event : Event) → P event w)
    → (event : Event) → P event (happens setting w event)
unfolding happens
event_each P setting w cases still (Invokes brick ask) =
    cond_both (may_begin setting w brick ask) _ _ (P (Invokes brick ask)) (cases.begins brick ask) (λ isnt. still (Invokes brick ask))
event_each P setting w cases still (Proposes brick group members) =
    cond_both (may_propose setting w brick group) _ _ (P (Proposes brick group members)) (cases.proposes brick group members)
    (λ isnt. still (Proposes brick group members))
event_each P setting w cases still (Syncs brick group) =
    cond_both (may_sync setting w brick group) _ _ (P (Syncs brick group)) (cases.syncs brick group) (λ isnt. still (Syncs brick group))
event_each P setting w cases still (Scrubs brick group stripe members) =
    cond_both (may_scrub setting w brick group stripe members) _ _ (P (Scrubs brick group stripe members)) (cases.scrubs brick group stripe members)
    (λ isnt. still (Scrubs brick group stripe members))
event_each P setting w cases still (Delivers number) =
    handled_or_not (P (Delivers number)) setting w (still (Delivers number)) number (cases.handles number)
event_each P setting w cases still (Sets brick time) =
    cond_both (is_brick setting.layout brick) _ _ (P (Sets brick time)) (cases.sets brick time) (λ isnt. still (Sets brick time))
event_each P setting w cases still (Ticks brick) =
    cond_both (is_up setting.layout w brick) _ _ (P (Ticks brick)) (cases.ticks brick) (λ isnt. still (Ticks brick))
event_each P setting w cases still (Stops brick during) =
    cond_both (is_up setting.layout w brick) _ _ (P (Stops brick during)) (cases.stops brick during) (λ isnt. still (Stops brick during))
event_each P setting w cases still (Starts brick openings found) =
    cond_both (may_start setting.layout w brick openings) _ _ (P (Starts brick openings found)) (cases.starts brick openings found)
    (λ isnt. still (Starts brick openings found))

pub happens_each : (P : World → Type 0) (setting : Setting) (w : World) → EventCases setting w P → P w → (event : Event)
    → P (happens setting w event)
happens_each P setting w cases still = event_each (λ event. P) setting w cases (λ event. still)

-- a start, by what the store is found to hold
pub started_each : (P : World → Type 0) (w : World) (brick : BrickId) (openings : ℕ) → P (world_started w brick openings)
    → P (world_started (world_found w brick After) brick openings) → (found : Found)
    → P (world_started (world_found w brick found) brick openings)
started_each P w brick openings before after Before = before
started_each P w brick openings before after After = after

-- A run keeps a fact that each event keeps; what is known of every world that it goes through may be used.
pub run_along : (P Known : World → Type 0) (setting : Setting) → ((w : World) → Known w → P w → EventCases setting w P)
    → (events : List Event) (w : World) → ((earlier later : List Event) → events ≡ earlier ++ later → Known (run setting earlier w)) → P w
    → P (run setting events w)
run_along P Known setting cases [] w known holds = holds
run_along P Known setting cases (event ∷ events) w known holds =
    run_along P Known setting cases events (happens setting w event)
    (λ earlier later is. known (event ∷ earlier) later (ap (λ (l : List Event). event ∷ l) is))
    (happens_each P setting w (cases w (known [] (event ∷ events) refl) holds) holds event)

-- the same, with what is known of every run
pub run_each : (P Known : World → Type 0) (setting : Setting) → ((w : World) → Known w → P w → EventCases setting w P)
    → (events : List Event) (w : World) → ((more : List Event) → Known (run setting more w)) → P w → P (run setting events w)
run_each P Known setting cases events w known = run_along P Known setting cases events w (λ earlier later is. known earlier)

pub always_where : (P Known : World → Type 0) (setting : Setting)
    → ((events : List Event) → Known (run setting events (first_world setting.layout))) → P (first_world setting.layout)
    → ((w : World) → Known w → P w → EventCases setting w P) → (events : List Event) → P (run setting events (first_world setting.layout))
always_where P Known setting known first cases events = run_each P Known setting cases events (first_world setting.layout) known first

-- what holds at first, and each event keeps, holds in every world that a run reaches
pub always : (P : World → Type 0) (setting : Setting) → P (first_world setting.layout) → ((w : World) → P w → EventCases setting w P)
    → (events : List Event) → P (run setting events (first_world setting.layout))
always P setting first cases = always_where P (λ w. Unit {0}) setting (λ events. tt) first (λ w known. cases w)

-- a run of the events of two lists
pub run-append : (setting : Setting) (w : World) (events more : List Event) → run setting (events ++ more) w ≡ run setting more (run setting events w)
run-append setting w [] more = refl
run-append setting w (event ∷ events) more = run-append setting (happens setting w event) events more

-- what holds of every run holds of one that goes on
pub onward : (P : World → Type 0) (setting : Setting) → ((events : List Event) → P (run setting events (first_world setting.layout)))
    → (events more : List Event) → P (run setting more (run setting events (first_world setting.layout)))
onward P setting all events more = subst P (run-append setting (first_world setting.layout) events more) (all (events ++ more))

-- A brick's step keeps a fact that is not of bricks, of what they have held, of choices or of packets, where what it tells and what it answers do.
pub stepped_each : (P : World → Type 0) (setting : Setting) (me : BrickId) (step : NodeStep)
    → (made : (x : World) (seq : ℕ) (t : Stamp) (base : Option Stamp) → P x → P (world_told setting x.nodes x me (Made seq t base)))
    → (seen : (x : World) (seq : ℕ) (v : Stamp) → P x → P (world_told setting x.nodes x me (Seen seq v)))
    → (began : (x : World) (nodes : ℕ → Node) (call : Call) → P x → P (world_told setting nodes x me (Began call)))
    → (closed : (x : World) (seq : ℕ) (cause : Option Cause) → P x → P (world_told setting x.nodes x me (Closed seq cause)))
    → (answers : (x : World) (answered : Answered) → P x → P (world_answered x me answered))
    → (keeps : (x : World) (nodes : ℕ → Node) (held : ℕ → ℕ → ℕ → Stamp → Bool) (packets : List Packet) (choices : Choices) → P x
    → P (record x { nodes = nodes; held = held; packets = packets; choices = choices }))
    → (w : World) → P w → P (world_stepped setting w me step)
stepped_each P setting me step made seen began closed answers keeps w holds =
    keeps (world_answers (world_tells setting nodes w me step.told) me step.answers) _ _ _ _ (answer step.answers _ (tell step.told w holds))
  where
    nodes : ℕ → Node
    nodes = put w.nodes me.0 step.node

    tell : (told : List Told) (x : World) → P x → P (world_tells setting nodes x me told)
    tell [] x now = now
    tell (Made seq t base ∷ more) x now = tell more (world_told setting nodes x me (Made seq t base)) (made x seq t base now)
    tell (Seen seq v ∷ more) x now = tell more (world_told setting nodes x me (Seen seq v)) (seen x seq v now)
    tell (Began call ∷ more) x now = tell more (world_told setting nodes x me (Began call)) (began x nodes call now)
    tell (Closed seq cause ∷ more) x now = tell more (world_told setting nodes x me (Closed seq cause)) (closed x seq cause now)

    answer : (list : List Answered) (x : World) → P x → P (world_answers x me list)
    answer [] x now = now
    answer (one ∷ more) x now = answer more (world_answered x me one) (answers x one now)
