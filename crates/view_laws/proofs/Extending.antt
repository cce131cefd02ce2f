-- More is known after each event, and so after every longer run.
use Rattle.std.proofs.Common.{◌≡◌, ℕ, List, [], ◌∷◌, ◌++◌, refl, ap, ◌∙◌, subst, ◌&&◌}
use Rattle.std.specs.Prelude.{not}
use Rattle.std.proofs.lemmas.Bool.{and_parts, not-true}
use Rattle.fab_base.specs.Layouts.{Layout}
use Rattle.messages.specs.declared.packets.Packet.{Packet}
use Rattle.protocol.specs.Settings.{Setting, IsSound}
use Rattle.protocol.specs.Nodes.{Node, NodeStep, invoked, proposed, ticked, stopped, restarted, may_open, synced_at, scrubbed_at}
use Rattle.protocol.specs.Worlds.{World, Event, first_world, run, happens}
use Rattle.protocol.proofs.Events.{EventCases, step_on, happens_each, started_each, run-append}
use Rattle.view_laws.proofs.Histories.{ViewWorld, view_world, Extends}
use Rattle.view_laws.proofs.Agreeing.{turned, turn_extends, turned_placed, placed, placed_extends, sending_more}
use Rattle.view_laws.proofs.CallSteps.{Calls, always_calls, put_back}
use Rattle.view_laws.proofs.Drafting.{step_extends, extends_on}
use Rattle.view_laws.proofs.Deciding.{HasLimits}
use Rattle.view_laws.proofs.Beginning.{invoked_says, proposed_says, ticked_says, sync_says, scrub_says}
use Rattle.view_laws.proofs.Agreements.{Agreement, packet_sent, received_says, invoked_keeps, always_agreed}

-- the same is known of the same
pub extends_same : (layout : Layout) (v : ViewWorld) → Extends layout v v
extends_same layout v = record {
  named = λ g e view is. is;
  called = λ i boot seq b is. is;
  sent = λ packet is. is;
  grows = λ g e. record { votes = λ k b a is. is; past = λ k b is. is; proposals = λ b a is. is; closed = λ k b a past voted. voted };
}

-- a brick that stops, or starts, keeps what it kept of views
stopped_extends : (layout : Layout) (v : ViewWorld) (i : ℕ) → Extends layout v (placed v i (stopped (v.nodes i)))
unfolding stopped
stopped_extends layout v i = placed_extends layout v i (stopped (v.nodes i)) (refl, refl)

-- so does one that starts
pub restarted_extends : (layout : Layout) (v : ViewWorld) (i openings : ℕ) → Extends layout v (placed v i (restarted openings (v.nodes i)))
unfolding restarted
restarted_extends layout v i openings = placed_extends layout v i (restarted openings (v.nodes i)) (refl, refl)

-- more is known after each event
pub extends_cases : (setting : Setting) → HasLimits setting.layout → (w : World) → Calls w → Agreement setting.layout w
    → EventCases setting w (λ (x : World). Extends setting.layout (view_world w) (view_world x))
extends_cases setting limits w calls was = record {
  begins = λ brick ask may.
      let step : NodeStep = invoked setting brick (w.clocks brick.0) (w.nodes brick.0) ask in
      subst (λ (z : ViewWorld). Extends setting.layout (view_world w) (sending_more z step.packets))
      (turned_placed setting.layout (view_world w) brick.0 step.node was.agreed (invoked_keeps setting brick (w.clocks brick.0) (w.nodes brick.0) ask))
      (step_extends setting.layout (view_world w) brick.0 step.node step.packets was.agreed
      (invoked_says setting (view_world w) was.agreed was.drafting brick (w.clocks brick.0) ask).turn);
  proposes = λ brick group members may.
      let step : NodeStep = proposed setting brick (w.nodes brick.0) group members in
      step_extends setting.layout (view_world w) brick.0 step.node step.packets was.agreed
      (proposed_says setting (view_world w) calls.called was.agreed was.drafting brick group members).turn;
  syncs = λ brick group may.
      let step : NodeStep = synced_at setting brick (w.clocks brick.0) (w.nodes brick.0) group in
      step_extends setting.layout (view_world w) brick.0 step.node step.packets was.agreed
      (sync_says setting (view_world w) was.agreed was.drafting brick (w.clocks brick.0) group).turn;
  scrubs = λ brick group stripe members may.
      let step : NodeStep = scrubbed_at setting brick (w.clocks brick.0) (w.nodes brick.0) group stripe members in
      step_extends setting.layout (view_world w) brick.0 step.node step.packets was.agreed
      (scrub_says setting (view_world w) was.agreed was.drafting brick (w.clocks brick.0) group stripe members).turn;
  handles = λ number packet at up.
      let step : NodeStep = step_on setting w packet in
      step_extends setting.layout (view_world w) packet.to.0 step.node step.packets was.agreed
      (received_says setting limits (view_world w) calls.called was.agreed was.drafting (w.clocks packet.to.0) packet
      (packet_sent w.packets number packet at)).turn;
  sets = λ brick time is. extends_same setting.layout (view_world w);
  ticks = λ brick up.
      let new : List Packet = ticked setting brick (w.nodes brick.0) in
      subst (λ (z : ViewWorld). Extends setting.layout (view_world w) (sending_more z new))
      (turned_placed setting.layout (view_world w) brick.0 (w.nodes brick.0) was.agreed (refl, refl)
      ∙ ap (λ (nodes : ℕ → Node). record { packets = w.packets; votes = w.choices.votes; nodes = nodes }) (put_back w.nodes brick.0))
      (step_extends setting.layout (view_world w) brick.0 (w.nodes brick.0) new was.agreed
      (ticked_says setting (view_world w) was.agreed was.drafting brick).turn);
  stops = λ brick during up. stopped_extends setting.layout (view_world w) brick.0;
  starts = λ brick openings found may.
      let parts = and_parts _ (not (w.up brick.0) && may_open openings (w.nodes brick.0)) may in
      let down = and_parts (not (w.up brick.0)) (may_open openings (w.nodes brick.0)) parts.1 in
      let after : Node = w.after brick.0 in
      started_each (λ (x : World). Extends setting.layout (view_world w) (view_world x)) w brick openings
      (restarted_extends setting.layout (view_world w) brick.0 openings)
      (extends_on setting.layout (view_world w) (turned (view_world w) brick.0 after)
      (placed (turned (view_world w) brick.0 after) brick.0 (restarted openings ((turned (view_world w) brick.0 after).nodes brick.0)))
      (turn_extends setting.layout (view_world w) brick.0 after was.agreed (was.left brick.0 (not-true (w.up brick.0) down.0)).turn)
      (restarted_extends setting.layout (turned (view_world w) brick.0 after) brick.0 openings))
      found;
}

-- more is known after an event of a run
pub event_extends : (setting : Setting) → IsSound setting → (events : List Event) (event : Event)
    → (let w = run setting events (first_world setting.layout) in Extends setting.layout (view_world w) (view_world (happens setting w event)))
event_extends setting sound events event =
    let w : World = run setting events (first_world setting.layout) in
    happens_each (λ (x : World). Extends setting.layout (view_world w) (view_world x)) setting w
    (extends_cases setting sound.limits w (always_calls setting events) (always_agreed setting sound events)) (extends_same setting.layout (view_world w)) event

-- and after more events
pub run_extends : (setting : Setting) → IsSound setting → (events more : List Event)
    → Extends setting.layout (view_world (run setting events (first_world setting.layout)))
    (view_world (run setting more (run setting events (first_world setting.layout))))
run_extends setting sound events [] = extends_same setting.layout (view_world (run setting events (first_world setting.layout)))
run_extends setting sound events (event ∷ more) =
    let w : World = run setting events (first_world setting.layout) in
    let next : World = happens setting w event in
    let same : run setting (events ++ (event ∷ [])) (first_world setting.layout) ≡ next = run-append setting (first_world setting.layout) events (event ∷ []) in
    extends_on setting.layout (view_world w) (view_world next) (view_world (run setting more next)) (event_extends setting sound events event)
    (subst (λ (x : World). Extends setting.layout (view_world x) (view_world (run setting more x))) same
    (run_extends setting sound (events ++ (event ∷ [])) more))
