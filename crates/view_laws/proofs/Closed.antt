-- A view that a quorum has closed stays closed, however a run goes on.
use Rattle.std.proofs.Common.{◌≡◌, ℕ, zero, suc, ◌≤◌, true, false, ◌&&◌, ⊎_elim, List, [], ◌∷◌, ◌++◌, length, Some, None, refl, sym, ap, ◌∙◌, subst, arith}
use Rattle.std.specs.Prelude.{slice_get, not}
use Rattle.std.proofs.lemmas.Bool.{and_parts, not-true}
use Rattle.fab_base.specs.declared.identities.BrickId.{BrickId}
use Rattle.fab_base.specs.Layouts.{Layout, brick_at}
use Rattle.messages.specs.declared.calls.Call.{Call}
use Rattle.messages.specs.declared.packets.Message.{Message}
use Rattle.messages.specs.declared.packets.Packet.{Packet}
use Rattle.messages.specs.declared.replies.Reply.{Reply}
use Rattle.quorum.proofs.Counts.{count_monotone}
use Rattle.protocol.specs.Settings.{Setting, IsSound}
use Rattle.protocol.specs.Replicas.{fresh_replica}
use Rattle.protocol.specs.Nodes.{Node, NodeStep, put, invoked, proposed, ticked, stopped, restarted, may_open, synced_at, scrubbed_at}
use Rattle.protocol.specs.Worlds.{World, Event, first_world, run, happens}
use Rattle.protocol.proofs.Events.{EventCases, step_on, happens_each, started_each, run-append}
use Rattle.protocol.proofs.Packets.{each_none}
use Rattle.protocol.proofs.Tables.{put_each, put_same, put_twice, get_grown}
use Rattle.view_laws.specs.Successors.{has_closed, closes_in, is_serving, StaysClosed, ClosedStays}
use Rattle.view_laws.proofs.Histories.{view_world}
use Rattle.view_laws.proofs.CallSteps.{Calls, always_calls, append_none}
use Rattle.view_laws.proofs.Deciding.{HasLimits}
use Rattle.view_laws.proofs.Beginning.{invoked_says, proposed_says, sync_says, scrub_says}
use Rattle.view_laws.proofs.Agreements.{Agreement, packet_sent, received_says, always_agreed}
use Rattle.view_laws.proofs.Followed.{voter_closed}
use Rattle.view_laws.proofs.Closing.{takes_on, PartsTake, parts_same, ServesNone, StepCloses, invoked_closes, proposed_closes, received_closes, ticked_serves, turn_closes, LeavesParts, always_left, sync_closes, scrub_closes}

-- What a world has closed is closed in the next one: it takes nothing for a part of it, and no packet that is sent serves it.
record KeepsClosed (layout : Layout) (w x : World) : Type 0 where
  closed : (g e i : ℕ) → has_closed (w.nodes i) g e ≡ true → has_closed (x.nodes i) g e ≡ true
  takes : (i : ℕ) → PartsTake layout (w.nodes i) (x.nodes i)
  new : List Packet
  sent : x.packets ≡ w.packets ++ new
  tells : (k : ℕ) (packet : Packet) → slice_get new k ≡ Some packet → (call : Call) (said : Reply) → packet.message ≡ Message.Reply call said
      → has_closed (w.nodes packet.from.0) call.group.0 call.view.0 ≡ true → is_serving said ≡ false

-- the same of a later one
record KeepsLater (layout : Layout) (w x : World) : Type 0 where
  closed : (g e i : ℕ) → has_closed (w.nodes i) g e ≡ true → has_closed (x.nodes i) g e ≡ true
  takes : (i : ℕ) → PartsTake layout (w.nodes i) (x.nodes i)
  tells : (k : ℕ) (packet : Packet) → length w.packets ≤ k → slice_get x.packets k ≡ Some packet → (call : Call) (said : Reply)
      → packet.message ≡ Message.Reply call said → has_closed (w.nodes packet.from.0) call.group.0 call.view.0 ≡ true → is_serving said ≡ false

-- nothing is past the end of a list
past_end : {A : Type 0} (xs : List A) (k : ℕ) (x : A) → length xs ≤ k → slice_get xs k ≡ Some x → ⊥
past_end [] k x past at = cc
past_end (y ∷ xs) zero x past at = omega (arith, past)
past_end (y ∷ xs) (suc k) x past at = past_end xs k x (omega (arith, past)) at

-- a world is as it was
later_same : (layout : Layout) (w : World) → KeepsLater layout w w
later_same layout w = record {
  closed = λ g e i is. is;
  takes = λ i. parts_same layout (w.nodes i) (w.nodes i) refl;
  tells = λ k packet past at. absurd (past_end w.packets k packet past at);
}

-- and one event more
later_more : (layout : Layout) (w x y : World) → KeepsLater layout w x → KeepsClosed layout x y → KeepsLater layout w y
later_more layout w x y one two = record {
  closed = λ g e i is. two.closed g e i (one.closed g e i is);
  takes = λ i g e s is.
      takes_on (fresh_replica layout.block e) ((w.nodes i).replicas g e s) ((x.nodes i).replicas g e s) ((y.nodes i).replicas g e s) (one.takes i g e s is)
      (two.takes i g e s (one.closed g e i is));
  tells = λ k packet past at call said message is. ⊎_elim
      (λ (old : slice_get x.packets k ≡ Some packet). one.tells k packet past old call said message is)
      (λ (added : (j : ℕ) × (slice_get two.new j ≡ Some packet)).
      two.tells added.0 packet added.1 call said message (one.closed call.group.0 call.view.0 packet.from.0 is))
      (get_grown x.packets two.new k packet (sym (ap (λ (l : List Packet). slice_get l k) two.sent) ∙ at));
}

-- ---- events

-- where one brick takes a turn, and sends this
module _ (layout : Layout) (w : World) (brick : BrickId) (next : Node) (new : List Packet)
    (turn : (g e : ℕ) → has_closed (w.nodes brick.0) g e ≡ true → has_closed next g e ≡ true) (says : StepCloses layout brick (w.nodes brick.0) next new) where
  closed_after : (g e i : ℕ) → has_closed (w.nodes i) g e ≡ true → has_closed (put w.nodes brick.0 next i) g e ≡ true
  closed_after g e i =
      put_each (λ k (n : Node). has_closed (w.nodes k) g e ≡ true → has_closed n g e ≡ true) w.nodes brick.0 next (λ is. turn g e is) (λ k other is. is) i

  -- it has taken nothing for what was closed
  takes_after : (i : ℕ) → PartsTake layout (w.nodes i) (put w.nodes brick.0 next i)
  takes_after i =
      put_each (λ k (n : Node). PartsTake layout (w.nodes k) n) w.nodes brick.0 next says.takes (λ k other. parts_same layout (w.nodes k) (w.nodes k) refl) i

  -- and it has served nothing of it
  tells_after : (k : ℕ) (packet : Packet) → slice_get new k ≡ Some packet → (call : Call) (said : Reply) → packet.message ≡ Message.Reply call said
      → has_closed (w.nodes packet.from.0) call.group.0 call.view.0 ≡ true → is_serving said ≡ false
  tells_after k packet at call said message is =
      let one = says.tells k packet at call said message in
      one.1 (subst (λ (b : BrickId). has_closed (w.nodes b.0) call.group.0 call.view.0 ≡ true) one.0 is)

-- a brick that stops, or starts, keeps what it kept
stopped_keeps : (layout : Layout) (node : Node)
    → ((g e : ℕ) → has_closed node g e ≡ true → has_closed (stopped node) g e ≡ true) × PartsTake layout node (stopped node)
unfolding stopped
stopped_keeps layout node = ((λ g e is. is), parts_same layout node (stopped node) refl)

-- so does one that starts
restarted_keeps : (layout : Layout) (node : Node) (openings : ℕ)
    → ((g e : ℕ) → has_closed node g e ≡ true → has_closed (restarted openings node) g e ≡ true) × PartsTake layout node (restarted openings node)
unfolding restarted
restarted_keeps layout node openings = ((λ g e is. is), parts_same layout node (restarted openings node) refl)

-- each event keeps what was closed
closed_cases : (setting : Setting) → HasLimits setting.layout → (w : World) → Calls w → Agreement setting.layout w → LeavesParts setting.layout w
    → EventCases setting w (KeepsClosed setting.layout w)
closed_cases setting limits w calls was left = record {
  begins = λ brick ask may.
      let step : NodeStep = invoked setting brick (w.clocks brick.0) (w.nodes brick.0) ask in
      let turn = turn_closes setting.layout w.packets (w.nodes brick.0) step.node
      (invoked_says setting (view_world w) was.agreed was.drafting brick (w.clocks brick.0) ask).turn in
      let says = invoked_closes setting brick (w.clocks brick.0) (w.nodes brick.0) ask in
      record {
        closed = closed_after setting.layout w brick step.node step.packets turn says;
        takes = takes_after setting.layout w brick step.node step.packets turn says;
        new = step.packets;
        sent = refl;
        tells = tells_after setting.layout w brick step.node step.packets turn says;
      };
  proposes = λ brick group members may.
      let step : NodeStep = proposed setting brick (w.nodes brick.0) group members in
      let turn = turn_closes setting.layout w.packets (w.nodes brick.0) step.node
      (proposed_says setting (view_world w) calls.called was.agreed was.drafting brick group members).turn in
      let says = proposed_closes setting brick (w.nodes brick.0) group members in
      record {
        closed = closed_after setting.layout w brick step.node step.packets turn says;
        takes = takes_after setting.layout w brick step.node step.packets turn says;
        new = step.packets;
        sent = refl;
        tells = tells_after setting.layout w brick step.node step.packets turn says;
      };
  syncs = λ brick group may.
      let step : NodeStep = synced_at setting brick (w.clocks brick.0) (w.nodes brick.0) group in
      let turn = turn_closes setting.layout w.packets (w.nodes brick.0) step.node
      (sync_says setting (view_world w) was.agreed was.drafting brick (w.clocks brick.0) group).turn in
      let says = sync_closes setting brick (w.clocks brick.0) (w.nodes brick.0) group in
      record {
        closed = closed_after setting.layout w brick step.node step.packets turn says;
        takes = takes_after setting.layout w brick step.node step.packets turn says;
        new = step.packets;
        sent = refl;
        tells = tells_after setting.layout w brick step.node step.packets turn says;
      };
  scrubs = λ brick group stripe members may.
      let step : NodeStep = scrubbed_at setting brick (w.clocks brick.0) (w.nodes brick.0) group stripe members in
      let turn = turn_closes setting.layout w.packets (w.nodes brick.0) step.node
      (scrub_says setting (view_world w) was.agreed was.drafting brick (w.clocks brick.0) group stripe members).turn in
      let says = scrub_closes setting brick (w.clocks brick.0) (w.nodes brick.0) group stripe members in
      record {
        closed = closed_after setting.layout w brick step.node step.packets turn says;
        takes = takes_after setting.layout w brick step.node step.packets turn says;
        new = step.packets;
        sent = refl;
        tells = tells_after setting.layout w brick step.node step.packets turn says;
      };
  handles = λ number packet at up.
      let step : NodeStep = step_on setting w packet in
      let turn = turn_closes setting.layout w.packets (w.nodes packet.to.0) step.node
      (received_says setting limits (view_world w) calls.called was.agreed was.drafting (w.clocks packet.to.0) packet
      (packet_sent w.packets number packet at)).turn in
      let says = received_closes setting packet.to (w.clocks packet.to.0) (w.nodes packet.to.0) packet in
      record {
        closed = closed_after setting.layout w packet.to step.node step.packets turn says;
        takes = takes_after setting.layout w packet.to step.node step.packets turn says;
        new = step.packets;
        sent = refl;
        tells = tells_after setting.layout w packet.to step.node step.packets turn says;
      };
  sets = λ brick time is. record {
    closed = λ g e i is. is;
    takes = λ i. parts_same setting.layout (w.nodes i) (w.nodes i) refl;
    new = [];
    sent = sym (append_none w.packets);
    tells = λ k packet at. absurd (let never : None ≡ Some packet = at in cc);
  };
  ticks = λ brick up. record {
    closed = λ g e i is. is;
    takes = λ i. parts_same setting.layout (w.nodes i) (w.nodes i) refl;
    new = ticked setting brick (w.nodes brick.0);
    sent = refl;
    tells = λ k packet at call said message is.
        let one = ticked_serves setting brick (w.nodes brick.0) k packet at call said message in
        one.1 (subst (λ (b : BrickId). has_closed (w.nodes b.0) call.group.0 call.view.0 ≡ true) one.0 is);
  };
  stops = λ brick during up.
      let kept = stopped_keeps setting.layout (w.nodes brick.0) in
      let says : StepCloses setting.layout brick (w.nodes brick.0) (stopped (w.nodes brick.0)) []
      = record { takes = kept.1; tells = each_none (ServesNone brick (w.nodes brick.0)) } in
      record {
        closed = closed_after setting.layout w brick (stopped (w.nodes brick.0)) [] kept.0 says;
        takes = takes_after setting.layout w brick (stopped (w.nodes brick.0)) [] kept.0 says;
        new = [];
        sent = sym (append_none w.packets);
        tells = λ k packet at. absurd (let never : None ≡ Some packet = at in cc);
      };
  starts = λ brick openings found may.
      let parts = and_parts _ (not (w.up brick.0) && may_open openings (w.nodes brick.0)) may in
      let down = not-true (w.up brick.0) (and_parts (not (w.up brick.0)) (may_open openings (w.nodes brick.0)) parts.1).0 in
      let after : Node = w.after brick.0 in
      let before_is = started brick openings (w.nodes brick.0) (λ g e is. is) (parts_same setting.layout (w.nodes brick.0) (w.nodes brick.0) refl) in
      let after_is = started brick openings after (turn_closes setting.layout w.packets (w.nodes brick.0) after (was.left brick.0 down).turn) (left brick.0 down) in
      let same : restarted openings (put w.nodes brick.0 after brick.0) ≡ restarted openings after = ap (restarted openings) (put_same w.nodes brick.0 after) in
      let nodes : put (put w.nodes brick.0 after) brick.0 (restarted openings (put w.nodes brick.0 after brick.0)) ≡ put w.nodes brick.0 (restarted openings after)
      = put_twice w.nodes brick.0 after (restarted openings (put w.nodes brick.0 after brick.0)) ∙ ap (put w.nodes brick.0) same in
      started_each (KeepsClosed setting.layout w) w brick openings
      (record {
        closed = before_is.0;
        takes = before_is.1;
        new = [];
        sent = sym (append_none w.packets);
        tells = λ k packet at. absurd (let never : None ≡ Some packet = at in cc);
      })
      (record {
        closed = subst (λ (t : ℕ → Node). (g e i : ℕ) → has_closed (w.nodes i) g e ≡ true → has_closed (t i) g e ≡ true) (sym nodes) after_is.0;
        takes = subst (λ (t : ℕ → Node). (i : ℕ) → PartsTake setting.layout (w.nodes i) (t i)) (sym nodes) after_is.1;
        new = [];
        sent = sym (append_none w.packets);
        tells = λ k packet at. absurd (let never : None ≡ Some packet = at in cc);
      })
      found;
}
  where
    started : (brick : BrickId) (openings : ℕ) (node : Node)
        → ((g e : ℕ) → has_closed (w.nodes brick.0) g e ≡ true → has_closed node g e ≡ true) → PartsTake setting.layout (w.nodes brick.0) node
        → ((g e i : ℕ) → has_closed (w.nodes i) g e ≡ true → has_closed (put w.nodes brick.0 (restarted openings node) i) g e ≡ true)
        × ((i : ℕ) → PartsTake setting.layout (w.nodes i) (put w.nodes brick.0 (restarted openings node) i))
    started brick openings node turn takes =
        let kept = restarted_keeps setting.layout node openings in
        let turn_after : (g e : ℕ) → has_closed (w.nodes brick.0) g e ≡ true → has_closed (restarted openings node) g e ≡ true
        = λ g e is. kept.0 g e (turn g e is) in
        let says : StepCloses setting.layout brick (w.nodes brick.0) (restarted openings node) []
        = record {
          takes = λ g e s is. takes_on (fresh_replica setting.layout.block e) ((w.nodes brick.0).replicas g e s) (node.replicas g e s)
              ((restarted openings node).replicas g e s) (takes g e s is) (kept.1 g e s (turn g e is));
          tells = each_none (ServesNone brick (w.nodes brick.0));
        } in (
          closed_after setting.layout w brick (restarted openings node) [] turn_after says,
          takes_after setting.layout w brick (restarted openings node) [] turn_after says,
        )

-- so does an event of a run
event_keeps : (setting : Setting) → IsSound setting → (events : List Event) (event : Event)
    → (let w = run setting events (first_world setting.layout) in KeepsClosed setting.layout w (happens setting w event))
event_keeps setting sound events event =
    let w : World = run setting events (first_world setting.layout) in
    happens_each (KeepsClosed setting.layout w) setting w
    (closed_cases setting sound.limits w (always_calls setting events) (always_agreed setting sound events) (always_left setting events))
    (record {
      closed = λ g e i is. is;
      takes = λ i. parts_same setting.layout (w.nodes i) (w.nodes i) refl;
      new = [];
      sent = sym (append_none w.packets);
      tells = λ k packet at. absurd (let never : None ≡ Some packet = at in cc);
    })
    event

-- and so do more events
run_keeps : (setting : Setting) → IsSound setting → (w : World) (events : List Event) → KeepsLater setting.layout w (run setting events (first_world setting.layout))
    → (more : List Event) → KeepsLater setting.layout w (run setting more (run setting events (first_world setting.layout)))
run_keeps setting sound w events was [] = was
run_keeps setting sound w events was (event ∷ more) =
    let x : World = run setting events (first_world setting.layout) in
    let next : World = happens setting x event in
    let same : run setting (events ++ (event ∷ [])) (first_world setting.layout) ≡ next = run-append setting (first_world setting.layout) events (event ∷ []) in
    subst (λ (y : World). KeepsLater setting.layout w (run setting more y)) same
    (run_keeps setting sound w (events ++ (event ∷ []))
    (subst (λ (y : World). KeepsLater setting.layout w y) (sym same) (later_more setting.layout w x next was (event_keeps setting sound events event))) more)

-- a view that a quorum has closed stays closed
pub closed_stays : ClosedStays
closed_stays setting events more sound =
    let w : World = run setting events (first_world setting.layout) in
    let later : KeepsLater setting.layout w (run setting more w) = run_keeps setting sound w events (later_same setting.layout w) more in
    let agreed = (always_agreed setting sound events).agreed in
    subst (λ (x : World). StaysClosed setting.layout w x) (sym (run-append setting (first_world setting.layout) events more))
    (record {
      chosen = λ number view group members chosen.
          let many = chosen.many in
          let all = count_monotone (length group.members) chosen.seats (λ seat. closes_in w number view (brick_at group seat))
          (λ k below member. voter_closed setting.layout (view_world w) (brick_at group k) number view chosen.ballot members agreed
          (chosen.accepted k below member)) in
          omega (arith, many, all);
      quorum = λ number view group many.
          let all = count_monotone (length group.members) (λ seat. closes_in w number view (brick_at group seat))
          (λ seat. closes_in (run setting more w) number view (brick_at group seat))
          (λ k below is. later.closed number view (brick_at group k) is) in
          omega (arith, many, all);
      closed = λ number view brick is. later.closed number view brick is;
      takes = λ number view stripe brick is. later.takes brick number view stripe is;
      tells = λ from to call said is since.
          later.tells since.0 (record { from = from; to = to; message = Message.Reply call said }) since.1 since.2 call said refl is;
    })
