-- What holds of what a brick keeps, and is ended by no request, by no view that it is taught and by no word that one is synced, holds in every run.
use Rattle.view_laws.proofs.Syncing.{synced_each, synced_of}
use Rattle.std.proofs.Common.{◌≡◌, ℕ, true, false, List, Option, Some, None, refl, sym, subst, ⊎_elim}
use Rattle.fab_base.specs.declared.identities.BrickId.{BrickId}
use Rattle.fab_base.specs.declared.member_lists.View.{View}
use Rattle.fab_base.specs.Layouts.{Group}
use Rattle.messages.specs.declared.calls.Call.{Call}
use Rattle.messages.specs.declared.packets.Message.{Message}
use Rattle.messages.specs.declared.packets.Packet.{Packet}
use Rattle.messages.specs.declared.replies.Reply.{Reply}
use Rattle.messages.specs.declared.requests.Request.{Request}
use Rattle.protocol.specs.Views.{is_later, view_told}
use Rattle.protocol.specs.Coordinators.{Coordinator, Next, Ignores, Waits, Sends, Makes, Ends, on_reply, hearing, counts_at}
use Rattle.protocol.specs.Nodes.{reading as reading_node, carried_for, job_reading, read_closed, synced_at, with_job, Node, NodeStep, put, requested, replied_at, received, carried_out, known_after, fresh_stamp, invoked, began, group_at, stopped, restarted, proposed, heard, with_known, with_round, with_learnt, node_taught_by, view_counted, lists_fit, with_scrub, scrub_of, scrubbed_at, scrubbing, scrub_coordinator}
use Rattle.protocol.specs.Settings.{Setting}
use Rattle.protocol.specs.Jobs.{Job, begun_job}
use Rattle.view_laws.proofs.SyncReads.{carried_each, synced_at_each, read_call, scrubbed_at_each}
use Rattle.fab_base.specs.declared.identities.GroupId.{GroupId}
use Rattle.protocol.specs.Worlds.{World, Event, Found, Before, After, first_brick, first_world, world_found, run}
use Rattle.protocol_laws.specs.Laws.{WasSent}
use Rattle.protocol_laws.proofs.BooksEvents.{start_fits}
use Rattle.protocol_laws.proofs.Left.{IsLeft, Leaves, always_leaves, kept_of}
use Rattle.protocol_laws.proofs.Proposing.{ballot_each, proposed_each}
use Rattle.protocol_laws.proofs.StampViews.{NodeViews, StampViews, always_views}
use Rattle.protocol_laws.proofs.Teaching.{newly_learnt, told_each, learnt_each, heard_each}
use Rattle.protocol.proofs.Tables.{put_each}
use Rattle.protocol.proofs.Events.{EventCases, step_on, always_where}
use Rattle.fab_base.specs.declared.asks.Ask.{Ask}
use Rattle.std.proofs.lemmas.Bool.{cond_both}
use Rattle.protocol.specs.Scrubs.{Scrub, lagging_after}
use Rattle.fab_base.specs.declared.identities.StripeNo.{StripeNo}

-- the brick is as another in what it has learnt and in its parts of stripes, and has as many live records, of each view too
pub record IsLike (old new : Node) : Type 0 where
  pub learnt : new.learnt ≡ old.learnt
  pub live : new.live ≡ old.live
  pub live_in : new.live_in ≡ old.live_in
  pub replicas : new.replicas ≡ old.replicas

-- the fact is of what a brick has learnt, of its parts of stripes and of its counts of live records
abbrev pub IsOfParts : (Node → Type 0) → Type 0
IsOfParts P = (old new : Node) → IsLike old new → P old → P new

-- no request ends it
abbrev pub StandsRequests : Setting → (Node → Type 0) → Type 0
StandsRequests setting P =
    (me from : BrickId) (node : Node) (call : Call) (request : Request) → NodeViews setting.layout node → P node
    → P (requested setting me from node call request).node

-- no view ends it that a brick learns
abbrev pub StandsViews : Setting → (Node → Type 0) → Type 0
StandsViews setting P =
    (group : ℕ) (node : Node) (view : View) → NodeViews setting.layout node → is_later (node.learnt group) view ≡ true → P node
    → P (with_learnt setting.layout.block group node (newly_learnt view))

-- nor the word that all stripes are kept in the view that it has learnt
abbrev pub StandsSyncs : Setting → (Node → Type 0) → Type 0
StandsSyncs setting P =
    (group : ℕ) (node : Node) → NodeViews setting.layout node → P node → P (with_learnt setting.layout.block group node (synced_of node group))

module _ (setting : Setting) (P : Node → Type 0) (same : IsOfParts P) (request_keeps : StandsRequests setting P) (view_keeps : StandsViews setting P)
    (sync_keeps : StandsSyncs setting P) where
  -- after a coordinator's step
  decision_keeps : (me : BrickId) (node : Node) (known : ℕ) (c : Coordinator) (z : Next) → P node → P (carried_out setting me node known c z).node
  decision_keeps me node known c Ignores = same node (carried_out setting me node known c Ignores).node (record { learnt = refl; live = refl; live_in = refl; replicas = refl })
  decision_keeps me node known c (Waits d) = same node (carried_out setting me node known c (Waits d)).node (record { learnt = refl; live = refl; live_in = refl; replicas = refl })
  decision_keeps me node known c (Sends d) = same node (carried_out setting me node known c (Sends d)).node (record { learnt = refl; live = refl; live_in = refl; replicas = refl })
  decision_keeps me node known c (Makes d) = same node (carried_out setting me node known c (Makes d)).node (record { learnt = refl; live = refl; live_in = refl; replicas = refl })
  decision_keeps me node known c (Ends answer seen stored) =
      same node (carried_out setting me node known c (Ends answer seen stored)).node (record { learnt = refl; live = refl; live_in = refl; replicas = refl })

  -- after its step, or after a read of the brick's own, which may be followed by another
  goes_keeps : (me : BrickId) (now : ℕ) (node : Node) (known : ℕ) (c heard : Coordinator) (z : Next) (reading : Option Job) (scrub : Option Scrub) → P node
      → P (carried_for setting me now node known c heard z reading scrub).node
  goes_keeps me now node known c heard z reading scrub holds =
      carried_each (λ (step : NodeStep). P step.node) setting me now node known c heard z reading scrub (decision_keeps me node known c z holds)
      (λ job is answer seen stored ends.
      let closed : Node = (read_closed me node known c answer seen stored).node in
      record {
        stays = same node closed (record { learnt = refl; live = refl; live_in = refl; replicas = refl }) holds;
        ends = λ told. same node (with_job closed None) (record { learnt = refl; live = refl; live_in = refl; replicas = refl }) holds;
        finishes = same node (with_job closed None) (record { learnt = refl; live = refl; live_in = refl; replicas = refl }) holds;
        reads = λ attempt group kept.
            same node (reading_node closed (record job { attempt = attempt }) (read_call group (record job { attempt = attempt }) me now closed))
            (record { learnt = refl; live = refl; live_in = refl; replicas = refl }) holds;
      })
      (record {
        begins = λ s is d sends.
            same node (carried_out setting me (with_scrub node (Some (record s { lagging = lagging_after s heard }))) known c (Sends d)).node
            (record { learnt = refl; live = refl; live_in = refl; replicas = refl }) holds;
        ends = λ s is answer seen stored ends.
            let closed : Node = (read_closed me node known c answer seen stored).node in
            same node (with_scrub closed None) (record { learnt = refl; live = refl; live_in = refl; replicas = refl }) holds;
      })

  -- and after one begins
  synced_keeps : (me : BrickId) (now : ℕ) (node : Node) (group : GroupId) → P node → P (synced_at setting me now node group).node
  synced_keeps me now node group holds =
      synced_at_each (λ (step : NodeStep). P step.node) setting me now node group holds (λ told. holds)
      (λ told. same node (with_job node None) (record { learnt = refl; live = refl; live_in = refl; replicas = refl }) holds)
      (λ kept is.
      let job = begun_job group (node.learnt group.0).view in
      same node (reading_node node job (read_call kept job me now node)) (record { learnt = refl; live = refl; live_in = refl; replicas = refl }) holds)

  -- and after a scrub begins
  scrubbed_keeps : (me : BrickId) (now : ℕ) (node : Node) (group : GroupId) (stripe : StripeNo) (members : List BrickId) → P node
      → P (scrubbed_at setting me now node group stripe members).node
  scrubbed_keeps me now node group stripe members holds =
      scrubbed_at_each (λ (step : NodeStep). P step.node) setting me now node group stripe members holds
      (λ kept is. same node (scrubbing node (scrub_coordinator kept me now node group stripe members))
      (record { learnt = refl; live = refl; live_in = refl; replicas = refl }) holds)

  -- after a reply to an operation or to a proposal
  replied_keeps : (me : BrickId) (now : ℕ) (from : BrickId) (node : Node) (call : Call) (reply : Reply) (found : Option Coordinator) → P node
      → P (replied_at setting me now from node call reply found).node
  replied_keeps me now from node call reply None holds =
      ballot_each (λ (step : NodeStep). P step.node) setting.layout me from (with_known node (known_after node.known reply)) call reply node.proposal
      (λ seq round proposal packets reports more are.
      same node (record (with_known node (known_after node.known reply)) { seq = seq; round = round; proposal = proposal })
      (record { learnt = refl; live = refl; live_in = refl; replicas = refl }) holds)
  replied_keeps me now from node call reply (Some c) holds =
      goes_keeps me now node (known_after node.known reply) c (hearing c from reply (counts_at setting.layout.block c from.0 call reply))
      (on_reply setting.layout.block setting.code (fresh_stamp me c.stamp.view now node.boot (known_after node.known reply)) c from call reply)
      (job_reading node.job c.call.seq) (scrub_of node.scrub c.call.seq) holds

  -- after a reply, which may teach a view
  heard_keeps : (me : BrickId) (now : ℕ) (from : BrickId) (node : Node) (call : Call) (reply : Reply) → NodeViews setting.layout node → P node
      → P (heard setting me now from node call reply).node
  heard_keeps me now from node call reply has holds =
      heard_each (λ (step : NodeStep). P step.node) setting me now from node call reply
      (same node (with_known (with_round node reply) (known_after node.known reply)) (record { learnt = refl; live = refl; live_in = refl; replicas = refl }) holds)
      (λ fit.
      replied_keeps me now from (node_taught_by setting.layout.block call.group.0 (with_round node reply) (view_counted setting.layout from node call reply)) call
      reply (node.calls call.seq)
      (told_each P setting.layout.block call.group.0 (with_round node reply) (view_counted setting.layout from node call reply)
      (same node (with_round node reply) (record { learnt = refl; live = refl; live_in = refl; replicas = refl }) holds)
      (λ view later.
      same (with_learnt setting.layout.block call.group.0 node (newly_learnt view))
      (with_learnt setting.layout.block call.group.0 (with_round node reply) (newly_learnt view))
      (record { learnt = refl; live = refl; live_in = refl; replicas = refl }) (view_keeps call.group.0 node view has later holds))))

  -- after any message
  message_keeps : (now : ℕ) (from to : BrickId) (node : Node) (message : Message) → NodeViews setting.layout node → P node
      → P (received setting to now node (record { from = from; to = to; message = message })).node
  unfolding received
  message_keeps now from to node (Message.Request call request) has holds = request_keeps to from node call request has holds
  message_keeps now from to node (Message.Reply call reply) has holds = heard_keeps to now from node call reply has holds
  message_keeps now from to node (Message.Learn group view) has holds =
      learnt_each P setting.layout node group view holds (λ later. view_keeps group.0 node view has later holds)
  message_keeps now from to node (Message.Synced group number) has holds =
      synced_each P setting.layout node group number holds (λ own unsynced. sync_keeps group.0 node has holds)
  message_keeps now from to node message has holds = holds

  -- what the store may keep of a message
  kept_keeps : (me from to : BrickId) (node : Node) (message : Message) → NodeViews setting.layout node → P node
      → P (kept_of setting me node (record { from = from; to = to; message = message }))
  unfolding kept_of
  kept_keeps me from to node (Message.Request call request) has holds = request_keeps me from node call request has holds
  kept_keeps me from to node (Message.Reply call reply) has holds =
      cond_both (lists_fit setting.layout call reply) (node_taught_by setting.layout.block call.group.0 node (view_told reply)) node P
      (λ fit. told_each P setting.layout.block call.group.0 node (view_told reply) holds (λ view later. view_keeps call.group.0 node view has later holds))
      (λ isnt. holds)
  kept_keeps me from to node (Message.Learn group view) has holds =
      learnt_each P setting.layout node group view holds (λ later. view_keeps group.0 node view has later holds)
  kept_keeps me from to node (Message.Synced group number) has holds =
      synced_each P setting.layout node group number holds (λ own unsynced. sync_keeps group.0 node has holds)
  kept_keeps me from to node message has holds = holds

  -- it holds of all bricks
  abbrev AllHave : World → Type 0
  AllHave w = (i : ℕ) → P (w.nodes i)

  -- where one brick changes
  have_by : (w : World) (k : ℕ) (node : Node) → AllHave w → P node → (i : ℕ) → P (put w.nodes k node i)
  have_by w k node all holds i = put_each (λ j x. P x) w.nodes k node holds (λ j other. all j) i

  -- what the store of a stopped brick may hold
  left_keeps : (w : World) (i : ℕ) (node : Node) → NodeViews setting.layout (w.nodes i) → IsLeft setting w i node → AllHave w → P node
  left_keeps w i node has left all = ⊎_elim
      (λ (is : node ≡ w.nodes i). subst (λ (x : Node). P x) (sym is) (all i))
      (λ (handled : (packet : Packet) × (packet.to ≡ record { 0 = i }) × WasSent w packet
      × (node ≡ kept_of setting (record { 0 = i }) (w.nodes i) packet)).
      subst (λ (x : Node). P x) (sym handled.3)
      (kept_keeps (record { 0 = i }) handled.0.from handled.0.to (w.nodes i) handled.0.message has (all i)))
      left

  -- a beginning
  invoked_keeps : (me : BrickId) (now : ℕ) (node : Node) (ask : Ask) → P node → P (invoked setting me now node ask).node
  unfolding invoked
  invoked_keeps me now node ask holds = in_group (group_at setting.layout node ask.group.0)
    where
      in_group : (z : Option Group) → P (began setting me now node ask z).node
      in_group None = holds
      in_group (Some group) = same node (began setting me now node ask (Some group)).node (record { learnt = refl; live = refl; live_in = refl; replicas = refl }) holds

  -- every event keeps it
  have_cases : (w : World) → Leaves setting w × StampViews setting.layout w → AllHave w → EventCases setting w AllHave
  unfolding stopped restarted
  have_cases w known all = record {
    begins = λ brick ask may.
        have_by w brick.0 (invoked setting brick (w.clocks brick.0) (w.nodes brick.0) ask).node all
        (invoked_keeps brick (w.clocks brick.0) (w.nodes brick.0) ask (all brick.0));
    proposes = λ brick group members may.
        have_by w brick.0 (proposed setting brick (w.nodes brick.0) group members).node all
        (proposed_each (λ (step : NodeStep). P step.node) setting brick (w.nodes brick.0) group members
        (λ seq round proposal packets reports more are.
        same (w.nodes brick.0) (record (w.nodes brick.0) { seq = seq; round = round; proposal = proposal })
        (record { learnt = refl; live = refl; live_in = refl; replicas = refl }) (all brick.0)));
    syncs = λ brick group may.
        have_by w brick.0 (synced_at setting brick (w.clocks brick.0) (w.nodes brick.0) group).node all
        (synced_keeps brick (w.clocks brick.0) (w.nodes brick.0) group (all brick.0));
    scrubs = λ brick group stripe members may.
        have_by w brick.0 (scrubbed_at setting brick (w.clocks brick.0) (w.nodes brick.0) group stripe members).node all
        (scrubbed_keeps brick (w.clocks brick.0) (w.nodes brick.0) group stripe members (all brick.0));
    handles = λ number packet at up.
        have_by w packet.to.0 (step_on setting w packet).node all
        (message_keeps (w.clocks packet.to.0) packet.from packet.to (w.nodes packet.to.0) packet.message (known.1.nodes packet.to.0) (all packet.to.0));
    sets = λ brick time is. all;
    ticks = λ brick up. all;
    stops = λ brick during up.
        have_by w brick.0 (stopped (w.nodes brick.0)) all (same (w.nodes brick.0) (stopped (w.nodes brick.0)) (record { learnt = refl; live = refl; live_in = refl; replicas = refl }) (all brick.0));
    starts = λ brick openings found may.
        (let with_found : AllHave (world_found w brick found) = of brick found (start_fits setting w brick openings may).0 in
        have_by (world_found w brick found) brick.0 (restarted openings ((world_found w brick found).nodes brick.0)) with_found
        (same ((world_found w brick found).nodes brick.0) (restarted openings ((world_found w brick found).nodes brick.0))
        (record { learnt = refl; live = refl; live_in = refl; replicas = refl })
        (with_found brick.0)));
  }
    where
      of : (brick : BrickId) (z : Found) → w.up brick.0 ≡ false → AllHave (world_found w brick z)
      of brick Before down = all
      of brick After down =
          have_by w brick.0 (w.after brick.0) all
          (left_keeps w brick.0 (w.after brick.0) (known.1.nodes brick.0) (known.0 brick.0 down) all)

  -- what holds of a fresh brick holds always
  pub always_kept : P (first_brick setting.layout) → (events : List Event) (i : ℕ) → P ((run setting events (first_world setting.layout)).nodes i)
  always_kept fresh =
      always_where AllHave (λ w. Leaves setting w × StampViews setting.layout w) setting (λ events. (always_leaves setting events, always_views setting events))
      (λ i. fresh) have_cases
