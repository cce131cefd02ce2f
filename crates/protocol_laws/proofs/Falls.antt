-- No event lowers what a brick has promised or stored, or drops a version that it holds.
use Rattle.view_laws.proofs.SyncReads.{synced_at_each, scrubbed_at_each}
use Rattle.fab_base.specs.declared.identities.ViewNo.{ViewNo}
use Rattle.view_laws.proofs.Syncing.{synced_of, synced_each, synced_views}
use Rattle.protocol_laws.proofs.Logs.{LogAscends, IsKept}
use Rattle.std.proofs.Common.{◌≡◌, ◌≢◌, ℕ, ◌≤◌, ◌<◌, ◌-◌, ◌⊎◌, inl, inr, arith, true, nat_eq, ltb-true, List, [], ◌∷◌, Option, Some, None, refl, ⊎_elim, sym, subst, false, ap, nat_lt}
use Rattle.fab_base.specs.declared.identities.BrickId.{BrickId}
use Rattle.fab_base.specs.declared.asks.Ask.{Ask}
use Rattle.messages.specs.declared.calls.Call.{Call}
use Rattle.messages.specs.declared.packets.Message.{Message}
use Rattle.messages.specs.declared.packets.Packet.{Packet}
use Rattle.messages.specs.declared.requests.Request.{Request}
use Rattle.messages.specs.declared.replies.Reply.{Reply}
use Rattle.fab_base.specs.Layouts.{Layout, Group}
use Rattle.protocol.specs.Settings.{Setting}
use Rattle.protocol.specs.Replicas.{Replica, first_replica, fresh_replica, handle, is_held}
use Rattle.protocol.specs.Nodes.{Node, put, began, invoked, replica_at, full_at, requested, stopped, restarted, known_after, group_at, replied_at, heard, received, view_at, top_at, NodeStep, with_known, with_round, with_learnt, node_taught_by, node_learnt, view_counted, lists_fit, vote_at, proposed, node_synced, synced_at, scrubbed_at}
use Rattle.protocol.specs.Worlds.{World, Found, Before, After, Event, world_ticked, world_stopped, world_found, world_started, world_stepped, happens, first_world, run}
use Rattle.protocol_laws.specs.Laws.{WasSent}
use Rattle.protocol_laws.proofs.Reactions.{handle_after}
use Rattle.protocol_laws.proofs.Requests.{parts_keep}
use Rattle.protocol.proofs.Served.{request_each}
use Rattle.protocol_laws.proofs.Votes.{with_vote, vote_accepts}
use Rattle.protocol_laws.proofs.Proposing.{proposed_each}
use Rattle.protocol_laws.proofs.Teaching.{newly_learnt, told_each, learnt_each, dropped_each, heard_each, replied_rests}
use Rattle.protocol.proofs.Tables.{put_each, put_same}
use Rattle.protocol.proofs.Puts.{put_other}
use Rattle.protocol_laws.proofs.BooksEvents.{start_fits}
use Rattle.protocol_laws.proofs.Left.{IsLeft, kept_of, Leaves, always_leaves, packet_was_sent}
use Rattle.protocol_laws.proofs.Blocking.{LogsFit, PartsStay, parts_then, first_fits}
use Rattle.protocol_laws.proofs.Steps.{KeepsParts, keeps_same, keeps_places, parts_by, parts_kept, parts_same}
use Rattle.protocol.proofs.Events.{EventCases, step_on, world_handled, happens_each, onward}
use Rattle.protocol_laws.proofs.Tops.{KeepsPlaces, top_by, top_learns, top_accepts, kept_now, top_views}
use Rattle.protocol.specs.Views.{Learnt, first_kept, is_later, view_told}
use Rattle.fab_base.specs.declared.identities.GroupId.{GroupId}
use Rattle.fab_base.specs.declared.member_lists.View.{View}
use Rattle.fab_base.specs.declared.stamps.Ballot.{Ballot}
use Rattle.fab_base.specs.declared.stamps.Stamp.{Stamp}
use Rattle.fab_base.specs.Stamps.{stamp_below, stamp_same, first_stamp}
use Rattle.fab_base.proofs.StampOrder.{stamp_below_irrefl, stamp_same_true}
use Rattle.std.proofs.lemmas.Bool.{cond_both, cases_eq, false≢true, or_cases}
use Rattle.protocol_laws.proofs.StampViews.{StampViews, NodeViews, RequestIsOf, MessageIsOf, free_for, part_below, always_views}
use Rattle.fab_base.specs.declared.identities.StripeNo.{StripeNo}

-- a part that begins anew ascends, and has no version but the first
fresh_ascends : (block e : ℕ) → LogAscends (fresh_replica block e).log
fresh_ascends block e =
    cond_both (nat_eq e 1) (first_replica block) _ (λ (r : Replica). LogAscends r.log) (λ one. ((λ d held. absurd (false≢true held)), tt)) (λ other. tt)

fresh_first : (block e : ℕ) (t : Stamp) → is_held t (fresh_replica block e).log ≡ true → t ≡ first_stamp
fresh_first block e t =
    cond_both (nat_eq e 1) (first_replica block) _ (λ (r : Replica). is_held t r.log ≡ true → t ≡ first_stamp)
    (λ one there. ⊎_elim
    (λ (first : stamp_same first_stamp t ≡ true). sym (stamp_same_true first_stamp t first))
    (λ (none : false ≡ true). absurd (false≢true none))
    (or_cases (stamp_same first_stamp t) false there))
    (λ other there. absurd (false≢true there))

-- a brick that learns a later view comes no less far, and forgets only what is of the views before those that it keeps
pub learning_keeps : (layout : Layout) (g : ℕ) (node : Node) (view : View) → is_later (node.learnt g) view ≡ true → NodeViews layout node
    → KeepsParts node (with_learnt layout.block g node (newly_learnt view))
learning_keeps layout g node view later has = record {
  views = put_each (λ h (l : Learnt). view_at node h ≤ l.view.number.0) node.learnt g (newly_learnt view) (omega (arith, above)) (λ h other. omega arith);
  tops = λ h s. ⊎_elim
      (λ (same : h ≡ g). subst (λ (i : ℕ). stamp_below (top_at next i s) (top_at node i s) ≡ false) (sym same) (own_top s))
      (λ (other : h ≢ g). subst (λ (t : Stamp). stamp_below t (top_at node h s) ≡ false) (sym (other_top h other s)) (stamp_below_irrefl (top_at node h s)))
      (cases_eq h g);
  firsts = put_each (λ h (l : Learnt). first_kept (node.learnt h) ≤ first_kept l) node.learnt g (newly_learnt view) (omega (arith, most, above)) (λ h other. omega arith);
  orders = dropped_each (λ h e s r. first_kept (next.learnt h) ≤ e → (node.replicas h e s).order.time ≤ r.order.time) layout.block g first node
      (λ h e s within. omega arith) (λ e s before within. absurd (gone e before within));
  kept = λ h e s t. dropped_each (λ h e s r. first_kept (next.learnt h) ≤ e → IsKept t (node.replicas h e s).log → IsKept t r.log) layout.block g first node
      (λ h e s within kept. kept) (λ e s before within. absurd (gone e before within)) h e s;
  newer = λ h e s t. dropped_each (λ h e s r. first_kept (next.learnt h) ≤ e → is_held t r.log ≡ true
      → (is_held t (node.replicas h e s).log ≡ true) ⊎ (stamp_below t (top_at node h s) ≡ false)) layout.block g first node
      (λ h e s within held. inl held) (λ e s before within. absurd (gone e before within)) h e s;
  again = λ h e s t. dropped_each (λ h e s r. e < first_kept (next.learnt h) → is_held t r.log ≡ true
      → (is_held t (node.replicas h e s).log ≡ true) ⊎ (t ≡ first_stamp)) layout.block g first node
      (λ h e s before held. inl held) (λ e s before less held. inr (fresh_first layout.block e t held)) h e s;
  ascends = dropped_each (λ h e s r. LogAscends (node.replicas h e s).log → LogAscends r.log) layout.block g first node
      (λ h e s ascends. ascends) (λ e s before ascends. fresh_ascends layout.block e);
}
  where
    next : Node
    next = with_learnt layout.block g node (newly_learnt view)

    first : ℕ
    first = view.number.0 - 1

    above : view_at node g < view.number.0
    above = ltb-true (view_at node g) view.number.0 later

    most : first_kept (node.learnt g) ≤ view_at node g
    most = kept_now (node.learnt g)

    learns_it : next.learnt g ≡ newly_learnt view
    learns_it = put_same node.learnt g (newly_learnt view)

    gone : (e : ℕ) → e < first → first_kept (next.learnt g) ≤ e → ⊥
    gone e before within =
        let is : first_kept (next.learnt g) ≡ first = ap (λ (l : Learnt). first_kept l) learns_it in omega (arith, before, within, is)

    own_top : (s : ℕ) → stamp_below (top_at next g s) (top_at node g s) ≡ false
    own_top s =
        let number : view_at next g ≡ view.number.0 = ap (λ (l : Learnt). l.view.number.0) learns_it in
        top_learns node next g s (omega (arith, above, number))
        (part_below (view_at node g) (view_at next g) (node.replicas g (view_at node g) s) (has.views g) (omega (arith, above, number)) (has.parts g (view_at node g) s))

    other_top : (h : ℕ) → h ≢ g → (s : ℕ) → top_at next h s ≡ top_at node h s
    other_top h other s =
        top_by node next h s (put_other node.learnt g (newly_learnt view) h other) (put_other node.ballots g _ h other)
        (ap (λ (r : ℕ → ℕ → Replica). r (view_at node h) s) (put_other node.replicas g _ h other))

-- a brick that hears that all stripes are kept in its view comes as far, and forgets only what is of the views before
pub syncing_keeps : (layout : Layout) (g : ℕ) (node : Node) → KeepsParts node (with_learnt layout.block g node (synced_of node g))
syncing_keeps layout g node = record {
  views = put_each (λ h (l : Learnt). view_at node h ≤ l.view.number.0) node.learnt g (synced_of node g) (omega arith) (λ h other. omega arith);
  tops = λ h s. subst (λ (t : Stamp). stamp_below t (top_at node h s) ≡ false) (sym (top_same_at h s)) (stamp_below_irrefl (top_at node h s));
  firsts = put_each (λ h (l : Learnt). first_kept (node.learnt h) ≤ first_kept l) node.learnt g (synced_of node g) (kept_now (node.learnt g)) (λ h other. omega arith);
  orders = dropped_each (λ h e s r. first_kept (next.learnt h) ≤ e → (node.replicas h e s).order.time ≤ r.order.time) layout.block g first node
      (λ h e s within. omega arith) (λ e s before within. absurd (gone e before within));
  kept = λ h e s t. dropped_each (λ h e s r. first_kept (next.learnt h) ≤ e → IsKept t (node.replicas h e s).log → IsKept t r.log) layout.block g first node
      (λ h e s within kept. kept) (λ e s before within. absurd (gone e before within)) h e s;
  newer = λ h e s t. dropped_each (λ h e s r. first_kept (next.learnt h) ≤ e → is_held t r.log ≡ true
      → (is_held t (node.replicas h e s).log ≡ true) ⊎ (stamp_below t (top_at node h s) ≡ false)) layout.block g first node
      (λ h e s within held. inl held) (λ e s before within. absurd (gone e before within)) h e s;
  again = λ h e s t. dropped_each (λ h e s r. e < first_kept (next.learnt h) → is_held t r.log ≡ true
      → (is_held t (node.replicas h e s).log ≡ true) ⊎ (t ≡ first_stamp)) layout.block g first node
      (λ h e s before held. inl held) (λ e s before less held. inr (fresh_first layout.block e t held)) h e s;
  ascends = dropped_each (λ h e s r. LogAscends (node.replicas h e s).log → LogAscends r.log) layout.block g first node
      (λ h e s ascends. ascends) (λ e s before ascends. fresh_ascends layout.block e);
}
  where
    next : Node
    next = with_learnt layout.block g node (synced_of node g)

    first : ℕ
    first = view_at node g

    gone : (e : ℕ) → e < first → first_kept (next.learnt g) ≤ e → ⊥
    gone e before within =
        let is : first_kept (next.learnt g) ≡ first = ap (λ (l : Learnt). first_kept l) (put_same node.learnt g (synced_of node g)) in
        omega (arith, before, within, is)

    same_part : (h s : ℕ) → next.replicas h (view_at node h) s ≡ node.replicas h (view_at node h) s
    same_part h s =
        put_each (λ i (t : ℕ → ℕ → Replica). t (view_at node i) s ≡ node.replicas i (view_at node i) s) node.replicas g _
        (cond_both (nat_lt (view_at node g) (view_at node g)) (fresh_replica layout.block (view_at node g)) (node.replicas g (view_at node g) s)
        (λ (r : Replica). r ≡ node.replicas g (view_at node g) s)
        (λ less. absurd (let never = ltb-true (view_at node g) (view_at node g) less in omega (arith, never))) (λ isnt. refl))
        (λ i other. refl) h

    top_same_at : (h s : ℕ) → top_at next h s ≡ top_at node h s
    top_same_at h s = let views = synced_views layout node g h in top_views node next h s views.0 views.1 (same_part h s)

pub synced_keeps : (layout : Layout) (node : Node) (group : GroupId) (number : ViewNo) → KeepsParts node (node_synced layout node group number)
synced_keeps layout node group number =
    synced_each (λ (n : Node). KeepsParts node n) layout node group number (keeps_same node node (refl, refl, refl))
    (λ now unsynced. syncing_keeps layout group.0 node)

-- so does one that votes: it keeps its parts
pub voting_keeps : (node : Node) (call : Call) (ballot : Ballot) (asks : Option (List BrickId))
    → KeepsParts node (with_vote node call (vote_at node call ballot asks))
voting_keeps node call ballot asks = record {
  views = λ g. omega arith;
  tops = λ g s. top_accepts node _ g s (vote_accepts node call ballot asks g);
  firsts = λ g. omega arith;
  orders = λ g e s within. omega arith;
  kept = λ g e s t within kept. kept;
  newer = λ g e s t within held. inl held;
  again = λ g e s t before held. inl held;
  ascends = λ g e s ascends. ascends;
}

-- so does one that is taught a view, if it is
taught_keeps : (layout : Layout) (g : ℕ) (node : Node) (view : Option View) → NodeViews layout node
    → KeepsParts node (node_taught_by layout.block g node view)
taught_keeps layout g node view has =
    told_each (λ (n : Node). KeepsParts node n) layout.block g node view (keeps_same node node (refl, refl, refl))
    (λ v later. learning_keeps layout g node v later has)

pub learnt_keeps : (layout : Layout) (node : Node) (group : GroupId) (view : View) → NodeViews layout node
    → KeepsParts node (node_learnt layout node group view)
learnt_keeps layout node group view has =
    learnt_each (λ (n : Node). KeepsParts node n) layout node group view (keeps_same node node (refl, refl, refl))
    (λ later. learning_keeps layout group.0 node view later has)

-- so does one that hears a reply
heard_keeps : (setting : Setting) (me : BrickId) (now : ℕ) (from : BrickId) (node : Node) (call : Call) (reply : Reply) → NodeViews setting.layout node
    → KeepsParts node (heard setting me now from node call reply).node
heard_keeps setting me now from node call reply has =
    heard_each (λ (step : NodeStep). KeepsParts node step.node) setting me now from node call reply
    (keeps_same node (with_known (with_round node reply) (known_after node.known reply)) (refl, refl, refl))
    (λ fit.
    let taught : Node = node_taught_by setting.layout.block call.group.0 (with_round node reply) (view_counted setting.layout from node call reply) in
    let rests = replied_rests setting me from now call.group.0 call reply taught (node.calls call.seq) in
    keeps_places node taught (replied_at setting me now from taught call reply (node.calls call.seq)).node
    (told_each (λ (n : Node). KeepsParts node n) setting.layout.block call.group.0 (with_round node reply) (view_counted setting.layout from node call reply)
    (keeps_same node (with_round node reply) (refl, refl, refl))
    (λ v later. keeps_places node (with_learnt setting.layout.block call.group.0 node (newly_learnt v)) _ (learning_keeps setting.layout call.group.0 node v later has)
    (refl, refl, refl)))
    (rests.learnt, rests.ballots, rests.replicas))

-- all logs of a brick ascend
abbrev LogsRise : Node → Type 0
LogsRise node = (g e s : ℕ) → LogAscends (node.replicas g e s).log

module _ (setting : Setting) where
  request_keeps : (me from : BrickId) (node : Node) (call : Call) (request : Request) → LogsRise node → NodeViews setting.layout node
      → RequestIsOf call request
      → KeepsParts node (requested setting me from node call request).node
  request_keeps me from node call request rises has asks =
      request_each (λ step. KeepsParts node step.node) setting me from node call request (keeps_same node node (refl, refl, refl))
      (λ moved is. keeps_same node node (refl, refl, refl))
      (λ group seat here served.
      let full : Option ℕ = full_at setting.layout.records node.live in
      parts_keep setting.layout setting.code group.m seat node call request (handle setting.code group.m full seat (replica_at node call) request)
      (rises call.group.0 call.view.0 call.stripe.0) (handle_after setting.code group.m seat full (replica_at node call) request) has asks served.view
      (free_for node call request served.free))
      (λ group ballot asked here. voting_keeps node call ballot asked)

  pub message_keeps : (me from to : BrickId) (now : ℕ) (node : Node) (message : Message) → LogsRise node
      → NodeViews setting.layout node → MessageIsOf message → KeepsParts node (received setting me now node (record { from = from; to = to; message = message })).node
  unfolding received
  message_keeps me from to now node (Message.Request call request) rises has is = request_keeps me from node call request rises has is
  message_keeps me from to now node (Message.Reply call reply) rises has is = heard_keeps setting me now from node call reply has
  message_keeps me from to now node (Message.Learn group view) rises has is = learnt_keeps setting.layout node group view has
  message_keeps me from to now node (Message.Synced group number) rises has is = synced_keeps setting.layout node group number
  message_keeps me from to now node message rises has is = keeps_same node node (refl, refl, refl)

  -- what a brick keeps of a message
  pub kept_keeps : (me from to : BrickId) (node : Node) (message : Message) → LogsRise node
      → NodeViews setting.layout node → MessageIsOf message → KeepsParts node (kept_of setting me node (record { from = from; to = to; message = message }))
  unfolding kept_of
  kept_keeps me from to node (Message.Request call request) rises has is = request_keeps me from node call request rises has is
  kept_keeps me from to node (Message.Reply call reply) rises has is =
      cond_both (lists_fit setting.layout call reply) (node_taught_by setting.layout.block call.group.0 node (view_told reply)) node
      (λ (n : Node). KeepsParts node n) (λ fit. taught_keeps setting.layout call.group.0 node (view_told reply) has) (λ isnt. keeps_same node node (refl, refl, refl))
  kept_keeps me from to node (Message.Learn group view) rises has is = learnt_keeps setting.layout node group view has
  kept_keeps me from to node (Message.Synced group number) rises has is = synced_keeps setting.layout node group number
  kept_keeps me from to node message rises has is = keeps_same node node (refl, refl, refl)

-- a brick stops or starts with its places as they are
stopped_places : (node : Node) → KeepsPlaces node (stopped node)
unfolding stopped
stopped_places node = (refl, refl, refl)

restarted_places : (openings : ℕ) (node : Node) → KeepsPlaces node (restarted openings node)
unfolding restarted
restarted_places openings node = (refl, refl, refl)

module _ (setting : Setting) where
  -- what the store of a stopped brick may hold
  left_keeps : (w : World) (i : ℕ) (node : Node) → LogsRise (w.nodes i) → StampViews setting.layout w → IsLeft setting w i node
      → KeepsParts (w.nodes i) node
  left_keeps w i node rises views = ⊎_elim
      (λ (same : node ≡ w.nodes i).
      keeps_same (w.nodes i) node (ap (λ (z : Node). z.learnt) same, ap (λ (z : Node). z.ballots) same, ap (λ (z : Node). z.replicas) same))
      (λ (handled : (packet : Packet) × (packet.to ≡ record { 0 = i }) × WasSent w packet
      × (node ≡ kept_of setting (record { 0 = i }) (w.nodes i) packet)).
      subst (λ (z : Node). KeepsParts (w.nodes i) z) (sym handled.3)
      (kept_keeps setting (record { 0 = i }) handled.0.from handled.0.to (w.nodes i) handled.0.message rises (views.nodes i)
      (views.packets handled.2.0 handled.0 handled.2.1)))

  -- a brick that starts with what its store is found to hold
  found_stays : (w : World) (brick : BrickId) (found : Found) → w.up brick.0 ≡ false → Leaves setting w → StampViews setting.layout w
      → LogsFit w → PartsStay w (world_found w brick found)
  found_stays w brick Before down leaves views logged = parts_same w w refl refl logged
  found_stays w brick After down leaves views logged =
      parts_by w (world_found w brick After) brick.0 (w.after brick.0) refl refl logged
      (left_keeps w brick.0 (w.after brick.0) (λ g e s. logged.ascends g e s brick.0) views (leaves brick.0 down))

  invoked_places : (me : BrickId) (now : ℕ) (node : Node) (ask : Ask) → KeepsPlaces node (invoked setting me now node ask).node
  unfolding invoked
  invoked_places me now node ask = in_group (group_at setting.layout node ask.group.0)
    where
      in_group : (z : Option Group) → KeepsPlaces node (began setting me now node ask z).node
      in_group None = (refl, refl, refl)
      in_group (Some group) = (refl, refl, refl)

  proposed_places : (me : BrickId) (node : Node) (group : GroupId) (members : List BrickId) → KeepsPlaces node (proposed setting me node group members).node
  proposed_places me node group members =
      proposed_each (λ (step : NodeStep). KeepsPlaces node step.node) setting me node group members
      (λ seq round proposal packets reports more are. (refl, refl, refl))

  sync_places : (me : BrickId) (now : ℕ) (node : Node) (group : GroupId) → KeepsPlaces node (synced_at setting me now node group).node
  sync_places me now node group =
      synced_at_each (λ (step : NodeStep). KeepsPlaces node step.node) setting me now node group (refl, refl, refl) (λ answer. (refl, refl, refl))
      (λ answer. (refl, refl, refl)) (λ kept is. (refl, refl, refl))

  scrub_places : (me : BrickId) (now : ℕ) (node : Node) (group : GroupId) (stripe : StripeNo) (members : List BrickId)
      → KeepsPlaces node (scrubbed_at setting me now node group stripe members).node
  scrub_places me now node group stripe members =
      scrubbed_at_each (λ (step : NodeStep). KeepsPlaces node step.node) setting me now node group stripe members (refl, refl, refl)
      (λ kept is. (refl, refl, refl))

  -- every event leaves the parts as they may become
  stay_cases : (w : World) → Leaves setting w → StampViews setting.layout w → LogsFit w → EventCases setting w (PartsStay w)
  stay_cases w leaves views logged = record {
    begins = λ brick ask may.
        parts_kept w _ brick.0 (invoked setting brick (w.clocks brick.0) (w.nodes brick.0) ask).node refl refl logged
        (invoked_places brick (w.clocks brick.0) (w.nodes brick.0) ask);
    proposes = λ brick group members may.
        parts_by w (world_stepped setting w brick (proposed setting brick (w.nodes brick.0) group members)) brick.0
        (proposed setting brick (w.nodes brick.0) group members).node refl refl logged
        (keeps_same (w.nodes brick.0) _ (proposed_places brick (w.nodes brick.0) group members));
    syncs = λ brick group may.
        parts_by w (world_stepped setting w brick (synced_at setting brick (w.clocks brick.0) (w.nodes brick.0) group)) brick.0
        (synced_at setting brick (w.clocks brick.0) (w.nodes brick.0) group).node refl refl logged
        (keeps_same (w.nodes brick.0) _ (sync_places brick (w.clocks brick.0) (w.nodes brick.0) group));
    scrubs = λ brick group stripe members may.
        parts_by w (world_stepped setting w brick (scrubbed_at setting brick (w.clocks brick.0) (w.nodes brick.0) group stripe members)) brick.0
        (scrubbed_at setting brick (w.clocks brick.0) (w.nodes brick.0) group stripe members).node refl refl logged
        (keeps_same (w.nodes brick.0) _ (scrub_places brick (w.clocks brick.0) (w.nodes brick.0) group stripe members));
    handles = λ number packet at up.
        parts_by w (world_handled setting w number packet) packet.to.0 (step_on setting w packet).node refl refl logged
        (message_keeps setting packet.to packet.from packet.to (w.clocks packet.to.0) (w.nodes packet.to.0) packet.message
        (λ g e s. logged.ascends g e s packet.to.0) (views.nodes packet.to.0)
        (let sent = packet_was_sent w number packet at in views.packets sent.0 packet sent.1));
    sets = λ brick time is. parts_same w (record w { clocks = put w.clocks brick.0 time }) refl refl logged;
    ticks = λ brick up. parts_same w (world_ticked setting w brick) refl refl logged;
    stops = λ brick during up.
        parts_kept w (world_stopped setting w brick during) brick.0 (stopped (w.nodes brick.0)) refl refl logged (stopped_places (w.nodes brick.0));
    starts = λ brick openings found may.
        (let with_found : World = world_found w brick found in
        let stays : PartsStay w with_found = found_stays w brick found (start_fits setting w brick openings may).0 leaves views logged in
        parts_then w with_found (world_started with_found brick openings) stays
        (parts_kept with_found (world_started with_found brick openings) brick.0 (restarted openings (with_found.nodes brick.0)) refl refl stays.logged
        (restarted_places openings (with_found.nodes brick.0))));
  }

  -- and so does any schedule
  pub parts_stay_on : (more : List Event) (w : World) → ((more : List Event) → Leaves setting (run setting more w))
      → ((more : List Event) → StampViews setting.layout (run setting more w)) → LogsFit w → PartsStay w (run setting more w)
  parts_stay_on [] w leaves views logged = parts_same w w refl refl logged
  parts_stay_on (event ∷ more) w leaves views logged =
      let first : PartsStay w (happens setting w event)
      = happens_each (PartsStay w) setting w (stay_cases w (leaves []) (views []) logged) (parts_same w w refl refl logged) event in
      parts_then w (happens setting w event) (run setting more (happens setting w event)) first
      (parts_stay_on more (happens setting w event) (λ more. leaves (event ∷ more)) (λ more. views (event ∷ more)) first.logged)

  -- logs fit what bricks have held, in every run
  pub always_logged : (events : List Event) → LogsFit (run setting events (first_world setting.layout))
  always_logged events =
      (parts_stay_on events (first_world setting.layout) (always_leaves setting) (always_views setting) (first_fits setting)).logged

  -- and no further events of a run lower a brick, add a version below what it had come to, or put an order stamp back
  pub parts_stay : (events more : List Event)
      → (let w = run setting events (first_world setting.layout) in PartsStay w (run setting more w))
  parts_stay events more =
      parts_stay_on more (run setting events (first_world setting.layout)) (onward (Leaves setting) setting (always_leaves setting) events)
      (onward (StampViews setting.layout) setting (always_views setting) events) (always_logged events)
