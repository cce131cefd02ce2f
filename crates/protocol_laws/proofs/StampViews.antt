-- The stamps of a part, of a call and of a request are of its own view, and what a brick keeps of views that it has not learnt is fresh: so it is in every
-- run, whatever members the views have.
use Rattle.protocol.specs.Jobs.{Job, begun_job}
use Rattle.view_laws.proofs.SyncReads.{carried_each, synced_at_each, each_tick, each_synced, read_call, scrubbed_at_each}
use Rattle.fab_base.specs.declared.asks.Op.TheVariants.{ReadBlock, WriteBlock, ReadStripe, WriteStripe}
use Rattle.fab_base.specs.declared.asks.Op.{Op}
use Rattle.view_laws.proofs.Syncing.{synced_each, synced_of}
use Rattle.std.proofs.Common.{◌≡◌, ℕ, ◌+◌, ◌≤◌, ◌<◌, ◌⊎◌, inl, inr, ⊎_elim, true, false, ◌-◌, nat_eq, List, [], Option, ltb-true, ltb-false, nat_lt, Some, None, refl, sym, ap, ◌∙◌, subst, arith, Bool}
use Rattle.std.specs.Prelude.{slice_get, if◌then◌else◌}
use Rattle.std.proofs.lemmas.Bool.{cond_both, false≢true}
use Rattle.std.proofs.lemmas.Bool.Decides.{nat_tests}
use Rattle.std.proofs.lemmas.Option.{same_Some}
use Rattle.fab_base.specs.declared.identities.BrickId.{BrickId}
use Rattle.fab_base.specs.declared.identities.ViewNo.{ViewNo}
use Rattle.fab_base.specs.declared.asks.Ask.{Ask}
use Rattle.fab_base.specs.declared.stamps.Stamp.{Stamp}
use Rattle.fab_base.specs.Stamps.{stamp_below, first_stamp}
use Rattle.fab_base.specs.Layouts.{Layout, Group}
use Rattle.messages.specs.declared.calls.Call.{Call}
use Rattle.messages.specs.declared.packets.Message.{Message}
use Rattle.messages.specs.declared.packets.Packet.{Packet}
use Rattle.messages.specs.declared.replies.Reply.{Reply}
use Rattle.messages.specs.declared.requests.Request.{Request}
use Rattle.messages.specs.declared.requests.Version.{Version}
use Rattle.protocol.specs.Settings.{Setting, Code}
use Rattle.protocol.specs.Views.{Learnt, first_learnt, view_of, is_later, view_told, floor_of}
use Rattle.protocol.specs.Ballots.{Voted}
use Rattle.protocol.specs.Proposals.{Proposal}
use Rattle.fab_base.specs.declared.identities.GroupId.{GroupId}
use Rattle.fab_base.specs.declared.member_lists.View.{View}
use Rattle.protocol.specs.Replicas.{Replica, Reaction, first_replica, fresh_replica, handle, top_of, newest_of}
use Rattle.protocol.specs.declared.phases.Phase.{Phase}
use Rattle.protocol.specs.declared.phases.Phase.TheVariants.{Looks, LooksAt, Orders, OrdersAt, Recovers, Descends, Modifies, Bases, Stores, LooksBack}
use Rattle.protocol.specs.Coordinators.{Coordinator, Next, Ignores, Waits, Sends, Makes, Ends, with_reply, once_full, counted_at, counts_at, on_reply, request_of, asked_view, asked_group, looks_back, hearing}
use Rattle.protocol.specs.Nodes.{Node, NodeStep, view_at, view_floor, put, no_step, phase_packets, new_coordinator, began, invoked, replica_at, full_at, requested, known_after, with_call, carried_out, has_later_time, new_stamp, fresh_stamp, group_at, replied_at, heard, received, absorbed, vote_at, with_learnt, node_taught_by, node_learnt, lists_fit, view_counted, with_known, with_round, proposed, ticked, stopped, restarted, has_accepted, node_synced, first_phase, synced_at, carried_for, job_reading, collect_packets, with_job, read_closed, synced_packets, reading_aside, with_scrub, scrub_of, scrub_coordinator, scrubbed_at}
use Rattle.protocol.specs.Worlds.{World, Event, After, first_brick, first_world, packet_during, left_after, world_found, world_started, run}
use Rattle.protocol.proofs.Events.{EventCases, step_on, started_each, always, world_counting}
use Rattle.protocol.proofs.Packets.{OfEach, each_none, each_both, each_member, each_collect, each_reply}
use Rattle.protocol_laws.specs.Laws.{stamp_asked}
use Rattle.protocol_laws.proofs.Left.{after_stepped, packet_was_sent, during_was_sent, kept_of, absorbed_kept}
use Rattle.protocol_laws.proofs.Proposing.{AreOfViews, of_views_each, resent_of_views, ballot_each, proposed_each}
use Rattle.protocol_laws.proofs.Teaching.{newly_learnt, told_each, learnt_each, dropped_each, heard_each}
use Rattle.protocol_laws.proofs.Outcomes.{ReordersFits, RecoversFits, RebuildsFits, NextFits, once_full_fits, call_after}
use Rattle.protocol_laws.proofs.Reactions.{IsAfter, StoresBlock, handle_after, after_log, after_order, store_asked, top_is, top_is_order}
use Rattle.protocol_laws.proofs.Logs.{newest_stands}
use Rattle.protocol.proofs.Served.{request_each, parts_each, IsCollect}
use Rattle.protocol.proofs.Tables.{put_each, get_one}
use Rattle.protocol_laws.proofs.Tops.{view_above}
use Rattle.protocol.specs.Scrubs.{Scrub, lagging_after}
use Rattle.fab_base.specs.declared.identities.StripeNo.{StripeNo}

-- a part of a view: its order stamp is the first or of the view, and its versions are of the view
pub record PartIsOf (e : ℕ) (part : Replica) : Type 0 where
  pub order : (part.order ≡ first_stamp) ⊎ (part.order.view.0 ≡ e)
  pub log : (k : ℕ) (version : Version) → slice_get part.log k ≡ Some version → view_of version.stamp ≡ e

-- an open operation's call is of the view whose members its phase asks
abbrev pub CallIsOf : Coordinator → Type 0
CallIsOf c = c.call.view ≡ asked_view c.stamp c.phase

-- A brick: its parts are of their views, those of views that it has not learnt, and of none, are fresh, and of view 1 it has learnt what all bricks begin with;
-- and its open operations are of their calls' views.
pub record NodeViews (layout : Layout) (node : Node) : Type 0 where
  pub views : (g : ℕ) → 1 ≤ view_at node g
  pub parts : (g e s : ℕ) → PartIsOf e (node.replicas g e s)
  pub fresh : (g e s : ℕ) → view_at node g < e → node.replicas g e s ≡ fresh_replica layout.block e
  pub zero : (g s : ℕ) → node.replicas g 0 s ≡ fresh_replica layout.block 0
  pub first : (g : ℕ) → view_at node g ≡ 1 → node.learnt g ≡ first_learnt layout g
  pub calls : (k : ℕ) (c : Coordinator) → node.calls k ≡ Some c → CallIsOf c

-- a request asks at a stamp of its call's view
abbrev pub RequestIsOf : Call → Request → Type 0
RequestIsOf call request = (t : Stamp) → stamp_asked request ≡ Some t → t.view.0 ≡ call.view.0

-- so does one that is sent
abbrev pub MessageIsOf : Message → Type 0
MessageIsOf (Message.Request call request) = RequestIsOf call request
MessageIsOf message = Unit {0}

abbrev pub PacketIsOf : Packet → Type 0
PacketIsOf packet = MessageIsOf packet.message

-- all bricks, what the stores of those that are down would have kept, and all packets
pub record StampViews (layout : Layout) (w : World) : Type 0 where
  pub nodes : (i : ℕ) → NodeViews layout (w.nodes i)
  pub after : (i : ℕ) → NodeViews layout (w.after i)
  pub packets : OfEach PacketIsOf w.packets

-- what a phase asks for is its operation's stamp
pub asked_own : (code : Code) (c : Coordinator) (seat : ℕ) (t : Stamp) → stamp_asked (request_of code c seat) ≡ Some t → t ≡ c.stamp
unfolding request_of
asked_own code c seat = of c.phase
  where
    of : (phase : Phase) (t : Stamp) → stamp_asked (request_of code (record c { phase = phase }) seat) ≡ Some t → t ≡ c.stamp
    of Looks t is = absurd (let never : None ≡ Some t = is in cc)
    of (LooksAt j) t is = absurd (let never : None ≡ Some t = is in cc)
    of Orders t is = sym (same_Some c.stamp t is)
    of (OrdersAt j) t is = sym (same_Some c.stamp t is)
    of Recovers t is = sym (same_Some c.stamp t is)
    of (Descends bound) t is = sym (same_Some c.stamp t is)
    of (LooksBack bound) t is = absurd (let never : None ≡ Some t = is in cc)
    of (Modifies base j) t is = sym (same_Some c.stamp t is)
    of (Bases base) t is = sym (same_Some c.stamp t is)
    of Stores t is = sym (same_Some c.stamp t is)

-- a phase that asks at a stamp does not look back
asked_ahead : (code : Code) (c : Coordinator) (seat : ℕ) (t : Stamp) → stamp_asked (request_of code c seat) ≡ Some t → looks_back c.phase ≡ false
unfolding request_of
asked_ahead code c seat = of c.phase
  where
    of : (phase : Phase) (t : Stamp) → stamp_asked (request_of code (record c { phase = phase }) seat) ≡ Some t → looks_back phase ≡ false
    of (LooksBack bound) t is = absurd (let never : None ≡ Some t = is in cc)
    of phase t is = refl

-- a phase that does not look back asks members of the operation's view
pub ahead_view : (c : Coordinator) → CallIsOf c → looks_back c.phase ≡ false → c.call.view ≡ c.stamp.view
ahead_view c is ahead = is ∙ ap (λ (b : Bool). if b then record { 0 = c.stamp.view.0 - 1 } else c.stamp.view) ahead

request_is : (code : Code) (c : Coordinator) → CallIsOf c → (seat : ℕ) → RequestIsOf c.call (request_of code c seat)
request_is code c is seat t asked =
    ap (λ (z : Stamp). z.view.0) (asked_own code c seat t asked) ∙ sym (ap (λ (z : ViewNo). z.0) (ahead_view c is (asked_ahead code c seat t asked)))

-- a number of a view is that of its stamps
view_same : (e : ℕ) (t : Stamp) → 1 ≤ e → t.view.0 ≡ e → view_of t ≡ e
view_same e t some is = omega (arith, some, is)

-- what a request to the part in the learnt view asks at is of that view
pub asks_view : (layout : Layout) (node : Node) (call : Call) (request : Request) → NodeViews layout node → RequestIsOf call request
    → call.view.0 ≡ view_at node call.group.0 → (t : Stamp) → stamp_asked request ≡ Some t → view_of t ≡ call.view.0
asks_view layout node call request has asks view t is =
    let some = has.views call.group.0 in view_same call.view.0 t (omega (arith, view, some)) (asks t is)

-- a brick that handles a request which asks at a stamp has accepted no list to follow the call's view
abbrev pub IsFreeFor : Node → Call → Request → Type 0
IsFreeFor node call request = (t : Stamp) → stamp_asked request ≡ Some t → has_accepted node call.group.0 ≡ false

-- so it is where it has accepted none, or drops versions
pub free_for : (node : Node) (call : Call) (request : Request) → (has_accepted node call.group.0 ≡ false) ⊎ IsCollect request → IsFreeFor node call request
free_for node call request free t asks = ⊎_elim
    (λ (none : has_accepted node call.group.0 ≡ false). none)
    (λ (collects : IsCollect request).
    absurd (let never : None ≡ Some t = ap stamp_asked (sym collects.1) ∙ asks in cc))
    free

-- and what it asks at is not below what the brick has learnt, where it has accepted nothing
pub asks_above : (layout : Layout) (node : Node) (call : Call) (request : Request) → NodeViews layout node → RequestIsOf call request
    → call.view.0 ≡ view_at node call.group.0 → IsFreeFor node call request → (t : Stamp) → stamp_asked request ≡ Some t
    → stamp_below t (view_floor node call.group.0) ≡ false
asks_above layout node call request has asks view free t is =
    view_above node call.group.0 t (free t is) (asks_view layout node call request has asks view t is ∙ view)

-- a member handles a request
module _ (setting : Setting) (node : Node) (call : Call) (request : Request) (has : NodeViews setting.layout node)
    (asks : RequestIsOf call request) where
  part_after : (m seat : ℕ) (part next : Replica) → call.view.0 ≡ view_at node call.group.0 → PartIsOf call.view.0 part
      → IsAfter setting.code m seat part request next → PartIsOf call.view.0 next
  part_after m seat part next view was after = record {
    order = ⊎_elim
        (λ (same : next.order ≡ part.order). subst (λ (z : Stamp). (z ≡ first_stamp) ⊎ (z.view.0 ≡ call.view.0)) (sym same) was.order)
        (λ (new : (stamp_asked request ≡ Some next.order) × (stamp_below next.order (top_of part) ≡ false)). inr (asks next.order new.0))
        (after_order setting.code m seat part request next after);
    log = λ k version at. ⊎_elim
        (λ (old : (j : ℕ) × (slice_get part.log j ≡ Some version)). was.log old.0 version old.1)
        (λ (new : StoresBlock setting.code m seat part request version.stamp version.block).
        asks_view setting.layout node call request has asks view version.stamp (store_asked setting.code m seat part request version.stamp version.block new))
        (after_log setting.code m seat part request next k version after at);
  }

-- a fresh part is of its view
fresh_part : (block e : ℕ) → PartIsOf e (fresh_replica block e)
fresh_part block e =
    cond_both (nat_eq e 1) (first_replica block) _ (λ (r : Replica). PartIsOf e r)
    (λ one. record {
      order = inl refl;
      log = λ k version at.
          ap (λ (v : Version). view_of v.stamp) (sym (get_one _ version k at)) ∙ (let is : 1 ≡ e = grind (arith, nat_tests) in is);
    })
    (λ other. record { order = inl refl; log = λ k version at. absurd (let never : None ≡ Some version = at in cc) })

-- what a part of a view has come to is below the floor of a later one
pub part_below : (e f : ℕ) (part : Replica) → 1 ≤ e → e < f → PartIsOf e part → stamp_below (top_of part) (floor_of f) ≡ true
unfolding stamp_below
part_below e f part least later is = below_floor (top_of part) (newest (newest_of part.log) refl)
  where
    -- a stamp of the view, or the first
    IsEarly : Stamp → Type 0
    IsEarly t = t.view.0 ≤ e

    below_floor : (t : Stamp) → IsEarly t → stamp_below t (floor_of f) ≡ true
    below_floor t early =
        cond_both (nat_lt 1 f) (record { view = record { 0 = f }; time = 0; brick = record { 0 = 0 }; boot = 0 }) first_stamp (λ (z : Stamp). stamp_below t z ≡ true)
        (λ above. grind (arith, nat_tests)) (λ none. absurd (let few = ltb-false 1 f none in omega (arith, few, least, later)))

    order : IsEarly part.order
    order = ⊎_elim
        (λ (first : part.order ≡ first_stamp). let view : part.order.view.0 ≡ 0 = ap (λ (z : Stamp). z.view.0) first in omega (arith, view))
        (λ (of : part.order.view.0 ≡ e). omega (arith, of)) is.order

    newest : (z : Option Version) → newest_of part.log ≡ z → IsEarly (top_of part)
    newest None none = subst IsEarly (sym (top_is_order part none)) order
    newest (Some version) some =
        let stands = newest_stands part.log version some in
        let of : view_of version.stamp ≡ e = is.log stands.0 version stands.1 in
        subst IsEarly (sym (top_is part version some))
        (cond_both (stamp_below part.order version.stamp) version.stamp part.order IsEarly (λ below. omega (arith, of)) (λ isnt. order))

-- a step keeps a brick's views, and sends packets of theirs
pub record StepViews (layout : Layout) (step : NodeStep) : Type 0 where
  pub node : NodeViews layout step.node
  pub packets : OfEach PacketIsOf step.packets

quiet_views : (layout : Layout) (node : Node) → NodeViews layout node → StepViews layout (no_step node)
quiet_views layout node has = record { node = has; packets = each_none PacketIsOf }

requested_views : (setting : Setting) (me from : BrickId) (node : Node) (call : Call) (request : Request) → NodeViews setting.layout node
    → RequestIsOf call request → StepViews setting.layout (requested setting me from node call request)
requested_views setting me from node call request has asks =
    request_each (λ (step : NodeStep). StepViews setting.layout step) setting me from node call request (quiet_views setting.layout node has)
    (λ moved is. record { node = has; packets = each_reply PacketIsOf me from call (Some moved) (λ r is. tt) })
    (λ group seat here served.
    let full : Option ℕ = full_at setting.layout.records node.live in
    let reaction : Reaction = handle setting.code group.m full seat (replica_at node call) request in
    record {
      node = record {
        views = has.views;
        parts = parts_each (λ g e s r. PartIsOf e r) node call reaction
            (part_after setting node call request has asks group.m seat (replica_at node call) reaction.replica served.view
            (has.parts call.group.0 call.view.0 call.stripe.0) (handle_after setting.code group.m seat full (replica_at node call) request))
            has.parts;
        fresh = λ g e s later.
            parts_each (λ h v r x. view_at node h < v → x ≡ fresh_replica setting.layout.block v) node call reaction
            (λ above. (let view = served.view in absurd (omega (arith, view, above)))) (λ h v r above. has.fresh h v r above) g e s later;
        zero = λ g s.
            parts_each (λ h v r x. v ≡ 0 → x ≡ fresh_replica setting.layout.block v) node call reaction
            (λ none. (let view = served.view in let least = has.views call.group.0 in absurd (omega (arith, view, least, none))))
            (λ h v r none. subst (λ (e : ℕ). node.replicas h e r ≡ fresh_replica setting.layout.block e) (sym none) (has.zero h r)) g 0 s refl;
        first = has.first;
        calls = has.calls;
      };
      packets = each_reply PacketIsOf me from call reaction.reply (λ r is. tt);
    })
    (λ group ballot asked here.
    let vote : Voted = vote_at node call ballot asked in
    record {
      node = record { views = has.views; parts = has.parts; fresh = has.fresh; zero = has.zero; first = has.first; calls = has.calls };
      packets = each_reply PacketIsOf me from call (Some vote.reply) (λ r is. tt);
    })

-- a brick that is taught a later view keeps each stamp in its view: what it forgets is fresh
learnt_views : (layout : Layout) (g : ℕ) (node : Node) (view : View) → is_later (node.learnt g) view ≡ true → NodeViews layout node
    → NodeViews layout (with_learnt layout.block g node (newly_learnt view))
learnt_views layout g node view later has =
    let next : Node = with_learnt layout.block g node (newly_learnt view) in
    let above : view_at node g < view.number.0 = ltb-true (view_at node g) view.number.0 later in
    let least : 1 ≤ view_at node g = has.views g in
    record {
      views = put_each (λ h (l : Learnt). 1 ≤ l.view.number.0) node.learnt g (newly_learnt view) (omega (arith, above, least)) (λ h other. has.views h);
      parts = dropped_each (λ h e s r. PartIsOf e r) layout.block g (view.number.0 - 1) node has.parts (λ e s before. fresh_part layout.block e);
      fresh = dropped_each (λ h e s r. view_at next h < e → r ≡ fresh_replica layout.block e) layout.block g (view.number.0 - 1) node
          (λ h e s. put_each (λ i (l : Learnt). l.view.number.0 < e → node.replicas i e s ≡ fresh_replica layout.block e) node.learnt g (newly_learnt view)
          (λ less. has.fresh g e s (omega (arith, above, less))) (λ i other less. has.fresh i e s less) h)
          (λ e s before less. refl);
      zero = λ h s.
          dropped_each (λ i e r x. e ≡ 0 → x ≡ fresh_replica layout.block e) layout.block g (view.number.0 - 1) node
          (λ i e r none. subst (λ (f : ℕ). node.replicas i f r ≡ fresh_replica layout.block f) (sym none) (has.zero i r)) (λ e r before none. refl) h 0 s refl;
      first = put_each (λ h (l : Learnt). l.view.number.0 ≡ 1 → l ≡ first_learnt layout h) node.learnt g (newly_learnt view)
          (λ one. absurd (omega (arith, above, least, one))) (λ h other. has.first h);
      calls = has.calls;
    }

-- so does one that hears that all stripes are kept in a view: it is a later one than view 1, which it knows to be synced
synced_kept : (layout : Layout) (node : Node) (group : GroupId) (number : ViewNo) → NodeViews layout node → NodeViews layout (node_synced layout node group number)
synced_kept layout node group number has =
    synced_each (λ (n : Node). NodeViews layout n) layout node group number has (λ now unsynced. drops unsynced)
  where
    g : ℕ
    g = group.0

    next : Node
    next = with_learnt layout.block g node (synced_of node g)

    view_same_at : (h : ℕ) → view_at next h ≡ view_at node h
    view_same_at = put_each (λ h (l : Learnt). l.view.number.0 ≡ view_at node h) node.learnt g (synced_of node g) refl (λ h other. refl)

    drops : (node.learnt g).synced ≡ false → NodeViews layout next
    drops unsynced = record {
      views = λ h. (let same = view_same_at h in let least = has.views h in omega (arith, same, least));
      parts = dropped_each (λ h e s r. PartIsOf e r) layout.block g (view_at node g) node has.parts (λ e s before. fresh_part layout.block e);
      fresh = dropped_each (λ h e s r. view_at next h < e → r ≡ fresh_replica layout.block e) layout.block g (view_at node g) node
          (λ h e s less. has.fresh h e s (let same = view_same_at h in omega (arith, same, less))) (λ e s before less. refl);
      zero = λ h s.
          dropped_each (λ i e r x. e ≡ 0 → x ≡ fresh_replica layout.block e) layout.block g (view_at node g) node
          (λ i e r none. subst (λ (f : ℕ). node.replicas i f r ≡ fresh_replica layout.block f) (sym none) (has.zero i r)) (λ e r before none. refl) h 0 s refl;
      first = put_each (λ h (l : Learnt). l.view.number.0 ≡ 1 → l ≡ first_learnt layout h) node.learnt g (synced_of node g)
          (λ one. absurd (false≢true (sym unsynced ∙ ap (λ (l : Learnt). l.synced) (has.first g one)))) (λ h other. has.first h);
      calls = has.calls;
    }

taught_views : (layout : Layout) (g : ℕ) (node : Node) (view : Option View) → NodeViews layout node
    → NodeViews layout (node_taught_by layout.block g node view)
taught_views layout g node view has =
    told_each (λ (n : Node). NodeViews layout n) layout.block g node view has (λ v later. learnt_views layout g node v later has)

-- a brick whose proposal, call number, known time or known round is another
pub beside_views : (layout : Layout) (node : Node) (seq known round : ℕ) (proposal : Option Proposal) → NodeViews layout node
    → NodeViews layout (record node { seq = seq; known = known; round = round; proposal = proposal })
beside_views layout node seq known round proposal has = record { views = has.views; parts = has.parts; fresh = has.fresh; zero = has.zero; first = has.first; calls = has.calls }

-- what is of views asks at no stamp
ballots_are : (packets : List Packet) → AreOfViews packets → OfEach PacketIsOf packets
ballots_are packets =
    of_views_each PacketIsOf (λ from to group view. tt) (λ from to call ballot t is. absurd (let never : None ≡ Some t = is in cc))
    (λ from to call ballot members t is. absurd (let never : None ≡ Some t = is in cc)) packets

-- what a coordinator decides
abbrev NextIsOf : Next → Type 0
NextIsOf (Waits d) = CallIsOf d
NextIsOf (Sends d) = CallIsOf d
NextIsOf (Makes d) = CallIsOf d
NextIsOf next = Unit {0}

-- an operation that waits
pub waits_view : (c d : Coordinator) → CallIsOf c → d.stamp ≡ c.stamp → d.phase ≡ c.phase → d.call ≡ c.call → CallIsOf d
waits_view c d is stamp phase call =
    ap (λ (z : Call). z.view) call ∙ is ∙ sym (ap (λ (p : Phase). asked_view c.stamp p) phase) ∙ sym (ap (λ (t : Stamp). asked_view t d.phase) stamp)

-- one in its next phase
pub next_view : (c d : Coordinator) → d.stamp.view ≡ c.stamp.view → d.call ≡ call_after c d.phase → CallIsOf d
next_view c d view call =
    ap (λ (z : Call). z.view) call ∙ sym (ap (λ (v : ViewNo). if looks_back d.phase then record { 0 = v.0 - 1 } else v) view)

next_views : (fresh : Option Stamp) (c : Coordinator) (next : Next) → NextFits fresh c next → CallIsOf c
    → ((t : Stamp) → fresh ≡ Some t → t.view ≡ c.stamp.view) → NextIsOf next
next_views fresh c Ignores fits is made = tt
next_views fresh c (Waits d) fits is made = waits_view c d is fits.stamp fits.phase fits.call
next_views fresh c (Sends d) fits is made = ⊎_elim
    (λ (again : ReordersFits fresh c d). next_view c d (made d.stamp again.stamp) fits.call)
    (λ (other : RecoversFits c d ⊎ RebuildsFits c d). ⊎_elim
    (λ (recovers : RecoversFits c d). next_view c d (ap (λ (t : Stamp). t.view) recovers.stamp) fits.call)
    (λ (rebuilds : RebuildsFits c d). next_view c d (ap (λ (t : Stamp). t.view) rebuilds.stamp) fits.call)
    other)
    fits.how
next_views fresh c (Makes d) fits is made = next_view c d (ap (λ (t : Stamp). t.view) fits.stamp) fits.call
next_views fresh c (Ends answer seen held) fits is made = tt

-- a brick with one call changed
call_put : (layout : Layout) (node : Node) (known busy seq : ℕ) (call : Option Coordinator) → NodeViews layout node
    → ((c : Coordinator) → call ≡ Some c → CallIsOf c) → NodeViews layout (with_call node known busy seq call)
call_put layout node known busy seq call has new = record {
  views = has.views;
  parts = has.parts;
  fresh = has.fresh;
  zero = has.zero;
  first = has.first;
  calls = put_each (λ k z. (c : Coordinator) → z ≡ Some c → CallIsOf c) node.calls seq call new (λ k other. has.calls k);
}

some_call : (d c : Coordinator) → CallIsOf d → Some d ≡ Some c → CallIsOf c
some_call d c is same = subst (λ (z : Coordinator). CallIsOf z) (same_Some d c same) is

phase_views : (setting : Setting) (me : BrickId) (c : Coordinator) → CallIsOf c → OfEach PacketIsOf (phase_packets setting me c)
phase_views setting me c is =
    each_member PacketIsOf me c.call (request_of setting.code c) (λ seat to. request_is setting.code c is seat) 0 (asked_group c).members

carried_views : (setting : Setting) (me : BrickId) (node : Node) (known : ℕ) (c : Coordinator) (next : Next) → NodeViews setting.layout node
    → NextIsOf next → StepViews setting.layout (carried_out setting me node known c next)
carried_views setting me node known c Ignores has is =
    record { node = record { views = has.views; parts = has.parts; fresh = has.fresh; zero = has.zero; first = has.first; calls = has.calls }; packets = each_none PacketIsOf }
carried_views setting me node known c (Waits d) has is =
    record { node = call_put setting.layout node _ _ _ (Some d) has (λ e same. some_call d e is same); packets = each_none PacketIsOf }
carried_views setting me node known c (Sends d) has is =
    record { node = call_put setting.layout node _ _ _ (Some d) has (λ e same. some_call d e is same); packets = phase_views setting me d is }
carried_views setting me node known c (Makes d) has is =
    record { node = call_put setting.layout node _ _ _ (Some d) has (λ e same. some_call d e is same); packets = phase_views setting me d is }
carried_views setting me node known c (Ends answer seen held) has is = record {
  node = call_put setting.layout node _ _ _ None has (λ e same. absurd (let never : None ≡ Some e = same in cc));
  packets = each_collect PacketIsOf me c held (λ t to u asked. absurd (let never : None ≡ Some u = asked in cc));
}

-- a new round's stamp is of the operation's view
fresh_view : (me : BrickId) (view : ViewNo) (now boot known : ℕ) (t : Stamp) → fresh_stamp me view now boot known ≡ Some t → t.view ≡ view
fresh_view me view now boot known t =
    cond_both (has_later_time known) (Some (new_stamp me view now boot known)) None (λ (z : Option Stamp). z ≡ Some t → t.view ≡ view)
    (λ later is. ap (λ (z : Stamp). z.view) (sym (same_Some (new_stamp me view now boot known) t is)))
    (λ spent is. absurd (let never : None ≡ Some t = is in cc))

-- a read of the brick's own is of the view of its stamp
read_views : (layout : Layout) (node : Node) (d : Coordinator) → CallIsOf d → NodeViews layout node → NodeViews layout (reading_aside node d)
read_views layout node d of has = record {
  views = has.views;
  parts = has.parts;
  fresh = has.fresh;
  zero = has.zero;
  first = has.first;
  calls = put_each (λ k z. (e : Coordinator) → z ≡ Some e → CallIsOf e) node.calls d.call.seq (Some d) (λ e is. some_call d e of is)
      (λ k other. has.calls k);
}

-- what a brick has learnt, its parts and its calls are of these views, whatever else is open there
own_views : (layout : Layout) (node : Node) (job : Option Job) (scrub : Option Scrub) → NodeViews layout node
    → NodeViews layout (record node { job = job; scrub = scrub })
own_views layout node job scrub has = record {
  views = has.views;
  parts = has.parts;
  fresh = has.fresh;
  zero = has.zero;
  first = has.first;
  calls = has.calls;
}

-- what the coordinator of such a read decided is carried out
carried_for_views : (setting : Setting) (me : BrickId) (now : ℕ) (node : Node) (known : ℕ) (c heard : Coordinator) (next : Next) (read : Option Job)
    (scrub : Option Scrub) → NodeViews setting.layout node → NextIsOf next
    → StepViews setting.layout (carried_for setting me now node known c heard next read scrub)
carried_for_views setting me now node known c heard next read scrub has is =
    carried_each (λ (step : NodeStep). StepViews setting.layout step) setting me now node known c heard next read scrub
    (carried_views setting me node known c next has is)
    (λ job its answer seen held ends. record {
      stays = record { node = gone; packets = each_both PacketIsOf (collect_packets me c held) [] (collects held) (each_none PacketIsOf) };
      ends = λ answered. record {
        node = own_views setting.layout left None node.scrub gone;
        packets = each_both PacketIsOf (collect_packets me c held) [] (collects held) (each_none PacketIsOf);
      };
      finishes = record {
        node = own_views setting.layout left None node.scrub gone;
        packets = each_both PacketIsOf (collect_packets me c held) (synced_packets me job.group job.view.number setting.layout.bricks 0) (collects held)
            (each_synced PacketIsOf me job.group job.view.number (λ to. tt) setting.layout.bricks 0);
      };
      reads = λ attempt group kept.
          let d : Coordinator = read_call group (record job { attempt = attempt }) me now (read_closed me node known c answer seen held).node in
          record {
            node = own_views setting.layout (reading_aside left d) (Some (record job { attempt = attempt; seq = d.call.seq })) node.scrub
                (read_views setting.layout left d refl gone);
            packets = each_both PacketIsOf (collect_packets me c held) (phase_packets setting me d) (collects held) (phase_views setting me d refl);
          };
    })
    (record {
      begins = λ s its d sends.
          let later : Option Scrub = Some (record s { lagging = lagging_after s heard }) in
          carried_views setting me (with_scrub node later) known c (Sends d) (own_views setting.layout node node.job later has)
          (subst (λ (z : Next). NextIsOf z) sends is);
      ends = λ s its answer seen held ended. record {
        node = own_views setting.layout left node.job None gone;
        packets = each_both PacketIsOf (collect_packets me c held) [] (collects held) (each_none PacketIsOf);
      };
    })
  where
    left : Node
    left = with_call node known node.busy c.call.seq None

    gone : NodeViews setting.layout left
    gone = call_put setting.layout node known node.busy c.call.seq None has (λ e same. absurd (let never : None ≡ Some e = same in cc))

    collects : (held : Option Stamp) → OfEach PacketIsOf (collect_packets me c held)
    collects held = each_collect PacketIsOf me c held (λ t to u asked. absurd (let never : None ≡ Some u = asked in cc))

replied_views : (setting : Setting) (me : BrickId) (now : ℕ) (from : BrickId) (node : Node) (call : Call) (reply : Reply) (found : Option Coordinator)
    → ((c : Coordinator) → found ≡ Some c → CallIsOf c) → NodeViews setting.layout node
    → StepViews setting.layout (replied_at setting me now from node call reply found)
unfolding on_reply
replied_views setting me now from node call reply None own has =
    ballot_each (λ (step : NodeStep). StepViews setting.layout step) setting.layout me from (with_known node (known_after node.known reply)) call reply node.proposal
    (λ seq round proposal packets reports more are. record {
      node = beside_views setting.layout node seq (known_after node.known reply) round proposal has;
      packets = ballots_are packets are;
    })
replied_views setting me now from node call reply (Some c) own has =
    let known : ℕ = known_after node.known reply in
    carried_for_views setting me now node known c (hearing c from reply (counts_at setting.layout.block c from.0 call reply)) _ (job_reading node.job c.call.seq)
    (scrub_of node.scrub c.call.seq) has
    (decides (fresh_stamp me c.stamp.view now node.boot known) (own c refl)
    (λ t made. fresh_view me c.stamp.view now node.boot known t made) (counts_at setting.layout.block c from.0 call reply))
  where
    decides : (fresh : Option Stamp) → CallIsOf c → ((t : Stamp) → fresh ≡ Some t → t.view ≡ c.stamp.view) → (seat : Option ℕ)
        → NextIsOf (counted_at setting.layout.block setting.code fresh c from reply seat)
    decides fresh is made None = tt
    decides fresh is made (Some seat) =
        next_views fresh (with_reply c seat from reply) (once_full setting.layout.block setting.code fresh (with_reply c seat from reply))
        (once_full_fits setting.layout.block setting.code fresh (with_reply c seat from reply)) is made

heard_views : (setting : Setting) (me : BrickId) (now : ℕ) (from : BrickId) (node : Node) (call : Call) (reply : Reply)
    → NodeViews setting.layout node → StepViews setting.layout (heard setting me now from node call reply)
heard_views setting me now from node call reply has =
    let round : NodeViews setting.layout (with_round node reply)
    = beside_views setting.layout node node.seq node.known (with_round node reply).round node.proposal has in
    heard_each (λ (step : NodeStep). StepViews setting.layout step) setting me now from node call reply
    (quiet_views setting.layout (with_known (with_round node reply) (known_after node.known reply))
    (beside_views setting.layout node node.seq (known_after node.known reply) (with_round node reply).round node.proposal has))
    (λ fit. replied_views setting me now from _ call reply (node.calls call.seq) (λ c is. has.calls call.seq c is)
    (taught_views setting.layout call.group.0 (with_round node reply) (view_counted setting.layout from node call reply) round))

received_views : (setting : Setting) (now : ℕ) (from to : BrickId) (message : Message) (node : Node) → NodeViews setting.layout node → MessageIsOf message
    → StepViews setting.layout (received setting to now node (record { from = from; to = to; message = message }))
unfolding received
received_views setting now from to (Message.Request call request) node has is = requested_views setting to from node call request has is
received_views setting now from to (Message.Reply call reply) node has is = heard_views setting to now from node call reply has
received_views setting now from to (Message.Learn group view) node has is =
    quiet_views setting.layout (node_learnt setting.layout node group view)
    (learnt_each (λ (n : Node). NodeViews setting.layout n) setting.layout node group view has (λ later. learnt_views setting.layout group.0 node view later has))
received_views setting now from to (Message.Synced group number) node has is =
    quiet_views setting.layout (node_synced setting.layout node group number) (synced_kept setting.layout node group number has)
received_views setting now from to message node has is = quiet_views setting.layout node has

-- a brick begins a proposal
proposed_views : (setting : Setting) (me : BrickId) (node : Node) (group : GroupId) (members : List BrickId) → NodeViews setting.layout node
    → StepViews setting.layout (proposed setting me node group members)
proposed_views setting me node group members has =
    proposed_each (λ (step : NodeStep). StepViews setting.layout step) setting me node group members (λ seq round proposal packets reports more are. record {
      node = beside_views setting.layout node seq node.known round proposal has;
      packets = ballots_are packets are;
    })

-- what a brick keeps of a message
kept_views : (setting : Setting) (me from to : BrickId) (message : Message) (node : Node) → NodeViews setting.layout node → MessageIsOf message
    → NodeViews setting.layout (kept_of setting me node (record { from = from; to = to; message = message }))
unfolding kept_of
kept_views setting me from to (Message.Request call request) node has is = (requested_views setting me from node call request has is).node
kept_views setting me from to (Message.Reply call reply) node has is =
    cond_both (lists_fit setting.layout call reply) (node_taught_by setting.layout.block call.group.0 node (view_told reply)) node
    (λ (n : Node). NodeViews setting.layout n) (λ fit. taught_views setting.layout call.group.0 node (view_told reply) has) (λ isnt. has)
kept_views setting me from to (Message.Learn group view) node has is =
    learnt_each (λ (n : Node). NodeViews setting.layout n) setting.layout node group view has (λ later. learnt_views setting.layout group.0 node view later has)
kept_views setting me from to (Message.Synced group number) node has is = synced_kept setting.layout node group number has
kept_views setting me from to message node has is = has

-- and where its handling was cut short
absorbed_views : (setting : Setting) (me from to : BrickId) (message : Message) (node : Node) → NodeViews setting.layout node → MessageIsOf message
    → NodeViews setting.layout (absorbed setting me node (record { from = from; to = to; message = message }))
absorbed_views setting me from to message node has is =
    let packet : Packet = record { from = from; to = to; message = message } in
    ⊎_elim
    (λ (same : absorbed setting me node packet ≡ node). subst (λ (n : Node). NodeViews setting.layout n) (sym same) has)
    (λ (kept : absorbed setting me node packet ≡ kept_of setting me node packet).
    subst (λ (n : Node). NodeViews setting.layout n) (sym kept) (kept_views setting me from to message node has is))
    (absorbed_kept setting me from to node message)

-- an operation begins in its view
pub first_ahead : (op : Op) → looks_back (first_phase op) ≡ false
first_ahead (ReadBlock j) = refl
first_ahead (WriteBlock j bytes) = refl
first_ahead ReadStripe = refl
first_ahead (WriteStripe bytes) = refl

pub begun_view : (c : Coordinator) → looks_back c.phase ≡ false → c.call.view ≡ c.stamp.view → CallIsOf c
begun_view c ahead same = same ∙ sym (ap (λ (b : Bool). if b then record { 0 = c.stamp.view.0 - 1 } else c.stamp.view) ahead)

invoked_views : (setting : Setting) (me : BrickId) (now : ℕ) (node : Node) (ask : Ask) → NodeViews setting.layout node
    → StepViews setting.layout (invoked setting me now node ask)
unfolding invoked
invoked_views setting me now node ask has = in_group (group_at setting.layout node ask.group.0)
  where
    in_group : (z : Option Group) → StepViews setting.layout (began setting me now node ask z)
    in_group None = quiet_views setting.layout node has
    in_group (Some group) =
        let c : Coordinator = new_coordinator group me now node ask in
        record {
          node = record {
            views = has.views;
            parts = has.parts;
            fresh = has.fresh;
            zero = has.zero;
            first = has.first;
            calls = put_each (λ k z. (d : Coordinator) → z ≡ Some d → CallIsOf d) node.calls (node.seq + 1) (Some c) (λ d is. some_call c d (begun_view c (first_ahead ask.op) refl) is)
                (λ k other. has.calls k);
          };
          packets = phase_views setting me c (begun_view c (first_ahead ask.op) refl);
        }

-- a synchronisation begins
sync_views : (setting : Setting) (me : BrickId) (now : ℕ) (node : Node) (group : GroupId) → NodeViews setting.layout node
    → StepViews setting.layout (synced_at setting me now node group)
sync_views setting me now node group has =
    synced_at_each (λ (step : NodeStep). StepViews setting.layout step) setting me now node group (quiet_views setting.layout node has)
    (λ answer. record { node = same; packets = each_none PacketIsOf }) (λ answer. record { node = jobless; packets = each_none PacketIsOf })
    (λ kept is.
    let job : Job = begun_job group (node.learnt group.0).view in
    let d : Coordinator = read_call kept job me now node in
    record {
      node = own_views setting.layout (reading_aside node d) (Some (record job { seq = d.call.seq })) node.scrub (read_views setting.layout node d refl has);
      packets = phase_views setting me d refl;
    })
  where
    same : NodeViews setting.layout node
    same = has

    jobless : NodeViews setting.layout (with_job node None)
    jobless = record {
      views = has.views;
      parts = has.parts;
      fresh = has.fresh;
      zero = has.zero;
      first = has.first;
      calls = has.calls;
    }

-- a scrub begins
scrub_views : (setting : Setting) (me : BrickId) (now : ℕ) (node : Node) (group : GroupId) (stripe : StripeNo) (members : List BrickId)
    → NodeViews setting.layout node → StepViews setting.layout (scrubbed_at setting me now node group stripe members)
scrub_views setting me now node group stripe members has =
    scrubbed_at_each (λ (step : NodeStep). StepViews setting.layout step) setting me now node group stripe members (quiet_views setting.layout node has)
    (λ kept is.
    let d : Coordinator = scrub_coordinator kept me now node group stripe members in
    record {
      node = own_views setting.layout (reading_aside node d) node.job (Some (record { seq = d.call.seq; lagging = [] })) (read_views setting.layout node d refl has);
      packets = phase_views setting me d refl;
    })

-- a brick stops, and starts again
closed_views : (layout : Layout) (node : Node) (boot seq known round busy : ℕ) → NodeViews layout node
    → NodeViews layout (record node { boot = boot; seq = seq; known = known; round = round; busy = busy; calls = λ k. None; proposal = None; job = None; scrub = None })
closed_views layout node boot seq known round busy has = record {
  views = has.views;
  parts = has.parts;
  fresh = has.fresh;
  zero = has.zero;
  first = has.first;
  calls = λ k c is. absurd (let never : None ≡ Some c = is in cc);
}

stopped_views : (layout : Layout) (node : Node) → NodeViews layout node → NodeViews layout (stopped node)
unfolding stopped
stopped_views layout node has = closed_views layout node node.boot node.seq node.known node.round 0 has

restarted_views : (layout : Layout) (openings : ℕ) (node : Node) → NodeViews layout node → NodeViews layout (restarted openings node)
unfolding restarted
restarted_views layout openings node has = closed_views layout node (node.boot + openings) 0 0 0 0 has

-- what its store may hold, once a handling was cut short, or none
left_views : (setting : Setting) (brick : BrickId) (node : Node) (packet : Option Packet) → NodeViews setting.layout node
    → ((p : Packet) → packet ≡ Some p → PacketIsOf p) → NodeViews setting.layout (left_after setting brick node packet)
left_views setting brick node None has sent = stopped_views setting.layout node has
left_views setting brick node (Some packet) has sent =
    cond_both (nat_eq packet.to.0 brick.0) (stopped (absorbed setting brick node packet)) (stopped node) (λ (n : Node). NodeViews setting.layout n)
    (λ its. stopped_views setting.layout (absorbed setting brick node packet)
    (absorbed_views setting brick packet.from packet.to packet.message node has (sent packet refl)))
    (λ other. stopped_views setting.layout node has)

put_views : (layout : Layout) (nodes : ℕ → Node) (i : ℕ) (node : Node) → ((j : ℕ) → NodeViews layout (nodes j)) → NodeViews layout node → (j : ℕ)
    → NodeViews layout (put nodes i node j)
put_views layout nodes i node have new = put_each (λ j n. NodeViews layout n) nodes i node new (λ j other. have j)

-- every event keeps each stamp in its view
views_cases : (setting : Setting) (w : World) → StampViews setting.layout w → EventCases setting w (StampViews setting.layout)
unfolding ticked
views_cases setting w has = record {
  begins = λ brick ask may.
      (let step = invoked_views setting brick (w.clocks brick.0) (w.nodes brick.0) ask (has.nodes brick.0) in
      record {
        nodes = put_views setting.layout w.nodes brick.0 _ has.nodes step.node;
        after = has.after;
        packets = each_both PacketIsOf w.packets _ has.packets step.packets;
      });
  proposes = λ brick group members may.
      (let step = proposed_views setting brick (w.nodes brick.0) group members (has.nodes brick.0) in
      record {
        nodes = put_views setting.layout w.nodes brick.0 _ has.nodes step.node;
        after = subst (λ (f : ℕ → Node). (i : ℕ) → NodeViews setting.layout (f i))
            (sym (after_stepped setting w brick (proposed setting brick (w.nodes brick.0) group members))) has.after;
        packets = each_both PacketIsOf w.packets _ has.packets step.packets;
      });
  syncs = λ brick group may.
      (let step = sync_views setting brick (w.clocks brick.0) (w.nodes brick.0) group (has.nodes brick.0) in
      record {
        nodes = put_views setting.layout w.nodes brick.0 _ has.nodes step.node;
        after = subst (λ (f : ℕ → Node). (i : ℕ) → NodeViews setting.layout (f i))
            (sym (after_stepped setting w brick (synced_at setting brick (w.clocks brick.0) (w.nodes brick.0) group))) has.after;
        packets = each_both PacketIsOf w.packets _ has.packets step.packets;
      });
  scrubs = λ brick group stripe members may.
      (let step = scrub_views setting brick (w.clocks brick.0) (w.nodes brick.0) group stripe members (has.nodes brick.0) in
      record {
        nodes = put_views setting.layout w.nodes brick.0 _ has.nodes step.node;
        after = subst (λ (f : ℕ → Node). (i : ℕ) → NodeViews setting.layout (f i))
            (sym (after_stepped setting w brick (scrubbed_at setting brick (w.clocks brick.0) (w.nodes brick.0) group stripe members))) has.after;
        packets = each_both PacketIsOf w.packets _ has.packets step.packets;
      });
  handles = λ number packet at up.
      (let sent = packet_was_sent w number packet at in
      let step = received_views setting (w.clocks packet.to.0) packet.from packet.to packet.message (w.nodes packet.to.0) (has.nodes packet.to.0)
      (has.packets sent.0 packet sent.1) in
      record {
        nodes = put_views setting.layout w.nodes packet.to.0 _ has.nodes step.node;
        after = subst (λ (f : ℕ → Node). (i : ℕ) → NodeViews setting.layout (f i))
            (sym (after_stepped setting (world_counting setting w number packet) packet.to (step_on setting w packet))) has.after;
        packets = each_both PacketIsOf w.packets _ has.packets step.packets;
      });
  sets = λ brick time is. record { nodes = has.nodes; after = has.after; packets = has.packets };
  ticks = λ brick up.
      record {
        nodes = has.nodes;
        after = has.after;
        packets = each_both PacketIsOf w.packets _ has.packets
            (each_tick PacketIsOf setting brick (w.nodes brick.0).calls
            (λ k c is seat to. request_is setting.code c ((has.nodes brick.0).calls k c is) seat) (λ k c is later from to. tt) (w.nodes brick.0).job (w.nodes brick.0).scrub
            (w.nodes brick.0).seq (w.nodes brick.0).proposal (ballots_are _ (resent_of_views brick (w.nodes brick.0).proposal)));
      };
  stops = λ brick during up.
      record {
        nodes = put_views setting.layout w.nodes brick.0 _ has.nodes (stopped_views setting.layout (w.nodes brick.0) (has.nodes brick.0));
        after = put_views setting.layout w.after brick.0 _ has.after
            (left_views setting brick (w.nodes brick.0) (packet_during w.packets during) (has.nodes brick.0)
            (λ p is. let sent = during_was_sent w during p is in has.packets sent.0 p sent.1));
        packets = has.packets;
      };
  starts = λ brick openings found may.
      started_each (StampViews setting.layout) w brick openings (started_views w brick openings has)
      (started_views (world_found w brick After) brick openings
      (record { nodes = put_views setting.layout w.nodes brick.0 _ has.nodes (has.after brick.0); after = has.after; packets = has.packets })) found;
}
  where
    started_views : (x : World) (brick : BrickId) (openings : ℕ) → StampViews setting.layout x → StampViews setting.layout (world_started x brick openings)
    started_views x brick openings was = record {
      nodes = put_views setting.layout x.nodes brick.0 _ was.nodes (restarted_views setting.layout openings (x.nodes brick.0) (was.nodes brick.0));
      after = was.after;
      packets = was.packets;
    }

first_views : (layout : Layout) → NodeViews layout (first_brick layout)
first_views layout = record {
  views = λ g. omega arith;
  parts = λ g e s. fresh_part layout.block e;
  fresh = λ g e s later. refl;
  zero = λ g s. refl;
  first = λ g one. refl;
  calls = λ k c is. absurd (let never : None ≡ Some c = is in cc);
}

-- in every run each stamp is in its view
pub always_views : (setting : Setting) (events : List Event) → StampViews setting.layout (run setting events (first_world setting.layout))
always_views setting =
    always (StampViews setting.layout) setting
    (record { nodes = λ i. first_views setting.layout; after = λ i. first_views setting.layout; packets = each_none PacketIsOf }) (views_cases setting)
