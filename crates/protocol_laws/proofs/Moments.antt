-- What a member told was true of it when it told it.
use Rattle.protocol.specs.Jobs.{Job, begun_job}
use Rattle.view_laws.proofs.SyncReads.{carried_each, synced_at_each, each_tick, each_synced, read_call, scrubbed_at_each}
use Rattle.protocol.specs.Views.{first_kept}
use Rattle.std.proofs.Common.{nat_lt, ◌≡◌, ◌≤◌, ⊎_elim, arith, not, Bool, ℕ, true, List, [], Option, Some, None, refl, sym, ap, ◌∙◌, subst, false, is_some, ltb-true}
use Rattle.std.specs.Prelude.{nat_eq, if◌then◌else◌}
use Rattle.std.proofs.lemmas.Bool.{cond_both, cases_Bool, or_parts, ltb-false}
use Rattle.std.proofs.lemmas.Option.{same_Some}
use Rattle.fab_base.specs.declared.identities.BrickId.{BrickId}
use Rattle.fab_base.specs.declared.asks.Ask.{Ask}
use Rattle.fab_base.specs.declared.stamps.Stamp.{Stamp}
use Rattle.fab_base.specs.Stamps.{stamp_below}
use Rattle.messages.specs.declared.calls.Call.{Call}
use Rattle.messages.specs.declared.packets.Message.{Message}
use Rattle.messages.specs.declared.packets.Packet.{Packet}
use Rattle.messages.specs.declared.requests.Request.{Request}
use Rattle.messages.specs.declared.replies.Reply.{Reply}
use Rattle.fab_base.specs.Layouts.{Layout, Group}
use Rattle.fab_base.specs.declared.stamps.Ballot.{Ballot}
use Rattle.fab_base.specs.declared.identities.GroupId.{GroupId}
use Rattle.protocol.specs.Ballots.{Voted}
use Rattle.protocol.specs.Settings.{Setting, Code}
use Rattle.protocol_laws.proofs.Reactions.{modified_each}
use Rattle.protocol.specs.Replicas.{Replica, Reaction, top_of, is_held, is_wanted, told_version, stays, unless_full, promised, stored, looked_up, handle, ignored, newest_of, under}
use Rattle.protocol.specs.Coordinators.{Coordinator, Next, Ignores, Waits, Sends, Makes, Ends, request_of, on_reply, asked_group, hearing, counts_at}
use Rattle.protocol.specs.Nodes.{view_at, Node, replica_at, full_at, reply_packets, ticked, began, invoked, requested, known_after, fresh_stamp, carried_out, group_at, replied_at, heard, received, with_round, node_taught_by, view_counted, moved_at, is_void, requested_in, requested_as, no_step, vote_at, with_known, proposed, NodeStep, phase_packets, new_coordinator, view_floor, old_reply, synced_at, carried_for, job_reading, collect_packets, read_closed, synced_packets, scrub_of, scrub_coordinator, scrubbed_at}
use Rattle.protocol.specs.Worlds.{World, Event, first_world, world_stopped, happens, run}
use Rattle.protocol_laws.specs.Laws.{RefusalIsTrue, RefusalsWereTrue, stamp_asked}
use Rattle.protocol.proofs.Served.{request_each, TellsOld}
use Rattle.protocol_laws.proofs.Votes.{vote_each, moved_each, outbid_promised}
use Rattle.protocol_laws.proofs.Proposing.{AreOfViews, of_views_each, resent_of_views, ballot_each, proposed_each}
use Rattle.protocol_laws.proofs.Teaching.{heard_each}
use Rattle.protocol.proofs.Events.{EventCases, step_on, happens_each, started_each}
use Rattle.protocol.proofs.Packets.{OfEach, each_none, each_one, each_both, each_member, each_collect, each_reply}
use Rattle.protocol_laws.proofs.Tops.{top_is_part}
use Rattle.protocol_laws.proofs.StampViews.{StampViews, NodeViews, RequestIsOf, MessageIsOf, asks_above, free_for, always_views}
use Rattle.protocol_laws.proofs.Left.{packet_was_sent}
use Rattle.protocol_laws.proofs.Sendings.{Adds, adds_none, SentAt, sent_at}
use Rattle.protocol.specs.Scrubs.{Scrub}
use Rattle.fab_base.specs.declared.identities.StripeNo.{StripeNo}

-- what a packet refuses is true of its sender in a world
abbrev IsTrue : World → Packet → Type 0
IsTrue w packet = RefusalIsTrue w packet.from packet.message

-- of each of these packets
abbrev AreTrue : World → List Packet → Type 0
AreTrue w packets = OfEach (IsTrue w) packets

-- a request refuses nothing
phase_true : (setting : Setting) (w : World) (me : BrickId) (c : Coordinator) → AreTrue w (phase_packets setting me c)
phase_true setting w me c = each_member (IsTrue w) me c.call (request_of setting.code c) (λ seat to. tt) 0 (asked_group c).members

-- a reply refuses only what is so: a later stamp is the part's own, and above the one that was asked at; and live records are as many as there may be
abbrev SaysTrue : Option ℕ → Replica → Request → Option Reply → Type 0
SaysTrue full replica request None = Unit {0}
SaysTrue full replica request (Some (Reply.Later x)) = (top_of replica ≡ x) × ((t : Stamp) × (stamp_asked request ≡ Some t) × (stamp_below t x ≡ true))
SaysTrue full replica request (Some (Reply.Full live)) = full ≡ Some live
SaysTrue full replica request (Some (Reply.Moved view lineage)) = ⊥
SaysTrue full replica request (Some (Reply.Outbid ballot)) = ⊥
SaysTrue full replica request (Some Reply.NotSynced) = ⊥
SaysTrue full replica request (Some Reply.Retired) = ⊥
SaysTrue full replica request (Some reply) = Unit {0}

unless_full_true : (full whole : Option ℕ) (replica : Replica) (request : Request) (reaction : Reaction) → whole ≡ full → SaysTrue whole replica request reaction.reply
    → SaysTrue whole replica request (unless_full full replica reaction).reply
unless_full_true None whole replica request reaction is says = says
unless_full_true (Some live) whole replica request reaction is says =
    cond_both (nat_lt reaction.drops reaction.adds) (stays replica (Reply.Full live)) reaction (λ (z : Reaction). SaysTrue whole replica request z.reply) (λ adds. is) (λ isnt. says)

handle_true : (code : Code) (m : ℕ) (full : Option ℕ) (seat : ℕ) (replica : Replica) (request : Request)
    → SaysTrue full replica request (handle code m full seat replica request).reply
unfolding handle
handle_true code m full seat replica (Request.Read want) = tt
handle_true code m full seat replica (Request.Order t) =
    cond_both (stamp_below t (top_of replica)) (stays replica (Reply.Later (top_of replica))) _ (λ (z : Reaction). SaysTrue full replica (Request.Order t) z.reply)
    (λ below. (refl, (t, refl, below))) (λ at. unless_full_true full full replica (Request.Order t) (promised replica t Reply.Ordered) refl tt)
handle_true code m full seat replica (Request.Write t block) =
    cond_both (is_held t replica.log) (stays replica Reply.Stored) _ (λ (z : Reaction). SaysTrue full replica (Request.Write t block) z.reply)
    (λ held. tt)
    (λ isnt. cond_both (stamp_below t (top_of replica)) (stays replica (Reply.Later (top_of replica))) _
    (λ (z : Reaction). SaysTrue full replica (Request.Write t block) z.reply)
    (λ below. (refl, (t, refl, below))) (λ at. unless_full_true full full replica (Request.Write t block) (stored replica t block) refl tt))
handle_true code m full seat replica (Request.OrderRead t look want) =
    cond_both (stamp_below t (top_of replica)) (stays replica (Reply.Later (top_of replica))) _ (λ (z : Reaction). SaysTrue full replica (Request.OrderRead t look want) z.reply)
    (λ below. (refl, (t, refl, below)))
    (λ at. unless_full_true full full replica (Request.OrderRead t look want)
    (promised replica t (Reply.OrderedRead (told_version (is_wanted want seat) (looked_up look replica.log)))) refl tt)
handle_true code m full seat replica (Request.Modify t base j delta) =
    modified_each code m seat (λ (z : Reaction). SaysTrue full replica (Request.Modify t base j delta) z.reply) full replica t base j delta
    tt (λ below. (refl, (t, refl, below))) (λ newest. tt) (λ live is. is) (λ at old is same. tt)
handle_true code m full seat replica (Request.Collect t) =
    cond_both (is_held t replica.log) _ (ignored replica) (λ (z : Reaction). SaysTrue full replica (Request.Collect t) z.reply) (λ held. tt) (λ isnt. tt)
handle_true code m full seat replica (Request.OldRead bound) = tt
handle_true code m full seat replica (Request.Prepare ballot) = tt
handle_true code m full seat replica (Request.Accept ballot members) = tt

-- as many live records as there may be are as many as the brick keeps
full_live : (records : ℕ) (node : Node) (live : ℕ) → full_at records node.live ≡ Some live → node.live ≡ live
full_live records node live is =
    cond_both (nat_eq node.live records) (Some node.live) None (λ (z : Option ℕ). z ≡ Some live → node.live ≡ live)
    (λ same e. same_Some node.live live e) (λ other e. cc) is

-- a request that is not void is of no later view than its brick has learnt
unvoid_view : (layout : Layout) (me : BrickId) (node : Node) (call : Call) (request : Request) (group : Group) → is_void layout me node call request group ≡ false
    → call.view.0 ≤ view_at node call.group.0
unvoid_view layout me node call request group isnt =
    let stripe = or_parts (not (nat_lt call.stripe.0 group.stripes)) _ isnt in
    let view = or_parts (nat_eq call.view.0 0) _ stripe.1 in
    let known = or_parts (nat_lt (view_at node call.group.0) call.view.0) _ view.1 in
    ltb-false (view_at node call.group.0) call.view.0 known.0

module _ (setting : Setting) (w : World) where
  replies_true : (me to : BrickId) (call : Call) (request : Request) (reply : Option Reply)
      → ((t : Stamp) → stamp_asked request ≡ Some t → stamp_below t (view_floor (w.nodes me.0) call.group.0) ≡ false)
      → call.view.0 ≡ view_at (w.nodes me.0) call.group.0
      → SaysTrue (full_at setting.layout.records (w.nodes me.0).live) (replica_at (w.nodes me.0) call) request reply
      → AreTrue w (reply_packets me to call reply)
  replies_true me to call request reply above view says =
      each_reply (IsTrue w) me to call reply (λ r is. said r (subst (λ (z : Option Reply). Says z) is says))
    where
      Says : Option Reply → Type 0
      Says z = SaysTrue (full_at setting.layout.records (w.nodes me.0).live) (replica_at (w.nodes me.0) call) request z

      said : (r : Reply) → Says (Some r) → IsTrue w (record { from = me; to = to; message = Message.Reply call r })
      said (Reply.Later x) is =
          let part : top_of ((w.nodes me.0).replicas call.group.0 (view_at (w.nodes me.0) call.group.0) call.stripe.0) ≡ x
          = ap (λ (e : ℕ). top_of ((w.nodes me.0).replicas call.group.0 e call.stripe.0)) (sym view) ∙ is.0 in
          top_is_part (w.nodes me.0) call.group.0 call.stripe.0 is.1.0 (above is.1.0 is.1.1) (ap (λ (z : Stamp). stamp_below is.1.0 z) part ∙ is.1.2)
          ∙ part
      said (Reply.Full live) is = full_live setting.layout.records (w.nodes me.0) live is
      said (Reply.Moved number lineage) is = absurd is
      said (Reply.Outbid ballot) is = absurd is
      said Reply.NotSynced is = absurd is
      said Reply.Retired is = absurd is
      said r is = tt

  -- what a member tells that serves the view of a call no more
  moved_true : (me from : BrickId) (call : Call) (moved : Reply) → call.view.0 ≤ view_at (w.nodes me.0) call.group.0 → moved_at (w.nodes me.0) call ≡ Some moved
      → IsTrue w (record { from = me; to = from; message = Message.Reply call moved })
  moved_true me from call moved known =
      moved_each (λ (r : Reply). IsTrue w (record { from = me; to = from; message = Message.Reply call r })) (w.nodes me.0) call moved (λ later. (later, refl))
      (λ most has. (refl, omega (arith, most, known), has))

  -- what it keeps in that
  old_true : (me from : BrickId) (call : Call) (bound : Option Stamp) (told : Reply) → old_reply (w.nodes me.0) call bound ≡ Some told
      → IsTrue w (record { from = me; to = from; message = Message.Reply call told })
  old_true me from call bound told =
      cond_both (nat_lt call.view.0 (first_kept ((w.nodes me.0).learnt call.group.0))) (Some Reply.Retired) _ (λ (z : Option Reply). z ≡ Some told → True told)
      (λ gone is.
      subst True (same_Some Reply.Retired told is) (ltb-true call.view.0 (first_kept ((w.nodes me.0).learnt call.group.0)) gone))
      (λ kept.
      cond_both (is_some (moved_at (w.nodes me.0) call)) (Some (Reply.Old (newest_of (under bound (replica_at (w.nodes me.0) call).log)))) None
      (λ (z : Option Reply). z ≡ Some told → True told)
      (λ moved is. subst True (same_Some (Reply.Old (newest_of (under bound (replica_at (w.nodes me.0) call).log))) told is) tt)
      (λ serves is. absurd (let never : None ≡ Some told = is in cc)))
    where
      True : Reply → Type 0
      True r = IsTrue w (record { from = me; to = from; message = Message.Reply call r })

  -- and one that votes
  vote_true : (me from : BrickId) (call : Call) (ballot : Ballot) (asked : Option (List BrickId)) → call.view.0 ≤ view_at (w.nodes me.0) call.group.0
      → IsTrue w (record { from = me; to = from; message = Message.Reply call (vote_at (w.nodes me.0) call ballot asked).reply })
  vote_true me from call ballot asked known =
      vote_each (λ (v : Voted). IsTrue w (record { from = me; to = from; message = Message.Reply call v.reply })) call.view.0
      ((w.nodes me.0).learnt call.group.0) ((w.nodes me.0).ballots call.group.0) ballot asked (λ later. (later, refl))
      (λ most not. (omega (arith, most, known), not))
      (λ greater most is. (omega (arith, most, known), outbid_promised ((w.nodes me.0).ballots call.group.0) ballot greater is)) tt (λ list is. tt)

  -- what a step on a message sends
  requested_true : (me from : BrickId) (call : Call) (request : Request) → NodeViews setting.layout (w.nodes me.0)
      → RequestIsOf call request → AreTrue w (requested setting me from (w.nodes me.0) call request).packets
  unfolding requested
  requested_true me from call request has asks = in_group (group_at setting.layout (w.nodes me.0) call.group.0) refl
    where
      node : Node
      node = w.nodes me.0

      -- a request that is not void
      handled : call.view.0 ≤ view_at node call.group.0 → AreTrue w (requested setting me from node call request).packets
      handled known =
          request_each (λ step. AreTrue w step.packets) setting me from node call request (each_none (IsTrue w))
          (λ told is. each_one (IsTrue w) _ [] (⊎_elim
          (λ (moved : moved_at node call ≡ Some told). moved_true me from call told known moved)
          (λ (old : TellsOld node call request told). old_true me from call old.bound told old.says)
          is) (each_none (IsTrue w)))
          (λ group seat here served. replies_true me from call request
          (handle setting.code group.m (full_at setting.layout.records node.live) seat (replica_at node call) request).reply
          (asks_above setting.layout node call request has asks served.view (free_for node call request served.free)) served.view
          (handle_true setting.code group.m (full_at setting.layout.records node.live) seat (replica_at node call) request))
          (λ group ballot asked here. each_one (IsTrue w) _ [] (vote_true me from call ballot asked known) (each_none (IsTrue w)))

      in_group : (z : Option Group) → group_at setting.layout node call.group.0 ≡ z → AreTrue w (requested_in setting me from node call request z).packets
      in_group None here = each_none (IsTrue w)
      in_group (Some group) here = ⊎_elim
          (λ (void : is_void setting.layout me node call request group ≡ true).
          subst (λ (b : Bool). AreTrue w (if b then no_step node else requested_as setting group me from node call request).packets) (sym void) (each_none (IsTrue w)))
          (λ (isnt : is_void setting.layout me node call request group ≡ false).
          subst (λ (z : Option Group). AreTrue w (requested_in setting me from node call request z).packets) here
          (handled (unvoid_view setting.layout me node call request group isnt)))
          (cases_Bool (is_void setting.layout me node call request group))

  carried_true : (me : BrickId) (node : Node) (known : ℕ) (c : Coordinator) (next : Next)
      → AreTrue w (carried_out setting me node known c next).packets
  carried_true me node known c Ignores = each_none (IsTrue w)
  carried_true me node known c (Waits d) = each_none (IsTrue w)
  carried_true me node known c (Sends d) = phase_true setting w me d
  carried_true me node known c (Makes d) = phase_true setting w me d
  carried_true me node known c (Ends answer seen held) = each_collect (IsTrue w) me c held (λ t to. tt)

  -- nor does what a brick sends for its synchronisation or its scrub
  carried_for_true : (me : BrickId) (now : ℕ) (node : Node) (known : ℕ) (c heard : Coordinator) (next : Next) (reading : Option Job) (scrub : Option Scrub)
      → AreTrue w (carried_for setting me now node known c heard next reading scrub).packets
  carried_for_true me now node known c heard next reading scrub =
      carried_each (λ (step : NodeStep). AreTrue w step.packets) setting me now node known c heard next reading scrub (carried_true me node known c next)
      (λ job is answer seen held ends.
      let collects = each_collect (IsTrue w) me c held (λ t to. tt) in
      record {
        stays = each_both (IsTrue w) (collect_packets me c held) [] collects (each_none (IsTrue w));
        ends = λ answered. each_both (IsTrue w) (collect_packets me c held) [] collects (each_none (IsTrue w));
        finishes = each_both (IsTrue w) (collect_packets me c held) (synced_packets me job.group job.view.number setting.layout.bricks 0) collects
            (each_synced (IsTrue w) me job.group job.view.number (λ to. tt) setting.layout.bricks 0);
        reads = λ attempt group kept.
            let d : Coordinator = read_call group (record job { attempt = attempt }) me now (read_closed me node known c answer seen held).node in
            each_both (IsTrue w) (collect_packets me c held) (phase_packets setting me d) collects (phase_true setting w me d);
      })
      (record {
        begins = λ s is d sends. phase_true setting w me d;
        ends = λ s is answer seen held ended.
            each_both (IsTrue w) (collect_packets me c held) [] (each_collect (IsTrue w) me c held (λ t to. tt)) (each_none (IsTrue w));
      })

  sync_true : (me : BrickId) (now : ℕ) (group : GroupId) → AreTrue w (synced_at setting me now (w.nodes me.0) group).packets
  sync_true me now group =
      synced_at_each (λ (step : NodeStep). AreTrue w step.packets) setting me now (w.nodes me.0) group (each_none (IsTrue w)) (λ answer. each_none (IsTrue w))
      (λ answer. each_none (IsTrue w)) (λ kept is. phase_true setting w me (read_call kept (begun_job group ((w.nodes me.0).learnt group.0).view) me now (w.nodes me.0)))

  scrub_true : (me : BrickId) (now : ℕ) (group : GroupId) (stripe : StripeNo) (members : List BrickId)
      → AreTrue w (scrubbed_at setting me now (w.nodes me.0) group stripe members).packets
  scrub_true me now group stripe members =
      scrubbed_at_each (λ (step : NodeStep). AreTrue w step.packets) setting me now (w.nodes me.0) group stripe members (each_none (IsTrue w))
      (λ kept is. phase_true setting w me (scrub_coordinator kept me now (w.nodes me.0) group stripe members))

  -- what is of views refuses nothing
  ballots_true : (packets : List Packet) → AreOfViews packets → AreTrue w packets
  ballots_true packets =
      of_views_each (IsTrue w) (λ from to group view. tt) (λ from to call ballot. tt) (λ from to call ballot members. tt) packets

  replied_true : (me : BrickId) (now : ℕ) (from : BrickId) (node : Node) (call : Call) (reply : Reply) (found : Option Coordinator)
      → AreTrue w (replied_at setting me now from node call reply found).packets
  replied_true me now from node call reply None =
      ballot_each (λ (step : NodeStep). AreTrue w step.packets) setting.layout me from (with_known node (known_after node.known reply)) call reply node.proposal
      (λ seq round proposal packets reports more are. ballots_true packets are)
  replied_true me now from node call reply (Some c) =
      carried_for_true me now node (known_after node.known reply) c (hearing c from reply (counts_at setting.layout.block c from.0 call reply))
      (on_reply setting.layout.block setting.code (fresh_stamp me c.stamp.view now node.boot (known_after node.known reply)) c from call reply)
      (job_reading node.job c.call.seq) (scrub_of node.scrub c.call.seq)

  heard_true : (me : BrickId) (now : ℕ) (from : BrickId) (call : Call) (reply : Reply) → AreTrue w (heard setting me now from (w.nodes me.0) call reply).packets
  heard_true me now from call reply =
      heard_each (λ (step : NodeStep). AreTrue w step.packets) setting me now from (w.nodes me.0) call reply (each_none (IsTrue w))
      (λ fit. replied_true me now from
      (node_taught_by setting.layout.block call.group.0 (with_round (w.nodes me.0) reply) (view_counted setting.layout from (w.nodes me.0) call reply)) call reply
      ((w.nodes me.0).calls call.seq))

  received_true : (now : ℕ) (from to : BrickId) (message : Message) → NodeViews setting.layout (w.nodes to.0)
      → MessageIsOf message → AreTrue w (received setting to now (w.nodes to.0) (record { from = from; to = to; message = message })).packets
  unfolding received
  received_true now from to (Message.Request call request) has is = requested_true to from call request has is
  received_true now from to (Message.Reply call reply) has is = heard_true to now from call reply
  received_true now from to (Message.Learn group view) has is = each_none (IsTrue w)
  received_true now from to message has is = each_none (IsTrue w)

  proposed_true : (me : BrickId) (group : GroupId) (members : List BrickId) → AreTrue w (proposed setting me (w.nodes me.0) group members).packets
  proposed_true me group members =
      proposed_each (λ (step : NodeStep). AreTrue w step.packets) setting me (w.nodes me.0) group members
      (λ seq round proposal packets reports more are. ballots_true packets are)

  invoked_true : (me : BrickId) (now : ℕ) (ask : Ask) → AreTrue w (invoked setting me now (w.nodes me.0) ask).packets
  unfolding invoked
  invoked_true me now ask = in_group (group_at setting.layout (w.nodes me.0) ask.group.0)
    where
      in_group : (z : Option Group) → AreTrue w (began setting me now (w.nodes me.0) ask z).packets
      in_group None = each_none (IsTrue w)
      in_group (Some group) = phase_true setting w me (new_coordinator group me now (w.nodes me.0) ask)

-- the packets of a next world: those that were, and more, of which what is refused is true in the world before
abbrev AddsTrue : World → World → Type 0
AddsTrue w next = Adds (IsTrue w) w next

-- every event adds packets that refuse truly
adds_cases : (setting : Setting) (w : World) → StampViews setting.layout w → EventCases setting w (AddsTrue w)
unfolding ticked
adds_cases setting w views = record {
  begins = λ brick ask may.
      record {
        more = (invoked setting brick (w.clocks brick.0) (w.nodes brick.0) ask).packets;
        packets = refl;
        each = invoked_true setting w brick (w.clocks brick.0) ask;
      };
  proposes = λ brick group members may.
      record {
        more = (proposed setting brick (w.nodes brick.0) group members).packets;
        packets = refl;
        each = proposed_true setting w brick group members;
      };
  syncs = λ brick group may.
      record {
        more = (synced_at setting brick (w.clocks brick.0) (w.nodes brick.0) group).packets;
        packets = refl;
        each = sync_true setting w brick (w.clocks brick.0) group;
      };
  scrubs = λ brick group stripe members may.
      record {
        more = (scrubbed_at setting brick (w.clocks brick.0) (w.nodes brick.0) group stripe members).packets;
        packets = refl;
        each = scrub_true setting w brick (w.clocks brick.0) group stripe members;
      };
  handles = λ number packet at up.
      record {
        more = (step_on setting w packet).packets;
        packets = refl;
        each = received_true setting w (w.clocks packet.to.0) packet.from packet.to packet.message (views.nodes packet.to.0)
            (let sent = packet_was_sent w number packet at in views.packets sent.0 packet sent.1);
      };
  sets = λ brick time is. adds_none (IsTrue w) w _ refl;
  ticks = λ brick up.
      record {
        more = ticked setting brick (w.nodes brick.0);
        packets = refl;
        each = each_tick (IsTrue w) setting brick (w.nodes brick.0).calls (λ k c is seat to. tt) (λ k c is later from to. tt) (w.nodes brick.0).job (w.nodes brick.0).scrub
            (w.nodes brick.0).seq (w.nodes brick.0).proposal
            (ballots_true setting w _ (resent_of_views brick (w.nodes brick.0).proposal));
      };
  stops = λ brick during up. adds_none (IsTrue w) w (world_stopped setting w brick during) refl;
  starts = λ brick openings found may. started_each (AddsTrue w) w brick openings (adds_none (IsTrue w) w _ refl) (adds_none (IsTrue w) w _ refl) found;
}

-- each refusal of a run was true when it was sent
pub refusals_true : (setting : Setting) (events : List Event) → RefusalsWereTrue setting (run setting events (first_world setting.layout))
refusals_true setting events k packet at =
    let sent : SentAt setting (λ w next. IsTrue w) events (run setting events (first_world setting.layout)) k packet
    = sent_at setting (λ w next. IsTrue w) adds events k packet at in
    (sent.sending, sent.fact)
  where
    adds : (earlier : List Event) (event : Event)
        → (let w = run setting earlier (first_world setting.layout) in AddsTrue w (happens setting w event))
    adds earlier event =
        let w : World = run setting earlier (first_world setting.layout) in
        happens_each (AddsTrue w) setting w (adds_cases setting w (always_views setting earlier)) (adds_none (IsTrue w) w w refl) event
