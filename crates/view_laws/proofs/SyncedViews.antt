-- What follows a view is chosen only once all stripes are said to be kept in that view.
use Rattle.view_laws.proofs.SyncReads.{synced_at_each, scrubbed_at_each}
use Rattle.std.proofs.Common.{◌≡◌, ℕ, ◌+◌, ◌-◌, ◌<◌, ◌≤◌, Bool, true, false, ◌⊎◌, inl, inr, ⊎_elim, List, [], ◌++◌, length, Option, Some, None, refl, sym, ◌∙◌, subst, arith, nat_lt, nat_eq}
use Rattle.std.specs.Prelude.{if◌then◌else◌}
use Rattle.std.specs.Option.{option_map}
use Rattle.std.proofs.lemmas.Bool.{cond_both, false≢true, eqb-true, ltb-true}
use Rattle.std.proofs.lemmas.List.{append-nil}
use Rattle.fab_base.specs.declared.identities.BrickId.{BrickId}
use Rattle.fab_base.specs.declared.identities.GroupId.{GroupId}
use Rattle.fab_base.specs.declared.identities.ViewNo.{ViewNo}
use Rattle.fab_base.specs.declared.member_lists.View.{View}
use Rattle.fab_base.specs.declared.stamps.Ballot.{Ballot}
use Rattle.fab_base.specs.Layouts.{Layout, Group, group_of, brick_at}
use Rattle.messages.specs.declared.calls.Call.{Call}
use Rattle.messages.specs.declared.packets.Message.{Message}
use Rattle.messages.specs.declared.packets.Packet.{Packet}
use Rattle.messages.specs.declared.requests.Request.{Request}
use Rattle.messages.specs.declared.replies.Reply.{Reply}
use Rattle.messages.specs.declared.replies.Reply.TheVariants.{Outbid, NotSynced}
use Rattle.quorum.specs.Memberships.{is_membership}
use Rattle.quorum.specs.Quorums.{IsWithinLimits, q_of}
use Rattle.quorum.proofs.Counts.{count_some}
use Rattle.synod_laws.specs.Synods.{Kept, last_of}
use Rattle.protocol.specs.Settings.{Setting}
use Rattle.protocol.specs.Views.{Learnt, is_later, learns, views_in, group_in}
use Rattle.protocol.specs.Ballots.{moved_to, outbidding, granting, unless_barred, voting}
use Rattle.protocol.specs.Coordinators.{Coordinator}
use Rattle.protocol.specs.Nodes.{Node, NodeStep, put, view_at, view_in, no_step, with_known, with_round, known_after, requested, vote_at, voted_on, with_learnt, node_taught, node_taught_by, may_teach, node_learnt, node_synced, view_counted, invoked, proposed, proposed_in, replied_at, replied, lists_fit, heard, received, absorbed, stopped, restarted, synced_at, scrubbed_at}
use Rattle.protocol.specs.Worlds.{World, Event, first_world, packet_during, left_after, vote_with, accepted_in, with_votes, world_stepped, run}
use Rattle.protocol.proofs.Events.{EventCases, step_on, world_counting, always, started_each}
use Rattle.protocol.proofs.Served.{request_each}
use Rattle.protocol.proofs.Tables.{put_each, get_kept}
use Rattle.view_laws.specs.Successors.{WasChosen, HasVoted, Succeeds, NamesAreChosenIn}
use Rattle.view_laws.specs.Syncs.{SyncsAreSaid}
use Rattle.view_laws.proofs.Agreeing.{KeepsViews}
use Rattle.view_laws.proofs.Agreements.{always_agreed, packet_sent, during_sent, invoked_keeps}
use Rattle.view_laws.proofs.CallSteps.{stepped_up}
use Rattle.view_laws.proofs.Followed.{below_known, group_of_name, every_run_follows}
use Rattle.view_laws.proofs.Histories.{view_world, IsSent, IsDecided, known_taught}
use Rattle.view_laws.proofs.Named.{every_name_is_chosen}
use Rattle.view_laws.proofs.Replying.{replied_keeps}
use Rattle.view_laws.proofs.Syncing.{synced_of, synced_each}

-- ---- bricks

-- a view of a group is said to be synced by these packets, or is view 1
abbrev IsSaid : List Packet → ℕ → ℕ → Type 0
IsSaid packets g e =
    (e ≡ 1)
    ⊎ ((from : BrickId) × (to : BrickId)
    × IsSent packets (record { from = from; to = to; message = Message.Synced (record { 0 = g }) (record { 0 = e }) }))

-- what is said stays said as more is sent
said_more : (packets more : List Packet) (g e : ℕ) → IsSaid packets g e → IsSaid (packets ++ more) g e
said_more packets more g e (inl one) = inl one
said_more packets more g e (inr (from, to, sent)) = inr (from, to, (sent.0, get_kept packets more sent.0 _ sent.1))

-- what a brick knows to be synced, and the view that it has accepted a list to follow, are said to be synced
pub record NodeSyncs (packets : List Packet) (node : Node) : Type 0 where
  pub synced : (g : ℕ) → (node.learnt g).synced ≡ true → IsSaid packets g (view_at node g)
  pub accepted : (g : ℕ) (last : Ballot × List BrickId) → last_of (node.ballots g) ≡ Some last → IsSaid packets g (view_at node g)

syncs_more : (packets more : List Packet) (node : Node) → NodeSyncs packets node → NodeSyncs (packets ++ more) node
syncs_more packets more node was = record {
  synced = λ g is. said_more packets more g (view_at node g) (was.synced g is);
  accepted = λ g last is. said_more packets more g (view_at node g) (was.accepted g last is);
}

-- a brick that keeps what it keeps of views
syncs_same : (packets : List Packet) (node next : Node) → KeepsViews node next → NodeSyncs packets node → NodeSyncs packets next
syncs_same packets node next same was = record {
  synced = subst (λ (l : ℕ → Learnt). (g : ℕ) → (l g).synced ≡ true → IsSaid packets g (l g).view.number.0) (sym same.0) was.synced;
  accepted = subst (λ (l : ℕ → Learnt). (g : ℕ) (last : Ballot × List BrickId) → last_of (next.ballots g) ≡ Some last → IsSaid packets g (l g).view.number.0) (sym same.0)
      (subst (λ (b : ℕ → Kept (List BrickId)). (g : ℕ) (last : Ballot × List BrickId) → last_of (b g) ≡ Some last → IsSaid packets g (view_at node g)) (sym same.1)
      was.accepted);
}

-- one that learns more of a group
syncs_learning : (packets : List Packet) (block g : ℕ) (node : Node) (learnt : Learnt) → NodeSyncs packets node
    → (learnt.synced ≡ true → IsSaid packets g learnt.view.number.0)
    → ((last : Ballot × List BrickId) → last_of (if nat_eq learnt.view.number.0 (view_at node g) then node.ballots g else None) ≡ Some last
    → IsSaid packets g learnt.view.number.0)
    → NodeSyncs packets (with_learnt block g node learnt)
syncs_learning packets block g node learnt was synced accepted = record {
  synced = put_each (λ h (l : Learnt). l.synced ≡ true → IsSaid packets h l.view.number.0) node.learnt g learnt synced (λ h other. was.synced h);
  accepted = λ h. by h;
}
  where
    next : Node
    next = with_learnt block g node learnt

    kept : Kept (List BrickId)
    kept = if nat_eq learnt.view.number.0 (view_at node g) then node.ballots g else None

    split : (h : ℕ) (t : Bool) → nat_eq h g ≡ t → (last : Ballot × List BrickId) → last_of (if t then kept else node.ballots h) ≡ Some last
        → IsSaid packets h (if t then learnt else node.learnt h).view.number.0
    split h true same last is = subst (λ (i : ℕ). IsSaid packets i learnt.view.number.0) (sym (eqb-true h g same)) (accepted last is)
    split h false other last is = was.accepted h last is

    by : (h : ℕ) (last : Ballot × List BrickId) → last_of (next.ballots h) ≡ Some last → IsSaid packets h (view_at next h)
    by h = split h (nat_eq h g) refl

-- a later view has not been accepted a list for
later_syncs : (packets : List Packet) (block g : ℕ) (node : Node) (view : View) → is_later (node.learnt g) view ≡ true → NodeSyncs packets node
    → NodeSyncs packets (with_learnt block g node (learns (node.learnt g) view))
unfolding learns
later_syncs packets block g node view later was =
    subst (λ (b : Bool). NodeSyncs packets (with_learnt block g node (if b then newly else node.learnt g))) (sym later)
    (syncs_learning packets block g node newly was (λ is. absurd (false≢true is)) (λ last is. absurd (none last is)))
  where
    newly : Learnt
    newly = record { view = view; synced = false }

    above : view_at node g < view.number.0
    above = ltb-true (view_at node g) view.number.0 later

    none : (last : Ballot × List BrickId) → last_of (if nat_eq view.number.0 (view_at node g) then node.ballots g else None) ≡ Some last → ⊥
    none last =
        cond_both (nat_eq view.number.0 (view_at node g)) (node.ballots g) None (λ (z : Kept (List BrickId)). last_of z ≡ Some last → ⊥)
        (λ same is. let equal = eqb-true view.number.0 (view_at node g) same in omega (arith, equal, above))
        (λ other is. let never : None ≡ Some last = is in cc)

taught_syncs : (packets : List Packet) (block g : ℕ) (node : Node) (view : Option View) → NodeSyncs packets node
    → NodeSyncs packets (node_taught_by block g node view)
unfolding node_taught
taught_syncs packets block g node None was = was
taught_syncs packets block g node (Some view) was =
    cond_both (is_later (node.learnt g) view) (with_learnt block g node (learns (node.learnt g) view)) node (λ (n : Node). NodeSyncs packets n)
    (λ later. later_syncs packets block g node view later was) (λ isnt. was)

learnt_syncs : (packets : List Packet) (layout : Layout) (node : Node) (group : GroupId) (view : View) → NodeSyncs packets node
    → NodeSyncs packets (node_learnt layout node group view)
unfolding node_learnt
learnt_syncs packets layout node group view was =
    cond_both (may_teach layout (Some view) (group_of layout group.0)) (node_taught layout.block group.0 node view) node (λ (n : Node). NodeSyncs packets n)
    (λ may. taught_syncs packets layout.block group.0 node (Some view) was) (λ isnt. was)

-- one that hears that a view is synced hears it from a message
synced_syncs : (packets : List Packet) (layout : Layout) (node : Node) (from to : BrickId) (group : GroupId) (number : ViewNo)
    → IsSent packets (record { from = from; to = to; message = Message.Synced group number }) → NodeSyncs packets node
    → NodeSyncs packets (node_synced layout node group number)
synced_syncs packets layout node from to group number sent was =
    synced_each (λ (n : Node). NodeSyncs packets n) layout node group number was
    (λ now unsynced.
    let said : IsSaid packets group.0 (view_at node group.0) = subst (λ (e : ℕ). IsSaid packets group.0 e) now (inr (from, to, sent)) in
    syncs_learning packets layout.block group.0 node (synced_of node group.0) was (λ is. said) (λ last is. said))

-- a vote leaves what was accepted last, unless the view is synced
vote_accepts : (view : ℕ) (learnt : Learnt) (kept : Kept (List BrickId)) (ballot : Ballot) (asks : Option (List BrickId)) (last : Ballot × List BrickId)
    → last_of (voting view learnt kept ballot asks).kept ≡ Some last → (last_of kept ≡ Some last) ⊎ (learnt.synced ≡ true)
unfolding voting
vote_accepts view learnt kept ballot asks last =
    cond_both (nat_lt view learnt.view.number.0) (Some (moved_to learnt.view))
    (if learnt.synced then option_map (λ greater. Outbid greater) (outbidding kept ballot) else Some NotSynced)
    (λ (z : Option Reply). last_of (unless_barred z kept (granting kept ballot asks)).kept ≡ Some last → (last_of kept ≡ Some last) ⊎ (learnt.synced ≡ true))
    (λ later is. inl is)
    (λ isnt. cond_both learnt.synced (option_map (λ greater. Outbid greater) (outbidding kept ballot)) (Some NotSynced)
    (λ (z : Option Reply). last_of (unless_barred z kept (granting kept ballot asks)).kept ≡ Some last → (last_of kept ≡ Some last) ⊎ (learnt.synced ≡ true))
    (λ synced is. inr synced) (λ unsynced is. inl is))

vote_syncs : (packets : List Packet) (me from : BrickId) (node : Node) (call : Call) (ballot : Ballot) (asks : Option (List BrickId)) → NodeSyncs packets node
    → NodeSyncs packets (voted_on me from node call (vote_at node call ballot asks)).node
vote_syncs packets me from node call ballot asks was = record {
  synced = was.synced;
  accepted = put_each (λ h (kept : Kept (List BrickId)). (last : Ballot × List BrickId) → last_of kept ≡ Some last → IsSaid packets h (view_at node h)) node.ballots
      call.group.0 (vote_at node call ballot asks).kept
      (λ last is. ⊎_elim
      (λ (before : last_of (node.ballots call.group.0) ≡ Some last). was.accepted call.group.0 last before)
      (λ (synced : (node.learnt call.group.0).synced ≡ true). was.synced call.group.0 synced)
      (vote_accepts call.view.0 (node.learnt call.group.0) (node.ballots call.group.0) ballot asks last is))
      (λ h other last is. was.accepted h last is);
}

requested_syncs : (packets : List Packet) (setting : Setting) (me from : BrickId) (node : Node) (call : Call) (request : Request) → NodeSyncs packets node
    → NodeSyncs packets (requested setting me from node call request).node
requested_syncs packets setting me from node call request was =
    request_each (λ (step : NodeStep). NodeSyncs packets step.node) setting me from node call request was (λ told is. was)
    (λ group seat at served. syncs_same packets node _ (refl, refl) was) (λ group ballot asks is. vote_syncs packets me from node call ballot asks was)

heard_syncs : (packets : List Packet) (setting : Setting) (me : BrickId) (now : ℕ) (from : BrickId) (node : Node) (call : Call) (reply : Reply)
    → NodeSyncs packets node → NodeSyncs packets (heard setting me now from node call reply).node
unfolding replied
heard_syncs packets setting me now from node call reply was =
    cond_both (lists_fit setting.layout call reply) (replied setting me now from node call reply)
    (no_step (with_known (with_round node reply) (known_after node.known reply))) (λ (step : NodeStep). NodeSyncs packets step.node)
    (λ fit. taught_syncs packets setting.layout.block call.group.0 (replied_at setting me now from (with_round node reply) call reply (node.calls call.seq)).node
    (view_counted setting.layout from node call reply)
    (syncs_same packets node _ (replied_keeps setting me now from node call reply (node.calls call.seq)) was))
    (λ isnt. syncs_same packets node _ (refl, refl) was)

-- a message that was sent
received_syncs : (packets : List Packet) (setting : Setting) (me : BrickId) (now : ℕ) (node : Node) (packet : Packet) → IsSent packets packet
    → NodeSyncs packets node → NodeSyncs packets (received setting me now node packet).node
unfolding received
received_syncs packets setting me now node packet sent was = by packet.message refl
  where
    by : (message : Message) → packet.message ≡ message
        → NodeSyncs packets (received setting me now node (record { from = packet.from; to = packet.to; message = message })).node
    by (Message.Request call request) is = requested_syncs packets setting me packet.from node call request was
    by (Message.Reply call reply) is = heard_syncs packets setting me now packet.from node call reply was
    by (Message.Learn group view) is = learnt_syncs packets setting.layout node group view was
    by (Message.Synced group number) is =
        synced_syncs packets setting.layout node packet.from packet.to group number
        (subst (λ (m : Message). IsSent packets (record { from = packet.from; to = packet.to; message = m })) is sent) was
    by (Message.Client ask) is = was
    by (Message.ClientReply id answer) is = was

absorbed_syncs : (packets : List Packet) (setting : Setting) (me : BrickId) (node : Node) (packet : Packet) → IsSent packets packet
    → NodeSyncs packets node → NodeSyncs packets (absorbed setting me node packet)
unfolding absorbed
absorbed_syncs packets setting me node packet sent was = by packet.message refl
  where
    by : (message : Message) → packet.message ≡ message
        → NodeSyncs packets (absorbed setting me node (record { from = packet.from; to = packet.to; message = message }))
    by (Message.Request call request) is = requested_syncs packets setting me packet.from node call request was
    by (Message.Reply call reply) is =
        cond_both (lists_fit setting.layout call reply)
        (node_taught_by setting.layout.block call.group.0 node (view_counted setting.layout packet.from node call reply)) node (λ (n : Node). NodeSyncs packets n)
        (λ fit. taught_syncs packets setting.layout.block call.group.0 node (view_counted setting.layout packet.from node call reply) was) (λ isnt. was)
    by (Message.Learn group view) is = learnt_syncs packets setting.layout node group view was
    by (Message.Synced group number) is =
        synced_syncs packets setting.layout node packet.from packet.to group number
        (subst (λ (m : Message). IsSent packets (record { from = packet.from; to = packet.to; message = m })) is sent) was
    by (Message.Client ask) is = was
    by (Message.ClientReply id answer) is = was

proposed_syncs : (packets : List Packet) (setting : Setting) (me : BrickId) (node : Node) (group : GroupId) (members : List BrickId) → NodeSyncs packets node
    → NodeSyncs packets (proposed setting me node group members).node
unfolding proposed
proposed_syncs packets setting me node group members was = by (group_of setting.layout group.0)
  where
    by : (z : Option Group) → NodeSyncs packets (proposed_in setting me node group members z).node
    by None = was
    by (Some kept) =
        cond_both (is_membership kept.m setting.layout.bricks members) _ _ (λ (step : NodeStep). NodeSyncs packets step.node)
        (λ may. syncs_same packets node _ (refl, refl) was) (λ isnt. was)

stopped_syncs : (packets : List Packet) (node : Node) → NodeSyncs packets node → NodeSyncs packets (stopped node)
unfolding stopped
stopped_syncs packets node was = syncs_same packets node _ (refl, refl) was

restarted_syncs : (packets : List Packet) (openings : ℕ) (node : Node) → NodeSyncs packets node → NodeSyncs packets (restarted openings node)
unfolding restarted
restarted_syncs packets openings node was = syncs_same packets node _ (refl, refl) was

left_syncs : (packets : List Packet) (setting : Setting) (brick : BrickId) (node : Node) (packet : Option Packet)
    → ((one : Packet) → packet ≡ Some one → IsSent packets one) → NodeSyncs packets node → NodeSyncs packets (left_after setting brick node packet)
left_syncs packets setting brick node None sent was = stopped_syncs packets node was
left_syncs packets setting brick node (Some packet) sent was =
    cond_both (nat_eq packet.to.0 brick.0) (stopped (absorbed setting brick node packet)) (stopped node) (λ (n : Node). NodeSyncs packets n)
    (λ here. stopped_syncs packets (absorbed setting brick node packet) (absorbed_syncs packets setting brick node packet (sent packet refl) was))
    (λ elsewhere. stopped_syncs packets node was)

-- ---- worlds

abbrev Votes : Type 0
Votes = ℕ → ℕ → ℕ → Ballot → Option (List BrickId)

-- each view that a list was accepted to follow is said to be synced
abbrev VotesSync : List Packet → Votes → Type 0
VotesSync packets votes = (i g e : ℕ) (ballot : Ballot) (members : List BrickId) → votes i g e ballot ≡ Some members → IsSaid packets g e

-- with what a brick has accepted last
votes_after : (packets : List Packet) (votes : Votes) (i : ℕ) (node : Node) → NodeSyncs packets node → VotesSync packets votes
    → VotesSync packets (with_votes votes i node)
votes_after packets votes i node node_is were =
    put_each (λ j (row : ℕ → ℕ → Ballot → Option (List BrickId)). (g e : ℕ) (ballot : Ballot) (members : List BrickId) → row g e ballot ≡ Some members → IsSaid packets g e)
    votes i (λ g e ballot. vote_with (votes i g e ballot) (accepted_in node g e) ballot)
    (λ g e ballot members. by g e ballot members (accepted_in node g e) refl) (λ j other. were j)
  where
    said : (g e : ℕ) (last : Ballot × List BrickId) → accepted_in node g e ≡ Some last → IsSaid packets g e
    said g e last =
        cond_both (nat_eq e (view_at node g)) (last_of (node.ballots g)) None (λ (z : Option (Ballot × List BrickId)). z ≡ Some last → IsSaid packets g e)
        (λ now is. subst (λ (f : ℕ). IsSaid packets g f) (sym (eqb-true e (view_at node g) now)) (node_is.accepted g last is))
        (λ other is. absurd (let never : None ≡ Some last = is in cc))

    by : (g e : ℕ) (ballot : Ballot) (members : List BrickId) (z : Option (Ballot × List BrickId)) → accepted_in node g e ≡ z
        → vote_with (votes i g e ballot) z ballot ≡ Some members → IsSaid packets g e
    by g e ballot members None at is = were i g e ballot members is
    by g e ballot members (Some last) at is = said g e last at

votes_more : (packets more : List Packet) (votes : Votes) → VotesSync packets votes → VotesSync (packets ++ more) votes
votes_more packets more votes were i g e ballot members is = said_more packets more g e (were i g e ballot members is)

pub record WorldSyncs (w : World) : Type 0 where
  pub nodes : (i : ℕ) → NodeSyncs w.packets (w.nodes i)
  pub after : (i : ℕ) → NodeSyncs w.packets (w.after i)
  pub votes : VotesSync w.packets w.choices.votes

-- a step of a brick
stepped_syncs : (setting : Setting) (w : World) (me : BrickId) (step : NodeStep) → NodeSyncs w.packets step.node → WorldSyncs w
    → WorldSyncs (world_stepped setting w me step)
stepped_syncs setting w me step node_is was =
    let more : List Packet = step.packets in record {
      nodes = put_each (λ i (n : Node). NodeSyncs (w.packets ++ more) n) w.nodes me.0 step.node (syncs_more w.packets more step.node node_is)
          (λ i other. syncs_more w.packets more (w.nodes i) (was.nodes i));
      after = subst (λ (after : ℕ → Node). (i : ℕ) → NodeSyncs (w.packets ++ more) (after i)) (sym (stepped_up setting w me step).1)
          (λ i. syncs_more w.packets more (w.after i) (was.after i));
      votes = votes_more w.packets more (with_votes w.choices.votes me.0 step.node) (votes_after w.packets w.choices.votes me.0 step.node node_is was.votes);
    }

syncs_cases : (setting : Setting) (w : World) → WorldSyncs w → EventCases setting w WorldSyncs
syncs_cases setting w was = record {
  begins = λ brick ask may.
      let step : NodeStep = invoked setting brick (w.clocks brick.0) (w.nodes brick.0) ask in
      let more : List Packet = step.packets in
      let node_is : NodeSyncs w.packets step.node
      = syncs_same w.packets (w.nodes brick.0) step.node (invoked_keeps setting brick (w.clocks brick.0) (w.nodes brick.0) ask) (was.nodes brick.0) in
      record {
        nodes = put_each (λ i (n : Node). NodeSyncs (w.packets ++ more) n) w.nodes brick.0 step.node (syncs_more w.packets more step.node node_is)
            (λ i other. syncs_more w.packets more (w.nodes i) (was.nodes i));
        after = λ i. syncs_more w.packets more (w.after i) (was.after i);
        votes = votes_more w.packets more w.choices.votes was.votes;
      };
  proposes = λ brick group members may.
      stepped_syncs setting w brick (proposed setting brick (w.nodes brick.0) group members)
      (proposed_syncs w.packets setting brick (w.nodes brick.0) group members (was.nodes brick.0)) was;
  syncs = λ brick group may.
      let step : NodeStep = synced_at setting brick (w.clocks brick.0) (w.nodes brick.0) group in
      stepped_syncs setting w brick step
      (synced_at_each (λ (made : NodeStep). NodeSyncs w.packets made.node) setting brick (w.clocks brick.0) (w.nodes brick.0) group (was.nodes brick.0)
      (λ answer. was.nodes brick.0) (λ answer. syncs_same w.packets (w.nodes brick.0) _ (refl, refl) (was.nodes brick.0))
      (λ kept is. syncs_same w.packets (w.nodes brick.0) _ (refl, refl) (was.nodes brick.0)))
      was;
  scrubs = λ brick group stripe members may.
      let step : NodeStep = scrubbed_at setting brick (w.clocks brick.0) (w.nodes brick.0) group stripe members in
      stepped_syncs setting w brick step
      (scrubbed_at_each (λ (made : NodeStep). NodeSyncs w.packets made.node) setting brick (w.clocks brick.0) (w.nodes brick.0) group stripe members
      (was.nodes brick.0) (λ kept is. syncs_same w.packets (w.nodes brick.0) _ (refl, refl) (was.nodes brick.0)))
      was;
  handles = λ number packet at up.
      stepped_syncs setting (world_counting setting w number packet) packet.to (step_on setting w packet)
      (received_syncs w.packets setting packet.to (w.clocks packet.to.0) (w.nodes packet.to.0) packet (packet_sent w.packets number packet at) (was.nodes packet.to.0))
      (record { nodes = was.nodes; after = was.after; votes = was.votes });
  sets = λ brick time is. record { nodes = was.nodes; after = was.after; votes = was.votes };
  ticks = λ brick up. record {
    nodes = λ i. syncs_more w.packets _ (w.nodes i) (was.nodes i);
    after = λ i. syncs_more w.packets _ (w.after i) (was.after i);
    votes = votes_more w.packets _ w.choices.votes was.votes;
  };
  stops = λ brick during up. record {
    nodes = put_each (λ i (n : Node). NodeSyncs w.packets n) w.nodes brick.0 (stopped (w.nodes brick.0))
        (stopped_syncs w.packets (w.nodes brick.0) (was.nodes brick.0)) (λ i other. was.nodes i);
    after = put_each (λ i (n : Node). NodeSyncs w.packets n) w.after brick.0 (left_after setting brick (w.nodes brick.0) (packet_during w.packets during))
        (left_syncs w.packets setting brick (w.nodes brick.0) (packet_during w.packets during) (λ one is. during_sent w.packets during one is) (was.nodes brick.0))
        (λ i other. was.after i);
    votes = was.votes;
  };
  starts = λ brick openings found may.
      let after : Node = w.after brick.0 in
      let nodes : (i : ℕ) → NodeSyncs w.packets (put w.nodes brick.0 after i)
      = put_each (λ i (n : Node). NodeSyncs w.packets n) w.nodes brick.0 after (was.after brick.0) (λ i other. was.nodes i) in
      started_each WorldSyncs w brick openings
      (record {
        nodes = put_each (λ i (n : Node). NodeSyncs w.packets n) w.nodes brick.0 (restarted openings (w.nodes brick.0))
            (restarted_syncs w.packets openings (w.nodes brick.0) (was.nodes brick.0)) (λ i other. was.nodes i);
        after = was.after;
        votes = was.votes;
      })
      (record {
        nodes = put_each (λ i (n : Node). NodeSyncs w.packets n) (put w.nodes brick.0 after) brick.0 (restarted openings (put w.nodes brick.0 after brick.0))
            (restarted_syncs w.packets openings (put w.nodes brick.0 after brick.0) (nodes brick.0)) (λ i other. nodes i);
        after = was.after;
        votes = votes_after w.packets w.choices.votes brick.0 after (was.after brick.0) was.votes;
      })
      found;
}

-- at first all bricks are in view 1, and have accepted nothing
first_syncs : (layout : Layout) → WorldSyncs (first_world layout)
first_syncs layout = record {
  nodes = λ i. record { synced = λ g is. inl refl; accepted = λ g last is. absurd (let never : None ≡ Some last = is in cc) };
  after = λ i. record { synced = λ g is. inl refl; accepted = λ g last is. absurd (let never : None ≡ Some last = is in cc) };
  votes = λ i g e ballot members is. absurd (let never : None ≡ Some members = is in cc);
}

pub always_syncs : (setting : Setting) (events : List Event) → WorldSyncs (run setting events (first_world setting.layout))
always_syncs setting = always WorldSyncs setting (first_syncs setting.layout) (syncs_cases setting)

-- ---- the law

-- a quorum has a member
some_quorum : (m n : ℕ) → IsWithinLimits m n → 1 ≤ q_of m n
some_quorum m n limits =
    let block = limits.some_block in
    let seats = limits.enough_seats in
    omega (arith, block, seats)

-- so what follows a view is said to follow a synced one
pub syncs_are_said : SyncsAreSaid
syncs_are_said setting events sound = record {
  synced = λ brick number is. (syncs.nodes brick).synced number is;
  voted = voted;
  chosen = chosen;
  taught = λ from to number view sent. follows number.0 view (names.taught from to number view sent);
  called = called;
  learnt = learnt;
}
  where
    w : World
    w = run setting events (first_world setting.layout)

    syncs : WorldSyncs (run setting events (first_world setting.layout))
    syncs = always_syncs setting events

    names : NamesAreChosenIn setting.layout w
    names = every_name_is_chosen setting events sound

    voted : (number view brick : ℕ) → HasVoted w number view brick → IsSaid w.packets number view
    voted number view brick vote = syncs.votes brick number view vote.ballot vote.members vote.accepted

    chosen : (number view : ℕ) (group : Group) (members : List BrickId) → group_in setting.layout (views_in setting.layout w.packets) number view ≡ Some group
        → WasChosen w number view group members → IsSaid w.packets number view
    chosen number view group members found was =
        let limits = (every_run_follows setting events sound events [] (sym (append-nil events))).limits number view group found in
        let many = was.many in
        let one = some_quorum group.m (length group.members) limits in
        let seat = count_some (length group.members) was.seats (omega (arith, one, many)) in
        voted number view (brick_at group seat.0)
        (record { ballot = was.ballot; members = members; accepted = was.accepted seat.0 seat.1 seat.2 })

    follows : (number : ℕ) (view : View) → Succeeds setting.layout w number view → IsSaid w.packets number (view.number.0 - 1)
    follows number view after =
        let next = after.next in
        let before : after.before ≡ view.number.0 - 1 = omega (arith, next) in
        subst (λ (e : ℕ). IsSaid w.packets number e) before (chosen number after.before after.group view.members after.group_is after.chosen)

    -- a view that was decided follows a view that is said to be synced
    decided_follows : (number : ℕ) (view : View) → IsDecided setting.layout (view_world w) number view → IsSaid w.packets number (view.number.0 - 1)
    decided_follows number view decided =
        let next = decided.next in
        let before : decided.before.number.0 ≡ view.number.0 - 1 = omega (arith, next) in
        subst (λ (e : ℕ). IsSaid w.packets number e) before
        (chosen number decided.before.number.0 decided.group view.members
        (group_of_name setting.layout w.packets number decided.before.number.0 decided.before decided.named ∙ decided.group_is)
        (record { ballot = decided.ballot; seats = decided.chosen.0; many = decided.chosen.1; accepted = decided.chosen.2 }))

    -- an open operation's view has a name
    called : (brick k : ℕ) (c : Coordinator) → (w.nodes brick).calls k ≡ Some c → 1 < c.stamp.view.0 → IsSaid w.packets c.call.group.0 (c.stamp.view.0 - 1)
    called brick k c is above =
        let agreement = always_agreed setting sound events in
        decided_follows c.call.group.0 (view_in c)
        (known_taught setting.layout (view_world w) c.call.group.0 (view_in c) agreement.agreed.says (agreement.drafting.calls brick k c is) above).1

    -- and so has the view after each one before a brick's
    learnt : (brick number view : ℕ) → 1 ≤ view → view < view_at (w.nodes brick) number → IsSaid w.packets number view
    learnt brick number view some before =
        let agreed = (always_agreed setting sound events).agreed in
        let next = below_known setting.layout (view_world w) number view (view_at (w.nodes brick) number - (view + 1)) ((w.nodes brick).learnt number).view agreed some
        (omega (arith, before)) (agreed.learnt brick number) in
        let after : next.0.number.0 ≡ view + 1 = next.2 in
        let same : next.0.number.0 - 1 ≡ view = omega (arith, after) in
        subst (λ (e : ℕ). IsSaid w.packets number e) same
        (decided_follows number next.0
        (known_taught setting.layout (view_world w) number next.0 agreed.says next.1 (omega (arith, after, some))).1)
