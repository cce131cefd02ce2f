-- A brick that has closed a view keeps it closed, takes nothing for a stripe of it, and serves it no more.
use Rattle.view_laws.proofs.SyncReads.{carried_each, synced_at_each, scrubbed_at_each, each_synced, each_tick, read_call}
use Rattle.protocol.specs.Jobs.{Job, begun_job}
use Rattle.protocol.specs.Scrubs.{Scrub}
use Rattle.fab_base.specs.declared.identities.ViewNo.{ViewNo}
use Rattle.view_laws.proofs.Syncing.{synced_each, synced_of}
use Rattle.std.proofs.Common.{◌≡◌, ℕ, zero, suc, ◌+◌, ◌-◌, ◌<◌, ◌≤◌, Bool, true, false, ◌&&◌, ◌||◌, ◌⊎◌, inl, inr, ⊎_elim, List, [], ◌∷◌, Option, Some, None, refl, sym, ap, ◌∙◌, subst, arith, nat_lt, nat_eq, is_some}
use Rattle.std.specs.Prelude.{slice_get, filter, ◌^◌}
use Rattle.std.specs.Option.{option_map}
use Rattle.std.proofs.lemmas.Bool.{cond_both, and_parts, and_from, or_left, or_right, or_cases, false≢true, eqb-true}
use Rattle.std.proofs.lemmas.Bool.Decides.{nat_tests}
use Rattle.std.proofs.lemmas.Option.{same_Some}
use Rattle.fab_base.specs.declared.identities.BrickId.{BrickId}
use Rattle.fab_base.specs.declared.identities.GroupId.{GroupId}
use Rattle.fab_base.specs.declared.identities.StripeNo.{StripeNo}
use Rattle.fab_base.specs.declared.member_lists.View.{View}
use Rattle.fab_base.specs.declared.stamps.Ballot.{Ballot}
use Rattle.fab_base.specs.declared.stamps.Stamp.{Stamp}
use Rattle.fab_base.specs.declared.asks.Ask.{Ask}
use Rattle.fab_base.specs.Layouts.{Layout, Group, group_of}
use Rattle.messages.specs.declared.calls.Call.{Call}
use Rattle.messages.specs.declared.packets.Message.{Message}
use Rattle.messages.specs.declared.packets.Packet.{Packet}
use Rattle.messages.specs.declared.requests.Request.{Request}
use Rattle.messages.specs.declared.replies.Reply.{Reply}
use Rattle.messages.specs.declared.replies.Reply.TheVariants as reply
use Rattle.quorum.specs.Memberships.{is_membership}
use Rattle.synod_laws.specs.Synods.{Kept, last_of}
use Rattle.protocol.specs.declared.tellings.ViewAnswer.{ViewAnswer}
use Rattle.protocol.specs.declared.tellings.ViewAnswer.TheVariants as answer
use Rattle.protocol.specs.Settings.{Setting}
use Rattle.protocol.specs.Views.{Learnt, first_kept, is_later, learns}
use Rattle.protocol.specs.Replicas.{Replica, Reaction, fresh_replica, is_held, ignored, collected, handle, newest_of, under}
use Rattle.protocol.specs.Ballots.{moved_to, outbidding, granting, unless_barred, voting}
use Rattle.protocol.specs.Proposals.{Proposal, Voting, Ignored, Waited, Asks, Ended, voted}
use Rattle.protocol.specs.Coordinators.{Coordinator, Next, Ignores, Waits, Sends, Makes, Ends, request_of, hearing, counts_at, on_reply, asked_group}
use Rattle.protocol.specs.Nodes.{Node, NodeStep, view_at, has_accepted, put, no_step, sending, with_known, with_round, known_after, fresh_stamp, group_at, began, invoked, phase_packets, replica_at, full_at, moved_at, vote_at, voted_on, requested, with_learnt, node_taught, node_taught_by, may_teach, node_learnt, view_counted, carried_out, ended_packets, carried_ballot, replied_ballot, replied_at, replied, lists_fit, heard, received, absorbed, ticked, new_proposal, proposing, proposed_in, proposed, stopped, restarted, node_synced, old_reply, new_coordinator, synced_at, carried_for, job_reading, scrub_of, scrub_coordinator, scrubbed_at, collect_packets, read_closed, synced_packets}
use Rattle.protocol.specs.Worlds.{World, Event, first_brick, first_world, is_up, packet_during, left_after, world_stepped, run}
use Rattle.protocol.proofs.Events.{EventCases, step_on, world_counting, always, started_each}
use Rattle.protocol.proofs.Packets.{OfEach, each_none, each_both, each_member, each_collect, each_reply, each_learn, each_ballot, each_ballot_resent}
use Rattle.protocol.proofs.Served.{IsCollect, IsServed, request_each, parts_each, IsTold, TellsOld}
use Rattle.protocol.proofs.Tables.{put_each, put_twice}
use Rattle.view_laws.specs.Successors.{has_closed, IsKeptIn, TakesNothing, is_serving}
use Rattle.view_laws.proofs.Agreeing.{StaysAt, VotesAt, LearnsAt, Turn}
use Rattle.view_laws.proofs.CallSteps.{up_not_down, stepped_up, left_stays, left_more, left_fewer}

-- ---- parts

-- a part that is as it was took nothing
takes_same : (fresh part : Replica) → TakesNothing fresh part part
takes_same fresh part = record { order = inl refl; log = λ version kept. inl kept }

-- nor did one that was dropped
takes_fresh : (fresh part : Replica) → TakesNothing fresh part fresh
takes_fresh fresh part = record { order = inr refl; log = λ version kept. inr kept }

-- nor did one that took nothing, and nothing again
pub takes_on : (fresh a b c : Replica) → TakesNothing fresh a b → TakesNothing fresh b c → TakesNothing fresh a c
takes_on fresh a b c one two = record {
  order = ⊎_elim
      (λ (same : c.order ≡ b.order).
      ⊎_elim (λ (was : b.order ≡ a.order). inl (same ∙ was)) (λ (new : b.order ≡ fresh.order). inr (same ∙ new)) one.order)
      (λ (new : c.order ≡ fresh.order). inr new)
      two.order;
  log = λ version kept. ⊎_elim
      (λ (was : IsKeptIn b version). one.log version was)
      (λ (new : IsKeptIn fresh version). inr new)
      (two.log version kept);
}

-- what is one of a list is one of a longer
one_later : {A : Type 0} (xs : List A) (x y : A) → (j : ℕ) × (slice_get xs j ≡ Some x) → (j : ℕ) × (slice_get (y ∷ xs) j ≡ Some x)
one_later xs x y found = (suc found.0, found.1)

-- the first, or one of the rest, is one of all
one_of : {A : Type 0} (rest xs : List A) (x y : A) → ((k : ℕ) → slice_get rest k ≡ Some x → (j : ℕ) × (slice_get xs j ≡ Some x)) → (k : ℕ)
    → slice_get (y ∷ rest) k ≡ Some x → (j : ℕ) × (slice_get (y ∷ xs) j ≡ Some x)
one_of rest xs x y others zero at = (0, at)
one_of rest xs x y others (suc k) at = one_later xs x y (others k at)

-- what a filter leaves was there
filter_kept : {A : Type 0} (f : A → Bool) (xs : List A) (x : A) (k : ℕ) → slice_get (filter f xs) k ≡ Some x → (j : ℕ) × (slice_get xs j ≡ Some x)
filter_kept f [] x k is = absurd (let never : None ≡ Some x = is in cc)
filter_kept {A = A} f (y ∷ xs) x k is =
    cond_both (f y) (y ∷ filter f xs) (filter f xs) (λ (l : List A). slice_get l k ≡ Some x → (j : ℕ) × (slice_get (y ∷ xs) j ≡ Some x))
    (λ stays at. one_of (filter f xs) xs x y (filter_kept f xs x) k at) (λ goes at. one_later xs x y (filter_kept f xs x k at)) is

-- a part that drops versions takes nothing
collected_takes : (fresh replica : Replica) (t : Stamp) → TakesNothing fresh replica (collected replica t).replica
collected_takes fresh replica t =
    cond_both (is_held t replica.log) _ (ignored replica) (λ (z : Reaction). TakesNothing fresh replica z.replica)
    (λ held. record { order = inl refl; log = λ version kept. inl (filter_kept _ replica.log version kept.0 kept.1) }) (λ isnt. takes_same fresh replica)

-- and it replies nothing
collected_silent : (replica : Replica) (t : Stamp) → (collected replica t).reply ≡ None
collected_silent replica t = cond_both (is_held t replica.log) _ (ignored replica) (λ (z : Reaction). z.reply ≡ None) (λ held. refl) (λ isnt. refl)

-- of each part of a view that a brick has closed, nothing was taken
abbrev pub PartsTake : Layout → Node → Node → Type 0
PartsTake layout node next =
    (g e s : ℕ) → has_closed node g e ≡ true → TakesNothing (fresh_replica layout.block e) (node.replicas g e s) (next.replicas g e s)

-- where all parts are as they were
pub parts_same : (layout : Layout) (node next : Node) → next.replicas ≡ node.replicas → PartsTake layout node next
parts_same layout node next same g e s closed =
    subst (λ (t : ℕ → ℕ → ℕ → Replica). TakesNothing (fresh_replica layout.block e) (node.replicas g e s) (t g e s)) (sym same)
    (takes_same (fresh_replica layout.block e) (node.replicas g e s))

-- a brick that serves a call's view has not closed it, so it drops versions
closed_collects : (layout : Layout) (me : BrickId) (node : Node) (call : Call) (request : Request) (group : Group) (seat : ℕ)
    → IsServed layout me node call request group seat → has_closed node call.group.0 call.view.0 ≡ true → IsCollect request
closed_collects layout me node call request group seat served closed = ⊎_elim
    (λ (free : has_accepted node call.group.0 ≡ false).
    absurd (⊎_elim
    (λ (later : nat_lt call.view.0 (view_at node call.group.0) ≡ true). let same = served.view in omega (arith, same, above call.view.0 later))
    (λ (now : (nat_eq call.view.0 (view_at node call.group.0) && has_accepted node call.group.0) ≡ true).
    false≢true (sym free ∙ (and_parts (nat_eq call.view.0 (view_at node call.group.0)) (has_accepted node call.group.0) now).1))
    (or_cases (nat_lt call.view.0 (view_at node call.group.0)) (nat_eq call.view.0 (view_at node call.group.0) && has_accepted node call.group.0) closed)))
    (λ (collects : IsCollect request). collects)
    served.free
  where
    above : (e : ℕ) → nat_lt e (view_at node call.group.0) ≡ true → e < view_at node call.group.0
    above e later = grind (arith, nat_tests, later)

-- a request has a brick take nothing for a view that it has closed
requested_takes : (setting : Setting) (me from : BrickId) (node : Node) (call : Call) (request : Request)
    → PartsTake setting.layout node (requested setting me from node call request).node
unfolding handle
requested_takes setting me from node call request =
    request_each (λ (step : NodeStep). PartsTake setting.layout node step.node) setting me from node call request (parts_same setting.layout node node refl)
    (λ said is. parts_same setting.layout node node refl)
    (λ group seat at served g e s.
    parts_each (λ h f r part. has_closed node h f ≡ true → TakesNothing (fresh_replica setting.layout.block f) (node.replicas h f r) part) node call
    (handle setting.code group.m (full_at setting.layout.records node.live) seat (replica_at node call) request)
    (λ closed.
    let collects = closed_collects setting.layout me node call request group seat served closed in
    subst (λ (z : Request).
    TakesNothing (fresh_replica setting.layout.block call.view.0) (replica_at node call)
    (handle setting.code group.m (full_at setting.layout.records node.live) seat (replica_at node call) z).replica) (sym collects.1)
    (collected_takes (fresh_replica setting.layout.block call.view.0) (replica_at node call) collects.0))
    (λ h f r closed. takes_same (fresh_replica setting.layout.block f) (node.replicas h f r)) g e s)
    (λ group ballot asks is. parts_same setting.layout node (voted_on me from node call (vote_at node call ballot asks)).node refl)

-- so does a view that it learns, for it may drop what it kept
taught_takes : (layout : Layout) (g : ℕ) (node mid : Node) (view : Option View) → mid.replicas ≡ node.replicas
    → PartsTake layout node (node_taught_by layout.block g mid view)
unfolding node_taught
taught_takes layout g node mid None same = parts_same layout node mid same
taught_takes layout g node mid (Some view) same =
    cond_both (is_later (mid.learnt g) view) (with_learnt layout.block g mid (learns (mid.learnt g) view)) mid (λ (n : Node). PartsTake layout node n)
    (λ later.
    put_each
    (λ h (t : ℕ → ℕ → Replica). (e s : ℕ) → has_closed node h e ≡ true → TakesNothing (fresh_replica layout.block e) (node.replicas h e s) (t e s))
    mid.replicas g _
    (λ e s closed.
    cond_both (nat_lt e (first_kept (learns (mid.learnt g) view))) (fresh_replica layout.block e) (mid.replicas g e s)
    (λ (z : Replica). TakesNothing (fresh_replica layout.block e) (node.replicas g e s) z)
    (λ dropped. takes_fresh (fresh_replica layout.block e) (node.replicas g e s))
    (λ kept. parts_same layout node mid same g e s closed))
    (λ h other e s closed. parts_same layout node mid same h e s closed))
    (λ isnt. parts_same layout node mid same)

-- so does one that a message teaches
learnt_takes : (layout : Layout) (node : Node) (group : GroupId) (view : View) → PartsTake layout node (node_learnt layout node group view)
unfolding node_learnt
learnt_takes layout node group view =
    cond_both (may_teach layout (Some view) (group_of layout group.0)) (node_taught layout.block group.0 node view) node (λ (n : Node). PartsTake layout node n)
    (λ may. taught_takes layout group.0 node node (Some view) refl) (λ isnt. parts_same layout node node refl)

-- so does a message that all stripes are kept in a view, for it may drop what it kept before that
synced_takes : (layout : Layout) (node : Node) (group : GroupId) (number : ViewNo) → PartsTake layout node (node_synced layout node group number)
synced_takes layout node group number =
    synced_each (λ (n : Node). PartsTake layout node n) layout node group number (parts_same layout node node refl)
    (λ now unsynced. put_each
    (λ h (t : ℕ → ℕ → Replica). (e s : ℕ) → has_closed node h e ≡ true → TakesNothing (fresh_replica layout.block e) (node.replicas h e s) (t e s))
    node.replicas group.0 _
    (λ e s closed.
    cond_both (nat_lt e (first_kept (synced_of node group.0))) (fresh_replica layout.block e) (node.replicas group.0 e s)
    (λ (z : Replica). TakesNothing (fresh_replica layout.block e) (node.replicas group.0 e s) z)
    (λ dropped. takes_fresh (fresh_replica layout.block e) (node.replicas group.0 e s))
    (λ kept. takes_same (fresh_replica layout.block e) (node.replicas group.0 e s)))
    (λ h other e s closed. takes_same (fresh_replica layout.block e) (node.replicas h e s)))

-- and so does what is kept of a message whose handling was cut short
absorbed_takes : (setting : Setting) (me : BrickId) (node : Node) (packet : Packet) → PartsTake setting.layout node (absorbed setting me node packet)
unfolding absorbed
absorbed_takes setting me node packet = by packet.message
  where
    by : (message : Message) → PartsTake setting.layout node (absorbed setting me node (record { from = packet.from; to = packet.to; message = message }))
    by (Message.Request call request) = requested_takes setting me packet.from node call request
    by (Message.Reply call said) =
        cond_both (lists_fit setting.layout call said)
        (node_taught_by setting.layout.block call.group.0 node (view_counted setting.layout packet.from node call said)) node
        (λ (n : Node). PartsTake setting.layout node n)
        (λ fit. taught_takes setting.layout call.group.0 node node (view_counted setting.layout packet.from node call said) refl)
        (λ isnt. parts_same setting.layout node node refl)
    by (Message.Learn group view) = learnt_takes setting.layout node group view
    by (Message.Synced group number) = synced_takes setting.layout node group number
    by (Message.Client ask) = parts_same setting.layout node node refl
    by (Message.ClientReply id answered) = parts_same setting.layout node node refl

-- ---- replies

-- a packet of a brick is no reply that serves a view that it has closed
abbrev pub ServesNone : BrickId → Node → Packet → Type 0
ServesNone me node packet =
    (call : Call) (said : Reply) → packet.message ≡ Message.Reply call said
    → (packet.from ≡ me) × (has_closed node call.group.0 call.view.0 ≡ true → is_serving said ≡ false)

-- replies that are equal are of one call
same_reply : (call other : Call) (one two : Reply) → Message.Reply call one ≡ Message.Reply other two → (call ≡ other) × (one ≡ two)
same_reply call other one two is = (cc, cc)

-- a reply of a brick
reply_serves : (me to : BrickId) (node : Node) (call : Call) (said : Reply) → (has_closed node call.group.0 call.view.0 ≡ true → is_serving said ≡ false)
    → ServesNone me node (record { from = me; to = to; message = Message.Reply call said })
reply_serves me to node call said never other two is =
    let parts = same_reply call other said two is in (
      refl,
      (λ closed. subst (λ (z : Reply). is_serving z ≡ false) parts.1
          (never (subst (λ (z : Call). has_closed node z.group.0 z.view.0 ≡ true) (sym parts.0) closed))),
    )

-- a request, and a message that teaches a view, are no replies
request_serves : (me from to : BrickId) (node : Node) (call : Call) (request : Request)
    → ServesNone me node (record { from = from; to = to; message = Message.Request call request })
request_serves me from to node call request other said is = cc

-- nor is a message that teaches a view
learn_serves : (me from to : BrickId) (node : Node) (group : GroupId) (view : View)
    → ServesNone me node (record { from = from; to = to; message = Message.Learn group view })
learn_serves me from to node group view other said is = cc

-- that a brick moved serves nothing
moved_serves : (node : Node) (call : Call) (said : Reply) → moved_at node call ≡ Some said → is_serving said ≡ false
moved_serves node call said =
    cond_both (nat_lt call.view.0 (view_at node call.group.0)) (Some (moved_to (node.learnt call.group.0).view)) _
    (λ (z : Option Reply). z ≡ Some said → is_serving said ≡ false)
    (λ later some. ap is_serving (sym (same_Some (moved_to (node.learnt call.group.0).view) said some)))
    (λ isnt.
    cond_both (has_accepted node call.group.0) (Some (reply.Moved (record { 0 = call.view.0 + 1 }) None)) None
    (λ (z : Option Reply). z ≡ Some said → is_serving said ≡ false)
    (λ has some. ap is_serving (sym (same_Some (reply.Moved (record { 0 = call.view.0 + 1 }) None) said some)))
    (λ hasnt none. absurd (let never : None ≡ Some said = none in cc)))

-- nor does what it keeps in a view
old_serves : (node : Node) (call : Call) (bound : Option Stamp) (said : Reply) → old_reply node call bound ≡ Some said → is_serving said ≡ false
old_serves node call bound said =
    cond_both (nat_lt call.view.0 (first_kept (node.learnt call.group.0))) (Some reply.Retired) _ Serves
    (λ dropped some. ap is_serving (sym (same_Some reply.Retired said some)))
    (λ kept.
    cond_both (is_some (moved_at node call)) (Some (reply.Old (newest_of (under bound (replica_at node call).log)))) None Serves
    (λ moved some. ap is_serving (sym (same_Some (reply.Old (newest_of (under bound (replica_at node call).log))) said some)))
    (λ serves none. absurd (let never : None ≡ Some said = none in cc)))
  where
    Serves : Option Reply → Type 0
    Serves z = z ≡ Some said → is_serving said ≡ false

-- so nothing that a brick tells without a change serves anything
told_serves : (node : Node) (call : Call) (request : Request) (said : Reply) → IsTold node call request said → is_serving said ≡ false
told_serves node call request said is = ⊎_elim
    (λ (moved : moved_at node call ≡ Some said). moved_serves node call said moved)
    (λ (old : TellsOld node call request said). old_serves node call old.bound said old.says)
    is

-- nor does a vote
vote_serves : (node : Node) (call : Call) (ballot : Ballot) (asks : Option (List BrickId)) → is_serving (vote_at node call ballot asks).reply ≡ false
unfolding voting
vote_serves node call ballot asks =
    cond_both (nat_lt call.view.0 (node.learnt call.group.0).view.number.0) (Some (moved_to (node.learnt call.group.0).view)) _
    (λ (z : Option Reply).
    is_serving (unless_barred z (node.ballots call.group.0) (granting (node.ballots call.group.0) ballot asks)).reply ≡ false)
    (λ later. refl)
    (λ isnt.
    cond_both (node.learnt call.group.0).synced (option_map (λ greater. reply.Outbid greater) (outbidding (node.ballots call.group.0) ballot))
    (Some reply.NotSynced)
    (λ (z : Option Reply).
    is_serving (unless_barred z (node.ballots call.group.0) (granting (node.ballots call.group.0) ballot asks)).reply ≡ false)
    (λ synced. outbid (outbidding (node.ballots call.group.0) ballot) asks) (λ unsynced. refl))
  where
    outbid : (z : Option Ballot) (named : Option (List BrickId))
        → is_serving (unless_barred (option_map (λ greater. reply.Outbid greater) z) (node.ballots call.group.0)
        (granting (node.ballots call.group.0) ballot named)).reply ≡ false
    outbid None None = refl
    outbid None (Some members) = refl
    outbid (Some greater) named = refl

-- so no request has a brick serve a view that it has closed
requested_serves : (setting : Setting) (me from : BrickId) (node : Node) (call : Call) (request : Request)
    → OfEach (ServesNone me node) (requested setting me from node call request).packets
unfolding handle
requested_serves setting me from node call request =
    request_each (λ (step : NodeStep). OfEach (ServesNone me node) step.packets) setting me from node call request (each_none (ServesNone me node))
    (λ said is. each_reply (ServesNone me node) me from call (Some said)
    (λ one same. reply_serves me from node call one (λ closed. subst (λ (z : Reply). is_serving z ≡ false) (same_Some said one same) (told_serves node call request said is))))
    (λ group seat at served.
    each_reply (ServesNone me node) me from call
    (handle setting.code group.m (full_at setting.layout.records node.live) seat (replica_at node call) request).reply
    (λ one same. reply_serves me from node call one
    (λ closed.
    let collects = closed_collects setting.layout me node call request group seat served closed in
    absurd (let never : None ≡ Some one
    = sym (ap (λ (z : Request). (handle setting.code group.m (full_at setting.layout.records node.live) seat (replica_at node call) z).reply) collects.1
    ∙ collected_silent (replica_at node call) collects.0) ∙ same in cc))))
    (λ group ballot asks is. each_reply (ServesNone me node) me from call (Some (vote_at node call ballot asks).reply)
    (λ one same. reply_serves me from node call one
    (λ closed. subst (λ (z : Reply). is_serving z ≡ false) (same_Some (vote_at node call ballot asks).reply one same) (vote_serves node call ballot asks))))

-- ---- steps

-- what a step of a brick leaves of what it has closed: its parts, and what it sends
pub record StepCloses (layout : Layout) (me : BrickId) (node next : Node) (new : List Packet) : Type 0 where
  pub takes : PartsTake layout node next
  pub tells : OfEach (ServesNone me node) new

-- a step that keeps parts, and sends requests
sends_closes : (layout : Layout) (me : BrickId) (node next : Node) (new : List Packet) → next.replicas ≡ node.replicas → OfEach (ServesNone me node) new
    → StepCloses layout me node next new
sends_closes layout me node next new same tells = record { takes = parts_same layout node next same; tells = tells }

-- what a phase of an operation sends is no reply
phase_serves : (setting : Setting) (me : BrickId) (node : Node) (c : Coordinator) → OfEach (ServesNone me node) (phase_packets setting me c)
phase_serves setting me node c =
    each_member (ServesNone me node) me c.call (request_of setting.code c) (λ seat to. request_serves me me to node c.call (request_of setting.code c seat)) 0
    (asked_group c).members

-- an operation begins
pub invoked_closes : (setting : Setting) (me : BrickId) (now : ℕ) (node : Node) (ask : Ask)
    → (let step = invoked setting me now node ask in StepCloses setting.layout me node step.node step.packets)
unfolding invoked
invoked_closes setting me now node ask = by (group_at setting.layout node ask.group.0)
  where
    by : (z : Option Group) → (let step = began setting me now node ask z in StepCloses setting.layout me node step.node step.packets)
    by None = sends_closes setting.layout me node node [] refl (each_none (ServesNone me node))
    by (Some group) = sends_closes setting.layout me node _ _ refl (phase_serves setting me node (new_coordinator group me now node ask))

-- a proposal begins
pub proposed_closes : (setting : Setting) (me : BrickId) (node : Node) (group : GroupId) (members : List BrickId)
    → (let step = proposed setting me node group members in StepCloses setting.layout me node step.node step.packets)
unfolding proposed
proposed_closes setting me node group members = by (group_of setting.layout group.0)
  where
    quiet : StepCloses setting.layout me node node []
    quiet = sends_closes setting.layout me node node [] refl (each_none (ServesNone me node))

    by : (z : Option Group) → (let step = proposed_in setting me node group members z in StepCloses setting.layout me node step.node step.packets)
    by None = quiet
    by (Some kept) =
        cond_both (is_membership kept.m setting.layout.bricks members)
        (sending (proposing node (new_proposal me node kept.m group members)) _) _
        (λ (step : NodeStep). StepCloses setting.layout me node step.node step.packets)
        (λ may. sends_closes setting.layout me node (proposing node (new_proposal me node kept.m group members)) _ refl
        (each_ballot (ServesNone me node) me (new_proposal me node kept.m group members)
        (λ to. request_serves me me to node (new_proposal me node kept.m group members).call _)))
        (λ isnt. quiet)

-- what an operation decided is carried out
carried_closes : (setting : Setting) (me : BrickId) (node mid : Node) (known : ℕ) (c : Coordinator) (decision : Next) → mid.replicas ≡ node.replicas
    → (let step = carried_out setting me mid known c decision in
    (step.node.replicas ≡ node.replicas) × OfEach (ServesNone me node) step.packets)
carried_closes setting me node mid known c Ignores same = (same, each_none (ServesNone me node))
carried_closes setting me node mid known c (Waits d) same = (same, each_none (ServesNone me node))
carried_closes setting me node mid known c (Sends d) same = (same, phase_serves setting me node d)
carried_closes setting me node mid known c (Makes d) same = (same, phase_serves setting me node d)
carried_closes setting me node mid known c (Ends answered seen stored) same =
    (same, each_collect (ServesNone me node) me c stored (λ t to. request_serves me me to node c.call (Request.Collect t)))

-- nor is a message that all stripes are kept in a view a reply
synced_serves : (me from to : BrickId) (node : Node) (group : GroupId) (view : ViewNo)
    → ServesNone me node (record { from = from; to = to; message = Message.Synced group view })
synced_serves me from to node group view other said is = cc

-- so is what the coordinator of a synchronisation's read or of a scrub decided
carried_for_closes : (setting : Setting) (me : BrickId) (now : ℕ) (node mid : Node) (known : ℕ) (c heard : Coordinator) (decision : Next)
    (reading : Option Job) (scrub : Option Scrub) → mid.replicas ≡ node.replicas
    → (let step = carried_for setting me now mid known c heard decision reading scrub in
    (step.node.replicas ≡ node.replicas) × OfEach (ServesNone me node) step.packets)
carried_for_closes setting me now node mid known c heard decision reading scrub same =
    carried_each (λ (step : NodeStep). (step.node.replicas ≡ node.replicas) × OfEach (ServesNone me node) step.packets) setting me now mid known c heard decision
    reading scrub
    (carried_closes setting me node mid known c decision same)
    (λ job is answered seen stored ends.
    let collects = each_collect (ServesNone me node) me c stored (λ t to. request_serves me me to node c.call (Request.Collect t)) in
    let closed : NodeStep = read_closed me mid known c answered seen stored in
    record {
      stays = (same, each_both (ServesNone me node) (collect_packets me c stored) [] collects (each_none (ServesNone me node)));
      ends = λ answer. (same, each_both (ServesNone me node) (collect_packets me c stored) [] collects (each_none (ServesNone me node)));
      finishes = (
        same,
        each_both (ServesNone me node) (collect_packets me c stored) (synced_packets me job.group job.view.number setting.layout.bricks 0) collects
            (each_synced (ServesNone me node) me job.group job.view.number (λ to. synced_serves me me to node job.group job.view.number)
            setting.layout.bricks 0),
      );
      reads = λ attempt group kept. (
        same,
        each_both (ServesNone me node) (collect_packets me c stored) (phase_packets setting me (read_call group (record job { attempt = attempt }) me now closed.node))
            collects (phase_serves setting me node (read_call group (record job { attempt = attempt }) me now closed.node)),
      );
    })
    (record {
      begins = λ s is d sends. (same, phase_serves setting me node d);
      ends = λ s is answered seen stored ended. (
        same,
        each_both (ServesNone me node) (collect_packets me c stored) []
            (each_collect (ServesNone me node) me c stored (λ t to. request_serves me me to node c.call (Request.Collect t))) (each_none (ServesNone me node)),
      );
    })

-- a synchronisation begins
pub sync_closes : (setting : Setting) (me : BrickId) (now : ℕ) (node : Node) (group : GroupId)
    → (let step = synced_at setting me now node group in StepCloses setting.layout me node step.node step.packets)
sync_closes setting me now node group =
    synced_at_each (λ (step : NodeStep). StepCloses setting.layout me node step.node step.packets) setting me now node group
    (sends_closes setting.layout me node node [] refl (each_none (ServesNone me node)))
    (λ answer. sends_closes setting.layout me node node [] refl (each_none (ServesNone me node)))
    (λ answer. sends_closes setting.layout me node _ [] refl (each_none (ServesNone me node)))
    (λ kept is. sends_closes setting.layout me node _ _ refl
    (phase_serves setting me node (read_call kept (begun_job group (node.learnt group.0).view) me now node)))

-- a scrub begins
pub scrub_closes : (setting : Setting) (me : BrickId) (now : ℕ) (node : Node) (group : GroupId) (stripe : StripeNo) (members : List BrickId)
    → (let step = scrubbed_at setting me now node group stripe members in StepCloses setting.layout me node step.node step.packets)
scrub_closes setting me now node group stripe members =
    scrubbed_at_each (λ (step : NodeStep). StepCloses setting.layout me node step.node step.packets) setting me now node group stripe members
    (sends_closes setting.layout me node node [] refl (each_none (ServesNone me node)))
    (λ kept is. sends_closes setting.layout me node _ _ refl
    (phase_serves setting me node (scrub_coordinator kept me now node group stripe members)))

-- what a proposal decided is carried out
ended_serves : (layout : Layout) (me : BrickId) (node : Node) (p : Proposal) (ended : ViewAnswer) → OfEach (ServesNone me node) (ended_packets layout me p ended)
ended_serves layout me node p (answer.Decided number members) =
    each_learn (ServesNone me node) me p.call.group _ (λ to. learn_serves me me to node p.call.group _) layout.bricks 0
ended_serves layout me node p (answer.Outbid ballot) = each_none (ServesNone me node)
ended_serves layout me node p (answer.NotSynced brick) = each_none (ServesNone me node)
ended_serves layout me node p (answer.Moved view) = each_none (ServesNone me node)
ended_serves layout me node p answer.BadMembers = each_none (ServesNone me node)

-- what a proposal decided is carried out
ballot_closes : (layout : Layout) (me : BrickId) (node mid : Node) (p : Proposal) (decision : Voting) → mid.replicas ≡ node.replicas
    → (let step = carried_ballot layout me mid p decision in (step.node.replicas ≡ node.replicas) × OfEach (ServesNone me node) step.packets)
ballot_closes layout me node mid p Ignored same = (same, each_none (ServesNone me node))
ballot_closes layout me node mid p (Waited q) same = (same, each_none (ServesNone me node))
ballot_closes layout me node mid p (Asks q) same = (same, each_ballot (ServesNone me node) me q (λ to. request_serves me me to node q.call _))
ballot_closes layout me node mid p (Ended call ended) same = (same, ended_serves layout me node p ended)

-- a reply is handled
replied_closes : (setting : Setting) (me from : BrickId) (now : ℕ) (node : Node) (call : Call) (said : Reply) (z : Option Coordinator)
    → (let step = replied_at setting me now from (with_round node said) call said z in
    (step.node.replicas ≡ node.replicas) × OfEach (ServesNone me node) step.packets)
replied_closes setting me from now node call said None = by node.proposal
  where
    by : (y : Option Proposal)
        → (let step = replied_ballot setting.layout me from (with_known (with_round node said) (known_after node.known said)) call said y in
        (step.node.replicas ≡ node.replicas) × OfEach (ServesNone me node) step.packets)
    by None = (refl, each_none (ServesNone me node))
    by (Some p) =
        ballot_closes setting.layout me node (with_known (with_round node said) (known_after node.known said)) p (voted setting.layout.bricks p from call said) refl
replied_closes setting me from now node call said (Some c) =
    carried_for_closes setting me now node (with_round node said) (known_after node.known said) c
    (hearing c from said (counts_at setting.layout.block c from.0 call said))
    (on_reply setting.layout.block setting.code (fresh_stamp me c.stamp.view now node.boot (known_after node.known said)) c from call said)
    (job_reading node.job c.call.seq) (scrub_of node.scrub c.call.seq) refl

-- so a reply has a brick take nothing, and serve nothing
heard_closes : (setting : Setting) (me from : BrickId) (now : ℕ) (node : Node) (call : Call) (said : Reply)
    → (let step = heard setting me now from node call said in StepCloses setting.layout me node step.node step.packets)
unfolding replied
heard_closes setting me from now node call said =
    cond_both (lists_fit setting.layout call said) (replied setting me now from node call said)
    (no_step (with_known (with_round node said) (known_after node.known said))) (λ (step : NodeStep). StepCloses setting.layout me node step.node step.packets)
    (λ fit.
    let parts = replied_closes setting me from now node call said (node.calls call.seq) in
    record {
      takes = taught_takes setting.layout call.group.0 node (replied_at setting me now from (with_round node said) call said (node.calls call.seq)).node
          (view_counted setting.layout from node call said) parts.0;
      tells = parts.1;
    })
    (λ isnt. sends_closes setting.layout me node _ [] refl (each_none (ServesNone me node)))

-- a message is handled
pub received_closes : (setting : Setting) (me : BrickId) (now : ℕ) (node : Node) (packet : Packet)
    → (let step = received setting me now node packet in StepCloses setting.layout me node step.node step.packets)
unfolding received
received_closes setting me now node packet = by packet.message
  where
    quiet : StepCloses setting.layout me node node []
    quiet = sends_closes setting.layout me node node [] refl (each_none (ServesNone me node))

    by : (message : Message)
        → (let step = received setting me now node (record { from = packet.from; to = packet.to; message = message }) in
        StepCloses setting.layout me node step.node step.packets)
    by (Message.Request call request) = record {
      takes = requested_takes setting me packet.from node call request;
      tells = requested_serves setting me packet.from node call request;
    }
    by (Message.Reply call said) = heard_closes setting me packet.from now node call said
    by (Message.Learn group view) = record { takes = learnt_takes setting.layout node group view; tells = each_none (ServesNone me node) }
    by (Message.Synced group number) = record { takes = synced_takes setting.layout node group number; tells = each_none (ServesNone me node) }
    by (Message.Client ask) = quiet
    by (Message.ClientReply id answered) = quiet

-- a clock ticks
pub ticked_serves : (setting : Setting) (me : BrickId) (node : Node) → OfEach (ServesNone me node) (ticked setting me node)
unfolding ticked
ticked_serves setting me node =
    each_tick (ServesNone me node) setting me node.calls (λ j c is seat to. request_serves me me to node c.call (request_of setting.code c seat))
    (λ j c is later from to. learn_serves me from to node c.call.group _) node.job node.scrub node.seq node.proposal
    (each_ballot_resent (ServesNone me node) me node.proposal (λ p is to. request_serves me me to node p.call _)
    (λ p is later from to. learn_serves me from to node p.call.group p.view))

-- ---- turns

-- a vote leaves what was accepted last, or another list
granting_accepted : (kept : Kept (List BrickId)) (ballot : Ballot) (asks : Option (List BrickId)) → is_some (last_of kept) ≡ true
    → is_some (last_of (granting kept ballot asks).kept) ≡ true
granting_accepted kept ballot None some = some
granting_accepted kept ballot (Some members) some = refl

-- a brick keeps closed what it has closed
pub turn_closes : (layout : Layout) (packets : List Packet) (node next : Node) → Turn layout packets node next → (g e : ℕ) → has_closed node g e ≡ true
    → has_closed next g e ≡ true
turn_closes layout packets node next turn g e closed = ⊎_elim
    (λ (stays : StaysAt node next g).
    ap (λ (v : View). closed_in v (next.ballots g)) stays.0 ∙ ap (λ (z : Kept (List BrickId)). closed_by (node.learnt g) z) stays.1 ∙ closed)
    (λ (changes : VotesAt layout packets node next g ⊎ LearnsAt layout packets node next g). ⊎_elim
    (λ (x : VotesAt layout packets node next g).
    ap (λ (l : Learnt). closed_by l (next.ballots g)) x.learnt ∙ ap (λ (z : Kept (List BrickId)). closed_by (node.learnt g) z) x.ballots
    ∙ ⊎_elim
    (λ (later : nat_lt e (view_at node g) ≡ true). or_left (nat_lt e (view_at node g)) _ later)
    (λ (now : (nat_eq e (view_at node g) && has_accepted node g) ≡ true).
    let parts = and_parts (nat_eq e (view_at node g)) (has_accepted node g) now in
    let has = and_parts (nat_lt (view_at node g) (2 ^ 32 - 1)) (is_some (last_of (node.ballots g))) parts.1 in
    or_right (nat_lt e (view_at node g)) _
    (and_from (nat_eq e (view_at node g)) _ parts.0
    (and_from (nat_lt (view_at node g) (2 ^ 32 - 1)) _ has.0 (granting_accepted (node.ballots g) x.ballot x.asks has.1))))
    (or_cases (nat_lt e (view_at node g)) (nat_eq e (view_at node g) && has_accepted node g) closed))
    (λ (x : LearnsAt layout packets node next g).
    let number : view_at next g ≡ x.view.number.0 = ap (λ (z : View). z.number.0) x.learnt in
    let above = x.later in
    let at_most : e ≤ view_at node g = ⊎_elim
    (λ (later : nat_lt e (view_at node g) ≡ true). grind (arith, nat_tests, later))
    (λ (now : (nat_eq e (view_at node g) && has_accepted node g) ≡ true).
    let same : e ≡ view_at node g = eqb-true e (view_at node g) (and_parts (nat_eq e (view_at node g)) (has_accepted node g) now).0 in omega (arith, same))
    (or_cases (nat_lt e (view_at node g)) (nat_eq e (view_at node g) && has_accepted node g) closed) in
    or_left (nat_lt e (view_at next g)) _ (grind (arith, nat_tests, number, above, at_most)))
    changes)
    (turn g)
  where
    closed_in : View → Kept (List BrickId) → Bool
    closed_in view kept =
        nat_lt e view.number.0 || (nat_eq e view.number.0 && (nat_lt view.number.0 (2 ^ 32 - 1) && is_some (last_of kept)))

    closed_by : Learnt → Kept (List BrickId) → Bool
    closed_by learnt kept = closed_in learnt.view kept

-- ---- worlds

-- what a stopped brick may be found as has taken nothing for a view that was closed
abbrev pub LeavesParts : Layout → World → Type 0
LeavesParts layout w = (i : ℕ) → w.up i ≡ false → PartsTake layout (w.nodes i) (w.after i)

-- a brick that stops leaves its parts so
left_takes : (setting : Setting) (brick : BrickId) (node : Node) (packet : Option Packet)
    → PartsTake setting.layout (stopped node) (left_after setting brick node packet)
unfolding stopped
left_takes setting brick node None = parts_same setting.layout (stopped node) (stopped node) refl
left_takes setting brick node (Some packet) =
    cond_both (nat_eq packet.to.0 brick.0) (stopped (absorbed setting brick node packet)) (stopped node) (λ (n : Node). PartsTake setting.layout (stopped node) n)
    (λ here. absorbed_takes setting brick node packet) (λ elsewhere. parts_same setting.layout (stopped node) (stopped node) refl)

-- each event keeps this
left_cases : (setting : Setting) (w : World) → LeavesParts setting.layout w → EventCases setting w (LeavesParts setting.layout)
left_cases setting w left = record {
  begins = λ brick ask may.
      left_stays (PartsTake setting.layout) w.up w.nodes w.after brick.0 _
      (up_not_down setting.layout w brick (and_parts (is_up setting.layout w brick) _ may).0) left;
  proposes = λ brick group members may.
      stepped w brick (proposed setting brick (w.nodes brick.0) group members)
      (up_not_down setting.layout w brick (and_parts (is_up setting.layout w brick) _ may).0) left;
  syncs = λ brick group may.
      stepped w brick (synced_at setting brick (w.clocks brick.0) (w.nodes brick.0) group)
      (up_not_down setting.layout w brick (and_parts (is_up setting.layout w brick) _ may).0) left;
  scrubs = λ brick group stripe members may.
      stepped w brick (scrubbed_at setting brick (w.clocks brick.0) (w.nodes brick.0) group stripe members)
      (up_not_down setting.layout w brick (and_parts (is_up setting.layout w brick) _ may).0) left;
  handles = λ number packet at up.
      stepped (world_counting setting w number packet) packet.to (step_on setting w packet) (up_not_down setting.layout w packet.to up) left;
  sets = λ brick time is. left;
  ticks = λ brick up. left;
  stops = λ brick during up.
      left_more (PartsTake setting.layout) w.up w.nodes w.after brick.0 _ _ (left_takes setting brick (w.nodes brick.0) (packet_during w.packets during)) left;
  starts = λ brick openings found may.
      started_each (LeavesParts setting.layout) w brick openings (left_fewer (PartsTake setting.layout) w.up w.nodes w.after brick.0 _ left)
      (subst (λ (nodes : ℕ → Node). (k : ℕ) → put w.up brick.0 true k ≡ false → PartsTake setting.layout (nodes k) (w.after k))
      (sym (put_twice w.nodes brick.0 (w.after brick.0) (restarted openings (put w.nodes brick.0 (w.after brick.0) brick.0))))
      (left_fewer (PartsTake setting.layout) w.up w.nodes w.after brick.0 (restarted openings (put w.nodes brick.0 (w.after brick.0) brick.0)) left))
      found;
}
  where
    stepped : (x : World) (brick : BrickId) (step : NodeStep) → x.up brick.0 ≡ true → LeavesParts setting.layout x
        → LeavesParts setting.layout (world_stepped setting x brick step)
    stepped x brick step up left =
        let same = stepped_up setting x brick step in
        subst (λ (ups : ℕ → Bool). (k : ℕ) → ups k ≡ false
        → PartsTake setting.layout (put x.nodes brick.0 step.node k) ((world_stepped setting x brick step).after k)) (sym same.0)
        (subst (λ (after : ℕ → Node). (k : ℕ) → x.up k ≡ false → PartsTake setting.layout (put x.nodes brick.0 step.node k) (after k)) (sym same.1)
        (left_stays (PartsTake setting.layout) x.up x.nodes x.after brick.0 step.node up left))

-- so it is in every world that a run reaches
pub always_left : (setting : Setting) (events : List Event) → LeavesParts setting.layout (run setting events (first_world setting.layout))
always_left setting = always (LeavesParts setting.layout) setting
    (λ i down. parts_same setting.layout (first_brick setting.layout) (first_brick setting.layout) refl) (left_cases setting)
