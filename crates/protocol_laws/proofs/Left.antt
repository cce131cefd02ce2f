-- What the store of a stopped brick may hold when it starts: what it kept when it stopped, or what the handling of a message that was sent to it
-- makes of that.
use Rattle.fab_base.specs.declared.identities.ViewNo.{ViewNo}
use Rattle.fab_base.specs.declared.identities.GroupId.{GroupId}
use Rattle.std.proofs.Common.{◌≡◌, ◌≢◌, ℕ, zero, suc, ◌⊎◌, inl, inr, ⊎_elim, Bool, true, false, not, List, [], ◌∷◌, ◌++◌, Option, Some, None, is_some, refl, sym, ap, ◌∙◌, subst, ◌&&◌}
use Rattle.std.specs.Prelude.{slice_get, nat_eq, if◌then◌else◌}
use Rattle.std.proofs.lemmas.Bool.{cond_both, and_parts, cases_eq, eqb-true, both_ways}
use Rattle.fab_base.specs.declared.identities.BrickId.{BrickId}
use Rattle.messages.specs.declared.calls.Call.{Call}
use Rattle.messages.specs.declared.packets.Message.{Message}
use Rattle.messages.specs.declared.packets.Packet.{Packet}
use Rattle.messages.specs.declared.requests.Request.{Request}
use Rattle.fab_base.specs.Layouts.{Group, group_of, Layout}
use Rattle.protocol.specs.Settings.{Setting}
use Rattle.protocol.specs.declared.phases.Counted.{Counted}
use Rattle.protocol.specs.declared.tellings.Told.{Told}
use Rattle.protocol.specs.declared.tellings.Told.TheVariants.{Made, Seen, Began, Closed}
use Rattle.protocol.specs.declared.tellings.Answered.{Answered}
use Rattle.messages.specs.declared.replies.Reply.{Reply}
use Rattle.fab_base.specs.declared.member_lists.View.{View}
use Rattle.protocol.specs.Views.{learns, is_later, view_told, is_unsynced, notes_synced}
use Rattle.protocol.specs.Nodes.{Node, NodeStep, group_at, put, refusal_of, requested_at, seat_now, is_void, moved_at, served_unless, requested_as, requested_in, requested, lists_fit, counts_here, may_teach, with_learnt, node_taught, node_taught_by, node_learnt, no_step, absorbed, stopped, restarted, proposed, proposal_refusal, invoked, node_synced, synced_at, sync_refusal, scrub_refusal, scrubbed_at}
use Rattle.protocol.specs.Worlds.{World, Choices, Found, Before, After, Event, first_world, is_brick, is_up, world_began, world_told, world_tells, world_answered, world_answers, world_stepped, world_ticked, left_after, packet_during, world_stopped, world_found, world_started, replies_with, voiced, packet_of, run}
use Rattle.protocol_laws.specs.Laws.{WasSent}
use Rattle.protocol.proofs.Puts.{put_other}
use Rattle.protocol.proofs.Tables.{put_same, get_kept}
use Rattle.protocol.proofs.Events.{EventCases, step_on, started_each, always}

-- what the store of a brick may keep of a message: a part that a request changes or a vote on it, a view that the message teaches, whether it counts or not, and that
-- a view is synced
unfoldable pub kept_of : Setting → BrickId → Node → Packet → Node
kept_of setting me node packet = kept_as packet.message
  where
    kept_as : Message → Node
    kept_as (Message.Request call request) = (requested setting me packet.from node call request).node
    kept_as (Message.Reply call reply) = (
        if lists_fit setting.layout call reply then node_taught_by setting.layout.block call.group.0 node (view_told reply) else node
        )
    kept_as (Message.Learn group view) = node_learnt setting.layout node group view
    kept_as (Message.Synced group number) = node_synced setting.layout node group number
    kept_as message = node

-- what is kept of a message whose handling was cut short is that, or nothing
pub absorbed_kept : (setting : Setting) (me from to : BrickId) (node : Node) (message : Message)
    → (let packet : Packet = record { from = from; to = to; message = message } in
    (absorbed setting me node packet ≡ node) ⊎ (absorbed setting me node packet ≡ kept_of setting me node packet))
unfolding absorbed kept_of
absorbed_kept setting me from to node (Message.Request call request) = inr refl
absorbed_kept setting me from to node (Message.Reply call reply) = by (lists_fit setting.layout call reply) (counts_here setting.layout from call reply node.proposal (node.calls call.seq))
  where
    by : (fit counts : Bool)
        → ((if fit then node_taught_by setting.layout.block call.group.0 node (if counts then view_told reply else None) else node) ≡ node)
        ⊎ ((if fit then node_taught_by setting.layout.block call.group.0 node (if counts then view_told reply else None) else node)
        ≡ (if fit then node_taught_by setting.layout.block call.group.0 node (view_told reply) else node))
    by true true = inr refl
    by true false = inl refl
    by false counts = inl refl
absorbed_kept setting me from to node (Message.Learn group view) = inr refl
absorbed_kept setting me from to node (Message.Synced group number) = inr refl
absorbed_kept setting me from to node message = inl refl

-- a stopped brick that handles a request keeps what it would have kept by handling it before it stopped
requested_stopped : (setting : Setting) (me from : BrickId) (node : Node) (call : Call) (request : Request)
    → (requested setting me from (stopped node) call request).node ≡ stopped (requested setting me from node call request).node
unfolding requested stopped
requested_stopped setting me from node call request = in_group (group_at setting.layout node call.group.0)
  where
    at_seat : (m : ℕ) (r : Request) (z : Option ℕ) → (requested_at setting m me from (stopped node) call r z).node
        ≡ stopped (requested_at setting m me from node call r z).node
    at_seat m r None = refl
    at_seat m r (Some seat) = refl

    serves : (m : ℕ) (r : Request) (seat : Option ℕ) (z : Option Reply) → (served_unless setting m me from (stopped node) call r seat z).node
        ≡ stopped (served_unless setting m me from node call r seat z).node
    serves m r seat None = at_seat m r seat
    serves m r seat (Some moved) = refl

    handles : (group : Group) (r : Request) → (requested_as setting group me from (stopped node) call r).node
        ≡ stopped (requested_as setting group me from node call r).node
    handles group (Request.Read want) = serves group.m (Request.Read want) (seat_now me node call group) (moved_at node call)
    handles group (Request.Order t) = serves group.m (Request.Order t) (seat_now me node call group) (moved_at node call)
    handles group (Request.OrderRead t look want) = serves group.m (Request.OrderRead t look want) (seat_now me node call group) (moved_at node call)
    handles group (Request.Write t block) = serves group.m (Request.Write t block) (seat_now me node call group) (moved_at node call)
    handles group (Request.Modify t base j delta) = serves group.m (Request.Modify t base j delta) (seat_now me node call group) (moved_at node call)
    handles group (Request.Collect t) = at_seat group.m (Request.Collect t) (seat_now me node call group)
    handles group (Request.OldRead bound) = refl
    handles group (Request.Prepare ballot) = refl
    handles group (Request.Accept ballot members) = refl

    unless_void : (group : Group) (void : Bool)
        → (if void then no_step (stopped node) else requested_as setting group me from (stopped node) call request).node
        ≡ stopped (if void then no_step node else requested_as setting group me from node call request).node
    unless_void group true = refl
    unless_void group false = handles group request

    in_group : (z : Option Group) → (requested_in setting me from (stopped node) call request z).node
        ≡ stopped (requested_in setting me from node call request z).node
    in_group None = refl
    in_group (Some group) = unless_void group (is_void setting.layout me node call request group)

-- one of two stopped bricks is one of the two, stopped
stops_either : (first : Bool) (one other : Node) → (if first then stopped one else stopped other) ≡ stopped (if first then one else other)
stops_either true one other = refl
stops_either false one other = refl

-- and so does one that is taught a view
taught_stopped : (block group : ℕ) (node : Node) (view : View) → node_taught block group (stopped node) view ≡ stopped (node_taught block group node view)
unfolding node_taught stopped
taught_stopped block group node view =
    stops_either (is_later (node.learnt group) view) (with_learnt block group node (learns (node.learnt group) view)) node

taught_by_stopped : (block group : ℕ) (node : Node) (view : Option View)
    → node_taught_by block group (stopped node) view ≡ stopped (node_taught_by block group node view)
taught_by_stopped block group node None = refl
taught_by_stopped block group node (Some view) = taught_stopped block group node view

-- and one that hears that all stripes are kept in a view
synced_stopped : (layout : Layout) (node : Node) (group : GroupId) (number : ViewNo)
    → node_synced layout (stopped node) group number ≡ stopped (node_synced layout node group number)
unfolding node_synced stopped
synced_stopped layout node group number =
    stops_either (is_some (group_of layout group.0) && is_unsynced (node.learnt group.0) number.0)
    (with_learnt layout.block group.0 node (notes_synced (node.learnt group.0) number.0)) node

kept_stopped : (setting : Setting) (me from to : BrickId) (node : Node) (message : Message)
    → kept_of setting me (stopped node) (record { from = from; to = to; message = message })
    ≡ stopped (kept_of setting me node (record { from = from; to = to; message = message }))
unfolding kept_of node_learnt
kept_stopped setting me from to node (Message.Request call request) = requested_stopped setting me from node call request
kept_stopped setting me from to node (Message.Reply call reply) =
    let fit : Bool = lists_fit setting.layout call reply in
    ap (λ (n : Node). if fit then n else stopped node) (taught_by_stopped setting.layout.block call.group.0 node (view_told reply))
    ∙ stops_either fit (node_taught_by setting.layout.block call.group.0 node (view_told reply)) node
kept_stopped setting me from to node (Message.Learn group view) =
    let may : Bool = may_teach setting.layout (Some view) (group_of setting.layout group.0) in
    ap (λ (n : Node). if may then n else stopped node) (taught_stopped setting.layout.block group.0 node view)
    ∙ stops_either may (node_taught setting.layout.block group.0 node view) node
kept_stopped setting me from to node (Message.Synced group number) = synced_stopped setting.layout node group number
kept_stopped setting me from to node message = refl

-- what the store of a brick may hold beside what the brick keeps
abbrev pub IsLeft : Setting → World → ℕ → Node → Type 0
IsLeft setting w i node =
    (node ≡ w.nodes i)
    ⊎ ((packet : Packet) × (packet.to ≡ record { 0 = i }) × WasSent w packet × (node ≡ kept_of setting (record { 0 = i }) (w.nodes i) packet))

-- of each brick that is down
abbrev pub Leaves : Setting → World → Type 0
Leaves setting w = (i : ℕ) → w.up i ≡ false → IsLeft setting w i (w.after i)

-- a brick that was down stays as it is
abbrev StaysDown : World → World → ℕ → Type 0
StaysDown w next i = (w.up i ≡ false) × (next.nodes i ≡ w.nodes i) × (next.after i ≡ w.after i)

left_on : (setting : Setting) (w next : World) (i : ℕ) → StaysDown w next i → ((packet : Packet) → WasSent w packet → WasSent next packet)
    → Leaves setting w → IsLeft setting next i (next.after i)
left_on setting w next i stays sent leaves = ⊎_elim
    (λ (same : w.after i ≡ w.nodes i). inl (stays.2 ∙ same ∙ sym stays.1))
    (λ (handled : (packet : Packet) × (packet.to ≡ record { 0 = i }) × WasSent w packet
    × (w.after i ≡ kept_of setting (record { 0 = i }) (w.nodes i) packet)). inr (
      handled.0,
      handled.1,
      sent handled.0 handled.2,
      stays.2 ∙ handled.3 ∙ ap (λ (node : Node). kept_of setting (record { 0 = i }) node handled.0) (sym stays.1),
    ))
    (leaves i stays.0)

leaves_on : (setting : Setting) (w next : World) → ((i : ℕ) → next.up i ≡ false → StaysDown w next i)
    → ((packet : Packet) → WasSent w packet → WasSent next packet) → Leaves setting w → Leaves setting next
leaves_on setting w next stays sent leaves i down = left_on setting w next i (stays i down) sent leaves

-- what was sent stays sent as more is
sent_more : (w next : World) (more : List Packet) → next.packets ≡ w.packets ++ more → (packet : Packet) → WasSent w packet → WasSent next packet
sent_more w next more is packet sent =
    (sent.0, ap (λ (l : List Packet). slice_get l sent.0) is ∙ get_kept w.packets more sent.0 packet sent.1)

-- a brick that is down is not one that is up
apart : (w : World) (i b : ℕ) → w.up i ≡ false → w.up b ≡ true → i ≢ b
apart w i b down up same = both_ways (w.up i) down (ap (λ (j : ℕ). w.up j) same ∙ up)

-- where a brick that is up takes a step
steps_on : (w : World) (b : ℕ) (node : Node) → w.up b ≡ true → (i : ℕ) → w.up i ≡ false
    → (w.up i ≡ false) × (put w.nodes b node i ≡ w.nodes i) × (w.after i ≡ w.after i)
steps_on w b node up i down = (down, put_other w.nodes b node i (apart w i b down up), refl)

-- what the tellings and answers of a step leave as it is
pub told_same : {A : Type 0} (setting : Setting) (nodes : ℕ → Node) (read : World → A) (brick : BrickId)
    → ((w : World) (told : Told) → read (world_told setting nodes w brick told) ≡ read w) → (told : List Told) (w : World)
    → read (world_tells setting nodes w brick told) ≡ read w
told_same setting nodes read brick one [] w = refl
told_same setting nodes read brick one (told ∷ more) w =
    told_same setting nodes read brick one more (world_told setting nodes w brick told) ∙ one w told

pub answered_same : {A : Type 0} (read : World → A) (brick : BrickId) → ((w : World) (answered : Answered) → read (world_answered w brick answered) ≡ read w)
    → (answers : List Answered) (w : World) → read (world_answers w brick answers) ≡ read w
answered_same read brick one [] w = refl
answered_same read brick one (answered ∷ more) w = answered_same read brick one more (world_answered w brick answered) ∙ one w answered

-- which bricks are up, and what the stores of those that are down would have kept, are as before a step
up_told : (setting : Setting) (nodes : ℕ → Node) (brick : BrickId) (w : World) (told : Told) → (world_told setting nodes w brick told).up ≡ w.up
up_told setting nodes brick w (Made seq t base) = refl
up_told setting nodes brick w (Seen seq v) = refl
up_told setting nodes brick w (Began call) = refl
up_told setting nodes brick w (Closed seq cause) = refl

up_stepped : (setting : Setting) (w : World) (me : BrickId) (step : NodeStep) → (world_stepped setting w me step).up ≡ w.up
up_stepped setting w me step =
    (let nodes : ℕ → Node = put w.nodes me.0 step.node in
    answered_same (λ x. x.up) me (λ x answered. refl) step.answers (world_tells setting nodes w me step.told)
    ∙ told_same setting nodes (λ x. x.up) me (up_told setting nodes me) step.told w)

after_told : (setting : Setting) (nodes : ℕ → Node) (brick : BrickId) (w : World) (told : Told) → (world_told setting nodes w brick told).after ≡ w.after
after_told setting nodes brick w (Made seq t base) = refl
after_told setting nodes brick w (Seen seq v) = refl
after_told setting nodes brick w (Began call) = refl
after_told setting nodes brick w (Closed seq cause) = refl

pub after_stepped : (setting : Setting) (w : World) (me : BrickId) (step : NodeStep) → (world_stepped setting w me step).after ≡ w.after
after_stepped setting w me step =
    (let nodes : ℕ → Node = put w.nodes me.0 step.node in
    answered_same (λ x. x.after) me (λ x answered. refl) step.answers (world_tells setting nodes w me step.told)
    ∙ told_same setting nodes (λ x. x.after) me (after_told setting nodes me) step.told w)

leaves_stepped : (setting : Setting) (w : World) (replies : ℕ → ℕ → List Counted) (reached : ℕ → Bool) (choices : Choices) (me : BrickId) (step : NodeStep)
    → w.up me.0 ≡ true
    → Leaves setting w → Leaves setting (world_stepped setting (record w { replies = replies; reached = reached; choices = choices }) me step)
leaves_stepped setting w replies reached choices me step up leaves =
    let counted : World = record w { replies = replies; reached = reached; choices = choices } in
    leaves_on setting w (world_stepped setting counted me step)
    (λ i down.
    let was : w.up i ≡ false = ap (λ (f : ℕ → Bool). f i) (sym (up_stepped setting counted me step)) ∙ down in
    (was, put_other w.nodes me.0 step.node i (apart w i me.0 was up), ap (λ (f : ℕ → Node). f i) (after_stepped setting counted me step)))
    (λ packet sent. (sent.0, get_kept w.packets step.packets sent.0 packet sent.1)) leaves

-- a packet of a number was sent
pub packet_was_sent : (w : World) (number : ℕ) (packet : Packet) → packet_of w.packets number ≡ Some packet → WasSent w packet
packet_was_sent w zero packet is = cc
packet_was_sent w (suc k) packet is = (k, is)

-- so was one during whose handling a brick stopped
pub during_was_sent : (w : World) (during : Option ℕ) (packet : Packet) → packet_during w.packets during ≡ Some packet → WasSent w packet
during_was_sent w None packet is = cc
during_was_sent w (Some number) packet is = packet_was_sent w number packet is

-- a brick stops
module _ (setting : Setting) (w : World) (brick : BrickId) (during : Option ℕ) where
  abbrev shut : World
  shut = world_stopped setting w brick during

  after_is : shut.after brick.0 ≡ left_after setting brick (w.nodes brick.0) (packet_during w.packets during)
  after_is = put_same w.after brick.0 (left_after setting brick (w.nodes brick.0) (packet_during w.packets during))

  node_is : shut.nodes brick.0 ≡ stopped (w.nodes brick.0)
  node_is = put_same w.nodes brick.0 (stopped (w.nodes brick.0))

  -- what is left is as before, or what the handling of a packet that was sent makes of that
  left_at_stop : (z : Option Packet) → ((packet : Packet) → z ≡ Some packet → WasSent w packet)
      → IsLeft setting shut brick.0 (left_after setting brick (w.nodes brick.0) z)
  left_at_stop None sent = inl (sym node_is)
  left_at_stop (Some packet) sent =
      cond_both (nat_eq packet.to.0 brick.0) (stopped (absorbed setting brick (w.nodes brick.0) packet)) (stopped (w.nodes brick.0))
      (λ (node : Node). IsLeft setting shut brick.0 node)
      (λ mine. ⊎_elim
      (λ (same : absorbed setting brick (w.nodes brick.0) packet ≡ w.nodes brick.0). inl (ap (λ (node : Node). stopped node) same ∙ sym node_is))
      (λ (kept : absorbed setting brick (w.nodes brick.0) packet ≡ kept_of setting brick (w.nodes brick.0) packet). inr (
        packet,
        ap (λ (j : ℕ). record { 0 = j }) (eqb-true packet.to.0 brick.0 mine),
        sent packet refl,
        ap (λ (node : Node). stopped node) kept ∙ sym (kept_stopped setting brick packet.from packet.to (w.nodes brick.0) packet.message)
            ∙ ap (λ (node : Node). kept_of setting brick node packet) (sym node_is),
      ))
      (absorbed_kept setting brick packet.from packet.to (w.nodes brick.0) packet.message))
      (λ other. inl (sym node_is))

  leaves_stopped : Leaves setting w → Leaves setting shut
  leaves_stopped leaves i down = ⊎_elim
      (λ (mine : i ≡ brick.0). subst (λ (j : ℕ). IsLeft setting shut j (shut.after j)) (sym mine)
      (subst (λ (node : Node). IsLeft setting shut brick.0 node) (sym after_is) (left_at_stop (packet_during w.packets during) (during_was_sent w during))))
      (λ (other : i ≢ brick.0).
      left_on setting w shut i (
        sym (put_other w.up brick.0 false i other) ∙ down,
        put_other w.nodes brick.0 (stopped (w.nodes brick.0)) i other,
        put_other w.after brick.0 (left_after setting brick (w.nodes brick.0) (packet_during w.packets during)) i other,
      )
      (λ packet sent. sent) leaves)
      (cases_eq i brick.0)

module _ (setting : Setting) (w : World) where
  -- a stopped brick starts
  leaves_started : (brick : BrickId) (openings : ℕ) → Leaves setting w → Leaves setting (world_started w brick openings)
  leaves_started brick openings leaves i down = ⊎_elim
      (λ (mine : i ≡ brick.0).
      absurd (both_ways (put w.up brick.0 true i) down (ap (λ (j : ℕ). put w.up brick.0 true j) mine ∙ put_same w.up brick.0 true)))
      (λ (other : i ≢ brick.0).
      left_on setting w (world_started w brick openings) i (
        sym (put_other w.up brick.0 true i other) ∙ down,
        put_other w.nodes brick.0 (restarted openings (w.nodes brick.0)) i other,
        refl,
      )
      (λ packet sent. sent) leaves)
      (cases_eq i brick.0)

  -- and another brick than the one that starts keeps what it kept
  leaves_after : (brick : BrickId) (openings : ℕ) → Leaves setting w
      → Leaves setting (world_started (world_found w brick After) brick openings)
  leaves_after brick openings leaves i down = ⊎_elim
      (λ (mine : i ≡ brick.0).
      absurd (both_ways (put w.up brick.0 true i) down (ap (λ (j : ℕ). put w.up brick.0 true j) mine ∙ put_same w.up brick.0 true)))
      (λ (other : i ≢ brick.0).
      left_on setting w (world_started (world_found w brick After) brick openings) i (
        sym (put_other w.up brick.0 true i other) ∙ down,
        put_other (put w.nodes brick.0 (w.after brick.0)) brick.0 (restarted openings (put w.nodes brick.0 (w.after brick.0) brick.0)) i other
            ∙ put_other w.nodes brick.0 (w.after brick.0) i other,
        refl,
      )
      (λ packet sent. sent) leaves)
      (cases_eq i brick.0)

  -- every event leaves each store as it may be
  leaves_cases : Leaves setting w → EventCases setting w (Leaves setting)
  leaves_cases leaves = record {
    begins = λ brick ask may.
        (let step : NodeStep = invoked setting brick (w.clocks brick.0) (w.nodes brick.0) ask in
        let up = and_parts (is_up setting.layout w brick) (not (is_some (refusal_of setting.layout (w.nodes brick.0) ask))) may in
        leaves_on setting w (world_began w brick ask step)
        (steps_on w brick.0 step.node (and_parts (is_brick setting.layout brick) (w.up brick.0) up.0).1)
        (λ packet sent. (sent.0, get_kept w.packets step.packets sent.0 packet sent.1)) leaves);
    proposes = λ brick group members may.
        (let up = and_parts (is_up setting.layout w brick) (not (is_some (proposal_refusal setting.layout (w.nodes brick.0) group.0))) may in
        leaves_stepped setting w w.replies w.reached w.choices brick (proposed setting brick (w.nodes brick.0) group members)
        (and_parts (is_brick setting.layout brick) (w.up brick.0) up.0).1 leaves);
    syncs = λ brick group may.
        (let up = and_parts (is_up setting.layout w brick) (not (is_some (sync_refusal setting.layout (w.nodes brick.0) group.0))) may in
        leaves_stepped setting w w.replies w.reached w.choices brick (synced_at setting brick (w.clocks brick.0) (w.nodes brick.0) group)
        (and_parts (is_brick setting.layout brick) (w.up brick.0) up.0).1 leaves);
    scrubs = λ brick group stripe members may.
        (let up = and_parts (is_up setting.layout w brick) (not (is_some (scrub_refusal setting.layout (w.nodes brick.0) group stripe members))) may in
        leaves_stepped setting w w.replies w.reached w.choices brick (scrubbed_at setting brick (w.clocks brick.0) (w.nodes brick.0) group stripe members)
        (and_parts (is_brick setting.layout brick) (w.up brick.0) up.0).1 leaves);
    handles = λ number packet at up.
        leaves_stepped setting w (replies_with setting w packet) (put w.reached number true) (voiced setting w packet) packet.to (step_on setting w packet)
        (and_parts (is_brick setting.layout packet.to) (w.up packet.to.0) up).1 leaves;
    sets = λ brick time is. leaves;
    ticks = λ brick up.
        leaves_on setting w (world_ticked setting w brick) (λ i down. (down, refl, refl))
        (λ packet sent. (sent.0, get_kept w.packets _ sent.0 packet sent.1)) leaves;
    stops = λ brick during up. leaves_stopped setting w brick during leaves;
    starts = λ brick openings found may.
        started_each (Leaves setting) w brick openings (leaves_started brick openings leaves) (leaves_after brick openings leaves)
        found;
  }

-- at first every brick is as it was made, up or down
pub always_leaves : (setting : Setting) (events : List Event) → Leaves setting (run setting events (first_world setting.layout))
always_leaves setting events =
    always (Leaves setting) setting (λ i down. inl refl) (leaves_cases setting) events

-- a brick that starts with what its store is found to hold is still down
pub found_down : (w : World) (brick : BrickId) (found : Found) → w.up brick.0 ≡ false → (world_found w brick found).up brick.0 ≡ false
found_down w brick Before down = down
found_down w brick After down = down
