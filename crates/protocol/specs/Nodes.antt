-- One brick: the members' parts of stripes that it keeps, and the operations that it coordinates.
use Rattle.std.specs.Prelude.{ℕ, zero, suc, ◌+◌, ◌-◌, ◌*◌, ◌^◌, Bool, true, false, not, nat_eq, nat_lt, ◌&&◌, ◌||◌, if◌then◌else◌, List, [], ◌∷◌, ◌++◌, length, Option, Some, None, is_some, max}
use Rattle.fab_base.specs.declared.identities.BrickId.{BrickId}
use Rattle.fab_base.specs.declared.identities.CallId.{CallId}
use Rattle.fab_base.specs.declared.identities.GroupId.{GroupId}
use Rattle.fab_base.specs.declared.identities.StripeNo.{StripeNo}
use Rattle.fab_base.specs.declared.identities.ViewNo.{ViewNo}
use Rattle.fab_base.specs.declared.member_lists.View.{View}
use Rattle.fab_base.specs.declared.stamps.Ballot.{Ballot}
use Rattle.fab_base.specs.declared.stamps.Stamp.{Stamp}
use Rattle.fab_base.specs.declared.asks.Ask.{Ask}
use Rattle.fab_base.specs.declared.asks.Op.{Op}
use Rattle.fab_base.specs.declared.asks.Op.TheVariants.{ReadBlock, WriteBlock, ReadStripe, WriteStripe}
use Rattle.fab_base.specs.declared.answers.Answer.{Answer}
use Rattle.fab_base.specs.declared.answers.Refusal.{Refusal}
use Rattle.messages.specs.declared.calls.Call.{Call}
use Rattle.messages.specs.declared.packets.Message.{Message}
use Rattle.messages.specs.declared.packets.Packet.{Packet}
use Rattle.messages.specs.declared.requests.Request.{Request}
use Rattle.messages.specs.declared.replies.Reply.{Reply}
use Rattle.messages.specs.declared.replies.Reply.TheVariants.{Moved, Old, Retired}
pub use Rattle.protocol.specs.declared.tellings.Told.{Told}
pub use Rattle.protocol.specs.declared.tellings.Told.TheVariants.{Made, Seen, Began, Closed}
pub use Rattle.protocol.specs.declared.tellings.Answered.{Answered}
pub use Rattle.protocol.specs.declared.tellings.Report.{Report}
use Rattle.protocol.specs.declared.tellings.ViewAnswer.TheVariants as answer
use Rattle.quorum.specs.Memberships.{is_membership}
pub use Rattle.protocol.specs.Requests.{to_members, resent_to}
use Rattle.synod_laws.specs.Synods.{Kept, last_of}
use Rattle.protocol.specs.Proposals.{Proposal, ViewAnswer, Voting, Ignored, Waited, Asks, Ended, begun_proposal, ballot_packets, seat_voting, voted, round_after, next_ballot}
use Rattle.protocol.specs.Jobs.{Job, JobNext, Reads, Finishes, GivesUp, sync_refusal_in, begun_job, job_ask, job_after, abort_cause, synced_answer, stopped_answer, spent_answer}
use Rattle.protocol.specs.Scrubs.{Scrub, ScrubAnswer, names_quorum, scrub_ask, scrub_answer, lagging_after}
use Rattle.fab_base.specs.Layouts.{Layout, Group, group_of, seat_in}
use Rattle.protocol.specs.Settings.{Setting, are_bytes}
use Rattle.protocol.specs.Views.{Learnt, first_learnt, first_kept, group_kept, floor_of, is_later, learns, is_unsynced, notes_synced, may_be_taught, view_told}
use Rattle.protocol.specs.Ballots.{Voted, voting, moved_to}
use Rattle.protocol.specs.Replicas.{Replica, Reaction, fresh_replica, handle, is_changed, newest_of, stamp_max, top_of, under}
use Rattle.protocol.specs.Coordinators.{Phase, Looks, LooksAt, Orders, OrdersAt, Coordinator, Next, Ignores, Waits, Sends, Makes, Ends, asked_group, counts_at, hearing, request_of, on_reply}

-- a function with one value changed
abbrev pub put : {A : Type 0} → (ℕ → A) → ℕ → A → ℕ → A
put f k v i = if nat_eq i k then v else f i

-- A brick: how often its store was opened, its last call number, the greatest time that it knows, the greatest round of a ballot that it used or heard
-- of, how many operations it has open, how many live records its store keeps, and how many of these are of each view (by group and view), the view
-- that it has learnt of each group, what it keeps of ballots for the successor of that, its part of each stripe (by group, view and stripe), its open operations
-- (by call number), its proposal of a successor, its synchronisation of a view, and its scrub of a stripe.
pub record Node : Type 0 where
  pub boot : ℕ
  pub seq : ℕ
  pub known : ℕ
  pub round : ℕ
  pub busy : ℕ
  pub live : ℕ
  pub live_in : ℕ → ℕ → ℕ
  pub learnt : ℕ → Learnt
  pub ballots : ℕ → Kept (List BrickId)
  pub replicas : ℕ → ℕ → ℕ → Replica
  pub calls : ℕ → Option Coordinator
  pub proposal : Option Proposal
  pub job : Option Job
  pub scrub : Option Scrub

-- a brick whose fresh store was just opened
abbrev pub first_node : Layout → Node
first_node layout =
    record {
      boot = 1;
      seq = 0;
      known = 0;
      round = 0;
      busy = 0;
      live = 0;
      live_in = λ group view. 0;
      learnt = first_learnt layout;
      ballots = λ group. None;
      replicas = λ group view stripe. fresh_replica layout.block view;
      calls = λ k. None;
      proposal = None;
      job = None;
      scrub = None;
    }

-- the number of the view that a brick has learnt of a group
abbrev pub view_at : Node → ℕ → ℕ
view_at node group = (node.learnt group).view.number.0

-- a brick has accepted a list of members to follow the view that it has learnt of a group: the last number of all has no successor
abbrev pub has_accepted : Node → ℕ → Bool
has_accepted node group = nat_lt (view_at node group) (2 ^ 32 - 1) && is_some (last_of (node.ballots group))

-- a group, with the members of the view that a brick has learnt of it
abbrev pub group_at : Layout → Node → ℕ → Option Group
group_at layout node group = group_kept layout (node.learnt group).view.members group

-- what a brick has learnt of a group's views and accepted puts it above all stamps of the views before
abbrev pub view_floor : Node → ℕ → Stamp
view_floor node group = floor_of (if has_accepted node group then view_at node group + 1 else view_at node group)

-- the stamp below which a brick takes nothing for a stripe, over all views
unfoldable pub top_at : Node → ℕ → ℕ → Stamp
top_at node group stripe = stamp_max (view_floor node group) (top_of (node.replicas group (view_at node group) stripe))

-- What a step leaves, the packets that it sends, what it tells of operations, the answers that it gives, and what it reports of the brick's proposal,
-- synchronisation and scrub, each in order.
pub record NodeStep : Type 0 where
  pub node : Node
  pub packets : List Packet
  pub told : List Told
  pub answers : List Answered
  pub reports : List Report

-- a step that sends these packets, and tells, answers and reports nothing
abbrev pub sending : Node → List Packet → NodeStep
sending node packets = record { node = node; packets = packets; told = []; answers = []; reports = [] }

abbrev pub no_step : Node → NodeStep
no_step node = sending node []

-- what the coordinator's phase sends
abbrev pub phase_packets : Setting → BrickId → Coordinator → List Packet
phase_packets setting me c = to_members me c.call (request_of setting.code c) 0 (asked_group c).members

-- the version that was stored may be collected by all members
abbrev pub collect_packets : BrickId → Coordinator → Option Stamp → List Packet
collect_packets me c None = []
collect_packets me c (Some t) = to_members me c.call (λ seat. Request.Collect t) 0 c.group.members

-- a whole stripe is read or written
abbrev pub is_stripe_op : Op → Bool
is_stripe_op (ReadBlock j) = false
is_stripe_op (WriteBlock j bytes) = false
is_stripe_op ReadStripe = true
is_stripe_op (WriteStripe bytes) = true

-- the block that is asked for is one of the m data blocks
abbrev pub has_block : ℕ → Op → Bool
has_block m (ReadBlock j) = nat_lt j m
has_block m (WriteBlock j bytes) = nat_lt j m
has_block m ReadStripe = true
has_block m (WriteStripe bytes) = true

-- what is to be written is the bytes of one block, or of m blocks
abbrev pub has_length : ℕ → ℕ → Op → Bool
has_length m block (ReadBlock j) = true
has_length m block (WriteBlock j bytes) = are_bytes bytes && nat_eq (length bytes) block
has_length m block ReadStripe = true
has_length m block (WriteStripe bytes) = are_bytes bytes && nat_eq (length bytes) (m * block)

-- a time is left above the greatest that is known
abbrev pub has_later_time : ℕ → Bool
has_later_time known = nat_lt known (2 ^ 64 - 1)

-- no later time, or no further call number
abbrev pub is_spent : Node → Bool
is_spent node = not (has_later_time node.known) || nat_eq node.seq (2 ^ 64 - 1)

-- how many operations a brick may have open
abbrev pub most_open : ℕ
most_open = 64

-- why a running brick does not begin an operation, the first reason of these
abbrev pub refusal_in : ℕ → Node → Ask → Option Group → Option Refusal
refusal_in block node ask None = Some Refusal.NoStripe
refusal_in block node ask (Some group) =
    if not (nat_lt ask.stripe.0 group.stripes) then Some Refusal.NoStripe
    else if not (has_block group.m ask.op) then Some Refusal.NoBlock
    else if not (has_length group.m block ask.op) then Some Refusal.Length
    else if not (nat_lt node.busy most_open) then Some Refusal.Busy
    else if is_spent node then Some Refusal.Spent
    else None

unfoldable pub refusal_of : Layout → Node → Ask → Option Refusal
refusal_of layout node ask = refusal_in layout.block node ask (group_of layout ask.group.0)

-- a read looks first, and a write orders
abbrev pub first_phase : Op → Phase
first_phase (ReadBlock j) = LooksAt j
first_phase (WriteBlock j bytes) = OrdersAt j
first_phase ReadStripe = Looks
first_phase (WriteStripe bytes) = Orders

-- a new stamp has the clock's time, or the first that is above all that the brick knows
abbrev pub next_time : ℕ → ℕ → ℕ
next_time now known = max now (known + 1)

-- a brick's new stamp of a view, at this time of its clock
abbrev pub new_stamp : BrickId → ViewNo → ℕ → ℕ → ℕ → Stamp
new_stamp me view now boot known = record { view = view; time = next_time now known; brick = me; boot = boot }

-- the stamp of a new round, while a time is left
abbrev pub fresh_stamp : BrickId → ViewNo → ℕ → ℕ → ℕ → Option Stamp
fresh_stamp me view now boot known = if has_later_time known then Some (new_stamp me view now boot known) else None

-- the content that an operation knows from its beginning: what a stripe write is given
abbrev pub given_content : Op → List ℕ
given_content (ReadBlock j) = []
given_content (WriteBlock j bytes) = []
given_content ReadStripe = []
given_content (WriteStripe bytes) = bytes

-- the coordinator of a new operation, in a view of the group, which the view's members keep
abbrev pub coordinator_in : Group → View → BrickId → ℕ → Node → Ask → Coordinator
coordinator_in group view me now node ask =
    record {
      group = group;
      prior = view.prior;
      only = None;
      ask = ask;
      stamp = new_stamp me view.number now node.boot node.known;
      round = 1;
      base = None;
      content = given_content ask.op;
      call = record { boot = node.boot; seq = node.seq + 1; phase = 1; group = ask.group; view = view.number; stripe = ask.stripe };
      phase = first_phase ask.op;
      counted = [];
    }

-- the same, in the view that its brick has learnt
abbrev pub new_coordinator : Group → BrickId → ℕ → Node → Ask → Coordinator
new_coordinator group me now node ask = coordinator_in group (node.learnt ask.group.0).view me now node ask

-- the brick with a new open operation
abbrev pub opened : Node → Coordinator → Node
opened node c =
    record node { seq = c.call.seq; known = c.stamp.time; busy = node.busy + 1; calls = put node.calls c.call.seq (Some c) }

abbrev pub began_in : Setting → BrickId → Node → Coordinator → NodeStep
began_in setting me node c = sending (opened node c) (phase_packets setting me c)

-- A brick begins an operation that is not refused, in the view that it has learnt: the operation's call is the brick's last.
abbrev pub began : Setting → BrickId → ℕ → Node → Ask → Option Group → NodeStep
began setting me now node ask None = no_step node
began setting me now node ask (Some group) = began_in setting me node (new_coordinator group me now node ask)

unfoldable pub invoked : Setting → BrickId → ℕ → Node → Ask → NodeStep
invoked setting me now node ask = began setting me now node ask (group_at setting.layout node ask.group.0)

-- the brick's part of a call's stripe, in the call's view
abbrev pub replica_at : Node → Call → Replica
replica_at node call = node.replicas call.group.0 call.view.0 call.stripe.0

-- parts of stripes, by group, view and stripe, with that of a call changed
abbrev pub with_part : (ℕ → ℕ → ℕ → Replica) → Call → Replica → ℕ → ℕ → ℕ → Replica
with_part replicas call replica =
    put replicas call.group.0 (put (replicas call.group.0) call.view.0 (put (replicas call.group.0 call.view.0) call.stripe.0 replica))

-- live records of each view, by group and view, with those of a call's view changed by a reaction
abbrev pub with_live : (ℕ → ℕ → ℕ) → Call → Reaction → ℕ → ℕ → ℕ
with_live live_in call reaction =
    put live_in call.group.0 (put (live_in call.group.0) call.view.0 (live_in call.group.0 call.view.0 + reaction.adds - reaction.drops))

-- the brick with its part of a stripe changed, and its live records counted
abbrev pub with_replica : Node → Call → Reaction → Node
with_replica node call reaction =
    record node {
      live = node.live + reaction.adds - reaction.drops;
      live_in = with_live node.live_in call reaction;
      replicas = with_part node.replicas call reaction.replica;
    }

-- so many live records, where those are as many as a brick may keep
abbrev pub full_at : ℕ → ℕ → Option ℕ
full_at records live = if nat_eq live records then Some live else None

-- the reply goes back with the request's call
abbrev pub reply_packets : BrickId → BrickId → Call → Option Reply → List Packet
reply_packets me to call None = []
reply_packets me to call (Some reply) = record { from = me; to = to; message = Message.Reply call reply } ∷ []

abbrev pub reacted : BrickId → BrickId → Node → Call → Reaction → NodeStep
reacted me from node call reaction =
    sending (with_replica node call reaction) (reply_packets me from call reaction.reply)

-- a member handles a request of a stripe of m data blocks; another brick ignores it
abbrev pub requested_at : Setting → ℕ → BrickId → BrickId → Node → Call → Request → Option ℕ → NodeStep
requested_at setting m me from node call request None = no_step node
requested_at setting m me from node call request (Some seat) =
    reacted me from node call (handle setting.code m (full_at setting.layout.records node.live) seat (replica_at node call) request)

-- a call is of the view that the brick has learnt
abbrev pub is_now : Node → Call → Bool
is_now node call = nat_eq call.view.0 (view_at node call.group.0)

-- the view of a call has a successor: there is a number for it
abbrev pub has_successor : Call → Bool
has_successor call = nat_lt call.view.0 (2 ^ 32 - 1)

-- what a seat is sent to modify its block by has the length of a block, or none where its block stays as it is; of no seat it may have any
abbrev pub fits_change : ℕ → ℕ → ℕ → List ℕ → Option ℕ → Bool
fits_change block m j delta None = true
fits_change block m j delta (Some seat) = nat_eq (length delta) (if is_changed m j seat then block else 0)

-- What a request names fits a group of m data blocks, at a seat of the learnt view or at none: what is to be stored is a block; one of the m data blocks changes,
-- by as many bytes as that seat's block does; and a ballot is for a view that has a successor, and a list to accept may keep the group.
abbrev pub fits : Layout → ℕ → Call → Request → Option ℕ → Bool
fits layout m call (Request.Write t bytes) seat = nat_eq (length bytes) layout.block
fits layout m call (Request.Modify t base j delta) seat = nat_lt j m && fits_change layout.block m j delta seat
fits layout m call (Request.Prepare ballot) seat = has_successor call
fits layout m call (Request.Accept ballot members) seat = has_successor call && is_membership m layout.bricks members
fits layout m call request seat = true

-- the brick's seat in the view of a call, where that is the view that it has learnt
abbrev pub seat_now : BrickId → Node → Call → Group → Option ℕ
seat_now me node call group = if is_now node call then seat_in group.members me.0 else None

-- A request is void: it is of a stripe that the group has not, of view 0, of a view later than the brick has learnt, or of that view though the brick is no
-- member of it; or it names what does not fit.
abbrev pub is_void : Layout → BrickId → Node → Call → Request → Group → Bool
is_void layout me node call request group =
    not (nat_lt call.stripe.0 group.stripes) || (nat_eq call.view.0 0 || (nat_lt (view_at node call.group.0) call.view.0
    || ((is_now node call && not (is_some (seat_now me node call group))) || not (fits layout group.m call request (seat_now me node call group)))))

-- how a brick tells that it serves the view of a call no more, where it does not: it has learnt a later view, which it tells; or it has accepted a list to
-- follow that view
abbrev pub moved_at : Node → Call → Option Reply
moved_at node call =
    if nat_lt call.view.0 (view_at node call.group.0) then Some (moved_to (node.learnt call.group.0).view)
    else if has_accepted node call.group.0 then Some (Moved (record { 0 = call.view.0 + 1 }) None)
    else None

-- a brick tells that it serves the call's view no more; or else it handles the request at its seat
abbrev pub served_unless : Setting → ℕ → BrickId → BrickId → Node → Call → Request → Option ℕ → Option Reply → NodeStep
served_unless setting m me from node call request seat None = requested_at setting m me from node call request seat
served_unless setting m me from node call request seat (Some moved) = sending node (reply_packets me from call (Some moved))

-- a brick's vote on a ballot, for the successor of the view of a call
abbrev pub vote_at : Node → Call → Ballot → Option (List BrickId) → Voted
vote_at node call ballot asks = voting call.view.0 (node.learnt call.group.0) (node.ballots call.group.0) ballot asks

-- the brick keeps what its vote leaves of ballots, and sends its reply
abbrev pub voted_on : BrickId → BrickId → Node → Call → Voted → NodeStep
voted_on me from node call vote =
    sending (record node { ballots = put node.ballots call.group.0 vote.kept }) (reply_packets me from call (Some vote.reply))

-- What a brick answers that is asked for what it keeps in the view of a call: that it has dropped that, or, where it serves the view no more, its newest version
-- there below a bound. In the view that it still serves it answers nothing.
abbrev pub old_reply : Node → Call → Option Stamp → Option Reply
old_reply node call bound =
    if nat_lt call.view.0 (first_kept (node.learnt call.group.0)) then Some Retired
    else if is_some (moved_at node call) then Some (Old (newest_of (under bound (replica_at node call).log)))
    else None

-- What a brick does with a request that is not void. It collects in the view that it has learnt, though it accepted a list to follow that; it tells what it keeps
-- in a view that it serves no more; it votes on a ballot; and it handles each other request in the view that it serves.
abbrev pub requested_as : Setting → Group → BrickId → BrickId → Node → Call → Request → NodeStep
requested_as setting group me from node call (Request.Collect t) =
    requested_at setting group.m me from node call (Request.Collect t) (seat_now me node call group)
requested_as setting group me from node call (Request.OldRead bound) = sending node (reply_packets me from call (old_reply node call bound))
requested_as setting group me from node call (Request.Prepare ballot) = voted_on me from node call (vote_at node call ballot None)
requested_as setting group me from node call (Request.Accept ballot members) = voted_on me from node call (vote_at node call ballot (Some members))
requested_as setting group me from node call request =
    served_unless setting group.m me from node call request (seat_now me node call group) (moved_at node call)

-- a void request is ignored
abbrev pub requested_in : Setting → BrickId → BrickId → Node → Call → Request → Option Group → NodeStep
requested_in setting me from node call request None = no_step node
requested_in setting me from node call request (Some group) =
    if is_void setting.layout me node call request group then no_step node else requested_as setting group me from node call request

-- a brick handles a request
unfoldable pub requested : Setting → BrickId → BrickId → Node → Call → Request → NodeStep
requested setting me from node call request =
    requested_in setting me from node call request (group_at setting.layout node call.group.0)

-- ---- views

-- of these numbers of live records, by view, those of the views before the first that is kept
abbrev pub live_before : ℕ → (ℕ → ℕ) → ℕ
live_before zero live = 0
live_before (suc first) live = live_before first live + live first

-- the brick without what it kept of a group in the views before this one
abbrev pub dropping : ℕ → ℕ → ℕ → Node → Node
dropping block group first node =
    record node {
      live = node.live - live_before first (node.live_in group);
      live_in = put node.live_in group (λ view. if nat_lt view first then 0 else node.live_in group view);
      replicas = put node.replicas group (λ view stripe. if nat_lt view first then fresh_replica block view else node.replicas group view stripe);
    }

-- The brick has learnt this of a group. What it kept of ballots for the successor of another view it forgets, and what it kept of the group in the views
-- before the first that is kept.
abbrev pub with_learnt : ℕ → ℕ → Node → Learnt → Node
with_learnt block group node learnt =
    dropping block group (first_kept learnt)
    (record node {
      learnt = put node.learnt group learnt;
      ballots = put node.ballots group (if nat_eq learnt.view.number.0 (view_at node group) then node.ballots group else None);
    })

-- the brick once it is taught a view of a group: a later one than it has learnt it learns
unfoldable pub node_taught : ℕ → ℕ → Node → View → Node
node_taught block group node view =
    if is_later (node.learnt group) view then with_learnt block group node (learns (node.learnt group) view) else node

-- the same, if it is taught one
abbrev pub node_taught_by : ℕ → ℕ → Node → Option View → Node
node_taught_by block group node None = node
node_taught_by block group node (Some view) = node_taught block group node view

-- a view may be taught of a group that the layout has, where its lists may keep that
abbrev pub may_teach : Layout → Option View → Option Group → Bool
may_teach layout view None = false
may_teach layout view (Some group) = may_be_taught group.m layout.bricks view

-- the brick after a message that teaches a view of a group
unfoldable pub node_learnt : Layout → Node → GroupId → View → Node
node_learnt layout node group view =
    if may_teach layout (Some view) (group_of layout group.0) then node_taught layout.block group.0 node view else node

-- The brick once it hears that all stripes of a group are kept in the view of a number. Where that is the view that it has learnt, it drops what it kept in the
-- view before.
unfoldable pub node_synced : Layout → Node → GroupId → ViewNo → Node
node_synced layout node group number =
    if is_some (group_of layout group.0) && is_unsynced (node.learnt group.0) number.0
    then with_learnt layout.block group.0 node (notes_synced (node.learnt group.0) number.0) else node

-- the time that a reply makes known
abbrev pub known_after : ℕ → Reply → ℕ
known_after known (Reply.Later t) = max known t.time
known_after known reply = known

-- the brick knows this time, and has this operation open, or ended
abbrev pub with_call : Node → ℕ → ℕ → ℕ → Option Coordinator → Node
with_call node known busy seq call = record node { known = known; busy = busy; calls = put node.calls seq call }

-- the brick knows this time
abbrev pub with_known : Node → ℕ → Node
with_known node known = record node { known = known }

-- the brick knows the round that a reply tells
abbrev pub with_round : Node → Reply → Node
with_round node reply = record node { round = round_after node.round reply }

-- what is told of the version that a read answered at once, if it did
abbrev pub seen_told : ℕ → Option Stamp → List Told
seen_told seq None = []
seen_told seq (Some v) = Seen seq v ∷ []

-- what a brick does with what its coordinator decided
abbrev pub carried_out : Setting → BrickId → Node → ℕ → Coordinator → Next → NodeStep
carried_out setting me node known c Ignores = no_step (with_known node known)
carried_out setting me node known c (Waits d) = no_step (with_call node known node.busy c.call.seq (Some d))
carried_out setting me node known c (Sends d) =
    sending (with_call node (max known d.stamp.time) node.busy c.call.seq (Some d)) (phase_packets setting me d)
carried_out setting me node known c (Makes d) =
    record {
      node = with_call node known node.busy c.call.seq (Some d);
      packets = phase_packets setting me d;
      told = Made c.call.seq d.stamp d.base ∷ [];
      answers = [];
      reports = [];
    }
carried_out setting me node known c (Ends answer seen stored) =
    record {
      node = with_call node known (node.busy - 1) c.call.seq None;
      packets = collect_packets me c stored;
      told = seen_told c.call.seq seen;
      answers = record { seq = c.call.seq; answer = answer } ∷ [];
      reports = [];
    }

-- ---- proposals

-- a message that teaches each brick of the disk from this number on, so many of them, this view
abbrev pub learn_packets : BrickId → GroupId → View → ℕ → ℕ → List Packet
learn_packets me group view zero brick = []
learn_packets me group view (suc left) brick =
    record { from = me; to = record { 0 = brick }; message = Message.Learn group view } ∷ learn_packets me group view left (brick + 1)

-- the brick with this proposal, or with none
abbrev pub with_proposal : Node → Option Proposal → Node
with_proposal node proposal = record node { proposal = proposal }

-- the view that a proposal decided, as its successor
abbrev pub decided_view : Proposal → ViewNo → List BrickId → View
decided_view p number members = record { number = number; members = members; prior = p.view.members }

-- what a brick sends once its proposal ended so: it teaches all bricks the view that was decided
abbrev pub ended_packets : Layout → BrickId → Proposal → ViewAnswer → List Packet
ended_packets layout me p (answer.Decided number members) = learn_packets me p.call.group (decided_view p number members) layout.bricks 0
ended_packets layout me p ended = []

-- a brick reports the end of its proposal, synchronisation or scrub, and sends what that asks for
abbrev pub reporting : Node → List Packet → Report → NodeStep
reporting node packets report = record { node = node; packets = packets; told = []; answers = []; reports = report ∷ [] }

-- what a brick does with what its proposal decided
abbrev pub carried_ballot : Layout → BrickId → Node → Proposal → Voting → NodeStep
carried_ballot layout me node p Ignored = no_step node
carried_ballot layout me node p (Waited q) = no_step (with_proposal node (Some q))
carried_ballot layout me node p (Asks q) = sending (with_proposal node (Some q)) (ballot_packets me q)
carried_ballot layout me node p (Ended call ended) =
    reporting (with_proposal node None) (ended_packets layout me p ended) (Report.View p.call.group (Some call) ended)

-- a reply to this proposal, if there is one
abbrev pub replied_ballot : Layout → BrickId → BrickId → Node → Call → Reply → Option Proposal → NodeStep
replied_ballot layout me from node call reply None = no_step node
replied_ballot layout me from node call reply (Some p) = carried_ballot layout me node p (voted layout.bricks p from call reply)

-- ---- synchronisation

-- two steps, one after the other
abbrev pub then_does : NodeStep → NodeStep → NodeStep
then_does first second =
    record {
      node = second.node;
      packets = first.packets ++ second.packets;
      told = first.told ++ second.told;
      answers = first.answers ++ second.answers;
      reports = first.reports ++ second.reports;
    }

-- the brick with this synchronisation, or with none
abbrev pub with_job : Node → Option Job → Node
with_job node job = record node { job = job }

-- the brick with a new read of its own, which no client asked for: its call is the brick's last, and it is none of the operations of which a brick may have so
-- many open
abbrev pub reading_aside : Node → Coordinator → Node
reading_aside node c = record node { seq = c.call.seq; known = c.stamp.time; calls = put node.calls c.call.seq (Some c) }

-- a read of its own begins, which leaves the brick so
abbrev pub begun_aside : Setting → BrickId → Node → Coordinator → NodeStep
begun_aside setting me node c =
    record { node = node; packets = phase_packets setting me c; told = Began c.call ∷ []; answers = []; reports = [] }

-- the brick with a new read of its synchronisation
abbrev pub reading : Node → Job → Coordinator → Node
reading node job c = with_job (reading_aside node c) (Some (record job { seq = c.call.seq }))

-- the read begins
abbrev pub read_begun_by : Setting → BrickId → Node → Job → Coordinator → NodeStep
read_begun_by setting me node job c = begun_aside setting me (reading node job c) c

-- A brick begins to read for its synchronisation, in the view of that. Where it has no later time or no further call number, the synchronisation ends.
abbrev pub read_begun_in : Setting → BrickId → ℕ → Node → Job → Option Group → NodeStep
read_begun_in setting me now node job None = no_step node
read_begun_in setting me now node job (Some group) =
    if is_spent node then reporting (with_job node None) [] (Report.Sync job.group (spent_answer job.attempt))
    else read_begun_by setting me node job (coordinator_in group job.view me now node (job_ask job))

abbrev pub read_begun : Setting → BrickId → ℕ → Node → Job → NodeStep
read_begun setting me now node job = read_begun_in setting me now node job (group_kept setting.layout job.view.members job.group.0)

-- a message that tells each brick of the disk from this number on, so many of them, that all stripes are kept in the view of this number
abbrev pub synced_packets : BrickId → GroupId → ViewNo → ℕ → ℕ → List Packet
synced_packets me group view zero brick = []
synced_packets me group view (suc left) brick =
    record { from = me; to = record { 0 = brick }; message = Message.Synced group view } ∷ synced_packets me group view left (brick + 1)

-- what a brick does with what its synchronisation does next
abbrev pub job_goes : Setting → BrickId → ℕ → Node → Job → JobNext → NodeStep
job_goes setting me now node job (Reads attempt) = read_begun setting me now node (record job { attempt = attempt })
job_goes setting me now node job Finishes =
    reporting (with_job node None) (synced_packets me job.group job.view.number setting.layout.bricks 0) (Report.Sync job.group (synced_answer job.view.number))
job_goes setting me now node job (GivesUp cause) = reporting (with_job node None) [] (Report.Sync job.group (stopped_answer job.attempt cause))

-- a read of the brick's own ends, for its synchronisation or its scrub: it is answered to nobody
abbrev pub read_closed : BrickId → Node → ℕ → Coordinator → Answer → Option Stamp → Option Stamp → NodeStep
read_closed me node known c answer seen stored =
    record {
      node = with_call node known node.busy c.call.seq None;
      packets = collect_packets me c stored;
      told = seen_told c.call.seq seen ++ (Closed c.call.seq (abort_cause answer) ∷ []);
      answers = [];
      reports = [];
    }

-- What a brick does with what the coordinator of its synchronisation's read decided. Once the read has ended, the synchronisation goes on.
abbrev pub carried_read : Setting → BrickId → ℕ → Node → ℕ → Job → Coordinator → Next → NodeStep
carried_read setting me now node known job c (Ends answer seen stored) =
    (let closed : NodeStep = read_closed me node known c answer seen stored in
    then_does closed (job_goes setting me now closed.node job (job_after c.group.stripes job.attempt (abort_cause answer))))
carried_read setting me now node known job c next = carried_out setting me node known c next

-- the synchronisation whose read has a call's number, if it has one
abbrev pub job_reading : Option Job → ℕ → Option Job
job_reading None seq = None
job_reading (Some job) seq = if nat_eq job.seq seq then Some job else None

-- ---- scrubs

-- the brick with this scrub, or with none
abbrev pub with_scrub : Node → Option Scrub → Node
with_scrub node scrub = record node { scrub = scrub }

-- the coordinator of a new scrub of these members of a stripe, in the view that its brick has learnt
abbrev pub scrub_coordinator : Group → BrickId → ℕ → Node → GroupId → StripeNo → List BrickId → Coordinator
scrub_coordinator group me now node number stripe members =
    record (new_coordinator group me now node (scrub_ask number stripe)) { only = Some members }

-- the brick with a new scrub
abbrev pub scrubbing : Node → Coordinator → Node
scrubbing node c = with_scrub (reading_aside node c) (Some (record { seq = c.call.seq; lagging = [] }))

-- the scrub of these members ends: it is reported, with the call of its last phase
abbrev pub scrub_ended : Node → Call → List BrickId → ScrubAnswer → NodeStep
scrub_ended node call members answer = reporting (with_scrub node None) [] (Report.Scrub call members answer)

-- the members that a coordinator counts alone, none where it counts all
abbrev pub members_alone : Option (List BrickId) → List BrickId
members_alone None = []
members_alone (Some members) = members

-- What a brick does with what the coordinator of its scrub decided upon these replies. Once it has ended it is reported; and as a phase begins, it is known who
-- lagged.
abbrev pub carried_scrub : Setting → BrickId → Node → ℕ → Scrub → Coordinator → Coordinator → Next → NodeStep
carried_scrub setting me node known scrub c heard (Ends answer seen stored) =
    (let closed : NodeStep = read_closed me node known c answer seen stored in
    then_does closed (scrub_ended closed.node c.call (members_alone c.only) (scrub_answer scrub.lagging (abort_cause answer) stored)))
carried_scrub setting me node known scrub c heard (Sends d) =
    carried_out setting me (with_scrub node (Some (record scrub { lagging = lagging_after scrub heard }))) known c (Sends d)
carried_scrub setting me node known scrub c heard next = carried_out setting me node known c next

-- the scrub whose call has a number, if there is one
abbrev pub scrub_of : Option Scrub → ℕ → Option Scrub
scrub_of None seq = None
scrub_of (Some scrub) seq = if nat_eq scrub.seq seq then Some scrub else None

-- what a brick does with what a coordinator decided that is none of a synchronisation's read: that of this scrub, once it heard a reply, or of an operation
abbrev pub carried_unless_scrub : Setting → BrickId → Node → ℕ → Coordinator → Coordinator → Next → Option Scrub → NodeStep
carried_unless_scrub setting me node known c heard next None = carried_out setting me node known c next
carried_unless_scrub setting me node known c heard next (Some scrub) = carried_scrub setting me node known scrub c heard next

-- what a brick does with what a coordinator decided: that of a read for this synchronisation, of this scrub, or of an operation
abbrev pub carried_for : Setting → BrickId → ℕ → Node → ℕ → Coordinator → Coordinator → Next → Option Job → Option Scrub → NodeStep
carried_for setting me now node known c heard next None scrub = carried_unless_scrub setting me node known c heard next scrub
carried_for setting me now node known c heard next (Some job) scrub = carried_read setting me now node known job c next

-- ---- replies

-- a reply to this open operation, if there is one, or else to the proposal; a new round would have a stamp of its view
abbrev pub replied_at : Setting → BrickId → ℕ → BrickId → Node → Call → Reply → Option Coordinator → NodeStep
replied_at setting me now from node call reply None =
    replied_ballot setting.layout me from (with_known node (known_after node.known reply)) call reply node.proposal
replied_at setting me now from node call reply (Some c) =
    let known : ℕ = known_after node.known reply in
    carried_for setting me now node known c (hearing c from reply (counts_at setting.layout.block c from.0 call reply))
    (on_reply setting.layout.block setting.code (fresh_stamp me c.stamp.view now node.boot known) c from call reply) (job_reading node.job c.call.seq)
    (scrub_of node.scrub c.call.seq)

-- a reply counts in this open operation, or else in this proposal
abbrev pub counts_here : Layout → BrickId → Call → Reply → Option Proposal → Option Coordinator → Bool
counts_here layout from call reply proposal (Some c) = is_some (counts_at layout.block c from.0 call reply)
counts_here layout from call reply (Some p) None = is_some (seat_voting layout.bricks p from.0 call reply)
counts_here layout from call reply None None = false

-- the view that a reply teaches a brick, if it counts
abbrev pub view_counted : Layout → BrickId → Node → Call → Reply → Option View
view_counted layout from node call reply =
    if counts_here layout from call reply node.proposal (node.calls call.seq) then view_told reply else None

-- a step, once the brick was also taught a view, if it was
abbrev pub then_taught : ℕ → ℕ → Option View → NodeStep → NodeStep
then_taught block group view step = record step { node = node_taught_by block group step.node view }

-- a brick handles a reply, at this time of its clock: a view that a reply tells with its members it learns last, if the reply counts
unfoldable pub replied : Setting → BrickId → ℕ → BrickId → Node → Call → Reply → NodeStep
replied setting me now from node call reply =
    then_taught setting.layout.block call.group.0 (view_counted setting.layout from node call reply)
    (replied_at setting me now from (with_round node reply) call reply (node.calls call.seq))

-- the lists that a reply tells of a view may keep the call's group; a reply that tells another is left out
abbrev pub lists_fit : Layout → Call → Reply → Bool
lists_fit layout call reply = not (is_some (view_told reply)) || may_teach layout (view_told reply) (group_of layout call.group.0)

-- a brick handles a reply, or leaves it out but for the time and the round that it tells
abbrev pub heard : Setting → BrickId → ℕ → BrickId → Node → Call → Reply → NodeStep
heard setting me now from node call reply =
    if lists_fit setting.layout call reply then replied setting me now from node call reply
    else no_step (with_known (with_round node reply) (known_after node.known reply))

-- a brick handles a message, at this time of its clock
unfoldable pub received : Setting → BrickId → ℕ → Node → Packet → NodeStep
received setting me now node packet = received_as packet.message
  where
    received_as : Message → NodeStep
    received_as (Message.Request call request) = requested setting me packet.from node call request
    received_as (Message.Reply call reply) = heard setting me now packet.from node call reply
    received_as (Message.Learn group view) = no_step (node_learnt setting.layout node group view)
    received_as (Message.Synced group number) = no_step (node_synced setting.layout node group number)
    received_as message = no_step node

-- the node after a message whose handling was cut short once it had kept what it keeps: what it kept of a
-- request stays, and its reply is never sent; and so does a view that it learnt, or learnt to be synced
unfoldable pub absorbed : Setting → BrickId → Node → Packet → Node
absorbed setting me node packet = absorbed_as packet.message
  where
    absorbed_as : Message → Node
    absorbed_as (Message.Request call request) = (requested setting me packet.from node call request).node
    absorbed_as (Message.Reply call reply) = (
        if lists_fit setting.layout call reply
        then node_taught_by setting.layout.block call.group.0 node (view_counted setting.layout packet.from node call reply) else node
        )
    absorbed_as (Message.Learn group view) = node_learnt setting.layout node group view
    absorbed_as (Message.Synced group number) = node_synced setting.layout node group number
    absorbed_as message = node

-- each of these packets, right after one that teaches its receiver this view
abbrev pub each_taught : GroupId → View → List Packet → List Packet
each_taught group view [] = []
each_taught group view (packet ∷ packets) =
    record { from = packet.from; to = packet.to; message = Message.Learn group view } ∷ (packet ∷ each_taught group view packets)

-- packets of a view: those of a later one than view 1 teach their receivers that view first
abbrev pub teaching : GroupId → View → List Packet → List Packet
teaching group view packets = if nat_lt 1 view.number.0 then each_taught group view packets else packets

-- the view of an open operation
abbrev pub view_in : Coordinator → View
view_in c = record { number = c.stamp.view; members = c.group.members; prior = c.prior }

-- the present phase of an open operation again
abbrev pub resent : Setting → BrickId → Option Coordinator → List Packet
resent setting me None = []
resent setting me (Some c) =
    teaching c.call.group (view_in c) (resent_to me c.call (request_of setting.code c) c.counted 0 (asked_group c).members)

-- the present phase of a proposal again
abbrev pub ballot_resent : BrickId → Option Proposal → List Packet
ballot_resent me None = []
ballot_resent me (Some p) = teaching p.call.group p.view (ballot_packets me p)

-- the same of the calls 1 to k, in order
abbrev pub resent_up_to : Setting → BrickId → (ℕ → Option Coordinator) → ℕ → List Packet
resent_up_to setting me calls zero = []
resent_up_to setting me calls (suc k) = resent_up_to setting me calls k ++ resent setting me (calls (suc k))

-- the open operations but for the read of this synchronisation
abbrev pub calls_but_read : (ℕ → Option Coordinator) → Option Job → ℕ → Option Coordinator
calls_but_read calls None = calls
calls_but_read calls (Some job) = put calls job.seq None

-- the same but for this scrub
abbrev pub calls_but_scrub : (ℕ → Option Coordinator) → Option Scrub → ℕ → Option Coordinator
calls_but_scrub calls None = calls
calls_but_scrub calls (Some scrub) = put calls scrub.seq None

-- the read of this synchronisation
abbrev pub job_call : (ℕ → Option Coordinator) → Option Job → Option Coordinator
job_call calls None = None
job_call calls (Some job) = calls job.seq

-- the coordinator of this scrub
abbrev pub scrub_call : (ℕ → Option Coordinator) → Option Scrub → Option Coordinator
scrub_call calls None = None
scrub_call calls (Some scrub) = calls scrub.seq

-- what a brick sends at a tick of its clock: each open operation its present phase again, in the order of
-- beginning, then its proposal, the read of its synchronisation, and last its scrub
unfoldable pub ticked : Setting → BrickId → Node → List Packet
ticked setting me node =
    resent_up_to setting me (calls_but_scrub (calls_but_read node.calls node.job) node.scrub) node.seq
    ++ (ballot_resent me node.proposal ++ (resent setting me (job_call node.calls node.job) ++ resent setting me (scrub_call node.calls node.scrub)))

-- why a running brick does not begin to propose a successor of the view that it has learnt of a group, the first reason of these: there is no such group; it
-- has a proposal; or the next round, the successor or the next call has no number
abbrev pub proposal_refusal_in : Node → ℕ → Option Group → Option Refusal
proposal_refusal_in node number None = Some Refusal.NoStripe
proposal_refusal_in node number (Some group) =
    if is_some node.proposal then Some Refusal.Busy
    else if not (nat_lt node.round (2 ^ 32 - 1)) || (not (nat_lt (view_at node number) (2 ^ 32 - 1)) || nat_eq node.seq (2 ^ 64 - 1)) then Some Refusal.Spent
    else None

unfoldable pub proposal_refusal : Layout → Node → ℕ → Option Refusal
proposal_refusal layout node number = proposal_refusal_in node number (group_of layout number)

-- the next call of a brick
abbrev pub next_call : Node → CallId
next_call node = record { boot = node.boot; seq = node.seq + 1 }

-- the proposal of a list as the successor of the view that a brick has learnt of a group, under its next ballot
abbrev pub new_proposal : BrickId → Node → ℕ → GroupId → List BrickId → Proposal
new_proposal me node m group members =
    begun_proposal m group (node.learnt group.0).view (next_call node) (next_ballot node.round me (next_call node)) members

-- the brick with a new proposal: its call is the brick's last, and its round the greatest that it used
abbrev pub proposing : Node → Proposal → Node
proposing node p = record node { seq = p.call.seq; round = p.ballot.round; proposal = Some p }

-- A brick begins a proposal that is not refused. A list that may not keep the group ends it at once, and uses up neither a call nor a round.
abbrev pub proposed_in : Setting → BrickId → Node → GroupId → List BrickId → Option Group → NodeStep
proposed_in setting me node group members None = no_step node
proposed_in setting me node group members (Some kept) =
    if is_membership kept.m setting.layout.bricks members
    then (let p = new_proposal me node kept.m group members in sending (proposing node p) (ballot_packets me p))
    else reporting node [] (Report.View group None answer.BadMembers)

unfoldable pub proposed : Setting → BrickId → Node → GroupId → List BrickId → NodeStep
proposed setting me node group members = proposed_in setting me node group members (group_of setting.layout group.0)

-- why a running brick does not begin to synchronise the view that it has learnt of a group
unfoldable pub sync_refusal : Layout → Node → ℕ → Option Refusal
sync_refusal layout node number = sync_refusal_in node.job (group_of layout number)

-- A brick begins a synchronisation that is not refused, of the view that it has learnt. If all stripes are known to be kept in that, it ends at once.
unfoldable pub synced_at : Setting → BrickId → ℕ → Node → GroupId → NodeStep
synced_at setting me now node group =
    if (node.learnt group.0).synced then reporting node [] (Report.Sync group (synced_answer (node.learnt group.0).view.number))
    else read_begun setting me now node (begun_job group (node.learnt group.0).view)

-- Why a running brick does not begin to scrub these members of a stripe, the first reason of these: there is no such group or stripe; they are no distinct members
-- of the view that it has learnt, or fewer than a quorum of it; it has a scrub; or no later time or no further call number is left.
abbrev pub scrub_refusal_in : Node → StripeNo → List BrickId → Option Group → Option Refusal
scrub_refusal_in node stripe members None = Some Refusal.NoStripe
scrub_refusal_in node stripe members (Some group) =
    if not (nat_lt stripe.0 group.stripes) then Some Refusal.NoStripe
    else if not (names_quorum group members) then Some Refusal.NoQuorum
    else if is_some node.scrub then Some Refusal.Busy
    else if is_spent node then Some Refusal.Spent
    else None

unfoldable pub scrub_refusal : Layout → Node → GroupId → StripeNo → List BrickId → Option Refusal
scrub_refusal layout node group stripe members = scrub_refusal_in node stripe members (group_at layout node group.0)

-- A brick begins a scrub that is not refused, in the view that it has learnt.
abbrev pub scrubbed_in : Setting → BrickId → ℕ → Node → GroupId → StripeNo → List BrickId → Option Group → NodeStep
scrubbed_in setting me now node number stripe members None = no_step node
scrubbed_in setting me now node number stripe members (Some group) =
    (let c = scrub_coordinator group me now node number stripe members in begun_aside setting me (scrubbing node c) c)

unfoldable pub scrubbed_at : Setting → BrickId → ℕ → Node → GroupId → StripeNo → List BrickId → NodeStep
scrubbed_at setting me now node group stripe members = scrubbed_in setting me now node group stripe members (group_at setting.layout node group.0)

-- no operation is open
abbrev pub no_calls : ℕ → Option Coordinator
no_calls k = None

-- a brick that stopped: its open operations, its proposal, its synchronisation and its scrub are gone, and what it keeps of stripes stays
unfoldable pub stopped : Node → Node
stopped node = record node { busy = 0; calls = no_calls; proposal = None; job = None; scrub = None }

-- a stopped brick whose store was opened so many times since, the last time to run: it has made no call, and
-- knows no time and no round
unfoldable pub restarted : ℕ → Node → Node
restarted openings node =
    record node { boot = node.boot + openings; seq = 0; known = 0; round = 0; busy = 0; calls = no_calls; proposal = None; job = None; scrub = None }

-- the store can be opened so many times, at least once: it counts its openings, up to 2^32 - 1
abbrev pub may_open : ℕ → Node → Bool
may_open openings node = nat_lt 0 openings && nat_lt (node.boot + openings) (2 ^ 32)
