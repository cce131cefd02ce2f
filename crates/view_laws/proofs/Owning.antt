-- What handling a message leaves of a brick's own: its counters, its open operations and its proposal. And what an operation's phases keep: its view.
use Rattle.view_laws.proofs.Syncing.{synced_each}
use Rattle.protocol.specs.declared.phases.Dropper.{Dropper}
use Rattle.fab_base.specs.declared.identities.ViewNo.{ViewNo}
use Rattle.std.proofs.Common.{◌≡◌, ℕ, Option, Some, None, refl, nat_lt, ap}
use Rattle.std.specs.Prelude.{length}
use Rattle.std.proofs.lemmas.Bool.{cond_both}
use Rattle.fab_base.specs.declared.identities.BrickId.{BrickId}
use Rattle.fab_base.specs.declared.identities.GroupId.{GroupId}
use Rattle.fab_base.specs.declared.member_lists.View.{View}
use Rattle.fab_base.specs.declared.stamps.Stamp.{Stamp}
use Rattle.fab_base.specs.Layouts.{Layout, group_of}
use Rattle.messages.specs.declared.calls.Call.{Call}
use Rattle.messages.specs.declared.packets.Message.{Message}
use Rattle.messages.specs.declared.packets.Packet.{Packet}
use Rattle.messages.specs.declared.replies.Reply.{Reply}
use Rattle.messages.specs.declared.requests.Request.{Request}
use Rattle.protocol.specs.declared.phases.Phase.{Phase}
use Rattle.protocol.specs.declared.phases.Phase.TheVariants.{Looks, LooksAt, Orders, OrdersAt, Recovers, Descends, Modifies, Bases, Stores, LooksBack}
use Rattle.protocol.specs.declared.phases.Refuser.{Refuser}
use Rattle.protocol.specs.declared.phases.FullMember.{FullMember}
use Rattle.protocol.specs.declared.phases.Mover.{Mover}
use Rattle.protocol.specs.Settings.{Setting, Code}
use Rattle.protocol.specs.Views.{learns, is_later}
use Rattle.protocol.specs.Coordinators.{Coordinator, Next, Ignores, Waits, Sends, Makes, Ends, in_phase, reordering, forgetting, most_rounds, aborted_by, once_ordered, unless_refused, unless_told_full, unless_told_moved, answered_fast, answered_fast_at, fast_version, fast_version_at, common_version_at, read_back, pieces_at, modified_if, once_modified, some_behind, rebuilt, greatest_refuser, greatest_found, lowest_full, lowest_mover, decided, with_reply, once_full, counted_at, counts_at, on_reply, needed, may_look_back, lower_phase, lowest_dropper, unless_told_gone}
use Rattle.protocol.specs.Nodes.{Node, NodeStep, view_in, with_learnt, node_taught, node_taught_by, may_teach, node_learnt, lists_fit, view_counted, requested, absorbed, node_synced, has_later_time, new_stamp, fresh_stamp}
use Rattle.protocol.proofs.Served.{request_each}

-- a brick's own stays: how often its store was opened, its last call and round, its operations, its proposal, its synchronisation
-- and its scrub
pub record KeepsOwn (node next : Node) : Type 0 where
  pub boot : next.boot ≡ node.boot
  pub seq : next.seq ≡ node.seq
  pub round : next.round ≡ node.round
  pub proposal : next.proposal ≡ node.proposal
  pub calls : next.calls ≡ node.calls
  pub job : next.job ≡ node.job
  pub scrub : next.scrub ≡ node.scrub

-- a brick that does not change keeps its own
pub own_same : (node : Node) → KeepsOwn node node
own_same node = record { boot = refl; seq = refl; round = refl; proposal = refl; calls = refl; job = refl; scrub = refl }

-- a request leaves it as it is
pub requested_own : (setting : Setting) (me from : BrickId) (node : Node) (call : Call) (request : Request)
    → KeepsOwn node (requested setting me from node call request).node
requested_own setting me from node call request =
    request_each (λ (step : NodeStep). KeepsOwn node step.node) setting me from node call request (own_same node) (λ reply is. own_same node)
    (λ group seat is served. record { boot = refl; seq = refl; round = refl; proposal = refl; calls = refl; job = refl; scrub = refl })
    (λ group ballot asks is. record { boot = refl; seq = refl; round = refl; proposal = refl; calls = refl; job = refl; scrub = refl })

-- so does a view that is taught
pub taught_own : (block group : ℕ) (node : Node) (view : Option View) → KeepsOwn node (node_taught_by block group node view)
unfolding node_taught
taught_own block group node None = own_same node
taught_own block group node (Some view) =
    cond_both (is_later (node.learnt group) view) (with_learnt block group node (learns (node.learnt group) view)) node (λ (n : Node). KeepsOwn node n)
    (λ later. record { boot = refl; seq = refl; round = refl; proposal = refl; calls = refl; job = refl; scrub = refl }) (λ isnt. own_same node)

-- so does a message that teaches a view
pub learnt_own : (layout : Layout) (node : Node) (group : GroupId) (view : View) → KeepsOwn node (node_learnt layout node group view)
unfolding node_learnt
learnt_own layout node group view =
    cond_both (may_teach layout (Some view) (group_of layout group.0)) (node_taught layout.block group.0 node view) node (λ (n : Node). KeepsOwn node n)
    (λ may. taught_own layout.block group.0 node (Some view)) (λ isnt. own_same node)

-- so does a message that all stripes are kept in a view
pub synced_own : (layout : Layout) (node : Node) (group : GroupId) (number : ViewNo) → KeepsOwn node (node_synced layout node group number)
synced_own layout node group number =
    synced_each (λ (n : Node). KeepsOwn node n) layout node group number (own_same node)
    (λ now unsynced. record { boot = refl; seq = refl; round = refl; proposal = refl; calls = refl; job = refl; scrub = refl })

-- so does what is kept of a message whose handling was cut short
pub absorbed_own : (setting : Setting) (me : BrickId) (node : Node) (packet : Packet) → KeepsOwn node (absorbed setting me node packet)
unfolding absorbed
absorbed_own setting me node packet = by packet.message
  where
    by : (message : Message) → KeepsOwn node (absorbed setting me node (record { from = packet.from; to = packet.to; message = message }))
    by (Message.Request call request) = requested_own setting me packet.from node call request
    by (Message.Reply call reply) =
        cond_both (lists_fit setting.layout call reply)
        (node_taught_by setting.layout.block call.group.0 node (view_counted setting.layout packet.from node call reply)) node (λ (n : Node). KeepsOwn node n)
        (λ fit. taught_own setting.layout.block call.group.0 node (view_counted setting.layout packet.from node call reply)) (λ isnt. own_same node)
    by (Message.Learn group view) = learnt_own setting.layout node group view
    by (Message.Synced group number) = synced_own setting.layout node group number
    by (Message.Client ask) = own_same node
    by (Message.ClientReply id answer) = own_same node

-- ---- the view of an operation

-- the operation is of the same view of the same group, by the same call
pub record SameCall (c d : Coordinator) : Type 0 where
  pub group : d.call.group ≡ c.call.group
  pub view : view_in d ≡ view_in c

-- what a coordinator decides keeps the view of its operation
abbrev pub KeepsView : Coordinator → Next → Type 0
KeepsView c Ignores = Unit {0}
KeepsView c (Waits d) = SameCall c d
KeepsView c (Sends d) = SameCall c d
KeepsView c (Makes d) = SameCall c d
KeepsView c (Ends answer seen stored) = Unit {0}

-- unless a member told that it moved, that it is full, or of a later stamp
moved_view_kept : (c : Coordinator) (m : Option Mover) (next : Next) → KeepsView c next → KeepsView c (unless_told_moved m next)
moved_view_kept c None next is = is
moved_view_kept c (Some m) next is = tt

-- unless one told that it has dropped the versions of the view before
gone_view_kept : (c : Coordinator) (d : Option Dropper) (next : Next) → KeepsView c next → KeepsView c (unless_told_gone d next)
gone_view_kept c None next is = is
gone_view_kept c (Some d) next is = tt

-- unless one told that its store is full
full_view_kept : (c : Coordinator) (f : Option FullMember) (next : Next) → KeepsView c next → KeepsView c (unless_told_full f next)
full_view_kept c None next is = is
full_view_kept c (Some f) next is = tt

-- unless one told a later stamp
refused_view_kept : (c : Coordinator) (r : Option Refuser) (next : Next) → KeepsView c next → KeepsView c (unless_refused r next)
refused_view_kept c None next is = is
refused_view_kept c (Some r) next is = tt

-- the stamp of a new round is of this view
abbrev pub IsFreshOf : ViewNo → Option Stamp → Type 0
IsFreshOf view None = Unit {0}
IsFreshOf view (Some t) = t.view ≡ view

-- a brick's fresh stamp is of the view that it is made for
pub fresh_of : (me : BrickId) (view : ViewNo) (now boot known : ℕ) → IsFreshOf view (fresh_stamp me view now boot known)
fresh_of me view now boot known =
    cond_both (has_later_time known) (Some (new_stamp me view now boot known)) None (λ (z : Option Stamp). IsFreshOf view z) (λ has. refl) (λ hasnt. tt)

-- an order that was refused is tried again in the same view
ordered_view_kept : (fresh : Option Stamp) (c : Coordinator) (r : Option Refuser) (next : Next) → IsFreshOf c.stamp.view fresh → KeepsView c next
    → KeepsView c (once_ordered fresh c r next)
ordered_view_kept fresh c None next of is = is
ordered_view_kept None c (Some r) next of is = tt
ordered_view_kept (Some t) c (Some r) next of is =
    cond_both (nat_lt c.round most_rounds) (Sends (reordering c t)) (aborted_by r) (λ (z : Next). KeepsView c z)
    (λ less. record {
      group = refl;
      view = ap (λ (v : ViewNo). record { number = v; members = c.group.members; prior = c.prior }) of;
    })
    (λ isnt. tt)

-- so are a recovery, a change of a block, and a base that is read back
read_view_kept : (block : ℕ) (code : Code) (c : Coordinator) (v : Option Stamp) → KeepsView c (read_back block code c v)
read_view_kept block code c None =
    cond_both (may_look_back c) (Sends (in_phase c (LooksBack None))) (Waits (forgetting c)) (λ (z : Next). KeepsView c z)
    (λ may. record { group = refl; view = refl }) (λ isnt. record { group = refl; view = refl })
read_view_kept block code c (Some v) =
    cond_both (nat_lt (length (pieces_at v c.counted)) c.group.m) (Sends (in_phase c (lower_phase c.phase v))) _ (λ (z : Next). KeepsView c z)
    (λ few. record { group = refl; view = refl }) (λ enough. record { group = refl; view = refl })

-- so is a change of a block
modified_view_kept : (code : Code) (c : Coordinator) (j : ℕ) (v : Option Stamp) → KeepsView c (modified_if code c j v)
modified_view_kept code c j None = record { group = refl; view = refl }
modified_view_kept code c j (Some v) = record { group = refl; view = refl }

-- or its end
once_modified_view_kept : (c : Coordinator) (base : Stamp) → KeepsView c (once_modified c base)
once_modified_view_kept c base =
    cond_both (some_behind c.counted) (Sends (in_phase c (Bases base))) _ (λ (z : Next). KeepsView c z) (λ behind. record { group = refl; view = refl }) (λ isnt. tt)

-- or its base, read back
rebuilt_view_kept : (block : ℕ) (code : Code) (c : Coordinator) (base : Stamp) → KeepsView c (rebuilt block code c base)
rebuilt_view_kept block code c base =
    cond_both (nat_lt (length (pieces_at base c.counted)) c.group.m) (Waits (forgetting c)) _ (λ (z : Next). KeepsView c z)
    (λ few. record { group = refl; view = refl }) (λ enough. record { group = refl; view = refl })

-- so is a read that may answer at once
fast_view_kept : (code : Code) (c : Coordinator) (v : Option Stamp) → KeepsView c (answered_fast code c v)
fast_view_kept code c None = record { group = refl; view = refl }
fast_view_kept code c (Some v) = tt

-- or one of a block
fast_at_view_kept : (c : Coordinator) (j : ℕ) (v : Option Stamp) → KeepsView c (answered_fast_at c j v)
fast_at_view_kept c j None = record { group = refl; view = refl }
fast_at_view_kept c j (Some v) = tt

-- what a quorum of replies decides keeps the view
decided_view_kept : (block : ℕ) (code : Code) (fresh : Option Stamp) (c : Coordinator) → IsFreshOf c.stamp.view fresh → KeepsView c (decided block code fresh c)
unfolding decided
decided_view_kept block code fresh c of = by c.phase
  where
    at : Phase → Coordinator
    at phase = record c { phase = phase }

    unrefused : (phase : Phase) (next : Next) → KeepsView (at phase) next
        → KeepsView (at phase)
        (unless_told_moved (lowest_mover c.counted) (unless_told_gone (lowest_dropper c.counted) (unless_told_full (lowest_full c.counted) next)))
    unrefused phase next is =
        moved_view_kept (at phase) (lowest_mover c.counted) _
        (gone_view_kept (at phase) (lowest_dropper c.counted) _ (full_view_kept (at phase) (lowest_full c.counted) next is))

    by : (phase : Phase) → KeepsView (at phase) (decided block code fresh (at phase))
    by Looks = unrefused Looks _ (fast_view_kept code (at Looks) (fast_version c.counted))
    by (LooksAt j) = unrefused (LooksAt j) _ (fast_at_view_kept (at (LooksAt j)) j (fast_version_at j c.counted))
    by Orders = unrefused Orders _ (ordered_view_kept fresh (at Orders) (greatest_refuser c.counted) (Makes (in_phase (at Orders) Stores)) of (record { group = refl; view = refl }))
    by (OrdersAt j) =
        unrefused (OrdersAt j) _ (ordered_view_kept fresh (at (OrdersAt j)) (greatest_refuser c.counted)
        (modified_if code (at (OrdersAt j)) j (common_version_at j c.counted)) of (modified_view_kept code (at (OrdersAt j)) j (common_version_at j c.counted)))
    by Recovers =
        unrefused Recovers _ (ordered_view_kept fresh (at Recovers) (greatest_refuser c.counted)
        (read_back block code (at Recovers) (greatest_found c.counted)) of (read_view_kept block code (at Recovers) (greatest_found c.counted)))
    by (Descends bound) =
        unrefused (Descends bound) _ (refused_view_kept (at (Descends bound)) (greatest_refuser c.counted)
        (read_back block code (at (Descends bound)) (greatest_found c.counted)) (read_view_kept block code (at (Descends bound)) (greatest_found c.counted)))
    by (LooksBack bound) = unrefused (LooksBack bound) _ (read_view_kept block code (at (LooksBack bound)) (greatest_found c.counted))
    by (Modifies base j) =
        unrefused (Modifies base j) _ (refused_view_kept (at (Modifies base j)) (greatest_refuser c.counted)
        (once_modified (at (Modifies base j)) base) (once_modified_view_kept (at (Modifies base j)) base))
    by (Bases base) =
        unrefused (Bases base) _ (refused_view_kept (at (Bases base)) (greatest_refuser c.counted)
        (rebuilt block code (at (Bases base)) base) (rebuilt_view_kept block code (at (Bases base)) base))
    by Stores = unrefused Stores _ (refused_view_kept (at Stores) (greatest_refuser c.counted) _ tt)

-- so does what a coordinator does with a reply
pub reply_view_kept : (block : ℕ) (code : Code) (fresh : Option Stamp) (c : Coordinator) (from : BrickId) (call : Call) (reply : Reply)
    → IsFreshOf c.stamp.view fresh → KeepsView c (on_reply block code fresh c from call reply)
unfolding on_reply
reply_view_kept block code fresh c from call reply of = by (counts_at block c from.0 call reply)
  where
    onto : (seat : ℕ) (next : Next) → KeepsView (with_reply c seat from reply) next → KeepsView c next
    onto seat Ignores is = tt
    onto seat (Waits d) is = record { group = is.group; view = is.view }
    onto seat (Sends d) is = record { group = is.group; view = is.view }
    onto seat (Makes d) is = record { group = is.group; view = is.view }
    onto seat (Ends answer seen stored) is = tt

    by : (seat : Option ℕ) → KeepsView c (counted_at block code fresh c from reply seat)
    by None = tt
    by (Some seat) =
        onto seat (once_full block code fresh (with_reply c seat from reply))
        (cond_both (nat_lt (length (with_reply c seat from reply).counted) (needed (with_reply c seat from reply))) (Waits (with_reply c seat from reply))
        (decided block code fresh (with_reply c seat from reply)) (λ (z : Next). KeepsView (with_reply c seat from reply) z)
        (λ few. record { group = refl; view = refl }) (λ enough. decided_view_kept block code fresh (with_reply c seat from reply) of))
