-- No client waits for a call that was not made yet.
use Rattle.std.proofs.Common.{◌≡◌, ℕ, ◌+◌, ◌<◌, ◌≤◌, Bool, true, false, if◌then◌else◌, nat_eq, nat_le, List, [], ◌∷◌, Option, Some, None, Result, Ok, Err, option_map, refl, sym, ap, ◌∙◌, subst, inl, inr, arith, cond}
use Rattle.std.specs.Prelude.{is_some, ◌&&◌}
use Rattle.std.proofs.lemmas.Bool.{cond_both}
use Rattle.std.proofs.lemmas.Bool.Decides.{nat_tests}
use Rattle.fab_base.specs.declared.asks.Ask.{Ask}
use Rattle.fab_base.specs.declared.answers.Refusal.{Refusal}
use Rattle.fab_base.specs.declared.identities.BrickId.{BrickId}
use Rattle.fab_base.specs.declared.identities.GroupId.{GroupId}
use Rattle.fab_base.specs.declared.identities.ViewNo.{ViewNo}
use Rattle.fab_base.specs.declared.member_lists.View.{View}
use Rattle.fab_base.specs.Layouts.{Layout, Group, group_of}
use Rattle.protocol.specs.Views.{kept_by, group_kept, is_later, learns, is_unsynced, notes_synced}
use Rattle.messages.specs.declared.calls.Call.{Call}
use Rattle.messages.specs.declared.packets.Message.{Message}
use Rattle.messages.specs.declared.packets.Message.TheVariants as message
use Rattle.messages.specs.declared.requests.Request.{Request}
use Rattle.messages.specs.declared.replies.Reply.{Reply}
use Rattle.protocol.specs.declared.tellings.Answered.{Answered}
use Rattle.protocol.specs.Coordinators.{Coordinator, Next, Ignores, Waits, Sends, Makes, Ends, counts_at, hearing, on_reply}
use Rattle.protocol.specs.Scrubs.{Scrub}
use Rattle.protocol.specs.Jobs.{Job, JobNext, Reads, Finishes, GivesUp, job_ask, job_after, abort_cause}
use Rattle.protocol.specs.Nodes.{Node, NodeStep, put, group_at, requested, with_learnt, node_taught, node_taught_by, may_teach, node_learnt, node_synced, known_after, is_spent, fresh_stamp, coordinator_in, with_known, with_round, carried_out, carried_ballot, replied_ballot, read_begun_by, read_begun_in, job_goes, read_closed, carried_read, job_reading, carried_scrub, scrub_of, carried_for, replied_at, view_counted, replied, lists_fit, heard, received, began, invoked, refusal_in, refusal_of, ticked}
use Rattle.protocol.specs.Proposals.{Proposal, Voting, Ignored, Waited, Asks, Ended, voted}
use Rattle.protocol.proofs.Served.{request_each}
use Rattle.protocol.specs.Settings.{Setting}
use Rattle.fab_io.specs.declared.links.Datagram.{Datagram}
use Rattle.serving.specs.declared.clients.Client.{Client}
use Rattle.serving.specs.declared.faults.ServeFault.{ServeFault}
use Rattle.serving.specs.declared.faults.ServeFault.TheVariants.{Disk, Halted, Link, Clock, NoMemory}
use Rattle.serving.specs.declared.incomings.Incoming.{Incoming}
use Rattle.serving.specs.declared.incomings.Incoming.TheVariants.{Nothing, Malformed, Dropped, Handed, Asked}
use Rattle.serving.specs.Ports.{ports_of}
use Rattle.serving.specs.Serves.{Does}
use Rattle.serving.specs.Servings.{Serving, HasNoClient, Served, served, asked_by, idle, to_ports, still_waiting}

-- a request makes a brick make no call
requested-seq : (setting : Setting) (me from : BrickId) (node : Node) (call : Call) (request : Request)
    → (requested setting me from node call request).node.seq ≡ node.seq
requested-seq setting me from node call request =
    request_each (λ (step : NodeStep). step.node.seq ≡ node.seq) setting me from node call request refl (λ reply moved. refl)
    (λ group seat at served. refl) (λ group ballot asks at. refl)

-- nor does a view that it is taught
node_taught-seq : (block g : ℕ) (node : Node) (view : View) → (node_taught block g node view).seq ≡ node.seq
unfolding node_taught
node_taught-seq block g node view =
    cond_both (is_later (node.learnt g) view) (with_learnt block g node (learns (node.learnt g) view)) node (λ (n : Node). n.seq ≡ node.seq)
    (λ later. refl) (λ not. refl)

taught_by-seq : (block g : ℕ) (node : Node) (view : Option View) → (node_taught_by block g node view).seq ≡ node.seq
taught_by-seq block g node None = refl
taught_by-seq block g node (Some view) = node_taught-seq block g node view

node_learnt-seq : (layout : Layout) (node : Node) (group : GroupId) (view : View) → (node_learnt layout node group view).seq ≡ node.seq
unfolding node_learnt
node_learnt-seq layout node group view =
    cond_both (may_teach layout (Some view) (group_of layout group.0)) (node_taught layout.block group.0 node view) node (λ (n : Node). n.seq ≡ node.seq)
    (λ may. node_taught-seq layout.block group.0 node view) (λ void. refl)

-- nor the news that all stripes are kept in a view
node_synced-seq : (layout : Layout) (node : Node) (group : GroupId) (number : ViewNo) → (node_synced layout node group number).seq ≡ node.seq
unfolding node_synced
node_synced-seq layout node group number =
    cond_both (is_some (group_of layout group.0) && is_unsynced (node.learnt group.0) number.0)
    (with_learnt layout.block group.0 node (notes_synced (node.learnt group.0) number.0)) node (λ (n : Node). n.seq ≡ node.seq)
    (λ new. refl) (λ not. refl)

-- nor a reply, but where it ends a read of a synchronisation: then there may be another
carried_out-seq : (setting : Setting) (me : BrickId) (node : Node) (known : ℕ) (c : Coordinator) (next : Next)
    → (carried_out setting me node known c next).node.seq ≡ node.seq
carried_out-seq setting me node known c Ignores = refl
carried_out-seq setting me node known c (Waits d) = refl
carried_out-seq setting me node known c (Sends d) = refl
carried_out-seq setting me node known c (Makes d) = refl
carried_out-seq setting me node known c (Ends answer seen stored) = refl

carried_ballot-seq : (layout : Layout) (me : BrickId) (node : Node) (p : Proposal) (voting : Voting)
    → (carried_ballot layout me node p voting).node.seq ≡ node.seq
carried_ballot-seq layout me node p Ignored = refl
carried_ballot-seq layout me node p (Waited q) = refl
carried_ballot-seq layout me node p (Asks q) = refl
carried_ballot-seq layout me node p (Ended call ended) = refl

replied_ballot-seq : (layout : Layout) (me from : BrickId) (node : Node) (call : Call) (reply : Reply) (proposal : Option Proposal)
    → (replied_ballot layout me from node call reply proposal).node.seq ≡ node.seq
replied_ballot-seq layout me from node call reply None = refl
replied_ballot-seq layout me from node call reply (Some p) = carried_ballot-seq layout me node p (voted layout.bricks p from call reply)

-- the number of a brick's last call does not fall
abbrev Counts : Node → NodeStep → Type 0
Counts node step = node.seq ≤ step.node.seq

as_before : (node later : Node) → later.seq ≡ node.seq → node.seq ≤ later.seq
as_before node later same = omega (arith, same)

read_begun-seq : (setting : Setting) (me : BrickId) (now : ℕ) (node : Node) (job : Job) (group : Option Group)
    → Counts node (read_begun_in setting me now node job group)
read_begun-seq setting me now node job None = omega arith
read_begun-seq setting me now node job (Some group) =
    cond_both (is_spent node) _ (read_begun_by setting me node job (coordinator_in group job.view me now node (job_ask job))) (Counts node)
    (λ spent. omega arith) (λ free. omega arith)

job_goes-seq : (setting : Setting) (me : BrickId) (now : ℕ) (node : Node) (job : Job) (next : JobNext) → Counts node (job_goes setting me now node job next)
job_goes-seq setting me now node job (Reads attempt) =
    read_begun-seq setting me now node (record job { attempt = attempt }) (group_kept setting.layout job.view.members job.group.0)
job_goes-seq setting me now node job Finishes = omega arith
job_goes-seq setting me now node job (GivesUp cause) = omega arith

carried_read-seq : (setting : Setting) (me : BrickId) (now : ℕ) (node : Node) (known : ℕ) (job : Job) (c : Coordinator) (next : Next)
    → Counts node (carried_read setting me now node known job c next)
carried_read-seq setting me now node known job c (Ends answer seen stored) =
    job_goes-seq setting me now (read_closed me node known c answer seen stored).node job (job_after c.group.stripes job.attempt (abort_cause answer))
carried_read-seq setting me now node known job c next =
    as_before node (carried_out setting me node known c next).node (carried_out-seq setting me node known c next)

carried_scrub-seq : (setting : Setting) (me : BrickId) (node : Node) (known : ℕ) (scrub : Scrub) (c after : Coordinator) (next : Next)
    → (carried_scrub setting me node known scrub c after next).node.seq ≡ node.seq
carried_scrub-seq setting me node known scrub c after Ignores = refl
carried_scrub-seq setting me node known scrub c after (Waits d) = refl
carried_scrub-seq setting me node known scrub c after (Sends d) = refl
carried_scrub-seq setting me node known scrub c after (Makes d) = refl
carried_scrub-seq setting me node known scrub c after (Ends answer seen stored) = refl

carried_for-seq : (setting : Setting) (me : BrickId) (now : ℕ) (node : Node) (known : ℕ) (c after : Coordinator) (next : Next) (job : Option Job)
    (scrub : Option Scrub) → Counts node (carried_for setting me now node known c after next job scrub)
carried_for-seq setting me now node known c after next None None =
    as_before node (carried_out setting me node known c next).node (carried_out-seq setting me node known c next)
carried_for-seq setting me now node known c after next None (Some scrub) =
    as_before node (carried_scrub setting me node known scrub c after next).node (carried_scrub-seq setting me node known scrub c after next)
carried_for-seq setting me now node known c after next (Some job) scrub = carried_read-seq setting me now node known job c next

replied_at-seq : (setting : Setting) (me : BrickId) (now : ℕ) (from : BrickId) (node : Node) (call : Call) (reply : Reply) (found : Option Coordinator)
    → Counts node (replied_at setting me now from node call reply found)
replied_at-seq setting me now from node call reply None =
    let known : Node = with_known node (known_after node.known reply) in
    as_before node (replied_ballot setting.layout me from known call reply node.proposal).node
    (replied_ballot-seq setting.layout me from known call reply node.proposal)
replied_at-seq setting me now from node call reply (Some c) =
    let known : ℕ = known_after node.known reply in
    carried_for-seq setting me now node known c (hearing c from reply (counts_at setting.layout.block c from.0 call reply))
    (on_reply setting.layout.block setting.code (fresh_stamp me c.stamp.view now node.boot known) c from call reply) (job_reading node.job c.call.seq)
    (scrub_of node.scrub c.call.seq)

heard-seq : (setting : Setting) (me : BrickId) (now : ℕ) (from : BrickId) (node : Node) (call : Call) (reply : Reply)
    → Counts node (heard setting me now from node call reply)
unfolding replied
heard-seq setting me now from node call reply =
    let step : NodeStep = replied_at setting me now from (with_round node reply) call reply (node.calls call.seq) in
    cond_both (lists_fit setting.layout call reply) (replied setting me now from node call reply) _ (Counts node)
    (λ may.
    let more = replied_at-seq setting me now from (with_round node reply) call reply (node.calls call.seq) in
    let same = taught_by-seq setting.layout.block call.group.0 step.node (view_counted setting.layout from node call reply) in
    omega (arith, more, same))
    (λ void. omega arith)

-- nor does it at any message
received-seq : (setting : Setting) (me : BrickId) (now : ℕ) (node : Node) (from to : BrickId) (said : Message)
    → Counts node (received setting me now node (record { from = from; to = to; message = said }))
unfolding received
received-seq setting me now node from to (message.Request call request) =
    as_before node (requested setting me from node call request).node (requested-seq setting me from node call request)
received-seq setting me now node from to (message.Reply call reply) = heard-seq setting me now from node call reply
received-seq setting me now node from to (message.Learn group view) =
    as_before node (node_learnt setting.layout node group view) (node_learnt-seq setting.layout node group view)
received-seq setting me now node from to (message.Synced group number) =
    as_before node (node_synced setting.layout node group number) (node_synced-seq setting.layout node group number)
received-seq setting me now node from to (message.Client ask) = omega arith
received-seq setting me now node from to (message.ClientReply id answer) = omega arith

-- an invocation makes it make one call at most
began-seq : (setting : Setting) (me : BrickId) (now : ℕ) (node : Node) (ask : Ask) (group : Option Group)
    → node.seq ≤ (began setting me now node ask group).node.seq
began-seq setting me now node ask None = omega arith
began-seq setting me now node ask (Some group) = omega arith

invoked-seq : (setting : Setting) (me : BrickId) (now : ℕ) (node : Node) (ask : Ask) → node.seq ≤ (invoked setting me now node ask).node.seq
unfolding invoked
invoked-seq setting me now node ask = began-seq setting me now node ask (group_at setting.layout node ask.group.0)

-- and one that is not refused makes it make its next call
refused_nowhere : (setting : Setting) (me : BrickId) (now : ℕ) (node : Node) (ask : Ask) (group : Option Group)
    → refusal_in setting.layout.block node ask group ≡ None
    → (began setting me now node ask (option_map (kept_by (node.learnt ask.group.0).view.members) group)).node.seq ≡ node.seq + 1
refused_nowhere setting me now node ask None is = absurd (let never : Some Refusal.NoStripe ≡ None = is in cc)
refused_nowhere setting me now node ask (Some group) is = refl

pub invoked-next : (setting : Setting) (me : BrickId) (now : ℕ) (node : Node) (ask : Ask) → refusal_of setting.layout node ask ≡ None
    → (invoked setting me now node ask).node.seq ≡ node.seq + 1
unfolding refusal_of invoked
invoked-next setting me now node ask is = refused_nowhere setting me now node ask (group_of setting.layout ask.group.0) is

-- a value that is there at no number is not there once one is taken away
put-none : (waiting : ℕ → Option Client) (seq k : ℕ) (b : Bool) → waiting k ≡ None → cond b None (waiting k) ≡ None
put-none waiting seq k true none = refl
put-none waiting seq k false none = none

still_waiting-none : (answers : List Answered) (waiting : ℕ → Option Client) (k : ℕ) → waiting k ≡ None → still_waiting waiting answers k ≡ None
still_waiting-none [] waiting k none = none
still_waiting-none (answered ∷ more) waiting k none =
    still_waiting-none more (put waiting answered.seq None) k (put-none waiting answered.seq k (nat_eq k answered.seq) none)

-- another number's value stays
put-other : (waiting : ℕ → Option Client) (seq k : ℕ) (client : Option Client) → seq < k → waiting k ≡ None → put waiting seq client k ≡ None
put-other waiting seq k client above none =
    let apart : nat_eq k seq ≡ false = grind (arith, nat_tests) in
    ap (λ (b : Bool). if b then client else waiting k) apart ∙ none

-- of two that keep it so either does
either : (b : Bool) (x y : Served) → HasNoClient x.serving → HasNoClient y.serving → HasNoClient (if b then x else y).serving
either true x y p q = p
either false x y p q = q

-- a turn keeps it so
asked-keeps : (setting : Setting) (me : BrickId) (serving : Serving) (now : ℕ) (client : Client) (ask : Ask) (refusal : Option Refusal) → HasNoClient serving
    → HasNoClient (asked_by (ports_of setting.layout) serving client (invoked setting me now serving.node ask) refusal).serving
asked-keeps setting me serving now client ask None none = λ k above.
    let more = invoked-seq setting me now serving.node ask in
    put-other serving.waiting (invoked setting me now serving.node ask).node.seq k (Some client) above (none k (omega arith))
asked-keeps setting me serving now client ask (Some reason) none = none

pub served-keeps : (setting : Setting) (me : BrickId) (serving : Serving) (incoming : Incoming) (now : ℕ) → HasNoClient serving
    → HasNoClient (served setting me serving incoming now).serving
unfolding served
served-keeps setting me serving Nothing now none =
    either (nat_le (serving.ticked + 100) now)
    (record { serving = record serving { ticked = now }; sends = to_ports (ports_of setting.layout) (ticked setting me serving.node) }) (idle serving) none none
served-keeps setting me serving Malformed now none = none
served-keeps setting me serving Dropped now none = none
served-keeps setting me serving (Handed packet) now none = λ k above.
    still_waiting-none (received setting me now serving.node packet).answers serving.waiting k
    (none k (let more = received-seq setting me now serving.node packet.from packet.to packet.message in omega (arith, more)))
served-keeps setting me serving (Asked client ask) now none =
    asked-keeps setting me serving now client ask (refusal_of setting.layout serving.node ask) none

-- and so does one that is stopped
pub Does-keeps : {T : Type 0} (setting : Setting) (me : BrickId) (from to : Serving) (incoming : Incoming) (now : ℕ) (sent sent_after : Option (List Datagram))
    (r : Result T ServeFault) → HasNoClient from → Does from to sent sent_after (served setting me from incoming now) r → HasNoClient to
Does-keeps setting me from to incoming now sent sent_after (Ok x) none does = subst HasNoClient (sym does.0) (served-keeps setting me from incoming now none)
Does-keeps setting me from to incoming now sent sent_after (Err Disk) none does = subst HasNoClient (sym does.0) none
Does-keeps setting me from to incoming now sent sent_after (Err Link) none does = subst HasNoClient (sym does.0) (served-keeps setting me from incoming now none)
Does-keeps setting me from to incoming now sent sent_after (Err NoMemory) none does = elim does [
  | inl left ↦ subst HasNoClient (sym left.0) none
  | inr begun ↦ subst HasNoClient (sym begun.0) (served-keeps setting me from incoming now none)
]
Does-keeps setting me from to incoming now sent sent_after (Err Clock) none does = absurd does
Does-keeps setting me from to incoming now sent sent_after (Err Halted) none does = absurd does

-- a client that is there no more was never there
back_at : (b : Bool) (o v : Option Client) → (b ≡ true → o ≡ None) → (if b then None else (if b then v else o)) ≡ o
back_at true o v none = sym (none refl)
back_at false o v none = refl

pub put-back : (waiting : ℕ → Option Client) (seq : ℕ) (client : Option Client) → waiting seq ≡ None → put (put waiting seq client) seq None ≡ waiting
put-back waiting seq client none = λ i k.
    back_at (nat_eq k seq) (waiting k) client (λ e. let same : k ≡ seq = grind (arith, nat_tests) in ap waiting same ∙ none) i
