-- A message leaves a brick's boot as it is, and its call numbers but for a read of its own; and what a brick tells is of one of its calls.
use Rattle.std.proofs.Common.{◌≡◌, ℕ, ◌+◌, ◌≤◌, ◌&&◌, List, [], ◌∷◌, ◌++◌, Option, Some, None, refl, sym, ap, ◌∙◌, subst, arith}
use Rattle.std.specs.Prelude.{is_some}
use Rattle.std.proofs.lemmas.Bool.{cond_both}
use Rattle.fab_base.specs.declared.identities.BrickId.{BrickId}
use Rattle.fab_base.specs.declared.identities.GroupId.{GroupId}
use Rattle.fab_base.specs.declared.identities.StripeNo.{StripeNo}
use Rattle.fab_base.specs.declared.identities.ViewNo.{ViewNo}
use Rattle.fab_base.specs.declared.member_lists.View.{View}
use Rattle.fab_base.specs.declared.stamps.Stamp.{Stamp}
use Rattle.fab_base.specs.Layouts.{Layout, Group, group_of}
use Rattle.messages.specs.declared.calls.Call.{Call}
use Rattle.messages.specs.declared.packets.Message.{Message}
use Rattle.messages.specs.declared.packets.Packet.{Packet}
use Rattle.messages.specs.declared.requests.Request.{Request}
use Rattle.messages.specs.declared.replies.Reply.{Reply}
use Rattle.protocol.specs.Settings.{Setting}
use Rattle.protocol.specs.Scrubs.{Scrub, lagging_after, scrub_answer}
use Rattle.protocol.specs.Views.{group_kept, is_later, learns, is_unsynced, notes_synced}
use Rattle.protocol.specs.Jobs.{Job, JobNext, Reads, Finishes, GivesUp, begun_job, job_ask, job_after, abort_cause, synced_answer, spent_answer}
use Rattle.protocol.specs.Coordinators.{Coordinator, Next, Ignores, Waits, Sends, Makes, Ends, hearing, counts_at, on_reply}
use Rattle.protocol.specs.Proposals.{Proposal, Voting, Ignored, Waited, Asks, Ended, voted}
use Rattle.protocol.specs.declared.tellings.Answered.{Answered}
use Rattle.protocol.specs.declared.tellings.Report.{Report}
use Rattle.protocol.specs.declared.tellings.Report.TheVariants as report
use Rattle.protocol.specs.declared.tellings.Told.{Told}
use Rattle.protocol.specs.declared.tellings.Told.TheVariants.{Closed}
use Rattle.protocol.specs.Nodes.{Node, NodeStep, no_step, known_after, with_round, with_known, with_job, with_learnt, fresh_stamp, coordinator_in, is_spent, may_teach, node_taught, node_taught_by, node_learnt, node_synced, view_counted, then_taught, then_does, with_scrub, group_at, members_alone, scrub_ended, scrub_of, scrubbed_in, scrubbed_at, carried_scrub, carried_unless_scrub, lists_fit, carried_ballot, replied_ballot, requested, reporting, read_begun_by, read_begun_in, read_begun, read_closed, job_goes, job_reading, carried_read, carried_for, seen_told, carried_out, replied, replied_at, heard, received, absorbed, synced_at}
use Rattle.protocol.proofs.Served.{request_each}
use Rattle.world.specs.Shown.{AreTold, AreAnswered, OpensReads, reads_begun}
use Rattle.world.proofs.HearingLemmas.{reads_more, told_join}

-- each open call knows its number, and is one of the brick's calls so far
abbrev pub CallsAreNumbered : Node → Type 0
CallsAreNumbered node = (k : ℕ) (c : Coordinator) → node.calls k ≡ Some c → (c.call.seq ≡ k) × (1 ≤ k) × (k ≤ node.seq)

-- one brick is of the boot of another, and has made as many calls
pub record HasSameCalls (node other : Node) : Type 0 where
  pub boot : other.boot ≡ node.boot
  pub seq : other.seq ≡ node.seq

same_itself : (node : Node) → HasSameCalls node node
same_itself node = record { boot = refl; seq = refl }

-- a step that tells and answers nothing
quiet_opens : (node other : Node) → HasSameCalls node other → (packets : List Packet) (reports : List Report)
    → OpensReads node (record { node = other; packets = packets; told = []; answers = []; reports = reports })
quiet_opens node other same packets reports = record {
  boot = same.boot;
  seq = same.seq ∙ (let e : node.seq ≡ node.seq + 0 = omega arith in e);
  few = omega arith;
  told = tt;
  answers = tt;
}

-- a request
requested_opens_reads : (setting : Setting) (me from : BrickId) (node : Node) (call : Call) (request : Request)
    → OpensReads node (requested setting me from node call request)
requested_opens_reads setting me from node call request =
    request_each (λ (step : NodeStep). OpensReads node step) setting me from node call request
    (quiet_opens node node (same_itself node) [] [])
    (λ moved is. quiet_opens node node (same_itself node) _ [])
    (λ group seat here served. quiet_opens node _ (record { boot = refl; seq = refl }) _ [])
    (λ group ballot asked here. quiet_opens node _ (record { boot = refl; seq = refl }) _ [])

-- a reply
seen_reads : (seq : ℕ) (seen : Option Stamp) → reads_begun (seen_told seq seen) ≡ 0
seen_reads seq None = refl
seen_reads seq (Some v) = refl

seen_is_told : (node : Node) (seq : ℕ) (seen : Option Stamp) → 1 ≤ seq → seq ≤ node.seq → AreTold node.boot node.seq (seen_told seq seen)
seen_is_told node seq None low high = tt
seen_is_told node seq (Some v) low high = ((low, high), tt)

carried_out_opens_reads : (setting : Setting) (me : BrickId) (node other : Node) → HasSameCalls node other → (known : ℕ) (c : Coordinator) (next : Next)
    → 1 ≤ c.call.seq → c.call.seq ≤ node.seq → OpensReads node (carried_out setting me other known c next)
carried_out_opens_reads setting me node other same known c Ignores low high = quiet_opens node _ (record { boot = same.boot; seq = same.seq }) [] []
carried_out_opens_reads setting me node other same known c (Waits d) low high = quiet_opens node _ (record { boot = same.boot; seq = same.seq }) [] []
carried_out_opens_reads setting me node other same known c (Sends d) low high = quiet_opens node _ (record { boot = same.boot; seq = same.seq }) _ []
carried_out_opens_reads setting me node other same known c (Makes d) low high = record {
  boot = same.boot;
  seq = same.seq ∙ (let e : node.seq ≡ node.seq + 0 = omega arith in e);
  few = omega arith;
  told = ((low, high), tt);
  answers = tt;
}
carried_out_opens_reads setting me node other same known c (Ends answer seen stored) low high =
    let none = seen_reads c.call.seq seen in
    record {
      boot = same.boot;
      seq = same.seq ∙ (let e : node.seq ≡ node.seq + reads_begun (seen_told c.call.seq seen) = omega (arith, none) in e);
      few = omega (arith, none);
      told = seen_is_told node c.call.seq seen low high;
      answers = ((low, high), tt);
    }

-- the next read of a synchronisation begins, or that ends
read_opens_reads : (setting : Setting) (me : BrickId) (now : ℕ) (node : Node) (job : Job) (found : Option Group)
    → OpensReads node (read_begun_in setting me now node job found)
read_opens_reads setting me now node job None = quiet_opens node node (same_itself node) [] []
read_opens_reads setting me now node job (Some group) =
    cond_both (is_spent node) (reporting (with_job node None) [] (report.Sync job.group (spent_answer job.attempt)))
    (read_begun_by setting me node job (coordinator_in group job.view me now node (job_ask job))) (OpensReads node)
    (λ spent. quiet_opens node (with_job node None) (record { boot = refl; seq = refl }) [] _)
    (λ left. record { boot = refl; seq = refl; few = omega arith; told = ((refl, refl), tt); answers = tt })

pub job_opens_reads : (setting : Setting) (me : BrickId) (now : ℕ) (node : Node) (job : Job) (next : JobNext)
    → OpensReads node (job_goes setting me now node job next)
job_opens_reads setting me now node job (Reads attempt) =
    read_opens_reads setting me now node (record job { attempt = attempt }) (group_kept setting.layout job.view.members job.group.0)
job_opens_reads setting me now node job Finishes = quiet_opens node (with_job node None) (record { boot = refl; seq = refl }) _ _
job_opens_reads setting me now node job (GivesUp cause) = quiet_opens node (with_job node None) (record { boot = refl; seq = refl }) [] _

-- a synchronisation begins, or ends at once
pub synced_opens_reads : (setting : Setting) (me : BrickId) (now : ℕ) (node : Node) (group : GroupId) → OpensReads node (synced_at setting me now node group)
unfolding synced_at
synced_opens_reads setting me now node group =
    cond_both (node.learnt group.0).synced (reporting node [] (report.Sync group (synced_answer (node.learnt group.0).view.number)))
    (read_begun setting me now node (begun_job group (node.learnt group.0).view)) (OpensReads node)
    (λ synced. quiet_opens node node (same_itself node) [] _)
    (λ unsynced. read_opens_reads setting me now node (begun_job group (node.learnt group.0).view)
    (group_kept setting.layout (node.learnt group.0).view.members group.0))

-- a step that opens no call, and then one that may begin a read
then_opens : (node : Node) (first second : NodeStep) → HasSameCalls node first.node → reads_begun first.told ≡ 0 → AreTold node.boot node.seq first.told
    → first.answers ≡ [] → OpensReads first.node second → second.answers ≡ [] → OpensReads node (then_does first second)
then_opens node first second same none told quiet opens still =
    let count : reads_begun (first.told ++ second.told) ≡ reads_begun second.told =
    (let all = reads_more first.told second.told in omega (arith, all, none)) in
    record {
      boot = opens.boot ∙ same.boot;
      seq = (let was = opens.seq in let before = same.seq in
          let e : second.node.seq ≡ node.seq + reads_begun (first.told ++ second.told) = omega (arith, was, before, count) in e);
      few = (let few = opens.few in omega (arith, few, count));
      told = told_join node.boot node.seq first.told second.told told
          (subst (λ (k : ℕ). AreTold node.boot k second.told)
          (let before = same.seq in let e : first.node.seq ≡ node.seq + reads_begun first.told = omega (arith, before, none) in e)
          (subst (λ (b : ℕ). AreTold b first.node.seq second.told) same.boot opens.told));
      answers = subst (λ (l : List Answered). AreAnswered node.seq l)
          (sym (ap (λ (l : List Answered). l ++ second.answers) quiet ∙ still)) tt;
    }

-- no synchronisation answers
read_quiet : (setting : Setting) (me : BrickId) (now : ℕ) (node : Node) (job : Job) (found : Option Group)
    → (read_begun_in setting me now node job found).answers ≡ []
read_quiet setting me now node job None = refl
read_quiet setting me now node job (Some group) =
    cond_both (is_spent node) (reporting (with_job node None) [] (report.Sync job.group (spent_answer job.attempt)))
    (read_begun_by setting me node job (coordinator_in group job.view me now node (job_ask job))) (λ (step : NodeStep). step.answers ≡ [])
    (λ spent. refl) (λ left. refl)

job_quiet : (setting : Setting) (me : BrickId) (now : ℕ) (node : Node) (job : Job) (next : JobNext) → (job_goes setting me now node job next).answers ≡ []
job_quiet setting me now node job (Reads attempt) =
    read_quiet setting me now node (record job { attempt = attempt }) (group_kept setting.layout job.view.members job.group.0)
job_quiet setting me now node job Finishes = refl
job_quiet setting me now node job (GivesUp cause) = refl

-- a read of a synchronisation
carried_read_opens_reads : (setting : Setting) (me : BrickId) (now : ℕ) (node other : Node) → HasSameCalls node other → (known : ℕ) (job : Job)
    (c : Coordinator) (next : Next) → 1 ≤ c.call.seq → c.call.seq ≤ node.seq → OpensReads node (carried_read setting me now other known job c next)
carried_read_opens_reads setting me now node other same known job c Ignores low high = carried_out_opens_reads setting me node other same known c Ignores low high
carried_read_opens_reads setting me now node other same known job c (Waits d) low high =
    carried_out_opens_reads setting me node other same known c (Waits d) low high
carried_read_opens_reads setting me now node other same known job c (Sends d) low high =
    carried_out_opens_reads setting me node other same known c (Sends d) low high
carried_read_opens_reads setting me now node other same known job c (Makes d) low high =
    carried_out_opens_reads setting me node other same known c (Makes d) low high
carried_read_opens_reads setting me now node other same known job c (Ends answer seen stored) low high =
    let closed : NodeStep = read_closed me other known c answer seen stored in
    let next : JobNext = job_after c.group.stripes job.attempt (abort_cause answer) in
    let end : List Told = Closed c.call.seq (abort_cause answer) ∷ [] in
    let none : reads_begun closed.told ≡ 0 =
    (let all = reads_more (seen_told c.call.seq seen) end in let first = seen_reads c.call.seq seen in omega (arith, all, first)) in
    then_opens node closed (job_goes setting me now closed.node job next) (record { boot = same.boot; seq = same.seq }) none
    (told_join node.boot node.seq (seen_told c.call.seq seen) end (seen_is_told node c.call.seq seen low high)
    ((low, (let none = seen_reads c.call.seq seen in omega (arith, high, none))), tt))
    refl (job_opens_reads setting me now closed.node job next) (job_quiet setting me now closed.node job next)

-- a scrub begins
scrub_opens_reads : (setting : Setting) (me : BrickId) (now : ℕ) (node : Node) (group : GroupId) (stripe : StripeNo) (members : List BrickId)
    (found : Option Group) → OpensReads node (scrubbed_in setting me now node group stripe members found)
scrub_opens_reads setting me now node group stripe members None = quiet_opens node node (same_itself node) [] []
scrub_opens_reads setting me now node group stripe members (Some kept) =
    record { boot = refl; seq = refl; few = omega arith; told = ((refl, refl), tt); answers = tt }

pub scrubbed_opens_reads : (setting : Setting) (me : BrickId) (now : ℕ) (node : Node) (group : GroupId) (stripe : StripeNo) (members : List BrickId)
    → OpensReads node (scrubbed_at setting me now node group stripe members)
unfolding scrubbed_at
scrubbed_opens_reads setting me now node group stripe members =
    scrub_opens_reads setting me now node group stripe members (group_at setting.layout node group.0)

-- it goes on, or ends
carried_scrub_opens_reads : (setting : Setting) (me : BrickId) (node other : Node) → HasSameCalls node other → (known : ℕ) (scrub : Scrub)
    (c heard : Coordinator) (next : Next) → 1 ≤ c.call.seq → c.call.seq ≤ node.seq → OpensReads node (carried_scrub setting me other known scrub c heard next)
carried_scrub_opens_reads setting me node other same known scrub c heard Ignores low high =
    carried_out_opens_reads setting me node other same known c Ignores low high
carried_scrub_opens_reads setting me node other same known scrub c heard (Waits d) low high =
    carried_out_opens_reads setting me node other same known c (Waits d) low high
carried_scrub_opens_reads setting me node other same known scrub c heard (Sends d) low high =
    carried_out_opens_reads setting me node (with_scrub other (Some (record scrub { lagging = lagging_after scrub heard })))
    (record { boot = same.boot; seq = same.seq }) known c (Sends d) low high
carried_scrub_opens_reads setting me node other same known scrub c heard (Makes d) low high =
    carried_out_opens_reads setting me node other same known c (Makes d) low high
carried_scrub_opens_reads setting me node other same known scrub c heard (Ends answer seen stored) low high =
    let closed : NodeStep = read_closed me other known c answer seen stored in
    let end : List Told = Closed c.call.seq (abort_cause answer) ∷ [] in
    let none : reads_begun closed.told ≡ 0 =
    (let all = reads_more (seen_told c.call.seq seen) end in let first = seen_reads c.call.seq seen in omega (arith, all, first)) in
    then_opens node closed
    (scrub_ended closed.node c.call (members_alone c.only) (scrub_answer scrub.lagging (abort_cause answer) stored))
    (record { boot = same.boot; seq = same.seq }) none
    (told_join node.boot node.seq (seen_told c.call.seq seen) end (seen_is_told node c.call.seq seen low high)
    ((low, (let none = seen_reads c.call.seq seen in omega (arith, high, none))), tt))
    refl (quiet_opens closed.node (with_scrub closed.node None) (record { boot = refl; seq = refl }) [] _) refl

unless_scrub_opens_reads : (setting : Setting) (me : BrickId) (node other : Node) → HasSameCalls node other → (known : ℕ) (c heard : Coordinator)
    (next : Next) (scrub : Option Scrub) → 1 ≤ c.call.seq → c.call.seq ≤ node.seq
    → OpensReads node (carried_unless_scrub setting me other known c heard next scrub)
unless_scrub_opens_reads setting me node other same known c heard next None low high =
    carried_out_opens_reads setting me node other same known c next low high
unless_scrub_opens_reads setting me node other same known c heard next (Some scrub) low high =
    carried_scrub_opens_reads setting me node other same known scrub c heard next low high

carried_for_opens_reads : (setting : Setting) (me : BrickId) (now : ℕ) (node other : Node) → HasSameCalls node other → (known : ℕ) (c heard : Coordinator)
    (next : Next) (job : Option Job) (scrub : Option Scrub) → 1 ≤ c.call.seq → c.call.seq ≤ node.seq
    → OpensReads node (carried_for setting me now other known c heard next job scrub)
carried_for_opens_reads setting me now node other same known c heard next None scrub low high =
    unless_scrub_opens_reads setting me node other same known c heard next scrub low high
carried_for_opens_reads setting me now node other same known c heard next (Some job) scrub low high =
    carried_read_opens_reads setting me now node other same known job c next low high

carried_ballot_opens_reads : (layout : Layout) (me : BrickId) (node other : Node) → HasSameCalls node other → (p : Proposal) (next : Voting)
    → OpensReads node (carried_ballot layout me other p next)
carried_ballot_opens_reads layout me node other same p Ignored = quiet_opens node other same [] []
carried_ballot_opens_reads layout me node other same p (Waited q) = quiet_opens node _ (record { boot = same.boot; seq = same.seq }) [] []
carried_ballot_opens_reads layout me node other same p (Asks q) = quiet_opens node _ (record { boot = same.boot; seq = same.seq }) _ []
carried_ballot_opens_reads layout me node other same p (Ended call ended) = quiet_opens node _ (record { boot = same.boot; seq = same.seq }) _ _

replied_ballot_opens_reads : (layout : Layout) (me from : BrickId) (node other : Node) → HasSameCalls node other → (call : Call) (reply : Reply)
    (proposal : Option Proposal) → OpensReads node (replied_ballot layout me from other call reply proposal)
replied_ballot_opens_reads layout me from node other same call reply None = quiet_opens node other same [] []
replied_ballot_opens_reads layout me from node other same call reply (Some p) =
    carried_ballot_opens_reads layout me node other same p (voted layout.bricks p from call reply)

replied_at_opens_reads : (setting : Setting) (me : BrickId) (now : ℕ) (from : BrickId) (node other : Node) → HasSameCalls node other
    → (call : Call) (reply : Reply) (found : Option Coordinator) → CallsAreNumbered node → node.calls call.seq ≡ found
    → OpensReads node (replied_at setting me now from other call reply found)
replied_at_opens_reads setting me now from node other same call reply None numbered is =
    replied_ballot_opens_reads setting.layout me from node (with_known other (known_after other.known reply))
    (record { boot = same.boot; seq = same.seq }) call reply other.proposal
replied_at_opens_reads setting me now from node other same call reply (Some c) numbered is =
    let at = numbered call.seq c is in
    let known : ℕ = known_after other.known reply in
    carried_for_opens_reads setting me now node other same known c (hearing c from reply (counts_at setting.layout.block c from.0 call reply))
    (on_reply setting.layout.block setting.code (fresh_stamp me c.stamp.view now other.boot known) c from call reply)
    (job_reading other.job c.call.seq) (scrub_of other.scrub c.call.seq) (omega (arith, at.0, at.1)) (omega (arith, at.0, at.2))

-- a brick that is taught a view is of the same boot, and has made as many calls
taught_same : (block g : ℕ) (node other : Node) → HasSameCalls node other → (view : Option View) → HasSameCalls node (node_taught_by block g other view)
unfolding node_taught
taught_same block g node other same None = same
taught_same block g node other same (Some view) =
    cond_both (is_later (other.learnt g) view) (with_learnt block g other (learns (other.learnt g) view)) other (HasSameCalls node)
    (λ later. record { boot = same.boot; seq = same.seq }) (λ isnt. same)

learnt_same : (layout : Layout) (node : Node) (group : GroupId) (view : View) → HasSameCalls node (node_learnt layout node group view)
unfolding node_learnt
learnt_same layout node group view =
    cond_both (may_teach layout (Some view) (group_of layout group.0)) (node_taught_by layout.block group.0 node (Some view)) node (HasSameCalls node)
    (λ may. taught_same layout.block group.0 node node (same_itself node) (Some view)) (λ isnt. same_itself node)

-- so one that hears that a view is synced
synced_same : (layout : Layout) (node : Node) (group : GroupId) (number : ViewNo) → HasSameCalls node (node_synced layout node group number)
unfolding node_synced
synced_same layout node group number =
    cond_both (is_some (group_of layout group.0) && is_unsynced (node.learnt group.0) number.0)
    (with_learnt layout.block group.0 node (notes_synced (node.learnt group.0) number.0)) node (HasSameCalls node)
    (λ may. record { boot = refl; seq = refl }) (λ isnt. same_itself node)

-- a step that was taught a view last
taught_opens : (block g : ℕ) (node : Node) (view : Option View) (step : NodeStep) → OpensReads node step → OpensReads node (then_taught block g view step)
taught_opens block g node view step opens =
    let same = taught_same block g step.node step.node (same_itself step.node) view in
    record { boot = same.boot ∙ opens.boot; seq = same.seq ∙ opens.seq; few = opens.few; told = opens.told; answers = opens.answers }

heard_opens_reads : (setting : Setting) (me : BrickId) (now : ℕ) (from : BrickId) (node : Node) (call : Call) (reply : Reply)
    → CallsAreNumbered node → OpensReads node (heard setting me now from node call reply)
unfolding replied
heard_opens_reads setting me now from node call reply numbered =
    cond_both (lists_fit setting.layout call reply) (replied setting me now from node call reply)
    (no_step (with_known (with_round node reply) (known_after node.known reply))) (OpensReads node)
    (λ fit. taught_opens setting.layout.block call.group.0 node (view_counted setting.layout from node call reply) _
    (replied_at_opens_reads setting me now from node (with_round node reply) (record { boot = refl; seq = refl }) call reply (node.calls call.seq) numbered refl))
    (λ isnt. quiet_opens node _ (record { boot = refl; seq = refl }) [] [])

-- a message
received_as_opens_reads : (setting : Setting) (me : BrickId) (now : ℕ) (from to : BrickId) (node : Node) (message : Message) → CallsAreNumbered node
    → OpensReads node (received setting me now node (record { from = from; to = to; message = message }))
unfolding received
received_as_opens_reads setting me now from to node (Message.Request call request) numbered = requested_opens_reads setting me from node call request
received_as_opens_reads setting me now from to node (Message.Reply call reply) numbered = heard_opens_reads setting me now from node call reply numbered
received_as_opens_reads setting me now from to node (Message.Learn group view) numbered =
    quiet_opens node _ (learnt_same setting.layout node group view) [] []
received_as_opens_reads setting me now from to node (Message.Synced group number) numbered =
    quiet_opens node _ (synced_same setting.layout node group number) [] []
received_as_opens_reads setting me now from to node message numbered = quiet_opens node node (same_itself node) [] []

pub received_opens_reads : (setting : Setting) (me : BrickId) (now : ℕ) (node : Node) (packet : Packet) → CallsAreNumbered node
    → OpensReads node (received setting me now node packet)
received_opens_reads setting me now node packet numbered =
    received_as_opens_reads setting me now packet.from packet.to node packet.message numbered

-- a step begins one read at most, of any brick
abbrev FewReads : NodeStep → Type 0
FewReads step = reads_begun step.told ≤ 1

seen_few : (seq : ℕ) (seen : Option Stamp) → reads_begun (seen_told seq seen) ≤ 1
seen_few seq seen = let none = seen_reads seq seen in omega (arith, none)

carried_few : (setting : Setting) (me : BrickId) (node : Node) (known : ℕ) (c : Coordinator) (next : Next) → FewReads (carried_out setting me node known c next)
carried_few setting me node known c Ignores = omega arith
carried_few setting me node known c (Waits d) = omega arith
carried_few setting me node known c (Sends d) = omega arith
carried_few setting me node known c (Makes d) = omega arith
carried_few setting me node known c (Ends answer seen stored) = seen_few c.call.seq seen

job_few : (setting : Setting) (me : BrickId) (now : ℕ) (node : Node) (job : Job) (next : JobNext) → FewReads (job_goes setting me now node job next)
job_few setting me now node job next = (job_opens_reads setting me now node job next).few

read_few : (setting : Setting) (me : BrickId) (now : ℕ) (node : Node) (known : ℕ) (job : Job) (c : Coordinator) (next : Next)
    → FewReads (carried_read setting me now node known job c next)
read_few setting me now node known job c Ignores = omega arith
read_few setting me now node known job c (Waits d) = omega arith
read_few setting me now node known job c (Sends d) = omega arith
read_few setting me now node known job c (Makes d) = omega arith
read_few setting me now node known job c (Ends answer seen stored) =
    let closed : NodeStep = read_closed me node known c answer seen stored in
    let goes : NodeStep = job_goes setting me now closed.node job (job_after c.group.stripes job.attempt (abort_cause answer)) in
    let first = seen_reads c.call.seq seen in
    let closing = reads_more (seen_told c.call.seq seen) (Closed c.call.seq (abort_cause answer) ∷ []) in
    let all = reads_more closed.told goes.told in
    let few = job_few setting me now closed.node job (job_after c.group.stripes job.attempt (abort_cause answer)) in
    omega (arith, first, closing, all, few)

scrub_few : (setting : Setting) (me : BrickId) (node : Node) (known : ℕ) (scrub : Scrub) (c heard : Coordinator) (next : Next)
    → FewReads (carried_scrub setting me node known scrub c heard next)
scrub_few setting me node known scrub c heard Ignores = omega arith
scrub_few setting me node known scrub c heard (Waits d) = omega arith
scrub_few setting me node known scrub c heard (Sends d) = omega arith
scrub_few setting me node known scrub c heard (Makes d) = omega arith
scrub_few setting me node known scrub c heard (Ends answer seen stored) =
    let closed : NodeStep = read_closed me node known c answer seen stored in
    let first = seen_reads c.call.seq seen in
    let closing = reads_more (seen_told c.call.seq seen) (Closed c.call.seq (abort_cause answer) ∷ []) in
    let all = reads_more closed.told [] in
    omega (arith, first, closing, all)

unless_scrub_few : (setting : Setting) (me : BrickId) (node : Node) (known : ℕ) (c heard : Coordinator) (next : Next) (scrub : Option Scrub)
    → FewReads (carried_unless_scrub setting me node known c heard next scrub)
unless_scrub_few setting me node known c heard next None = carried_few setting me node known c next
unless_scrub_few setting me node known c heard next (Some scrub) = scrub_few setting me node known scrub c heard next

carried_for_few : (setting : Setting) (me : BrickId) (now : ℕ) (node : Node) (known : ℕ) (c heard : Coordinator) (next : Next) (job : Option Job)
    (scrub : Option Scrub) → FewReads (carried_for setting me now node known c heard next job scrub)
carried_for_few setting me now node known c heard next None scrub = unless_scrub_few setting me node known c heard next scrub
carried_for_few setting me now node known c heard next (Some job) scrub = read_few setting me now node known job c next

ballot_few : (layout : Layout) (me : BrickId) (node : Node) (p : Proposal) (next : Voting) → FewReads (carried_ballot layout me node p next)
ballot_few layout me node p Ignored = omega arith
ballot_few layout me node p (Waited q) = omega arith
ballot_few layout me node p (Asks q) = omega arith
ballot_few layout me node p (Ended call ended) = omega arith

replied_few : (setting : Setting) (me : BrickId) (now : ℕ) (from : BrickId) (node : Node) (call : Call) (reply : Reply) (found : Option Coordinator)
    → FewReads (replied_at setting me now from node call reply found)
replied_few setting me now from node call reply (Some c) =
    let known : ℕ = known_after node.known reply in
    carried_for_few setting me now node known c (hearing c from reply (counts_at setting.layout.block c from.0 call reply))
    (on_reply setting.layout.block setting.code (fresh_stamp me c.stamp.view now node.boot known) c from call reply) (job_reading node.job c.call.seq)
    (scrub_of node.scrub c.call.seq)
replied_few setting me now from node call reply None = by_proposal node.proposal
  where
    known : Node
    known = with_known node (known_after node.known reply)

    by_proposal : (proposal : Option Proposal) → FewReads (replied_ballot setting.layout me from known call reply proposal)
    by_proposal None = omega arith
    by_proposal (Some p) = ballot_few setting.layout me known p (voted setting.layout.bricks p from call reply)

heard_few : (setting : Setting) (me : BrickId) (now : ℕ) (from : BrickId) (node : Node) (call : Call) (reply : Reply)
    → FewReads (heard setting me now from node call reply)
unfolding replied
heard_few setting me now from node call reply =
    cond_both (lists_fit setting.layout call reply) (replied setting me now from node call reply)
    (no_step (with_known (with_round node reply) (known_after node.known reply))) FewReads
    (λ fit. replied_few setting me now from (with_round node reply) call reply (node.calls call.seq)) (λ isnt. omega arith)

received_as_few : (setting : Setting) (me : BrickId) (now : ℕ) (from to : BrickId) (node : Node) (message : Message)
    → FewReads (received setting me now node (record { from = from; to = to; message = message }))
unfolding received
received_as_few setting me now from to node (Message.Request call request) = (requested_opens_reads setting me from node call request).few
received_as_few setting me now from to node (Message.Reply call reply) = heard_few setting me now from node call reply
received_as_few setting me now from to node message = omega arith

pub received_few : (setting : Setting) (me : BrickId) (now : ℕ) (node : Node) (packet : Packet) → reads_begun (received setting me now node packet).told ≤ 1
received_few setting me now node packet = received_as_few setting me now packet.from packet.to node packet.message

-- a reply to an open operation has its receiver report nothing, and begin no read, unless it is to a read of its own
carried_quiet : (setting : Setting) (me : BrickId) (node : Node) (known : ℕ) (c : Coordinator) (next : Next)
    → (carried_out setting me node known c next).reports ≡ []
carried_quiet setting me node known c Ignores = refl
carried_quiet setting me node known c (Waits d) = refl
carried_quiet setting me node known c (Sends d) = refl
carried_quiet setting me node known c (Makes d) = refl
carried_quiet setting me node known c (Ends answer seen stored) = refl

pub record IsQuiet (step : NodeStep) : Type 0 where
  pub reports : step.reports ≡ []
  pub reads : reads_begun step.told ≡ 0

carried_unread : (setting : Setting) (me : BrickId) (node : Node) (known : ℕ) (c : Coordinator) (next : Next)
    → reads_begun (carried_out setting me node known c next).told ≡ 0
carried_unread setting me node known c Ignores = refl
carried_unread setting me node known c (Waits d) = refl
carried_unread setting me node known c (Sends d) = refl
carried_unread setting me node known c (Makes d) = refl
carried_unread setting me node known c (Ends answer seen stored) = seen_reads c.call.seq seen

replied_quiet : (setting : Setting) (me : BrickId) (now : ℕ) (from : BrickId) (node : Node) (call : Call) (reply : Reply) (c : Coordinator)
    → job_reading node.job c.call.seq ≡ None → scrub_of node.scrub c.call.seq ≡ None → IsQuiet (replied_at setting me now from node call reply (Some c))
replied_quiet setting me now from node call reply c other apart =
    let heard : Coordinator = hearing c from reply (counts_at setting.layout.block c from.0 call reply) in
    let known : ℕ = known_after node.known reply in
    let next : Next = on_reply setting.layout.block setting.code (fresh_stamp me c.stamp.view now node.boot known) c from call reply in
    subst (λ (job : Option Job). IsQuiet (carried_for setting me now node known c heard next job (scrub_of node.scrub c.call.seq))) (sym other)
    (subst (λ (scrub : Option Scrub). IsQuiet (carried_unless_scrub setting me node known c heard next scrub)) (sym apart)
    (record { reports = carried_quiet setting me node known c next; reads = carried_unread setting me node known c next }))

pub reply_quiet : (setting : Setting) (me : BrickId) (now : ℕ) (from : BrickId) (node : Node) (call : Call) (reply : Reply) (c : Coordinator)
    → node.calls call.seq ≡ Some c → job_reading node.job c.call.seq ≡ None → scrub_of node.scrub c.call.seq ≡ None
    → IsQuiet (heard setting me now from node call reply)
unfolding replied
reply_quiet setting me now from node call reply c is other apart =
    cond_both (lists_fit setting.layout call reply) (replied setting me now from node call reply)
    (no_step (with_known (with_round node reply) (known_after node.known reply))) IsQuiet
    (λ fit.
    let quiet : IsQuiet (replied_at setting me now from (with_round node reply) call reply (node.calls call.seq)) =
    subst (λ (found : Option Coordinator). IsQuiet (replied_at setting me now from (with_round node reply) call reply found)) (sym is)
    (replied_quiet setting me now from (with_round node reply) call reply c other apart) in
    record { reports = quiet.reports; reads = quiet.reads })
    (λ isnt. record { reports = refl; reads = refl })

-- nor does a request
pub request_quiet : (setting : Setting) (me from : BrickId) (node : Node) (call : Call) (request : Request)
    → IsQuiet (requested setting me from node call request)
request_quiet setting me from node call request =
    request_each IsQuiet setting me from node call request (record { reports = refl; reads = refl }) (λ moved is. record { reports = refl; reads = refl })
    (λ group seat here served. record { reports = refl; reads = refl }) (λ group ballot asked here. record { reports = refl; reads = refl })

-- what a handling would have kept is of the same boot
absorbed_as_boot : (setting : Setting) (me from to : BrickId) (node : Node) (message : Message)
    → (absorbed setting me node (record { from = from; to = to; message = message })).boot ≡ node.boot
unfolding absorbed
absorbed_as_boot setting me from to node (Message.Request call request) = (requested_opens_reads setting me from node call request).boot
absorbed_as_boot setting me from to node (Message.Reply call reply) =
    cond_both (lists_fit setting.layout call reply) (node_taught_by setting.layout.block call.group.0 node (view_counted setting.layout from node call reply)) node
    (λ (x : Node). x.boot ≡ node.boot)
    (λ fit. (taught_same setting.layout.block call.group.0 node node (same_itself node) (view_counted setting.layout from node call reply)).boot) (λ isnt. refl)
absorbed_as_boot setting me from to node (Message.Learn group view) = (learnt_same setting.layout node group view).boot
absorbed_as_boot setting me from to node (Message.Synced group number) = (synced_same setting.layout node group number).boot
absorbed_as_boot setting me from to node message = refl

pub absorbed_boot : (setting : Setting) (me : BrickId) (node : Node) (packet : Packet) → (absorbed setting me node packet).boot ≡ node.boot
absorbed_boot setting me node packet = absorbed_as_boot setting me packet.from packet.to node packet.message
