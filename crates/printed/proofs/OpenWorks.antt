-- How many proposals, synchronisations and scrubs are open. A brick that is asked for one opens one at most, or reports one at once; and else each report closes one.
use Rattle.std.proofs.Common.{◌≡◌, ◌≢◌, ℕ, zero, suc, ◌+◌, ◌<◌, ◌≤◌, ◌&&◌, inl, inr, Bool, true, List, [], length, Option, Some, None, is_some, refl, sym, ap, ◌∙◌, subst, arith}
use Rattle.std.proofs.lemmas.Bool.{cond_both, cases_lt}
use Rattle.fab_base.specs.declared.identities.BrickId.{BrickId}
use Rattle.fab_base.specs.declared.identities.GroupId.{GroupId}
use Rattle.fab_base.specs.declared.identities.StripeNo.{StripeNo}
use Rattle.fab_base.specs.declared.identities.ViewNo.{ViewNo}
use Rattle.fab_base.specs.declared.member_lists.View.{View}
use Rattle.fab_base.specs.Layouts.{Layout, Group, group_of}
use Rattle.messages.specs.declared.calls.Call.{Call}
use Rattle.messages.specs.declared.packets.Message.{Message}
use Rattle.messages.specs.declared.packets.Packet.{Packet}
use Rattle.messages.specs.declared.replies.Reply.{Reply}
use Rattle.messages.specs.declared.requests.Request.{Request}
use Rattle.quorum.specs.Memberships.{is_membership}
use Rattle.quorum.specs.Quorums.{count, one_if}
use Rattle.quorum.proofs.Counts.{count_same, count_monotone, count_empty}
use Rattle.protocol.specs.Settings.{Setting}
use Rattle.protocol.specs.Views.{group_kept, is_later, learns, is_unsynced, notes_synced}
use Rattle.protocol.specs.Jobs.{Job, JobNext, Reads, Finishes, GivesUp, begun_job, job_ask, job_after, abort_cause, synced_answer, spent_answer}
use Rattle.protocol.specs.Scrubs.{Scrub}
use Rattle.protocol.specs.Coordinators.{Coordinator, Next, Ignores, Waits, Sends, Makes, Ends, counts_at, hearing}
use Rattle.protocol.specs.Proposals.{Proposal, Voting, Ignored, Waited, Asks, Ended, ballot_packets, voted}
use Rattle.protocol.specs.declared.tellings.Report.{Report}
use Rattle.protocol.specs.declared.tellings.Report.TheVariants as report
use Rattle.protocol.specs.declared.tellings.ViewAnswer.TheVariants as answer
use Rattle.protocol.specs.Nodes.{Node, NodeStep, put, no_step, sending, with_known, with_round, known_after, carried_out, carried_ballot, replied_ballot, replied_at, view_counted, may_teach, node_taught, node_taught_by, node_learnt, node_synced, with_learnt, with_job, coordinator_in, is_spent, read_begun_by, read_begun_in, read_begun, read_closed, job_goes, job_reading, carried_read, carried_scrub, scrub_of, carried_for, synced_at, scrubbed_in, scrubbed_at, group_at, replied, lists_fit, heard, requested, received, new_proposal, proposing, reporting, proposed_in, proposed}
use Rattle.protocol.specs.Worlds.{first_world}
use Rattle.protocol.proofs.Puts.{put_other}
use Rattle.protocol.proofs.Served.{request_each}
use Rattle.protocol.proofs.Tables.{put_each, put_same}

-- whether a brick has a proposal, a synchronisation, a scrub
abbrev has_proposal : (ℕ → Node) → ℕ → Bool
has_proposal nodes i = is_some (nodes i).proposal

abbrev has_job : (ℕ → Node) → ℕ → Bool
has_job nodes i = is_some (nodes i).job

abbrev has_scrub : (ℕ → Node) → ℕ → Bool
has_scrub nodes i = is_some (nodes i).scrub

-- how many of these the first bricks have
abbrev pub works_in : ℕ → (ℕ → Node) → ℕ
works_in bricks nodes = count bricks (has_proposal nodes) + (count bricks (has_job nodes) + count bricks (has_scrub nodes))

-- how many of these a brick has
abbrev pub works_of : Node → ℕ
works_of node = one_if (is_some node.proposal) + (one_if (is_some node.job) + one_if (is_some node.scrub))

-- there are none at first
pub works_none : (bricks : ℕ) (layout : Layout) → works_in bricks (first_world layout).nodes ≡ 0
works_none bricks layout =
    let proposals = count_empty bricks (has_proposal (first_world layout).nodes) (λ k within. refl) in
    let jobs = count_empty bricks (has_job (first_world layout).nodes) (λ k within. refl) in
    let scrubs = count_empty bricks (has_scrub (first_world layout).nodes) (λ k within. refl) in
    omega (arith, proposals, jobs, scrubs)

-- two sets that differ at one place: it is below the last of the places that are counted, or it is that
count_below : (n i : ℕ) (p r : ℕ → Bool) → i < n → ((k : ℕ) → k ≢ i → r k ≡ p k) → count n r + one_if (p i) ≡ count n p + one_if (r i)
    → count (suc n) r + one_if (p i) ≡ count (suc n) p + one_if (r i)
unfolding count
count_below n i p r below same rest =
    let there : one_if (r n) ≡ one_if (p n) = ap one_if (same n (λ at. (let bad : n ≡ i = at in omega (arith, bad, below)))) in
    omega (arith, rest, there)

count_last : (n i : ℕ) (p r : ℕ → Bool) → i ≡ n → ((k : ℕ) → k ≢ i → r k ≡ p k) → count (suc n) r + one_if (p i) ≡ count (suc n) p + one_if (r i)
unfolding count
count_last n i p r at same =
    let rest : count n r ≡ count n p = count_same n r p (λ k lt. same k (λ is. (let bad : k ≡ i = is in omega (arith, bad, at, lt)))) in
    subst (λ (j : ℕ). count (suc n) r + one_if (p j) ≡ count (suc n) p + one_if (r j)) (sym at) (omega (arith, rest))

count_changed : (n i : ℕ) (p r : ℕ → Bool) → i < n → ((k : ℕ) → k ≢ i → r k ≡ p k) → count n r + one_if (p i) ≡ count n p + one_if (r i)
count_changed zero i p r within same = absurd (omega arith)
count_changed (suc n) i p r within same =
    elim (cases_lt i n) [
      | inl below ↦ count_below n i p r below same (count_changed n i p r below same)
      | inr past ↦ count_last n i p r (omega (arith, past, within)) same
    ]

-- a brick of the disk changes
pub works_put : (bricks i : ℕ) (nodes : ℕ → Node) (node : Node) → i < bricks
    → works_in bricks (put nodes i node) + works_of (nodes i) ≡ works_in bricks nodes + works_of node
works_put bricks i nodes node within =
    let here : put nodes i node i ≡ node = put_same nodes i node in
    let proposals = count_changed bricks i (has_proposal nodes) (has_proposal (put nodes i node)) within
    (λ k other. ap (λ (z : Node). is_some z.proposal) (put_other nodes i node k other)) in
    let jobs = count_changed bricks i (has_job nodes) (has_job (put nodes i node)) within
    (λ k other. ap (λ (z : Node). is_some z.job) (put_other nodes i node k other)) in
    let scrubs = count_changed bricks i (has_scrub nodes) (has_scrub (put nodes i node)) within
    (λ k other. ap (λ (z : Node). is_some z.scrub) (put_other nodes i node k other)) in
    let one : one_if (has_proposal (put nodes i node) i) ≡ one_if (is_some node.proposal) = ap (λ (z : Node). one_if (is_some z.proposal)) here in
    let two : one_if (has_job (put nodes i node) i) ≡ one_if (is_some node.job) = ap (λ (z : Node). one_if (is_some z.job)) here in
    let three : one_if (has_scrub (put nodes i node) i) ≡ one_if (is_some node.scrub) = ap (λ (z : Node). one_if (is_some z.scrub)) here in
    omega (arith, proposals, jobs, scrubs, one, two, three)

-- a brick has none of these that another has not
pub record OpensNone (node later : Node) : Type 0 where
  pub proposal : is_some later.proposal ≡ true → is_some node.proposal ≡ true
  pub job : is_some later.job ≡ true → is_some node.job ≡ true
  pub scrub : is_some later.scrub ≡ true → is_some node.scrub ≡ true

-- nor has the same brick
pub opens_same : (node : Node) → OpensNone node node
opens_same node = record { proposal = λ is. is; job = λ is. is; scrub = λ is. is }

-- where no brick opens one there are no more
pub works_fewer : (bricks : ℕ) (nodes later : ℕ → Node) → ((i : ℕ) → OpensNone (nodes i) (later i)) → works_in bricks later ≤ works_in bricks nodes
works_fewer bricks nodes later none =
    let first = count_monotone bricks (has_proposal later) (has_proposal nodes) (λ k within. (none k).proposal) in
    let second = count_monotone bricks (has_job later) (has_job nodes) (λ k within. (none k).job) in
    let third = count_monotone bricks (has_scrub later) (has_scrub nodes) (λ k within. (none k).scrub) in
    omega (arith, first, second, third)

-- so it is where a brick changes that opens none
pub works_kept : (bricks i : ℕ) (nodes : ℕ → Node) (node : Node) → OpensNone (nodes i) node → works_in bricks (put nodes i node) ≤ works_in bricks nodes
works_kept bricks i nodes node none =
    works_fewer bricks nodes (put nodes i node) (put_each (λ j z. OpensNone (nodes j) z) nodes i node none (λ j other. opens_same (nodes j)))

-- A step of a brick reports no more than proposals, synchronisations and scrubs that it closes, and so many beside them.
abbrev pub Closes : Node → NodeStep → ℕ → Type 0
Closes node step most = length step.reports + works_of step.node ≤ most + works_of node

-- a brick has the proposal, the synchronisation and the scrub of another
record HasSame (node other : Node) : Type 0 where
  proposal : other.proposal ≡ node.proposal
  job : other.job ≡ node.job
  scrub : other.scrub ≡ node.scrub

-- so it has as many of them
same_one : (node other : Node) → HasSame node other → one_if (is_some other.proposal) ≡ one_if (is_some node.proposal)
same_one node other same = ap (λ (z : Option Proposal). one_if (is_some z)) same.proposal

same_two : (node other : Node) → HasSame node other → one_if (is_some other.job) ≡ one_if (is_some node.job)
same_two node other same = ap (λ (z : Option Job). one_if (is_some z)) same.job

same_three : (node other : Node) → HasSame node other → one_if (is_some other.scrub) ≡ one_if (is_some node.scrub)
same_three node other same = ap (λ (z : Option Scrub). one_if (is_some z)) same.scrub

-- a step that reports nothing, and keeps all three
quiet : (node : Node) (step : NodeStep) → step.reports ≡ [] → HasSame node step.node → Closes node step 0
quiet node step none same =
    let reports : length step.reports ≡ 0 = ap (λ (l : List Report). length l) none in
    omega (arith, reports, same_one node step.node same, same_two node step.node same, same_three node step.node same)

-- a request
requested_closes : (setting : Setting) (me from : BrickId) (node : Node) (call : Call) (request : Request)
    → Closes node (requested setting me from node call request) 0
requested_closes setting me from node call request =
    request_each (λ (step : NodeStep). Closes node step 0) setting me from node call request (omega arith) (λ said is. omega arith)
    (λ group seat is served. omega arith) (λ group ballot asks is. omega arith)

-- a view that is taught, or told to be synced, keeps all three
taught_same : (block group : ℕ) (node : Node) (view : Option View) → HasSame node (node_taught_by block group node view)
unfolding node_taught
taught_same block group node None = record { proposal = refl; job = refl; scrub = refl }
taught_same block group node (Some view) =
    cond_both (is_later (node.learnt group) view) (with_learnt block group node (learns (node.learnt group) view)) node (HasSame node)
    (λ later. record { proposal = refl; job = refl; scrub = refl }) (λ isnt. record { proposal = refl; job = refl; scrub = refl })

learnt_same : (layout : Layout) (node : Node) (group : GroupId) (view : View) → HasSame node (node_learnt layout node group view)
unfolding node_learnt
learnt_same layout node group view =
    cond_both (may_teach layout (Some view) (group_of layout group.0)) (node_taught_by layout.block group.0 node (Some view)) node (HasSame node)
    (λ may. taught_same layout.block group.0 node (Some view)) (λ isnt. record { proposal = refl; job = refl; scrub = refl })

synced_same : (layout : Layout) (node : Node) (group : GroupId) (number : ViewNo) → HasSame node (node_synced layout node group number)
unfolding node_synced
synced_same layout node group number =
    cond_both (is_some (group_of layout group.0) && is_unsynced (node.learnt group.0) number.0)
    (with_learnt layout.block group.0 node (notes_synced (node.learnt group.0) number.0)) node (HasSame node)
    (λ may. record { proposal = refl; job = refl; scrub = refl }) (λ isnt. record { proposal = refl; job = refl; scrub = refl })

-- a synchronisation goes on, or is closed
read_closes : (setting : Setting) (me : BrickId) (now : ℕ) (node : Node) (job : Job) (found : Option Group) (most : ℕ) → 1 ≤ most + one_if (is_some node.job)
    → Closes node (read_begun_in setting me now node job found) most
read_closes setting me now node job None most has = omega arith
read_closes setting me now node job (Some group) most has =
    cond_both (is_spent node) (reporting (with_job node None) [] (report.Sync job.group (spent_answer job.attempt)))
    (read_begun_by setting me node job (coordinator_in group job.view me now node (job_ask job))) (λ (step : NodeStep). Closes node step most)
    (λ spent. omega (arith, has)) (λ left. omega (arith, has))

goes_closes : (setting : Setting) (me : BrickId) (now : ℕ) (node : Node) (job : Job) (next : JobNext) → 1 ≤ one_if (is_some node.job)
    → Closes node (job_goes setting me now node job next) 0
goes_closes setting me now node job (Reads attempt) has =
    read_closes setting me now node (record job { attempt = attempt }) (group_kept setting.layout job.view.members job.group.0) 0 (omega (arith, has))
goes_closes setting me now node job Finishes has = omega (arith, has)
goes_closes setting me now node job (GivesUp cause) has = omega (arith, has)

-- where a call is of the read of a synchronisation there is one
reading_has : (job : Option Job) (seq : ℕ) (found : Job) → job_reading job seq ≡ Some found → 1 ≤ one_if (is_some job)
reading_has None seq found is = absurd (let never : None ≡ Some found = is in cc)
reading_has (Some job) seq found is = omega arith

-- where a call is of a scrub there is one
scrub_has : (scrub : Option Scrub) (seq : ℕ) (found : Scrub) → scrub_of scrub seq ≡ Some found → 1 ≤ one_if (is_some scrub)
scrub_has None seq found is = absurd (let never : None ≡ Some found = is in cc)
scrub_has (Some scrub) seq found is = omega arith

-- a reply
module _ (setting : Setting) (me from : BrickId) (now : ℕ) (node : Node) (call : Call) (reply : Reply) where
  -- to an open operation
  carried_closes : (mid : Node) (known : ℕ) (c : Coordinator) (decision : Next) → HasSame node mid → Closes node (carried_out setting me mid known c decision) 0
  carried_closes mid known c Ignores same = quiet node (carried_out setting me mid known c Ignores) refl (record { proposal = same.proposal; job = same.job; scrub = same.scrub })
  carried_closes mid known c (Waits d) same = quiet node (carried_out setting me mid known c (Waits d)) refl (record { proposal = same.proposal; job = same.job; scrub = same.scrub })
  carried_closes mid known c (Sends d) same = quiet node (carried_out setting me mid known c (Sends d)) refl (record { proposal = same.proposal; job = same.job; scrub = same.scrub })
  carried_closes mid known c (Makes d) same = quiet node (carried_out setting me mid known c (Makes d)) refl (record { proposal = same.proposal; job = same.job; scrub = same.scrub })
  carried_closes mid known c (Ends ended seen stored) same =
      quiet node (carried_out setting me mid known c (Ends ended seen stored)) refl (record { proposal = same.proposal; job = same.job; scrub = same.scrub })

  -- to the read of a synchronisation
  reading_closes : (mid : Node) (known : ℕ) (job : Job) (c : Coordinator) (decision : Next) → HasSame node mid → 1 ≤ one_if (is_some mid.job)
      → Closes node (carried_read setting me now mid known job c decision) 0
  reading_closes mid known job c Ignores same has = carried_closes mid known c Ignores same
  reading_closes mid known job c (Waits d) same has = carried_closes mid known c (Waits d) same
  reading_closes mid known job c (Sends d) same has = carried_closes mid known c (Sends d) same
  reading_closes mid known job c (Makes d) same has = carried_closes mid known c (Makes d) same
  reading_closes mid known job c (Ends ended seen stored) same has =
      let closed : NodeStep = read_closed me mid known c ended seen stored in
      let goes = goes_closes setting me now closed.node job (job_after c.group.stripes job.attempt (abort_cause ended)) has in
      omega (arith, goes, same_one node mid same, same_two node mid same, same_three node mid same)

  -- to a scrub
  scrub_closes : (mid : Node) (known : ℕ) (scrub : Scrub) (c after : Coordinator) (decision : Next) → HasSame node mid → 1 ≤ one_if (is_some mid.scrub)
      → Closes node (carried_scrub setting me mid known scrub c after decision) 0
  scrub_closes mid known scrub c after Ignores same has = carried_closes mid known c Ignores same
  scrub_closes mid known scrub c after (Waits d) same has = carried_closes mid known c (Waits d) same
  scrub_closes mid known scrub c after (Sends d) same has = omega (arith, has, same_one node mid same, same_two node mid same, same_three node mid same)
  scrub_closes mid known scrub c after (Makes d) same has = carried_closes mid known c (Makes d) same
  scrub_closes mid known scrub c after (Ends ended seen stored) same has =
      omega (arith, has, same_one node mid same, same_two node mid same, same_three node mid same)

  carried_for_closes : (mid : Node) (known : ℕ) (c after : Coordinator) (decision : Next) (job : Option Job) (scrub : Option Scrub) → HasSame node mid
      → job_reading mid.job c.call.seq ≡ job → scrub_of mid.scrub c.call.seq ≡ scrub
      → Closes node (carried_for setting me now mid known c after decision job scrub) 0
  carried_for_closes mid known c after decision None None same is own = carried_closes mid known c decision same
  carried_for_closes mid known c after decision None (Some scrub) same is own =
      scrub_closes mid known scrub c after decision same (scrub_has mid.scrub c.call.seq scrub own)
  carried_for_closes mid known c after decision (Some job) scrub same is own =
      reading_closes mid known job c decision same (reading_has mid.job c.call.seq job is)

  -- a proposal changes, or is closed by one report
  changed_closes : (mid : Node) (p : Proposal) (step : NodeStep) → HasSame node mid → node.proposal ≡ Some p
      → length step.reports + one_if (is_some step.node.proposal) ≤ 1 → step.node.job ≡ mid.job → step.node.scrub ≡ mid.scrub → Closes node step 0
  changed_closes mid p step same own few job scrub =
      let one : one_if (is_some node.proposal) ≡ 1 = ap (λ (z : Option Proposal). one_if (is_some z)) own in
      let two : one_if (is_some step.node.job) ≡ one_if (is_some node.job) = ap (λ (z : Option Job). one_if (is_some z)) (job ∙ same.job) in
      let three : one_if (is_some step.node.scrub) ≡ one_if (is_some node.scrub) = ap (λ (z : Option Scrub). one_if (is_some z)) (scrub ∙ same.scrub) in
      omega (arith, one, two, three, few)

  -- to a proposal
  voting_closes : (mid : Node) (p : Proposal) (decision : Voting) → HasSame node mid → node.proposal ≡ Some p
      → Closes node (carried_ballot setting.layout me mid p decision) 0
  voting_closes mid p Ignored same own = quiet node (carried_ballot setting.layout me mid p Ignored) refl same
  voting_closes mid p (Waited q) same own = changed_closes mid p (carried_ballot setting.layout me mid p (Waited q)) same own (omega arith) refl refl
  voting_closes mid p (Asks q) same own = changed_closes mid p (carried_ballot setting.layout me mid p (Asks q)) same own (omega arith) refl refl
  voting_closes mid p (Ended ended told) same own = changed_closes mid p (carried_ballot setting.layout me mid p (Ended ended told)) same own (omega arith) refl refl

  -- to a proposal, if there is one
  ballot_closes : (mid : Node) (z : Option Proposal) → HasSame node mid → node.proposal ≡ z
      → Closes node (replied_ballot setting.layout me from mid call reply z) 0
  ballot_closes mid None same own = quiet node (no_step mid) refl same
  ballot_closes mid (Some p) same own = voting_closes mid p (voted setting.layout.bricks p from call reply) same own

  -- to an open operation, if there is one, or else to a proposal
  replied_closes_at : (z : Option Coordinator) → Closes node (replied_at setting me now from (with_round node reply) call reply z) 0
  replied_closes_at None =
      ballot_closes (with_known (with_round node reply) (known_after node.known reply)) node.proposal (record { proposal = refl; job = refl; scrub = refl }) refl
  replied_closes_at (Some c) =
      carried_for_closes (with_round node reply) (known_after node.known reply) c
      (hearing c from reply (counts_at setting.layout.block c from.0 call reply)) _ (job_reading node.job c.call.seq) (scrub_of node.scrub c.call.seq)
      (record { proposal = refl; job = refl; scrub = refl }) refl refl

  replied_closes : Closes node (replied setting me now from node call reply) 0
  unfolding replied
  replied_closes =
      let mid : NodeStep = replied_at setting me now from (with_round node reply) call reply (node.calls call.seq) in
      let told : Option View = view_counted setting.layout from node call reply in
      let same = taught_same setting.layout.block call.group.0 mid.node told in
      let before = replied_closes_at (node.calls call.seq) in
      let taught : Node = node_taught_by setting.layout.block call.group.0 mid.node told in
      (let after : length mid.reports + works_of taught ≤ 0 + works_of node
      = omega (arith, before, same_one mid.node taught same, same_two mid.node taught same, same_three mid.node taught same) in after)

  -- heard, or left out
  heard_closes : Closes node (heard setting me now from node call reply) 0
  heard_closes =
      cond_both (lists_fit setting.layout call reply) (replied setting me now from node call reply)
      (no_step (with_known (with_round node reply) (known_after node.known reply))) (λ (step : NodeStep). Closes node step 0) (λ fit. replied_closes)
      (λ isnt. quiet node (no_step (with_known (with_round node reply) (known_after node.known reply))) refl (record { proposal = refl; job = refl; scrub = refl }))

-- Each report of a brick that handles a message closes a proposal, a synchronisation or a scrub.
pub received_closes : (setting : Setting) (me : BrickId) (now : ℕ) (node : Node) (packet : Packet) → Closes node (received setting me now node packet) 0
unfolding received
received_closes setting me now node packet = by packet.message
  where
    by : (message : Message) → Closes node (received setting me now node (record { from = packet.from; to = packet.to; message = message })) 0
    by (Message.Request call request) = requested_closes setting me packet.from node call request
    by (Message.Reply call reply) = heard_closes setting me packet.from now node call reply
    by (Message.Learn group view) =
        quiet node (no_step (node_learnt setting.layout node group view)) refl (learnt_same setting.layout node group view)
    by (Message.Synced group number) =
        quiet node (no_step (node_synced setting.layout node group number)) refl (synced_same setting.layout node group number)
    by (Message.Client ask) = quiet node (no_step node) refl (record { proposal = refl; job = refl; scrub = refl })
    by (Message.ClientReply id answered) = quiet node (no_step node) refl (record { proposal = refl; job = refl; scrub = refl })

-- A brick that is asked to synchronise opens one, or reports one.
pub synced_closes : (setting : Setting) (me : BrickId) (now : ℕ) (node : Node) (group : GroupId) → Closes node (synced_at setting me now node group) 1
unfolding synced_at
synced_closes setting me now node group =
    cond_both (node.learnt group.0).synced (reporting node [] (report.Sync group (synced_answer (node.learnt group.0).view.number)))
    (read_begun setting me now node (begun_job group (node.learnt group.0).view)) (λ (step : NodeStep). Closes node step 1)
    (λ synced. omega arith)
    (λ unsynced. read_closes setting me now node (begun_job group (node.learnt group.0).view)
    (group_kept setting.layout (node.learnt group.0).view.members group.0) 1 (omega arith))

-- A brick that is asked to scrub opens one, and reports none.
pub scrubbed_closes : (setting : Setting) (me : BrickId) (now : ℕ) (node : Node) (group : GroupId) (stripe : StripeNo) (members : List BrickId)
    → Closes node (scrubbed_at setting me now node group stripe members) 1
unfolding scrubbed_at
scrubbed_closes setting me now node group stripe members = by (group_at setting.layout node group.0)
  where
    by : (z : Option Group) → Closes node (scrubbed_in setting me now node group stripe members z) 1
    by None = omega arith
    by (Some kept) = omega arith

-- A brick that is asked to propose opens one, or reports one.
pub proposed_closes : (setting : Setting) (me : BrickId) (node : Node) (group : GroupId) (members : List BrickId)
    → Closes node (proposed setting me node group members) 1
unfolding proposed
proposed_closes setting me node group members = by (group_of setting.layout group.0)
  where
    by : (z : Option Group) → Closes node (proposed_in setting me node group members z) 1
    by None = omega arith
    by (Some kept) =
        cond_both (is_membership kept.m setting.layout.bricks members)
        (sending (proposing node (new_proposal me node kept.m group members)) (ballot_packets me (new_proposal me node kept.m group members)))
        (reporting node [] (report.View group None answer.BadMembers)) (λ (step : NodeStep). Closes node step 1) (λ may. omega arith)
        (λ isnt. omega arith)
