-- What a brick does for its synchronisation and its scrub: a read begins, a read ends and what follows it, or the synchronisation or the scrub ends; and what
-- it sends then.
use Rattle.std.proofs.Common.{◌≡◌, ℕ, zero, suc, ◌+◌, ◌<◌, List, [], ◌++◌, Option, Some, None, refl}
use Rattle.std.proofs.lemmas.Bool.{cond_both}
use Rattle.fab_base.specs.declared.identities.BrickId.{BrickId}
use Rattle.fab_base.specs.declared.identities.GroupId.{GroupId}
use Rattle.fab_base.specs.declared.identities.StripeNo.{StripeNo}
use Rattle.fab_base.specs.declared.identities.ViewNo.{ViewNo}
use Rattle.fab_base.specs.declared.answers.Answer.{Answer}
use Rattle.fab_base.specs.declared.stamps.Stamp.{Stamp}
use Rattle.fab_base.specs.Layouts.{Group}
use Rattle.messages.specs.declared.packets.Message.{Message}
use Rattle.messages.specs.declared.packets.Packet.{Packet}
use Rattle.protocol.specs.declared.tellings.Report.{Report}
use Rattle.protocol.specs.declared.tellings.SyncAnswer.{SyncAnswer}
use Rattle.protocol.specs.Settings.{Setting}
use Rattle.protocol.specs.Views.{group_kept}
use Rattle.protocol.specs.Proposals.{Proposal}
use Rattle.protocol.specs.Coordinators.{Coordinator, Next, Ignores, Waits, Sends, Makes, Ends, request_of, asked_group}
use Rattle.protocol.specs.Scrubs.{Scrub, scrub_answer, lagging_after}
use Rattle.protocol.specs.Jobs.{Job, Attempt, JobNext, Reads, Finishes, GivesUp, begun_job, job_ask, job_after, abort_cause, synced_answer}
use Rattle.protocol.specs.Nodes.{Node, NodeStep, no_step, reporting, coordinator_in, is_spent, view_in, then_does, with_job, read_begun_by, read_begun_in, read_begun, synced_packets, job_goes, read_closed, carried_out, carried_for, synced_at, group_at, begun_aside, with_scrub, scrub_coordinator, scrubbing, scrub_ended, members_alone, scrubbed_in, scrubbed_at, resent, resent_up_to, ballot_resent, calls_but_read, calls_but_scrub, job_call, scrub_call}
use Rattle.protocol.proofs.Packets.{OfEach, OfRequests, each_none, each_one, each_both, each_resent, each_teaching, each_ticked}
use Rattle.protocol.proofs.Tables.{put_each}

-- the coordinator of a read of a synchronisation
abbrev pub read_call : Group → Job → BrickId → ℕ → Node → Coordinator
read_call group job me now node = coordinator_in group job.view me now node (job_ask job)

module _ (P : NodeStep → Type 0) (setting : Setting) (me : BrickId) (now : ℕ) (node : Node) where
  -- a brick begins to read, or its synchronisation ends
  pub read_each : (job : Job) → P (no_step node)
      → ((answer : SyncAnswer) → P (reporting (with_job node None) [] (Report.Sync job.group answer)))
      → ((group : Group) → group_kept setting.layout job.view.members job.group.0 ≡ Some group
      → P (read_begun_by setting me node job (read_call group job me now node)))
      → P (read_begun setting me now node job)
  read_each job stays ends reads = by (group_kept setting.layout job.view.members job.group.0) refl
    where
      by : (z : Option Group) → group_kept setting.layout job.view.members job.group.0 ≡ z → P (read_begun_in setting me now node job z)
      by None is = stays
      by (Some group) is = cond_both (is_spent node) _ _ P (λ spent. ends _) (λ isnt. reads group is)

  -- a synchronisation begins, or ends at once
  pub synced_at_each : (group : GroupId) → P (no_step node) → ((answer : SyncAnswer) → P (reporting node [] (Report.Sync group answer)))
      → ((answer : SyncAnswer) → P (reporting (with_job node None) [] (Report.Sync group answer)))
      → (let job = begun_job group (node.learnt group.0).view in
      (kept : Group) → group_kept setting.layout job.view.members group.0 ≡ Some kept
      → P (read_begun_by setting me node job (read_call kept job me now node)))
      → P (synced_at setting me now node group)
  unfolding synced_at
  synced_at_each group stays known ends reads =
      cond_both (node.learnt group.0).synced _ _ P (λ synced. known _)
      (λ isnt. read_each (begun_job group (node.learnt group.0).view) stays ends reads)

  -- a scrub begins in the view that its brick has learnt
  pub scrubbed_at_each : (group : GroupId) (stripe : StripeNo) (members : List BrickId) → P (no_step node)
      → ((kept : Group) → group_at setting.layout node group.0 ≡ Some kept
      → (let c = scrub_coordinator kept me now node group stripe members in P (begun_aside setting me (scrubbing node c) c)))
      → P (scrubbed_at setting me now node group stripe members)
  unfolding scrubbed_at
  scrubbed_at_each group stripe members stays reads = by (group_at setting.layout node group.0) refl
    where
      by : (z : Option Group) → group_at setting.layout node group.0 ≡ z → P (scrubbed_in setting me now node group stripe members z)
      by None is = stays
      by (Some kept) is = reads kept is

-- A fact of what follows a read that was closed: nothing; the end of the synchronisation, where it has read all stripes, or for another cause; or another read.
pub record AfterRead (P : NodeStep → Type 0) (setting : Setting) (me : BrickId) (now : ℕ) (closed : NodeStep) (job : Job) : Type 0 where
  pub stays : P (then_does closed (no_step closed.node))
  pub ends : (answer : SyncAnswer) → P (then_does closed (reporting (with_job closed.node None) [] (Report.Sync job.group answer)))
  pub finishes : P (then_does closed (reporting (with_job closed.node None) (synced_packets me job.group job.view.number setting.layout.bricks 0)
      (Report.Sync job.group (synced_answer job.view.number))))
  pub reads : (attempt : Attempt) (group : Group) → group_kept setting.layout job.view.members job.group.0 ≡ Some group
      → P (then_does closed (read_begun_by setting me closed.node (record job { attempt = attempt })
      (read_call group (record job { attempt = attempt }) me now closed.node)))

-- what follows it
goes_each : (P : NodeStep → Type 0) (setting : Setting) (me : BrickId) (now : ℕ) (closed : NodeStep) (job : Job) → AfterRead P setting me now closed job
    → (next : JobNext) → P (then_does closed (job_goes setting me now closed.node job next))
goes_each P setting me now closed job after (Reads attempt) =
    read_each (λ (step : NodeStep). P (then_does closed step)) setting me now closed.node (record job { attempt = attempt }) after.stays after.ends
    (after.reads attempt)
goes_each P setting me now closed job after Finishes = after.finishes
goes_each P setting me now closed job after (GivesUp cause) = after.ends _

-- A fact of a scrub that goes on: as its next phase begins, it is known who lagged; and once it has ended it is reported.
pub record ScrubGoes (P : NodeStep → Type 0) (setting : Setting) (me : BrickId) (node : Node) (known : ℕ) (c heard : Coordinator) (next : Next)
    (scrub : Option Scrub) : Type 0 where
  pub begins : (s : Scrub) → scrub ≡ Some s → (d : Coordinator) → next ≡ Sends d
      → P (carried_out setting me (with_scrub node (Some (record s { lagging = lagging_after s heard }))) known c (Sends d))
  pub ends : (s : Scrub) → scrub ≡ Some s → (answer : Answer) (seen stored : Option Stamp) → next ≡ Ends answer seen stored
      → (let closed = read_closed me node known c answer seen stored in
      P (then_does closed (scrub_ended closed.node c.call (members_alone c.only) (scrub_answer s.lagging (abort_cause answer) stored))))

-- What a brick does with what a coordinator decided: it carries it out; or it is a read of its synchronisation that ends; or it is its scrub, which begins its
-- next phase or ends.
pub carried_each : (P : NodeStep → Type 0) (setting : Setting) (me : BrickId) (now : ℕ) (node : Node) (known : ℕ) (c heard : Coordinator) (next : Next)
    (reading : Option Job) (scrub : Option Scrub) → P (carried_out setting me node known c next)
    → ((job : Job) → reading ≡ Some job → (answer : Answer) (seen stored : Option Stamp) → next ≡ Ends answer seen stored
    → AfterRead P setting me now (read_closed me node known c answer seen stored) job)
    → ScrubGoes P setting me node known c heard next scrub
    → P (carried_for setting me now node known c heard next reading scrub)
carried_each P setting me now node known c heard next None None carried closed goes = carried
carried_each P setting me now node known c heard Ignores None (Some s) carried closed goes = carried
carried_each P setting me now node known c heard (Waits d) None (Some s) carried closed goes = carried
carried_each P setting me now node known c heard (Sends d) None (Some s) carried closed goes = goes.begins s refl d refl
carried_each P setting me now node known c heard (Makes d) None (Some s) carried closed goes = carried
carried_each P setting me now node known c heard (Ends answer seen stored) None (Some s) carried closed goes = goes.ends s refl answer seen stored refl
carried_each P setting me now node known c heard Ignores (Some job) scrub carried closed goes = carried
carried_each P setting me now node known c heard (Waits d) (Some job) scrub carried closed goes = carried
carried_each P setting me now node known c heard (Sends d) (Some job) scrub carried closed goes = carried
carried_each P setting me now node known c heard (Makes d) (Some job) scrub carried closed goes = carried
carried_each P setting me now node known c heard (Ends answer seen stored) (Some job) scrub carried closed goes =
    goes_each P setting me now (read_closed me node known c answer seen stored) job (closed job refl answer seen stored refl)
    (job_after c.group.stripes job.attempt (abort_cause answer))

-- what holds of a message that all stripes are kept in a view holds of those to each brick
pub each_synced : (P : Packet → Type 0) (me : BrickId) (group : GroupId) (view : ViewNo)
    → ((to : BrickId) → P (record { from = me; to = to; message = Message.Synced group view })) → (left brick : ℕ)
    → OfEach P (synced_packets me group view left brick)
each_synced P me group view holds zero brick = each_none P
each_synced P me group view holds (suc left) brick =
    each_one P _ (synced_packets me group view left (brick + 1)) (holds (record { 0 = brick })) (each_synced P me group view holds left (brick + 1))

-- an operation that is no read of the synchronisation is open
pub but_read_is : (calls : ℕ → Option Coordinator) (job : Option Job) (k : ℕ) (c : Coordinator) → calls_but_read calls job k ≡ Some c → calls k ≡ Some c
but_read_is calls None k c is = is
but_read_is calls (Some job) k c is =
    put_each (λ j (o : Option Coordinator). o ≡ Some c → calls j ≡ Some c) calls job.seq None (λ none. absurd (let never : None ≡ Some c = none in cc))
    (λ j other at. at) k is

-- so is one that is no scrub either
pub but_scrub_is : (calls : ℕ → Option Coordinator) (scrub : Option Scrub) (k : ℕ) (c : Coordinator) → calls_but_scrub calls scrub k ≡ Some c → calls k ≡ Some c
but_scrub_is calls None k c is = is
but_scrub_is calls (Some scrub) k c is =
    put_each (λ j (o : Option Coordinator). o ≡ Some c → calls j ≡ Some c) calls scrub.seq None (λ none. absurd (let never : None ≡ Some c = none in cc))
    (λ j other at. at) k is

module _ (P : Packet → Type 0) (setting : Setting) (me : BrickId) (calls : ℕ → Option Coordinator)
    (holds : (j : ℕ) (c : Coordinator) → calls j ≡ Some c → OfRequests P me c.call (request_of setting.code c))
    (teaches : (j : ℕ) (c : Coordinator) → calls j ≡ Some c → 1 < c.stamp.view.0
    → (from to : BrickId) → P (record { from = from; to = to; message = Message.Learn c.call.group (view_in c) })) where
  of_call : (j : ℕ) (z : Option Coordinator) → calls j ≡ z → OfEach P (resent setting me z)
  of_call j None is = each_none P
  of_call j (Some c) is =
      each_teaching P c.call.group (view_in c) (teaches j c is) _
      (each_resent P me c.call (request_of setting.code c) (holds j c is) c.counted 0 (asked_group c).members)

  of_job : (job : Option Job) → OfEach P (resent setting me (job_call calls job))
  of_job None = each_none P
  of_job (Some job) = of_call job.seq (calls job.seq) refl

  of_scrub : (scrub : Option Scrub) → OfEach P (resent setting me (scrub_call calls scrub))
  of_scrub None = each_none P
  of_scrub (Some scrub) = of_call scrub.seq (calls scrub.seq) refl

  -- what a brick sends at a tick
  pub each_tick : (job : Option Job) (scrub : Option Scrub) (seq : ℕ) (proposal : Option Proposal) → OfEach P (ballot_resent me proposal)
      → OfEach P (resent_up_to setting me (calls_but_scrub (calls_but_read calls job) scrub) seq
      ++ (ballot_resent me proposal ++ (resent setting me (job_call calls job) ++ resent setting me (scrub_call calls scrub))))
  each_tick job scrub seq proposal ballot =
      let mid : ℕ → Option Coordinator = calls_but_read calls job in
      let is_open : (j : ℕ) (c : Coordinator) → calls_but_scrub mid scrub j ≡ Some c → calls j ≡ Some c
      = λ j c is. but_read_is calls job j c (but_scrub_is mid scrub j c is) in
      each_both P (resent_up_to setting me (calls_but_scrub mid scrub) seq)
      (ballot_resent me proposal ++ (resent setting me (job_call calls job) ++ resent setting me (scrub_call calls scrub)))
      (each_ticked P setting me (calls_but_scrub mid scrub) seq (λ j c is. holds j c (is_open j c is)) (λ j c is. teaches j c (is_open j c is)))
      (each_both P (ballot_resent me proposal) (resent setting me (job_call calls job) ++ resent setting me (scrub_call calls scrub)) ballot
      (each_both P (resent setting me (job_call calls job)) (resent setting me (scrub_call calls scrub)) (of_job job) (of_scrub scrub)))
