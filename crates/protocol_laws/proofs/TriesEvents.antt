-- Every event keeps count of the reads of synchronisations.
use Rattle.std.proofs.Common.{◌≡◌, ◌≢◌, ℕ, ◌+◌, ◌≤◌, ◌⊎◌, inl, inr, ⊎_elim, not, nat_lt, List, [], ◌∷◌, Option, is_some, Some, None, refl, sym, ap, ◌∙◌, subst, arith, ltb-true, true, Bool}
use Rattle.std.specs.Prelude.{slice_get, ◌||◌}
use Rattle.std.proofs.lemmas.Bool.{cond_both, cases_eq, ltb-false, cond-true}
use Rattle.std.proofs.lemmas.Option.{same_Some}
use Rattle.fab_base.specs.declared.identities.BrickId.{BrickId}
use Rattle.fab_base.specs.declared.identities.GroupId.{GroupId}
use Rattle.fab_base.specs.declared.member_lists.View.{View}
use Rattle.fab_base.specs.declared.asks.Ask.{Ask}
use Rattle.fab_base.specs.declared.answers.Answer.{Answer}
use Rattle.fab_base.specs.declared.answers.Cause.{Cause}
use Rattle.fab_base.specs.declared.stamps.Stamp.{Stamp}
use Rattle.fab_base.specs.Layouts.{Group, group_of}
use Rattle.quorum.specs.Memberships.{is_membership}
use Rattle.messages.specs.declared.calls.Call.{Call}
use Rattle.messages.specs.declared.packets.Message.{Message}
use Rattle.messages.specs.declared.packets.Packet.{Packet}
use Rattle.messages.specs.declared.requests.Request.{Request}
use Rattle.messages.specs.declared.replies.Reply.{Reply}
use Rattle.protocol.specs.declared.tellings.Report.{Report}
use Rattle.protocol.specs.declared.tellings.Report.TheVariants as report
use Rattle.protocol.specs.declared.tellings.ViewAnswer.TheVariants as answers
use Rattle.protocol.specs.declared.tellings.SyncAnswer.TheVariants.{Synced, Stopped, Spent}
use Rattle.protocol.specs.Settings.{Setting, IsSound}
use Rattle.protocol.specs.Views.{group_kept, Views, view_of}
use Rattle.protocol.specs.Ballots.{Voted}
use Rattle.protocol.specs.Replicas.{handle, is_held}
use Rattle.protocol.specs.Coordinators.{Coordinator, Next, Ignores, Waits, Sends, Makes, Ends, on_reply, counts_at, counted_at}
use Rattle.protocol.specs.Proposals.{Proposal, Voting, Ignored, Waited, Asks, Ended, ballot_packets, voted}
use Rattle.protocol.specs.Jobs.{Job, JobNext, Reads, Finishes, GivesUp, most_tries, begun_job, job_after, abort_cause, job_ask}
use Rattle.protocol.specs.Nodes.{Node, NodeStep, put, sending, reporting, with_known, with_round, with_call, with_job, with_proposal, known_after, full_at, replica_at, vote_at, fresh_stamp, phase_packets, carried_out, carried_ballot, replied_ballot, ended_packets, replied_at, job_reading, read_begun, read_begun_in, read_begun_by, reading, job_goes, synced_packets, is_spent, coordinator_in, node_learnt, node_synced, view_counted, requested, heard, received, invoked, began, group_at, new_proposal, proposing, proposed_in, proposed, synced_at, stopped, restarted, reply_packets, with_replica, scrub_of, scrub_ended, members_alone, with_scrub, scrubbed_at, scrub_coordinator, scrubbing, begun_aside, then_does, lists_fit, ticked}
use Rattle.protocol.specs.Worlds.{World, Operation, Event, Found, Before, After, first_world, number_of, with_seen, with_closed, reports_of, world_began, world_stepped, world_stopped, world_found, world_started, run, with_held, replies_at, replies_with, counted_after, with_counted, world_ticked}
use Rattle.protocol.proofs.Events.{EventCases, world_handled, world_counting, run_along}
use Rattle.protocol.proofs.Puts.{put_other}
use Rattle.protocol.proofs.Served.{request_each}
use Rattle.protocol.proofs.Tables.{put_each, put_same, get_grown, get_one, get_kept}
use Rattle.view_laws.proofs.Syncing.{synced_each}
use Rattle.protocol_laws.specs.SyncEnds.{WasAborted, SyncsShow}
use Rattle.protocol_laws.proofs.Books.{Books, OperationBooks, CallBooks, JobBooks, IsCall}
use Rattle.protocol_laws.proofs.BooksKept.{KeepsAsk, reading_is, keeps_ask, scrub_is}
use Rattle.protocol_laws.proofs.BooksEvents.{books}
use Rattle.protocol_laws.proofs.Closing.{closes, closed_world, closed_then, closed_second, carried_noted}
use Rattle.protocol_laws.proofs.Votes.{with_vote}
use Rattle.protocol_laws.proofs.Hearing.{kept_world, taught_by, hearing_each}
use Rattle.protocol_laws.proofs.Tallies.{Tallied}
use Rattle.protocol_laws.proofs.Teaching.{told_each, learnt_each}
use Rattle.protocol_laws.proofs.Tries.{Table, StaysClosed, stays_itself, stays_then, made_stays, seen_stays, answered_stays, closed_stays, new_stays, IsTry, EarlierTries, JobTries, StoppedTries, ReportTried, Tried, job_on, report_on, now_tried, first_tried, again_tried, stop_tried, Later, told_on, counted_on, scrub_on, ScrubEnded}
use Rattle.protocol.specs.Scrubs.{Scrub, scrub_answer}
use Rattle.protocol.specs.declared.tellings.ScrubAnswer.{ScrubAnswer}
use Rattle.fab_base.specs.declared.identities.StripeNo.{StripeNo}
use Rattle.view_laws.proofs.SyncReads.{scrubbed_at_each}
use Rattle.protocol_laws.proofs.Noting.{noted_by, replied_noted, noting_each, noted_keeps, decision_on, noted_decides, noted_end}
use Rattle.protocol_laws.proofs.ScrubShows.{ScrubLast, shows_end}
use Rattle.protocol_laws.specs.ScrubEnds.{Held, cause_of, ScrubTold, ScrubsShow}
use Rattle.protocol_laws.specs.Laws.{WasSent, RunFollows}
use Rattle.protocol.specs.declared.phases.Counted.{Counted}
use Rattle.protocol_laws.proofs.Said.{IsSaid}
use Rattle.protocol_laws.proofs.SaidAlways.{always_said, follows_front}
use Rattle.protocol_laws.proofs.TalliesEvents.{tallied}
use Rattle.protocol_laws.proofs.Left.{packet_was_sent}
use Rattle.protocol.proofs.CountsAt.{CountsAt, counts_facts}

-- a brick has the synchronisation that it had, under the number that it had; or its reads are so
abbrev pub KeepsTries : World → World → ℕ → Job → Type 0
KeepsTries w next i job =
    (((w.nodes i).job ≡ Some job) × ((next.nodes i).boot ≡ (w.nodes i).boot) × (number_of next i job.seq ≡ number_of w i job.seq))
    ⊎ JobTries next.operations (record { 0 = i }) (next.nodes i).boot (number_of next i job.seq) job

-- what is known of reads stays
pub tried_on : (setting : Setting) (views : Views) (w next : World) → Later w next
    → ((i : ℕ) (job : Job) → (next.nodes i).job ≡ Some job → KeepsTries w next i job)
    → ((k : ℕ) (told : BrickId × Report) → slice_get next.choices.reports k ≡ Some told
    → ((j : ℕ) × (slice_get w.choices.reports j ≡ Some told)) ⊎ ReportTried setting views next told.0 told.1)
    → Tried setting views w → Tried setting views next
tried_on setting views w next later keeps reports tried = record {
  jobs = λ i job is. ⊎_elim
      (λ (old : ((w.nodes i).job ≡ Some job) × ((next.nodes i).boot ≡ (w.nodes i).boot) × (number_of next i job.seq ≡ number_of w i job.seq)).
      subst (λ (b : ℕ). JobTries next.operations (record { 0 = i }) b (number_of next i job.seq) job) (sym old.1)
      (subst (λ (n : ℕ). JobTries next.operations (record { 0 = i }) (w.nodes i).boot n job) (sym old.2)
      (job_on w.operations next.operations later.stays (record { 0 = i }) (w.nodes i).boot (number_of w i job.seq) job (tried.jobs i job old.0))))
      (λ (new : JobTries next.operations (record { 0 = i }) (next.nodes i).boot (number_of next i job.seq) job). new)
      (keeps i job is);
  reported = λ k told is. ⊎_elim
      (λ (old : (j : ℕ) × (slice_get w.choices.reports j ≡ Some told)).
      report_on setting views w next later told.0 told.1 (tried.reported old.0 told old.1))
      (λ (new : ReportTried setting views next told.0 told.1). new)
      (reports k told is);
}

-- operations have no later number than the last that began
abbrev pub AreWithin : Table → ℕ → Type 0
AreWithin operations begun = (n : ℕ) (o : Operation) → operations n ≡ Some o → n ≤ begun

-- also once one of them changed
within_put : (operations : Table) (begun n : ℕ) (after : Option Operation) → AreWithin operations begun → n ≤ begun → AreWithin (put operations n after) begun
within_put operations begun n after within most m o is = ⊎_elim
    (λ (mine : m ≡ n). (let low : n ≤ begun = most in omega (arith, mine, low)))
    (λ (other : m ≢ n). within m o (sym (put_other operations n after m other) ∙ is))
    (cases_eq m n)

-- what a step reports shows what it should
abbrev pub ReportsTried : Setting → Views → World → BrickId → List Report → Type 0
ReportsTried setting views w me reports =
    (j : ℕ) (told : BrickId × Report) → slice_get (reports_of me reports) j ≡ Some told → ReportTried setting views w told.0 told.1

-- nothing, or one report
none_reported : (setting : Setting) (views : Views) (w : World) (me : BrickId) → ReportsTried setting views w me []
none_reported setting views w me j told is = cc

one_reported : (setting : Setting) (views : Views) (w : World) (me : BrickId) (one : Report) → ReportTried setting views w me one
    → ReportsTried setting views w me (one ∷ [])
one_reported setting views w me one shows j told is =
    subst (λ (z : BrickId × Report). ReportTried setting views w z.0 z.1) (get_one (me, one) told j is) shows

-- what a brick has held it has held, whatever it keeps then
held_stays : (held : Held) (i : ℕ) (node : Node) (j g s : ℕ) (t : Stamp) → held j g s t ≡ true → with_held held i node j g s t ≡ true
held_stays held i node j g s t =
    put_each (λ k f. held k g s t ≡ true → f g s t ≡ true) held i _ (λ is. ap (λ (b : Bool). b || is_held t (node.replicas g (view_of t) s).log) is)
    (λ k other is. is) j

module _ (setting : Setting) (views : Views) (w : World) (me : BrickId) (tried : Tried setting views w) where
  -- a step that tells what keeps operations closed leads to a later world
  step_later : (step : NodeStep)
      → (let next = world_stepped setting w me step in StaysClosed w.operations next.operations → next.replies ≡ w.replies → Later w next)
  step_later step stays replies = record {
    stays = stays;
    replies = λ n o cause is ended p. ap (λ (r : ℕ → ℕ → List Counted). r n p) replies;
    held = held_stays w.held me.0 step.node;
    sent = λ packet was. (was.0, get_kept w.packets step.packets was.0 packet was.1);
  }

  -- a step that does, and leaves the brick's boot, and its synchronisation as it was, or none
  step_tried : (step : NodeStep)
      → (let next = world_stepped setting w me step in
      StaysClosed w.operations next.operations → next.numbers ≡ w.numbers → next.replies ≡ w.replies
      → ((job : Job) → step.node.job ≡ Some job → (w.nodes me.0).job ≡ Some job) → step.node.boot ≡ (w.nodes me.0).boot
      → ReportsTried setting views next me step.reports → Tried setting views next)
  step_tried step stays numbers replies jobs boot reports =
      let next : World = world_stepped setting w me step in
      tried_on setting views w next (step_later step stays replies)
      (λ i job is. inl (
      put_each (λ i (n : Node). n.job ≡ Some job
      → ((w.nodes i).job ≡ Some job) × (n.boot ≡ (w.nodes i).boot) × (next.numbers i n.boot job.seq ≡ w.numbers i (w.nodes i).boot job.seq))
      w.nodes me.0 step.node
      (λ at. (
        jobs job at,
        boot,
        ap (λ (b : ℕ). next.numbers me.0 b job.seq) boot ∙ ap (λ (f : ℕ → ℕ → ℕ → ℕ). f me.0 (w.nodes me.0).boot job.seq) numbers,
      ))
      (λ i other at. (at, refl, ap (λ (f : ℕ → ℕ → ℕ → ℕ). f i (w.nodes i).boot job.seq) numbers)) i is))
      (λ k told is. ⊎_elim
      (λ (old : slice_get w.choices.reports k ≡ Some told). inl (k, old))
      (λ (new : (j : ℕ) × (slice_get (reports_of me step.reports) j ≡ Some told)). inr (reports new.0 told new.1))
      (get_grown w.choices.reports (reports_of me step.reports) k told is))
      tried

  -- one that tells nothing and answers nothing
  quiet_tried : (node : Node) (packets : List Packet) (reports : List Report)
      → ((job : Job) → node.job ≡ Some job → (w.nodes me.0).job ≡ Some job) → node.boot ≡ (w.nodes me.0).boot → ReportsTried setting views w me reports
      → Tried setting views (world_stepped setting w me (record { node = node; packets = packets; told = []; answers = []; reports = reports }))
  quiet_tried node packets reports jobs boot shows =
      let step : NodeStep = record { node = node; packets = packets; told = []; answers = []; reports = reports } in
      step_tried step (stays_itself w.operations) refl refl jobs boot
      (λ j told is. report_on setting views w (world_stepped setting w me step) (step_later step (stays_itself w.operations) refl) told.0 told.1 (shows j told is))

  -- a brick keeps something else, as it handles a message
  kept_tried : (node : Node) → node.job ≡ (w.nodes me.0).job → node.boot ≡ (w.nodes me.0).boot → Tried setting views (kept_world w me node)
  kept_tried node job boot =
      let next : World = kept_world w me node in
      tried_on setting views w next
      (record {
        stays = stays_itself w.operations;
        replies = λ n o cause is ended p. refl;
        held = held_stays w.held me.0 node;
        sent = λ packet sent. sent;
      })
      (λ i j is. inl (
      put_each (λ i (n : Node). n.job ≡ Some j
      → ((w.nodes i).job ≡ Some j) × (n.boot ≡ (w.nodes i).boot) × (w.numbers i n.boot j.seq ≡ w.numbers i (w.nodes i).boot j.seq))
      w.nodes me.0 node (λ at. (sym job ∙ at, boot, ap (λ (b : ℕ). w.numbers me.0 b j.seq) boot)) (λ i other at. (at, refl, refl)) i is))
      (λ k told is. ⊎_elim
      (λ (old : slice_get w.choices.reports k ≡ Some told). inl (k, old))
      (λ (none : (j : ℕ) × (slice_get (reports_of me []) j ≡ Some told)). inr (none_reported setting views next me none.0 told none.1))
      (get_grown w.choices.reports (reports_of me []) k told is))
      tried

  -- nor reports
  still_tried : (node : Node) (packets : List Packet) → node.job ≡ (w.nodes me.0).job → node.boot ≡ (w.nodes me.0).boot
      → Tried setting views (world_stepped setting w me (sending node packets))
  still_tried node packets job boot = quiet_tried node packets [] (λ j is. sym job ∙ is) boot (none_reported setting views w me)

  -- the synchronisation ends
  end_tried : (packets : List Packet) (one : Report) → ReportTried setting views w me one
      → Tried setting views (world_stepped setting w me (reporting (with_job (w.nodes me.0) None) packets one))
  end_tried packets one shows =
      quiet_tried (with_job (w.nodes me.0) None) packets (one ∷ []) (λ job is. absurd (let never : None ≡ Some job = is in cc)) refl
      (one_reported setting views w me one shows)

  -- a brick carries out what a coordinator decided
  carried_tried : (known : ℕ) (c : Coordinator) (next : Next) → Tried setting views (world_stepped setting w me (carried_out setting me (w.nodes me.0) known c next))
  carried_tried known c Ignores = still_tried (with_known (w.nodes me.0) known) [] refl refl
  carried_tried known c (Waits d) = still_tried (with_call (w.nodes me.0) known (w.nodes me.0).busy c.call.seq (Some d)) [] refl refl
  carried_tried known c (Sends d) = still_tried _ (phase_packets setting me d) refl refl
  carried_tried known c (Makes d) =
      step_tried (carried_out setting me (w.nodes me.0) known c (Makes d))
      (made_stays w.operations (number_of w me.0 c.call.seq) d.stamp d.base) refl refl (λ job is. is) refl (none_reported setting views _ me)
  carried_tried known c (Ends answer None stored) =
      step_tried (carried_out setting me (w.nodes me.0) known c (Ends answer None stored))
      (answered_stays w.operations (number_of w me.0 c.call.seq) answer) refl refl (λ job is. is) refl (none_reported setting views _ me)
  carried_tried known c (Ends answer (Some v) stored) =
      let n : ℕ = number_of w me.0 c.call.seq in
      let seen : Table = put w.operations n (with_seen v (w.operations n)) in
      step_tried (carried_out setting me (w.nodes me.0) known c (Ends answer (Some v) stored))
      (stays_then w.operations seen _ (seen_stays w.operations n v) (answered_stays seen n answer)) refl refl (λ job is. is) refl (none_reported setting views _ me)

  -- a read begins, of a synchronisation whose earlier reads of the stripe are known
  begun_tried : AreWithin w.operations w.begun → (job : Job) (c : Coordinator) → c.call.boot ≡ (w.nodes me.0).boot
      → EarlierTries w.operations me (w.nodes me.0).boot w.begun job → Tried setting views (world_stepped setting w me (read_begun_by setting me (w.nodes me.0) job c))
  begun_tried within job c boot earlier =
      let next : World = world_stepped setting w me (read_begun_by setting me (w.nodes me.0) job c) in
      let new : Job = record job { seq = c.call.seq } in
      let stays : StaysClosed w.operations next.operations
      = new_stays w.operations (w.begun + 1) _ (λ p is. (let most : w.begun + 1 ≤ w.begun = within (w.begun + 1) p is in omega arith)) in
      let number : next.numbers me.0 (w.nodes me.0).boot c.call.seq ≡ w.begun + 1
      = ap (λ (f : ℕ → ℕ → ℕ). f (w.nodes me.0).boot c.call.seq) (put_same w.numbers me.0 _)
      ∙ ap (λ (b : ℕ). put (w.numbers me.0) c.call.boot (put (w.numbers me.0 c.call.boot) c.call.seq (w.begun + 1)) b c.call.seq) (sym boot)
      ∙ ap (λ (f : ℕ → ℕ). f c.call.seq) (put_same (w.numbers me.0) c.call.boot (put (w.numbers me.0 c.call.boot) c.call.seq (w.begun + 1)))
      ∙ put_same (w.numbers me.0 c.call.boot) c.call.seq (w.begun + 1) in
      tried_on setting views w next (step_later (read_begun_by setting me (w.nodes me.0) job c) stays refl)
      (λ i later is.
      put_each (λ i (n : Node). n.job ≡ Some later
      → (((w.nodes i).job ≡ Some later) × (n.boot ≡ (w.nodes i).boot) × (next.numbers i n.boot later.seq ≡ w.numbers i (w.nodes i).boot later.seq))
      ⊎ JobTries next.operations (record { 0 = i }) n.boot (next.numbers i n.boot later.seq) later)
      w.nodes me.0 (reading (w.nodes me.0) job c)
      (λ at. inr (
      subst (λ (j : Job). JobTries next.operations me (w.nodes me.0).boot (next.numbers me.0 (w.nodes me.0).boot j.seq) j) (same_Some new later at)
      (subst (λ (n : ℕ). JobTries next.operations me (w.nodes me.0).boot n new) (sym number)
      (now_tried w.operations next.operations me (w.nodes me.0).boot w.begun c.call.seq job stays earlier))))
      (λ i other at. inl (at, refl, ap (λ (f : ℕ → ℕ → ℕ). f (w.nodes i).boot later.seq) (put_other w.numbers me.0 _ i other))) i is)
      (λ k told is. ⊎_elim
      (λ (old : slice_get w.choices.reports k ≡ Some told). inl (k, old))
      (λ (none : (j : ℕ) × (slice_get (reports_of me []) j ≡ Some told)). inr (none_reported setting views next me none.0 told none.1))
      (get_grown w.choices.reports (reports_of me []) k told is))
      tried

  -- it is to begin
  reads_tried : (now : ℕ) → AreWithin w.operations w.begun → (job : Job) → EarlierTries w.operations me (w.nodes me.0).boot w.begun job
      → Tried setting views (world_stepped setting w me (read_begun setting me now (w.nodes me.0) job))
  reads_tried now within job earlier = by (group_kept setting.layout job.view.members job.group.0)
    where
      by : (z : Option Group) → Tried setting views (world_stepped setting w me (read_begun_in setting me now (w.nodes me.0) job z))
      by None = still_tried (w.nodes me.0) [] refl refl
      by (Some group) =
          cond_both (is_spent (w.nodes me.0)) _ _ (λ (step : NodeStep). Tried setting views (world_stepped setting w me step))
          (λ spent. end_tried [] (report.Sync job.group (Spent (record { 0 = job.attempt.stripe }))) tt)
          (λ isnt. begun_tried within job (coordinator_in group job.view me now (w.nodes me.0) (job_ask job)) refl earlier)

  -- a read has ended, and the synchronisation goes on
  goes_tried : (now : ℕ) → AreWithin w.operations w.begun → (job : Job) → (w.nodes me.0).job ≡ Some job → (stripes : ℕ) (cause : Option Cause)
      → IsTry w.operations me job.group (record { 0 = job.attempt.stripe }) (w.nodes me.0).boot job.view.number.0 (number_of w me.0 job.seq) (Some cause)
      → Tried setting views (world_stepped setting w me (job_goes setting me now (w.nodes me.0) job (job_after stripes job.attempt cause)))
  goes_tried now within job has stripes None ended =
      cond_both (nat_lt (job.attempt.stripe + 1) stripes) (Reads (record { stripe = job.attempt.stripe + 1; tries = 1 })) Finishes
      (λ (next : JobNext). Tried setting views (world_stepped setting w me (job_goes setting me now (w.nodes me.0) job next)))
      (λ more. reads_tried now within (record job { attempt = record { stripe = job.attempt.stripe + 1; tries = 1 } })
      (first_tried w.operations me (w.nodes me.0).boot w.begun (record job { attempt = record { stripe = job.attempt.stripe + 1; tries = 1 } }) refl))
      (λ last. end_tried (synced_packets me job.group job.view.number setting.layout.bricks 0) (report.Sync job.group (Synced job.view.number)) tt)
  goes_tried now within job has stripes (Some cause) ended =
      let tries : JobTries w.operations me (w.nodes me.0).boot (number_of w me.0 job.seq) job = tried.jobs me.0 job has in
      cond_both (nat_lt job.attempt.tries most_tries) (Reads (record job.attempt { tries = job.attempt.tries + 1 })) (GivesUp cause)
      (λ (next : JobNext). Tried setting views (world_stepped setting w me (job_goes setting me now (w.nodes me.0) job next)))
      (λ less. reads_tried now within (record job { attempt = record job.attempt { tries = job.attempt.tries + 1 } })
      (again_tried w.operations me (w.nodes me.0).boot (number_of w me.0 job.seq) job cause tries ended w.begun within (ltb-true job.attempt.tries most_tries less)))
      (λ most. end_tried [] (report.Sync job.group (Stopped (record { 0 = job.attempt.stripe }) cause))
      (stop_tried w.operations me (w.nodes me.0).boot (number_of w me.0 job.seq) job cause tries ended (ltb-false job.attempt.tries most_tries most)))

-- An operation without marks ended once: operations stay, and it is what it was, but for what it read and how it ended.
record ClosesOnce (operations later : Table) (begun n : ℕ) (o : Operation) (cause : Option Cause) : Type 0 where
  stays : StaysClosed operations later
  within : AreWithin later begun
  now : Operation
  now_is : later n ≡ Some now
  keeps : KeepsAsk o now
  ended : now.closed ≡ Some cause

close_once : (operations : Table) (begun n : ℕ) (o : Operation) (cause : Option Cause) → operations n ≡ Some o → o.closed ≡ None → AreWithin operations begun
    → ClosesOnce operations (put operations n (with_closed cause (operations n))) begun n o cause
close_once operations begun n o cause is unclosed within = record {
  stays = closed_stays operations n cause (λ p at. ap (λ (z : Operation). z.closed) (same_Some p o (sym at ∙ is)) ∙ unclosed);
  within = within_put operations begun n (with_closed cause (operations n)) within (within n o is);
  now = record o { closed = Some cause; answered = not (is_some cause) };
  now_is = put_same operations n (with_closed cause (operations n)) ∙ ap (with_closed cause) is;
  keeps = record { brick = refl; boot = refl; seq = refl; ask = refl; mark = refl; view = refl };
  ended = refl;
}

-- also where it saw a version as it ended
seen_close : (operations : Table) (begun n : ℕ) (o : Operation) (cause : Option Cause) (v : Stamp) → operations n ≡ Some o → o.closed ≡ None
    → AreWithin operations begun
    → (let seen : Table = put operations n (with_seen v (operations n)) in ClosesOnce operations (put seen n (with_closed cause (seen n))) begun n o cause)
seen_close operations begun n o cause v is unclosed within =
    let seen : Table = put operations n (with_seen v (operations n)) in
    let there : seen n ≡ Some (record o { version = Some v }) = put_same operations n (with_seen v (operations n)) ∙ ap (with_seen v) is in
    let once : ClosesOnce seen (put seen n (with_closed cause (seen n))) begun n (record o { version = Some v }) cause
    = close_once seen begun n (record o { version = Some v }) cause there unclosed
    (within_put operations begun n (with_seen v (operations n)) within (within n o is)) in
    record {
      stays = stays_then operations seen (put seen n (with_closed cause (seen n))) (seen_stays operations n v) once.stays;
      within = once.within;
      now = once.now;
      now_is = once.now_is;
      keeps = record {
        brick = once.keeps.brick;
        boot = once.keeps.boot;
        seq = once.keeps.seq;
        ask = once.keeps.ask;
        mark = once.keeps.mark;
        view = once.keeps.view;
      };
      ended = once.ended;
    }

-- what aborted a scrub is what aborted its operation
cause_is : (lagging : List BrickId) (cause : Option Cause) (stored : Option Stamp) → cause_of (scrub_answer lagging cause stored) ≡ cause
cause_is lagging None None = refl
cause_is lagging None (Some version) = refl
cause_is lagging (Some cause) stored = refl

-- the read of a synchronisation, which is open under a call's number
abbrev pub IsOpenTry : World → BrickId → Job → ℕ → Type 0
IsOpenTry w me job seq =
    IsTry w.operations me job.group (record { 0 = job.attempt.stripe }) (w.nodes me.0).boot job.view.number.0 (number_of w me.0 seq) None

-- where the scrub at a coordinator ends upon a reply, it shows this
abbrev pub LastShown : Setting → Views → World → BrickId → ℕ → BrickId → Call → Reply → Coordinator → Type 0
LastShown setting views w me now from call reply c =
    (s : Scrub) → (w.nodes me.0).scrub ≡ Some s → s.seq ≡ c.call.seq → (answer : Answer) (seen stored : Option Stamp)
    → decision_on setting me now from (w.nodes me.0) call reply c ≡ Ends answer seen stored
    → ScrubLast setting views w (number_of w me.0 c.call.seq) me c (scrub_answer s.lagging (abort_cause answer) stored)

-- it shows it too where no more replies counted, and no less was held or sent
last_on : (setting : Setting) (views : Views) (w next : World) (n : ℕ) (me : BrickId) (c : Coordinator) (answer : ScrubAnswer)
    → next.operations n ≡ w.operations n → ((p : ℕ) → next.replies n p ≡ w.replies n p)
    → ((i g s : ℕ) (t : Stamp) → w.held i g s t ≡ true → next.held i g s t ≡ true) → ((packet : Packet) → WasSent w packet → WasSent next packet)
    → ScrubLast setting views w n me c answer → ScrubLast setting views next n me c answer
last_on setting views w next n me c answer same replies held sent last = record {
  operation = last.operation;
  is = same ∙ last.is;
  was = last.was;
  alone = counted_on w next n last.operation last.operation (members_alone c.only) replies sent (keeps_ask last.operation) last.alone;
  told = told_on setting views (w.replies n) (next.replies n) w.held next.held c.call last.operation.view (members_alone c.only) answer replies held last.told;
}

-- a coordinator's call is that of an operation that has not ended
abbrev pub IsOpenCall : World → BrickId → Coordinator → Type 0
IsOpenCall w me c = (o : Operation) × (w.operations (number_of w me.0 c.call.seq) ≡ Some o) × (o.closed ≡ None)

-- a coordinator's call is the read of its brick's synchronisation
abbrev pub IsRead : World → BrickId → Coordinator → Job → Type 0
IsRead w me c job = ((w.nodes me.0).job ≡ Some job) × (job.seq ≡ c.call.seq) × IsOpenTry w me job c.call.seq

-- what is known of a coordinator's call: whether it is that read, and that its operation has not ended
abbrev pub AreReads : World → BrickId → Coordinator → Type 0
AreReads w me c = ((job : Job) → job_reading (w.nodes me.0).job c.call.seq ≡ Some job → IsRead w me c job) × IsOpenCall w me c

module _ (setting : Setting) (views : Views) (w : World) (me : BrickId) (tried : Tried setting views w) (within : AreWithin w.operations w.begun) where
  -- what the close of a read leaves
  closed_once : (known : ℕ) (c : Coordinator) (answer : Answer) (stored : Option Stamp) (o : Operation) → w.operations (number_of w me.0 c.call.seq) ≡ Some o
      → o.closed ≡ None → (seen : Option Stamp)
      → ClosesOnce w.operations (closed_world setting w me known c answer seen stored).operations w.begun (number_of w me.0 c.call.seq) o (abort_cause answer)
  closed_once known c answer stored o is unclosed None = close_once w.operations w.begun (number_of w me.0 c.call.seq) o (abort_cause answer) is unclosed within
  closed_once known c answer stored o is unclosed (Some v) =
      seen_close w.operations w.begun (number_of w me.0 c.call.seq) o (abort_cause answer) v is unclosed within

  -- and the numbers of calls, and how many operations have begun
  closed_numbers : (known : ℕ) (c : Coordinator) (answer : Answer) (stored seen : Option Stamp)
      → ((closed_world setting w me known c answer seen stored).numbers ≡ w.numbers)
      × ((closed_world setting w me known c answer seen stored).begun ≡ w.begun)
      × ((closed_world setting w me known c answer seen stored).replies ≡ w.replies)
  closed_numbers known c answer stored None = (refl, refl, refl)
  closed_numbers known c answer stored (Some v) = (refl, refl, refl)

  -- a read of the synchronisation ends
  ends_tried : (now known : ℕ) (c : Coordinator) (answer : Answer) (seen stored : Option Stamp) (job : Job) → IsRead w me c job
      → Tried setting views (world_stepped setting w me (then_does (closes w me known c answer seen stored)
      (job_goes setting me now (closes w me known c answer seen stored).node job (job_after c.group.stripes job.attempt (abort_cause answer)))))
  ends_tried now known c answer seen stored job (has, seq, it) =
      let y : World = closed_world setting w me known c answer seen stored in
      let once = closed_once known c answer stored it.operation it.is it.ended seen in
      let same = closed_numbers known c answer stored seen in
      let node : y.nodes me.0 ≡ (closes w me known c answer seen stored).node = put_same w.nodes me.0 (closes w me known c answer seen stored).node in
      let boot : (y.nodes me.0).boot ≡ (w.nodes me.0).boot = ap (λ (n : Node). n.boot) node in
      let number : number_of y me.0 job.seq ≡ number_of w me.0 c.call.seq
      = ap (λ (f : ℕ → ℕ → ℕ → ℕ). f me.0 (y.nodes me.0).boot job.seq) same.0 ∙ ap (λ (b : ℕ). w.numbers me.0 b job.seq) boot
      ∙ ap (λ (k : ℕ). w.numbers me.0 (w.nodes me.0).boot k) seq in
      subst (λ (x : World). Tried setting views x)
      (closed_then setting w me now known c answer seen stored job (job_after c.group.stripes job.attempt (abort_cause answer)))
      (goes_tried setting views y me
      (step_tried setting views w me tried (closes w me known c answer seen stored) once.stays same.0 same.2 (λ j is. is) refl (none_reported setting views y me))
      now (subst (λ (b : ℕ). AreWithin y.operations b) (sym same.1) once.within) job (ap (λ (n : Node). n.job) node ∙ has) c.group.stripes (abort_cause answer)
      (record {
        operation = once.now;
        is = ap y.operations number ∙ once.now_is;
        unmarked = once.keeps.mark ∙ it.unmarked;
        brick_is = once.keeps.brick ∙ it.brick_is;
        boot_is = once.keeps.boot ∙ it.boot_is ∙ sym boot;
        view_is = once.keeps.view ∙ it.view_is;
        ask = once.keeps.ask ∙ it.ask;
        ended = once.ended;
      }))

  -- a scrub ends
  scrub_tried : (known : ℕ) (c : Coordinator) (answer : Answer) (seen stored : Option Stamp) (lagging : List BrickId) → IsOpenCall w me c
      → (let members = members_alone c.only in
      let ended = scrub_answer lagging (abort_cause answer) stored in
      ScrubLast setting views w (number_of w me.0 c.call.seq) me c ended → (let y = closed_world setting w me known c answer seen stored in
      Tried setting views (world_stepped setting y me (scrub_ended (y.nodes me.0) c.call members ended))))
  scrub_tried known c answer seen stored lagging (o, is, unclosed) last =
      let members : List BrickId = members_alone c.only in
      let ended : ScrubAnswer = scrub_answer lagging (abort_cause answer) stored in
      let y : World = closed_world setting w me known c answer seen stored in
      let once = closed_once known c answer stored o is unclosed seen in
      let same = closed_numbers known c answer stored seen in
      quiet_tried setting views y me
      (step_tried setting views w me tried (closes w me known c answer seen stored) once.stays same.0 same.2 (λ j has. has) refl (none_reported setting views y me))
      (with_scrub (y.nodes me.0) None) [] (report.Scrub c.call members ended ∷ []) (λ j has. has) refl
      (one_reported setting views y me (report.Scrub c.call members ended)
      (let mine = same_Some last.operation o (sym last.is ∙ is) in
      let keeps : KeepsAsk last.operation once.now = subst (λ (z : Operation). KeepsAsk z once.now) (sym mine) once.keeps in
      let replies : (p : ℕ) → y.replies (number_of w me.0 c.call.seq) p ≡ w.replies (number_of w me.0 c.call.seq) p
      = λ p. ap (λ (r : ℕ → ℕ → List Counted). r (number_of w me.0 c.call.seq) p) same.2 in
      record {
        n = number_of w me.0 c.call.seq;
        operation = once.now;
        is = once.now_is;
        was = scrub_on me c.call last.operation once.now keeps last.was;
        ended = once.ended ∙ ap (λ (z : Option Cause). Some z) (sym (cause_is lagging (abort_cause answer) stored));
        alone = counted_on w y (number_of w me.0 c.call.seq) last.operation once.now members replies
            (λ packet sent. (sent.0, get_kept w.packets (closes w me known c answer seen stored).packets sent.0 packet sent.1)) keeps last.alone;
        told = subst (λ (e : ℕ). ScrubTold setting views (y.replies (number_of w me.0 c.call.seq)) y.held c.call e members ended) (sym keeps.view)
            (told_on setting views (w.replies (number_of w me.0 c.call.seq)) (y.replies (number_of w me.0 c.call.seq)) w.held y.held c.call last.operation.view members
            ended replies (held_stays w.held me.0 (closes w me known c answer seen stored).node) last.told);
      }))

  -- a brick does what a coordinator decided, that of a read for its synchronisation, of its scrub, or of another operation
  for_tried : (now known : ℕ) (c : Coordinator) (next : Next) (reading : Option Job) (scrub : Option Scrub)
      → ((job : Job) → reading ≡ Some job → IsRead w me c job) → IsOpenCall w me c
      → ((s : Scrub) → scrub ≡ Some s → (answer : Answer) (seen stored : Option Stamp) → next ≡ Ends answer seen stored
      → ScrubLast setting views w (number_of w me.0 c.call.seq) me c (scrub_answer s.lagging (abort_cause answer) stored))
      → Tried setting views (world_stepped setting w me (carried_noted setting me now (w.nodes me.0) known c next reading scrub))
  for_tried now known c next None None reads is_open lasts = carried_tried setting views w me tried known c next
  for_tried now known c Ignores None (Some s) reads is_open lasts = carried_tried setting views w me tried known c Ignores
  for_tried now known c (Waits d) None (Some s) reads is_open lasts = carried_tried setting views w me tried known c (Waits d)
  for_tried now known c (Sends d) None (Some s) reads is_open lasts = carried_tried setting views w me tried known c (Sends d)
  for_tried now known c (Makes d) None (Some s) reads is_open lasts = carried_tried setting views w me tried known c (Makes d)
  for_tried now known c (Ends answer seen stored) None (Some s) reads is_open lasts =
      subst (λ (x : World). Tried setting views x)
      (closed_second setting w me now known c answer seen stored (λ n. scrub_ended n c.call (members_alone c.only) (scrub_answer s.lagging (abort_cause answer) stored))
      (refl, refl, refl))
      (scrub_tried known c answer seen stored s.lagging is_open (lasts s refl answer seen stored refl))
  for_tried now known c Ignores (Some job) scrub reads is_open lasts = carried_tried setting views w me tried known c Ignores
  for_tried now known c (Waits d) (Some job) scrub reads is_open lasts = carried_tried setting views w me tried known c (Waits d)
  for_tried now known c (Sends d) (Some job) scrub reads is_open lasts = carried_tried setting views w me tried known c (Sends d)
  for_tried now known c (Makes d) (Some job) scrub reads is_open lasts = carried_tried setting views w me tried known c (Makes d)
  for_tried now known c (Ends answer seen stored) (Some job) scrub reads is_open lasts = ends_tried now known c answer seen stored job (reads job refl)

  -- a reply to its proposal, if it has one
  ballot_tried : (from : BrickId) (node : Node) (call : Call) (reply : Reply) (proposal : Option Proposal) → node.job ≡ (w.nodes me.0).job
      → node.boot ≡ (w.nodes me.0).boot → Tried setting views (world_stepped setting w me (replied_ballot setting.layout me from node call reply proposal))
  ballot_tried from node call reply None job boot = still_tried setting views w me tried node [] job boot
  ballot_tried from node call reply (Some p) job boot = by (voted setting.layout.bricks p from call reply)
    where
      by : (next : Voting) → Tried setting views (world_stepped setting w me (carried_ballot setting.layout me node p next))
      by Ignored = still_tried setting views w me tried node [] job boot
      by (Waited q) = still_tried setting views w me tried (with_proposal node (Some q)) [] job boot
      by (Asks q) = still_tried setting views w me tried (with_proposal node (Some q)) (ballot_packets me q) job boot
      by (Ended ended answer) =
          quiet_tried setting views w me tried (with_proposal node None) (ended_packets setting.layout me p answer) (report.View p.call.group (Some ended) answer ∷ [])
          (λ j is. sym job ∙ is) boot (one_reported setting views w me (report.View p.call.group (Some ended) answer) tt)

  -- a reply to an open operation, once it is noted who lagged, or to a proposal
  replied_tried : (now : ℕ) (from : BrickId) (call : Call) (reply : Reply) (found : Option Coordinator)
      → ((c : Coordinator) → found ≡ Some c → AreReads w me c) → ((c : Coordinator) → found ≡ Some c → LastShown setting views w me now from call reply c)
      → Tried setting views (world_stepped setting w me (replied_noted setting me now from (w.nodes me.0) call reply found))
  replied_tried now from call reply None reads lasts =
      ballot_tried from (with_known (w.nodes me.0) (known_after (w.nodes me.0).known reply)) call reply (w.nodes me.0).proposal refl refl
  replied_tried now from call reply (Some c) reads lasts =
      for_tried now (known_after (w.nodes me.0).known reply) c
      (on_reply setting.layout.block setting.code (fresh_stamp me c.stamp.view now (w.nodes me.0).boot (known_after (w.nodes me.0).known reply)) c from call reply)
      (job_reading (w.nodes me.0).job c.call.seq) (scrub_of (w.nodes me.0).scrub c.call.seq) (reads c refl).0 (reads c refl).1
      (λ s scrubs answer seen stored ends.
      let mine = scrub_is (w.nodes me.0).scrub c.call.seq s scrubs in
      lasts c refl s mine.0 mine.1 answer seen stored ends)

module _ (setting : Setting) (views : Views) (w : World) (me : BrickId) (tried : Tried setting views w) (within : AreWithin w.operations w.begun) where
  -- a brick that keeps its synchronisation and its boot keeps what is known of its reads
  reads_kept : (node : Node) → node.job ≡ (w.nodes me.0).job → node.boot ≡ (w.nodes me.0).boot → (c : Coordinator) → AreReads w me c
      → AreReads (kept_world w me node) me c
  reads_kept node job_is boot_is c (reads, (o, is, unclosed)) =
      let x : World = kept_world w me node in
      let job : (x.nodes me.0).job ≡ (w.nodes me.0).job = ap (λ (n : Node). n.job) (put_same w.nodes me.0 node) ∙ job_is in
      let boot : (x.nodes me.0).boot ≡ (w.nodes me.0).boot = ap (λ (n : Node). n.boot) (put_same w.nodes me.0 node) ∙ boot_is in (
        λ j reading.
            (let old = reads j (ap (λ (z : Option Job). job_reading z c.call.seq) (sym job) ∙ reading) in (
              job ∙ old.0,
              old.1,
              subst (λ (b : ℕ). IsTry w.operations me j.group (record { 0 = j.attempt.stripe }) b j.view.number.0 (w.numbers me.0 b c.call.seq) None) (sym boot) old.2,
            )),
        (o, ap (λ (b : ℕ). w.operations (w.numbers me.0 b c.call.seq)) boot ∙ is, unclosed),
      )

  -- and so what its scrub shows as it ends
  last_kept : (node : Node) → node.boot ≡ (w.nodes me.0).boot → (c : Coordinator) (answer : ScrubAnswer)
      → ScrubLast setting views w (number_of w me.0 c.call.seq) me c answer
      → ScrubLast setting views (kept_world w me node) (number_of (kept_world w me node) me.0 c.call.seq) me c answer
  last_kept node boot c answer last =
      let x : World = kept_world w me node in
      subst (λ (b : ℕ). ScrubLast setting views x (w.numbers me.0 b c.call.seq) me c answer)
      (sym (ap (λ (n : Node). n.boot) (put_same w.nodes me.0 node) ∙ boot))
      (last_on setting views w x (number_of w me.0 c.call.seq) me c answer refl (λ p. refl) (held_stays w.held me.0 node) (λ packet sent. sent) last)

  -- it is handled, once it is noted who lagged
  noted_tried : (now : ℕ) (from : BrickId) (call : Call) (reply : Reply) (found : Option Coordinator) → ((c : Coordinator) → found ≡ Some c → AreReads w me c)
      → ((c : Coordinator) → found ≡ Some c → LastShown setting views w me now from call reply c)
      → Tried setting views (world_stepped setting w me (replied_at setting me now from (w.nodes me.0) call reply found))
  noted_tried now from call reply found reads lasts =
      let node : Node = noted_by setting me now from (w.nodes me.0) call reply found in
      let keeps = noted_keeps setting me now from (w.nodes me.0) call reply found in
      noting_each (λ (z : World). Tried setting views z) setting w me now from call reply found
      (replied_tried setting views (kept_world w me node) me (kept_tried setting views w me tried node keeps.2 keeps.0.boot) within now from call reply found
      (λ c is. reads_kept node keeps.2 keeps.0.boot c (reads c is))
      (λ c is s has seq answer seen stored ends.
      let decides : decision_on setting me now from (w.nodes me.0) call reply c ≡ Ends answer seen stored
      = sym (noted_decides setting me now from (w.nodes me.0) call reply found c)
      ∙ ap (λ (n : Node). decision_on setting me now from n call reply c) (sym (put_same w.nodes me.0 node)) ∙ ends in
      let still : node ≡ w.nodes me.0
      = ap (λ (z : Option Coordinator). noted_by setting me now from (w.nodes me.0) call reply z) is
      ∙ noted_end setting me now from (w.nodes me.0) call reply c answer seen stored decides in
      last_kept node keeps.0.boot c (scrub_answer s.lagging (abort_cause answer) stored)
      (lasts c is s (ap (λ (n : Node). n.scrub) (sym (put_same w.nodes me.0 node ∙ still)) ∙ has) seq answer seen stored decides)))

module _ (setting : Setting) (views : Views) (w : World) (me : BrickId) (tried : Tried setting views w) (within : AreWithin w.operations w.begun) where
  -- it is heard, once the brick was taught the view that it teaches
  heard_tried : (now : ℕ) (from : BrickId) (call : Call) (reply : Reply) → ((c : Coordinator) → (w.nodes me.0).calls call.seq ≡ Some c → AreReads w me c)
      → (lists_fit setting.layout call reply ≡ true → (c : Coordinator) → (w.nodes me.0).calls call.seq ≡ Some c
      → LastShown setting views w me now from call reply c)
      → Tried setting views (world_stepped setting w me (heard setting me now from (w.nodes me.0) call reply))
  heard_tried now from call reply reads lasts =
      let node : Node = taught_by setting w me from call reply in
      let x : World = kept_world w me node in
      let keeps : (node.job ≡ (w.nodes me.0).job) × (node.boot ≡ (w.nodes me.0).boot)
      = told_each (λ (n : Node). (n.job ≡ (w.nodes me.0).job) × (n.boot ≡ (w.nodes me.0).boot)) setting.layout.block call.group.0
      (with_round (w.nodes me.0) reply) (view_counted setting.layout from (w.nodes me.0) call reply) (refl, refl) (λ v later. (refl, refl)) in
      let knows : (node.scrub ≡ (w.nodes me.0).scrub)
      × ((c : Coordinator) → decision_on setting me now from node call reply c ≡ decision_on setting me now from (w.nodes me.0) call reply c)
      = told_each (λ (n : Node). (n.scrub ≡ (w.nodes me.0).scrub)
      × ((c : Coordinator) → decision_on setting me now from n call reply c ≡ decision_on setting me now from (w.nodes me.0) call reply c))
      setting.layout.block call.group.0 (with_round (w.nodes me.0) reply) (view_counted setting.layout from (w.nodes me.0) call reply)
      (refl, λ c. refl) (λ v later. (refl, λ c. refl)) in
      hearing_each (λ (z : World). Tried setting views z) setting w me now from call reply
      (still_tried setting views w me tried (with_known (with_round (w.nodes me.0) reply) (known_after (w.nodes me.0).known reply)) [] refl refl)
      (λ fit. noted_tried setting views x me (kept_tried setting views w me tried node keeps.0 keeps.1) within now from call reply ((w.nodes me.0).calls call.seq)
      (λ c is. reads_kept setting views w me tried within node keeps.0 keeps.1 c (reads c is))
      (λ c is s has seq answer seen stored ends.
      last_kept setting views w me tried within node keeps.1 c (scrub_answer s.lagging (abort_cause answer) stored)
      (lasts fit c is s (sym knows.0 ∙ ap (λ (n : Node). n.scrub) (sym (put_same w.nodes me.0 node)) ∙ has) seq answer seen stored
      (sym (knows.1 c) ∙ ap (λ (n : Node). decision_on setting me now from n call reply c) (sym (put_same w.nodes me.0 node)) ∙ ends))))

  -- a request
  requested_tried : (from : BrickId) (call : Call) (request : Request) → Tried setting views (world_stepped setting w me (requested setting me from (w.nodes me.0) call request))
  requested_tried from call request =
      request_each (λ (step : NodeStep). Tried setting views (world_stepped setting w me step)) setting me from (w.nodes me.0) call request
      (still_tried setting views w me tried (w.nodes me.0) [] refl refl)
      (λ reply is. still_tried setting views w me tried (w.nodes me.0) (reply_packets me from call (Some reply)) refl refl)
      (λ group seat here served.
      let reaction = handle setting.code group.m (full_at setting.layout.records (w.nodes me.0).live) seat (replica_at (w.nodes me.0) call) request in
      still_tried setting views w me tried (with_replica (w.nodes me.0) call reaction) (reply_packets me from call reaction.reply) refl refl)
      (λ group ballot asked here.
      let vote : Voted = vote_at (w.nodes me.0) call ballot asked in
      still_tried setting views w me tried (with_vote (w.nodes me.0) call vote) (reply_packets me from call (Some vote.reply)) refl refl)

  -- a message
  received_tried : (now : ℕ) (from : BrickId) (message : Message)
      → ((call : Call) (c : Coordinator) → (w.nodes me.0).calls call.seq ≡ Some c → AreReads w me c)
      → ((call : Call) (reply : Reply) → message ≡ Message.Reply call reply → lists_fit setting.layout call reply ≡ true → (c : Coordinator)
      → (w.nodes me.0).calls call.seq ≡ Some c → LastShown setting views w me now from call reply c)
      → (let packet : Packet = record { from = from; to = me; message = message } in
      Tried setting views (world_stepped setting w me (received setting me now (w.nodes me.0) packet)))
  unfolding received
  received_tried now from (Message.Request call request) reads lasts = requested_tried from call request
  received_tried now from (Message.Reply call reply) reads lasts = heard_tried now from call reply (reads call) (lasts call reply refl)
  received_tried now from (Message.Learn group view) reads lasts =
      let keeps : ((node_learnt setting.layout (w.nodes me.0) group view).job ≡ (w.nodes me.0).job)
      × ((node_learnt setting.layout (w.nodes me.0) group view).boot ≡ (w.nodes me.0).boot)
      = learnt_each (λ (n : Node). (n.job ≡ (w.nodes me.0).job) × (n.boot ≡ (w.nodes me.0).boot)) setting.layout (w.nodes me.0) group view (refl, refl)
      (λ later. (refl, refl)) in
      still_tried setting views w me tried (node_learnt setting.layout (w.nodes me.0) group view) [] keeps.0 keeps.1
  received_tried now from (Message.Synced group number) reads lasts =
      let keeps : ((node_synced setting.layout (w.nodes me.0) group number).job ≡ (w.nodes me.0).job)
      × ((node_synced setting.layout (w.nodes me.0) group number).boot ≡ (w.nodes me.0).boot)
      = synced_each (λ (n : Node). (n.job ≡ (w.nodes me.0).job) × (n.boot ≡ (w.nodes me.0).boot)) setting.layout (w.nodes me.0) group number (refl, refl)
      (λ same unsynced. (refl, refl)) in
      still_tried setting views w me tried (node_synced setting.layout (w.nodes me.0) group number) [] keeps.0 keeps.1
  received_tried now from message reads lasts = still_tried setting views w me tried (w.nodes me.0) [] refl refl

  -- a brick begins a proposal
  proposed_tried : (group : GroupId) (members : List BrickId) → Tried setting views (world_stepped setting w me (proposed setting me (w.nodes me.0) group members))
  unfolding proposed
  proposed_tried group members = by (group_of setting.layout group.0)
    where
      by : (z : Option Group) → Tried setting views (world_stepped setting w me (proposed_in setting me (w.nodes me.0) group members z))
      by None = still_tried setting views w me tried (w.nodes me.0) [] refl refl
      by (Some kept) =
          let p : Proposal = new_proposal me (w.nodes me.0) kept.m group members in
          cond_both (is_membership kept.m setting.layout.bricks members) _ _ (λ (step : NodeStep). Tried setting views (world_stepped setting w me step))
          (λ may. still_tried setting views w me tried (proposing (w.nodes me.0) p) (ballot_packets me p) refl refl)
          (λ isnt. quiet_tried setting views w me tried (w.nodes me.0) [] (report.View group None answers.BadMembers ∷ []) (λ j is. is) refl
          (one_reported setting views w me (report.View group None answers.BadMembers) tt))

  -- and a synchronisation
  synced_tried : (now : ℕ) (group : GroupId) → Tried setting views (world_stepped setting w me (synced_at setting me now (w.nodes me.0) group))
  unfolding synced_at
  synced_tried now group =
      let view : View = ((w.nodes me.0).learnt group.0).view in
      cond_both ((w.nodes me.0).learnt group.0).synced _ _ (λ (step : NodeStep). Tried setting views (world_stepped setting w me step))
      (λ known. quiet_tried setting views w me tried (w.nodes me.0) [] (report.Sync group (Synced view.number) ∷ []) (λ j is. is) refl
      (one_reported setting views w me (report.Sync group (Synced view.number)) tt))
      (λ isnt. reads_tried setting views w me tried now within (begun_job group view)
      (first_tried w.operations me (w.nodes me.0).boot w.begun (begun_job group view) refl))

-- what the books say of the read of a synchronisation that is open
read_is : (setting : Setting) (w : World) → Books setting w → (me : BrickId) (k : ℕ) (c : Coordinator) → IsCall w me.0 k c
    → (job : Job) → job_reading (w.nodes me.0).job c.call.seq ≡ Some job → IsRead w me c job
read_is setting w books me k c is job reading =
    let there = reading_is (w.nodes me.0).job c.call.seq job reading in
    let mine : JobBooks w me.0 job = books.jobs me.0 job there.0 in
    let own : CallBooks setting w me.0 k c = books.calls me.0 k c is in
    let at : w.operations (number_of w me.0 c.call.seq) ≡ Some mine.own.operation
    = ap (λ (l : ℕ). w.operations (number_of w me.0 l)) (sym there.1) ∙ mine.own.operation_is in
    let same : own.operation ≡ mine.own.operation
    = same_Some own.operation mine.own.operation
    (sym own.operation_is ∙ ap (λ (l : ℕ). w.operations (number_of w me.0 l)) (sym own.call_seq) ∙ at) in (
      there.0,
      there.1,
      record {
        operation = mine.own.operation;
        is = at;
        unmarked = mine.own.mark;
        brick_is = ap (λ (i : ℕ). record { 0 = i }) mine.own.brick;
        boot_is = mine.own.boot;
        view_is = mine.view;
        ask = mine.ask;
        ended = ap (λ (o : Operation). o.closed) (sym same) ∙ own.unclosed;
      },
    )

-- and of an open operation
reads_are : (setting : Setting) (w : World) → Books setting w → (me : BrickId) (k : ℕ) (c : Coordinator) → IsCall w me.0 k c → AreReads w me c
reads_are setting w books me k c is =
    let own : CallBooks setting w me.0 k c = books.calls me.0 k c is in (
      read_is setting w books me k c is,
      (own.operation, ap (λ (l : ℕ). w.operations (number_of w me.0 l)) own.call_seq ∙ own.operation_is, own.unclosed),
    )

-- a synchronisation's read keeps its number, where the brick keeps its boot
number_kept : (setting : Setting) (w next : World) → Books setting w → Books setting next → StaysClosed w.operations next.operations → (i : ℕ) (job : Job)
    → (w.nodes i).job ≡ Some job → (next.nodes i).boot ≡ (w.nodes i).boot → number_of next i job.seq ≡ number_of w i job.seq
number_kept setting w next books later stays i job has boot =
    let mine : JobBooks w i job = books.jobs i job has in
    let goes = stays (number_of w i job.seq) mine.own.operation mine.own.operation_is in
    let own : OperationBooks setting next (number_of w i job.seq) goes.0 = later.operations (number_of w i job.seq) goes.0 goes.1 in
    sym (
    ap (λ (j : ℕ). next.numbers j goes.0.boot goes.0.seq) (ap (λ (b : BrickId). b.0) goes.2.0.brick ∙ mine.own.brick)
    ∙ ap (λ (b : ℕ). next.numbers i b goes.0.seq) (goes.2.0.boot ∙ mine.own.boot ∙ sym boot)
    ∙ ap (λ (k : ℕ). next.numbers i (next.nodes i).boot k) (goes.2.0.seq ∙ mine.own.seq)
    )
    ∙ own.number

-- a brick that begins an operation has the synchronisation and the boot that it had
invoked_keeps : (setting : Setting) (me : BrickId) (now : ℕ) (node : Node) (ask : Ask)
    → ((invoked setting me now node ask).node.job ≡ node.job) × ((invoked setting me now node ask).node.boot ≡ node.boot)
unfolding invoked
invoked_keeps setting me now node ask = by (group_at setting.layout node ask.group.0)
  where
    by : (z : Option Group) → ((began setting me now node ask z).node.job ≡ node.job) × ((began setting me now node ask z).node.boot ≡ node.boot)
    by None = (refl, refl)
    by (Some group) = (refl, refl)

-- the events, of a world with its books
module _ (setting : Setting) (views : Views) (w : World) (books : Books setting w) (tried : Tried setting views w) where
  are_within : AreWithin w.operations w.begun
  are_within n o is = (books.operations n o is).begun

  -- an operation begins
  begins_tried : (brick : BrickId) (ask : Ask)
      → (let next = world_began w brick ask (invoked setting brick (w.clocks brick.0) (w.nodes brick.0) ask) in Books setting next → Tried setting views next)
  begins_tried brick ask later =
      let step : NodeStep = invoked setting brick (w.clocks brick.0) (w.nodes brick.0) ask in
      let next : World = world_began w brick ask step in
      let stays : StaysClosed w.operations next.operations
      = new_stays w.operations (w.begun + 1) _ (λ p is. (let most : w.begun + 1 ≤ w.begun = are_within (w.begun + 1) p is in omega arith)) in
      tried_on setting views w next
      (record {
        stays = stays;
        replies = λ n o cause is ended p. refl;
        held = λ i g s t is. is;
        sent = λ packet was. (was.0, get_kept w.packets step.packets was.0 packet was.1);
      })
      (λ i job is.
      let same = put_each (λ i (n : Node). (n.job ≡ (w.nodes i).job) × (n.boot ≡ (w.nodes i).boot)) w.nodes brick.0 step.node
      (invoked_keeps setting brick (w.clocks brick.0) (w.nodes brick.0) ask) (λ i other. (refl, refl)) i in
      let has : (w.nodes i).job ≡ Some job = sym same.0 ∙ is in
      inl (has, same.1, number_kept setting w next books later stays i job has same.1))
      (λ k told is. inl (k, is)) tried

  -- a scrub begins
  scrubs_tried : (me : BrickId) (now : ℕ) (group : GroupId) (stripe : StripeNo) (members : List BrickId)
      → (let next = world_stepped setting w me (scrubbed_at setting me now (w.nodes me.0) group stripe members) in Books setting next → Tried setting views next)
  scrubs_tried me now group stripe members =
      scrubbed_at_each (λ (step : NodeStep). Books setting (world_stepped setting w me step) → Tried setting views (world_stepped setting w me step)) setting me now (w.nodes me.0)
      group stripe members (λ later. still_tried setting views w me tried (w.nodes me.0) [] refl refl)
      (λ kept is later.
      let c : Coordinator = scrub_coordinator kept me now (w.nodes me.0) group stripe members in
      let node : Node = scrubbing (w.nodes me.0) c in
      let next : World = world_stepped setting w me (begun_aside setting me node c) in
      let stays : StaysClosed w.operations next.operations
      = new_stays w.operations (w.begun + 1) _ (λ p at. (let most : w.begun + 1 ≤ w.begun = are_within (w.begun + 1) p at in omega arith)) in
      tried_on setting views w next (step_later setting views w me tried (begun_aside setting me node c) stays refl)
      (λ i job at.
      let same = put_each (λ i (n : Node). (n.job ≡ (w.nodes i).job) × (n.boot ≡ (w.nodes i).boot)) w.nodes me.0 node (refl, refl) (λ i other. (refl, refl)) i in
      let has : (w.nodes i).job ≡ Some job = sym same.0 ∙ at in
      inl (has, same.1, number_kept setting w next books later stays i job has same.1))
      (λ k told at. ⊎_elim
      (λ (old : slice_get w.choices.reports k ≡ Some told). inl (k, old))
      (λ (none : (j : ℕ) × (slice_get (reports_of me []) j ≡ Some told)). inr (none_reported setting views next me none.0 told none.1))
      (get_grown w.choices.reports (reports_of me []) k told at))
      tried)

  -- where a reply counts, those of operations that have ended stay
  counting_later : (number : ℕ) (packet : Packet) → Later w (world_counting setting w number packet)
  counting_later number packet = record {
    stays = stays_itself w.operations;
    replies = λ n o cause is ended. by packet.from packet.to packet.message n o cause is ended;
    held = λ i g s t is. is;
    sent = λ other was. was;
  }
    where
      -- those of the operation of an open call alone grow
      counted : (from to : BrickId) (call : Call) (reply : Reply) (n : ℕ) (o : Operation) (cause : Option Cause) → w.operations n ≡ Some o → o.closed ≡ Some cause
          → (p : ℕ) (z : Option Coordinator) → (w.nodes to.0).calls call.seq ≡ z → replies_at setting w to from call reply z n p ≡ w.replies n p
      counted from to call reply n o cause is ended p None none = refl
      counted from to call reply n o cause is ended p (Some c) here = at (counts_at setting.layout.block c from.0 call reply)
        where
          m : ℕ
          m = number_of w to.0 call.seq

          other : n ≢ m
          other same =
              let its : CallBooks setting w to.0 call.seq c = books.calls to.0 call.seq c here in
              let one : o ≡ its.operation = same_Some o its.operation (sym is ∙ ap w.operations same ∙ its.operation_is) in
              let never : Some cause ≡ None = sym ended ∙ ap (λ (z : Operation). z.closed) one ∙ its.unclosed in
              cc

          at : (z : Option ℕ) → counted_after w.replies (number_of w to.0 call.seq) from call reply z n p ≡ w.replies n p
          at None = refl
          at (Some seat) =
              ap (λ (f : ℕ → List Counted). f p)
              (put_other w.replies (number_of w to.0 call.seq) _ n other)

      by : (from to : BrickId) (message : Message) (n : ℕ) (o : Operation) (cause : Option Cause) → w.operations n ≡ Some o → o.closed ≡ Some cause
          → (p : ℕ) → replies_with setting w (record { from = from; to = to; message = message }) n p ≡ w.replies n p
      by from to (Message.Reply call reply) n o cause is ended p =
          cond_both (lists_fit setting.layout call reply) (replies_at setting w to from call reply ((w.nodes to.0).calls call.seq)) w.replies
          (λ (r : ℕ → ℕ → List Counted). r n p ≡ w.replies n p) (λ fit. counted from to call reply n o cause is ended p ((w.nodes to.0).calls call.seq) refl)
          (λ isnt. refl)
      by from to message n o cause is ended p = refl

  -- what a scrub shows that ends upon a packet
  last_shown : (number : ℕ) (packet : Packet) → Tallied w → IsSaid setting views w → IsSound setting → WasSent w packet
      → (call : Call) (reply : Reply) → packet.message ≡ Message.Reply call reply → lists_fit setting.layout call reply ≡ true → (c : Coordinator)
      → (w.nodes packet.to.0).calls call.seq ≡ Some c
      → LastShown setting views (world_counting setting w number packet) packet.to (w.clocks packet.to.0) packet.from call reply c
  unfolding on_reply
  last_shown number packet tallied said sound sent call reply message fit c here s has seq answer seen stored =
      at (counts_at setting.layout.block c packet.from.0 call reply) refl
    where
      me : BrickId
      me = packet.to

      x : World
      x = world_counting setting w number packet

      known : ℕ
      known = known_after (w.nodes packet.to.0).known reply

      is : IsCall w packet.to.0 c.call.seq c
      is = subst (λ (l : ℕ). IsCall w packet.to.0 l c) (sym (books.calls packet.to.0 call.seq c here).call_seq) here

      sent_it : WasSent w (record { from = packet.from; to = packet.to; message = Message.Reply call reply })
      sent_it = subst (λ (m : Message). WasSent w (record { from = packet.from; to = packet.to; message = m })) message sent

      at : (z : Option ℕ) → counts_at setting.layout.block c packet.from.0 call reply ≡ z
          → counted_at setting.layout.block setting.code (fresh_stamp packet.to c.stamp.view (w.clocks packet.to.0) (w.nodes packet.to.0).boot known) c packet.from reply z
          ≡ Ends answer seen stored
          → ScrubLast setting views (world_counting setting w number packet) (number_of w packet.to.0 c.call.seq) packet.to c
          (scrub_answer s.lagging (abort_cause answer) stored)
      at None none ends = cc
      at (Some seat) counts ends =
          let facts : CountsAt setting.layout.block c packet.from.0 call reply seat = counts_facts setting.layout.block c packet.from.0 call reply seat counts in
          let n : ℕ = number_of w packet.to.0 c.call.seq in
          let one : Counted = record { seat = seat; brick = packet.from; reply = reply } in
          let here_replies : ℕ → ℕ → List Counted = with_counted w.replies n c.call.phase one in
          let same : replies_with setting w packet ≡ here_replies
          = ap (λ (m : Message). replies_with setting w (record { from = packet.from; to = packet.to; message = m })) message
          ∙ cond-true (lists_fit setting.layout call reply) (replies_at setting w packet.to packet.from call reply ((w.nodes packet.to.0).calls call.seq)) w.replies fit
          ∙ ap (λ (z : Option Coordinator). replies_at setting w packet.to packet.from call reply z) here
          ∙ ap (λ (z : Option ℕ). counted_after w.replies (number_of w packet.to.0 call.seq) packet.from call reply z) counts
          ∙ ap (λ (k : Call). counted_after w.replies (number_of w packet.to.0 k.seq) packet.from k reply (Some seat)) facts.call_is in
          last_on setting views (record w { replies = here_replies }) (world_counting setting w number packet) n packet.to c
          (scrub_answer s.lagging (abort_cause answer) stored) refl (λ p. ap (λ (r : ℕ → ℕ → List Counted). r n p) same) (λ i g s t held. held) (λ other was. was)
          (shows_end setting views sound w said.0 packet.to c packet.from call reply seat books said.1 tallied is
          (subst (λ (k : Call). WasSent w (record { from = packet.from; to = packet.to; message = Message.Reply k reply })) facts.call_is sent_it) facts s has seq
          (fresh_stamp packet.to c.stamp.view (w.clocks packet.to.0) (w.nodes packet.to.0).boot known) answer seen stored ends)

  -- a packet is handled
  handled_tried : (number : ℕ) (packet : Packet) → Tallied w → IsSaid setting views w → IsSound setting → WasSent w packet
      → Tried setting views (world_handled setting w number packet)
  handled_tried number packet tallied said sound sent =
      let x : World = world_counting setting w number packet in
      let later : Later w x = counting_later number packet in
      received_tried setting views x packet.to
      (record { jobs = tried.jobs; reported = λ k told at. report_on setting views w x later told.0 told.1 (tried.reported k told at) }) are_within
      (w.clocks packet.to.0) packet.from packet.message (λ call c is. reads_are setting w books packet.to call.seq c is)
      (λ call reply message fit c is. last_shown number packet tallied said sound sent call reply message fit c is)

  -- a brick stops: it has no synchronisation
  stopped_tried : (brick : BrickId) (during : Option ℕ) → Tried setting views (world_stopped setting w brick during)
  unfolding stopped
  stopped_tried brick during =
      tried_on setting views w (world_stopped setting w brick during)
      (record { stays = stays_itself w.operations; replies = λ n o cause is ended p. refl; held = λ i g s t is. is; sent = λ packet was. was })
      (λ i job is. inl (
      put_each (λ i (n : Node). n.job ≡ Some job
      → ((w.nodes i).job ≡ Some job) × (n.boot ≡ (w.nodes i).boot) × (w.numbers i n.boot job.seq ≡ w.numbers i (w.nodes i).boot job.seq))
      w.nodes brick.0 (stopped (w.nodes brick.0)) (λ at. absurd (let never : None ≡ Some job = at in cc)) (λ i other at. (at, refl, refl)) i is))
      (λ k told is. inl (k, is)) tried

-- a brick starts: it has none
started_tried : (setting : Setting) (views : Views) (w : World) (brick : BrickId) (openings : ℕ) → Tried setting views w → Tried setting views (world_started w brick openings)
unfolding restarted
started_tried setting views w brick openings tried =
    tried_on setting views w (world_started w brick openings)
    (record { stays = stays_itself w.operations; replies = λ n o cause is ended p. refl; held = λ i g s t is. is; sent = λ packet was. was })
    (λ i job is. inl (
    put_each (λ i (n : Node). n.job ≡ Some job
    → ((w.nodes i).job ≡ Some job) × (n.boot ≡ (w.nodes i).boot) × (w.numbers i n.boot job.seq ≡ w.numbers i (w.nodes i).boot job.seq))
    w.nodes brick.0 (restarted openings (w.nodes brick.0)) (λ at. absurd (let never : None ≡ Some job = at in cc)) (λ i other at. (at, refl, refl)) i is))
    (λ k told is. inl (k, is)) tried

-- whatever its store is found to hold
found_tried : (setting : Setting) (views : Views) (w : World) (brick : BrickId) (openings : ℕ) (found : Found) → Tried setting views w → Tried setting views (world_started (world_found w brick found) brick openings)
unfolding restarted
found_tried setting views w brick openings Before tried = started_tried setting views w brick openings tried
found_tried setting views w brick openings After tried =
    let x : World = world_found w brick After in
    tried_on setting views w (world_started x brick openings)
    (record {
      stays = stays_itself w.operations;
      replies = λ n o cause is ended p. refl;
      held = held_stays w.held brick.0 (w.after brick.0);
      sent = λ packet was. was;
    })
    (λ i job is. inl (
    put_each (λ i (n : Node). n.job ≡ Some job
    → ((w.nodes i).job ≡ Some job) × (n.boot ≡ (w.nodes i).boot) × (w.numbers i n.boot job.seq ≡ w.numbers i (w.nodes i).boot job.seq))
    x.nodes brick.0 (restarted openings (x.nodes brick.0)) (λ at. absurd (let never : None ≡ Some job = at in cc))
    (λ i other at.
    let same : x.nodes i ≡ w.nodes i = put_other w.nodes brick.0 (w.after brick.0) i other in (
      ap (λ (n : Node). n.job) (sym same) ∙ at,
      ap (λ (n : Node). n.boot) same,
      ap (λ (n : Node). w.numbers i n.boot job.seq) same,
    )) i is))
    (λ k told is. ⊎_elim
    (λ (old : slice_get w.choices.reports k ≡ Some told). inl (k, old))
    (λ (more : (j : ℕ) × (slice_get (reports_of brick []) j ≡ Some told)). inr (none_reported setting views (world_started x brick openings) brick more.0 told more.1))
    (get_grown w.choices.reports (reports_of brick []) k told is))
    tried

-- what is known of a world on the way: its books, the history of its replies, and what is said of it
abbrev IsKnown : Setting → Views → World → Type 0
IsKnown setting views w = Books setting w × Tallied w × IsSaid setting views w

-- what is known of reports, of a world with its books
abbrev IsTriedThere : Setting → Views → World → Type 0
IsTriedThere setting views w = Books setting w → Tried setting views w

-- every event keeps it
tried_cases : (setting : Setting) (views : Views) → IsSound setting → (w : World) → IsKnown setting views w → IsTriedThere setting views w
    → EventCases setting w (IsTriedThere setting views)
tried_cases setting views sound w (books, tallied, said) there =
    let tried : Tried setting views w = there books in
    record {
      begins = λ brick ask may later. begins_tried setting views w books tried brick ask later;
      proposes = λ brick group members may later. proposed_tried setting views w brick tried (are_within setting views w books tried) group members;
      syncs = λ brick group may later. synced_tried setting views w brick tried (are_within setting views w books tried) (w.clocks brick.0) group;
      scrubs = λ brick group stripe members may later. scrubs_tried setting views w books tried brick (w.clocks brick.0) group stripe members later;
      handles = λ number packet at up later. handled_tried setting views w books tried number packet tallied said sound (packet_was_sent w number packet at);
      sets = λ brick time is later. record { jobs = tried.jobs; reported = λ k told at. report_on setting views w _ (kept_later time brick) told.0 told.1 (tried.reported k told at) };
      ticks = λ brick up later. record { jobs = tried.jobs; reported = λ k told at. report_on setting views w _ (ticked_later brick) told.0 told.1 (tried.reported k told at) };
      stops = λ brick during up later. stopped_tried setting views w books tried brick during;
      starts = λ brick openings found may later. found_tried setting views w brick openings found tried;
    }
  where
    kept_later : (time : ℕ) (brick : BrickId) → Later w (record w { clocks = put w.clocks brick.0 time })
    kept_later time brick = record {
      stays = stays_itself w.operations;
      replies = λ n o cause is ended p. refl;
      held = λ i g s t is. is;
      sent = λ packet sent. sent;
    }

    ticked_later : (brick : BrickId) → Later w (world_ticked setting w brick)
    ticked_later brick = record {
      stays = stays_itself w.operations;
      replies = λ n o cause is ended p. refl;
      held = λ i g s t is. is;
      sent = λ packet sent. (sent.0, get_kept w.packets (ticked setting brick (w.nodes brick.0)) sent.0 packet sent.1);
    }

-- at first no brick has a synchronisation
tried_first : (setting : Setting) (views : Views) → Tried setting views (first_world setting.layout)
tried_first setting views = record {
  jobs = λ i job is. absurd (let never : None ≡ Some job = is in cc);
  reported = λ k told is. absurd (let never : None ≡ Some told = is in cc);
}

-- what is known of reports holds in every world that a run reaches
pub always_tried : (setting : Setting) (views : Views) (events : List Event) → IsSound setting → RunFollows setting views events
    → Tried setting views (run setting events (first_world setting.layout))
always_tried setting views events sound follows =
    run_along (IsTriedThere setting views) (IsKnown setting views) setting (tried_cases setting views sound) events (first_world setting.layout)
    (λ earlier later is. known earlier (follows_front setting views events earlier later follows is)) (λ booked. tried_first setting views) (books setting events)
  where
    known : (earlier : List Event) → RunFollows setting views earlier → IsKnown setting views (run setting earlier (first_world setting.layout))
    known earlier front = (books setting earlier, tallied setting views earlier sound front, always_said setting views earlier sound front)

-- each scrub that ended shows how
pub scrubs_show : (setting : Setting) (views : Views) (w : World) → Tried setting views w → Tallied w → ScrubsShow setting views w
scrubs_show setting views w tried history k brick call members answer at =
    let was : ScrubEnded setting views w brick call members answer = tried.reported k (brick, report.Scrub call members answer) at in
    record {
      n = was.n;
      operation = was.operation;
      is = was.is;
      was = was.was;
      ended = was.ended;
      alone = was.alone;
      told = was.told;
      aborted = λ cause by. history.closed was.n was.operation cause was.is (was.ended ∙ ap (λ (z : ScrubAnswer). Some (cause_of z)) by);
    }

-- each synchronisation that was stopped shows why
pub syncs_show : (setting : Setting) (views : Views) (w : World) → Tried setting views w → Tallied w → SyncsShow w
syncs_show setting views w tried history k brick number stripe cause at =
    let tries : StoppedTries w.operations brick number stripe cause = tried.reported k (brick, report.Sync number (Stopped stripe cause)) at in
    record {
      boot = tries.boot;
      view = tries.view;
      read = tries.read;
      each = λ k less. (let one = tries.each k less in (one.0, shown tries.boot tries.view (tries.read k) one.0 one.1));
      in_turn = tries.in_turn;
      last = λ k is. shown tries.boot tries.view (tries.read k) cause (tries.last k is);
    }
  where
    shown : (boot view n : ℕ) (why : Cause) → IsTry w.operations brick number stripe boot view n (Some (Some why)) → WasAborted w brick number stripe boot view n why
    shown boot view n why it = record {
      operation = it.operation;
      is = it.is;
      unmarked = it.unmarked;
      brick_is = it.brick_is;
      boot_is = it.boot_is;
      view_is = it.view_is;
      ask = it.ask;
      ended = it.ended;
      evidence = history.closed n it.operation why it.is it.ended;
    }
