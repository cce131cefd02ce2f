-- All that a brick has under way, beside a synchronisation.
use Rattle.std.proofs.Common.{◌≡◌, ◌≤◌, ℕ, Bool, false, cond, nat_eq, [], Option, Some, None, is_some, refl, sym, ◌∙◌, ap, subst, arith}
use Rattle.std.specs.Option.{option_map}
use Rattle.std.specs.Ordering.{nat_cmp}
use Rattle.std.specs.BTreeMap.{get}
use Rattle.fab_base.specs.declared.identities.BrickId.{BrickId}
use Rattle.fab_base.specs.Layouts.{Layout}
use Rattle.messages.specs.declared.calls.Call.{Call}
use Rattle.messages.specs.declared.replies.Reply.{Reply}
use Rattle.protocol.specs.Coordinators.{Coordinator, Next, Ignores, Waits, Sends, Makes, Ends, counts_at, hearing, on_reply}
use Rattle.protocol.specs.Proposals.{Proposal, Voting, Ignored, Waited, Asks, Ended, voted}
use Rattle.protocol.specs.Replicas.{fresh_replica}
use Rattle.protocol.specs.Nodes.{Node, NodeStep, put, carried_ballot, carried_for, carried_out, fresh_stamp, job_reading, known_after, replied_at, replied_ballot, scrub_of, view_in, with_known}
use Rattle.stripe_code.specs.Codes.{coding}
use Rattle.node.specs.declared.jobs.OpenJob.{OpenJob}
use Rattle.node.specs.declared.open_calls.OpenCalls.{OpenCalls}
use Rattle.node.specs.declared.open_work.OpenWork.{OpenWork}
use Rattle.node.specs.declared.operations.Operation.{Operation}
use Rattle.node.specs.declared.proposals.Proposals.{Proposals}
use Rattle.node.specs.declared.scrubs.OpenScrub.{OpenScrub}
use Rattle.node.specs.declared.tasks.Tasks.{Tasks}
use Rattle.node.specs.Jobs.{Reading, reading_in, with_reading}
use Rattle.node.specs.Operations.{coordinator_of}
use Rattle.node.specs.Outcomes.{Outcome}
use Rattle.node.specs.Proposals.{AreProposalsOf}
use Rattle.node.specs.Scrubs.{IsScrubAside, Scrubbing, scrub_seq, scrubbing_in, with_scrubbing}
use Rattle.node.specs.States.{AreCallsOf, AreSameCalls, IsSameWork, KeptParts, StepsAs, state_in, state_with}
use Rattle.node.specs.Tasks.{AreSameTasks, AreTasksOf, IsAside, IsJobIn, IsScrubIn, read_seq}
use Rattle.node.proofs.Beside.{ApartFrom, beside}
use Rattle.node.proofs.ScrubsBeside.{ScrubApart, beside_scrub}

-- ---- steps

-- a step of what is under way beside a synchronisation is one of the brick
pub steps_beside : (me : BrickId) (r : Option Reading) (state : Node) (step : NodeStep) (outs : Outcome) → StepsAs me state step outs
    → StepsAs me (with_reading r state) (beside r step) outs
steps_beside me r state step outs steps =
    record { packets = steps.packets; told = steps.told; answers = steps.answers; reports = steps.reports; state_is = ap (with_reading r) steps.state_is }

pub steps_beside_scrub : (me : BrickId) (s : Option Scrubbing) (state : Node) (step : NodeStep) (outs : Outcome) → StepsAs me state step outs
    → StepsAs me (with_scrubbing s state) (beside_scrub s step) outs
steps_beside_scrub me s state step outs steps =
    record { packets = steps.packets; told = steps.told; answers = steps.answers; reports = steps.reports; state_is = ap (with_scrubbing s) steps.state_is }

-- a scrub that has another call has it as the machine sees it
pub scrub_apart_so : (scrub : Option OpenScrub) (seq : ℕ) → IsScrubAside scrub seq → ScrubApart (scrubbing_in scrub) seq
scrub_apart_so None seq aside = tt
scrub_apart_so (Some held) seq aside = aside

-- a synchronisation whose read has another call has it as the machine sees it
pub apart_so : (job : Option OpenJob) (seq : ℕ) → IsAside job seq → ApartFrom (reading_in job) seq
apart_so None seq aside = tt
apart_so (Some held) seq aside = aside

-- ---- a synchronisation stays one of the brick

-- a brick that keeps nothing
pub no_parts : KeptParts
no_parts = record {
  live = 0;
  live_in = λ g e. 0;
  learnt = λ g. record { view = record { number = record { 0 = 0 }; members = []; prior = [] }; synced = false };
  ballots = λ g. None;
  replicas = λ g e s. fresh_replica 0 0;
}

-- no operation has a call where the machine sees none
unmapped : (o : Option Operation) → option_map coordinator_of o ≡ None → o ≡ None
unmapped None none = refl
unmapped (Some operation) none = absurd cc

-- a call has a coordinator where its operation is open
pub mapped_some : (o : Option Operation) → is_some (option_map coordinator_of o) ≡ is_some o
mapped_some None = refl
mapped_some (Some operation) = refl

-- and the coordinator's view is the operation's
pub mapped_view : (o : Option Operation) → option_map view_in (option_map coordinator_of o) ≡ option_map (λ (op : Operation). view_in (coordinator_of op)) o
mapped_view None = refl
mapped_view (Some operation) = refl

-- what is under way goes on, and no operation gets the call of this number
pub record KeepsFree (seq : ℕ) (before after : Node) : Type 0 where
  pub later : before.seq ≤ after.seq
  pub free : before.calls seq ≡ None → after.calls seq ≡ None

pub same_free : (seq : ℕ) (before after : Node) → after ≡ before → KeepsFree seq before after
same_free seq before after same =
    let seq_is = ap (λ (n : Node). n.seq) same in
    record { later = omega (arith, seq_is); free = λ none. ap (λ (n : Node). n.calls seq) same ∙ none }

-- the read is of the brick still
pub job_kept : (layout : Layout) (before after : OpenWork) (job : Option OpenJob)
    → ((held : OpenJob) → job ≡ Some held → KeepsFree (read_seq held) (state_in no_parts before) (state_in no_parts after))
    → IsJobIn layout before.calls job → IsJobIn layout after.calls job
unfolding state_with
job_kept layout before after None keeps is = tt
job_kept layout before after (Some held) keeps is =
    let kept = keeps held refl in
    let made = is.made in
    let later = kept.later in
    record {
      open_is = is.open_is;
      made = omega (arith, made, later);
      apart = unmapped (get nat_cmp after.calls.operations (read_seq held)) (kept.free (ap (option_map coordinator_of) is.apart));
    }

-- a scrub is of the brick still, where the synchronisation is as it was
pub scrub_kept : (layout : Layout) (before after : OpenWork) (job : Option OpenJob) (scrub : Option OpenScrub)
    → ((held : OpenScrub) → scrub ≡ Some held → KeepsFree (scrub_seq held) (state_in no_parts before) (state_in no_parts after))
    → IsScrubIn layout before.calls job scrub → IsScrubIn layout after.calls job scrub
unfolding state_with
scrub_kept layout before after job None keeps is = tt
scrub_kept layout before after job (Some held) keeps is =
    let kept = keeps held refl in
    let made = is.made in
    let later = kept.later in
    record {
      scrub_is = is.scrub_is;
      made = omega (arith, made, later);
      apart = unmapped (get nat_cmp after.calls.operations (scrub_seq held)) (kept.free (ap (option_map coordinator_of) is.apart));
      aside = is.aside;
    }

-- the work is of the same brick, where its calls are, beside proposals on the bricks of the layout still
pub same_work : (layout : Layout) (work : OpenWork) (calls : OpenCalls) (proposals : Proposals) → AreSameCalls layout work.calls calls
    → (AreProposalsOf layout work.proposals → AreProposalsOf layout proposals) → IsSameWork layout work (record { calls = calls; proposals = proposals })
same_work layout work calls proposals same left =
    record { me = same.me; boot = same.boot; of = λ of. record { calls = same.of of.calls; proposing = left of.proposing } }

-- so it is where its calls changed once more
pub same_calls_then : (layout : Layout) (before after : OpenWork) (calls : OpenCalls) → IsSameWork layout before after → AreSameCalls layout after.calls calls
    → IsSameWork layout before (record { calls = calls; proposals = after.proposals })
same_calls_then layout before after calls first last =
    record {
      me = last.me ∙ first.me;
      boot = last.boot ∙ first.boot;
      of = λ of. let work_is = first.of of in record { calls = last.of work_is.calls; proposing = work_is.proposing };
    }

-- all that is under way is of the same brick, where its parts are
pub same_parts : (layout : Layout) (before after : Tasks) → IsSameWork layout before.work after.work
    → (AreTasksOf layout before → IsJobIn layout after.work.calls after.job)
    → (AreTasksOf layout before → IsScrubIn layout after.work.calls after.job after.scrub) → AreSameTasks layout before after
same_parts layout before after work job scrub =
    record { me = work.me; boot = work.boot; of = λ of. record { work_is = work.of of.work_is; job_is = job of; scrub_is = scrub of } }

-- so it is where the work is, and gives no operation the call of the read or of the scrub
pub same_tasks : (layout : Layout) (before : Tasks) (after : OpenWork) → IsSameWork layout before.work after
    → ((held : OpenJob) → before.job ≡ Some held → KeepsFree (read_seq held) (state_in no_parts before.work) (state_in no_parts after))
    → ((held : OpenScrub) → before.scrub ≡ Some held → KeepsFree (scrub_seq held) (state_in no_parts before.work) (state_in no_parts after))
    → AreSameTasks layout before (record { work = after; job = before.job; scrub = before.scrub })
same_tasks layout before after same free apart =
    same_parts layout before (record { work = after; job = before.job; scrub = before.scrub }) same
    (λ of. job_kept layout before.work after before.job free of.job_is)
    (λ of. scrub_kept layout before.work after before.job before.scrub apart of.scrub_is)

-- ---- replies

module _ (layout : Layout) (me : BrickId) where
  -- another call than that of this operation is as it was
  put_other : (f : ℕ → Option Coordinator) (k seq : ℕ) (v : Option Coordinator) → nat_eq seq k ≡ false → put f k v seq ≡ f seq
  put_other f k seq v other = ap (λ (b : Bool). cond b v (f seq)) other

  carried_free : (node : Node) (known : ℕ) (c : Coordinator) (next : Next) (seq : ℕ) → nat_eq seq c.call.seq ≡ false
      → KeepsFree seq node (carried_out (coding layout) me node known c next).node
  carried_free node known c Ignores seq other = record { later = omega arith; free = λ none. none }
  carried_free node known c (Waits d) seq other = record { later = omega arith; free = λ none. put_other node.calls c.call.seq seq (Some d) other ∙ none }
  carried_free node known c (Sends d) seq other = record { later = omega arith; free = λ none. put_other node.calls c.call.seq seq (Some d) other ∙ none }
  carried_free node known c (Makes d) seq other = record { later = omega arith; free = λ none. put_other node.calls c.call.seq seq (Some d) other ∙ none }
  carried_free node known c (Ends answer seen stored) seq other =
      record { later = omega arith; free = λ none. put_other node.calls c.call.seq seq None other ∙ none }

  ballot_free : (node : Node) (p : Proposal) (decided : Voting) (seq : ℕ) → KeepsFree seq node (carried_ballot layout me node p decided).node
  ballot_free node p Ignored seq = record { later = omega arith; free = λ none. none }
  ballot_free node p (Waited q) seq = record { later = omega arith; free = λ none. none }
  ballot_free node p (Asks q) seq = record { later = omega arith; free = λ none. none }
  ballot_free node p (Ended call ended) seq = record { later = omega arith; free = λ none. none }

  heard_free : (from : BrickId) (node : Node) (call : Call) (reply : Reply) (p : Option Proposal) (seq : ℕ)
      → KeepsFree seq node (replied_ballot layout me from node call reply p).node
  heard_free from node call reply None seq = record { later = omega arith; free = λ none. none }
  heard_free from node call reply (Some p) seq = ballot_free node p (voted layout.bricks p from call reply) seq

  -- a reply gives no operation another call
  pub replied_free : (now : ℕ) (from : BrickId) (node : Node) (call : Call) (reply : Reply) (o : Option Coordinator) (seq : ℕ) → node.job ≡ None → node.scrub ≡ None
      → nat_eq seq call.seq ≡ false → ((c : Coordinator) → o ≡ Some c → c.call.seq ≡ call.seq)
      → KeepsFree seq node (replied_at (coding layout) me now from node call reply o).node
  replied_free now from node call reply None seq idle quiet other at =
      let kept = heard_free from (with_known node (known_after node.known reply)) call reply node.proposal seq in
      record { later = kept.later; free = kept.free }
  replied_free now from node call reply (Some c) seq idle quiet other at =
      let known = known_after node.known reply in
      let heard = hearing c from reply (counts_at layout.block c from.0 call reply) in
      let next = on_reply layout.block (coding layout).code (fresh_stamp me c.stamp.view now node.boot known) c from call reply in
      let other_here = subst (λ (k : ℕ). nat_eq seq k ≡ false) (sym (at c refl)) other in
      subst (λ (step : NodeStep). KeepsFree seq node step.node)
      (λ i. carried_for (coding layout) me now node known c heard next (job_reading (sym idle i) c.call.seq) (scrub_of (sym quiet i) c.call.seq))
      (carried_free node known c next seq other_here)

-- the coordinators of the open operations of a brick of the layout have their calls
pub at_call : (layout : Layout) (calls : OpenCalls) (seq : ℕ) → AreCallsOf layout calls → (c : Coordinator)
    → option_map coordinator_of (get nat_cmp calls.operations seq) ≡ Some c → c.call.seq ≡ seq
at_call layout calls seq of c is = by (get nat_cmp calls.operations seq) refl is
  where
    by : (o : Option Operation) → get nat_cmp calls.operations seq ≡ o → option_map coordinator_of o ≡ Some c → c.call.seq ≡ seq
    by None e is = absurd cc
    by (Some operation) e is =
        let same : coordinator_of operation ≡ c = cc in
        ap (λ (x : Coordinator). x.call.seq) (sym same) ∙ (of seq operation e).seq
