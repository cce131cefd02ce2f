-- What a reply that counts, and tells a later view, comes to beside a synchronisation.
use Rattle.std.proofs.Common.{◌≡◌, ◌≤◌, ℕ, Bool, false, cond, nat_eq, Option, Some, None, refl, sym, ◌∙◌, ap, subst}
use Rattle.std.specs.Option.{option_map}
use Rattle.std.specs.Ordering.{nat_cmp}
use Rattle.std.specs.BTreeMap.{get}
use Rattle.fab_base.specs.declared.identities.BrickId.{BrickId}
use Rattle.fab_base.specs.Layouts.{Layout}
use Rattle.messages.specs.declared.calls.Call.{Call}
use Rattle.messages.specs.declared.packets.Message.{Message}
use Rattle.messages.specs.declared.replies.Reply.{Reply}
use Rattle.protocol.specs.Coordinators.{Coordinator}
use Rattle.protocol.specs.Jobs.{Job}
use Rattle.protocol.specs.Nodes.{Node, NodeStep, job_reading, replied_at}
use Rattle.stripe_code.specs.Codes.{coding}
use Rattle.coord_phase.specs.Operations as phased
use Rattle.coord_phase.specs.Operations.{with_state, without_last}
use Rattle.node.specs.declared.jobs.OpenJob.{OpenJob}
use Rattle.node.specs.declared.open_calls.OpenCalls.{OpenCalls}
use Rattle.node.specs.declared.open_work.OpenWork.{OpenWork}
use Rattle.node.specs.declared.open_work.Turn.{Turn}
use Rattle.node.specs.declared.open_work.Turn.TheVariants as turn
use Rattle.node.specs.declared.scrubs.OpenScrub.{OpenScrub}
use Rattle.node.specs.declared.tasks.Tasks.{Tasks}
use Rattle.node.specs.Jobs.{IsJobOf, Reading, job_at, reading_in, reading_of, with_reading}
use Rattle.node.specs.Moves as moves
use Rattle.node.specs.Moves.{HasCounted, IsTurn}
use Rattle.node.specs.Operations.{shown_of, coordinator_of}
use Rattle.node.specs.Outcomes.{Outcome}
use Rattle.node.specs.Reads.{HasCountedRead}
use Rattle.node.specs.Scrubs.{HasCountedScrub, IsScrubAside, scrub_coordinator_of, scrub_seq, scrub_shown, scrubbing_in, with_scrubbing, without_reply}
use Rattle.node.specs.States.{KeptParts, StepsAs, IsSameWork, IsWorkOf, state_in, state_with}
use Rattle.node.specs.Tasks.{AreSameTasks, AreTasksOf, CountsRead, CountsScrub, IsAside, IsJobAt, IsJobIn, IsScrubIn, read_seq, step_on, tasks_in}
use Rattle.coord_phase.proofs.Answered.{taken_back as back_as_before}
use Rattle.node.proofs.Beside.{beside, calls_apart, none_reads, replied_beside}
use Rattle.node.proofs.ScrubsBeside.{beside_scrub, calls_apart_scrub, replied_beside_scrub}
use Rattle.node.proofs.Counting.{taken_back}
use Rattle.node.proofs.Tables.{is_at_number}
use Rattle.node.proofs.Underway.{KeepsFree, apart_so, at_call, job_kept, no_parts, replied_free, same_parts, scrub_apart_so, scrub_kept, steps_beside, steps_beside_scrub}

-- ---- an operation or the proposal

-- another read than the one of this call
aside_of : (job : Option OpenJob) (seq : ℕ) → IsAside job seq → (held : OpenJob) → job ≡ Some held → nat_eq (read_seq held) seq ≡ false
aside_of None seq aside held is = absurd cc
aside_of (Some other) seq aside held is =
    let same : other ≡ held = cc in
    subst (λ (x : OpenJob). nat_eq (read_seq x) seq ≡ false) same aside

-- another scrub than the one of this call
apart_of : (scrub : Option OpenScrub) (seq : ℕ) → IsScrubAside scrub seq → (held : OpenScrub) → scrub ≡ Some held → nat_eq (scrub_seq held) seq ≡ false
apart_of None seq apart held is = absurd cc
apart_of (Some other) seq apart held is =
    let same : other ≡ held = cc in
    subst (λ (x : OpenScrub). nat_eq (scrub_seq x) seq ≡ false) same apart

module _ (layout : Layout) (now : ℕ) (from : BrickId) (call : Call) (told : Reply) (before : Tasks) (aside : IsAside before.job call.seq)
    (apart : IsScrubAside before.scrub call.seq) (work_is : IsWorkOf layout before.work) where
  -- each operation has its call
  at_of : (kept : KeptParts) (c : Coordinator) → (state_in kept before.work).calls call.seq ≡ Some c → c.call.seq ≡ call.seq
  unfolding state_with
  at_of kept c is = at_call layout before.work.calls call.seq work_is.calls c is

  idle : (kept : KeptParts) → (state_in kept before.work).job ≡ None
  unfolding state_with
  idle kept = refl

  quiet : (kept : KeptParts) → (state_in kept before.work).scrub ≡ None
  unfolding state_with
  quiet kept = refl

  -- the reply is not to the read
  unread : (job : Job) → job_reading (option_map (λ (r : Reading). r.job) (reading_in before.job)) call.seq ≡ Some job → ⊥
  unread job is = let never : None ≡ Some job = sym (none_reads (reading_in before.job) call.seq (apart_so before.job call.seq aside)) ∙ is in cc

  -- the machine's step is that beside the synchronisation and the scrub
  pub turn_beside : (kept : KeptParts) → step_on layout now from call told before kept
      ≡ beside_scrub (scrubbing_in before.scrub) (beside (reading_in before.job) (moves.step_on layout now from call told before.work kept))
  turn_beside kept =
      let me = before.work.calls.me in
      let r = reading_in before.job in
      let s = scrubbing_in before.scrub in
      let node = state_in kept before.work in
      let reads : Node = with_reading r node in
      let aside_so = apart_so before.job call.seq aside in
      let apart_here = scrub_apart_so before.scrub call.seq apart in
      ap (replied_at (coding layout) me now from (with_scrubbing s reads) call told)
      (calls_apart_scrub s reads.calls call.seq apart_here ∙ calls_apart r node.calls call.seq aside_so)
      ∙ replied_beside_scrub layout me s now from reads call told (node.calls call.seq) (quiet kept) apart_here (λ job is. absurd (unread job is)) (at_of kept)
      ∙ ap (beside_scrub s) (replied_beside layout me r now from node call told (node.calls call.seq) (idle kept) (quiet kept) aside_so (at_of kept))

  -- a step of the work is one of all that is under way
  pub turn_steps : (kept : KeptParts) (after : OpenWork) (job : Option OpenJob) (scrub : Option OpenScrub) (outs : Outcome) → job ≡ before.job → scrub ≡ before.scrub
      → StepsAs before.work.calls.me (state_in kept after) (moves.step_on layout now from call told before.work kept) outs
      → StepsAs before.work.calls.me (tasks_in kept (record { work = after; job = job; scrub = scrub })) (step_on layout now from call told before kept) outs
  turn_steps kept after job scrub outs same_job same_scrub steps =
      let me = before.work.calls.me in
      let r = reading_in before.job in
      let s = scrubbing_in before.scrub in
      let step = step_on layout now from call told before kept in
      subst (λ (j : Option OpenJob). StepsAs me (with_scrubbing (scrubbing_in scrub) (with_reading (reading_in j) (state_in kept after))) step outs) (sym same_job)
      (subst (λ (x : Option OpenScrub). StepsAs me (with_scrubbing (scrubbing_in x) (with_reading r (state_in kept after))) step outs) (sym same_scrub)
      (subst (λ (t : NodeStep). StepsAs me (with_scrubbing s (with_reading r (state_in kept after))) t outs) (sym (turn_beside kept))
      (steps_beside_scrub me s (with_reading r (state_in kept after)) (beside r (moves.step_on layout now from call told before.work kept)) outs
      (steps_beside me r (state_in kept after) (moves.step_on layout now from call told before.work kept) outs steps))))

  -- and gives no operation the call of another
  free_at : (after : OpenWork) (outs : Outcome)
      → StepsAs before.work.calls.me (state_in no_parts after) (moves.step_on layout now from call told before.work no_parts) outs
      → (seq : ℕ) → nat_eq seq call.seq ≡ false → KeepsFree seq (state_in no_parts before.work) (state_in no_parts after)
  free_at after outs steps seq other =
      let node = state_in no_parts before.work in
      subst (λ (n : Node). KeepsFree seq node n) (sym steps.state_is)
      (replied_free layout before.work.calls.me now from node call told (node.calls call.seq) seq (idle no_parts) (quiet no_parts) other (at_of no_parts))

  -- so it leaves the read and the scrub theirs
  pub turn_free : (after : OpenWork) (outs : Outcome)
      → StepsAs before.work.calls.me (state_in no_parts after) (moves.step_on layout now from call told before.work no_parts) outs
      → (held : OpenJob) → before.job ≡ Some held → KeepsFree (read_seq held) (state_in no_parts before.work) (state_in no_parts after)
  turn_free after outs steps held is = free_at after outs steps (read_seq held) (aside_of before.job call.seq aside held is)

  pub turn_apart : (after : OpenWork) (outs : Outcome)
      → StepsAs before.work.calls.me (state_in no_parts after) (moves.step_on layout now from call told before.work no_parts) outs
      → (held : OpenScrub) → before.scrub ≡ Some held → KeepsFree (scrub_seq held) (state_in no_parts before.work) (state_in no_parts after)
  turn_apart after outs steps held is = free_at after outs steps (scrub_seq held) (apart_of before.scrub call.seq apart held is)

-- all that is under way is of the same brick, where the work is, and its operations leave the read and the scrub their calls
pub turn_same : (layout : Layout) (before mid : Tasks) (after : OpenWork) → AreSameTasks layout before mid → mid.job ≡ before.job → mid.scrub ≡ before.scrub
    → IsSameWork layout mid.work after
    → ((held : OpenJob) → before.job ≡ Some held → KeepsFree (read_seq held) (state_in no_parts before.work) (state_in no_parts after))
    → ((held : OpenScrub) → before.scrub ≡ Some held → KeepsFree (scrub_seq held) (state_in no_parts before.work) (state_in no_parts after))
    → AreSameTasks layout before (record { work = after; job = mid.job; scrub = mid.scrub })
turn_same layout before mid after first job scrub last free apart =
    record {
      me = last.me ∙ first.me;
      boot = last.boot ∙ first.boot;
      of = λ of.
          let mid_is = first.of of in
          record {
            work_is = last.of mid_is.work_is;
            job_is = subst (λ (j : Option OpenJob). IsJobIn layout after.calls j) (sym job) (job_kept layout before.work after before.job free of.job_is);
            scrub_is = subst (λ (j : Option OpenJob). IsScrubIn layout after.calls j mid.scrub) (sym job)
                (subst (λ (x : Option OpenScrub). IsScrubIn layout after.calls before.job x) (sym scrub)
                (scrub_kept layout before.work after before.job before.scrub apart of.scrub_is));
          };
    }

-- a read that is another call's stays so, where an operation counted the reply
pub counted_keeps : (layout : Layout) (from : BrickId) (message : Message) (seq : ℕ) (before after : OpenCalls) (job : Option OpenJob)
    → HasCounted seq from message before after → IsAside job seq → IsJobIn layout before job → IsJobIn layout after job
counted_keeps layout from message seq before after None has aside is = tt
counted_keeps layout from message seq before after (Some held) has aside is =
    record {
      open_is = is.open_is;
      made = subst (λ (n : ℕ). read_seq held ≤ n) (sym has.seq_is) is.made;
      apart = has.others (read_seq held)
          ∙ ap (λ (b : Bool). cond b (Some has.now) (get nat_cmp before.operations (read_seq held))) (is_at_number seq (read_seq held) ∙ aside)
          ∙ is.apart;
    }

-- so does a scrub
scrub_counted_keeps : (layout : Layout) (from : BrickId) (message : Message) (seq : ℕ) (before after : OpenCalls) (job : Option OpenJob) (scrub : Option OpenScrub)
    → HasCounted seq from message before after → IsScrubAside scrub seq → IsScrubIn layout before job scrub → IsScrubIn layout after job scrub
scrub_counted_keeps layout from message seq before after job None has apart is = tt
scrub_counted_keeps layout from message seq before after job (Some held) has apart is =
    record {
      scrub_is = is.scrub_is;
      made = subst (λ (n : ℕ). scrub_seq held ≤ n) (sym has.seq_is) is.made;
      apart = has.others (scrub_seq held)
          ∙ ap (λ (b : Bool). cond b (Some has.now) (get nat_cmp before.operations (scrub_seq held))) (is_at_number seq (scrub_seq held) ∙ apart)
          ∙ is.apart;
      aside = is.aside;
    }

-- so it does whatever the reply comes to
pub turn_keeps : (layout : Layout) (from : BrickId) (call : Call) (told : Reply) (before after : OpenWork) (turned : Turn) (job : Option OpenJob)
    → IsTurn layout from call told before turned after → IsAside job call.seq → IsJobIn layout before.calls job → IsJobIn layout after.calls job
turn_keeps layout from call told before after turn.Counted job turn_is aside is =
    counted_keeps layout from (Message.Reply call told) call.seq before.calls after.calls job turn_is.0 aside is
turn_keeps layout from call told before after (turn.Ends answer) job turn_is aside is =
    subst (λ (w : OpenWork). IsJobIn layout w.calls job) (sym turn_is.0) is
turn_keeps layout from call told before after (turn.Goes heard) job turn_is aside is =
    subst (λ (w : OpenWork). IsJobIn layout w.calls job) (sym turn_is.0) is

pub turn_keeps_scrub : (layout : Layout) (from : BrickId) (call : Call) (told : Reply) (before after : OpenWork) (turned : Turn) (job : Option OpenJob)
    (scrub : Option OpenScrub) → IsTurn layout from call told before turned after → IsScrubAside scrub call.seq → IsScrubIn layout before.calls job scrub
    → IsScrubIn layout after.calls job scrub
turn_keeps_scrub layout from call told before after turn.Counted job scrub turn_is apart is =
    scrub_counted_keeps layout from (Message.Reply call told) call.seq before.calls after.calls job scrub turn_is.0 apart is
turn_keeps_scrub layout from call told before after (turn.Ends answer) job scrub turn_is apart is =
    subst (λ (w : OpenWork). IsScrubIn layout w.calls job scrub) (sym turn_is.0) is
turn_keeps_scrub layout from call told before after (turn.Goes heard) job scrub turn_is apart is =
    subst (λ (w : OpenWork). IsScrubIn layout w.calls job scrub) (sym turn_is.0) is

-- ---- the read

-- a read that takes the last reply back is of the brick still
pub taken_is : (layout : Layout) (calls : OpenCalls) (held taken : OpenJob)
    → shown_of taken.read ≡ with_state (shown_of held.read) (without_last (shown_of held.read).state) → taken.job ≡ held.job → taken.view ≡ held.view
    → IsJobAt layout calls held → IsJobAt layout calls taken
taken_is layout calls held taken read job view is =
    let group = ap (λ (op : phased.Operation). op.state.group) read in
    let seq = ap (λ (op : phased.Operation). op.state.call.seq) read in
    record {
      open_is = record {
        job_is = subst (λ (g : _). IsJobOf layout taken.job taken.view g) (sym group)
            (subst (λ (v : _). IsJobOf layout taken.job v (coordinator_of held.read).group) (sym view)
            (subst (λ (j : _). IsJobOf layout j held.view (coordinator_of held.read).group) (sym job) is.open_is.job_is));
        is_operation = ap (λ (op : phased.Operation). op.block) read ∙ is.open_is.is_operation;
      };
      made = subst (λ (n : ℕ). n ≤ calls.seq) (sym seq) is.made;
      apart = ap (λ (n : ℕ). get nat_cmp calls.operations n) seq ∙ is.apart;
    }

-- what it counted before, it counts no more
pub reading_back : (from : BrickId) (message : Message) (was held taken : OpenJob) → HasCountedRead from message was held
    → shown_of taken.read ≡ with_state (shown_of held.read) (without_last (shown_of held.read).state) → taken.job ≡ held.job → taken.view ≡ held.view
    → reading_of taken ≡ reading_of was
reading_back from message was held taken has read job view =
    let back : coordinator_of taken.read ≡ coordinator_of was.read =
    ap (λ (op : phased.Operation). op.state) read ∙ ap without_last has.now_is ∙ taken_back was.read from message has.counted in
    (λ i. record { job = job_at ((job ∙ has.job_is) i) ((view ∙ has.view_is) i) (back i).call.seq; read = back i })

-- so the brick is as it was
pub read_back : (from : BrickId) (message : Message) (before mid : Tasks) (held taken : OpenJob) → CountsRead from message before mid → mid.job ≡ Some held
    → shown_of taken.read ≡ with_state (shown_of held.read) (without_last (shown_of held.read).state) → taken.job ≡ held.job → taken.view ≡ held.view
    → (kept : KeptParts) → tasks_in kept (record { work = mid.work; job = Some taken; scrub = mid.scrub }) ≡ tasks_in kept before
read_back from message before mid held taken counts is read job view kept =
    let same : counts.now ≡ held = (let both : Some counts.now ≡ Some held = sym counts.job_after ∙ is in cc) in
    let has = subst (λ (x : OpenJob). HasCountedRead from message counts.was x) same counts.counted in
    let back = reading_back from message counts.was held taken has read job view in
    (λ i. with_scrubbing (scrubbing_in (counts.scrub_is i)) (with_reading (Some (back i)) (state_in kept (counts.work_is i))))
    ∙ ap (λ (j : Option OpenJob). with_scrubbing (scrubbing_in before.scrub) (with_reading (reading_in j) (state_in kept before.work))) (sym counts.job_before)

-- the read that took the last reply back has its call still
pub taken_apart : (layout : Layout) (calls : OpenCalls) (held taken : OpenJob) (scrub : Option OpenScrub)
    → shown_of taken.read ≡ with_state (shown_of held.read) (without_last (shown_of held.read).state) → IsScrubIn layout calls (Some held) scrub
    → IsScrubIn layout calls (Some taken) scrub
taken_apart layout calls held taken None read is = tt
taken_apart layout calls held taken (Some s) read is =
    record {
      scrub_is = is.scrub_is;
      made = is.made;
      apart = is.apart;
      aside = ap (λ (op : phased.Operation). nat_eq op.state.call.seq (scrub_seq s)) read ∙ is.aside;
    }

-- all that is under way is of the same brick then
pub same_taken : (layout : Layout) (tasks : Tasks) (held taken : OpenJob) → tasks.job ≡ Some held
    → shown_of taken.read ≡ with_state (shown_of held.read) (without_last (shown_of held.read).state) → taken.job ≡ held.job → taken.view ≡ held.view
    → AreSameTasks layout tasks (record tasks { job = Some taken })
same_taken layout tasks held taken is read job view =
    record {
      me = refl;
      boot = refl;
      of = λ of.
          record {
            work_is = of.work_is;
            job_is = taken_is layout tasks.work.calls held taken read job view (subst (IsJobIn layout tasks.work.calls) is of.job_is);
            scrub_is = taken_apart layout tasks.work.calls held taken tasks.scrub read
                (subst (λ (j : Option OpenJob). IsScrubIn layout tasks.work.calls j tasks.scrub) is of.scrub_is);
          };
    }

-- what is of the same brick as what is of the same brick is so itself
pub same_then : (layout : Layout) (before mid after : Tasks) → AreSameTasks layout before mid → AreSameTasks layout mid after → AreSameTasks layout before after
same_then layout before mid after first last =
    record { me = last.me ∙ first.me; boot = last.boot ∙ first.boot; of = λ of. last.of (first.of of) }

-- ---- the scrub

-- once the reply that it counted is taken back, the brick is as it was
pub scrub_back : (from : BrickId) (message : Message) (before mid : Tasks) (held taken : OpenScrub) → CountsScrub from message before mid → mid.scrub ≡ Some held
    → scrub_shown taken ≡ without_reply (scrub_shown held) → taken.scrub.lagging ≡ held.scrub.lagging
    → (kept : KeptParts) → tasks_in kept (record { work = mid.work; job = mid.job; scrub = Some taken }) ≡ tasks_in kept before
scrub_back from message before mid held taken counts is shown lagging kept =
    let same : counts.now ≡ held = (let both : Some counts.now ≡ Some held = sym counts.scrub_after ∙ is in cc) in
    let has = subst (λ (x : OpenScrub). HasCountedScrub from message counts.was x) same counts.counted in
    let back : scrub_coordinator_of taken ≡ scrub_coordinator_of counts.was =
    ap (λ (op : phased.Operation). op.state) shown ∙ ap without_last has.now_is
    ∙ ap (λ (op : phased.Operation). op.state) (back_as_before (scrub_shown counts.was) from message has.counted) in
    let who = lagging ∙ has.lagging in
    (λ i. with_scrubbing (Some (record { scrub = record { seq = (back i).call.seq; lagging = who i }; call = back i }))
    (with_reading (reading_in (counts.job_is i)) (state_in kept (counts.work_is i))))
    ∙ ap (λ (x : Option OpenScrub). with_scrubbing (scrubbing_in x) (with_reading (reading_in before.job) (state_in kept before.work))) (sym counts.scrub_before)

-- a scrub is of the brick still, where no synchronisation is under way any more
pub alone : (layout : Layout) (calls : OpenCalls) (job : Option OpenJob) (scrub : Option OpenScrub) → IsScrubIn layout calls job scrub → IsScrubIn layout calls None scrub
alone layout calls job None is = tt
alone layout calls job (Some held) is = record { scrub_is = is.scrub_is; made = is.made; apart = is.apart; aside = tt }

-- all that is under way is of the same brick, where the work is, and the synchronisation has ended
pub same_ended : (layout : Layout) (before : Tasks) (after : OpenWork) → IsSameWork layout before.work after
    → (AreTasksOf layout before → IsScrubIn layout after.calls before.job before.scrub)
    → AreSameTasks layout before (record { work = after; job = None; scrub = before.scrub })
same_ended layout before after same scrub_is =
    same_parts layout before (record { work = after; job = None; scrub = before.scrub }) same (λ of. tt)
    (λ of. alone layout after.calls before.job before.scrub (scrub_is of))
