-- The scrub of a brick, beside the synchronisation.
use Rattle.std.proofs.Common.{◌≡◌, ◌≤◌, ◌+◌, ℕ, Bool, true, false, cond, if◌then◌else◌, nat_eq, [], ◌∷◌, ◌++◌, Option, Some, None, is_some, not, option_to_list, refl, sym, ◌∙◌, ap, subst, arith}
use Rattle.std.specs.Option.{option_map}
use Rattle.std.specs.Ordering.{nat_cmp}
use Rattle.std.specs.BTreeMap.{BTreeMap, get}
use Rattle.std.proofs.lemmas.Bool.{true≢false}
use Rattle.std.proofs.lemmas.Bool.Decides.{nat_tests}
use Rattle.fab_base.specs.declared.answers.Answer.TheVariants.{Aborted}
use Rattle.fab_base.specs.declared.answers.Cause.{Cause}
use Rattle.fab_base.specs.declared.identities.BrickId.{BrickId}
use Rattle.fab_base.specs.declared.identities.ViewNo.{ViewNo}
use Rattle.fab_base.specs.declared.stamps.Stamp.{Stamp}
use Rattle.fab_base.specs.Layouts.{Layout}
use Rattle.messages.specs.declared.calls.Call.{Call}
use Rattle.messages.specs.declared.packets.Message.{Message}
use Rattle.messages.specs.declared.packets.Message.TheVariants as message
use Rattle.messages.specs.declared.replies.Lineage.{Lineage}
use Rattle.messages.specs.declared.replies.Reply.{Reply}
use Rattle.messages.specs.declared.replies.Reply.TheVariants.{Moved}
use Rattle.protocol.specs.declared.tellings.Report.{Report}
use Rattle.protocol.specs.declared.tellings.ScrubAnswer.TheVariants as answer
use Rattle.protocol.specs.declared.tellings.Told.{Told}
use Rattle.protocol.specs.declared.tellings.Told.TheVariants.{Closed}
use Rattle.protocol.specs.Coordinators as machine
use Rattle.protocol.specs.Coordinators.{Coordinator, Next, counts_at, hearing, on_reply, with_reply}
use Rattle.protocol.specs.Nodes.{Node, carried_for, fresh_stamp, job_reading, known_after, members_alone, no_step, replied_at, view_in}
use Rattle.stripe_code.specs.Codes.{block_code, coding}
use Rattle.coord_phase.specs.Operations.{counts, heard, heard_at, seat_told}
use Rattle.coord_phase.specs.Decisions.{decided_on}
use Rattle.node.specs.declared.jobs.OpenJob.{OpenJob}
use Rattle.node.specs.declared.open_calls.OpenCalls.{OpenCalls}
use Rattle.node.specs.declared.open_work.OpenWork.{OpenWork}
use Rattle.node.specs.declared.operations.Operation.{Operation}
use Rattle.node.specs.declared.scrubs.OpenScrub.{OpenScrub}
use Rattle.node.specs.declared.tasks.Tasks.{Tasks}
use Rattle.node.specs.Jobs.{Reading, calls_with, reading_in, with_reading}
use Rattle.node.specs.Moves as moves
use Rattle.node.specs.Operations.{EndsOrWaits, coordinator_of, shown_of}
use Rattle.node.specs.Scrubs.{GoesOnFrom, HasCountedScrub, IsScrubAsBefore, IsScrubAside, IsScrubOf, ScrubsAt, calls_with_scrub, phase_of, scrub_at, scrub_coordinator_of, scrub_seq, scrub_shown, scrub_step, scrubbing_in, scrubbing_of, with_scrubbing}
use Rattle.node.specs.States.{KeptParts, state_in, state_with}
use Rattle.node.specs.Tasks.{ApartFromJob, AreSameTasks, IsJobIn, IsScrubAt, IsScrubIn, ReadsAt, counts_among, counts_at as counts_here, counts_beside, read_seq, tasks_in}
use Rattle.node.proofs.Beside.{ApartFrom, calls_apart, eq_same, eq_turned}
use Rattle.node.proofs.Hearing.{none_of}
use Rattle.node.proofs.ScrubSteps.{carried, scrub_ends, scrub_waits, scrubbed}
use Rattle.node.proofs.ScrubsBeside.{JobApart, ScrubApart}
use Rattle.node.proofs.Turns.{there}

-- ---- its call

-- it is not that of the read
pub read_other : (job : Option OpenJob) (held : OpenScrub) → ApartFromJob job held → ApartFrom (reading_in job) (scrub_seq held)
read_other None held aside = tt
read_other (Some j) held aside = aside

pub job_other : (job : Option OpenJob) (held : OpenScrub) → ApartFromJob job held → JobApart (option_map (λ (r : Reading). r.job) (reading_in job)) (scrub_seq held)
job_other None held aside = tt
job_other (Some j) held aside = aside

pub scrub_other : (layout : Layout) (calls : OpenCalls) (job : OpenJob) (scrub : Option OpenScrub) → IsScrubIn layout calls (Some job) scrub
    → ScrubApart (scrubbing_in scrub) (read_seq job)
scrub_other layout calls job None is = tt
scrub_other layout calls job (Some held) is = eq_turned (scrub_seq held) (read_seq job) ∙ is.aside

-- nor that of an operation
pub scrub_free : (layout : Layout) (work : OpenWork) (job : Option OpenJob) (held : OpenScrub) (kept : KeptParts) → IsScrubAt layout work.calls job held
    → (with_reading (reading_in job) (state_in kept work)).calls (scrub_seq held) ≡ None
unfolding state_with
scrub_free layout work job held kept is =
    calls_apart (reading_in job) (state_in kept work).calls (scrub_seq held) (read_other job held is.aside) ∙ ap (option_map coordinator_of) is.apart

-- the brick's next call is another than a scrub's
pub aside_next : (layout : Layout) (calls : OpenCalls) (job : Option OpenJob) (scrub : Option OpenScrub) → IsScrubIn layout calls job scrub
    → IsScrubAside scrub (calls.seq + 1)
aside_next layout calls job None is = tt
aside_next layout calls job (Some held) is = let made = is.made in grind (arith, nat_tests)

-- it is of the brick still, where the operations are as they were, and the synchronisation
pub scrub_heard : (layout : Layout) (before after : OpenCalls) (job : Option OpenJob) (scrub : Option OpenScrub) → after.operations ≡ before.operations
    → after.seq ≡ before.seq → IsScrubIn layout before job scrub → IsScrubIn layout after job scrub
scrub_heard layout before after job None same last is = tt
scrub_heard layout before after job (Some held) same last is =
    record {
      scrub_is = is.scrub_is;
      made = subst (λ (n : ℕ). scrub_seq held ≤ n) (sym last) is.made;
      apart = ap (λ (operations : BTreeMap ℕ Operation). get nat_cmp operations (scrub_seq held)) same ∙ is.apart;
      aside = is.aside;
    }

-- and where the read has the same call
pub scrub_stays : (layout : Layout) (before after : OpenCalls) (held now : OpenJob) (scrub : Option OpenScrub) → after.operations ≡ before.operations
    → after.seq ≡ before.seq → read_seq now ≡ read_seq held → IsScrubIn layout before (Some held) scrub → IsScrubIn layout after (Some now) scrub
scrub_stays layout before after held now None same last seq is = tt
scrub_stays layout before after held now (Some s) same last seq is =
    record {
      scrub_is = is.scrub_is;
      made = subst (λ (n : ℕ). scrub_seq s ≤ n) (sym last) is.made;
      apart = ap (λ (operations : BTreeMap ℕ Operation). get nat_cmp operations (scrub_seq s)) same ∙ is.apart;
      aside = ap (λ (n : ℕ). nat_eq n (scrub_seq s)) seq ∙ is.aside;
    }

-- no operation, and no read, has the call of a new scrub, which is one of the brick
pub scrub_is_at : (layout : Layout) (before after : OpenCalls) (job : Option OpenJob) (held : OpenScrub) → after.operations ≡ before.operations
    → after.seq ≡ scrub_seq held → IsScrubOf layout held → scrub_seq held ≡ before.seq + 1
    → ((j : OpenJob) → job ≡ Some j → read_seq j ≤ before.seq) → IsScrubAt layout after job held
scrub_is_at layout before after job held same last of next made =
    record {
      scrub_is = of;
      made = omega (arith, last);
      apart = none_of (get nat_cmp after.operations (scrub_seq held))
          (ap (λ (operations : BTreeMap ℕ Operation). is_some (get nat_cmp operations (scrub_seq held))) same
          ∙ before.fresh (scrub_seq held) (omega (arith, next)));
      aside = by job made;
    }
  where
    by : (j : Option OpenJob) → ((x : OpenJob) → j ≡ Some x → read_seq x ≤ before.seq) → ApartFromJob j held
    by None made = tt
    by (Some x) made = let first = made x refl in grind (arith, nat_tests, first, next)

-- ---- a reply to it

-- the call is that of the scrub
pub scrubs_call : (scrub : Option OpenScrub) (held : OpenScrub) (seq : ℕ) → scrub ≡ Some held → ScrubsAt scrub seq → nat_eq (scrub_seq held) seq ≡ true
scrubs_call scrub held seq e scrubs = subst (λ (o : Option OpenScrub). ScrubsAt o seq) e scrubs

pub scrub_there : (held : OpenScrub) (node : Node) (seq : ℕ) → nat_eq (scrub_seq held) seq ≡ true
    → (with_scrubbing (Some (scrubbing_of held)) node).calls seq ≡ Some (scrub_coordinator_of held)
scrub_there held node seq same =
    ap (λ (b : Bool). cond b (Some (scrub_coordinator_of held)) (node.calls seq)) (eq_turned seq (scrub_seq held) ∙ same)

-- what the brick does is what the machine does with a reply to the scrub
pub replied_scrub : (layout : Layout) (me : BrickId) (now : ℕ) (from : BrickId) (held : OpenScrub) (node : Node) (call : Call) (reply : Reply)
    → nat_eq (scrub_seq held) call.seq ≡ true → job_reading node.job (scrub_seq held) ≡ None
    → replied_at (coding layout) me now from (with_scrubbing (Some (scrubbing_of held)) node) call reply
    ((with_scrubbing (Some (scrubbing_of held)) node).calls call.seq)
    ≡ scrub_step layout me (fresh_stamp me (scrub_coordinator_of held).stamp.view now node.boot (known_after node.known reply)) held node
    (known_after node.known reply) from call reply
replied_scrub layout me now from held node call reply same none =
    let c = scrub_coordinator_of held in
    let known = known_after node.known reply in
    let N : Node = with_scrubbing (Some (scrubbing_of held)) node in
    let h = hearing c from reply (counts_at layout.block c from.0 call reply) in
    let next = on_reply layout.block (block_code layout.block) (fresh_stamp me c.stamp.view now node.boot known) c from call reply in
    ap (replied_at (coding layout) me now from N call reply) (scrub_there held node call.seq same)
    ∙ (λ i. carried_for (coding layout) me now N known c h next (none i) (if eq_same (scrub_seq held) i then Some (scrub_at held) else None))

-- ---- a reply that counts, and tells a later view

-- its operation is of the layout
pub shown_block : (layout : Layout) (held : OpenScrub) → IsScrubOf layout held → (scrub_shown held).block ≡ layout.block
shown_block layout held is = by held.recovery is.goes_on
  where
    by : (o : Option Operation) → GoesOnFrom held.scrub.look o → (phase_of held.scrub.look o).block ≡ layout.block
    by None goes = is.block
    by (Some recovery) goes = goes.0 ∙ is.block

module _ (layout : Layout) (held : OpenScrub) (is : IsScrubOf layout held) (from : BrickId) (call : Call) (view : ViewNo) (lineage : Lineage)
    (counted : counts (scrub_shown held) from (message.Reply call (Moved view (Some lineage))) ≡ true) where
  abbrev moved : Reply
  moved = Moved view (Some lineage)

  abbrev c : Coordinator
  c = scrub_coordinator_of held

  -- the reply counts at some seat
  seat_found : (seat : ℕ) × (counts_at (scrub_shown held).block c from.0 call moved ≡ Some seat)
  unfolding seat_told
  seat_found = there (counts_at (scrub_shown held).block c from.0 call moved) counted

  -- so it is heard there
  heard_is : (heard (scrub_shown held) from (message.Reply call moved)).state ≡ with_reply c seat_found.0 from moved
  unfolding seat_told
  heard_is = ap (λ (seat : Option ℕ). (heard_at (scrub_shown held) from (message.Reply call moved) seat).state) seat_found.1

  -- where the scrub waits for more, that is what is decided
  pub scrub_waits_so : EndsOrWaits c from view None
      → decided_on None (scrub_shown held) from (message.Reply call moved) ≡ machine.Waits (heard (scrub_shown held) from (message.Reply call moved)).state
  scrub_waits_so ends =
      let block = (scrub_shown held).block in
      ends block (block_code block) None call (Some lineage) seat_found.0 seat_found.1 ∙ ap (λ (d : Coordinator). machine.Waits d) (sym heard_is)

  counts_so : counts_at layout.block c from.0 call moved ≡ Some seat_found.0
  counts_so = ap (λ (block : ℕ). counts_at block c from.0 call moved) (sym (shown_block layout held is)) ∙ seat_found.1

  module _ (me : BrickId) (now : ℕ) (node : Node) (same : nat_eq (scrub_seq held) call.seq ≡ true) (none : job_reading node.job (scrub_seq held) ≡ None) where
    abbrev scrubs : Node
    scrubs = with_scrubbing (Some (scrubbing_of held)) node

    abbrev decides : Option Stamp
    decides = fresh_stamp me c.stamp.view now node.boot node.known

    -- it waits as the machine's does
    pub scrub_moved_waits : EndsOrWaits c from view None → (after : OpenScrub) → HasCountedScrub from (message.Reply call moved) held after
        → replied_at (coding layout) me now from scrubs call moved (scrubs.calls call.seq) ≡ no_step (with_scrubbing (Some (scrubbing_of after)) node)
    scrub_moved_waits ends after has =
        let h = hearing c from moved (counts_at layout.block c from.0 call moved) in
        let d : scrub_coordinator_of after ≡ with_reply c seat_found.0 from moved = has.now_is ∙ heard_is in
        replied_scrub layout me now from held node call moved same none
        ∙ ap (carried (coding layout) me node node.known held.scrub.lagging c h)
        (ends layout.block (block_code layout.block) decides call (Some lineage) seat_found.0 counts_so)
        ∙ scrub_waits (coding layout) me node node.known held.scrub.lagging c h (with_reply c seat_found.0 from moved) refl
        ∙ (λ i. no_step (with_scrubbing (Some (scrubbed (sym has.lagging i) (sym d i))) node))

    -- so does one that ends
    pub scrub_moved_ends : (cause : Cause) → EndsOrWaits c from view (Some (Aborted cause)) → node.calls (scrub_seq held) ≡ None
        → held.scrub.look.state.only ≡ c.only
        → replied_at (coding layout) me now from scrubs call moved (scrubs.calls call.seq)
        ≡ record {
          node = with_scrubbing None node;
          packets = [];
          told = Closed (scrub_seq held) (Some cause) ∷ [];
          answers = [];
          reports = Report.Scrub c.call (members_alone held.scrub.look.state.only) (answer.Aborted cause) ∷ [];
        }
    scrub_moved_ends cause ends free only =
        let h = hearing c from moved (counts_at layout.block c from.0 call moved) in
        replied_scrub layout me now from held node call moved same none
        ∙ ap (carried (coding layout) me node node.known held.scrub.lagging c h)
        (ends layout.block (block_code layout.block) decides call (Some lineage) seat_found.0 counts_so)
        ∙ scrub_ends (coding layout) me node node.known held.scrub.lagging c h (Aborted cause) None None free
        ∙ (λ i. record {
          node = with_scrubbing None node;
          packets = [];
          told = Closed (scrub_seq held) (Some cause) ∷ [];
          answers = [];
          reports = Report.Scrub c.call (members_alone (sym only i)) (answer.Aborted cause) ∷ [];
        })

-- its members are those of its look
pub only_same : (layout : Layout) (held : OpenScrub) → IsScrubOf layout held → held.scrub.look.state.only ≡ (scrub_coordinator_of held).only
only_same layout held is = by held.recovery is.goes_on
  where
    by : (o : Option Operation) → GoesOnFrom held.scrub.look o → held.scrub.look.state.only ≡ (phase_of held.scrub.look o).state.only
    by None goes = refl
    by (Some recovery) goes = sym goes.2

-- ---- at a brick

-- a message that counts counts in it, where the read has another call
pub counts_scrub : (tasks : Tasks) (held : OpenScrub) (seq : ℕ) (from : BrickId) (told : Message) → tasks.scrub ≡ Some held → nat_eq (scrub_seq held) seq ≡ true
    → ((j : OpenJob) → tasks.job ≡ Some j → nat_eq (read_seq j) seq ≡ false) → counts_here tasks seq from told ≡ true
    → counts (scrub_shown held) from told ≡ true
counts_scrub tasks held seq from told e same other counted =
    sym (ap (λ (b : Bool). if b then counts (scrub_shown held) from told else moves.counts_at tasks.work seq from told) same)
    ∙ ap (λ (o : Option OpenScrub). counts_beside tasks o seq from told) (sym e)
    ∙ sym (unread tasks.job other)
    ∙ counted
  where
    unread : (job : Option OpenJob) → ((j : OpenJob) → job ≡ Some j → nat_eq (read_seq j) seq ≡ false)
        → counts_among tasks job seq from told ≡ counts_beside tasks tasks.scrub seq from told
    unread None other = refl
    unread (Some j) other =
        ap (λ (b : Bool). if b then counts (shown_of j.read) from told else counts_beside tasks tasks.scrub seq from told) (other j refl)

-- what was told of a read that ended, and that another began
told_by : (version ended : Option Told) (last : Told)
    → option_to_list version ++ (option_to_list ended ++ (last ∷ [])) ≡ (option_to_list version ++ (option_to_list ended ++ [])) ++ (last ∷ [])
told_by None None last = refl
told_by None (Some e) last = refl
told_by (Some v) None last = refl
told_by (Some v) (Some e) last = refl

pub told_then : (version ended begun : Option Told) (last : Told) → begun ≡ None
    → option_to_list version ++ (option_to_list ended ++ (last ∷ [])) ≡ (option_to_list version ++ (option_to_list ended ++ option_to_list begun)) ++ (last ∷ [])
told_then version ended begun last none =
    told_by version ended last
    ∙ ap (λ (o : Option Told). (option_to_list version ++ (option_to_list ended ++ option_to_list o)) ++ (last ∷ [])) (sym none)

-- a scrub that goes on is of the brick still
pub scrub_goes_on : (layout : Layout) (before after : OpenCalls) (job : Option OpenJob) (held now : OpenScrub) → after.operations ≡ before.operations
    → after.seq ≡ before.seq → scrub_seq now ≡ scrub_seq held → IsScrubOf layout now → IsScrubAt layout before job held → IsScrubAt layout after job now
scrub_goes_on layout before after job held now same last seq of is =
    record {
      scrub_is = of;
      made = subst (λ (n : ℕ). n ≤ after.seq) (sym seq) (subst (λ (n : ℕ). scrub_seq held ≤ n) (sym last) is.made);
      apart = (λ i. get nat_cmp (same i) (seq i)) ∙ is.apart;
      aside = by job is.aside;
    }
  where
    by : (j : Option OpenJob) → ApartFromJob j held → ApartFromJob j now
    by None aside = tt
    by (Some j) aside = ap (λ (n : ℕ). nat_eq (read_seq j) n) seq ∙ aside

-- where the scrub alone has changed, and goes on, all that is under way is of the same brick
pub same_scrub : (layout : Layout) (tasks : Tasks) (held now : OpenScrub) → tasks.scrub ≡ Some held → scrub_seq now ≡ scrub_seq held
    → (IsScrubOf layout held → IsScrubOf layout now) → AreSameTasks layout tasks (record tasks { scrub = Some now })
same_scrub layout tasks held now is seq of =
    record {
      me = refl;
      boot = refl;
      of = λ were.
          let at = subst (IsScrubIn layout tasks.work.calls tasks.job) is were.scrub_is in
          record {
            work_is = were.work_is;
            job_is = were.job_is;
            scrub_is = scrub_goes_on layout tasks.work.calls tasks.work.calls tasks.job held now refl refl seq (of at.scrub_is) at;
          };
    }

-- where the machine sees the scrub as it was, it sees all as it was
pub scrub_as_before : (layout : Layout) (tasks : Tasks) (held now : OpenScrub) → tasks.scrub ≡ Some held → IsScrubAsBefore layout held now → (kept : KeptParts)
    → tasks_in kept (record tasks { scrub = Some now }) ≡ tasks_in kept tasks
scrub_as_before layout tasks held now is same kept =
    (λ i. with_scrubbing (Some (same.scrubbing_is i)) (with_reading (reading_in tasks.job) (state_in kept tasks.work)))
    ∙ ap (λ (s : Option OpenScrub). with_scrubbing (scrubbing_in s) (with_reading (reading_in tasks.job) (state_in kept tasks.work))) (sym is)

-- nothing is reported
pub none_reported : (o : Option Report) (b : Bool) → is_some o ≡ not b → b ≡ true → option_to_list o ≡ []
none_reported None b is none = refl
none_reported (Some x) b is none = absurd (true≢false (is ∙ ap (λ (x : Bool). not x) none))

-- something is
pub one_reported : (o : Option Report) (b : Bool) → is_some o ≡ not b → b ≡ false → (x : Report) × (option_to_list o ≡ x ∷ [])
one_reported None b is some = absurd (true≢false (sym (is ∙ ap (λ (x : Bool). not x) some)))
one_reported (Some x) b is some = (x, refl)

-- a synchronisation is of the brick still, where the operations are as they were
pub job_heard : (layout : Layout) (before after : OpenCalls) (job : Option OpenJob) → after.operations ≡ before.operations → after.seq ≡ before.seq
    → IsJobIn layout before job → IsJobIn layout after job
job_heard layout before after None same last is = tt
job_heard layout before after (Some held) same last is =
    record {
      open_is = is.open_is;
      made = subst (λ (n : ℕ). read_seq held ≤ n) (sym last) is.made;
      apart = ap (λ (operations : BTreeMap ℕ Operation). get nat_cmp operations (read_seq held)) same ∙ is.apart;
    }

-- numbers that test the same are equal
pub eq_so : (a b : ℕ) → nat_eq a b ≡ true → a ≡ b
eq_so a b e = grind (arith, nat_tests, e)

-- ---- what is open

-- a call is open where the read has it
some_either : (b : Bool) (c : Coordinator) (o : Option Coordinator) → is_some o ≡ true → is_some (cond b (Some c) o) ≡ true
some_either true c o e = refl
some_either false c o e = e

pub open_read : (job : Option OpenJob) (scrub : Option OpenScrub) (f : ℕ → Option Coordinator) (seq : ℕ) → ReadsAt job seq
    → is_some (calls_with_scrub (scrubbing_in scrub) (calls_with (reading_in job) f) seq) ≡ true
open_read None scrub f seq reads = absurd reads
open_read (Some held) None f seq reads =
    ap (λ (b : Bool). is_some (cond b (Some (coordinator_of held.read)) (f seq))) (eq_turned seq (read_seq held) ∙ reads)
open_read (Some held) (Some s) f seq reads =
    some_either (nat_eq seq (scrub_seq s)) (scrub_coordinator_of s) _
    (ap (λ (b : Bool). is_some (cond b (Some (coordinator_of held.read)) (f seq))) (eq_turned seq (read_seq held) ∙ reads))

-- or the scrub
pub open_scrub : (scrub : Option OpenScrub) (f : ℕ → Option Coordinator) (seq : ℕ) → ScrubsAt scrub seq
    → is_some (calls_with_scrub (scrubbing_in scrub) f seq) ≡ true
open_scrub None f seq scrubs = absurd scrubs
open_scrub (Some s) f seq scrubs =
    ap (λ (b : Bool). is_some (cond b (Some (scrub_coordinator_of s)) (f seq))) (eq_turned seq (scrub_seq s) ∙ scrubs)

-- a synchronisation is of the brick still, where a call was made of something else
pub job_made : (layout : Layout) (before after : OpenCalls) (job : Option OpenJob) → after.operations ≡ before.operations → before.seq ≤ after.seq
    → IsJobIn layout before job → IsJobIn layout after job
job_made layout before after None same later is = tt
job_made layout before after (Some held) same later is =
    let made = is.made in
    record {
      open_is = is.open_is;
      made = omega (arith, made, later);
      apart = ap (λ (operations : BTreeMap ℕ Operation). get nat_cmp operations (read_seq held)) same ∙ is.apart;
    }

-- the view of a call is that of the scrub which has it
pub seen_scrub : (scrub : Option OpenScrub) (f : ℕ → Option Coordinator) (seq : ℕ) → ScrubsAt scrub seq
    → option_map (λ (held : OpenScrub). view_in (scrub_coordinator_of held)) scrub ≡ option_map view_in (calls_with_scrub (scrubbing_in scrub) f seq)
seen_scrub None f seq scrubs = absurd scrubs
seen_scrub (Some s) f seq scrubs =
    sym (ap (λ (b : Bool). option_map view_in (cond b (Some (scrub_coordinator_of s)) (f seq))) (eq_turned seq (scrub_seq s) ∙ scrubs))

-- or of the read
pub seen_read : (job : Option OpenJob) (f : ℕ → Option Coordinator) (seq : ℕ) → ReadsAt job seq
    → option_map (λ (held : OpenJob). view_in (coordinator_of held.read)) job ≡ option_map view_in (calls_with (reading_in job) f seq)
seen_read None f seq reads = absurd reads
seen_read (Some held) f seq reads =
    sym (ap (λ (b : Bool). option_map view_in (cond b (Some (coordinator_of held.read)) (f seq))) (eq_turned seq (read_seq held) ∙ reads))
