-- What a brick does is the same where it has a scrub under way beside, whose call is another.
use Rattle.std.proofs.Common.{◌≡◌, ℕ, ◌+◌, Bool, true, false, cond, if◌then◌else◌, nat_eq, List, [], ◌++◌, Option, Some, None, refl, sym, ◌∙◌, ap, subst}
use Rattle.std.specs.Option.{option_map}
use Rattle.std.proofs.lemmas.List.{append-nil, append_assoc}
use Rattle.fab_base.specs.declared.asks.Ask.{Ask}
use Rattle.fab_base.specs.declared.identities.BrickId.{BrickId}
use Rattle.fab_base.specs.declared.identities.GroupId.{GroupId}
use Rattle.fab_base.specs.declared.member_lists.View.{View}
use Rattle.fab_base.specs.Layouts.{Group, Layout}
use Rattle.messages.specs.declared.calls.Call.{Call}
use Rattle.messages.specs.declared.packets.Packet.{Packet}
use Rattle.messages.specs.declared.replies.Reply.{Reply}
use Rattle.quorum.specs.Memberships.{is_membership}
use Rattle.protocol.specs.Settings.{Setting}
use Rattle.protocol.specs.Coordinators.{Coordinator, Next, Ignores, Waits, Sends, Makes, Ends, counts_at, hearing, on_reply}
use Rattle.protocol.specs.Jobs.{Job, JobNext, Reads, Finishes, GivesUp, abort_cause, begun_job, job_after, job_ask, spent_answer, synced_answer}
use Rattle.protocol.specs.Scrubs.{Scrub}
use Rattle.protocol.specs.declared.tellings.ViewAnswer.TheVariants as answer
use Rattle.protocol.specs.Proposals.{Proposal, Voting, Ignored, Waited, Asks, Ended, ballot_packets, voted}
use Rattle.protocol.specs.declared.tellings.Report.{Report}
use Rattle.protocol.specs.Views.{group_kept}
use Rattle.protocol.specs.Nodes.{Node, NodeStep, put, ballot_resent, began_in, calls_but_read, calls_but_scrub, carried_ballot, carried_for, carried_out, carried_read, coordinator_in, fresh_stamp, is_spent, job_call, job_goes, job_reading, known_after, new_proposal, proposed_in, proposing, read_begun, read_begun_by, read_begun_in, read_closed, reading, refusal_of, replied_at, replied_ballot, reporting, resent, resent_up_to, scrub_call, scrub_of, sending, synced_at, then_does, ticked, with_call, with_job, with_known}
use Rattle.stripe_code.specs.Codes.{coding}
use Rattle.node.specs.Jobs.{Reading, with_reading}
use Rattle.node.specs.Scrubs.{Scrubbing, calls_with_scrub, with_scrubbing}
use Rattle.node.proofs.Beside.{eq_same, eq_turned, put_same, put_twice, puts_apart}

-- the scrub, if there is one, has another call than that of this number
abbrev pub ScrubApart : Option Scrubbing → ℕ → Type 0
ScrubApart None seq = Unit {0}
ScrubApart (Some s) seq = nat_eq s.scrub.seq seq ≡ false

-- another call has the same operation
pub calls_apart_scrub : (s : Option Scrubbing) (f : ℕ → Option Coordinator) (seq : ℕ) → ScrubApart s seq → calls_with_scrub s f seq ≡ f seq
calls_apart_scrub None f seq apart = refl
calls_apart_scrub (Some s) f seq apart = ap (λ (b : Bool). cond b (Some s.call) (f seq)) (eq_turned seq s.scrub.seq ∙ apart)

-- and may be changed before or after
calls_put_scrub : (s : Option Scrubbing) (f : ℕ → Option Coordinator) (seq : ℕ) (v : Option Coordinator) → ScrubApart s seq
    → put (calls_with_scrub s f) seq v ≡ calls_with_scrub s (put f seq v)
calls_put_scrub None f seq v apart = refl
calls_put_scrub (Some s) f seq v apart = puts_apart f s.scrub.seq seq (Some s.call) v apart

-- a scrub and a read that have other calls are there in either order
pub swapped : (s : Option Scrubbing) (r : Reading) (node : Node) → ScrubApart s r.job.seq
    → with_scrubbing s (with_reading (Some r) node) ≡ with_reading (Some r) (with_scrubbing s node)
swapped None r node apart = refl
swapped (Some s) r node apart =
    ap (λ (calls : ℕ → Option Coordinator). record node { calls = calls; job = Some r.job; scrub = Some s.scrub })
    (puts_apart node.calls r.job.seq s.scrub.seq (Some r.read) (Some s.call) (eq_turned r.job.seq s.scrub.seq ∙ apart))

-- a read that begins has the brick's next call
pub read_beside : (s : Option Scrubbing) (job : Job) (c : Coordinator) (node : Node) → ScrubApart s c.call.seq
    → reading (with_scrubbing s node) job c ≡ with_scrubbing s (reading node job c)
read_beside s job c node apart =
    ap (λ (calls : ℕ → Option Coordinator). record node {
      seq = c.call.seq;
      known = c.stamp.time;
      calls = calls;
      job = Some (record job { seq = c.call.seq });
      scrub = option_map (λ (x : Scrubbing). x.scrub) s;
    }) (calls_put_scrub s node.calls c.call.seq (Some c) apart)

-- the same step of a brick with this scrub
abbrev pub beside_scrub : Option Scrubbing → NodeStep → NodeStep
beside_scrub s step = record step { node = with_scrubbing s step.node }

-- it is not the scrub that has the call
none_scrubs : (s : Option Scrubbing) (seq : ℕ) → ScrubApart s seq → scrub_of (option_map (λ (x : Scrubbing). x.scrub) s) seq ≡ None
none_scrubs None seq apart = refl
none_scrubs (Some s) seq apart = ap (λ (b : Bool). if b then Some s.scrub else None) apart

module _ (layout : Layout) (me : BrickId) (s : Option Scrubbing) where
  -- the brick with an operation changed
  call_beside_scrub : (node : Node) (known busy seq : ℕ) (v : Option Coordinator) → ScrubApart s seq
      → with_call (with_scrubbing s node) known busy seq v ≡ with_scrubbing s (with_call node known busy seq v)
  call_beside_scrub node known busy seq v apart =
      ap (λ (calls : ℕ → Option Coordinator). record node { known = known; busy = busy; calls = calls; scrub = option_map (λ (x : Scrubbing). x.scrub) s })
      (calls_put_scrub s node.calls seq v apart)

  -- what it does with what the coordinator of an operation decided
  carried_beside_scrub : (node : Node) (known : ℕ) (c : Coordinator) (next : Next) → ScrubApart s c.call.seq
      → carried_out (coding layout) me (with_scrubbing s node) known c next ≡ beside_scrub s (carried_out (coding layout) me node known c next)
  carried_beside_scrub node known c Ignores apart = refl
  carried_beside_scrub node known c (Waits d) apart =
      ap (λ (n : Node). record (carried_out (coding layout) me node known c (Waits d)) { node = n }) (call_beside_scrub node known node.busy c.call.seq (Some d) apart)
  carried_beside_scrub node known c (Sends d) apart =
      ap (λ (n : Node). record (carried_out (coding layout) me node known c (Sends d)) { node = n }) (call_beside_scrub node _ node.busy c.call.seq (Some d) apart)
  carried_beside_scrub node known c (Makes d) apart =
      ap (λ (n : Node). record (carried_out (coding layout) me node known c (Makes d)) { node = n }) (call_beside_scrub node known node.busy c.call.seq (Some d) apart)
  carried_beside_scrub node known c (Ends answer seen stored) apart =
      ap (λ (n : Node). record (carried_out (coding layout) me node known c (Ends answer seen stored)) { node = n })
      (call_beside_scrub node known _ c.call.seq None apart)

  -- how a read of its synchronisation begins
  read_beside_scrub : (now : ℕ) (node : Node) (job : Job) → ScrubApart s (node.seq + 1)
      → read_begun (coding layout) me now (with_scrubbing s node) job ≡ beside_scrub s (read_begun (coding layout) me now node job)
  read_beside_scrub now node job apart = begins (group_kept layout job.view.members job.group.0)
    where
      ends : Node → NodeStep
      ends n = reporting (with_job n None) [] (Report.Sync job.group (spent_answer job.attempt))

      reads : Group → Node → NodeStep
      reads group n = read_begun_by (coding layout) me n job (coordinator_in group job.view me now n (job_ask job))

      reads_so : (group : Group) → reads group (with_scrubbing s node) ≡ beside_scrub s (reads group node)
      reads_so group =
          let c = coordinator_in group job.view me now node (job_ask job) in
          ap (λ (calls : ℕ → Option Coordinator). record (reads group node) {
            node = record node {
              seq = c.call.seq;
              known = c.stamp.time;
              calls = calls;
              job = Some (record job { seq = c.call.seq });
              scrub = option_map (λ (x : Scrubbing). x.scrub) s;
            };
          }) (calls_put_scrub s node.calls (node.seq + 1) (Some c) apart)

      either : (group : Group) (b : Bool)
          → cond b (ends (with_scrubbing s node)) (reads group (with_scrubbing s node)) ≡ beside_scrub s (cond b (ends node) (reads group node))
      either group true = refl
      either group false = reads_so group

      begins : (group : Option Group)
          → read_begun_in (coding layout) me now (with_scrubbing s node) job group ≡ beside_scrub s (read_begun_in (coding layout) me now node job group)
      begins None = refl
      begins (Some group) = either group (is_spent node)

  -- what it does next for its synchronisation
  job_beside_scrub : (now : ℕ) (node : Node) (job : Job) (next : JobNext) → ScrubApart s (node.seq + 1)
      → job_goes (coding layout) me now (with_scrubbing s node) job next ≡ beside_scrub s (job_goes (coding layout) me now node job next)
  job_beside_scrub now node job (Reads attempt) apart = read_beside_scrub now node (record job { attempt = attempt }) apart
  job_beside_scrub now node job Finishes apart = refl
  job_beside_scrub now node job (GivesUp cause) apart = refl

  -- what it does with what the coordinator of that read decided
  carried_read_beside_scrub : (now : ℕ) (node : Node) (known : ℕ) (job : Job) (c : Coordinator) (next : Next) → ScrubApart s c.call.seq
      → ScrubApart s (node.seq + 1)
      → carried_read (coding layout) me now (with_scrubbing s node) known job c next
      ≡ beside_scrub s (carried_read (coding layout) me now node known job c next)
  carried_read_beside_scrub now node known job c Ignores apart free = carried_beside_scrub node known c Ignores apart
  carried_read_beside_scrub now node known job c (Waits d) apart free = carried_beside_scrub node known c (Waits d) apart
  carried_read_beside_scrub now node known job c (Sends d) apart free = carried_beside_scrub node known c (Sends d) apart
  carried_read_beside_scrub now node known job c (Makes d) apart free = carried_beside_scrub node known c (Makes d) apart
  carried_read_beside_scrub now node known job c (Ends answer seen stored) apart free =
      let next = job_after c.group.stripes job.attempt (abort_cause answer) in
      let closed = read_closed me node known c answer seen stored in
      ap (λ (n : Node). then_does (record closed { node = n }) (job_goes (coding layout) me now n job next)) (call_beside_scrub node known node.busy c.call.seq None apart)
      ∙ ap (then_does closed) (job_beside_scrub now closed.node job next free)

  -- what it does with a reply to another call; if that is to the read of its synchronisation, the brick's next call is another than the scrub's
  pub replied_beside_scrub : (now : ℕ) (from : BrickId) (node : Node) (call : Call) (reply : Reply) (o : Option Coordinator) → node.scrub ≡ None
      → ScrubApart s call.seq → ((job : Job) → job_reading node.job call.seq ≡ Some job → ScrubApart s (node.seq + 1))
      → ((c : Coordinator) → o ≡ Some c → c.call.seq ≡ call.seq)
      → replied_at (coding layout) me now from (with_scrubbing s node) call reply o ≡ beside_scrub s (replied_at (coding layout) me now from node call reply o)
  replied_beside_scrub now from node call reply None quiet apart free at =
      heard_so (with_known node (known_after node.known reply)) node.proposal
    where
      voted_so : (n : Node) (p : Proposal) (decided : Voting)
          → carried_ballot layout me (with_scrubbing s n) p decided ≡ beside_scrub s (carried_ballot layout me n p decided)
      voted_so n p Ignored = refl
      voted_so n p (Waited q) = refl
      voted_so n p (Asks q) = refl
      voted_so n p (Ended call ended) = refl

      heard_so : (n : Node) (p : Option Proposal)
          → replied_ballot layout me from (with_scrubbing s n) call reply p ≡ beside_scrub s (replied_ballot layout me from n call reply p)
      heard_so n None = refl
      heard_so n (Some p) = voted_so n p (voted layout.bricks p from call reply)
  replied_beside_scrub now from node call reply (Some c) quiet apart free at =
      let known = known_after node.known reply in
      let heard = hearing c from reply (counts_at layout.block c from.0 call reply) in
      let next = on_reply layout.block (coding layout).code (fresh_stamp me c.stamp.view now node.boot known) c from call reply in
      let apart_here = subst (ScrubApart s) (sym (at c refl)) apart in
      ap (carried_for (coding layout) me now (with_scrubbing s node) known c heard next (job_reading node.job c.call.seq)) (none_scrubs s c.call.seq apart_here)
      ∙ either known heard next apart_here (job_reading node.job c.call.seq) refl
      ∙ ap (λ (scrub : Option Scrub). beside_scrub s (carried_for (coding layout) me now node known c heard next (job_reading node.job c.call.seq)
      (scrub_of scrub c.call.seq))) (sym quiet)
    where
      either : (known : ℕ) (heard : Coordinator) (next : Next) → ScrubApart s c.call.seq → (job : Option Job) → job_reading node.job c.call.seq ≡ job
          → carried_for (coding layout) me now (with_scrubbing s node) known c heard next job None
          ≡ beside_scrub s (carried_for (coding layout) me now node known c heard next job None)
      either known heard next apart_here None e = carried_beside_scrub node known c next apart_here
      either known heard next apart_here (Some job) e =
          carried_read_beside_scrub now node known job c next apart_here
          (free job (subst (λ (k : ℕ). job_reading node.job k ≡ Some job) (at c refl) e))

  -- how it begins an operation
  pub began_beside_scrub : (now : ℕ) (node : Node) (ask : Ask) (group : Group) (view : View) → ScrubApart s (node.seq + 1)
      → began_in (coding layout) me (with_scrubbing s node) (coordinator_in group view me now (with_scrubbing s node) ask)
      ≡ beside_scrub s (began_in (coding layout) me node (coordinator_in group view me now node ask))
  began_beside_scrub now node ask group view apart =
      let c = coordinator_in group view me now node ask in
      ap (λ (calls : ℕ → Option Coordinator). record (began_in (coding layout) me node c) {
        node = record node { seq = c.call.seq; known = c.stamp.time; busy = node.busy + 1; calls = calls; scrub = option_map (λ (x : Scrubbing). x.scrub) s };
      }) (calls_put_scrub s node.calls (node.seq + 1) (Some c) apart)

  -- how it begins a proposal
  pub proposed_beside_scrub : (node : Node) (group : GroupId) (members : List BrickId) (kept : Group)
      → proposed_in (coding layout) me (with_scrubbing s node) group members (Some kept)
      ≡ beside_scrub s (proposed_in (coding layout) me node group members (Some kept))
  proposed_beside_scrub node group members kept = either (is_membership kept.m layout.bricks members)
    where
      begins : Node → NodeStep
      begins n = (let p = new_proposal me n kept.m group members in sending (proposing n p) (ballot_packets me p))

      ends : Node → NodeStep
      ends n = reporting n [] (Report.View group None answer.BadMembers)

      either : (b : Bool) → cond b (begins (with_scrubbing s node)) (ends (with_scrubbing s node)) ≡ beside_scrub s (cond b (begins node) (ends node))
      either true = refl
      either false = refl

  -- how it begins to synchronise
  pub synced_beside_scrub : (now : ℕ) (node : Node) (group : GroupId) → ScrubApart s (node.seq + 1)
      → synced_at (coding layout) me now (with_scrubbing s node) group ≡ beside_scrub s (synced_at (coding layout) me now node group)
  unfolding synced_at
  synced_beside_scrub now node group apart = either (node.learnt group.0).synced
    where
      ends : Node → NodeStep
      ends n = reporting n [] (Report.Sync group (synced_answer (node.learnt group.0).view.number))

      begins : Node → NodeStep
      begins n = read_begun (coding layout) me now n (begun_job group (node.learnt group.0).view)

      either : (b : Bool) → cond b (ends (with_scrubbing s node)) (begins (with_scrubbing s node)) ≡ beside_scrub s (cond b (ends node) (begins node))
      either true = refl
      either false = read_beside_scrub now node (begun_job group (node.learnt group.0).view) apart

-- the read of a synchronisation, if there is one, has another call than that of this number
abbrev pub JobApart : Option Job → ℕ → Type 0
JobApart None seq = Unit {0}
JobApart (Some job) seq = nat_eq job.seq seq ≡ false

-- what it sends at a tick: last of all the present phase of the scrub again
pub ticked_beside_scrub : (setting : Setting) (me : BrickId) (s : Scrubbing) (node : Node) → node.scrub ≡ None → node.calls s.scrub.seq ≡ None
    → JobApart node.job s.scrub.seq → ticked setting me (with_scrubbing (Some s) node) ≡ ticked setting me node ++ resent setting me (Some s.call)
unfolding ticked
ticked_beside_scrub setting me s node quiet free aside =
    let k = s.scrub.seq in
    let all = put node.calls k (Some s.call) in
    let last = resent setting me (Some s.call) in
    let ballots = ballot_resent me node.proposal in
    let others = resent_up_to setting me (calls_but_read node.calls node.job) node.seq in
    let reads = resent setting me (job_call node.calls node.job) in
    let alone : ticked setting me node ≡ others ++ (ballots ++ (reads ++ [])) =
    (λ i. resent_up_to setting me (calls_but_scrub (calls_but_read node.calls node.job) (quiet i)) node.seq
    ++ (ballots ++ (reads ++ resent setting me (scrub_call node.calls (quiet i))))) in
    (λ i. resent_up_to setting me (others_are node.job aside i) node.seq
    ++ (ballots ++ (resent setting me (job_is node.job aside i) ++ resent setting me (scrub_is i))))
    ∙ ap (λ (b : List Packet). others ++ b) (sym (append_assoc ballots reads last))
    ∙ sym (append_assoc others (ballots ++ reads) last)
    ∙ ap (λ (b : List Packet). (others ++ (ballots ++ b)) ++ last) (sym (append-nil reads))
    ∙ ap (λ (b : List Packet). b ++ last) (sym alone)
  where
    scrub_is : put node.calls s.scrub.seq (Some s.call) s.scrub.seq ≡ Some s.call
    scrub_is = ap (λ (b : Bool). cond b (Some s.call) (node.calls s.scrub.seq)) (eq_same s.scrub.seq)

    job_is : (job : Option Job) → JobApart job s.scrub.seq → job_call (put node.calls s.scrub.seq (Some s.call)) job ≡ job_call node.calls job
    job_is None aside = refl
    job_is (Some job) aside = ap (λ (b : Bool). cond b (Some s.call) (node.calls job.seq)) aside

    others_are : (job : Option Job) → JobApart job s.scrub.seq
        → put (calls_but_read (put node.calls s.scrub.seq (Some s.call)) job) s.scrub.seq None ≡ calls_but_read node.calls job
    others_are None aside = put_twice node.calls s.scrub.seq (Some s.call) None ∙ put_same node.calls s.scrub.seq None free
    others_are (Some job) aside =
        sym (puts_apart (put node.calls s.scrub.seq (Some s.call)) s.scrub.seq job.seq None None (eq_turned s.scrub.seq job.seq ∙ aside))
        ∙ ap (λ (f : ℕ → Option Coordinator). put f job.seq None)
        (put_twice node.calls s.scrub.seq (Some s.call) None ∙ put_same node.calls s.scrub.seq None free)

-- why an operation does not begin
pub refusal_beside_both : (layout : Layout) (s : Option Scrubbing) (r : Option Reading) (node : Node) (ask : Ask)
    → refusal_of layout (with_scrubbing s (with_reading r node)) ask ≡ refusal_of layout node ask
unfolding refusal_of
refusal_beside_both layout s r node ask = refl
