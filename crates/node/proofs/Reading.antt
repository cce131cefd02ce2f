-- What a reply to the read of a synchronisation comes to.
use Rattle.std.proofs.Common.{◌≡◌, ◌≤◌, ℕ, Bool, cond, List, [], ◌∷◌, ◌++◌, length, Option, Some, None, refl, sym, ◌∙◌, ap, subst, arith}
use Rattle.std.specs.Option.{option_map}
use Rattle.fab_base.specs.declared.answers.Answer.{Answer}
use Rattle.fab_base.specs.declared.answers.Cause.{Cause}
use Rattle.fab_base.specs.declared.stamps.Stamp.{Stamp}
use Rattle.fab_base.specs.declared.member_lists.View.{View}
use Rattle.fab_base.specs.Layouts.{Group, Layout}
use Rattle.messages.specs.declared.packets.Packet.{Packet}
use Rattle.stripe_code.specs.Codes.{coding}
use Rattle.protocol.specs.declared.tellings.Answered.{Answered}
use Rattle.protocol.specs.declared.tellings.Told.TheVariants.{Closed}
use Rattle.protocol.specs.Coordinators.{Coordinator, Next, Ignores, Waits, Sends, Makes, Ends}
use Rattle.protocol.specs.Jobs.{abort_cause, job_after}
use Rattle.protocol.specs.Nodes.{Node, NodeStep, put, carried_out, carried_read, collect_packets, job_goes, read_closed, seen_told, then_does, with_known}
use Rattle.view_sync.specs.Jobs.{Synchronising}
use Rattle.node.specs.declared.call_sources.CallSource.{CallSource}
use Rattle.node.specs.declared.jobs.Followed.{Followed}
use Rattle.node.specs.declared.jobs.OpenJob.{OpenJob}
use Rattle.node.specs.declared.jobs.Prepared.{Prepared}
use Rattle.node.specs.declared.jobs.ReadTurn.TheVariants as turn
use Rattle.node.specs.declared.operations.Operation.{Operation}
use Rattle.node.specs.declared.outs.Tellings.{Tellings}
use Rattle.node.specs.Decisions.{CarriesOut, KeepsCall, NeverEnds, answers_in, left_by, left_open, or_waits, told_in}
use Rattle.node.specs.Jobs.{GoesOn, IsJobOf, MakesFrom, cause_in, ended_by, followed_step, job_at, job_of, reading_of, sends_first, then_told, with_reading}
use Rattle.node.specs.Operations.{coordinator_of, shown_of}
use Rattle.node.specs.Outcomes.{Outcome, told_list}
use Rattle.node.specs.Reads.{IsPrepared, IsSameRead, turn_step}
use Rattle.node.proofs.Beside.{eq_same, put_twice}
use Rattle.node.proofs.Following.{followed_after}
use Rattle.node.proofs.Replied.{busy_after, does, does_answer, does_node, does_report, does_send, does_tell, waits_is}

-- steps with the same parts are the same
same_steps : (a b : NodeStep) → a.node ≡ b.node → a.packets ≡ b.packets → a.told ≡ b.told → a.answers ≡ b.answers → a.reports ≡ b.reports → a ≡ b
same_steps a b node packets told answers reports =
    λ i. record { node = node i; packets = packets i; told = told i; answers = answers i; reports = reports i }

-- ---- how it ended

-- what ends with an answer ends so
pub ends_in : (c : Coordinator) (next : Next) (seq : ℕ) (x : Answered) (answers : List Answered) → answers ≡ answers_in seq (or_waits c next) → answers ≡ x ∷ []
    → (answer : Answer) × (seen : Option Stamp) × (stored : Option Stamp) × (next ≡ Ends answer seen stored) × (cause_in answers ≡ abort_cause answer)
ends_in c Ignores seq x answers is one = absurd (let never : [] ≡ x ∷ [] = sym is ∙ one in cc)
ends_in c (Waits d) seq x answers is one = absurd (let never : [] ≡ x ∷ [] = sym is ∙ one in cc)
ends_in c (Sends d) seq x answers is one = absurd (let never : [] ≡ x ∷ [] = sym is ∙ one in cc)
ends_in c (Makes d) seq x answers is one = absurd (let never : [] ≡ x ∷ [] = sym is ∙ one in cc)
ends_in c (Ends answer seen stored) seq x answers is one = (answer, seen, stored, refl, ap cause_in is)

-- what does not answer goes on
goes_in : (c : Coordinator) (next : Next) (seq : ℕ) (answers : List Answered) → answers ≡ answers_in seq (or_waits c next) → answers ≡ [] → NeverEnds next
goes_in c Ignores seq answers is none = tt
goes_in c (Waits d) seq answers is none = tt
goes_in c (Sends d) seq answers is none = tt
goes_in c (Makes d) seq answers is none = tt
goes_in c (Ends answer seen stored) seq answers is none =
    let x : Answered = record { seq = seq; answer = answer } in
    let never : x ∷ [] ≡ [] = sym is ∙ none in
    cc

-- what may not end answers nothing
pub unanswered : (c : Coordinator) (next : Next) (seq : ℕ) → NeverEnds next → answers_in seq (or_waits c next) ≡ []
unanswered c Ignores seq never = refl
unanswered c (Waits d) seq never = refl
unanswered c (Sends d) seq never = refl
unanswered c (Makes d) seq never = refl
unanswered c (Ends answer seen stored) seq never = absurd never

-- nothing is told twice
pub told_once : (c : Coordinator) (next : Next) (seq : ℕ) → length (told_in seq (or_waits c next)) ≤ 1
told_once c Ignores seq = omega arith
told_once c (Waits d) seq = omega arith
told_once c (Sends d) seq = omega arith
told_once c (Makes d) seq = omega arith
told_once c (Ends answer None stored) seq = omega arith
told_once c (Ends answer (Some v) stored) seq = omega arith

-- ---- what it is then

-- a read that has not answered keeps its call
keeps_seq : (before after : Operation) (answers : List Answered) → answers ≡ [] → KeepsCall answers before after
    → (coordinator_of after).call.seq ≡ (coordinator_of before).call.seq
keeps_seq before after [] none keeps = keeps
keeps_seq before after (answered ∷ answers) none keeps = absurd cc

-- so it is the same read, of the same synchronisation
pub same_read : (layout : Layout) (before after : OpenJob) (answers : List Answered) → after.job ≡ before.job → after.view ≡ before.view
    → (coordinator_of after.read).group ≡ (coordinator_of before.read).group → (shown_of after.read).block ≡ (shown_of before.read).block
    → KeepsCall answers before.read after.read → answers ≡ [] → IsSameRead layout before after
same_read layout before after answers job view group block keeps none =
    record {
      group = ap (λ (j : Synchronising). j.group) job;
      seq = keeps_seq before.read after.read answers none keeps;
      of = λ of. record {
        job_is = subst (λ (g : Group). IsJobOf layout after.job after.view g) (sym group)
            (subst (λ (v : View). IsJobOf layout after.job v (coordinator_of before.read).group) (sym view)
            (subst (λ (j : Synchronising). IsJobOf layout j before.view (coordinator_of before.read).group) (sym job) of.job_is));
        is_operation = block ∙ of.is_operation;
      };
    }

module _ (layout : Layout) (at : CallSource) (before : OpenJob) (node : Node) (makes : MakesFrom at node)
    (free : node.calls (coordinator_of before.read).call.seq ≡ None) where
  abbrev c : Coordinator
  c = coordinator_of before.read

  abbrev reads : Node
  reads = with_reading (Some (reading_of before)) node

  -- the read is the call's
  held : reads.calls c.call.seq ≡ Some c
  held = ap (λ (b : Bool). cond b (Some c) (node.calls c.call.seq)) (eq_same c.call.seq)

  -- a read that goes on does as an operation does
  as_operation : (next : Next) → NeverEnds next
      → carried_read (coding layout) at.me at.now reads at.stamps.known (job_of before) c next ≡ carried_out (coding layout) at.me reads at.stamps.known c next
  as_operation Ignores never = refl
  as_operation (Waits d) never = refl
  as_operation (Sends d) never = refl
  as_operation (Makes d) never = refl
  as_operation (Ends answer seen stored) never = absurd never

  -- what is left of it
  left_of : (next : Next) (after : Operation) (answers : List Answered) → answers ≡ [] → left_by (or_waits c next) ≡ option_map coordinator_of (left_open answers after)
      → left_by (or_waits c next) ≡ Some (coordinator_of after)
  left_of next after answers none left = left ∙ ap (λ (l : List Answered). option_map coordinator_of (left_open l after)) none

  -- it goes on
  pub goes_so : (next : Next) (after : OpenJob) (known : ℕ) (outs : Outcome) → after.job ≡ before.job → after.view ≡ before.view
      → CarriesOut layout before.read after.read at.stamps.known known (or_waits c next) outs → outs.answers ≡ []
      → carried_read (coding layout) at.me at.now reads at.stamps.known (job_of before) c next ≡ turn_step at.me after node (turn.Goes outs known)
  goes_so next after known outs job view carried none =
      let me = at.me in
      let nothing : answers_in c.call.seq (or_waits c next) ≡ [] = sym carried.answers ∙ none in
      let left = left_of next after.read outs.answers none carried.left in
      let seq : c.call.seq ≡ (coordinator_of after.read).call.seq = sym (keeps_seq before.read after.read outs.answers none carried.keeps) in
      let calls : put (put node.calls c.call.seq (Some c)) c.call.seq (left_by (or_waits c next))
      ≡ put node.calls (coordinator_of after.read).call.seq (Some (coordinator_of after.read)) =
      put_twice node.calls c.call.seq (Some c) (left_by (or_waits c next)) ∙ (λ i. put node.calls (seq i) (left i)) in
      as_operation next (goes_in c next c.call.seq outs.answers carried.answers none)
      ∙ waits_is layout me reads at.stamps.known c next held
      ∙ same_steps (does layout me reads at.stamps.known c next) (turn_step me after node (turn.Goes outs known))
      (does_node layout me reads at.stamps.known c next
      ∙ (λ i. record node {
        known = sym carried.knows i;
        busy = busy_after (nothing i) node.busy;
        calls = calls i;
        job = Some (job_at (sym job i) (sym view i) (seq i));
      }))
      (does_send layout me reads at.stamps.known c next ∙ sym (carried.packets me))
      (does_tell layout me reads at.stamps.known c next ∙ sym carried.told)
      (does_answer layout me reads at.stamps.known c next ∙ sym carried.answers)
      (does_report layout me reads at.stamps.known c next ∙ sym carried.reports)

  -- it ends
  pub ends_so : (answer : Answer) (seen stored : Option Stamp) (told : Tellings) (sent : List Packet) (f last : Followed)
      → before.job.stripes ≡ c.group.stripes → GoesOn layout before.job before.view at (abort_cause answer) f
      → sent ≡ collect_packets at.me c stored → told_list told ≡ seen_told c.call.seq seen ++ (Closed c.call.seq (abort_cause answer) ∷ [])
      → followed_step at.me before.job.group node last ≡ sends_first sent (followed_step at.me before.job.group node f)
      → carried_read (coding layout) at.me at.now reads at.stamps.known (job_of before) c (Ends answer seen stored)
      ≡ then_told told (followed_step at.me before.job.group node last)
  ends_so answer seen stored told sent f last stripes goes sent_is told_is last_is =
      let me = at.me in
      let group = before.job.group in
      let seq = c.call.seq in
      let closed : NodeStep = read_closed me reads at.stamps.known c answer seen stored in
      let from : MakesFrom at closed.node = record { boot = makes.boot; seq = makes.seq; known = refl } in
      let next : job_goes (coding layout) me at.now closed.node (job_of before) (job_after c.group.stripes before.job.attempt (abort_cause answer))
      ≡ followed_step me group node f =
      ap (λ (n : ℕ). job_goes (coding layout) me at.now closed.node (job_of before) (job_after n before.job.attempt (abort_cause answer))) (sym stripes)
      ∙ goes closed.node seq from
      ∙ followed_after me group node at.stamps.known node.busy seq (Some c) (Some (job_of before)) f free
      ∙ (λ i. followed_step me group (with_known node (sym makes.known i)) f) in
      ap (then_does closed) next
      ∙ (λ i. record (followed_step me group node f) {
        packets = sym sent_is i ++ (followed_step me group node f).packets;
        told = sym told_is i ++ (followed_step me group node f).told;
      })
      ∙ ap (then_told told) (sym last_is)

-- what was prepared comes after it, by whichever way it ended
pub ended_goes : (layout : Layout) (job : OpenJob) (at : CallSource) (p : Prepared) (cause : Option Cause) → IsPrepared layout job at p
    → GoesOn layout job.job job.view at cause (ended_by cause p.answered p.aborted)
ended_goes layout job at p None is = is.answered
ended_goes layout job at p (Some cause) is = is.aborted cause
