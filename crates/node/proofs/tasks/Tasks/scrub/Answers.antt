-- The scrub begins, beside the synchronisation.
use Rattle.std.proofs.Common.{◌≡◌, ◌+◌, ◌-◌, ◌^◌, ◌||◌, Bool, true, false, not, nat_eq, if◌then◌else◌, [], ◌∷◌, Option, Some, None, refl, sym, ◌∙◌, ap, subst, arith, rules}
use Rattle.std.proofs.lemmas.Option.{none-some, same_Some}
use Rattle.fab_base.specs.declared.identities.CallId.{CallId}
use Rattle.fab_base.specs.declared.identities.ViewNo.{ViewNo}
use Rattle.fab_base.specs.declared.stamps.Stamp.{Stamp}
use Rattle.messages.specs.declared.calls.Call.{Call}
use Rattle.stripe_code.specs.Codes.{coding}
use Rattle.protocol.specs.declared.tellings.Told.TheVariants.{Began}
use Rattle.protocol.specs.Coordinators.{Coordinator}
use Rattle.protocol.specs.Nodes.{Node, has_later_time, is_spent, new_stamp, phase_packets, put}
use Rattle.coord_phase.specs.Operations as phased
use Rattle.coord_phase.specs.Operations.{group_in_view, scrub_op}
use Rattle.coord_phase.specs.Messages.{packets_from}
use Rattle.node.specs.declared.call_sources.CallSource.{CallSource}
use Rattle.node.specs.declared.operations.Operation.{Operation}
use Rattle.node.specs.declared.scrubs.OpenScrub.{OpenScrub}
use Rattle.node.specs.declared.tasks.Tasks.{Tasks}
use Rattle.node.specs.Jobs.{reading_in, with_reading}
use Rattle.node.specs.Outcomes.{Outcome, told_list}
use Rattle.node.specs.Scrubs.{GoesOnFrom, IsScrubOf, phase_of, scrub_coordinator_of, scrub_seq, scrubbed_by, scrubbing_in, with_scrubbing}
use Rattle.node.specs.States.{KeptParts, StepsAs, parts_with, state_in, state_with}
use Rattle.node.specs.Tasks.{tasks_in}
use Rattle.node.proofs.Resending.{phase_sent}
use Rattle.node.proofs.ScrubCalls.{job_made, scrub_is_at}
use Rattle.node.proofs.Underway.{no_parts, same_parts, same_work}
use Rattle.node.proofs.Undertaken.{made_before}
use Rattle.node.proofs.tasks.Tasks.scrub.Goals as goal
use Rattle.node.proofs.tasks.Tasks.scrub.Goals.{After-next, In_ok-open}

-- no call is left where none is made
spent_by : {X : Type 0} (b : Bool) (x : X) → (if b then None else Some x) ≡ None → b ≡ true
spent_by true x is = refl
spent_by false x is = absurd (none-some x (sym is))

-- and else this one is
made_by : {X : Type 0} (b : Bool) (x y : X) → (if b then None else Some x) ≡ Some y → (b ≡ false) × (x ≡ y)
made_by true x y is = absurd (none-some y is)
made_by false x y is = (refl, same_Some x y is)

-- whether no call is left for a source
abbrev none_left : CallSource → Bool
none_left at = not (has_later_time at.stamps.known) || nat_eq at.seq (2 ^ 64 - 1)

-- its next call
abbrev next_of : CallSource → CallId
next_of at = record { boot = at.stamps.boot; seq = at.seq + 1 }

-- with its stamp of a view
abbrev made_from : CallSource → ViewNo → CallId × Stamp
made_from at view = (next_of at, new_stamp at.me view at.now at.stamps.boot at.stamps.known)

-- no call is left for the machine's brick, if none is for the source
spent_so : (c : After-next) (b : Bool) → none_left c.source-at.result ≡ b → (kept : KeptParts) → not b ≡ not (is_spent (tasks_in kept c.args.self.now))
unfolding state_with
spent_so c b is kept = sym (ap (λ (spent : Bool). not spent) (ap none_left (sym c.source-at.ensures) ∙ is))

pub returns-in_default-clause-spent : goal.returns-in_default-clause-spent
returns-in_default-clause-spent c =
    let none = spent_by (none_left c.source-at.result) (made_from c.source-at.result c.args.view.number) (sym c.next.ensures ∙ c.in_default.is) in
    spent_so (goal.at.returns-in_default-clause-spent c).After-next true none

-- what the brick takes from it
abbrev taken : In_ok-open → CallId × Stamp
taken c = (c.in-Some.call, c.in-Some.stamp)

given : (c : In_ok-open) → (none_left c.source-at.result ≡ false) × (made_from c.source-at.result c.args.view.number ≡ taken c)
given c = made_by (none_left c.source-at.result) (made_from c.source-at.result c.args.view.number) (taken c) (sym c.next.ensures ∙ c.in-Some.is)

-- the machine's coordinator of it
abbrev begun_at : In_ok-open → Coordinator
begun_at c =
    let calls = c.args.self.now.work.calls in
    (scrub_op c.args.layout.now c.args.view (record { boot = calls.stamps.boot; seq = calls.seq + 1 }) c.args.group c.args.stripe
    (new_stamp calls.me c.args.view.number c.args.now calls.stamps.boot calls.stamps.known) c.args.members).state

-- is what the brick holds
look_is : (c : In_ok-open) → c.in_ok-open.open.scrub.look.state ≡ begun_at c
look_is c =
    let given_is = (given c).1 in
    let call = ap (λ (at : CallSource). next_of at) (sym c.source-at.ensures) ∙ ap (λ (p : CallId × Stamp). p.0) given_is in
    let stamp = ap (λ (at : CallSource). new_stamp at.me c.args.view.number at.now at.stamps.boot at.stamps.known) (sym c.source-at.ensures)
    ∙ ap (λ (p : CallId × Stamp). p.1) given_is in
    ap (λ (op : phased.Operation). op.state) c.in_ok-open.ensures.begins.look
    ∙ (λ i. (scrub_op c.args.layout.now c.args.view (sym call i) c.args.group c.args.stripe (sym stamp i) c.args.members).state)

held_is : (c : In_ok-open) → scrub_coordinator_of c.in_ok-open.open ≡ begun_at c
held_is c =
    ap (λ (o : Option Operation). (phase_of c.in_ok-open.open.scrub.look o).state) c.in_ok-open.ensures.begins.no_recovery ∙ look_is c

-- it is of the layout
scrub_of : (c : In_ok-open) → IsScrubOf c.args.layout.now c.in_ok-open.open
scrub_of c = record {
  block = ap (λ (op : phased.Operation). op.block) c.in_ok-open.ensures.begins.look;
  goes_on = subst (λ (o : Option Operation). GoesOnFrom c.in_ok-open.open.scrub.look o) (sym c.in_ok-open.ensures.begins.no_recovery) tt;
}

pub returns : goal.returns
unfolding state_with
returns c =
    let d = (goal.at.returns c).In_ok-open in
    let layout = c.args.layout.now in
    let tasks = c.args.self.now in
    let me = tasks.work.calls.me in
    let r = reading_in tasks.job in
    let begun : OpenScrub = c.in_ok-open.open in
    let after : Tasks = record { work = record { calls = c.made_read.new.self; proposals = tasks.work.proposals }; job = tasks.job; scrub = Some begun } in
    let group = group_in_view layout c.args.view.members c.args.group.0 in
    let begins = c.in_ok-open.ensures.begins in
    let operations = c.made_read.ensures.operations in
    let next : scrub_seq begun ≡ tasks.work.calls.seq + 1 = ap (λ (x : Coordinator). x.call.seq) (held_is d) in
    let last : c.made_read.new.self.seq ≡ scrub_seq begun =
    ap (λ (n : Node). n.seq) (c.made_read.ensures.state (parts_with no_parts tasks.work.proposals)) ∙ ap (λ (x : Call). x.seq) c.call-call.ensures in
    record {
      spent = spent_so (goal.at.returns c).After-next false (given d).0;
      step = λ kept.
          let node = state_in kept tasks.work in
          let stamp = ap (λ (op : phased.Operation). op.state.stamp.time) (sym begins.look) ∙ ap (λ (x : Coordinator). x.stamp.time) (look_is d) in
          let call = c.call-call.ensures ∙ ap (λ (x : Coordinator). x.call) (held_is d) in
          let work = c.made_read.ensures.state (parts_with kept tasks.work.proposals) in
          let idle = ap (λ (s : Option OpenScrub). with_scrubbing (scrubbing_in s) (with_reading r node)) c.requires.idle in
          let outs : Outcome = record { messages = c.in_ok-open.messages.items; told = told_list c.of_begun.result; answers = []; reports = [] } in
          subst (λ (n : Node). StepsAs me (tasks_in kept after)
          (scrubbed_by (coding layout) group c.args.view c.args.now c.args.group c.args.stripe c.args.members me n) outs)
          (sym idle)
          (record {
            packets = ap (packets_from me) begins.sends
                ∙ phase_sent layout begun.scrub.look me (ap (λ (op : phased.Operation). op.block) begins.look)
                (ap (λ (op : phased.Operation). op.state.counted) begins.look)
                ∙ ap (phase_packets (coding layout) me) (look_is d);
            told = ap told_list c.of_begun.ensures ∙ ap (λ (x : Call). Began x ∷ []) call;
            answers = refl;
            reports = refl;
            state_is = (λ i. with_scrubbing (scrubbing_in (Some begun)) (with_reading r (work i)))
                ∙ (λ i. record node {
                  seq = (call i).seq;
                  known = stamp i;
                  calls = put (with_reading r node).calls (held_is d i).call.seq (Some (held_is d i));
                  job = (with_reading r node).job;
                  scrub = Some (record { seq = (held_is d i).call.seq; lagging = begins.lagging i });
                });
          });
      few = search rules;
      err = tt;
      same = same_parts layout tasks after
          (same_work layout tasks.work c.made_read.new.self tasks.work.proposals (c.made_read.ensures.same layout) (λ on. on))
          (λ of. job_made layout tasks.work.calls c.made_read.new.self tasks.job operations (omega (arith, last, next)) of.job_is)
          (λ of. scrub_is_at layout tasks.work.calls c.made_read.new.self tasks.job begun operations last (scrub_of d) next
          (λ j there. made_before layout tasks.work.calls tasks.job j there of.job_is));
    }
