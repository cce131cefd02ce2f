-- The scrub goes on, or ends.
use Rattle.std.proofs.Common.{◌≡◌, true, List, [], Option, Some, None, refl, sym, ◌∙◌, ap, subst}
use Rattle.stripe_code.specs.Codes.{coding}
use Rattle.protocol.specs.declared.tellings.Report.{Report}
use Rattle.protocol.specs.Nodes.{Node, NodeStep, fresh_stamp, replied_at, with_known, with_round}
use Rattle.coord_phase.specs.Messages.{packets_from}
use Rattle.node.specs.declared.scrubs.OpenScrub.{OpenScrub}
use Rattle.node.specs.declared.open_work.OpenWork.{OpenWork}
use Rattle.node.specs.Jobs.{reading_in, with_reading}
use Rattle.node.specs.Outcomes.{Outcome}
use Rattle.node.specs.Scrubs.{KeepsScrub, Scrubbing, StepsScrub, left_scrub, scrub_seq, scrub_step, scrubbing_in, with_scrubbing}
use Rattle.node.specs.States.{KeptParts, StepsAs, parts_with, state_in, state_with}
use Rattle.node.specs.Tasks.{AreSameTasks, IsScrubAt, IsScrubIn, tasks_in}
use Rattle.node.proofs.Beside.{none_reads}
use Rattle.node.proofs.States.{on_err}
use Rattle.node.proofs.ScrubCalls.{job_heard, none_reported, one_reported, read_other, replied_scrub, same_scrub, scrub_as_before, scrub_free, scrub_goes_on, scrubs_call}
use Rattle.node.proofs.Underway.{same_calls_then, same_parts}
use Rattle.node.proofs.tasks.Tasks.on_scrub_reply.Goals as goal
use Rattle.node.proofs.tasks.Tasks.on_scrub_reply.Goals.{After-is_none, In_ok-outs}

-- the scrub is of the brick
at_brick : (c : In_ok-outs) → IsScrubAt c.args.layout.now c.args.self.now.work.calls c.args.self.now.job c.in-Some.open
at_brick c = subst (IsScrubIn c.args.layout.now c.args.self.now.work.calls c.args.self.now.job) c.in-Some.is c.requires.of.scrub_is

-- the brick, but for the scrub, once it knows the round of a ballot that the reply tells
abbrev others : In_ok-outs → KeptParts → Node
others c kept = with_reading (reading_in c.args.self.now.job) (with_round (state_in kept c.args.self.now.work) c.args.reply.now)

-- what the reply comes to
steps : (c : In_ok-outs) → StepsScrub c.args.layout.now c.in-Some.open c.args.packet.now.from c.args.packet.now.message c.fresh_stamp-fresh.result
    c.source_after-at.result.stamps.known c.in_ok-outs.outs c.on_reply.new.self c.on_reply.new.stamps.known
steps c = c.in_ok-outs.ensures.step c.args.layout.now (at_brick c).scrub_is

-- is the machine's step
step_is : (c : In_ok-outs) (kept : KeptParts) → (let tasks = c.args.self.now in let me = tasks.work.calls.me in
    replied_at (coding c.args.layout.now) me c.args.now c.args.packet.now.from (with_round (tasks_in kept tasks) c.args.reply.now) c.args.call c.args.reply.now
    ((tasks_in kept tasks).calls c.args.call.seq)
    ≡ record {
      node = with_scrubbing (scrubbing_in (left_scrub c.in_ok-outs.outs.reports c.on_reply.new.self)) (with_known (others c kept) c.on_reply.new.stamps.known);
      packets = packets_from me c.in_ok-outs.outs.messages;
      told = c.in_ok-outs.outs.told;
      answers = c.in_ok-outs.outs.answers;
      reports = c.in_ok-outs.outs.reports;
    })
unfolding state_with
step_is c kept =
    let layout = c.args.layout.now in
    let tasks = c.args.self.now in
    let me = tasks.work.calls.me in
    let from = c.args.packet.now.from in
    let call = c.args.call in
    let reply = c.args.reply.now in
    let held = c.in-Some.open in
    let at = at_brick c in
    let source = c.source_after-at.ensures in
    let fresh = c.fresh_stamp-fresh.ensures.stamp
    ∙ (λ i. fresh_stamp (source.me i) (c.stamp_view.ensures i) c.args.now (source.boot i) (source.known i)) in
    (λ i. (let now : Node = tasks_in kept (record { work = tasks.work; job = tasks.job; scrub = c.in-Some.is i }) in
    replied_at (coding layout) me c.args.now from (with_round now reply) call reply (now.calls call.seq)))
    ∙ replied_scrub layout me c.args.now from held (others c kept) call reply (scrubs_call tasks.scrub held call.seq c.in-Some.is c.requires.scrubs)
    (none_reads (reading_in tasks.job) (scrub_seq held) (read_other tasks.job held at.aside))
    ∙ (λ i. scrub_step layout me (sym fresh i) held (others c kept) (sym source.known i) from call reply)
    ∙ (steps c).step me (others c kept) call reply c.requires.reply (scrub_free layout tasks.work tasks.job held kept at)

-- the brick's work then
abbrev work_after : After-is_none → OpenWork
work_after c = record { calls = c.knows.new.self; proposals = c.heard.new.self.proposals }

-- has heard the reply
work_is : (c : After-is_none) (kept : KeptParts)
    → state_in kept (work_after c) ≡ with_known (with_round (state_in kept c.args.self.now.work) c.args.reply.now) c.on_reply.new.stamps.known
work_is c kept =
    c.knows.ensures.state (parts_with kept c.heard.new.self.proposals)
    ∙ ap (λ (n : Node). with_known n c.on_reply.new.stamps.known) (c.heard.ensures.state kept)

-- with this work, and what is left of the scrub, the brick has done the machine's step
step_so : (c : In_ok-outs) (work : OpenWork) (left : Option OpenScrub) (kept : KeptParts)
    → state_in kept work ≡ with_known (with_round (state_in kept c.args.self.now.work) c.args.reply.now) c.on_reply.new.stamps.known
    → left_scrub c.in_ok-outs.outs.reports c.on_reply.new.self ≡ left → (let tasks = c.args.self.now in let me = tasks.work.calls.me in
    StepsAs me (tasks_in kept (record { work = work; job = tasks.job; scrub = left }))
    (replied_at (coding c.args.layout.now) me c.args.now c.args.packet.now.from (with_round (tasks_in kept tasks) c.args.reply.now) c.args.call c.args.reply.now
    ((tasks_in kept tasks).calls c.args.call.seq)) c.in_ok-outs.outs)
step_so c work left kept heard is =
    let tasks = c.args.self.now in
    let known = c.on_reply.new.stamps.known in
    subst (λ (step : NodeStep). StepsAs tasks.work.calls.me (tasks_in kept (record { work = work; job = tasks.job; scrub = left })) step c.in_ok-outs.outs)
    (sym (step_is c kept))
    (record {
      packets = refl;
      told = refl;
      answers = refl;
      reports = refl;
      state_is = ap (λ (n : Node). with_scrubbing (scrubbing_in left) (with_reading (reading_in tasks.job) n)) heard
          ∙ ap (λ (s : Option OpenScrub). with_scrubbing (scrubbing_in s) (with_known (others c kept) known)) (sym is);
    })

-- what is under way is of the same brick, if what is left of the scrub is
same_so : (c : After-is_none) (left : Option OpenScrub) → IsScrubIn c.args.layout.now c.knows.new.self c.args.self.now.job left
    → AreSameTasks c.args.layout.now c.args.self.now (record { work = work_after c; job = c.args.self.now.job; scrub = left })
same_so c left scrub_is =
    let calls = c.args.self.now.work.calls in
    let operations = c.knows.ensures.operations ∙ c.heard.ensures.operations in
    same_parts c.args.layout.now c.args.self.now (record { work = work_after c; job = c.args.self.now.job; scrub = left })
    (same_calls_then c.args.layout.now c.args.self.now.work c.heard.new.self c.knows.new.self (c.heard.ensures.same c.args.layout.now)
    (c.knows.ensures.same c.args.layout.now))
    (λ of. job_heard c.args.layout.now calls c.knows.new.self c.args.self.now.job operations (c.knows.ensures.seq ∙ c.heard.ensures.seq) of.job_is)
    (λ of. scrub_is)

-- where it is not over, nothing is reported
none_so : (c : After-is_none) → c.is_none.result ≡ true → c.in_ok-outs.outs.reports ≡ []
none_so c none =
    sym (ap (λ (o : Outcome). o.reports) c.outs.view_is) ∙ none_reported c.outs.inside.report c.is_none.result c.is_none.ensures none

pub returns-then-is_none-clause-step : goal.returns-then-is_none-clause-step
returns-then-is_none-clause-step c = λ kept.
    let e = (goal.at.returns-then-is_none-clause-step c).After-is_none in
    step_so (goal.at.returns-then-is_none-clause-step c).In_ok-outs (work_after e) (Some c.on_reply.new.self) kept (work_is e kept)
    (ap (λ (reports : List Report). left_scrub reports c.on_reply.new.self) (none_so e c.if-is_none.true))

pub returns-then-is_none-clause-same : goal.returns-then-is_none-clause-same
returns-then-is_none-clause-same c =
    let d = (goal.at.returns-then-is_none-clause-same c).In_ok-outs in
    let e = (goal.at.returns-then-is_none-clause-same c).After-is_none in
    let layout = c.args.layout.now in
    let after : OpenScrub = c.on_reply.new.self in
    let at = at_brick d in
    let goes = subst (λ (reports : List Report). KeepsScrub layout reports c.in-Some.open after) (none_so e c.if-is_none.true) (steps d).goes_on in
    same_so e (Some after)
    (scrub_goes_on layout c.args.self.now.work.calls c.knows.new.self c.args.self.now.job c.in-Some.open after (c.knows.ensures.operations ∙ c.heard.ensures.operations)
    (c.knows.ensures.seq ∙ c.heard.ensures.seq) goes.0 (goes.1 at.scrub_is) at)

pub returns-clause-step : goal.returns-clause-step
returns-clause-step c = λ kept.
    let e = (goal.at.returns-clause-step c).After-is_none in
    let one = one_reported c.outs.inside.report c.is_none.result c.is_none.ensures c.if-is_none.false in
    step_so (goal.at.returns-clause-step c).In_ok-outs (work_after e) None kept (work_is e kept)
    (ap (λ (reports : List Report). left_scrub reports c.on_reply.new.self) (sym (ap (λ (o : Outcome). o.reports) c.outs.view_is) ∙ one.1))

pub returns-clause-same : goal.returns-clause-same
returns-clause-same c = same_so (goal.at.returns-clause-same c).After-is_none None tt

pub returns-in_err-outs-clause-err : goal.returns-in_err-outs-clause-err
returns-in_err-outs-clause-err c =
    on_err c.from_residual.result
    (scrub_as_before c.args.layout.now c.args.self.now c.in-Some.open c.on_reply.new.self c.in-Some.is (c.in_err-outs.ensures.same c.args.layout.now))

pub returns-in_err-outs-clause-same : goal.returns-in_err-outs-clause-same
returns-in_err-outs-clause-same c =
    let is = c.in_err-outs.ensures.same c.args.layout.now in
    same_scrub c.args.layout.now c.args.self.now c.in-Some.open c.on_reply.new.self c.in-Some.is (ap (λ (s : Scrubbing). s.scrub.seq) is.scrubbing_is) is.of
