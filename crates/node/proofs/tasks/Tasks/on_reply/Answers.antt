-- The reply is to an operation or to the proposal, beside the synchronisation and the scrub.
use Rattle.std.proofs.Common.{◌≡◌, ℕ, false, nat_eq, Option, Some, None, refl, sym, ◌∙◌, ap, subst}
use Rattle.std.proofs.lemmas.Result.{IfOk-weaker}
use Rattle.stripe_code.specs.Codes.{coding}
use Rattle.protocol.specs.Nodes.{Node, NodeStep, replied_at, with_round}
use Rattle.node.specs.declared.jobs.OpenJob.{OpenJob}
use Rattle.node.specs.declared.scrubs.OpenScrub.{OpenScrub}
use Rattle.node.specs.Jobs.{reading_in, with_reading}
use Rattle.node.specs.Scrubs.{IsScrubAside, scrub_seq, scrubbing_in, with_scrubbing}
use Rattle.node.specs.States.{StepsAs, state_in, state_with}
use Rattle.node.specs.Tasks.{IsAside, read_seq, tasks_in}
use Rattle.node.proofs.Beside.{beside, calls_apart, none_reads, replied_beside}
use Rattle.node.proofs.ScrubsBeside.{beside_scrub, calls_apart_scrub, replied_beside_scrub}
use Rattle.node.proofs.Underway.{KeepsFree, apart_so, at_call, no_parts, replied_free, same_free, same_tasks, scrub_apart_so, steps_beside, steps_beside_scrub}
use Rattle.node.proofs.Undertaken.{at_either}
use Rattle.node.proofs.tasks.Tasks.on_reply.Goals as goal
use Rattle.node.proofs.tasks.Tasks.on_reply.Goals.{After-on_reply}

pub returns-clause-step : goal.returns-clause-step
unfolding state_with
returns-clause-step c = λ kept.
    let tasks = c.args.self.now in
    let layout = c.args.layout.now in
    let from = c.args.packet.now.from in
    let call = c.args.call in
    let told = c.args.reply.now in
    let me = tasks.work.calls.me in
    let r = reading_in tasks.job in
    let s = scrubbing_in tasks.scrub in
    let node : Node = with_round (state_in kept tasks.work) told in
    let o = (state_in kept tasks.work).calls call.seq in
    let aside = apart_so tasks.job call.seq (c.reads.ensures.aside c.if-reads.false) in
    let apart = scrub_apart_so tasks.scrub call.seq (c.is_scrub.ensures.aside c.if-is_scrub.false) in
    let at = at_call layout tasks.work.calls call.seq c.requires.of.work_is.calls in
    let step = replied_at (coding layout) me c.args.now from node call told o in
    let same : replied_at (coding layout) me c.args.now from (with_round (tasks_in kept tasks) told) call told ((tasks_in kept tasks).calls call.seq)
    ≡ beside_scrub s (beside r step) =
    ap (replied_at (coding layout) me c.args.now from (with_round (tasks_in kept tasks) told) call told)
    (calls_apart_scrub s (with_reading r (state_in kept tasks.work)).calls call.seq apart ∙ calls_apart r (state_in kept tasks.work).calls call.seq aside)
    ∙ replied_beside_scrub layout me s c.args.now from (with_reading r node) call told o refl apart
    (λ job is. absurd (let never : None ≡ Some job = sym (none_reads r call.seq aside) ∙ is in cc)) at
    ∙ ap (beside_scrub s) (replied_beside layout me r c.args.now from node call told o refl refl aside at) in
    IfOk-weaker c.on_reply.result _ _
    (λ outs is. subst (λ (t : NodeStep). StepsAs me (with_scrubbing s (with_reading r (state_in kept c.on_reply.new.self))) t outs) (sym same)
    (steps_beside_scrub me s (with_reading r (state_in kept c.on_reply.new.self)) (beside r step) outs
    (steps_beside me r (state_in kept c.on_reply.new.self) step outs is)))
    (c.on_reply.ensures.step kept)

-- no operation gets the call of another
free_so : (c : After-on_reply) (seq : ℕ) → nat_eq seq c.args.call.seq ≡ false
    → KeepsFree seq (state_in no_parts c.args.self.now.work) (state_in no_parts c.on_reply.new.self)
unfolding state_with
free_so c seq other =
    let work = c.args.self.now.work in
    let reply = c.args.reply.now in
    let before : Node = state_in no_parts work in
    let node : Node = with_round before reply in
    at_either c.on_reply.result (c.on_reply.ensures.step no_parts) c.on_reply.ensures.err
    (λ outs is.
    let kept = subst (λ (n : Node). KeepsFree seq node n) (sym is.state_is)
    (replied_free c.args.layout.now work.calls.me c.args.now c.args.packet.now.from node c.args.call reply (before.calls c.args.call.seq) seq refl refl other
    (at_call c.args.layout.now work.calls c.args.call.seq c.requires.of.work_is.calls)) in
    record { later = kept.later; free = kept.free })
    (λ is. same_free seq before (state_in no_parts c.on_reply.new.self) (is no_parts))

pub returns-clause-same : goal.returns-clause-same
returns-clause-same c =
    let free = free_so (goal.at.returns-clause-same c).After-on_reply in
    let seq = c.args.call.seq in
    same_tasks c.args.layout.now c.args.self.now c.on_reply.new.self c.on_reply.ensures.same
    (λ held there. free (read_seq held) (subst (λ (job : Option OpenJob). IsAside job seq) there (c.reads.ensures.aside c.if-reads.false)))
    (λ held there. free (scrub_seq held) (subst (λ (scrub : Option OpenScrub). IsScrubAside scrub seq) there (c.is_scrub.ensures.aside c.if-is_scrub.false)))
