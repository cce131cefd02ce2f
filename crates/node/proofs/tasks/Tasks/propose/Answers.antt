-- The proposal begins beside the synchronisation and the scrub.
use Rattle.std.proofs.Common.{◌∙◌, ℕ, false, Some, refl, sym, ap, subst}
use Rattle.std.proofs.lemmas.Result.{IfOk-weaker}
use Rattle.protocol.specs.Nodes.{Node, NodeStep, proposed_in}
use Rattle.stripe_code.specs.Codes.{coding}
use Rattle.node.specs.Jobs.{reading_in, with_reading}
use Rattle.node.specs.Scrubs.{scrub_seq, scrubbing_in, with_scrubbing}
use Rattle.node.specs.States.{KeptParts, StepsAs, state_in, state_with}
use Rattle.node.specs.Tasks.{read_seq}
use Rattle.node.proofs.Beside.{beside, proposed_beside}
use Rattle.node.proofs.ScrubsBeside.{beside_scrub, proposed_beside_scrub}
use Rattle.node.proofs.Underway.{KeepsFree, no_parts, same_free, same_tasks, steps_beside, steps_beside_scrub}
use Rattle.node.proofs.Undertaken.{at_either, proposed_free}
use Rattle.node.proofs.tasks.Tasks.propose.Goals as goal
use Rattle.node.proofs.tasks.Tasks.propose.Goals.{After-propose}

pub returns-clause-step : goal.returns-clause-step
returns-clause-step c = λ parts learns.
    let tasks = c.args.self.now in
    let layout = c.args.layout.now in
    let me = tasks.work.calls.me in
    let r = reading_in tasks.job in
    let s = scrubbing_in tasks.scrub in
    let node = state_in parts tasks.work in
    let after = c.propose.new.self in
    let step = proposed_in (coding layout) me node c.args.group c.args.members.now (Some c.args.kept.now) in
    IfOk-weaker c.propose.result _ _
    (λ outs is. subst (λ (t : NodeStep). StepsAs me (with_scrubbing s (with_reading r (state_in parts after))) t outs)
    (sym (proposed_beside_scrub layout me s (with_reading r node) c.args.group c.args.members.now c.args.kept.now
    ∙ ap (beside_scrub s) (proposed_beside layout me r node c.args.group c.args.members.now c.args.kept.now)))
    (steps_beside_scrub me s (with_reading r (state_in parts after)) (beside r step) outs (steps_beside me r (state_in parts after) step outs is)))
    (c.propose.ensures.step parts learns)

-- no operation gets a call
free_so : (c : After-propose) (seq : ℕ) → KeepsFree seq (state_in no_parts c.args.self.now.work) (state_in no_parts c.propose.new.self)
unfolding state_with
free_so c seq =
    let parts : KeptParts = record no_parts { learnt = λ g. record { view = c.args.view; synced = false } } in
    let node = state_in parts c.args.self.now.work in
    at_either c.propose.result (c.propose.ensures.step parts refl) c.propose.ensures.err
    (λ outs is.
    let kept = subst (λ (n : Node). KeepsFree seq node n) (sym is.state_is)
    (proposed_free c.args.layout.now c.args.self.now.work.calls.me node c.args.group c.args.members.now c.args.kept.now seq) in
    record { later = kept.later; free = kept.free })
    (λ is. same_free seq (state_in no_parts c.args.self.now.work) (state_in no_parts c.propose.new.self) (ap (state_in no_parts) is))

pub returns-clause-same : goal.returns-clause-same
returns-clause-same c =
    let free = free_so (goal.at.returns-clause-same c).After-propose in
    same_tasks c.args.layout.now c.args.self.now c.propose.new.self c.propose.ensures.same (λ held there. free (read_seq held))
    (λ held there. free (scrub_seq held))
