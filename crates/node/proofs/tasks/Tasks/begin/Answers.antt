-- The operation begins beside the synchronisation and the scrub.
use Rattle.std.proofs.Common.{◌≤◌, ◌∙◌, ℕ, refl, sym, ap, subst}
use Rattle.std.proofs.lemmas.Result.{IfOk-weaker}
use Rattle.protocol.specs.Nodes.{Node, NodeStep, coordinator_in}
use Rattle.coord_phase.specs.Operations.{group_in_view}
use Rattle.node.specs.declared.open_work.OpenWork.{OpenWork}
use Rattle.node.specs.Jobs.{reading_in, with_reading}
use Rattle.node.specs.Scrubs.{scrub_seq, scrubbing_in, with_scrubbing}
use Rattle.node.specs.States.{BeginsAs, parts_with, state_in, state_with}
use Rattle.node.specs.Tasks.{read_seq}
use Rattle.node.proofs.Beside.{began_beside}
use Rattle.node.proofs.ScrubsBeside.{began_beside_scrub, beside_scrub}
use Rattle.node.proofs.Underway.{KeepsFree, no_parts, same_free, same_tasks, same_work}
use Rattle.node.proofs.Undertaken.{apart_next, at_either, began_free, begins_beside, begins_beside_scrub, made_before, scrub_apart_next, scrub_made_before}
use Rattle.node.proofs.tasks.Tasks.begin.Goals as goal
use Rattle.node.proofs.tasks.Tasks.begin.Goals.{After-begin}

-- the work then
abbrev work_after : After-begin → OpenWork
work_after c = record { calls = c.begin.new.self; proposals = c.args.self.now.work.proposals }

pub returns-clause-begun : goal.returns-clause-begun
unfolding state_with
returns-clause-begun c = λ kept.
    let tasks = c.args.self.now in
    let layout = c.args.layout.now in
    let me = tasks.work.calls.me in
    let view = c.args.view in
    let ask = c.args.ask.now in
    let group = group_in_view layout view.members ask.group.0 in
    let r = reading_in tasks.job in
    let s = scrubbing_in tasks.scrub in
    let node = state_in kept tasks.work in
    let after = work_after (goal.at.returns-clause-begun c).After-begin in
    IfOk-weaker c.begin.result _ _
    (λ begun is. subst (λ (step : NodeStep). BeginsAs me (with_scrubbing s (with_reading r (state_in kept after))) step begun)
    (sym (began_beside_scrub layout me s c.args.now (with_reading r node) ask group view
    (scrub_apart_next layout tasks.work.calls tasks.job tasks.scrub c.requires.of.scrub_is)
    ∙ ap (beside_scrub s) (began_beside layout me r c.args.now node ask group view (apart_next layout tasks.work.calls tasks.job c.requires.of.job_is))))
    (begins_beside_scrub me s (with_reading r (state_in kept after)) _ begun (begins_beside me r (state_in kept after) _ begun is)))
    (c.begin.ensures.begun (parts_with kept tasks.work.proposals))

-- no operation gets a call that was made before
free_so : (c : After-begin) (seq : ℕ) → seq ≤ c.args.self.now.work.calls.seq
    → KeepsFree seq (state_in no_parts c.args.self.now.work) (state_in no_parts (work_after c))
unfolding state_with
free_so c seq made =
    let calls = c.args.self.now.work.calls in
    let before : Node = state_in no_parts c.args.self.now.work in
    let after = state_in no_parts (work_after c) in
    let group = group_in_view c.args.layout.now c.args.view.members c.args.ask.now.group.0 in
    at_either c.begin.result (c.begin.ensures.begun (parts_with no_parts c.args.self.now.work.proposals)) c.begin.ensures.err
    (λ begun is. subst (λ (n : Node). KeepsFree seq before n) (sym is.state_is)
    (began_free c.args.layout.now calls.me before (coordinator_in group c.args.view calls.me c.args.now before c.args.ask.now) seq made refl))
    (λ is. same_free seq before after (is (parts_with no_parts c.args.self.now.work.proposals)))

pub returns-clause-same : goal.returns-clause-same
returns-clause-same c =
    let d = (goal.at.returns-clause-same c).After-begin in
    let of = c.requires.of in
    same_tasks c.args.layout.now c.args.self.now (work_after d)
    (same_work c.args.layout.now c.args.self.now.work c.begin.new.self c.args.self.now.work.proposals c.begin.ensures.same (λ on. on))
    (λ held there. free_so d (read_seq held) (made_before c.args.layout.now _ _ held there of.job_is))
    (λ held there. free_so d (scrub_seq held) (scrub_made_before c.args.layout.now _ _ _ held there of.scrub_is))
