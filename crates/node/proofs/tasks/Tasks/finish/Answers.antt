-- What is still to be done is the machine's, beside the synchronisation or of it.
use Rattle.std.proofs.Common.{None, refl, sym, subst}
use Rattle.node.specs.declared.tasks.TaskTurn.{TaskTurn}
use Rattle.node.specs.declared.tasks.Tasks.{Tasks}
use Rattle.node.specs.Jobs.{FollowsFrom}
use Rattle.node.specs.States.{StepsAs}
use Rattle.node.specs.Tasks.{IsTaskTurn, step_on, tasks_in}
use Rattle.node.proofs.Turning.{same_ended, same_then, turn_apart, turn_free, turn_same, turn_steps}
use Rattle.node.proofs.Underway.{no_parts}
use Rattle.node.proofs.tasks.Tasks.finish.Goals as goal

pub returns-in-Work-clause-step : goal.returns-in-Work-clause-step
returns-in-Work-clause-step c = λ layout now from call reply before seq is kept.
    let mid = c.args.self.now in
    let turn_is = subst (λ (turn : TaskTurn). IsTaskTurn layout now from call reply before turn mid) c.in-Work.is is in
    turn_steps layout now from call reply before turn_is.3 turn_is.4 turn_is.5 kept c.finish.new.self mid.job mid.scrub c.finish.result turn_is.1 turn_is.2
    (c.finish.ensures.step layout now from call reply before.work seq turn_is.0 kept)

pub returns-in-Work-clause-same : goal.returns-in-Work-clause-same
returns-in-Work-clause-same c = λ layout now from call reply before seq is first.
    let turn_is = subst (λ (turn : TaskTurn). IsTaskTurn layout now from call reply before turn c.args.self.now) c.in-Work.is is in
    let steps = c.finish.ensures.step layout now from call reply before.work seq turn_is.0 no_parts in
    turn_same layout before c.args.self.now c.finish.new.self first turn_is.1 turn_is.2 (c.finish.ensures.same layout from call reply before.work turn_is.0)
    (turn_free layout now from call reply before turn_is.3 turn_is.4 turn_is.5 c.finish.new.self c.finish.result steps)
    (turn_apart layout now from call reply before turn_is.3 turn_is.4 turn_is.5 c.finish.new.self c.finish.result steps)

pub returns-in-Follows-clause-same : goal.returns-in-Follows-clause-same
returns-in-Follows-clause-same c = λ layout now from call reply before seq is first.
    let turn_is = subst (λ (turn : TaskTurn). IsTaskTurn layout now from call reply before turn c.args.self.now) c.in-Follows.is is in
    let ended = same_ended layout c.args.self.now c.args.self.now.work (record { me = refl; boot = refl; of = λ of. of }) (λ of. of.scrub_is) in
    same_then layout before (record c.args.self.now { job = None }) c.take_up.new.self (same_then layout before c.args.self.now _ first ended)
    (c.take_up.ensures.same layout (subst (λ (t : Tasks). FollowsFrom layout t.work.calls.seq c.in-Follows.group c.in-Follows.next) (sym turn_is.0) turn_is.2))

pub returns-in-EndsScrub-clause-step : goal.returns-in-EndsScrub-clause-step
returns-in-EndsScrub-clause-step c = λ layout now from call reply before seq is kept.
    let mid = c.args.self.now in
    let turn_is = subst (λ (turn : TaskTurn). IsTaskTurn layout now from call reply before turn mid) c.in-EndsScrub.is is in
    subst (λ (t : Tasks). StepsAs before.work.calls.me (tasks_in kept (record t { scrub = None })) (step_on layout now from call reply before kept) c.in-EndsScrub.outs)
    (sym turn_is.0) (turn_is.1 kept)

pub returns-in-EndsScrub-clause-same : goal.returns-in-EndsScrub-clause-same
returns-in-EndsScrub-clause-same c = λ layout now from call reply before seq is first.
    record {
      me = first.me;
      boot = first.boot;
      of = λ of. let mid_is = first.of of in record { work_is = mid_is.work_is; job_is = mid_is.job_is; scrub_is = tt };
    }
