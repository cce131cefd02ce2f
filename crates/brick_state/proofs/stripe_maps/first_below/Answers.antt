-- The first view of the run is one of those below, and where there is none, no view is.
use Rattle.std.proofs.Common.{sym, ◌∙◌, rules}
use Rattle.brick_state.proofs.ViewRuns.{run_is, head_below, head_there}
use Rattle.brick_state.proofs.stripe_maps.first_below.Goals as goal

pub returns-in-Some-clause-some : goal.returns-in-Some-clause-some
returns-in-Some-clause-some c = head_below c.args.group c.args.first c.args.views.now.entries c.next.new.self c.in-Some.key.now c.in-Some.field-0-1.now
    (run_is c.args.group c.args.first c.args.views.now.entries ∙ sym (c.range.ensures.between (search rules)) ∙ c.in-Some.ensures.steps)

pub returns-in-Some-clause-there : goal.returns-in-Some-clause-there
returns-in-Some-clause-there c = head_there c.args.group c.args.first c.args.views.now.entries c.next.new.self c.in-Some.key.now c.in-Some.field-0-1.now
    (run_is c.args.group c.args.first c.args.views.now.entries ∙ sym (c.range.ensures.between (search rules)) ∙ c.in-Some.ensures.steps)

pub returns-in-None-clause-none : goal.returns-in-None-clause-none
returns-in-None-clause-none c = run_is c.args.group c.args.first c.args.views.now.entries ∙ sym (c.range.ensures.between (search rules)) ∙ c.in-None.ensures.steps.0
