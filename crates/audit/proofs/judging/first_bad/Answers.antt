-- The first stripe that is found among the lines and the operations.
use Rattle.std.proofs.Common.{ℕ, length, Option, ap, ◌∙◌, subst}
use Rattle.audit.specs.Sweeps.{LinesStop, none_happened}
use Rattle.audit.proofs.Bad.{room, none_bad, some_bad}
use Rattle.audit.proofs.judging.first_bad.Goals as goal

pub first_missing-requires : goal.first_missing-requires
first_missing-requires c = ap length c.as_slice.ensures.value ∙ room c.in_ok-happened-in-None.happened.items (length c.as_slice-operations.result.now) c.args.lines.now c.in_ok-happened-in-None.ensures

pub first_missing-requires-in-Some : goal.first_missing-requires-in-Some
first_missing-requires-in-Some c = ap length c.as_slice-in-Some.ensures.value ∙ room c.in_ok-happened-in-Some.happened.items (length c.as_slice-operations.result.now) c.front.result.now c.in_ok-happened-in-Some.ensures

pub returns-in_ok-happened-in-None : goal.returns-in_ok-happened-in-None
returns-in_ok-happened-in-None c =
    none_bad c.args.layout.now c.args.claims.now c.args.review.now c.args.lines.now c.as_slice-operations.result.now c.as_slice.result.now
    c.first_missing.result c.requires.review c.requires.rise c.as_slice-operations.ensures (c.as_slice.ensures.value ∙ c.in_ok-happened-in-None.ensures)
    (subst (λ (s : Option ℕ). LinesStop c.args.layout.now c.args.claims.now c.args.review.now (none_happened (length c.args.review.now.operations.found))
    c.args.lines.now s) c.in-None.is c.in_ok-first_stop.ensures)
    c.first_missing.ensures

pub returns-in_ok-happened-in-Some : goal.returns-in_ok-happened-in-Some
returns-in_ok-happened-in-Some c =
    some_bad c.args.layout.now c.args.claims.now c.args.review.now c.args.lines.now c.front.result.now c.as_slice-operations.result.now
    c.as_slice-in-Some.result.now c.in-Some.place c.name_at-stop.result c.first_missing-in-Some.result c.requires.review c.requires.rise
    c.as_slice-operations.ensures c.front.ensures (c.as_slice-in-Some.ensures.value ∙ c.in_ok-happened-in-Some.ensures) c.name_at-stop.ensures
    (subst (λ (s : Option ℕ). LinesStop c.args.layout.now c.args.claims.now c.args.review.now (none_happened (length c.args.review.now.operations.found))
    c.args.lines.now s) c.in-Some.is c.in_ok-first_stop.ensures)
    c.first_missing-in-Some.ensures
