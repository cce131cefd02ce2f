use Rattle.std.proofs.Common.{ℕ, List, ◌++◌, Ok, sym, ap, ◌∙◌, rules}
use Rattle.front.proofs.Progressing.{takes_data, takes_done, none_fits}
use Rattle.front.proofs.ranges.Range.on_end.Goals as goal

pub returns-in_default-clause-after : goal.returns-in_default-clause-after
returns-in_default-clause-after c =
    absurd (none_fits _ _ _ _ _ _ _ c.self.view_is (sym c.first_piece-next.ensures.value ∙ c.in_default.is) c.requires)

pub returns-in_ok-extend_from_slice-in-Ok-Data-clause-after :
    goal.returns-in_ok-extend_from_slice-in-Ok-Data-clause-after
returns-in_ok-extend_from_slice-in-Ok-Data-clause-after c =
    takes_data _ _ _ _ _ _ _ _ _ _ c.self.view_is c.self.invariant.over (sym c.first_piece-next.ensures.value ∙ c.in-Some.is)
    c.in-Some.ensures.few (c.in-Ok-Data.is ∙ ap Ok c.in-Ok-Data.field-0-is)
    (c.in_ok-extend_from_slice-in-Ok-Data.ensures.items ∙ ap (λ (more : List ℕ). c.self.inside.came.items ++ more) c.as_slice.ensures.value)

pub returns-in-Ok-Done-clause-after : goal.returns-in-Ok-Done-clause-after
returns-in-Ok-Done-clause-after c =
    takes_done _ _ _ _ _ _ _ _ c.self.view_is c.self.invariant.over (sym c.first_piece-next.ensures.value ∙ c.in-Some.is)
    c.in-Some.ensures.few (c.in-Ok-Done.is ∙ ap Ok c.in-Ok-Done.field-0-is)

pub returns-in_default-clause-same : goal.returns-in_default-clause-same
returns-in_default-clause-same c = search rules

pub returns-in_err-extend_from_slice-in-Ok-Data : goal.returns-in_err-extend_from_slice-in-Ok-Data
returns-in_err-extend_from_slice-in-Ok-Data c = search rules

pub returns-in_ok-extend_from_slice-in-Ok-Data-clause-same : goal.returns-in_ok-extend_from_slice-in-Ok-Data-clause-same
returns-in_ok-extend_from_slice-in-Ok-Data-clause-same c = search rules

pub returns-in-Ok-Done-clause-same : goal.returns-in-Ok-Done-clause-same
returns-in-Ok-Done-clause-same c = search rules

pub returns-in-Ok-Aborted : goal.returns-in-Ok-Aborted
returns-in-Ok-Aborted c = search rules

pub returns-in-Err : goal.returns-in-Err
returns-in-Err c = search rules
