use Rattle.std.proofs.Common.{◌∙◌, sym, refl}
use Rattle.lines.specs.Grammar.{start}
use Rattle.lines.proofs.Arguments.{start_none, first_and_rest}
use Rattle.lines.proofs.forms.parse_start.Goals as goal

pub returns-in_default : goal.returns-in_default
returns-in_default c = start_none _ c.in_default.len_below

pub returns-in_err-parse_number : goal.returns-in_err-parse_number
unfolding start
returns-in_err-parse_number c =
    rw (first_and_rest _ c.in-len1-up.len_at_least, sym c.parse_number.ensures ∙ c.in_err-parse_number.was) c.from_residual.ensures

pub returns-in_err-parse_fault : goal.returns-in_err-parse_fault
unfolding start
returns-in_err-parse_fault c =
    rw (
      first_and_rest _ c.in-len1-up.len_at_least,
      sym c.parse_number.ensures ∙ c.in_ok-parse_number.was,
      sym c.parse_fault.ensures ∙ c.in_err-parse_fault.was,
    )
    c.from_residual-in_err-parse_fault.ensures

pub returns : goal.returns
unfolding start
returns c =
    rw (
      first_and_rest _ c.in-len1-up.len_at_least,
      sym c.parse_number.ensures ∙ c.in_ok-parse_number.was,
      sym c.parse_fault.ensures ∙ c.in_ok-parse_fault.was,
    )
    refl
