-- The operation and its bricks.
use Rattle.std.proofs.Common.{sym, ◌∙◌, refl}
use Rattle.lines.specs.Grammar.{calm}
use Rattle.lines.proofs.Arguments.{calm_none, first_and_rest}
use Rattle.lines.proofs.forms.parse_calm.Goals as goal

pub returns-in_default : goal.returns-in_default
returns-in_default c = calm_none _ c.in_default.len_below

pub returns-in_default-parse_number : goal.returns-in_default-parse_number
unfolding calm
returns-in_default-parse_number c = rw (first_and_rest _ c.in-len1-up.len_at_least, sym c.parse_number.ensures ∙ c.in_default-parse_number.is) refl

pub returns-in_default-2 : goal.returns-in_default-2
unfolding calm
returns-in_default-2 c =
    rw (
      first_and_rest _ c.in-len1-up.len_at_least,
      sym c.parse_number.ensures ∙ c.in-Some.is,
      sym c.in_ok-bricks.ensures ∙ c.in_default-2.is,
    )
    refl

pub returns : goal.returns
unfolding calm
returns c =
    rw (
      first_and_rest _ c.in-len1-up.len_at_least,
      sym c.parse_number.ensures ∙ c.in-Some.is,
      sym c.in_ok-bricks.ensures ∙ c.in-Some-2.is,
    )
    refl
