use Rattle.std.proofs.Common.{◌∙◌, sym, refl}
use Rattle.lines.specs.Grammar.{two_bricks}
use Rattle.lines.proofs.Arguments.{two_words, two_bricks_count}
use Rattle.lines.proofs.forms.parse_two_bricks.Goals as goal

pub returns-then-arguments-ne2 : goal.returns-then-arguments-ne2
returns-then-arguments-ne2 c = two_bricks_count _ c.if-arguments-ne2.true

pub returns-in_err-parse_number : goal.returns-in_err-parse_number
unfolding two_bricks
returns-in_err-parse_number c =
    rw (two_words _ c.if-arguments-ne2.false, sym c.parse_number.ensures ∙ c.in_err-parse_number.was) c.from_residual.ensures

pub returns-in_err-parse_number-2 : goal.returns-in_err-parse_number-2
unfolding two_bricks
returns-in_err-parse_number-2 c =
    rw (
      two_words _ c.if-arguments-ne2.false,
      sym c.parse_number.ensures ∙ c.in_ok-parse_number.was,
      sym c.parse_number-2.ensures ∙ c.in_err-parse_number-2.was,
    )
    c.from_residual-in_err-parse_number-2.ensures

pub returns : goal.returns
unfolding two_bricks
returns c =
    rw (
      two_words _ c.if-arguments-ne2.false,
      sym c.parse_number.ensures ∙ c.in_ok-parse_number.was,
      sym c.parse_number-2.ensures ∙ c.in_ok-parse_number-2.was,
    )
    refl
