use Rattle.std.proofs.Common.{◌∙◌, sym, refl}
use Rattle.hosting.specs.Commands.{form}
use Rattle.lines.proofs.Arguments.{four_words}
use Rattle.hosting.proofs.CommandLines.{form_count}
use Rattle.hosting.proofs.commands.parse_form.Goals as goal

pub returns-then-arguments-ne4 : goal.returns-then-arguments-ne4
returns-then-arguments-ne4 c = form_count _ _ c.if-arguments-ne4.true

pub returns-in_default : goal.returns-in_default
unfolding form
returns-in_default c =
    rw (four_words _ c.if-arguments-ne4.false, sym c.in_ok-access.ensures ∙ c.in_default.is) refl

pub returns-in_default-parse_number : goal.returns-in_default-parse_number
unfolding form
returns-in_default-parse_number c =
    rw (
      four_words _ c.if-arguments-ne4.false,
      sym c.in_ok-access.ensures ∙ c.in-Some.is,
      sym c.parse_number.ensures ∙ c.in_default-parse_number.is,
    )
    refl

pub returns-in_default-parse_number-2 : goal.returns-in_default-parse_number-2
unfolding form
returns-in_default-parse_number-2 c =
    rw (
      four_words _ c.if-arguments-ne4.false,
      sym c.in_ok-access.ensures ∙ c.in-Some.is,
      sym c.parse_number.ensures ∙ c.in-Some-parse_number.is,
      sym c.parse_number-2.ensures ∙ c.in_default-parse_number-2.is,
    )
    refl

pub returns : goal.returns
unfolding form
returns c =
    rw (
      four_words _ c.if-arguments-ne4.false,
      sym c.in_ok-access.ensures ∙ c.in-Some.is,
      sym c.parse_number.ensures ∙ c.in-Some-parse_number.is,
      sym c.parse_number-2.ensures ∙ c.in-Some-parse_number-2.is,
      c.in_ok-volume.ensures,
    )
    refl
