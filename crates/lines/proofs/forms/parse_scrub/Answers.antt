-- The brick, the group, the stripe and the members.
use Rattle.std.proofs.Common.{sym, ◌∙◌, refl}
use Rattle.lines.specs.Grammar.{scrub}
use Rattle.lines.proofs.Arguments.{scrub_none, three_and_rest}
use Rattle.lines.proofs.forms.parse_scrub.Goals as goal

pub returns-in_default : goal.returns-in_default
returns-in_default c = scrub_none _ c.in_default.len_below

pub returns-in_default-parse_number : goal.returns-in_default-parse_number
unfolding scrub
returns-in_default-parse_number c =
    rw (
      three_and_rest _ c.in-len3-up.len_at_least,
      sym c.parse_number.ensures ∙ c.in_default-parse_number.is,
    )
    refl

pub returns-in_default-parse_number-2 : goal.returns-in_default-parse_number-2
unfolding scrub
returns-in_default-parse_number-2 c =
    rw (
      three_and_rest _ c.in-len3-up.len_at_least,
      sym c.parse_number.ensures ∙ c.in-Some.is,
      sym c.parse_number-2.ensures ∙ c.in_default-parse_number-2.is,
    )
    refl

pub returns-in_default-parse_number-3 : goal.returns-in_default-parse_number-3
unfolding scrub
returns-in_default-parse_number-3 c =
    rw (
      three_and_rest _ c.in-len3-up.len_at_least,
      sym c.parse_number.ensures ∙ c.in-Some.is,
      sym c.parse_number-2.ensures ∙ c.in-Some-parse_number.is,
      sym c.parse_number-3.ensures ∙ c.in_default-parse_number-3.is,
    )
    refl

pub returns-in_default-2 : goal.returns-in_default-2
unfolding scrub
returns-in_default-2 c =
    rw (
      three_and_rest _ c.in-len3-up.len_at_least,
      sym c.parse_number.ensures ∙ c.in-Some.is,
      sym c.parse_number-2.ensures ∙ c.in-Some-parse_number.is,
      sym c.parse_number-3.ensures ∙ c.in-Some-parse_number-2.is,
      sym c.in_ok-members.ensures ∙ c.in_default-2.is,
    )
    refl

pub returns : goal.returns
unfolding scrub
returns c =
    rw (
      three_and_rest _ c.in-len3-up.len_at_least,
      sym c.parse_number.ensures ∙ c.in-Some.is,
      sym c.parse_number-2.ensures ∙ c.in-Some-parse_number.is,
      sym c.parse_number-3.ensures ∙ c.in-Some-parse_number-2.is,
      sym c.in_ok-members.ensures ∙ c.in-Some-2.is,
    )
    refl
