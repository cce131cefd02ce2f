use Rattle.std.proofs.Common.{◌∙◌, sym, refl}
use Rattle.lines.specs.Grammar.{write_block}
use Rattle.lines.proofs.Arguments.{five_words, write_block_count}
use Rattle.lines.proofs.forms.parse_write_block.Goals as goal

pub returns-then-arguments-ne5 : goal.returns-then-arguments-ne5
returns-then-arguments-ne5 c = write_block_count _ c.if-arguments-ne5.true

pub returns-in_default : goal.returns-in_default
unfolding write_block
returns-in_default c = rw (five_words _ c.if-arguments-ne5.false, sym c.parse_number.ensures ∙ c.in_default.is) refl

pub returns-in_default-2 : goal.returns-in_default-2
unfolding write_block
returns-in_default-2 c =
    rw (
      five_words _ c.if-arguments-ne5.false,
      sym c.parse_number.ensures ∙ c.in-Some.is,
      sym c.in_ok-bytes.ensures ∙ c.in_default-2.is,
    )
    refl

pub returns : goal.returns
unfolding write_block
returns c =
    rw (
      five_words _ c.if-arguments-ne5.false,
      sym c.parse_number.ensures ∙ c.in-Some.is,
      sym c.in_ok-bytes.ensures ∙ c.in-Some-2.is,
    )
    c.parse_invoke.ensures
