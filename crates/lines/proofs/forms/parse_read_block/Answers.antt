use Rattle.std.proofs.Common.{◌∙◌, sym}
use Rattle.lines.specs.Grammar.{read_block}
use Rattle.lines.proofs.Arguments.{four_words, read_block_count}
use Rattle.lines.proofs.forms.parse_read_block.Goals as goal

pub returns-then-arguments-ne4 : goal.returns-then-arguments-ne4
returns-then-arguments-ne4 c = read_block_count _ c.if-arguments-ne4.true

pub returns-in_err-block : goal.returns-in_err-block
unfolding read_block
returns-in_err-block c = rw (four_words _ c.if-arguments-ne4.false, sym c.parse_number.ensures ∙ c.in_err-block.was) c.from_residual.ensures

pub returns : goal.returns
unfolding read_block
returns c = rw (four_words _ c.if-arguments-ne4.false, sym c.parse_number.ensures ∙ c.in_ok-block.was) c.parse_invoke.ensures
