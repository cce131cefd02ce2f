use Rattle.lines.specs.Grammar.{one_brick}
use Rattle.lines.proofs.Arguments.{one_word, one_brick_count}
use Rattle.lines.proofs.forms.parse_brick.Goals as goal

pub returns-then-arguments-ne1 : goal.returns-then-arguments-ne1
returns-then-arguments-ne1 c = one_brick_count _ c.if-arguments-ne1.true

pub returns : goal.returns
unfolding one_brick
returns c = rw (one_word _ c.if-arguments-ne1.false) c.parse_number.ensures
