use Rattle.lines.specs.Grammar.{read_all}
use Rattle.lines.proofs.Arguments.{three_words, read_all_count}
use Rattle.lines.proofs.forms.parse_read_all.Goals as goal

pub returns-then-arguments-ne3 : goal.returns-then-arguments-ne3
returns-then-arguments-ne3 c = read_all_count _ c.if-arguments-ne3.true

pub returns : goal.returns
unfolding read_all
returns c = rw (three_words _ c.if-arguments-ne3.false) c.parse_invoke.ensures
