use Rattle.std.proofs.Common.{◌∙◌, sym, refl}
use Rattle.lines.specs.Grammar.{write_all}
use Rattle.lines.proofs.Arguments.{four_words, write_all_count}
use Rattle.lines.proofs.forms.parse_write_all.Goals as goal

pub returns-then-arguments-ne4 : goal.returns-then-arguments-ne4
returns-then-arguments-ne4 c = write_all_count _ c.if-arguments-ne4.true

pub returns-in_default : goal.returns-in_default
unfolding write_all
returns-in_default c = rw (four_words _ c.if-arguments-ne4.false, sym c.in_ok-bytes.ensures ∙ c.in_default.is) refl

pub returns : goal.returns
unfolding write_all
returns c = rw (four_words _ c.if-arguments-ne4.false, sym c.in_ok-bytes.ensures ∙ c.in-Some.is) c.parse_invoke.ensures
