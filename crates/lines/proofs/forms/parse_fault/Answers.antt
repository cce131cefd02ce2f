use Rattle.std.proofs.Common.{◌∙◌, sym, refl}
use Rattle.lines.specs.Grammar.{fault}
use Rattle.lines.proofs.Arguments.{two_words, four_words, fault_nothing, fault_count}
use Rattle.lines.proofs.forms.parse_fault.Goals as goal

pub returns-in_err-parse_fail : goal.returns-in_err-parse_fail
unfolding fault
returns-in_err-parse_fail c =
    rw (two_words _ c.if-words-eq2.true, sym c.parse_fail.ensures ∙ c.in_err-parse_fail.was) c.from_residual.ensures

pub returns-then-words-eq2 : goal.returns-then-words-eq2
unfolding fault
returns-then-words-eq2 c = rw (two_words _ c.if-words-eq2.true, sym c.parse_fail.ensures ∙ c.in_ok-parse_fail.was) refl

pub returns-in_err-parse_cut : goal.returns-in_err-parse_cut
unfolding fault
returns-in_err-parse_cut c =
    rw (four_words _ c.if-words-eq4.true, sym c.parse_cut.ensures ∙ c.in_err-parse_cut.was) c.from_residual-in_err-parse_cut.ensures

pub returns-then-words-eq4 : goal.returns-then-words-eq4
unfolding fault
returns-then-words-eq4 c = rw (four_words _ c.if-words-eq4.true, sym c.parse_cut.ensures ∙ c.in_ok-parse_cut.was) refl

pub returns-then-words-eq0 : goal.returns-then-words-eq0
returns-then-words-eq0 c = fault_nothing _ c.if-words-eq0.true

pub returns-else-words-eq0 : goal.returns-else-words-eq0
returns-else-words-eq0 c = fault_count _ c.if-words-eq0.false c.if-words-eq2.false c.if-words-eq4.false
