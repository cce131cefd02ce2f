-- Each token adds its number.
use Rattle.std.proofs.Common.{◌≡◌, ◌+◌, ℕ, List, drop, Some, ap, sym, subst, ◌∙◌, arith}
use Rattle.lines.specs.Grammar.{numbers}
use Rattle.lines.proofs.Arguments.{words}
use Rattle.lines.proofs.BrickTokens.{onto, numbers_none_yet, numbers_none, numbers_more, numbers_all}
use Rattle.lines.proofs.forms.parse_numbers.Goals as goal

pub loop-token-init : goal.loop-token-init
loop-token-init c = rw c.new-found.ensures.items (numbers_none_yet _)

pub returns-in_default : goal.returns-in_default
returns-in_default c =
    numbers_none _ c.args.tokens.now c.loop-token.token-index c.loop-token.found.items c.loop-token-test.true
    (sym c.parse_number.ensures ∙ c.in_default.is) c.loop-token.invariant

pub loop-token-preserved : goal.loop-token-preserved
loop-token-preserved c =
    subst (λ (found : List ℕ). onto found (numbers (words (drop (c.loop-token.token-index + 1) c.args.tokens.now))) ≡ numbers (words c.args.tokens.now))
    (sym c.in_ok-push.ensures.items)
    (numbers_more _ c.args.tokens.now c.loop-token.token-index c.in-Some.number c.loop-token.found.items c.loop-token-test.true
    (sym c.parse_number.ensures ∙ c.in-Some.is) c.loop-token.invariant)

pub returns : goal.returns
returns c =
    ap Some c.from_vec.ensures
    ∙ numbers_all _ c.args.tokens.now c.loop-token.token-index c.loop-token.found.items (omega arith) c.loop-token.invariant
