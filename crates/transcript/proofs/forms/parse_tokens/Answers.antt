-- Each token adds its happening.
use Rattle.std.proofs.Common.{◌≡◌, ◌+◌, List, drop, Some, ap, sym, subst, ◌∙◌, arith}
use Rattle.reg_model.specs.declared.marks.Happening.{Happening}
use Rattle.transcript.specs.Forms.{happenings_of_tokens}
use Rattle.transcript.proofs.Happenings.{tokens_in, onto, spelled_none_yet, spelled_none, spelled_more, spelled_all}
use Rattle.transcript.proofs.forms.parse_tokens.Goals as goal

pub loop-token-init : goal.loop-token-init
loop-token-init c = rw c.new-found.ensures.items (spelled_none_yet _)

pub returns-in_default : goal.returns-in_default
returns-in_default c =
    spelled_none _ c.args.tokens.now c.loop-token.token-index c.loop-token.found.items c.loop-token-test.true
    (sym c.parse_happening.ensures ∙ c.in_default.is) c.loop-token.invariant

pub loop-token-preserved : goal.loop-token-preserved
loop-token-preserved c =
    subst (λ (found : List Happening). onto found (happenings_of_tokens (tokens_in (drop (c.loop-token.token-index + 1) c.args.tokens.now)))
    ≡ happenings_of_tokens (tokens_in c.args.tokens.now))
    (sym c.in_ok-push.ensures.items)
    (spelled_more _ c.args.tokens.now c.loop-token.token-index c.in-Some.happening c.loop-token.found.items c.loop-token-test.true
    (sym c.parse_happening.ensures ∙ c.in-Some.is) c.loop-token.invariant)

pub returns : goal.returns
returns c =
    ap Some c.from_vec.ensures
    ∙ spelled_all _ c.args.tokens.now c.loop-token.token-index c.loop-token.found.items (omega arith) c.loop-token.invariant
