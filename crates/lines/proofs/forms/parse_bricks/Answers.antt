use Rattle.std.proofs.Common.{inl, inr, ⊎_elim}
use Rattle.lines.proofs.BrickTokens.{brick_list_off, brick_list_on}
use Rattle.lines.proofs.forms.parse_bricks.Goals as goal

pub returns-then-tokens-eq0 : goal.returns-then-tokens-eq0
returns-then-tokens-eq0 c = brick_list_off _ (⊎_elim inl (λ many. inr many.1) c.then-tokens-eq0.either)

pub returns : goal.returns
returns c = rw (brick_list_on _ c.if-tokens-eq0.false c.if-tokens-gt-MOST_BRICKS.false) c.parse_numbers.ensures
