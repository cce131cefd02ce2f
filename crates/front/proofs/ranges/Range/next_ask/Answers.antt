use Rattle.std.proofs.Common.{ℕ, List, Option, Some, option_copied, sym, ap, ◌∙◌}
use Rattle.front.specs.Pieces.{ask_of}
use Rattle.front.proofs.PartLaws.{enough_for}
use Rattle.front.proofs.Progressing.{asks_next, asks_none, not_halted}
use Rattle.front.proofs.ranges.Range.next_ask.Goals as goal

pub returns-in_default : goal.returns-in_default
returns-in_default c =
    asks_none _ _ _ _ _ _ c.self.view_is (not_halted _ (sym c.is_some.ensures ∙ c.if-is_some.false))
    (sym c.first_piece-next.ensures.value ∙ c.in_default.is)

pub ask-requires-clause-enough : goal.ask-requires-clause-enough
ask-requires-clause-enough c = λ bytes is.
    rw c.block-block.ensures
    (enough_for _ _ _ _ _ c.in-Some.ensures.few (c.self.invariant.enough bytes (sym c.bytes.ensures ∙ is)))

pub returns : goal.returns
returns c =
    ap Some
    (c.in_ok-ask.ensures
    ∙ ap (λ (block : ℕ). ask_of block (option_copied c.bytes.result) c.self.inside.done c.in-Some.piece) c.block-block.ensures
    ∙ ap (λ (content : Option (List ℕ)). ask_of c.self.inside.layout.now.block content c.self.inside.done c.in-Some.piece)
    c.bytes.ensures)
    ∙ asks_next _ _ _ _ _ _ c.in-Some.piece c.self.view_is (not_halted _ (sym c.is_some.ensures ∙ c.if-is_some.false))
    (sym c.first_piece-next.ensures.value ∙ c.in-Some.is) c.in-Some.ensures.few
