-- Neighbours' positions do not fall.
use Rattle.std.proofs.Common.{◌≡◌, nat_le, rules}
use Rattle.std.proofs.lemmas.List.Sorted.{answers_always}
use Rattle.reg_model.specs.declared.marks.Happening.{Happening}
use Rattle.reg_model.proofs.Places.{not_falling_from_sorted}
use Rattle.reg_model.proofs.strictness.never_back.Goals as goal

pub returns : goal.returns
returns c =
    not_falling_from_sorted (λ (h : Happening). h.position) c.args.happenings.now c.is_sorted_by.result
    (c.is_sorted_by.ensures.cases (λ x y. nat_le x.position y.position)
    (answers_always _ (λ a r. r ≡ nat_le a.0.now.position a.1.0.now.position) _ (λ f a r g called. search rules)))
