-- Neighbours' positions rise.
use Rattle.std.proofs.Common.{◌≡◌, nat_lt, rules}
use Rattle.std.proofs.lemmas.List.Sorted.{answers_always}
use Rattle.reg_model.specs.Marks.{position_of}
use Rattle.reg_model.proofs.Places.{rises_from_sorted}
use Rattle.reg_model.proofs.well_formed.positions_rise.Goals as goal

pub returns : goal.returns
returns c =
    rises_from_sorted position_of c.args.marks.now c.is_sorted_by.result
    (c.is_sorted_by.ensures.cases (λ x y. nat_lt (position_of x) (position_of y))
    (answers_always _ (λ a r. r ≡ nat_lt (position_of a.0.now) (position_of a.1.0.now)) _ (λ f a r g called. search rules)))
