-- A number that is not above the last one does not rise, and one that is goes on from there.
use Rattle.std.proofs.Common.{ℕ, ◌+◌, List, ◌∷◌, ◌++◌, drop, refl, ◌∙◌, ap, subst}
use Rattle.std.specs.Option.{option_to_list}
use Rattle.std.specs.List.Sorted.{IsStrictlyIncreasing}
use Rattle.std.proofs.lemmas.Bool.{false≢true}
use Rattle.reg_model.specs.declared.marks.Mark.{Mark}
use Rattle.reg_model.specs.Marks.{begun_numbers}
use Rattle.reg_model.proofs.Places.{at_read_more, next_above}
use Rattle.reg_model.proofs.MarkLists.{begun_numbers-other, rises_on, rises_same}
use Rattle.reg_model.proofs.well_formed.numbers_rise.Goals as goal
use Rattle.reg_model.proofs.well_formed.numbers_rise.Goals.{in-Begin+else-not-is_above, in_default}

pub returns-then-not-is_above : goal.returns-then-not-is_above
returns-then-not-is_above c =
    let rest = drop (c.loop-mark.mark-index + 1) c.args.marks.now in
    let next = at_read_more begun_numbers c.args.marks.now c.loop-mark.mark-index c.mark-item.result c.loop-mark-test.true c.mark-item.is
    ∙ ap (λ (mark : Mark). begun_numbers (mark ∷ rest)) c.in-Begin.is in (
      λ never. absurd (false≢true never),
      λ up. c.if-not-is_above.ensures.1
          (next_above c.loop-mark.last c.in-Begin.operation (begun_numbers rest)
          (subst (λ (numbers : List ℕ). IsStrictlyIncreasing (option_to_list c.loop-mark.last ++ numbers)) next (c.loop-mark.invariant.0 up))),
    )

pub loop-mark-preserved : goal.loop-mark-preserved
loop-mark-preserved c =
    let all = begun_numbers c.args.marks.now in
    let here = begun_numbers (drop c.loop-mark.mark-index c.args.marks.now) in
    let rest = drop (c.loop-mark.mark-index + 1) c.args.marks.now in
    let next = at_read_more begun_numbers c.args.marks.now c.loop-mark.mark-index c.mark-item.result c.loop-mark-test.true c.mark-item.is in
    elim c.match-mark.branch [
      | in-Begin+else-not-is_above w ↦
          rises_on all here (begun_numbers rest) c.loop-mark.last c.match-mark.last w.in-Begin.operation c.loop-mark.invariant
          (next ∙ ap (λ (mark : Mark). begun_numbers (mark ∷ rest)) w.in-Begin.is) (w.if-not-is_above.ensures.0 refl) w.last-is
      | in_default w ↦
          rises_same all here (begun_numbers rest) c.loop-mark.last c.match-mark.last c.loop-mark.invariant
          (next ∙ begun_numbers-other c.mark-item.result rest w.in_default.not-Begin) w.last-is
    ]
