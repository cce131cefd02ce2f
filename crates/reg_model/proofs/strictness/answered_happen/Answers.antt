-- An operation that begins in what was left begins at the mark, where it was looked at, or later.
use Rattle.std.proofs.Common.{◌≡◌, ℕ, ◌+◌, ◌∷◌, List, Option, IsSome, map, drop, refl, ◌∙◌, ap, subst, ⊎_elim}
use Rattle.std.specs.List.{Contains}
use Rattle.reg_model.specs.declared.marks.Happening.{Happening}
use Rattle.reg_model.specs.declared.marks.Mark.{Mark}
use Rattle.reg_model.specs.Marks.{Life, life_of}
use Rattle.reg_model.specs.Strict.{WasAnswered}
use Rattle.reg_model.proofs.Places.{at_read_more}
use Rattle.reg_model.proofs.MarkLists.{life_of-other, life_of-begin}
use Rattle.reg_model.proofs.strictness.answered_happen.Goals as goal
use Rattle.reg_model.proofs.strictness.answered_happen.Goals.{in-Begin+else-not-happens_if_answered, in_default}

pub loop-mark-preserved : goal.loop-mark-preserved
loop-mark-preserved c later =
    let marks = c.args.marks.now in
    let rest = drop (c.loop-mark.mark-index + 1) marks in
    let Happens : ℕ → Type 0 = λ n. WasAnswered (life_of marks n) → Contains (map (λ (h : Happening). h.operation) c.args.happenings.now) n in
    let Begun : Option Life → Type 0 = λ life. IsSome life in
    let next = λ (n : ℕ). at_read_more (λ (left : List Mark). life_of left n) marks c.loop-mark.mark-index c.mark-item.result c.loop-mark-test.true c.mark-item.is in
    c.loop-mark.invariant
    (λ n begun. elim c.match-mark.branch [
      | in-Begin+else-not-happens_if_answered w ↦
          (let at_mark = subst Begun (next n ∙ ap (λ (mark : Mark). life_of (mark ∷ rest) n) w.in-Begin.is) begun in
          ⊎_elim
          (λ (here : w.in-Begin.operation ≡ n). subst Happens here (w.if-not-happens_if_answered.ensures.0 refl))
          (λ (behind : IsSome (life_of rest n)). later n behind)
          (life_of-begin w.in-Begin.position w.in-Begin.operation w.in-Begin.brick w.in-Begin.ask rest n at_mark))
      | in_default w ↦ later n (subst Begun (next n ∙ life_of-other c.mark-item.result rest n w.in_default.not-Begin) begun)
    ])
