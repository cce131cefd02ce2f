-- Each brick is looked at.
use Rattle.std.proofs.Common.{◌≡◌, ℕ, true, false, Some, refl, sym, ◌∙◌, subst, arith}
use Rattle.std.specs.Prelude.{slice_get}
use Rattle.std.proofs.lemmas.Option.{slice_get-get_or, slice_get_within, same_Some}
use Rattle.world.specs.Shown.{NodeIsAble, running_at}
use Rattle.world.proofs.DeliveryLists.{next_place}
use Rattle.world.proofs.calms.are_able.Goals as goal

pub loop-number-init : goal.loop-number-init
loop-number-init c k less = absurd (omega arith)

pub returns-then-not-is_able : goal.returns-then-not-is_able
returns-then-not-is_able c = (
  λ on. absurd (let never : false ≡ true = on in cc),
  λ all. absurd (let never : true ≡ false =
      sym (c.is_able.ensures.1 (all c.loop-number.number-index _ (slice_get-get_or c.args.numbers.now c.loop-number.number-index 0 c.loop-number-test.true)))
      ∙ c.if-not-is_able.true in cc),
)

pub loop-number-preserved : goal.loop-number-preserved
loop-number-preserved c =
    next_place
    (λ (k : ℕ). (number : ℕ) → slice_get c.args.numbers.now k ≡ Some number → NodeIsAble c.args.layout.now c.args.group.0 c.args.view.0 (running_at c.args.bricks.now number))
    c.loop-number.number-index c.loop-number.invariant
    (λ number at. subst (λ (n : ℕ). NodeIsAble c.args.layout.now c.args.group.0 c.args.view.0 (running_at c.args.bricks.now n))
    (same_Some _ number (sym (slice_get-get_or c.args.numbers.now c.loop-number.number-index 0 c.loop-number-test.true) ∙ at))
    (c.is_able.ensures.0 c.if-not-is_able.false))

pub returns : goal.returns
returns c = (
  λ on k number at. c.loop-number.invariant k (omega (arith, slice_get_within c.args.numbers.now k number at, c.loop-number-test.false)) number at,
  λ all. refl,
)
