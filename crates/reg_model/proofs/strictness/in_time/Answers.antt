-- One happening more is in time, and the happenings so far are all.
use Rattle.std.proofs.Common.{refl, subst}
use Rattle.std.specs.List.{All}
use Rattle.std.proofs.lemmas.List.{take_all}
use Rattle.std.proofs.lemmas.List.Elements.{All-more}
use Rattle.reg_model.specs.declared.marks.Happening.{Happening}
use Rattle.reg_model.specs.Marks.{life_of}
use Rattle.reg_model.specs.Strict.{IsInTime}
use Rattle.reg_model.proofs.strictness.in_time.Goals as goal

pub loop-happening-preserved : goal.loop-happening-preserved
loop-happening-preserved c =
    All-more (λ (h : Happening). IsInTime (life_of c.args.marks.now h.operation) h.position) c.args.happenings.now c.loop-happening.happening-index
    (record { operation = 0; position = 0 }) c.loop-happening-test.true c.loop-happening.invariant (c.if-not-is_in_time.ensures.0 refl)

pub returns : goal.returns
returns c = (
  λ _. subst (All (λ (h : Happening). IsInTime (life_of c.args.marks.now h.operation) h.position))
      (take_all c.loop-happening.happening-index c.args.happenings.now c.loop-happening-test.false) c.loop-happening.invariant,
  λ _. refl,
)
