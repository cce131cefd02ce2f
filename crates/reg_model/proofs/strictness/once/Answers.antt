-- A happening whose operation stands before it is one too many, and without one all are apart.
use Rattle.std.proofs.Common.{List, map, get_or, refl, sym, subst}
use Rattle.std.specs.List.{Contains}
use Rattle.std.proofs.lemmas.Bool.{false≢true}
use Rattle.reg_model.specs.declared.marks.Happening.{Happening}
use Rattle.reg_model.proofs.Places.{twice, apart_more, apart_all}
use Rattle.reg_model.proofs.strictness.once.Goals as goal

pub returns-then-has_happened : goal.returns-then-has_happened
returns-then-has_happened c =
    let here = c.if-has_happened.ensures.0 refl in
    let before = subst (λ (hs : List Happening). Contains (map (λ (h : Happening). h.operation) hs)
    (get_or c.args.happenings.now c.loop-i.i (record { operation = 0; position = 0 })).operation)
    c.split_at.ensures.front here in (
      λ never. absurd (false≢true never),
      λ distinct. absurd (twice (λ (h : Happening). h.operation) c.args.happenings.now c.loop-i.i
          (record { operation = 0; position = 0 }) c.loop-i-test.true before distinct),
    )

pub loop-i-preserved : goal.loop-i-preserved
loop-i-preserved c =
    apart_more (λ (h : Happening). h.operation) c.args.happenings.now c.loop-i.i (record { operation = 0; position = 0 }) c.loop-i-test.true
    (λ before. false≢true (c.if-has_happened.ensures.1
    (subst (λ (hs : List Happening). Contains (map (λ (h : Happening). h.operation) hs)
    (get_or c.args.happenings.now c.loop-i.i (record { operation = 0; position = 0 })).operation)
    (sym c.split_at.ensures.front) before)))
    c.loop-i.invariant

pub returns : goal.returns
returns c =
    (λ _. apart_all (λ (h : Happening). h.operation) c.args.happenings.now c.loop-i.i c.loop-i-test.false c.loop-i.invariant, λ _. refl)
