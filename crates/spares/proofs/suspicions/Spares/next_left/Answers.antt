-- The loop goes past a brick that is not left, and stops at the first that is.
use Rattle.std.proofs.Common.{sym, ap, ◌∙◌, arith}
use Rattle.spares.specs.Suspicions.{Suspicions}
use Rattle.spares.proofs.LeftBricks.{left_from-end, left_from-found, left_from-passed}
use Rattle.spares.proofs.suspicions.Spares.next_left.Goals as goal

pub returns-then-is_left-clause-least : goal.returns-then-is_left-clause-least
returns-then-is_left-clause-least c =
    let same = ap (λ (s : Suspicions). s.bricks) c.self.view_is in
    c.loop-brick.invariant
    ∙ left_from-found c.args.self.now c.args.by c.args.members.now c.loop-brick.brick (omega (arith, same)) (sym c.is_left.ensures ∙ c.if-is_left.true)

pub loop-brick-preserved : goal.loop-brick-preserved
loop-brick-preserved c =
    let same = ap (λ (s : Suspicions). s.bricks) c.self.view_is in
    c.loop-brick.invariant
    ∙ left_from-passed c.args.self.now c.args.by c.args.members.now c.loop-brick.brick (omega (arith, same)) (sym c.is_left.ensures ∙ c.if-is_left.false)

pub returns-clause-none : goal.returns-clause-none
returns-clause-none c = λ _.
    let same = ap (λ (s : Suspicions). s.bricks) c.self.view_is in
    c.loop-brick.invariant
    ∙ left_from-end c.args.self.now c.args.by c.args.members.now c.loop-brick.brick (omega (arith, same))
