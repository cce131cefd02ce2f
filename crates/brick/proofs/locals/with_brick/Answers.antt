use Rattle.std.proofs.Common.{◌≡◌, arith, false, [], ◌∷◌, length, length-append, sym, ap, subst}
use Rattle.brick.specs.Locals.{AreRunning}
use Rattle.brick.proofs.SameBricks.{all_more}
use Rattle.brick.proofs.locals.with_brick.Goals as goal

pub returns-clause-count : goal.returns-clause-count
returns-clause-count g c =
    let more = ap length c.add.ensures.bricks.1 in
    let long = length-append c.args.bricks.bricks (c.add.ensures.bricks.0 ∷ []) in
    omega (arith, more, long)

-- it runs, as those before it
pub returns-clause-running : goal.returns-clause-running
returns-clause-running g c =
    subst (λ bs. AreRunning bs) (sym c.add.ensures.bricks.1)
    (all_more (λ b. b.node.brick.halted ≡ false) c.args.bricks.bricks c.add.ensures.bricks.0 c.requires.running
    (subst (λ n. n.brick.halted ≡ false) (sym c.add.ensures.bricks.2.node_is) c.requires.runs))
