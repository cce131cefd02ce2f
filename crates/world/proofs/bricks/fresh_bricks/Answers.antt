-- One more fresh brick; and fresh bricks are those of the first world.
use Rattle.std.proofs.Common.{◌+◌, List, sym, subst, arith}
use Rattle.world.specs.declared.bricks.Brick.{Brick}
use Rattle.world.proofs.BrickListLemmas.{AreFresh, fresh_more, shows_fresh, disks_fresh}
use Rattle.world.proofs.bricks.fresh_bricks.Goals as goal

pub loop-number-preserved : goal.loop-number-preserved
loop-number-preserved c =
    subst (λ (bricks : List Brick). AreFresh c.args.layout.now bricks (c.loop-number.number + 1)) (sym c.in_ok-push.ensures.items)
    (fresh_more c.args.layout.now c.loop-number.bricks.items c.loop-number.number _ c.loop-number.invariant c.in_ok-fresh_brick.ensures)

pub returns-clause-shows : goal.returns-clause-shows
returns-clause-shows c = shows_fresh c.args.layout.now c.loop-number.bricks.items c.loop-number.number (omega arith) c.loop-number.invariant

pub returns-clause-listed : goal.returns-clause-listed
returns-clause-listed c = disks_fresh c.args.layout.now c.loop-number.bricks.items c.loop-number.number c.loop-number.invariant
