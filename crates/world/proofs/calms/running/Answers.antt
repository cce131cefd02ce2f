-- The brick of the number runs, or it is down.
use Rattle.std.proofs.Common.{sym, ap, ◌∙◌, arith}
use Rattle.world.specs.declared.bricks.Brick.{Brick}
use Rattle.world.proofs.BrickListLemmas.{running_up, running_down}
use Rattle.world.proofs.calms.running.Goals as goal

pub returns-in-Up : goal.returns-in-Up
returns-in-Up c =
    sym (running_up c.args.bricks.now c.args.number c.index-bricks-number.result _ (omega arith) c.index-bricks-number.is
    (ap (λ (x : Brick). x.power) c.index-bricks-number.is ∙ c.in-Up.is))

pub returns-in-Down : goal.returns-in-Down
returns-in-Down c =
    sym (running_down c.args.bricks.now c.args.number c.index-bricks-number.result _ (omega arith) c.index-bricks-number.is
    (ap (λ (x : Brick). x.power) c.index-bricks-number.is ∙ c.in-Down.is))
