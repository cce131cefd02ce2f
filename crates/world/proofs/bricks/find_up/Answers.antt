-- The brick of the number says whether it is up.
use Rattle.std.proofs.Common.{arith, ap, ◌∙◌}
use Rattle.world.specs.declared.bricks.Brick.{Brick}
use Rattle.world.proofs.BrickListLemmas.{found_up, running_down, running_past}
use Rattle.world.proofs.bricks.find_up.Goals as goal

pub returns-then-number-from : goal.returns-then-number-from
returns-then-number-from c = running_past c.args.bricks.now c.args.number (omega (arith, c.requires.count))

pub returns-in-Up : goal.returns-in-Up
returns-in-Up c =
    found_up c.args.layout.now c.args.bricks.now c.args.number c.index-bricks-number.result _
    (omega (arith, c.requires.count)) c.index-bricks-number.is
    (ap (λ (x : Brick). x.power) c.index-bricks-number.is ∙ c.in-Up.is) c.requires.each

pub returns-in-Down : goal.returns-in-Down
returns-in-Down c =
    running_down c.args.bricks.now c.args.number c.index-bricks-number.result _
    (omega (arith, c.requires.count)) c.index-bricks-number.is
    (ap (λ (x : Brick). x.power) c.index-bricks-number.is ∙ c.in-Down.is)
