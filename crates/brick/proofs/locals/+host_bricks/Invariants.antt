use Rattle.std.proofs.Common.{◌-◌}
use Rattle.brick.proofs.locals.+host_bricks.Given as goal

-- the bricks that are left
abbrev pub decreases-host_bricks : goal.decreases-host_bricks
decreases-host_bricks g l = l.layout.now.bricks - l.id
