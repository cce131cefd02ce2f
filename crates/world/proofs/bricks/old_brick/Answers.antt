-- An old store was not opened yet.
use Rattle.std.proofs.Common.{refl}
use Rattle.world.proofs.FreshLemmas.{fresh_old}
use Rattle.world.proofs.bricks.old_brick.Goals as goal

pub returns : goal.returns
returns c =
    fresh_old c.args.layout.now c.args.me c.in_ok-disk.disk _ c.requires c.in_ok-disk.ensures.kept.0 c.in_ok-disk.ensures.kept.1
    c.in_ok-disk.ensures.empty refl refl
