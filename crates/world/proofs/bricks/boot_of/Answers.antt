-- The brick of the number says how often its store was opened.
use Rattle.std.proofs.Common.{◌≡◌, get_or, Option, sym, ap, subst}
use Rattle.std.specs.Prelude.{IfSome}
use Rattle.fab_disk.specs.declared.mem_disk.MemDisk.{MemDisk}
use Rattle.node.specs.Running.{Running, state_of}
use Rattle.world.specs.declared.bricks.Brick.{Brick}
use Rattle.world.proofs.BrickListLemmas.{on_at, running_up}
use Rattle.world.proofs.bricks.boot_of.Goals as goal

pub unreachable-requires : goal.unreachable-requires
unreachable-requires c =
    on_at c.args.bricks.now c.args.number (get_or c.args.bricks.now c.args.number.0 c.index-bricks-number.result) _
    (ap (λ (x : Brick). get_or c.args.bricks.now c.args.number.0 x) c.index-bricks-number.is) c.in-Down.is c.requires

pub returns : goal.returns
returns c =
    let brick : Brick = get_or c.args.bricks.now c.args.number.0 c.index-bricks-number.result in
    subst (λ (found : Option (Running MemDisk)). IfSome found (λ node. c.boot.result ≡ (state_of node).boot))
    (sym (running_up c.args.bricks.now c.args.number.0 brick c.in-Up.node c.requires.within
    (ap (λ (x : Brick). get_or c.args.bricks.now c.args.number.0 x) c.index-bricks-number.is) c.in-Up.is)) c.boot.ensures
