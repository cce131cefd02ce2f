-- The brick of the number sends what the machine's does.
use Rattle.std.proofs.Common.{◌≡◌, get_or, Option, sym, ap, subst, arith}
use Rattle.std.specs.Prelude.{IfSome}
use Rattle.std.proofs.lemmas.Grind.{common_steps}
use Rattle.coord_phase.specs.Messages.{packets_from}
use Rattle.fab_disk.specs.declared.mem_disk.MemDisk.{MemDisk}
use Rattle.node.specs.Running.{Running, state_of}
use Rattle.protocol.specs.Nodes.{ticked}
use Rattle.stripe_code.specs.Codes.{coding}
use Rattle.world.specs.declared.bricks.Brick.{Brick}
use Rattle.world.proofs.BrickListLemmas.{on_at, running_up}
use Rattle.world.proofs.bricks.tick_brick.Goals as goal

pub memory_refused-requires : goal.memory_refused-requires
memory_refused-requires c =
    let brick : Brick = get_or c.args.bricks.now c.args.number.0 c.index-bricks-number.result in
    let on =
    on_at c.args.bricks.now c.args.number brick _
    (ap (λ (x : Brick). get_or c.args.bricks.now c.args.number.0 x) c.index-bricks-number.is)
    c.in-Up.is c.requires
    in
    let runs = on.runs in
    grind (arith, common_steps)

pub unreachable-requires : goal.unreachable-requires
unreachable-requires c =
    on_at c.args.bricks.now c.args.number (get_or c.args.bricks.now c.args.number.0 c.index-bricks-number.result) _
    (ap (λ (x : Brick). get_or c.args.bricks.now c.args.number.0 x) c.index-bricks-number.is) c.in-Down.is c.requires

pub returns-in-Ok : goal.returns-in-Ok
returns-in-Ok c =
    let brick : Brick = get_or c.args.bricks.now c.args.number.0 c.index-bricks-number.result in
    subst (λ (found : Option (Running MemDisk)). IfSome found (λ node.
    packets_from node.me c.in-Ok.messages.items ≡ ticked (coding node.layout) node.me (state_of node)))
    (sym (running_up c.args.bricks.now c.args.number.0 brick c.in-Up.node c.requires.within
    (ap (λ (x : Brick). get_or c.args.bricks.now c.args.number.0 x) c.index-bricks-number.is) c.in-Up.is)) c.in-Ok.ensures.packets
