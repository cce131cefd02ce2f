-- The line was drawn by how many messages were sent.
use Rattle.std.proofs.Common.{List, length, ap}
use Rattle.messages.specs.declared.packets.Packet.{Packet}
use Rattle.replay.proofs.DrawnSteps.{runs_drawn}
use Rattle.replay.proofs.makes.run_next.Goals as goal

pub returns-in-Ok : goal.returns-in-Ok
returns-in-Ok c =
    runs_drawn c.args.world.now c.run_line.new.self c.args.maker.now c.draw_line.new.self _ c.in_ok-line.line
    (ap (λ (l : List Packet). length l) c.sent.ensures) c.in_ok-line.ensures.drawn c.in_ok-line.ensures.spelt c.in-Ok.ensures.ok
