-- A tick sends what the brick's open operations send again.
use Rattle.std.proofs.Common.{arith}
use Rattle.stripe_code.specs.Codes.{coding}
use Rattle.serving.specs.Sending.{addressed}
use Rattle.serving.specs.Views.{serving_of}
use Rattle.serving.proofs.Carried.{addressed-packets}
use Rattle.serving.proofs.Doing.{Does-tick}
use Rattle.serving.proofs.servers.Server.wait.Goals as goal

pub returns-in-Ok-clause-does : goal.returns-in-Ok-clause-does
returns-in-Ok-clause-does g c =
    let node = c.args.node.now in
    Does-tick (coding node.layout) node.me (serving_of c.args.self.now node) c.args.now _ _ (addressed c.args.self.now.ports c.as_slice.result.now)
    c.send_all.result (omega arith)
    (addressed-packets _ _ _ _ _ _ c.requires.server.ports c.as_slice.ensures.value c.in-Ok.ensures.packets) c.send_all.ensures.sent
    c.send_all.ensures.front c.send_all.ensures.only
