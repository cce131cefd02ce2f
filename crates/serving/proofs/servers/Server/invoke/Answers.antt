-- The operation that a client asks for has begun.
use Rattle.std.proofs.Common.{◌∙◌}
use Rattle.protocol.specs.Nodes.{invoked, refusal_of}
use Rattle.stripe_code.specs.Codes.{coding}
use Rattle.node.specs.Running.{state_of}
use Rattle.serving.specs.Ports.{ports_of}
use Rattle.serving.specs.Sending.{addressed}
use Rattle.serving.specs.Views.{serving_of}
use Rattle.serving.proofs.Carried.{addressed-packets}
use Rattle.serving.proofs.Doing.{Does-begun}
use Rattle.serving.proofs.servers.Server.invoke.Goals as goal

pub returns-in-Ok-clause-does : goal.returns-in-Ok-clause-does
returns-in-Ok-clause-does g c =
    let node = c.args.node.now in
    let begun = c.in-Ok.ensures.begun in
    Does-begun (ports_of node.layout) (serving_of c.args.self.now node) (serving_of c.begin.new.self c.begin.new.node) c.args.client
    (invoked (coding node.layout) node.me c.args.now (state_of node) c.args.ask.now) (refusal_of node.layout (state_of node) c.args.ask.now) _ _
    (addressed c.begin.new.self.ports c.as_slice.result.now) c.send_all.result c.in-Ok.ensures.begins begun.state_is c.in-Ok.ensures.waits
    c.in-Ok.ensures.keeps.ticked
    (addressed-packets _ _ _ _ _ _ (c.in-Ok.ensures.keeps.ports ∙ c.requires.server.ports) c.as_slice.ensures.value begun.packets)
    c.send_all.ensures.sent c.send_all.ensures.front c.send_all.ensures.only
