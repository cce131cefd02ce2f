-- What a message makes the machine's brick do is done.
use Rattle.std.proofs.Common.{◌∙◌}
use Rattle.protocol.specs.Nodes.{received}
use Rattle.stripe_code.specs.Codes.{coding}
use Rattle.node.specs.Running.{state_of}
use Rattle.serving.specs.Ports.{ports_of}
use Rattle.serving.specs.Sending.{addressed, replies}
use Rattle.serving.specs.Views.{serving_of}
use Rattle.serving.proofs.Carried.{addressed-packets}
use Rattle.serving.proofs.Doing.{Does-stepped}
use Rattle.serving.proofs.servers.Server.hand_over.Goals as goal

pub returns-in-Ok-clause-does : goal.returns-in-Ok-clause-does
returns-in-Ok-clause-does g c =
    let node = c.args.node.now in
    let step = c.in-Ok.ensures.step in
    Does-stepped (ports_of node.layout) (serving_of c.args.self.now node) (serving_of c.reply_to-reply.new.self c.on_message.new.self)
    (received (coding node.layout) node.me c.args.now (state_of node) c.args.packet.now) _ _ _
    (addressed c.reply_to-reply.new.self.ports c.as_slice.result.now) (replies c.reply_to-reply.result) c.send_step.result step.state_is
    (c.into_parts-messages.ensures.answers ∙ step.answers) c.reply_to-reply.ensures.clients c.reply_to-reply.ensures.same.ticked
    (addressed-packets _ _ _ _ _ _ (c.reply_to-reply.ensures.same.ports ∙ c.requires.server.ports)
    (c.as_slice.ensures.value ∙ c.into_parts-messages.ensures.messages) step.packets) c.reply_to-reply.ensures.reply c.send_step.ensures.sent
    c.send_step.ensures.front c.send_step.ensures.only
