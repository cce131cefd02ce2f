-- Each message is handled by its kind.
use Rattle.std.proofs.Common.{◌≡◌, false, Ok, refl, sym, rules}
use Rattle.node.specs.Calls.{packet_append}
use Rattle.node.specs.Running.{state_of}
use Rattle.node.proofs.Shown.{step_refused, step_still}
use Rattle.protocol.specs.Nodes.{received, requested, absorbed}
use Rattle.stripe_code.specs.Codes.{coding}
use Rattle.node.proofs.nodes.Node.on_message.Goals as goal

pub returns-then-is_halted : goal.returns-then-is_halted
returns-then-is_halted g c =
    let old = c.args.self.now in
    let change =
    step_refused g.D.Disk g.met.D.Disk.only_now (packet_append old.layout old.me (state_of old) c.args.packet.now)
    (absorbed (coding old.layout) old.me (state_of old) c.args.packet.now) old c.is_halted.ensures.stands in
    search (rules, change)

pub returns-in-Request : goal.returns-in-Request
unfolding received requested absorbed
returns-in-Request g c = search rules

pub returns-in-Learn : goal.returns-in-Learn
unfolding received requested absorbed
returns-in-Learn g c = search rules

pub returns-in-Reply : goal.returns-in-Reply
returns-in-Reply g c = search rules

pub returns-in-Synced : goal.returns-in-Synced
unfolding received requested absorbed
returns-in-Synced g c = search rules

pub returns-in-Client : goal.returns-in-Client
unfolding received requested absorbed
returns-in-Client g c =
    let old = c.args.self.now in
    let runs : old.brick.halted ≡ false = sym c.if-is_halted.ensures.value in
    let change =
    step_still g.D.Disk g.met.D.Disk.only_now old old (Unit {0}) (Ok tt) tt refl (λ image shows. shows) c.is_halted.ensures.stands runs in
    search (rules, change)
