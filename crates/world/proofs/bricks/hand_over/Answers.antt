-- The brick of the number takes the message.
use Rattle.std.proofs.Common.{sym, ◌∙◌}
use Rattle.world.proofs.BrickListLemmas.{on_at, handed}
use Rattle.world.proofs.bricks.hand_over.Goals as goal

pub take_message-power-requires : goal.take_message-power-requires
take_message-power-requires c =
    on_at c.args.bricks.now.items c.args.number c.index_mut-brick.result.now _ c.index_mut-brick.ensures.value
    (sym c.replace.ensures.value ∙ c.in-Up.is) c.requires

pub unreachable-requires : goal.unreachable-requires
unreachable-requires c =
    on_at c.args.bricks.now.items c.args.number c.index_mut-brick.result.now _ c.index_mut-brick.ensures.value
    (sym c.replace.ensures.value ∙ c.in-Down.is) c.requires

pub returns-clause-handles : goal.returns-clause-handles
returns-clause-handles c =
    handed c.args.bricks.now.items c.args.number c.index_mut-brick.result.now c.in-Up.node c.take_message-power.result.0 c.args.packet.now c.args.fault
    c.take_message-power.result.1 c.requires.within c.index_mut-brick.ensures.value (sym c.replace.ensures.value ∙ c.in-Up.is)
    c.take_message-power.ensures.takes
