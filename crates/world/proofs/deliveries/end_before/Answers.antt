-- The message is the operation's, and its link leads to the one before it.
use Rattle.std.proofs.Common.{Some, ap, sym, ◌∙◌}
use Rattle.std.proofs.lemmas.Option.{slice_get-get_or}
use Rattle.world.proofs.ChainWalks.{of_call}
use Rattle.world.proofs.deliveries.end_before.Goals as goal

pub returns-then-is_of-clause-between : goal.returns-then-is_of-clause-between
returns-then-is_of-clause-between c =
    c.end_before.ensures.between (c.args.operation.brick.0, c.args.operation.boot, c.args.operation.seq) c.index.result.now
    (slice_get-get_or c.args.sent.now.packets.items c.args.place c.index.result.now c.requires ∙ ap Some (sym c.index.ensures))
    (of_call c.args.operation.brick.0 c.args.operation.boot c.args.operation.seq c.index.result.now (sym c.is_of.ensures ∙ c.if-is_of.true))
