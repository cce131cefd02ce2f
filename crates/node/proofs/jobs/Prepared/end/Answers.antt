-- As many messages are sent as the read sent.
use Rattle.std.proofs.Common.{length, ap, arith}
use Rattle.node.proofs.jobs.Prepared.end.Goals as goal

pub taken-requires-clause-few : goal.taken-requires-clause-few
taken-requires-clause-few c =
    let same = ap length c.into_parts-messages.ensures.messages in
    let few = c.requires.few in
    omega (arith, same, few, c.into_parts-messages.result.0.ok.0)
