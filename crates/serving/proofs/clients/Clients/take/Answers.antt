-- A map is changed at a call's number alone.
use Rattle.std.proofs.Common.{None}
use Rattle.node.proofs.Tables.{calls_after}
use Rattle.serving.proofs.clients.Clients.take.Goals as goal

pub returns-clause-taken : goal.returns-clause-taken
returns-clause-taken c = λ i k. calls_after c.args.self.now.waiting c.remove.new.self c.args.seq None c.remove.ensures.updates.0 k i
