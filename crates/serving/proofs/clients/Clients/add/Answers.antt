-- A map is changed at a call's number alone.
use Rattle.std.proofs.Common.{Some}
use Rattle.node.proofs.Tables.{calls_after}
use Rattle.serving.proofs.clients.Clients.add.Goals as goal

pub returns-clause-added : goal.returns-clause-added
returns-clause-added c = λ i k. calls_after c.args.self.now.waiting c.insert.new.self c.args.seq (Some c.args.client) c.in_ok-insert.ensures.updates.0 k i
