-- No client waits, and no tick was; and all that is sent can be sent.
use Rattle.std.proofs.Common.{subst}
use Rattle.layout.specs.Limits.{IsLayout}
use Rattle.node.specs.Running.{state_of}
use Rattle.serving.proofs.Spelled.{sends_all}
use Rattle.serving.proofs.servers.Server.new.Goals as goal

pub returns-clause-begins : goal.returns-clause-begins
returns-clause-begins g c = λ i. record { node = state_of c.args.node.now; waiting = c.new.ensures i; ticked = 0 }

pub returns-clause-spelled : goal.returns-clause-spelled
returns-clause-spelled g c = sends_all c.args.node.now (subst IsLayout c.layout.ensures c.of.ensures.limits)
