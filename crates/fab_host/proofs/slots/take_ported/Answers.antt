use Rattle.std.proofs.Common.{rules, nat_eq}
use Rattle.fab_host.proofs.Keys.{TakesOut-replaced, TakesOut-none, ports_exact}
use Rattle.fab_host.proofs.slots.take_ported.Goals as goal

pub returns-in-Some : goal.returns-in-Some
returns-in-Some g c =
    TakesOut-replaced nat_eq ports_exact c.args.slots.now.items c.args.port c.in-Some.at c.index_mut.result.now _ _ (search rules) (search rules) (search rules) (search rules)

pub returns-in-None : goal.returns-in-None
returns-in-None g c = TakesOut-none nat_eq c.args.slots.now.items c.args.port (search rules)
