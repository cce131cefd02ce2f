use Rattle.std.proofs.Common.{rules}
use Rattle.std.specs.Str.{bytes_eq}
use Rattle.fab_host.proofs.Keys.{TakesOut-replaced, TakesOut-none, names_exact}
use Rattle.fab_host.proofs.slots.take_named.Goals as goal

pub returns-in-Some : goal.returns-in-Some
returns-in-Some g c =
    TakesOut-replaced bytes_eq names_exact c.args.slots.now.items c.args.name.now c.in-Some.at c.index_mut.result.now _ _ (search rules) (search rules) (search rules) (search rules)

pub returns-in-None : goal.returns-in-None
returns-in-None g c = TakesOut-none bytes_eq c.args.slots.now.items c.args.name.now (search rules)
