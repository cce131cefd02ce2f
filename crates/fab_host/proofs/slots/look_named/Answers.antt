use Rattle.std.proofs.Common.{rules}
use Rattle.std.specs.Str.{bytes_eq}
use Rattle.fab_host.proofs.Keys.{here-at, lent-at, missing-none}
use Rattle.fab_host.proofs.slots.look_named.Goals as goal

pub returns-in-Some-thing : goal.returns-in-Some-thing
returns-in-Some-thing g c = here-at bytes_eq c.args.slots.now c.args.name.now c.in-Some.at c.index-slots-at.result _ (search rules) (search rules)

pub returns-in-None-thing : goal.returns-in-None-thing
returns-in-None-thing g c = lent-at bytes_eq c.args.slots.now c.args.name.now c.in-Some.at c.index-slots-at.result (search rules) (search rules)

pub returns-in-None : goal.returns-in-None
returns-in-None g c = missing-none bytes_eq c.args.slots.now c.args.name.now (search rules)
