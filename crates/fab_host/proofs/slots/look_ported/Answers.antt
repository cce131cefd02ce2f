use Rattle.std.proofs.Common.{rules, nat_eq}
use Rattle.fab_host.proofs.Keys.{here-at, lent-at, missing-none}
use Rattle.fab_host.proofs.slots.look_ported.Goals as goal

pub returns-in-Some-thing : goal.returns-in-Some-thing
returns-in-Some-thing g c = here-at nat_eq c.args.slots.now c.args.port c.in-Some.at c.index-slots-at.result _ (search rules) (search rules)

pub returns-in-None-thing : goal.returns-in-None-thing
returns-in-None-thing g c = lent-at nat_eq c.args.slots.now c.args.port c.in-Some.at c.index-slots-at.result (search rules) (search rules)

pub returns-in-None : goal.returns-in-None
returns-in-None g c = missing-none nat_eq c.args.slots.now c.args.port (search rules)
