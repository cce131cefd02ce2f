use Rattle.std.proofs.Common.{rules, ◌≡◌, Some, ap, ◌∙◌, nat_eq}
use Rattle.fab_host.specs.Held.{at_key}
use Rattle.fab_host.specs.Slots.{held_in, under}
use Rattle.fab_host.proofs.Keys.{under_replaced, IsKnown-found, ports_exact}
use Rattle.fab_host.proofs.slots.put_ported.Goals as goal

pub unreachable-requires : goal.unreachable-requires
unreachable-requires g c = IsKnown-found nat_eq c.args.slots.now.items c.args.port (search rules) (search rules)

pub returns : goal.returns
returns g c =
    let full : c.replace.new.self ≡ Some c.args.thing = search rules in
    under_replaced nat_eq ports_exact c.args.slots.now.items c.args.port c.in-Some.at c.index_mut.result.now c.replace.new.self (search rules) (search rules)
    ∙ ap (λ t. at_key nat_eq (under nat_eq c.args.slots.now.items) c.args.port (held_in t)) full
