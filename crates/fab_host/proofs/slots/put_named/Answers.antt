use Rattle.std.proofs.Common.{rules, ◌≡◌, Some, ap, ◌∙◌}
use Rattle.std.specs.Str.{bytes_eq}
use Rattle.fab_host.specs.Held.{at_key}
use Rattle.fab_host.specs.Slots.{held_in, under}
use Rattle.fab_host.proofs.Keys.{under_replaced, IsKnown-found, names_exact}
use Rattle.fab_host.proofs.slots.put_named.Goals as goal

pub unreachable-requires : goal.unreachable-requires
unreachable-requires g c = IsKnown-found bytes_eq c.args.slots.now.items c.args.name.now (search rules) (search rules)

pub returns : goal.returns
returns g c =
    let full : c.replace.new.self ≡ Some c.args.thing = search rules in
    under_replaced bytes_eq names_exact c.args.slots.now.items c.args.name.now c.in-Some.at c.index_mut.result.now c.replace.new.self (search rules) (search rules)
    ∙ ap (λ t. at_key bytes_eq (under bytes_eq c.args.slots.now.items) c.args.name.now (held_in t)) full
