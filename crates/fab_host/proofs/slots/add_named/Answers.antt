use Rattle.std.proofs.Common.{rules, ◌≡◌, ap, ◌∙◌}
use Rattle.fab_host.specs.Held.{here, at_name}
use Rattle.fab_host.specs.Slots.{named}
use Rattle.fab_host.proofs.slots.add_named.Goals as goal

pub returns-in-Some-clause-ok : goal.returns-in-Some-clause-ok
returns-in-Some-clause-ok g c =
    c.put_named.ensures ∙ ap (λ l. at_name (named l) c.args.name.now (here c.args.thing)) c.reserve.ensures.items

pub returns-in-None-clause-ok : goal.returns-in-None-clause-ok
returns-in-None-clause-ok g c =
    let is : c.in_ok-key.key ≡ c.args.name.now = search rules in
    c.push_named.ensures ∙ ap (λ l. at_name (named l) c.in_ok-key.key (here c.args.thing)) c.reserve.ensures.items
    ∙ ap (λ k. at_name (named c.args.slots.now.items) k (here c.args.thing)) is
