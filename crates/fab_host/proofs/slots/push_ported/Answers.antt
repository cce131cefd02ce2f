use Rattle.std.proofs.Common.{rules, ◌≡◌, [], ◌∷◌, ◌++◌, ap, ◌∙◌, nat_eq}
use Rattle.fab_host.specs.Slots.{under}
use Rattle.fab_host.proofs.Keys.{under_push, ports_exact}
use Rattle.fab_host.proofs.slots.push_ported.Goals as goal

pub returns : goal.returns
returns g c =
    let grown : c.push.new.self.items ≡ c.args.slots.now.items ++ (record { key = c.args.key; thing = c.args.thing }) ∷ [] = search rules in
    ap (λ l. under nat_eq l) grown ∙ under_push nat_eq ports_exact c.args.slots.now.items (record { key = c.args.key; thing = c.args.thing }) c.requires.absent
