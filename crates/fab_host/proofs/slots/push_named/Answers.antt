use Rattle.std.proofs.Common.{rules, ◌≡◌, [], ◌∷◌, ◌++◌, ap, ◌∙◌}
use Rattle.std.specs.Str.{bytes_eq}
use Rattle.fab_host.specs.Slots.{under}
use Rattle.fab_host.proofs.Keys.{under_push, names_exact}
use Rattle.fab_host.proofs.slots.push_named.Goals as goal

pub returns : goal.returns
returns g c =
    let grown : c.push.new.self.items ≡ c.args.slots.now.items ++ (record { key = c.args.key; thing = c.args.thing }) ∷ [] = search rules in
    ap (λ l. under bytes_eq l) grown ∙ under_push bytes_eq names_exact c.args.slots.now.items (record { key = c.args.key; thing = c.args.thing }) c.requires.absent
