use Rattle.std.proofs.Common.{ap, ◌∙◌}
use Rattle.fab_host.specs.Held.{here, at_port}
use Rattle.fab_host.specs.Slots.{ported}
use Rattle.fab_host.proofs.slots.add_ported.Goals as goal

pub returns-in-Some-clause-ok : goal.returns-in-Some-clause-ok
returns-in-Some-clause-ok g c =
    c.put_ported.ensures ∙ ap (λ l. at_port (ported l) c.args.port (here c.args.thing)) c.reserve.ensures.items

pub returns-in-None-clause-ok : goal.returns-in-None-clause-ok
returns-in-None-clause-ok g c =
    c.push_ported.ensures ∙ ap (λ l. at_port (ported l) c.args.port (here c.args.thing)) c.reserve.ensures.items
