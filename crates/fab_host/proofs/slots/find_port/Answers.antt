use Rattle.std.proofs.Common.{nat_eq}
use Rattle.fab_host.proofs.Keys.{known_where_found, absent_where_not}
use Rattle.fab_host.proofs.slots.find_port.Goals as goal

pub returns-clause-known : goal.returns-clause-known
returns-clause-known g c = known_where_found nat_eq c.args.slots.now c.args.port c.first_ported.result c.first_ported.ensures

pub returns-clause-absent : goal.returns-clause-absent
returns-clause-absent g c = absent_where_not nat_eq c.args.slots.now c.args.port c.first_ported.result c.first_ported.ensures
