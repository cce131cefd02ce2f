use Rattle.std.specs.Str.{bytes_eq}
use Rattle.fab_host.proofs.Keys.{known_where_found, absent_where_not}
use Rattle.fab_host.proofs.slots.find_name.Goals as goal

pub returns-clause-known : goal.returns-clause-known
returns-clause-known g c = known_where_found bytes_eq c.args.slots.now c.args.name.now c.first_named.result c.first_named.ensures

pub returns-clause-absent : goal.returns-clause-absent
returns-clause-absent g c = absent_where_not bytes_eq c.args.slots.now c.args.name.now c.first_named.result c.first_named.ensures
