use Rattle.std.proofs.Common.{append_assoc, arith}
use Rattle.fields.specs.Laws.{spelled-append, AllFit-append}
use Rattle.fab_wire.proofs.phases.put_request.Goals as goal

pub returns-in_ok-put_look-in-OrderRead : goal.returns-in_ok-put_look-in-OrderRead
returns-in_ok-put_look-in-OrderRead c = grind (arith, append_assoc, spelled-append, AllFit-append)
