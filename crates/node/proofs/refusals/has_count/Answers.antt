-- The bytes of a slice are bytes.
use Rattle.std.proofs.Common.{◌&&◌, nat_eq, length, sym, ap}
use Rattle.node.proofs.ByteLists.{are_bytes-fits}
use Rattle.node.proofs.refusals.has_count.Goals as goal

pub returns : goal.returns
returns c = ap (λ b. b && nat_eq (length c.args.bytes.now) c.args.count) (sym (are_bytes-fits c.args.bytes.now c.type_inv.bytes))
