use Rattle.std.proofs.Common.{arith}
use Rattle.fab_wire.specs.Values.{call_codec}
use Rattle.fab_wire.proofs.Sizes.{call_sized, at_place}
use Rattle.fab_wire.proofs.datagrams.read_call.Goals as goal

pub returns : goal.returns
returns c = rw c.ok.ensures.value (at_place call_codec.law call_sized c.args.bytes.now c.args.at c.in_ok-rest.rest.now
    (λ i. omega (arith, c.type_inv.bytes i)) c.in_ok-rest.ensures.lookup.0.0 c.in_ok-rest.ensures.lookup.0.2 c.take_call.result c.take_call.new.from.rest.now c.take_call.ensures)
