use Rattle.std.proofs.Common.{arith}
use Rattle.fields.specs.Values.{ballot_codec}
use Rattle.fab_wire.proofs.Sizes.{ballot_sized, at_place}
use Rattle.fab_wire.proofs.datagrams.read_ballot.Goals as goal

pub returns : goal.returns
returns c = rw c.ok.ensures.value (at_place ballot_codec.law ballot_sized c.args.bytes.now c.args.at c.in_ok-rest.rest.now
    (λ i. omega (arith, c.type_inv.bytes i)) c.in_ok-rest.ensures.lookup.0.0 c.in_ok-rest.ensures.lookup.0.2 c.take.result c.take.new.from.rest.now c.take.ensures)
