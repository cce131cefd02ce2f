-- The messages are those that there were.
use Rattle.std.proofs.Common.{refl, ap}
use Rattle.world.proofs.histories.History.chain_sent.Goals as goal

pub returns : goal.returns
returns c = record {
  sent = ap (λ packets. packets.items) c.catch_up.ensures;
  reached = λ k. refl;
  marks = refl;
  reports = refl;
  operations = refl;
  marked = refl;
  calls = λ i. refl;
}
