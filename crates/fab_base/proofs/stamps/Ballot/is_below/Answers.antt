-- The derived order is the order by fields.
use Rattle.std.proofs.Common.{arith}
use Rattle.std.proofs.lemmas.Bool.Decides.{nat_tests}
use Rattle.fab_base.specs.Stamps.{ballot_below}
use Rattle.fab_base.proofs.StampOrder.{ballot_below_order}
use Rattle.fab_base.proofs.stamps.Ballot.is_below.Goals as goal

pub returns-clause-value : goal.returns-clause-value
unfolding ballot_below
returns-clause-value c = grind (arith, nat_tests, c.lt.ensures)

pub returns-clause-order : goal.returns-clause-order
returns-clause-order c = ballot_below_order
