-- The derived order is the order by fields.
use Rattle.std.proofs.Common.{arith}
use Rattle.std.proofs.lemmas.Bool.Decides.{nat_tests}
use Rattle.fab_base.specs.Stamps.{stamp_below}
use Rattle.fab_base.proofs.StampOrder.{stamp_below_order}
use Rattle.fab_base.proofs.stamps.Stamp.compare.Goals as goal

pub returns-clause-less : goal.returns-clause-less
unfolding stamp_below
returns-clause-less c = (λ e. grind (arith, nat_tests, c.cmp.ensures, e), λ e. grind (arith, nat_tests, c.cmp.ensures, e))

pub returns-clause-greater : goal.returns-clause-greater
unfolding stamp_below
returns-clause-greater c = (λ e. grind (arith, nat_tests, c.cmp.ensures, e), λ e. grind (arith, nat_tests, c.cmp.ensures, e))

pub returns-clause-order : goal.returns-clause-order
returns-clause-order c = stamp_below_order
