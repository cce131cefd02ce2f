-- The derived order is the order by fields.
use Rattle.std.proofs.Common.{arith}
use Rattle.std.proofs.lemmas.Bool.Decides.{nat_tests}
use Rattle.fab_base.specs.Stamps.{stamp_below}
use Rattle.fab_base.proofs.stamps.Stamp.is_below.Goals as goal

pub returns : goal.returns
unfolding stamp_below
returns c = grind (arith, nat_tests, c.lt.ensures)
