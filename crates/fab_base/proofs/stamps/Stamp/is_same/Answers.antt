-- The derived equality is that of the fields.
use Rattle.std.proofs.Common.{arith}
use Rattle.std.proofs.lemmas.Bool.Decides.{nat_tests}
use Rattle.fab_base.specs.Stamps.{stamp_same}
use Rattle.fab_base.proofs.stamps.Stamp.is_same.Goals as goal

pub returns : goal.returns
unfolding stamp_same
returns c = grind (arith, nat_tests, c.eq.ensures)
