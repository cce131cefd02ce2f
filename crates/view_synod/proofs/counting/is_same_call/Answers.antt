-- The derived equality is that of the fields.
use Rattle.std.proofs.Common.{arith}
use Rattle.std.proofs.lemmas.Bool.Decides.{nat_tests}
use Rattle.protocol.specs.Coordinators.{call_same}
use Rattle.view_synod.proofs.counting.is_same_call.Goals as goal

pub returns : goal.returns
unfolding call_same
returns c = grind (arith, nat_tests, c.eq.ensures)
