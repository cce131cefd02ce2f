-- What the replies agree on is the version that all find.
use Rattle.std.proofs.Common.{◌≡◌, subst}
use Rattle.protocol.specs.Coordinators.{common_version}
use Rattle.coord_phase.specs.Operations.{Operation}
use Rattle.coord_phase.proofs.FastReads.{common_is}
use Rattle.coord_phase.proofs.operations.Operation.agreed.Goals as goal

pub returns-clause-value : goal.returns-clause-value
returns-clause-value c =
    subst (λ (op : Operation). c.agreed.result ≡ common_version op.state.counted) c.self.view_is (common_is _ _ c.agreed.ensures)
