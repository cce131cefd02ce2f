-- The replies but the last are replies of the phase.
use Rattle.std.proofs.Common.{◌∙◌}
use Rattle.coord_phase.proofs.PhaseReplies.{fewer_replies}
use Rattle.coord_phase.proofs.operations.Operation.take_back.Goals as goal

pub invariant_of-self : goal.invariant_of-self
invariant_of-self c = (
  rw c.take_back.ensures.list (fewer_replies _ _ _ c.self.invariant.0),
  c.take_back.ensures.n ∙ c.self.invariant.1,
)
