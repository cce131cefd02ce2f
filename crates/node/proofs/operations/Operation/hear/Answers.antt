-- A recovery asks for no other.
use Rattle.std.proofs.lemmas.Result.{IfOk-weaker}
use Rattle.node.proofs.Answered.{never_asks}
use Rattle.node.proofs.operations.Operation.hear.Goals as goal

pub returns-in-Recovery-clause-recovery : goal.returns-in-Recovery-clause-recovery
returns-in-Recovery-clause-recovery c =
    IfOk-weaker c.on_reply-in-Recovery.result _ _ (λ next is. never_asks _ _ next _ _ _ _ is) c.on_reply-in-Recovery.ensures.recovery
