-- The read sends its phase again.
use Rattle.std.proofs.Common.{◌∙◌, ap}
use Rattle.std.proofs.lemmas.Result.{IfOk-weaker}
use Rattle.coord_phase.specs.Messages.{packets_from}
use Rattle.node.proofs.Resending.{again_is}
use Rattle.node.proofs.jobs.OpenJob.on_tick.Goals as goal

pub returns-clause-packets : goal.returns-clause-packets
returns-clause-packets c =
    IfOk-weaker c.on_tick.result _ _ (λ messages is layout me of. ap (packets_from me) is ∙ again_is layout c.args.self.now.read me of.is_operation)
    c.on_tick.ensures.messages
