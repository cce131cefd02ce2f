use Rattle.std.proofs.Common.{[], ◌∷◌, ap}
use Rattle.messages.specs.declared.clients.ClientAnswer.TheVariants.{Ended}
use Rattle.serving.specs.Sending.{addressed, replies}
use Rattle.serving.specs.Servings.{answer_to}
use Rattle.serving.proofs.Carried.{sent_both, sent_one, sent_some}
use Rattle.serving.proofs.Ends.{on_err}
use Rattle.serving.proofs.servers.Server.send_step.Goals as goal

pub returns-in_err-send_all-clause-front : goal.returns-in_err-send_all-clause-front
returns-in_err-send_all-clause-front g c =
    on_err c.from_residual.result
    (sent_some _ _ (addressed c.args.self.now.ports c.args.messages.now) (replies c.args.reply) c.in_err-send_all.ensures.front)

pub returns-in-Some-clause-sent : goal.returns-in-Some-clause-sent
returns-in-Some-clause-sent g c =
    sent_both _ _ _ (addressed c.args.self.now.ports c.args.messages.now) (replies c.args.reply)
    (answer_to c.in-Some.client (Ended c.in-Some.answer) ∷ []) c.send_answer.result (ap replies c.in-Some.is) c.in_ok-send_all.ensures.sent
    c.send_answer.ensures.sent

pub returns-in-Some-clause-front : goal.returns-in-Some-clause-front
returns-in-Some-clause-front g c =
    sent_one _ _ _ (addressed c.args.self.now.ports c.args.messages.now) (replies c.args.reply)
    (answer_to c.in-Some.client (Ended c.in-Some.answer) ∷ []) c.send_answer.result c.in_ok-send_all.ensures.sent c.send_answer.ensures.sent
