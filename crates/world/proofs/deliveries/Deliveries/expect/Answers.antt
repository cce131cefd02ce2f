-- A note that no message was delivered is as no note.
use Rattle.std.proofs.Common.{false, List, Bool, get_or, refl, ap, ◌∙◌, arith}
use Rattle.world.proofs.DeliveryLists.{padded}
use Rattle.world.proofs.deliveries.Deliveries.expect.Goals as goal

pub loop-self-init : goal.loop-self-init
loop-self-init c = λ k. refl

pub loop-self-smaller : goal.loop-self-smaller
loop-self-smaller c = omega (arith, c.in_ok-push.ensures.len, c.len.ensures, c.loop-self-test.true)

pub loop-self-preserved : goal.loop-self-preserved
loop-self-preserved c k = ap (λ (l : List Bool). get_or l k false) c.in_ok-push.ensures.items ∙ padded c.loop-self.self.reached.items k ∙ c.loop-self.invariant k

pub returns-in_err-push-clause-same : goal.returns-in_err-push-clause-same
returns-in_err-push-clause-same c k = ap (λ (l : List Bool). get_or l k false) c.in_err-push.ensures.items ∙ c.loop-self.invariant k

pub returns-clause-same : goal.returns-clause-same
returns-clause-same c = c.loop-self.invariant
