-- No client waits for a brick that begins.
use Rattle.std.proofs.Common.{refl, sym, subst}
use Rattle.serving.specs.Servings.{HasNoClient}
use Rattle.hosting.proofs.hosted_bricks.HostedBrick.new.Goals as goal

pub invariant_of-result : goal.invariant_of-result
invariant_of-result g c =
    record { knows = c.new-server.ensures.server; fresh = subst HasNoClient (sym c.new-server.ensures.begins) (λ seq above. refl) }
