-- It is told as it is found.
use Rattle.std.proofs.Common.{◌≡◌, true, Option, Some, None, IfOk, refl, subst, ◌∙◌}
use Rattle.messages.specs.declared.requests.Version.{Version}
use Rattle.protocol.specs.Replicas.{told_version}
use Rattle.replica.proofs.members.newest_under.Goals as goal

told_whole : (found : Option Version) → told_version true found ≡ found
told_whole None = refl
told_whole (Some version) = refl

pub returns : goal.returns
returns c =
    subst (λ (v : Option Version). IfOk c.told.result (λ found. found ≡ v)) (told_whole _ ∙ c.look_under.ensures) c.told.ensures
