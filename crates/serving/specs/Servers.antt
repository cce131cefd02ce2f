-- What a serving brick knows beside its node.
use Rattle.std.specs.Prelude.{◌≡◌}
use Rattle.serving.specs.declared.servers.Server.{Server}

-- all but the clients that wait is as it was
pub record KeepsAllButClients (before after : Server) : Type 0 where
  pub ports : after.ports ≡ before.ports
  pub me : after.me ≡ before.me
  pub ticked : after.ticked ≡ before.ticked
