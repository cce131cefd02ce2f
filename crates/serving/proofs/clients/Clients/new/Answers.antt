-- An empty map has no client.
use Rattle.std.proofs.Common.{ap}
use Rattle.std.specs.Map.{lookup}
use Rattle.std.specs.BTreeMap.{is_at}
use Rattle.std.specs.Ordering.{nat_cmp}
use Rattle.serving.proofs.clients.Clients.new.Goals as goal

pub returns : goal.returns
returns c = λ i seq. ap (λ es. lookup (is_at (nat_cmp seq)) es) c.new.ensures.empty i
