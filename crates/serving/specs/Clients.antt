-- The clients that wait.
use Rattle.std.specs.Prelude.{ℕ, Option}
use Rattle.std.specs.BTreeMap.{get}
use Rattle.std.specs.Ordering.{nat_cmp}
use Rattle.serving.specs.declared.clients.Client.{Client}
use Rattle.serving.specs.declared.clients.Clients.{Clients}

-- the client that waits for a call, if one does
abbrev pub waiting_in : Clients → ℕ → Option Client
waiting_in clients seq = get nat_cmp clients.waiting seq
