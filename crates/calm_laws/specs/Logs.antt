-- The log that a brick shows of a stripe.
use Rattle.std.specs.Prelude.{ℕ, nat_lt, ◌&&◌, if◌then◌else◌, Bool, false, List, Option, Some, None}
use Rattle.fab_base.specs.Layouts.{Layout, Group, group_of}
use Rattle.fab_base.specs.declared.identities.BrickId.{BrickId}
use Rattle.messages.specs.declared.requests.Version.{Version}
use Rattle.protocol.specs.Nodes.{view_at}
use Rattle.protocol.specs.Worlds.{World, is_up}

-- a stripe of the group
abbrev pub is_stripe : Option Group → ℕ → Bool
is_stripe None stripe = false
is_stripe (Some group) stripe = nat_lt stripe group.stripes

-- the log of a brick's part of a stripe in the view that it has learnt, where there is such a brick, it is up, and there is such a stripe
abbrev pub log_in : Layout → World → BrickId → ℕ → ℕ → Option (List Version)
log_in layout w brick group stripe =
    if is_stripe (group_of layout group) stripe && is_up layout w brick
    then Some ((w.nodes brick.0).replicas group (view_at (w.nodes brick.0) group) stripe).log else None
