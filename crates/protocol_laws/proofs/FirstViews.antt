-- A group that is kept by its own members is itself.
use Rattle.std.proofs.Common.{◌≡◌, Option, Some, None, refl}
use Rattle.std.specs.Option.{option_map}
use Rattle.fab_base.specs.Layouts.{Group}
use Rattle.protocol.specs.Views.{members_of, kept_by}

-- a group is kept by its members
pub own_members : (z : Option Group) → option_map (kept_by (members_of z)) z ≡ z
own_members None = refl
own_members (Some group) = refl
