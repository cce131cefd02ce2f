-- An operation on a whole stripe.
use Rattle.std.specs.Prelude.{Bool, [], ◌∷◌}
use Rattle.protocol.specs.declared.phases.Phase.{Phase}
use Rattle.protocol.specs.declared.phases.Phase.TheVariants.{Looks, Orders, Stores}
use Rattle.coord_phase.specs.Operations.{is_among}

-- the phases of an operation on a whole stripe: a read looks, and a write orders and stores
abbrev pub is_of_stripe : Phase → Bool
is_of_stripe = is_among (Looks ∷ Orders ∷ Stores ∷ [])
