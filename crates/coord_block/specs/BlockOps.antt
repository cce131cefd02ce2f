-- An operation on one data block.
use Rattle.std.specs.Prelude.{Bool, [], ◌∷◌}
use Rattle.fab_base.specs.Stamps.{first_stamp}
use Rattle.protocol.specs.declared.phases.Phase.{Phase}
use Rattle.protocol.specs.declared.phases.Phase.TheVariants.{LooksAt, OrdersAt, Modifies, Bases}
use Rattle.coord_phase.specs.Operations.{is_among}

-- the phases of an operation on one data block: a read looks, and a write orders and modifies, or reads its base back
abbrev pub is_of_block : Phase → Bool
is_of_block = is_among (LooksAt 0 ∷ OrdersAt 0 ∷ Modifies first_stamp 0 ∷ Bases first_stamp ∷ [])
