-- The recovery of a stripe.
use Rattle.std.specs.Prelude.{Bool, [], ◌∷◌, None}
use Rattle.fab_base.specs.Stamps.{first_stamp}
use Rattle.messages.specs.declared.turns.Turn.{Turn}
use Rattle.messages.specs.declared.turns.Turn.TheVariants.{Order, Down, Store}
use Rattle.protocol.specs.declared.phases.Phase.{Phase}
use Rattle.protocol.specs.declared.phases.Phase.TheVariants.{Recovers, Descends, LooksBack, Stores}
use Rattle.protocol.specs.Coordinators.{in_phase, restoring}
use Rattle.coord_phase.specs.Operations.{Operation, telling, is_among}
use Rattle.coord_phase.specs.declared.operations.News.TheVariants as news

-- the phases of a recovery: it looks for a version, in its view and then in the view before, and stores it
abbrev pub is_of_recovery : Phase → Bool
is_of_recovery = is_among (Recovers ∷ Descends first_stamp ∷ LooksBack None ∷ Stores ∷ [])

-- an operation, once the recovery of its stripe has begun so in the next phase of its call: where that begins with the store, it has made its version
-- already
abbrev pub entered : Operation → Turn → Operation
entered op Order = telling op (in_phase op.state Recovers) news.Nothing
entered op (Down bound) = telling op (in_phase op.state (Descends bound)) news.Nothing
entered op (Store base content) = telling op (restoring op.block op.state base content) news.Nothing
