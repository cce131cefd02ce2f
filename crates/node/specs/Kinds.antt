-- What the coordinator of an operation of a kind shows.
use Rattle.coord_phase.specs.Operations.{Operation}
use Rattle.node.specs.declared.operations.Kind.{Kind}
use Rattle.node.specs.declared.operations.Kind.TheVariants.{Stripe, Block, Recovery}

-- the operation, as the coordinators of all kinds share it
abbrev pub shown_in : Kind → Operation
shown_in (Stripe op) = op
shown_in (Block op) = op
shown_in (Recovery op) = op
