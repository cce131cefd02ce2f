-- A look that was interrupted left the bytes as they were, and the buffer keeps its length.
use Rattle.std.proofs.Common.{◌≡◌, length}
use Rattle.std.specs.Io.KnownBytes.{Keeps}
use Rattle.fab_io.proofs.standard.read_through_once.Given as goal

abbrev pub invariant-loop : goal.invariant-loop
invariant-loop g l =
    (length l.into ≡ length l.initial.into) × Keeps (g.R.Read.remaining l.initial.input) (g.R.Read.remaining l.input)
