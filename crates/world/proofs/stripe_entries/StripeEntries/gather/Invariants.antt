-- the entries so far are those of the operations so far
use Rattle.std.proofs.Common.{◌≡◌, ℕ}
use Rattle.protocol.specs.Happenings.{entries_to}
use Rattle.world.specs.Walks.{entries_at, operations_of}
use Rattle.world.proofs.stripe_entries.StripeEntries.gather.Given as goal

abbrev pub invariant-loop-place : goal.invariant-loop-place
invariant-loop-place l = (g s : ℕ) → entries_at l.gathered g s ≡ entries_to (operations_of l.operations) g s l.place
