-- What is left decides.
use Rattle.std.proofs.Common.{◌≡◌, drop}
use Rattle.quorum.specs.Memberships.{are_distinct}
use Rattle.quorum.proofs.memberships.are_distinct.Given as goal

abbrev pub invariant-loop-place : goal.invariant-loop-place
invariant-loop-place l = are_distinct l.bricks ≡ are_distinct (drop l.place l.bricks)
