-- what is found among the operations that are left is what is found among all
use Rattle.std.proofs.Common.{◌≡◌, drop}
use Rattle.audit.specs.Sweeps.{first_missing}
use Rattle.audit.proofs.sweeps.first_missing.Given as goal

abbrev pub invariant-loop-place : goal.invariant-loop-place
invariant-loop-place l =
    first_missing l.claims (drop l.place l.operations) (drop l.place l.happened) l.found ≡ first_missing l.claims l.operations l.happened l.initial.found
