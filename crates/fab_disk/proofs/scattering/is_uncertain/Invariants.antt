use Rattle.std.proofs.Common.{◌≡◌, [], length, reverse}
use Rattle.fab_disk.specs.Past.{past_of}
use Rattle.fab_disk.specs.Settled.{is_uncertain}
use Rattle.fab_disk.proofs.scattering.is_uncertain.Given as goal

abbrev pub invariant-loop-step : goal.invariant-loop-step
invariant-loop-step l = is_uncertain (past_of (reverse l.newer) []) l.end l.place ≡ is_uncertain (past_of (reverse l.steps) []) l.size l.place

abbrev pub decreases-loop-step : goal.decreases-loop-step
decreases-loop-step l = length l.newer
