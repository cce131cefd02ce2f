-- What was copied so far.
use Rattle.std.proofs.Common.{◌≡◌, take}
use Rattle.layout.proofs.layouts.copy_volumes.Given as goal

abbrev pub invariant-loop-volume : goal.invariant-loop-volume
invariant-loop-volume l = l.made.items ≡ take l.volume-index l.volumes
