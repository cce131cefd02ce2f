use Rattle.std.proofs.Common.{◌≡◌}
use Rattle.gf_lanes.specs.Sums.{values_of}
use Rattle.gf_lanes.proofs.CombineLaws.{sum_to}
use Rattle.gf_lanes.proofs.combine.combined_byte.Given as goal

abbrev pub invariant-loop-i : goal.invariant-loop-i
invariant-loop-i l = l.sum ≡ sum_to l.i l.size (values_of l.factors) l.blocks l.place
