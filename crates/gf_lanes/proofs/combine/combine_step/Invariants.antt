use Rattle.std.proofs.Common.{◌+◌, length}
use Rattle.gf_lanes.specs.Lanes.{HasLanes}
use Rattle.gf_lanes.specs.Sums.{values_of}
use Rattle.gf_lanes.proofs.CombineLaws.{sum_to}
use Rattle.gf_lanes.proofs.combine.combine_step.Given as goal

abbrev pub invariant-loop-i : goal.invariant-loop-i
invariant-loop-i l = record {
  first : HasLanes l.first (λ k. sum_to l.i (length l.fn.into) (values_of l.fn.factors) l.blocks (l.at + k));
  second : HasLanes l.second (λ k. sum_to l.i (length l.fn.into) (values_of l.fn.factors) l.blocks (l.at + 32 + k));
}
