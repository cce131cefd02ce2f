use Rattle.std.proofs.Common.{◌+◌, length}
use Rattle.gf_lanes.specs.Lanes.{HasLanes}
use Rattle.gf_lanes.specs.Sums.{values_of}
use Rattle.gf_lanes.proofs.CombineLaws.{sum_to}
use Rattle.gf_lanes.proofs.combine.combine_two_step.Given as goal

abbrev pub invariant-loop-i : goal.invariant-loop-i
invariant-loop-i l = record {
  first : HasLanes l.first_sum (λ k. sum_to l.i (length l.fn.first) (values_of l.fn.first_factors) l.blocks (l.at + k));
  second : HasLanes l.second_sum (λ k. sum_to l.i (length l.fn.first) (values_of l.fn.second_factors) l.blocks (l.at + k));
}
