use Rattle.std.proofs.Common.{◌≡◌, ◌*◌, length}
use Rattle.gf_lanes.specs.Sums.{IsCombinedWithin, values_of}
use Rattle.gf_lanes.proofs.combine.combine_two_into.Given as goal

abbrev pub invariant-loop-step : goal.invariant-loop-step
invariant-loop-step l = record {
  first_done : IsCombinedWithin 0 (l.step * 32) (values_of l.first_factors) l.blocks l.fn.first l.first;
  first_long : length l.first ≡ length l.fn.first;
  second_done : IsCombinedWithin 0 (l.step * 32) (values_of l.second_factors) l.blocks l.fn.second l.second;
  second_long : length l.second ≡ length l.fn.first;
}

abbrev pub invariant-loop-place : goal.invariant-loop-place
invariant-loop-place l = record {
  first_done : IsCombinedWithin 0 l.place (values_of l.first_factors) l.blocks l.fn.first l.first;
  first_long : length l.first ≡ length l.fn.first;
  second_done : IsCombinedWithin 0 l.place (values_of l.second_factors) l.blocks l.fn.second l.second;
  second_long : length l.second ≡ length l.fn.first;
}
