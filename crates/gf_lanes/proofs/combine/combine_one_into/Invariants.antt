use Rattle.std.proofs.Common.{◌≡◌, ◌*◌, length}
use Rattle.gf_lanes.specs.Sums.{IsCombinedWithin, values_of}
use Rattle.gf_lanes.proofs.combine.combine_one_into.Given as goal

abbrev pub invariant-loop-step : goal.invariant-loop-step
invariant-loop-step l = record {
  done : IsCombinedWithin 0 (l.step * 64) (values_of l.factors) l.blocks l.fn.into l.into;
  long : length l.into ≡ length l.fn.into;
}

abbrev pub invariant-loop-place : goal.invariant-loop-place
invariant-loop-place l = record {
  done : IsCombinedWithin 0 l.place (values_of l.factors) l.blocks l.fn.into l.into;
  long : length l.into ≡ length l.fn.into;
}
