use Rattle.std.proofs.Common.{◌≡◌, ℕ, ◌<◌, length, get_or}
use Rattle.gf_lanes.specs.Sums.{values_of}
use Rattle.gf_lanes.proofs.combine.factors_of.Given as goal

abbrev pub invariant-loop-i : goal.invariant-loop-i
invariant-loop-i l = record {
  long : length l.factors ≡ 16;
  done : (k : ℕ) → k < l.i → get_or (values_of l.factors) k 0 ≡ get_or l.weights k 0;
}
