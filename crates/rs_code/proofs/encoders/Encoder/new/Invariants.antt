use Rattle.std.proofs.Common.{◌≡◌, ℕ, ◌+◌, ◌*◌, ◌<◌, length, get_or}
use Rattle.gf_field.specs.Polynomials.{weight_of}
use Rattle.gf_lanes.specs.Sums.{values_of}
use Rattle.rs_code.proofs.encoders.Encoder.new.Given as goal

abbrev pub invariant-loop-place : goal.invariant-loop-place
invariant-loop-place l = record {
  long : length l.factors ≡ 256;
  done : (r j : ℕ) → l.code.m + r < l.code.n → j < l.code.m → r * l.code.m + j < l.place
      → get_or (values_of l.factors) (r * l.code.m + j) 0 ≡ weight_of l.code.m (λ i. i) j (l.code.m + r);
}
