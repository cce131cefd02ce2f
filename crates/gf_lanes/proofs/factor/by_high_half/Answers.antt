use Rattle.std.proofs.Common.{ℕ, ◌/◌, ◌^◌, ◌<◌, List, get_or, arith, Fits, w8, length, ◌≡◌}
use Rattle.std.specs.Simd.Lanes.{Each1}
use Rattle.gf_lanes.proofs.LaneLaws.{lane-lt, lanes-splat, places-ok, lanes-look_up}
use Rattle.gf_lanes.proofs.factor.by_high_half.Goals as goal

small : (v : List ℕ) → (length v ≡ 32) × Each1 (Fits w8) v → (k : ℕ) → k < 32 → get_or v k 0 / 16 < 16
small v fits k l = omega (arith, lane-lt v fits k l)

pub swizzle : goal.swizzle
swizzle c = places-ok _ _ (lanes-splat (λ a b. a / 2 ^ b) c.args.v 4 c.fits-v.0) (small c.args.v c.fits-v)

pub returns : goal.returns
returns c = lanes-look_up c.args.table _ _ (lanes-splat (λ a b. a / 2 ^ b) c.args.v 4 c.fits-v.0) (small c.args.v c.fits-v)
