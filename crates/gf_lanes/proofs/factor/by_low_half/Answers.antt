use Rattle.std.proofs.Common.{arith}
use Rattle.gf_lanes.proofs.LaneLaws.{lanes-low_half, places-ok, lanes-look_up}
use Rattle.gf_lanes.proofs.factor.by_low_half.Goals as goal

pub swizzle : goal.swizzle
swizzle c = places-ok _ _ (lanes-low_half c.args.v c.fits-v.0) (λ k l. omega arith)

pub returns : goal.returns
returns c = lanes-look_up c.args.table _ _ (lanes-low_half c.args.v c.fits-v.0) (λ k l. omega arith)
