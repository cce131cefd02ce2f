use Rattle.std.proofs.Common.{◌%◌, ◌∙◌, arith}
use Rattle.gf_lanes.proofs.LaneLaws.{lanes-picked}
use Rattle.gf_lanes.proofs.factor.Factor.low_products.Goals as goal

pub returns : goal.returns
returns c =
    let factor = c.args.self.now in
    let picked = lanes-picked factor.products (λ k. k % 16) factor.long (λ k l. omega arith) in
    record { long = picked.long; each = λ k l. picked.each k l ∙ factor.by_low_half (k % 16) (omega arith) }
