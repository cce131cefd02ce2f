use Rattle.std.proofs.Common.{◌≡◌, ◌+◌, ◌*◌, ◌/◌, ◌%◌, get_or, ap, ◌∙◌, arith}
use Rattle.std.specs.Prelude.{bit_xor}
use Rattle.gf_field.specs.Field.{field_mul}
use Rattle.gf_lanes.proofs.LaneLaws.{lane-lt, lanes-zip2, field_mul-halves}
use Rattle.gf_lanes.proofs.factor.Factor.times.Goals as goal

pub returns : goal.returns
returns c =
    let factor = c.args.self.now in
    let low_table = c.low_products.ensures in
    let high_table = c.high_products.ensures in
    let v = c.args.v in
    let low = c.by_low_half.ensures in
    let high = c.by_high_half.ensures in
    let sums = lanes-zip2 bit_xor c.by_low_half.result c.by_high_half.result low.long high.long in
    record {
      long = sums.long;
      each = λ k l.
          let x = get_or v k 0 in
          let byte = lane-lt v c.fits-v k l in
          let low_place : (16 * (k / 16) + x % 16) % 16 ≡ x % 16 = omega arith in
          let high_place : (16 * (k / 16) + x / 16) % 16 ≡ x / 16 = omega (arith, byte) in
          sums.each k l
          ∙ (λ t. bit_xor
          ((low.each k l ∙ low_table.each (16 * (k / 16) + x % 16) (omega arith) ∙ ap (field_mul factor.value) low_place) t)
          ((high.each k l ∙ high_table.each (16 * (k / 16) + x / 16) (omega (arith, byte)) ∙ ap (λ y. field_mul factor.value (y * 16)) high_place) t))
          ∙ field_mul-halves factor.value x;
    }
