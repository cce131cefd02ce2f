use Rattle.std.proofs.Common.{◌≡◌, ◌/◌, ◌%◌, ◌^◌, cond, eqb, get_or, sym, ap, ◌∙◌}
use Rattle.std.specs.Prelude.{bit_xor}
use Rattle.std.proofs.lemmas.Nat.{and_mask}
use Rattle.std.proofs.lemmas.Bool.{cond-true, cond-false, eq-eqb, ne_eqb}
use Rattle.std.proofs.lemmas.Simd.{get_or-replicate}
use Rattle.gf_field.specs.BitPolynomials.{bits_of}
use Rattle.gf_field.specs.Field.{field_mul}
use Rattle.gf_field.proofs.Doubling.{times}
use Rattle.gf_field.proofs.FieldLaws.{mul_step, mul_start, mul_end}
use Rattle.gf_lanes.proofs.LaneLaws.{lanes-zip2, lane-lt}
use Rattle.gf_lanes.proofs.mul_lanes.Goals as goal
use Rattle.gf_lanes.proofs.mul_lanes.Goals.{then-c-i-eq1, else-c-i-eq1}

pub loop-i-init : goal.loop-i-init
loop-i-init c k l =
    ap (λ p. bit_xor p (times (bits_of 8 (c.args.c / 2 ^ 0)) (get_or c.args.v k 0))) (get_or-replicate 32 k 0 0 l)
    ∙ mul_start c.args.c (get_or c.args.v k 0) (lane-lt c.args.v c.fits-v k l)

pub loop-i-preserved : goal.loop-i-preserved
loop-i-preserved c k l =
    let bits = c.args.c / 2 ^ c.loop-i.i in
    let product = get_or c.loop-i.product k 0 in
    let power = get_or c.loop-i.power k 0 in
    let sums = lanes-zip2 bit_xor c.loop-i.product c.loop-i.power c.loop-i.auto.product.0 c.loop-i.auto.power.0 in
    let chosen : get_or c.if-c-i-eq1.product k 0 ≡ cond (eqb (bits % 2) 1) (bit_xor product power) product = elim c.if-c-i-eq1.branch [
      | then-c-i-eq1 w ↦
          ap (λ v. get_or v k 0) w.product-is ∙ sums.each k l
          ∙ sym (cond-true (eqb (bits % 2) 1) (bit_xor product power) product (eq-eqb (bits % 2) 1 (sym (and_mask bits 1) ∙ w.if-c-i-eq1.true)))
      | else-c-i-eq1 w ↦
          ap (λ v. get_or v k 0) w.product-is
          ∙ sym (cond-false (eqb (bits % 2) 1) (bit_xor product power) product (ne_eqb (bits % 2) 1 (λ e. w.if-c-i-eq1.false (and_mask bits 1 ∙ e))))
    ] in
    mul_step c.args.c (field_mul c.args.c (get_or c.args.v k 0)) c.loop-i.i product power (get_or c.if-c-i-eq1.product k 0)
    (get_or c.double_lanes-power.result k 0)
    c.loop-i-test.true (lane-lt c.loop-i.power c.loop-i.auto.power k l) chosen (c.double_lanes-power.ensures.each k l) (c.loop-i.invariant k l)

pub returns : goal.returns
returns c = record {
  long = c.loop-i.auto.product.0;
  each = λ k l.
      mul_end c.args.c (field_mul c.args.c (get_or c.args.v k 0)) c.loop-i.i (get_or c.loop-i.product k 0)
      (get_or c.loop-i.power k 0) c.loop-i-test.false (c.loop-i.invariant k l);
}
