use Rattle.std.proofs.Common.{◌*◌, ◌%◌, ◌^◌, cond, leb, get_or, replicate, refl, sym, ap, subst, ◌∙◌, w8}
use Rattle.std.specs.Prelude.{bit_xor}
use Rattle.std.specs.Simd.Lanes.{zip2, sel_l}
use Rattle.std.proofs.lemmas.Simd.{tops_compared, get_or-replicate}
use Rattle.gf_field.specs.Field.{field_mul}
use Rattle.gf_lanes.specs.Lanes.{HasLanes}
use Rattle.gf_lanes.proofs.LaneLaws.{lanes-zip2, lanes-select, lane-double, lane-lt}
use Rattle.gf_lanes.proofs.double_lanes.Goals as goal

pub returns : goal.returns
returns c =
    let v = c.args.v in
    let shifted = lanes-zip2 (λ x y. x * 2 ^ y % 256) v (replicate 32 1) c.fits-v.0 refl in
    let reduced = lanes-select leb (replicate 32 128) v 29 0 refl c.fits-v.0 in
    let sum = lanes-zip2 bit_xor (zip2 (λ x y. x * 2 ^ y % 256) v (replicate 32 1))
    (sel_l (zip2 leb (replicate 32 128) v) (replicate 32 29) (replicate 32 0)) shifted.long reduced.long in
    subst (λ ms. HasLanes (zip2 bit_xor (zip2 (λ x y. x * 2 ^ y % 256) v (replicate 32 1)) (sel_l ms (replicate 32 29) (replicate 32 0)))
    (λ k. field_mul 2 (get_or v k 0)))
    (sym (tops_compared w8 leb (replicate 32 128) v))
    (record {
      long = sum.long;
      each = λ k l.
          sum.each k l
          ∙ (λ t. bit_xor ((shifted.each k l ∙ ap (λ y. get_or v k 0 * 2 ^ y % 256) (get_or-replicate 32 k 1 0 l)) t)
          ((reduced.each k l ∙ ap (λ y. cond (leb y (get_or v k 0)) 29 0) (get_or-replicate 32 k 128 0 l)) t))
          ∙ lane-double (get_or v k 0) (lane-lt v c.fits-v k l);
    })
