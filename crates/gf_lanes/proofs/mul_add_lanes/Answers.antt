use Rattle.std.proofs.Common.{◌≡◌, ℕ, ◌+◌, ◌-◌, length, get_or, ap, subst, ◌∙◌, arith}
use Rattle.std.specs.Prelude.{bit_xor}
use Rattle.std.specs.Simd.Lanes.{zip2, chunk, put_chunk}
use Rattle.std.proofs.lemmas.Simd.{length-chunk, get_or-chunk, get_or-put_chunk_at, get_or-put_chunk_below, get_or-put_chunk_above}
use Rattle.gf_field.specs.Field.{field_mul}
use Rattle.gf_lanes.proofs.LaneLaws.{lanes-zip2}
use Rattle.gf_lanes.proofs.mul_add_lanes.Goals as goal

pub returns : goal.returns
returns c =
    let at = c.args.at in
    let dst = c.args.dst.now in
    let src = c.args.src.now in
    let product = c.times-product.result in
    let sums = lanes-zip2 bit_xor (chunk at 32 dst) product (length-chunk at 32 dst c.requires.dst_room) c.times-product.ensures.long in
    let sum = zip2 bit_xor (chunk at 32 dst) product in
    let long : length (zip2 bit_xor (chunk c.args.at 32 c.args.dst.now) c.times-product.result) ≡ 32 = sums.long in
    record {
      each = λ k low high.
          let place : at + (k - at) ≡ k = omega arith in
          subst (λ (n : ℕ). get_or (put_chunk at dst sum) n 0 ≡ bit_xor (get_or dst n 0) (field_mul c.args.factor.now.value (get_or src n 0))) place
          (get_or-put_chunk_at at dst sum (k - at) 0 (omega arith) (omega arith) ∙ sums.each (k - at) (omega arith)
          ∙ (λ t. bit_xor (get_or-chunk at 32 dst (k - at) 0 (omega arith) t)
          ((c.times-product.ensures.each (k - at) (omega arith) ∙ ap (field_mul c.args.factor.now.value) (get_or-chunk at 32 src (k - at) 0 (omega arith))) t)));
      below = λ k low. get_or-put_chunk_below at dst sum k 0 low;
      above = λ k high. get_or-put_chunk_above at dst sum k 0 (omega arith);
    }
