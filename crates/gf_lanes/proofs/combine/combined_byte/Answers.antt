use Rattle.std.proofs.Common.{◌+◌, ◌*◌, get_or, sym, ◌∙◌, arith}
use Rattle.std.specs.Prelude.{bit_xor}
use Rattle.gf_field.specs.Field.{field_mul}
use Rattle.gf_lanes.specs.Sums.{values_of}
use Rattle.gf_lanes.proofs.CombineLaws.{sum_to-none, sum_to-next, value-at}
use Rattle.gf_lanes.proofs.combine.combined_byte.Goals as goal

pub loop-i-init : goal.loop-i-init
loop-i-init c = sym (sum_to-none c.args.size (values_of c.args.factors.now) c.args.blocks.now c.args.place)

pub loop-i-preserved : goal.loop-i-preserved
loop-i-preserved c =
    let i = c.loop-i.i in
    let factors = c.args.factors.now in
    let factor = c.index-factors-i.result in
    let value = value-at factors i factor factor (omega arith) c.index-factors-i.is in
    c.add-sum.ensures
    ∙ (λ t. bit_xor (c.loop-i.invariant t)
    ((c.times_byte.ensures ∙ (λ s. field_mul (value s) (get_or c.args.blocks.now (i * c.args.size + c.args.place) 0))) t))
    ∙ sym (sum_to-next i c.args.size (values_of factors) c.args.blocks.now c.args.place)
