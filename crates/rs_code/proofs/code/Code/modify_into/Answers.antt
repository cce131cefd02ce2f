use Rattle.std.proofs.Common.{◌≤◌, length, get_or, ap, ◌∙◌, arith}
use Rattle.std.specs.Prelude.{bit_xor}
use Rattle.gf_field.specs.Field.{field_mul}
use Rattle.rs_code.proofs.StripeLaws.{HoldsBytes, IsCodedBlock-changed}
use Rattle.rs_code.proofs.code.Code.modify_into.Goals as goal

pub returns-clause-coded : goal.returns-clause-coded
returns-clause-coded c old new changes coded =
    let few : c.args.self.now.m ≤ 256 = omega (arith, c.args.self.now.few_data) in
    let small : HoldsBytes c.args.delta.now = λ n. omega (arith, c.type_inv.delta n) in
    IsCodedBlock-changed c.args.self.now.m (length c.args.block.now) c.args.j c.args.k c.args.delta.now old new c.args.block.now c.mul_add.new.dst few c.requires.changed small changes
    c.mul_add.ensures.long (λ t h. c.mul_add.ensures.each t h
    ∙ ap (λ w. bit_xor (get_or c.args.block.now t 0) (field_mul w (get_or c.args.delta.now t 0))) c.weight.ensures.formula) coded
