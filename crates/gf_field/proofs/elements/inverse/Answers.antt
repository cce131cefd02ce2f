use Rattle.std.proofs.Common.{ap, ◌∙◌, arith}
use Rattle.gf_field.specs.Field.{field_mul}
use Rattle.gf_field.proofs.PowerLaws.{opposite-power, opposite-inverse_of}
use Rattle.gf_field.proofs.elements.inverse.Goals as goal

pub returns-clause-inverse : goal.returns-clause-inverse
returns-clause-inverse c =
    ap (field_mul c.args.a) c.power.ensures ∙ opposite-power c.args.a c.logarithm.result (omega arith) c.logarithm.ensures

pub returns-clause-power : goal.returns-clause-power
returns-clause-power c =
    c.power.ensures ∙ opposite-inverse_of c.args.a c.logarithm.result (omega arith) c.requires (omega arith) c.logarithm.ensures
