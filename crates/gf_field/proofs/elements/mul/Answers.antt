use Rattle.std.proofs.Common.{inl, inr, ap, sym, ◌≡◌, ◌∙◌}
use Rattle.gf_field.specs.Field.{field_mul}
use Rattle.gf_field.proofs.FieldLaws.{field_mul-zero_left, field_mul-zero_right}
use Rattle.gf_field.proofs.PowerLaws.{mul-by_exponents}
use Rattle.gf_field.proofs.elements.mul.Goals as goal

pub returns-then-a-eq0 : goal.returns-then-a-eq0
returns-then-a-eq0 c =
    elim c.then-a-eq0.either as (λ _. 0 ≡ field_mul c.args.a c.args.b) [
      | inl zero ↦ sym (ap (λ a. field_mul a c.args.b) zero ∙ field_mul-zero_left c.args.b)
      | inr zero ↦ sym (ap (field_mul c.args.a) zero.1 ∙ field_mul-zero_right c.args.a)
    ]

pub returns : goal.returns
returns c = c.power.ensures ∙ mul-by_exponents c.args.a c.args.b c.logarithm.result c.logarithm-2.result c.logarithm.ensures c.logarithm-2.ensures
