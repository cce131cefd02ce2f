use Rattle.std.proofs.Common.{◌≡◌, ℕ, ◌+◌, ◌*◌, ◌<◌, true, eqb, get_or, refl, ap, ◌∙◌, arith}
use Rattle.std.proofs.lemmas.Bool.{agree_below_at, eqb-true}
use Rattle.gf_field.specs.Field.{field_mul}
use Rattle.gf_lanes.specs.declared.factor.TheConstants.{HALVES}
use Rattle.gf_lanes.proofs.factor.Factor.new.Goals as goal

low_halves : (k : ℕ) → k < 16 → get_or HALVES k 0 ≡ k
low_halves k l = eqb-true _ _ (agree_below_at (λ k. eqb (get_or HALVES k 0) k) (λ _. true) 16 k refl l)

high_halves : (k : ℕ) → k < 16 → get_or HALVES (16 + k) 0 ≡ k * 16
high_halves k l = eqb-true _ _ (agree_below_at (λ k. eqb (get_or HALVES (16 + k) 0) (k * 16)) (λ _. true) 16 k refl l)

pub invariant_of-result : goal.invariant_of-result
invariant_of-result c =
    let products = c.mul_lanes-products.ensures in
    record {
      long = products.long;
      by_low_half = λ k l. products.each k (omega arith) ∙ ap (field_mul c.args.value) (low_halves k l);
      by_high_half = λ k l. products.each (16 + k) (omega arith) ∙ ap (field_mul c.args.value) (high_halves k l);
    }
