use Rattle.std.proofs.Common.{◌≡◌, ◌≤◌, sym, ap, subst, ◌∙◌, arith}
use Rattle.gf_field.specs.Field.{field_mul, inverse_of}
use Rattle.gf_field.specs.Polynomials.{factors, weight_of, IsWeight}
use Rattle.gf_field.proofs.Lagrange.{factors_none, factors_own, factors_other, factors_at_own, numbers_AreDistinct, weight_of-IsWeight}
use Rattle.gf_field.proofs.weights.weight.Goals as goal
use Rattle.gf_field.proofs.weights.weight.Goals.{then-i-j, else-i-j}

pub loop-i-init : goal.loop-i-init
loop-i-init c = record {
  numerator = sym (factors_none (λ i. i) c.args.j c.args.k);
  denominator = sym (factors_none (λ i. i) c.args.j c.args.j);
}

pub loop-i-preserved : goal.loop-i-preserved
loop-i-preserved c =
    let i = c.loop-i.i in
    let j = c.args.j in
    let k = c.args.k in
    let before = c.loop-i.invariant in
    record {
      numerator = elim c.if-i-j.branch [
        | then-i-j w ↦ w.numerator-is ∙ w.mul-numerator.ensures ∙ (λ t. field_mul (before.numerator t) (w.add.ensures t)) ∙ sym (factors_other i (λ i. i) j k w.if-i-j.true)
        | else-i-j w ↦ w.numerator-is ∙ before.numerator ∙ sym (factors_own i (λ i. i) j k w.if-i-j.false)
      ];
      denominator = elim c.if-i-j.branch [
        | then-i-j w ↦ w.denominator-is ∙ w.mul-denominator.ensures ∙ (λ t. field_mul (before.denominator t) (w.add-then-i-j.ensures t)) ∙ sym (factors_other i (λ i. i) j j w.if-i-j.true)
        | else-i-j w ↦ w.denominator-is ∙ before.denominator ∙ sym (factors_own i (λ i. i) j j w.if-i-j.false)
      ];
    }

pub inverse-requires : goal.inverse-requires
inverse-requires c none =
    let all : c.loop-i.i ≡ c.args.m = omega arith in
    let m_small : c.args.m ≤ 256 = omega arith in
    factors_at_own c.args.m c.args.m (λ i. i) c.args.j (numbers_AreDistinct c.args.m m_small) (omega arith) (omega arith)
    (sym (c.loop-i.invariant.denominator ∙ ap (λ n. factors n (λ i. i) c.args.j c.args.j) all) ∙ none)

pub returns : goal.returns
unfolding weight_of
returns c =
    let m = c.args.m in
    let j = c.args.j in
    let k = c.args.k in
    let all : c.loop-i.i ≡ c.args.m = omega arith in
    let m_small : c.args.m ≤ 256 = omega arith in
    let is : c.mul.result ≡ weight_of c.args.m (λ i. i) c.args.j c.args.k =
    c.mul.ensures
    ∙ (λ t. field_mul ((c.loop-i.invariant.numerator ∙ ap (λ n. factors n (λ i. i) j k) all) t)
    ((c.inverse.ensures.power ∙ ap inverse_of (c.loop-i.invariant.denominator ∙ ap (λ n. factors n (λ i. i) j j) all)) t)) in
    record {
      polynomial = subst (IsWeight m (λ i. i) j k) (sym is) (weight_of-IsWeight m (λ i. i) j k (numbers_AreDistinct m m_small) (omega arith));
      formula = is;
    }
