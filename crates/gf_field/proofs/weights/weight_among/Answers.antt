use Rattle.std.proofs.Common.{◌≡◌, ℕ, get_or, length, sym, ap, subst, ◌∙◌, arith}
use Rattle.gf_field.specs.Field.{field_mul, inverse_of}
use Rattle.gf_field.specs.Polynomials.{factors, weight_of, IsWeight}
use Rattle.gf_field.proofs.Lagrange.{factors_none, factors_own, factors_other, factors_at_own, weight_of-IsWeight}
use Rattle.gf_field.proofs.weights.weight_among.Goals as goal
use Rattle.gf_field.proofs.weights.weight_among.Goals.{then-i-j, else-i-j}

pub loop-i-init : goal.loop-i-init
loop-i-init c =
    let point = λ (i : ℕ). get_or c.args.points.now i 0 in
    record {
      numerator = sym (factors_none point c.args.j c.args.x);
      denominator = sym (factors_none point c.args.j (point c.args.j));
    }

pub loop-i-preserved : goal.loop-i-preserved
loop-i-preserved c =
    let i = c.loop-i.i in
    let j = c.args.j in
    let x = c.args.x in
    let point = λ (i : ℕ). get_or c.args.points.now i 0 in
    let before = c.loop-i.invariant in
    record {
      numerator = elim c.if-i-j.branch [
        | then-i-j w ↦ w.numerator-is ∙ w.mul-numerator.ensures ∙ (λ t. field_mul (before.numerator t) (w.add.ensures t)) ∙ sym (factors_other i point j x w.if-i-j.true)
        | else-i-j w ↦ w.numerator-is ∙ before.numerator ∙ sym (factors_own i point j x w.if-i-j.false)
      ];
      denominator = elim c.if-i-j.branch [
        | then-i-j w ↦ w.denominator-is ∙ w.mul-denominator.ensures ∙ (λ t. field_mul (before.denominator t) (w.add-then-i-j.ensures t)) ∙ sym (factors_other i point j (point j) w.if-i-j.true)
        | else-i-j w ↦ w.denominator-is ∙ before.denominator ∙ sym (factors_own i point j (point j) w.if-i-j.false)
      ];
    }

pub inverse-requires : goal.inverse-requires
inverse-requires c none =
    let point = λ (i : ℕ). get_or c.args.points.now i 0 in
    let j = c.args.j in
    let m = length c.args.points.now in
    let all : c.loop-i.i ≡ length c.args.points.now = omega arith in
    factors_at_own m m point j c.requires.distinct (omega arith) c.requires.within
    (sym (c.loop-i.invariant.denominator ∙ ap (λ n. factors n point j (point j)) all) ∙ none)

pub returns : goal.returns
unfolding weight_of
returns c =
    let point = λ (i : ℕ). get_or c.args.points.now i 0 in
    let m = length c.args.points.now in
    let j = c.args.j in
    let x = c.args.x in
    let all : c.loop-i.i ≡ length c.args.points.now = omega arith in
    let is : c.mul.result ≡ weight_of (length c.args.points.now) (λ i. get_or c.args.points.now i 0) c.args.j c.args.x =
    c.mul.ensures
    ∙ (λ t. field_mul ((c.loop-i.invariant.numerator ∙ ap (λ n. factors n point j x) all) t)
    ((c.inverse.ensures.power ∙ ap inverse_of (c.loop-i.invariant.denominator ∙ ap (λ n. factors n point j (point j)) all)) t)) in
    record {
      polynomial = subst (IsWeight m point j x) (sym is) (weight_of-IsWeight m point j x c.requires.distinct c.requires.within);
      formula = is;
    }
