use Rattle.std.proofs.Common.{◌≡◌}
use Rattle.gf_field.specs.Polynomials.{factors}
use Rattle.gf_field.proofs.weights.weight.Given as goal

abbrev pub invariant-loop-i : goal.invariant-loop-i
invariant-loop-i l = record {
  numerator : l.numerator ≡ factors l.i (λ i. i) l.j l.k;
  denominator : l.denominator ≡ factors l.i (λ i. i) l.j l.j;
}
