use Rattle.std.proofs.Common.{◌≡◌, get_or}
use Rattle.gf_field.specs.Polynomials.{factors}
use Rattle.gf_field.proofs.weights.weight_among.Given as goal

abbrev pub invariant-loop-i : goal.invariant-loop-i
invariant-loop-i l = record {
  numerator : l.numerator ≡ factors l.i (λ i. get_or l.points i 0) l.j l.x;
  denominator : l.denominator ≡ factors l.i (λ i. get_or l.points i 0) l.j l.own;
}
