use Rattle.std.proofs.Common.{◌∙◌, refl, arith}
use Rattle.std.proofs.lemmas.List.{length-set}
use Rattle.gf_lanes.proofs.CombineLaws.{value-made, values-made}
use Rattle.gf_lanes.proofs.combine.factors_of.Goals as goal

pub loop-i-preserved : goal.loop-i-preserved
loop-i-preserved c = record {
  long = length-set c.loop-i.factors c.loop-i.i c.new.result ∙ c.loop-i.invariant.long;
  done = value-made c.loop-i.factors c.args.weights.now c.loop-i.i c.new.result (omega (arith, c.loop-i.invariant.long)) c.new.ensures c.loop-i.invariant.done;
}

pub returns : goal.returns
returns c = values-made c.loop-i.factors c.args.weights.now _ refl (omega (arith, c.loop-i.invariant.long)) (λ k lt. c.loop-i.invariant.done k (omega arith))
