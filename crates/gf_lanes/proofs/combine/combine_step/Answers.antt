use Rattle.std.proofs.Common.{◌+◌, ◌*◌, length, sym, ◌∙◌, arith, refl}
use Rattle.std.proofs.lemmas.List.{length-map}
use Rattle.std.proofs.lemmas.Simd.{get_or-replicate}
use Rattle.gf_lanes.specs.Sums.{values_of}
use Rattle.gf_lanes.specs.declared.factor.Factor.{Factor}
use Rattle.gf_lanes.proofs.CombineLaws.{sum_to-none, lanes-added, sums-stored, value-at}
use Rattle.gf_lanes.proofs.combine.combine_step.Goals as goal

pub loop-i-init : goal.loop-i-init
loop-i-init c = record {
  first = record { long = refl; each = λ k l. get_or-replicate 32 k 0 0 l ∙ sym (sum_to-none _ _ _ _) };
  second = record { long = refl; each = λ k l. get_or-replicate 32 k 0 0 l ∙ sym (sum_to-none _ _ _ _) };
}

pub loop-i-preserved : goal.loop-i-preserved
loop-i-preserved c =
    let factors = c.args.factors.now in
    let i = c.loop-i.i in
    let size = length c.args.into.now in
    let at = c.args.at in
    let blocks = c.args.blocks.now in
    record {
      first =
          lanes-added i size (i * size + at) at c.index-factors-i.result.value (values_of factors) blocks c.loop-i.first c.times-first.result (omega arith)
          (value-at factors i c.index-factors-i.result c.index-factors-i.result (omega arith) c.index-factors-i.is)
          c.loop-i.invariant.first c.times-first.ensures;
      second =
          lanes-added i size (i * size + at + 32) (at + 32) c.index-factors-i-in-loop-i.result.value (values_of factors) blocks c.loop-i.second c.times-second.result
          (omega arith)
          (value-at factors i c.index-factors-i-in-loop-i.result c.index-factors-i-in-loop-i.result (omega arith) c.index-factors-i-in-loop-i.is)
          c.loop-i.invariant.second c.times-second.ensures;
    }

pub returns : goal.returns
returns c =
    let counted = length-map c.args.factors.now (λ (f : Factor). f.value) in
    sums-stored c.loop-i.i c.args.at (values_of c.args.factors.now) c.args.blocks.now c.args.into.now c.loop-i.first c.loop-i.second
    (omega (arith, counted)) c.requires.room c.loop-i.invariant.first c.loop-i.invariant.second
