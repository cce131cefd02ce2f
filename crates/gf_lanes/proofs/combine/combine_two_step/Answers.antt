use Rattle.std.proofs.Common.{◌+◌, ◌*◌, length, sym, ◌∙◌, arith, refl}
use Rattle.std.proofs.lemmas.List.{length-map}
use Rattle.std.proofs.lemmas.Simd.{get_or-replicate}
use Rattle.gf_lanes.specs.Sums.{values_of}
use Rattle.gf_lanes.specs.declared.factor.Factor.{Factor}
use Rattle.gf_lanes.proofs.CombineLaws.{sum_to-none, lanes-added, sum-stored, value-at}
use Rattle.gf_lanes.proofs.combine.combine_two_step.Goals as goal

pub loop-i-init : goal.loop-i-init
loop-i-init c = record {
  first = record { long = refl; each = λ k l. get_or-replicate 32 k 0 0 l ∙ sym (sum_to-none _ _ _ _) };
  second = record { long = refl; each = λ k l. get_or-replicate 32 k 0 0 l ∙ sym (sum_to-none _ _ _ _) };
}

pub loop-i-preserved : goal.loop-i-preserved
loop-i-preserved c =
    let i = c.loop-i.i in
    let size = length c.args.first.now in
    let at = c.args.at in
    let blocks = c.args.blocks.now in
    let f = c.args.first_factors.now in
    let s = c.args.second_factors.now in
    record {
      first =
          lanes-added i size (i * size + at) at c.index-first_factors-i.result.value (values_of f) blocks c.loop-i.first_sum c.times-first_sum.result refl
          (value-at f i c.index-first_factors-i.result c.index-first_factors-i.result (omega arith) c.index-first_factors-i.is)
          c.loop-i.invariant.first c.times-first_sum.ensures;
      second =
          lanes-added i size (i * size + at) at c.index-second_factors-i.result.value (values_of s) blocks c.loop-i.second_sum c.times-second_sum.result refl
          (value-at s i c.index-second_factors-i.result c.index-second_factors-i.result (omega arith) c.index-second_factors-i.is)
          c.loop-i.invariant.second c.times-second_sum.ensures;
    }

pub returns-clause-first : goal.returns-clause-first
returns-clause-first c =
    let counted = length-map c.args.first_factors.now (λ (f : Factor). f.value) in
    sum-stored c.loop-i.i (length c.args.first.now) c.args.at (values_of c.args.first_factors.now) c.args.blocks.now c.args.first.now c.loop-i.first_sum
    (omega (arith, counted)) refl c.requires.room c.loop-i.invariant.first

pub returns-clause-second : goal.returns-clause-second
returns-clause-second c =
    let counted = length-map c.args.second_factors.now (λ (f : Factor). f.value) in
    sum-stored c.loop-i.i (length c.args.first.now) c.args.at (values_of c.args.second_factors.now) c.args.blocks.now c.args.second.now c.loop-i.second_sum
    (omega (arith, counted)) (sym c.requires.sums) (omega arith) c.loop-i.invariant.second
