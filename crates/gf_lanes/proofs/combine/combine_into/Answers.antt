use Rattle.std.proofs.Common.{◌≡◌, ◌∙◌, ℕ, List, length, take, subst, sym}
use Rattle.std.proofs.lemmas.List.{take-map}
use Rattle.gf_lanes.specs.Sums.{IsCombination, values_of}
use Rattle.gf_lanes.specs.declared.factor.Factor.{Factor}
use Rattle.gf_lanes.proofs.combine.combine_into.Goals as goal

pub returns : goal.returns
returns c =
    let weights = c.args.weights.now in
    let values : values_of (take (length weights) c.factors_of-factors.result) ≡ weights =
    sym (take-map (λ (f : Factor). f.value) (length weights) c.factors_of-factors.result) ∙ c.factors_of-factors.ensures in
    subst (λ (w : List ℕ). IsCombination w c.args.blocks.now c.combine_one_into.new.into) values c.combine_one_into.ensures
