use Rattle.std.proofs.Common.{◌≡◌, ◌+◌, ◌*◌, ◌∙◌, ℕ, subst, arith}
use Rattle.gf_lanes.specs.Sums.{IsCombinedWithin, values_of}
use Rattle.gf_lanes.proofs.CombineLaws.{combined-further}
use Rattle.gf_lanes.proofs.combine.combine_one_into.Goals as goal

pub loop-step-preserved : goal.loop-step-preserved
loop-step-preserved c =
    let weights = values_of c.args.factors.now in
    let blocks = c.args.blocks.now in
    let old = c.args.into.now in
    let mid = c.loop-step.into in
    let at = c.loop-step.step * 64 in
    let next : at + 64 ≡ (c.loop-step.step + 1) * 64 = omega arith in
    record {
      done =
          subst (λ (to : ℕ). IsCombinedWithin 0 to weights blocks old c.combine_step.new.into) next
          (combined-further at (at + 64) weights blocks old mid c.combine_step.new.into (omega arith) c.loop-step.invariant.long c.loop-step.invariant.done c.combine_step.ensures);
      long = c.combine_step.auto.into ∙ c.loop-step.invariant.long;
    }
