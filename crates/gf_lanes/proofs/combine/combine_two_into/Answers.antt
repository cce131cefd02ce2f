use Rattle.std.proofs.Common.{◌≡◌, ◌+◌, ◌*◌, ◌∙◌, ℕ, length, subst, sym, arith}
use Rattle.gf_lanes.specs.Sums.{IsCombinedWithin, values_of}
use Rattle.gf_lanes.proofs.CombineLaws.{combined-further}
use Rattle.gf_lanes.proofs.combine.combine_two_into.Goals as goal

pub loop-step-preserved : goal.loop-step-preserved
loop-step-preserved c =
    let blocks = c.args.blocks.now in
    let kept = c.loop-step.invariant in
    let at = c.loop-step.step * 32 in
    let next : at + 32 ≡ (c.loop-step.step + 1) * 32 = omega arith in
    let second_long : length c.loop-step.second ≡ length c.args.second.now = kept.second_long ∙ sym c.requires.sums in
    record {
      first_done =
          subst (λ (to : ℕ). IsCombinedWithin 0 to (values_of c.args.first_factors.now) blocks c.args.first.now c.combine_two_step.new.first) next
          (combined-further at (at + 32) (values_of c.args.first_factors.now) blocks c.args.first.now c.loop-step.first c.combine_two_step.new.first (omega arith)
          kept.first_long kept.first_done c.combine_two_step.ensures.first);
      first_long = c.combine_two_step.auto.first ∙ kept.first_long;
      second_done =
          subst (λ (to : ℕ). IsCombinedWithin 0 to (values_of c.args.second_factors.now) blocks c.args.second.now c.combine_two_step.new.second) next
          (combined-further at (at + 32) (values_of c.args.second_factors.now) blocks c.args.second.now c.loop-step.second c.combine_two_step.new.second (omega arith)
          second_long kept.second_done c.combine_two_step.ensures.second);
      second_long = c.combine_two_step.auto.second ∙ kept.second_long;
    }
