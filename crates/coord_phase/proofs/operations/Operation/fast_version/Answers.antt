-- What the replies agree on is the version that a read may answer at once, where they tell no order above it.
use Rattle.std.proofs.Common.{◌≡◌, true, false, if◌then◌else◌, Some, None, sym, ◌∙◌, ap}
use Rattle.protocol.specs.Coordinators.{all_tell}
use Rattle.coord_phase.proofs.FastReads.{fast_none, fast_some}
use Rattle.coord_phase.proofs.operations.Operation.fast_version.Goals as goal

pub returns-in-None-clause-value : goal.returns-in-None-clause-value
returns-in-None-clause-value c = fast_none c.args.self.now.state.counted c.in-None.ensures.agreed

pub returns-then-is_told_by_all-clause-value : goal.returns-then-is_told_by_all-clause-value
returns-then-is_told_by_all-clause-value c =
    let v = c.in-Some.version in
    let counted = c.args.self.now.state.counted in
    let told : all_tell v counted ≡ true = ap (all_tell v) (sym c.counted.ensures) ∙ sym c.is_told_by_all.ensures ∙ c.if-is_told_by_all.true in
    sym (fast_some v counted c.in-Some.ensures.agreed ∙ ap (λ b. if b then Some v else None) told)

pub returns-else-is_told_by_all-clause-value : goal.returns-else-is_told_by_all-clause-value
returns-else-is_told_by_all-clause-value c =
    let v = c.in-Some.version in
    let counted = c.args.self.now.state.counted in
    let told : all_tell v counted ≡ false = ap (all_tell v) (sym c.counted.ensures) ∙ sym c.is_told_by_all.ensures ∙ c.if-is_told_by_all.false in
    sym (fast_some v counted c.in-Some.ensures.agreed ∙ ap (λ b. if b then Some v else None) told)
