-- One operation more.
use Rattle.std.proofs.Common.{◌+◌, ◌<◌, length, drop, ap, ◌∙◌, arith}
use Rattle.audit.specs.Sweeps.{first_missing}
use Rattle.audit.proofs.Missing.{missing_more}
use Rattle.audit.proofs.sweeps.first_missing.Goals as goal

pub loop-place-preserved : goal.loop-place-preserved
loop-place-preserved c =
    let room : c.loop-place.place < length c.args.happened.now = omega arith in
    ap (first_missing c.args.claims.now (drop (c.loop-place.place + 1) c.args.operations.now) (drop (c.loop-place.place + 1) c.args.happened.now))
    c.with_missing-found.ensures
    ∙ missing_more c.args.claims.now c.args.operations.now c.args.happened.now c.loop-place.place _ _ c.loop-place.found c.loop-place-test.true room
    ∙ c.loop-place.invariant
