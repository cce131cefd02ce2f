-- A seat is given to the next spare, or it is kept, and the loop stops where no spare is left.
use Rattle.std.proofs.Common.{◌+◌, refl, sym, ◌∙◌, arith}
use Rattle.fab_base.specs.declared.identities.BrickId.{BrickId}
use Rattle.spares.specs.Suspicions.{suspects}
use Rattle.spares.specs.Replacements.{left_from}
use Rattle.spares.proofs.Replacing.{step-put, step-keep, step-end, step-past}
use Rattle.spares.proofs.suspicions.Spares.replace.Goals as goal
use Rattle.spares.proofs.suspicions.Spares.replace.Goals.{then-suspects+in-Some, else-suspects}

pub returns-in_default : goal.returns-in_default
returns-in_default c =
    step-end (suspects c.args.self.now c.args.by) c.loop-seat.seats c.loop-seat.seat-index (record { 0 = 0 })
    (left_from c.args.self.now c.args.by c.args.members.now c.loop-seat.first) _ (c.in_default.ensures.none refl) c.loop-seat.invariant.made

pub loop-seat-preserved : goal.loop-seat-preserved
loop-seat-preserved c =
    let test = suspects c.args.self.now c.args.by in
    let left = left_from c.args.self.now c.args.by c.args.members.now in
    let d : BrickId = record { 0 = 0 } in
    elim c.if-suspects.branch [
      | then-suspects+in-Some w ↦
          record {
            made = rw (w.seats-is, w.first-is)
                (step-put test c.loop-seat.seats c.loop-seat.seat-index d w.in-Some.spare (left c.loop-seat.first) (left (w.in-Some.spare.0 + 1)) _
                (omega arith) (sym c.suspects.ensures ∙ w.if-suspects.true) w.in-Some.ensures.least c.loop-seat.invariant.made);
            small = let h = w.in-Some.ensures.small in omega arith;
          }
      | else-suspects w ↦
          record {
            made = rw (w.seats-is, w.first-is)
                (step-keep test c.loop-seat.seats c.loop-seat.seat-index d (left c.loop-seat.first) _
                (omega arith) (sym c.suspects.ensures ∙ w.if-suspects.false) c.loop-seat.invariant.made);
            small = let h = c.loop-seat.invariant.small in omega arith;
          }
    ]

pub returns : goal.returns
returns c =
    step-past (suspects c.args.self.now c.args.by) c.loop-seat.seats c.loop-seat.seat-index
    (left_from c.args.self.now c.args.by c.args.members.now c.loop-seat.first) _ (omega arith) c.loop-seat.invariant.made
