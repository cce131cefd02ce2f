-- The marks that are left, after the last one seen, tell the same.
use Rattle.std.proofs.Common.{◌≡◌, ◌+◌, drop}
use Rattle.reg_model.specs.Marks.{ending_of}
use Rattle.reg_model.proofs.lives.Ending.find.Given as goal

abbrev pub invariant-loop-mark : goal.invariant-loop-mark
invariant-loop-mark l =
    ending_of (drop l.mark-index l.later) l.operation l.brick.0 (l.last + 1) ≡ ending_of l.later l.operation l.brick.0 (l.initial.last + 1)
