-- The happenings so far are in time.
use Rattle.std.proofs.Common.{take, All}
use Rattle.reg_model.specs.declared.marks.Happening.{Happening}
use Rattle.reg_model.specs.Marks.{life_of}
use Rattle.reg_model.specs.Strict.{IsInTime}
use Rattle.reg_model.proofs.strictness.in_time.Given as goal

abbrev pub invariant-loop-happening : goal.invariant-loop-happening
invariant-loop-happening l =
    All (λ (h : Happening). IsInTime (life_of l.marks h.operation) h.position) (take l.happening-index l.happenings)
