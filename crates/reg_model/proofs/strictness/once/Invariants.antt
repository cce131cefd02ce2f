-- The operations so far are apart.
use Rattle.std.proofs.Common.{◌≡◌, ℕ, ◌<◌, map, get_or}
use Rattle.reg_model.specs.declared.marks.Happening.{Happening}
use Rattle.reg_model.proofs.strictness.once.Given as goal

abbrev pub invariant-loop-i : goal.invariant-loop-i
invariant-loop-i l =
    (j k : ℕ) → j < k → k < l.i
    → get_or (map (λ (h : Happening). h.operation) l.happenings) j 0 ≡ get_or (map (λ (h : Happening). h.operation) l.happenings) k 0 → ⊥
