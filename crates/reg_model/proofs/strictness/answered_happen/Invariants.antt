-- If the answered operations that begin in what is left have happened, all have.
use Rattle.std.proofs.Common.{ℕ, IsSome, map, drop}
use Rattle.std.specs.List.{Contains}
use Rattle.reg_model.specs.declared.marks.Happening.{Happening}
use Rattle.reg_model.specs.Marks.{life_of}
use Rattle.reg_model.specs.Strict.{WasAnswered}
use Rattle.reg_model.proofs.strictness.answered_happen.Given as goal

abbrev pub invariant-loop-mark : goal.invariant-loop-mark
invariant-loop-mark l =
    ((n : ℕ) → IsSome (life_of (drop l.mark-index l.marks) n) → WasAnswered (life_of l.marks n)
    → Contains (map (λ (h : Happening). h.operation) l.happenings) n)
    → (n : ℕ) → WasAnswered (life_of l.marks n) → Contains (map (λ (h : Happening). h.operation) l.happenings) n
