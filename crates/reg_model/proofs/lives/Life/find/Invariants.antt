-- The marks that are left tell the same.
use Rattle.std.proofs.Common.{◌≡◌, drop}
use Rattle.reg_model.specs.Marks.{life_of}
use Rattle.reg_model.proofs.lives.Life.find.Given as goal

abbrev pub invariant-loop-i : goal.invariant-loop-i
invariant-loop-i l = life_of (drop l.i l.marks) l.wanted ≡ life_of l.marks l.wanted
