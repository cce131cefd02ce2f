-- The Ends so far are of open operations.
use Rattle.std.proofs.Common.{◌≡◌, ℕ, ◌<◌, Some, take, slice_get}
use Rattle.fab_base.specs.declared.answers.Answer.{Answer}
use Rattle.reg_model.specs.declared.marks.Mark.TheVariants.{End}
use Rattle.reg_model.specs.Marks.{life_of, IsOpen}
use Rattle.reg_model.proofs.well_formed.ends_are_of_open.Given as goal

abbrev pub invariant-loop-i : goal.invariant-loop-i
invariant-loop-i l =
    (k p n : ℕ) (answer : Answer) → k < l.i → slice_get l.marks k ≡ Some (End p n answer) → IsOpen (life_of (take k l.marks) n)
