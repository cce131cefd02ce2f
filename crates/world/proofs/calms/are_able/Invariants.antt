-- the bricks so far are able
use Rattle.std.proofs.Common.{◌≡◌, ℕ, ◌<◌, Some}
use Rattle.std.specs.Prelude.{slice_get}
use Rattle.world.specs.Shown.{NodeIsAble, running_at}
use Rattle.world.proofs.calms.are_able.Given as goal

abbrev pub invariant-loop-number : goal.invariant-loop-number
invariant-loop-number l =
    (k : ℕ) → k < l.number-index → (number : ℕ) → slice_get l.numbers k ≡ Some number → NodeIsAble l.layout l.group.0 l.view.0 (running_at l.bricks number)
