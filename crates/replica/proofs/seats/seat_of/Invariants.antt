-- The brick is not among the members that the loop has passed.
use Rattle.std.proofs.Common.{◌≡◌, ◌+◌, drop}
use Rattle.std.specs.Option.{option_map}
use Rattle.fab_base.specs.Layouts.{seat_in}
use Rattle.replica.proofs.seats.seat_of.Given as goal

abbrev pub invariant-loop-seat : goal.invariant-loop-seat
invariant-loop-seat l = seat_in l.members l.brick.0 ≡ option_map (λ s. s + l.seat) (seat_in (drop l.seat l.members) l.brick.0)
