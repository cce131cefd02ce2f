-- What is left decides.
use Rattle.std.proofs.Common.{◌≡◌, drop}
use Rattle.layout.specs.Places.{place_in}
use Rattle.layout.proofs.layouts.Layout.place_in.Given as goal

abbrev pub invariant-loop-segment : goal.invariant-loop-segment
invariant-loop-segment l = place_in l.self l.segments l.byte ≡ place_in l.self (drop l.segment-index l.segments) l.left
