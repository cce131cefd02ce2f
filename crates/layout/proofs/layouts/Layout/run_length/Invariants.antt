-- The bytes of the segments so far, and of the rest, are those of all.
use Rattle.std.proofs.Common.{◌≡◌, ◌+◌, ◌*◌, ◌≤◌, ◌^◌, drop}
use Rattle.layout.specs.Places.{run_length}
use Rattle.layout.proofs.layouts.Layout.run_length.Given as goal

abbrev pub invariant-loop-segment : goal.invariant-loop-segment
invariant-loop-segment l = record {
  so_far : l.total + run_length l.self (drop l.segment-index l.segments) ≡ run_length l.self l.segments;
  few : l.total ≤ l.segment-index * 2 ^ 48;
}
