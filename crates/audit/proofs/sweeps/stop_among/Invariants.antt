-- what is found of the lines that are left is found of all
use Rattle.std.proofs.Common.{ℕ, ◌+◌, drop}
use Rattle.audit.specs.Sweeps.{LinesGo, StopsAt}
use Rattle.audit.proofs.sweeps.stop_among.Given as goal

abbrev pub invariant-loop-place : goal.invariant-loop-place
invariant-loop-place l = record {
  go : LinesGo l.layout l.claims l.review l.happened (drop l.place l.lines) → LinesGo l.layout l.claims l.review l.initial.happened l.lines;
  stops : (k : ℕ) → StopsAt l.layout l.claims l.review l.happened (drop l.place l.lines) k
      → StopsAt l.layout l.claims l.review l.initial.happened l.lines (l.place + k);
}
