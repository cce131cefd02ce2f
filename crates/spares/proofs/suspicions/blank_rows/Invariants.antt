-- As many rows as the loop has counted, each of no suspicion.
use Rattle.std.proofs.Common.{◌≡◌, false, replicate, vec_len}
use Rattle.spares.proofs.suspicions.blank_rows.Given as goal

abbrev pub invariant-loop-brick : goal.invariant-loop-brick
invariant-loop-brick l = record {
  rows : l.rows.items ≡ replicate l._brick (replicate 64 false);
  many : vec_len l.rows ≡ l._brick;
}
