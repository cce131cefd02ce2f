use Rattle.std.proofs.Common.{◌≡◌, take}
use Rattle.fab_disk.specs.Draws.{drawn, skipped}
use Rattle.fab_disk.proofs.pages.draw.Given as goal

abbrev pub invariant-loop-place : goal.invariant-loop-place
invariant-loop-place l = record {
  so_far : take l.place l.into ≡ drawn l.place (skipped l.passed l.fn.random);
  source : l.source ≡ skipped l.place (skipped l.passed l.fn.random);
}
