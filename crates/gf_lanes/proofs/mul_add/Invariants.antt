use Rattle.std.proofs.Common.{◌*◌}
use Rattle.gf_lanes.specs.Lanes.{AddsProductWithin}
use Rattle.gf_lanes.proofs.mul_add.Given as goal

abbrev pub invariant-loop-block : goal.invariant-loop-block
invariant-loop-block l = AddsProductWithin 0 (l.block * 32) l.c l.src l.initial.dst l.dst

abbrev pub invariant-loop-i : goal.invariant-loop-i
invariant-loop-i l = AddsProductWithin 0 l.i l.c l.src l.fn.dst l.dst
