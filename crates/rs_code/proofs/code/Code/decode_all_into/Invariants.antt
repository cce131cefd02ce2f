use Rattle.std.proofs.Common.{◌≡◌, length}
use Rattle.rs_code.specs.Stripes.{HasDataBelow}
use Rattle.rs_code.proofs.code.Code.decode_all_into.Given as goal

abbrev pub invariant-loop-j : goal.invariant-loop-j
invariant-loop-j l = record {
  long : length l.stripe ≡ length l.fn.stripe;
  below : HasDataBelow l.self.m l.size l.seats l.blocks l.waiting l.j l.stripe;
}
