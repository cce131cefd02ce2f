use Rattle.std.proofs.Common.{◌≡◌, ◌*◌, length}
use Rattle.rs_code.proofs.ParityLaws.{HasParity}
use Rattle.rs_code.proofs.encoders.Encoder.parity_into.Given as goal

abbrev pub invariant-loop-pair : goal.invariant-loop-pair
invariant-loop-pair l = record {
  long : length l.parity ≡ length l.fn.parity;
  done : HasParity l.self.code.m l.size l.stripe (2 * l.pair) l.parity;
}
