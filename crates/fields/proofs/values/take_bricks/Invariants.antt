use Rattle.std.proofs.Common.{◌≡◌, ◌-◌, length, take}
use Rattle.fields.specs.Reading.{times_at}
use Rattle.fields.specs.Values.{brick_codec}
use Rattle.fields.proofs.Loops.{with_front}
use Rattle.fields.proofs.values.take_bricks.Given as goal

abbrev pub invariant-loop-seat : goal.invariant-loop-seat
invariant-loop-seat l = record {
  room : length l.bricks ≡ 32;
  read : with_front (take l.seat l.bricks) (times_at brick_codec.read (l.count - l.seat) l.from.rest.now) ≡ times_at brick_codec.read l.count l.fn.from.rest.now;
}
