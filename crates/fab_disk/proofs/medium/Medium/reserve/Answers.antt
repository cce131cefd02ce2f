use Rattle.std.proofs.Common.{rules, arith}
use Rattle.fab_disk.proofs.medium.Medium.reserve.Goals as goal

pub returns-clause-room : goal.returns-clause-room
returns-clause-room c = λ calls bytes end had. record {
  for_calls = omega (arith, had.for_calls, c.in_ok-reserve.ensures.len, c.in_ok-reserve.ensures.capacity);
  for_bytes = omega (arith, had.for_bytes, c.in_ok-reserve-2.ensures.len, c.in_ok-reserve-2.ensures.capacity);
  for_content = c.reserve-3.ensures.room calls bytes end had.for_content;
}

pub returns-in_err-reserve : goal.returns-in_err-reserve
returns-in_err-reserve c = search rules

pub returns-in_err-reserve-2 : goal.returns-in_err-reserve-2
returns-in_err-reserve-2 c = search rules
