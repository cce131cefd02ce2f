use Rattle.std.proofs.Common.{arith}
use Rattle.fab_disk.proofs.medium.Medium.settle.Goals as goal

pub returns-clause-room : goal.returns-clause-room
returns-clause-room c = λ calls bytes end had.
    let room = c.choose.ensures.room calls bytes end had in
    record {
      for_calls = omega (arith, room.for_calls, c.clear.ensures.capacity, c.clear.ensures.len);
      for_bytes = omega (arith, room.for_bytes, c.clear-2.ensures.capacity, c.clear-2.ensures.len);
      for_content = room.for_content;
    }
