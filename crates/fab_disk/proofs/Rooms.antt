-- The room that is left.
use Rattle.std.proofs.Common.{ℕ, ◌+◌, arith}
use Rattle.fab_disk.specs.Medium.{HasRoom}
use Rattle.fab_disk.specs.declared.medium.Medium.{Medium}

-- room for more is room for less
pub room_less : (m : Medium) (calls bytes n end : ℕ) → HasRoom m (calls + 1) (bytes + n) end → HasRoom m calls bytes end
room_less m calls bytes n end room = record {
  for_calls = omega (arith, room.for_calls);
  for_bytes = omega (arith, room.for_bytes);
  for_content = record { for_pages = omega (arith, room.for_content.for_pages); for_end = room.for_content.for_end };
}

-- no bytes more
pub room_same : (m : Medium) (calls bytes end : ℕ) → HasRoom m calls (bytes + 0) end → HasRoom m calls bytes end
room_same m calls bytes end room = record { for_calls = room.for_calls; for_bytes = omega (arith, room.for_bytes); for_content = record { for_pages = omega (arith, room.for_content.for_pages); for_end = room.for_content.for_end } }
