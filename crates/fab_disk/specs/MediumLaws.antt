-- Laws of the room that there is in memory.
use Rattle.std.proofs.Common.{ℕ, ◌≤◌, length, sym, subst, arith}
use Rattle.fab_disk.specs.Past.{Fits}
use Rattle.fab_disk.specs.Stored.{shown}
use Rattle.fab_disk.specs.Medium.{past, HasRoom}
use Rattle.fab_disk.specs.PageLaws.{length-shown}
use Rattle.fab_disk.specs.declared.medium.Medium.{Medium}

-- room for more is room for less
pub room_for_less : (m : Medium) (calls bytes end fewer less nearer : ℕ) → fewer ≤ calls → less ≤ bytes → nearer ≤ end → HasRoom m calls bytes end
    → HasRoom m fewer less nearer
room_for_less m calls bytes end fewer less nearer c b e room = record {
  for_calls = omega (arith, room.for_calls);
  for_bytes = omega (arith, room.for_bytes);
  for_content = record { for_pages = omega (arith, room.for_content.for_pages); for_end = omega (arith, room.for_content.for_end) };
}

-- the lengths of all writes fit the content
pub fits_shown : (m : Medium) → Fits (past m) (length (shown m.content))
fits_shown m = subst (Fits (past m)) (sym (length-shown m.content.front.items m.content.pages.items m.content.len m.content.within)) m.fits
