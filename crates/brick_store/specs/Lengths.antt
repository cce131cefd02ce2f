-- How many bytes a store's list of frames takes.
use Rattle.std.specs.Prelude.{◌≡◌, ℕ, ◌+◌, ◌≤◌, Bool, true, false}
use Rattle.fab_disk.specs.Changing.{End, Whole, NotBegun}
use Rattle.brick_store.specs.Sizes.{framed, most_listed}

-- Room was made in the half for a frame. Where it had room, the list is as long as it was. Else it was written anew, and is at most the frames of so many
-- live records.
pub record HasMadeRoom (room : Bool) (live before after : ℕ) : Type 0 where
  pub kept : room ≡ true → after ≡ before
  pub rewritten : room ≡ false → after ≤ most_listed live

-- A frame with a body of this length was appended. Where the half had room, the list is longer by it. Else it was written anew first, and is at most the
-- frames of so many live records, and this one.
pub record IsAppended (room : Bool) (live before body after : ℕ) : Type 0 where
  pub longer : room ≡ true → after ≡ before + framed body
  pub rewritten : room ≡ false → after ≤ most_listed live + framed body

-- How long the list is after a change, by how that ended: as is told of one that was made, or as it was where the change was not begun. Where it was cut
-- short, nothing is told.
pub record ListsBy (end : End) (Made : ℕ → Type 0) (before after : ℕ) : Type 0 where
  pub whole : end ≡ Whole → Made after
  pub not_begun : end ≡ NotBegun → after ≡ before
