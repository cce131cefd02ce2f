use Rattle.std.proofs.Common.{◌≡◌, ◌+◌, ◌-◌, ◌≤◌, ◌++◌, [], Bool, length}
use Rattle.fab_disk.specs.Changing.{Still}
use Rattle.frame_store.specs.Listed.{spelled, size_of, AreShort}
use Rattle.frame_store.specs.Images.{part}
use Rattle.frame_store.proofs.reading.read_list.Given as goal

abbrev pub invariant-loop-piece : goal.invariant-loop-piece
invariant-loop-piece g l = record {
  makes : (first : _) (old : Bool) → g.T.TakesFrames.makes first old [] l.initial.taker → g.T.TakesFrames.makes first old l.listing.frames l.taker;
  short : g.D.Disk.tells → AreShort l.listing.frames;
  place : l.from + size_of l.listing.frames ≡ l.at;
  below : l.at ≤ l.limit;
  some : 1 ≤ length l.piece.items;
  still : Still g.D.Disk l.initial.disk l.disk ⊥;
  certain : g.D.Disk.certain l.disk ≡ g.D.Disk.certain l.initial.disk;
  read : g.D.Disk.tells → part l.from (l.limit - l.from) (g.D.Disk.seen l.initial.disk)
      ≡ spelled l.listing.frames ++ part l.at (l.limit - l.at) (g.D.Disk.seen l.initial.disk);
}

abbrev pub decreases-loop-piece : goal.decreases-loop-piece
decreases-loop-piece g l = (l.limit - l.at) + (l.limit - length l.piece.items)
