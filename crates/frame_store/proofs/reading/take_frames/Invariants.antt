use Rattle.std.proofs.Common.{◌≡◌, ◌+◌, ◌++◌, Bool, List, length}
use Rattle.frame_store.specs.declared.frames.Frame.{Frame}
use Rattle.frame_store.specs.Listed.{spelled, size_of, AreShort}
use Rattle.frame_store.proofs.reading.take_frames.Given as goal

abbrev pub invariant-loop-kind : goal.invariant-loop-kind
invariant-loop-kind g l = record {
  makes : (first : _) (old : Bool) → g.T.TakesFrames.makes first old l.initial.listing.frames l.initial.taker
      → g.T.TakesFrames.makes first old l.listing.frames l.taker;
  front : (frames : List Frame) × (l.listing.frames ≡ l.initial.listing.frames ++ frames) × (spelled frames ++ l.rest ≡ l.bytes)
      × (size_of frames + length l.rest ≡ length l.bytes) × AreShort frames;
}

abbrev pub decreases-loop-kind : goal.decreases-loop-kind
decreases-loop-kind g l = length l.rest
