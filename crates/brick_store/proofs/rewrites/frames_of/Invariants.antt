use Rattle.std.proofs.Common.{◌≡◌, ◌++◌, ◌+◌, ◌≤◌, drop, map, Some}
use Rattle.std.specs.List.{AllByRecursion}
use Rattle.frame_store.specs.Listed.{size_of}
use Rattle.brick_store.specs.Images.{record_of}
use Rattle.brick_store.specs.Sizes.{most_of}
use Rattle.brick_store.specs.Steps.{RecordHasMembers}
use Rattle.brick_store.proofs.rewrites.frames_of.Given as goal

abbrev pub invariant-loop-item : goal.invariant-loop-item
invariant-loop-item l = record {
  read : map record_of l.frames ++ map Some (drop l.item-index l.records) ≡ map Some l.records;
  size : size_of l.frames + most_of (drop l.item-index l.records) ≤ most_of l.records;
  members : AllByRecursion RecordHasMembers (drop l.item-index l.records);
}
