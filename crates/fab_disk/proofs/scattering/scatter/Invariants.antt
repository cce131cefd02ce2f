use Rattle.std.proofs.Common.{◌≡◌, [], ◌+◌, ◌++◌, length, take, drop, reverse}
use Rattle.fab_disk.specs.Past.{past_of}
use Rattle.fab_disk.specs.Settled.{is_uncertain, filled, left_over}
use Rattle.fab_disk.proofs.scattering.scatter.Given as goal

abbrev pub invariant-loop-place : goal.invariant-loop-place
invariant-loop-place l = record {
  first : take l.place (take l.count l.bytes.items) ++ filled (is_uncertain (past_of (reverse l.steps) []) l.size) l.source (l.start + l.place)
      (drop l.place (take l.count l.bytes.items))
      ≡ filled (is_uncertain (past_of (reverse l.steps) []) l.size) l.initial.source l.start (take l.count l.initial.bytes.items);
  behind : drop l.count l.bytes.items ≡ drop l.count l.initial.bytes.items;
  length : length l.bytes.items ≡ length l.initial.bytes.items;
  source : l.source ≡ left_over (is_uncertain (past_of (reverse l.steps) []) l.size) l.initial.source l.start l.place;
}
