-- The messages so far, and those to the members that are left, are all; and there is room for those that are left.
use Rattle.std.proofs.Common.{◌≡◌, ◌≤◌, ◌++◌, drop, length, vec_len, vec_capacity}
use Rattle.node.specs.Sending.{collect_from}
use Rattle.node.proofs.sending.put_collects.Given as goal

abbrev pub invariant-loop-member : goal.invariant-loop-member
invariant-loop-member l =
    record {
      sends : l.room.items ++ collect_from l.call l.stamp (drop l.member-index l.group.members) ≡ collect_from l.call l.stamp l.group.members;
      count : vec_len l.room ≡ l.member-index;
      room : length l.group.members ≤ vec_capacity l.room;
    }
