-- What was put so far are the messages so far, each with the one that teaches its receiver.
use Rattle.std.proofs.Common.{◌≡◌, ◌*◌, length, vec_len}
use Rattle.node.specs.Teaching.{each_taught}
use Rattle.node.proofs.teaching.teaching.Given as goal

abbrev pub invariant-loop-to : goal.invariant-loop-to
invariant-loop-to l =
    record {
      items : l.taught.items ≡ each_taught l.group l.view l.yielded;
      count : vec_len l.taught ≡ 2 * length l.yielded;
    }
