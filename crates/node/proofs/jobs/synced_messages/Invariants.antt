-- The messages so far, and those to the bricks that are left, are all.
use Rattle.std.proofs.Common.{◌≡◌, ◌-◌, ◌++◌, vec_len}
use Rattle.fab_base.specs.declared.identities.BrickId.{BrickId}
use Rattle.protocol.specs.Nodes.{synced_packets}
use Rattle.coord_phase.specs.Messages.{packets_from}
use Rattle.node.proofs.jobs.synced_messages.Given as goal

abbrev pub invariant-loop-brick : goal.invariant-loop-brick
invariant-loop-brick l =
    record {
      sends : (me : BrickId) → packets_from me l.messages.items ++ synced_packets me l.group l.view (l.bricks - l.brick) l.brick
          ≡ synced_packets me l.group l.view l.bricks 0;
      count : vec_len l.messages ≡ l.brick;
    }
