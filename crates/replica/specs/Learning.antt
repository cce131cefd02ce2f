-- What a call that learns a view, or that all stripes are kept in it, promises of the store.
use Rattle.std.specs.Prelude.{Result}
use Rattle.fab_base.specs.declared.identities.BrickId.{BrickId}
use Rattle.fab_base.specs.declared.identities.GroupId.{GroupId}
use Rattle.fab_base.specs.declared.identities.ViewNo.{ViewNo}
use Rattle.fab_base.specs.declared.member_lists.View.{View}
use Rattle.fab_base.specs.Layouts.{Layout}
use Rattle.fab_disk.specs.declared.disk.Disk as on_disk
use Rattle.messages.specs.declared.packets.Message.{Message}
use Rattle.brick_store.specs.Bricks.{Brick}
use Rattle.protocol.specs.Nodes.{Node}
use Rattle.replica.specs.declared.faults.ReplicaFault.{ReplicaFault}
use Rattle.replica.specs.Parts.{IsPartsOf}
use Rattle.replica.specs.Reactions.{IsStep}
use Rattle.replica.specs.Handling.{Handles, KeepsNext, end_of, me_of, unanswered}
use Rattle.replica.specs.Calls.{message_append}

-- The store does what the machine's brick does with this message, and there is no answer. At each moment each image opens as the state before, or as the one
-- after.
pub record TakesNotice {D : Type 0} (d : on_disk.Ghosts D) (layout : Layout) (from : BrickId) (notice : Message) (old new : Brick D)
    (result : Result (Unit {0}) ReplicaFault) : Type 0 where
  pub handles : Handles d (IsStep layout (me_of old) from notice old.state) old new (unanswered result)
  pub change : (node : Node) → IsPartsOf layout old.state node → KeepsNext d (message_append layout (me_of old) from node notice)
      (IsStep layout (me_of old) from notice old.state) old new (end_of (unanswered {A = Message} result))

-- where the message teaches this view of the group
abbrev pub LearnsView : {D : Type 0} → on_disk.Ghosts D → Layout → BrickId → GroupId → View → Brick D → Brick D → Result (Unit {0}) ReplicaFault → Type 0
LearnsView d layout from group view old new result = TakesNotice d layout from (Message.Learn group view) old new result

-- where it tells that all stripes of the group are kept in the view of this number
abbrev pub NotesSynced : {D : Type 0} → on_disk.Ghosts D → Layout → BrickId → GroupId → ViewNo → Brick D → Brick D → Result (Unit {0}) ReplicaFault → Type 0
NotesSynced d layout from group number old new result = TakesNotice d layout from (Message.Synced group number) old new result
