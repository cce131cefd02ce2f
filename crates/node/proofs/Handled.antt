-- A brick whose store has handled a message: what that leaves, and what became of the brick's disk.
use Rattle.std.proofs.Common.{◌≡◌, false, Option, Result, Ok, Err, sym, subst}
use Rattle.fab_base.specs.declared.identities.BrickId.{BrickId}
use Rattle.fab_base.specs.Layouts.{Layout}
use Rattle.fab_disk.specs.declared.disk.Disk as on_disk
use Rattle.fab_disk.specs.Disk.{IsUntouched}
use Rattle.fab_disk.specs.Changing.{End, Whole, Stands}
use Rattle.frame_store.specs.declared.shapes.Shape.{Shape}
use Rattle.messages.specs.declared.packets.Message.{Message}
use Rattle.brick_store.specs.Bricks.{Brick}
use Rattle.replica.specs.declared.faults.ReplicaFault.{ReplicaFault}
use Rattle.replica.specs.Calls.{message_append, message_calls}
use Rattle.replica.specs.Handling as handling
use Rattle.replica.specs.Handling.{Handles, KeepsAll, KeepsNext, me_of}
use Rattle.replica.specs.Parts.{IsPartsOf}
use Rattle.replica.specs.Reactions.{IsStep, member_step}
use Rattle.protocol.specs.Nodes.{Node}
use Rattle.node.specs.declared.faults.NodeFault.{NodeFault}
use Rattle.node.specs.declared.tasks.Tasks.{Tasks}
use Rattle.node.specs.Ends.{end_of, IsShown, StepChange}
use Rattle.node.specs.Faults.{fault_of}
use Rattle.node.specs.Running.{Running, running, state_of, shape_at, ImageShows, IsBrickOf}
use Rattle.node.proofs.Requests.{is_me, follows_still}
use Rattle.node.proofs.Shown.{change_so, failed, refused, refused_step, shown_so}

module _ {D : Type 0} (d : on_disk.Ghosts D) (layout : Layout) (tasks : Tasks) (from : BrickId) (message : Message) (old new : Brick D) (node : Running D)
    (view : running layout tasks old ≡ node) (is : IsBrickOf layout old.shape old.state tasks) where
  -- the call of the store ended so
  abbrev Handled : Result (Option Message) ReplicaFault → Type 0
  Handled result = Handles d (IsStep layout (me_of old) from message old.state) old new result

  -- and changed it so
  abbrev Changed : End → Type 0
  Changed end =
      (machine : Node) → IsPartsOf layout old.state machine
      → KeepsNext d (message_append layout (me_of old) from machine message) (IsStep layout (me_of old) from message old.state) old new end

  -- what becomes of the brick's disk, at the brick that has this under way then
  abbrev Becomes : Tasks → End → Type 0
  Becomes after end =
      StepChange d (message_append node.layout node.me from (state_of node) message) (member_step node.layout node.me from (state_of node) message).node
      node (running layout after new) end

  -- the store's state is what follows at the brick
  pub handled_step : (answer : Option Message) → Handled (Ok answer) → IsStep layout tasks.work.calls.me from message old.state answer new.state
  handled_step answer done =
      subst (λ (me : BrickId). IsStep layout me from message old.state answer new.state) (is_me layout tasks old from message is.shape_is) done.ok

  -- a message that no call of the disk keeps leaves the disk as it was
  pub handled_still : (answer : Option Message) → Handled (Ok answer)
      → message_calls node.layout node.me from (shape_at node.layout node.me) node.brick.listed (state_of node) message ≡ 0
      → (new.state ≡ node.brick.state) × IsUntouched d.seen d.may_leave d.moment d.left_since node.brick.disk new.disk
  handled_still answer done =
      subst (λ (n : Running D). message_calls n.layout n.me from (shape_at n.layout n.me) n.brick.listed (state_of n) message ≡ 0
      → (new.state ≡ n.brick.state) × IsUntouched d.seen d.may_leave d.moment d.left_since n.brick.disk new.disk) view
      (λ none. done.still layout (subst (λ (s : Shape). KeepsAll layout s.block old.state new.state) (sym is.shape_is)
      (follows_still layout tasks old from message new answer (handled_step answer done)
      (subst (λ (s : Shape). message_calls layout tasks.work.calls.me from s old.listed (state_of (running layout tasks old)) message ≡ 0)
      (sym is.shape_is) none))))

  -- one that is handled is one change of the disk
  pub handled_change : (answer : Option Message) (after : Tasks) → Handled (Ok answer) → Changed Whole → IsShown d node → old.halted ≡ false
      → after.work.calls.me ≡ tasks.work.calls.me → IsBrickOf layout new.shape new.state after → Becomes after Whole
  handled_change answer after done change stood runs same brick =
      let made = change_so d layout tasks from message old new node Whole view is (λ told. done.stood told runs) change in
      record {
        stood = stood;
        change = made.change;
        listed = made.listed;
        stands = λ whole told.
            subst (λ (n : Running D). Stands d (ImageShows n.layout n.me (state_of (running layout after new))) new.disk) view
            (subst (λ (me : BrickId). Stands d (ImageShows layout me (state_of (running layout after new))) new.disk) same
            (shown_so d layout after new new.disk brick (done.stands told)));
      }

  -- so is one that is refused, or cut short, of which this fault is answered
  pub refused_change : (T : Type 0) (fault : ReplicaFault) (answer : Result T NodeFault) (after : Tasks) → Handled (Err fault)
      → Changed (handling.end_of (refused (Option Message) fault)) → IsShown d node → old.halted ≡ false → answer ≡ failed T (fault_of fault)
      → Becomes after (end_of answer)
  refused_change T fault answer after done change stood runs is_fault =
      refused_step d T (Option Message) fault answer _ _ node (running layout after new) is_fault stood
      (change_so d layout tasks from message old new node _ view is (λ told. done.stood told runs) change)
