-- A call that handles a message does what the machine's brick does with it.
use Rattle.std.proofs.Common.{◌≡◌, ℕ, Option, None, List, Result, Ok, refl, sym, subst}
use Rattle.std.specs.Option.{option_map}
use Rattle.std.specs.Result.{IsErrAnd}
use Rattle.fab_base.specs.declared.identities.BrickId.{BrickId}
use Rattle.fab_base.specs.Layouts.{Layout}
use Rattle.fab_disk.specs.declared.disk.Disk as on_disk
use Rattle.messages.specs.declared.packets.Message.{Message}
use Rattle.messages.specs.declared.replies.Reply.{Reply}
use Rattle.version_log.specs.Versions.{Version}
use Rattle.brick_state.specs.States.{StateOf}
use Rattle.brick_store.specs.Bricks.{Brick}
use Rattle.brick_store.specs.Calls.{Append}
use Rattle.protocol.specs.Nodes.{Node}
use Rattle.replica.specs.declared.faults.ReplicaFault.{ReplicaFault}
use Rattle.replica.specs.declared.faults.ReplicaFault.TheVariants.{NoMemory}
use Rattle.replica.specs.Parts.{IsPartsOf}
use Rattle.replica.specs.Reactions.{IsStep}
use Rattle.replica.specs.Handling.{Runs, Handles, KeepsNext, end_of, me_of, seen_as, unanswered}
use Rattle.replica.specs.Learning.{TakesNotice}
use Rattle.replica.specs.Calls.{message_append}
use Rattle.replica.proofs.Answering.{HandlesBy, handles_none, handles_refused, handles_seen, next_seen}

-- what a call promises of a message, whichever of the machine's bricks keeps what the store keeps
abbrev pub HandlesMessage : {D : Type 0} → on_disk.Ghosts D → Layout → BrickId → BrickId → Message → Brick D → Brick D
    → Result (Option Message) ReplicaFault → Type 0
HandlesMessage d layout me from message old new result = record {
  handles : Handles d (IsStep layout me from message old.state) old new result;
  change : (node : Node) → IsPartsOf layout old.state node → KeepsNext d (message_append layout me from node message)
      (IsStep layout me from message old.state) old new (end_of result);
}

-- a notice of a view that was taken, as the message that it is
pub message_noticed : {D : Type 0} (d : on_disk.Ghosts D) (layout : Layout) (from : BrickId) (message notice : Message) (old new : Brick D)
    (taken : Result (Unit {0}) ReplicaFault) (result : Result (Option Message) ReplicaFault) → message ≡ notice → result ≡ unanswered taken
    → TakesNotice d layout from notice old new taken → HandlesMessage d layout (me_of old) from message old new result
message_noticed d layout from message notice old new taken result is seen takes =
    subst (λ (m : Message). HandlesMessage d layout (me_of old) from m old new result) (sym is)
    (subst (λ (r : Result (Option Message) ReplicaFault). HandlesMessage d layout (me_of old) from notice old new r) (sym seen)
    (record { handles = takes.handles; change = takes.change }))

module _ {D : Type 0} (d : on_disk.Ghosts D)
    (only_now : (disk : D) (image : List ℕ) → d.left_since disk (d.moment disk) image → d.may_leave disk image) (old : Brick D) (runs : Runs d old)
    (layout : Layout) (me from : BrickId) (message : Message) where
  abbrev Taken : Option Message → StateOf Version → Type 0
  Taken = IsStep layout me from message old.state

  abbrev append_by : Node → Option Append
  append_by node = message_append layout me from node message

  -- it had nothing to change
  pub message_none : (answer : Option Message) → Taken answer old.state → ((node : Node) → IsPartsOf layout old.state node → append_by node ≡ None)
      → HandlesMessage d layout me from message old old (Ok answer)
  message_none answer follows none = record {
    handles = (handles_none d only_now Taken old runs None refl answer follows).handles;
    change = λ node parts. (handles_none d only_now Taken old runs (append_by node) (none node parts) answer follows).change;
  }

  -- memory was refused at once
  pub message_refused : (result : Result (Option Message) ReplicaFault) → IsErrAnd result (λ fault. fault ≡ NoMemory)
      → HandlesMessage d layout me from message old old result
  message_refused result refused = record {
    handles = (handles_refused d only_now Taken old runs None result refused).handles;
    change = λ node parts. (handles_refused d only_now Taken old runs (append_by node) result refused).change;
  }

  -- a call did it whose replies are seen as its answers
  pub message_seen : (f : Reply → Message) (Follows : Option Reply → StateOf Version → Type 0)
      (implies : (reply : Option Reply) (st : StateOf Version) → Follows reply st → Taken (option_map f reply) st) (given : Option Append)
      (appended : (node : Node) → IsPartsOf layout old.state node → append_by node ≡ given) (new : Brick D) (reply : Result (Option Reply) ReplicaFault)
      (result : Result (Option Message) ReplicaFault) → result ≡ seen_as f reply → HandlesBy d given Follows old new reply
      → HandlesMessage d layout me from message old new result
  message_seen f Follows implies given appended new reply result is by =
      subst (λ (r : Result (Option Message) ReplicaFault). HandlesMessage d layout me from message old new r) (sym is) (record {
        handles = handles_seen d f Follows Taken implies old new reply by.handles;
        change = λ node parts. subst (λ (a : Option Append). KeepsNext d a Taken old new (end_of (seen_as f reply))) (sym (appended node parts))
            (next_seen d f Follows Taken implies given old new reply by.change);
      })
