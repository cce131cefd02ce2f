-- A request that is handled, by the course that it takes.
use Rattle.std.proofs.Common.{◌≡◌, ℕ, Option, Some, None, List, Result, Ok, sym, subst}
use Rattle.fab_base.specs.declared.identities.BrickId.{BrickId}
use Rattle.fab_base.specs.declared.stamps.Ballot.{Ballot}
use Rattle.fab_base.specs.declared.stamps.Stamp.{Stamp}
use Rattle.fab_base.specs.Layouts.{Layout}
use Rattle.fab_disk.specs.declared.disk.Disk as on_disk
use Rattle.messages.specs.declared.calls.Call.{Call}
use Rattle.messages.specs.declared.packets.Message.{Message}
use Rattle.messages.specs.declared.requests.Request.{Request}
use Rattle.messages.specs.declared.replies.Reply.{Reply}
use Rattle.version_log.specs.Versions.{Version}
use Rattle.brick_state.specs.States.{StateOf}
use Rattle.brick_store.specs.Bricks.{Brick}
use Rattle.protocol.specs.Views.{Learnt}
use Rattle.protocol.specs.Ballots.{voting}
use Rattle.replica.specs.declared.faults.ReplicaFault.{ReplicaFault}
use Rattle.replica.specs.declared.plans.Plan.{Plan}
use Rattle.replica.specs.declared.courses.Course.TheVariants.{Void, Tell, TellOld, Serve, Vote}
use Rattle.replica.specs.Members.{Member}
use Rattle.replica.specs.Parts.{ballots_in}
use Rattle.replica.specs.Courses.{VotesBy}
use Rattle.replica.specs.Reactions.{IsStep}
use Rattle.replica.specs.Handling.{Runs, seen_as}
use Rattle.replica.proofs.Messages.{HandlesMessage, message_none, message_seen}
use Rattle.replica.proofs.Keeping.{VoteKept}
use Rattle.replica.proofs.Carrying.{PlanKept}
use Rattle.replica.proofs.Stepping.{Takes, old_told, step_void, step_told, step_old, step_voted, append_void, append_told, append_old, append_voted}
use Rattle.replica.proofs.Decided.{IsDecided, step_decided, append_decided}

module _ {D : Type 0} (d : on_disk.Ghosts D)
    (only_now : (disk : D) (image : List ℕ) → d.left_since disk (d.moment disk) image → d.may_leave disk image) (old : Brick D) (runs : Runs d old)
    (layout : Layout) (me from : BrickId) (call : Call) (request : Request) where
  abbrev asked : Message
  asked = Message.Request call request

  abbrev Asked : Option Message → StateOf Version → Type 0
  Asked = IsStep layout me from asked old.state

  -- the store did what the machine does with the request
  abbrev pub RequestKept : Result (Option Message) ReplicaFault → Brick D → Type 0
  RequestKept result new = HandlesMessage d layout me from asked old new result

  abbrev answer_of : Reply → Message
  answer_of reply = Message.Reply call reply

  pub void_kept : Takes layout me from call request old.state Void → RequestKept (Ok None) old
  void_kept takes =
      message_none d only_now old runs layout me from asked None (step_void layout me from call request old.state takes)
      (λ node parts. append_void layout me from call request old.state node parts takes)

  pub told_kept : (reply : Reply) → Takes layout me from call request old.state (Tell reply) → RequestKept (Ok (Some (answer_of reply))) old
  told_kept reply takes =
      message_none d only_now old runs layout me from asked (Some (answer_of reply)) (step_told layout me from call request old.state reply takes)
      (λ node parts. append_told layout me from call request old.state node parts reply takes)

  pub old_kept : (bound : Option Stamp) → Takes layout me from call request old.state (TellOld bound) → (reply : Reply)
      → reply ≡ old_told layout me from call request old.state bound → RequestKept (Ok (Some (answer_of reply))) old
  old_kept bound takes reply is =
      message_none d only_now old runs layout me from asked (Some (answer_of reply))
      (subst (λ (r : Reply). Asked (Some (answer_of r)) old.state) (sym is) (step_old layout me from call request old.state bound takes))
      (λ node parts. append_old layout me from call request old.state node parts bound takes)

  -- a vote
  pub voted_kept : (learnt : Learnt) (ballot : Ballot) (asks : Option (List BrickId)) → Takes layout me from call request old.state (Vote learnt ballot asks)
      → VotesBy layout old.state call learnt asks → (new : Brick D) (reply : Result (Option Reply) ReplicaFault) (result : Result (Option Message) ReplicaFault)
      → result ≡ seen_as answer_of reply
      → VoteKept d old call (voting call.view.0 learnt (ballots_in old.state call.group.0) ballot asks) reply new → RequestKept result new
  voted_kept learnt ballot asks takes votes new reply result is kept =
      message_seen d only_now old runs layout me from asked answer_of _ (step_voted layout me from call request old.state learnt ballot asks takes votes) _
      (λ node parts. append_voted layout me from call request old.state node parts learnt ballot asks takes) new reply result is kept

  -- a member's reaction
  pub served_kept : (member : Member) (plan : Plan) → IsDecided old layout call request member.m member.seat plan
      → Takes layout me from call request old.state (Serve member) → (new : Brick D) (reply : Result (Option Reply) ReplicaFault)
      (result : Result (Option Message) ReplicaFault) → result ≡ seen_as answer_of reply → PlanKept d old call plan reply new → RequestKept result new
  served_kept member plan is takes new reply result seen kept =
      message_seen d only_now old runs layout me from asked answer_of _ (step_decided old layout me from call request member plan is takes) _
      (λ node parts. append_decided old layout me from call request member plan is takes node parts) new reply result seen kept
