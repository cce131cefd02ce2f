-- What a reply comes to for the read of a synchronisation.
use Rattle.std.specs.Prelude.{◌≡◌, ◌≤◌, ℕ, true, length, [], Option, Some, None, vec_capacity}
use Rattle.fab_base.specs.declared.identities.BrickId.{BrickId}
use Rattle.fab_base.specs.declared.identities.ViewNo.{ViewNo}
use Rattle.fab_base.specs.declared.answers.Answer.{Answer}
use Rattle.fab_base.specs.declared.answers.Cause.{Cause}
use Rattle.fab_base.specs.declared.stamps.Stamp.{Stamp}
use Rattle.fab_base.specs.Layouts.{Layout}
use Rattle.messages.specs.declared.calls.Call.{Call}
use Rattle.messages.specs.declared.packets.Message.{Message}
use Rattle.messages.specs.declared.packets.Message.TheVariants as message
use Rattle.messages.specs.declared.replies.Reply.{Reply}
use Rattle.stripe_code.specs.Codes.{block_code, coding}
use Rattle.protocol.specs.Coordinators.{on_reply}
use Rattle.protocol.specs.Jobs.{abort_cause}
use Rattle.protocol.specs.Nodes.{Node, NodeStep, carried_read, fresh_stamp, with_known}
use Rattle.coord_phase.specs.Messages.{packets_from}
use Rattle.coord_phase.specs.Operations.{counts, heard}
use Rattle.coord_phase.specs.Decisions.{decided_on}
use Rattle.node.specs.declared.call_sources.CallSource.{CallSource}
use Rattle.node.specs.declared.jobs.OpenJob.{OpenJob}
use Rattle.node.specs.declared.jobs.Followed.{Followed}
use Rattle.node.specs.declared.jobs.Prepared.{Prepared}
use Rattle.node.specs.declared.outs.Tellings.{Tellings}
use Rattle.node.specs.declared.jobs.ReadTurn.{ReadTurn}
use Rattle.node.specs.declared.jobs.ReadTurn.TheVariants as turn
use Rattle.node.specs.Decisions.{NeverEnds}
use Rattle.node.specs.Jobs.{FollowsFrom, GoesOn, IsOpenJobOf, MakesFrom, by_cause, closed, followed_step, job_of, reading_of, sent_in, then_told, with_reading}
use Rattle.node.specs.Operations.{coordinator_of, shown_of, EndsOrWaits}

-- there is room for what the end of a read and what comes after it send
pub record IsRoomy (p : Prepared) : Type 0 where
  pub empty : p.room.items ≡ []
  pub room : 96 ≤ vec_capacity p.room
  pub answered : sent_in p.answered ≤ 64
  pub aborted : sent_in p.aborted ≤ 64

-- What may come after a read, by each way in which it may end, at a brick whose next call is from this source; and there is room for all that is sent then.
pub record IsPrepared (layout : Layout) (held : OpenJob) (at : CallSource) (p : Prepared) : Type 0 where
  pub roomy : IsRoomy p
  pub answered : GoesOn layout held.job held.view at None p.answered
  pub aborted : (cause : Cause) → GoesOn layout held.job held.view at (Some cause) (by_cause cause p.aborted)
  pub read_answered : FollowsFrom layout at.seq held.job.group p.answered
  pub read_aborted : FollowsFrom layout at.seq held.job.group p.aborted

-- it is prepared, or the message does not end the read
abbrev pub MayFollow : Layout → OpenJob → CallSource → BrickId → Message → Option Prepared → Type 0
MayFollow layout held at from message None = (fresh : Option Stamp) → NeverEnds (decided_on fresh (shown_of held.read) from message)
MayFollow layout held at from message (Some p) = IsPrepared layout held at p

-- what a brick of the machine does on a reply to the read, once it knows the time that the reply tells
abbrev pub read_step : Layout → CallSource → OpenJob → Node → BrickId → Call → Reply → NodeStep
read_step layout at held node from call reply =
    let c = coordinator_of held.read in
    carried_read (coding layout) at.me at.now (with_reading (Some (reading_of held)) node) at.stamps.known (job_of held) c
    (on_reply layout.block (block_code layout.block) (fresh_stamp at.me c.stamp.view at.now at.stamps.boot at.stamps.known) c from call reply)

-- what it does where the reply comes to this, and the synchronisation is this then
abbrev pub turn_step : BrickId → OpenJob → Node → ReadTurn → NodeStep
turn_step me after node (turn.Goes outs known) =
    record {
      node = with_reading (Some (reading_of after)) (with_known node known);
      packets = packets_from me outs.messages;
      told = outs.told;
      answers = outs.answers;
      reports = outs.reports;
    }
turn_step me after node (turn.Ends told next) = then_told told (followed_step me after.job.group node next)

-- the read is the same call's, of the same synchronisation
pub record IsSameRead (layout : Layout) (before after : OpenJob) : Type 0 where
  pub group : after.job.group ≡ before.job.group
  pub seq : (coordinator_of after.read).call.seq ≡ (coordinator_of before.read).call.seq
  pub of : IsOpenJobOf layout before → IsOpenJobOf layout after

-- all that the machine sees of it is as it was
pub record IsAsBefore (layout : Layout) (before after : OpenJob) : Type 0 where
  pub reading_is : reading_of after ≡ reading_of before
  pub of : IsOpenJobOf layout before → IsOpenJobOf layout after

-- it goes on, or another begins, whose call is the source's next one
abbrev pub LeftSo : Layout → OpenJob → CallSource → ReadTurn → OpenJob → Type 0
LeftSo layout before at (turn.Goes outs known) after = IsSameRead layout before after
LeftSo layout before at (turn.Ends told next) after = FollowsFrom layout at.seq before.job.group next × (told.begun ≡ None)

-- How many messages it sends.
abbrev pub sent_on : ReadTurn → ℕ
sent_on (turn.Goes outs known) = length outs.messages
sent_on (turn.Ends told next) = sent_in next

-- A message to the read, which is a reply, comes to what the machine's brick does.
pub record IsReadTurn (layout : Layout) (before : OpenJob) (from : BrickId) (told : Message) (at : CallSource) (turned : ReadTurn) (after : OpenJob) : Type 0 where
  pub group : after.job.group ≡ before.job.group
  pub step : (node : Node) (call : Call) (reply : Reply) → told ≡ message.Reply call reply → MakesFrom at node
      → node.calls (coordinator_of before.read).call.seq ≡ None
      → read_step layout at before node from call reply ≡ turn_step at.me after node turned
  pub left : LeftSo layout before at turned after

-- The read has counted a message that counts, and waits for more.
pub record HasCountedRead (from : BrickId) (message : Message) (before after : OpenJob) : Type 0 where
  pub counted : counts (shown_of before.read) from message ≡ true
  pub now_is : coordinator_of after.read ≡ (heard (shown_of before.read) from message).state
  pub block : (shown_of after.read).block ≡ (shown_of before.read).block
  pub job_is : after.job ≡ before.job
  pub view_is : after.view ≡ before.view

-- What a member's reply that counts, and tells this later view, comes to: the read ends, of which this is told, and this comes after it; or it waits for more.
abbrev pub MovesOn : Layout → OpenJob → BrickId → ViewNo → CallSource → Option (Tellings × Followed) → Type 0
MovesOn layout held from view at None = EndsOrWaits (coordinator_of held.read) from view None
MovesOn layout held from view at (Some next) =
    (answer : Answer) × EndsOrWaits (coordinator_of held.read) from view (Some answer)
    × (next.0 ≡ closed (coordinator_of held.read).call.seq None (abort_cause answer)) × GoesOn layout held.job held.view at (abort_cause answer) next.1
    × FollowsFrom layout at.seq held.job.group next.1 × (sent_in next.1 ≤ 64)
