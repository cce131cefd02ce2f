-- The synchronisation of a brick, as the machine sees it.
use Rattle.std.specs.Prelude.{◌≡◌, ℕ, ◌+◌, ◌++◌, length, List, [], ◌∷◌, Option, Some, None, Bool, true, false}
use Rattle.std.specs.Option.{option_map}
use Rattle.fab_base.specs.declared.identities.BrickId.{BrickId}
use Rattle.fab_base.specs.declared.identities.GroupId.{GroupId}
use Rattle.fab_base.specs.declared.answers.Cause.{Cause}
use Rattle.fab_base.specs.declared.member_lists.View.{View}
use Rattle.fab_base.specs.Layouts.{Layout, Group}
use Rattle.messages.specs.declared.packets.Packet.{Packet}
use Rattle.quorum.specs.Quorums.{IsWithinLimits}
use Rattle.protocol.specs.declared.tellings.SyncAnswer.TheVariants.{Synced, Stopped, Spent}
use Rattle.protocol.specs.declared.tellings.SyncAnswer.{SyncAnswer}
use Rattle.protocol.specs.Views.{group_kept}
use Rattle.protocol.specs.Coordinators.{Coordinator}
use Rattle.protocol.specs.declared.tellings.Answered.{Answered}
use Rattle.protocol.specs.Jobs.{Job, abort_cause, job_after}
use Rattle.protocol.specs.declared.tellings.Report.{Report}
use Rattle.protocol.specs.declared.tellings.Told.{Told}
use Rattle.protocol.specs.declared.tellings.Told.TheVariants.{Began, Closed}
use Rattle.protocol.specs.Nodes.{Node, NodeStep, put, reading, reporting, with_job, job_goes, read_begun, synced_packets}
use Rattle.coord_phase.specs.Messages.{packets_from}
use Rattle.coord_phase.specs.Operations.{PriorIsWithinLimits}
use Rattle.stripe_code.specs.Codes.{coding}
use Rattle.view_sync.specs.Jobs.{Synchronising}
use Rattle.node.specs.declared.call_sources.CallSource.{CallSource}
use Rattle.node.specs.declared.jobs.OpenJob.{OpenJob}
use Rattle.node.specs.declared.jobs.Followed.{Followed}
use Rattle.node.specs.declared.jobs.Followed.TheVariants as followed
use Rattle.node.specs.declared.outs.Tellings.{Tellings}
use Rattle.node.specs.Operations.{coordinator_of, IsOperationOf}
use Rattle.node.specs.Outcomes.{told_list}

-- ---- what is under way

-- a synchronisation that is under way, and the coordinator of its read
pub record Reading : Type 0 where
  pub job : Job
  pub read : Coordinator

-- the machine's synchronisation of a view, whose read has the call of this number
abbrev pub job_at : Synchronising → View → ℕ → Job
job_at job view seq = record { group = job.group; view = view; attempt = job.attempt; seq = seq }

-- that of a brick that has this under way
abbrev pub job_of : OpenJob → Job
job_of held = job_at held.job held.view (coordinator_of held.read).call.seq

abbrev pub reading_of : OpenJob → Reading
reading_of held = record { job = job_of held; read = coordinator_of held.read }

abbrev pub reading_in : Option OpenJob → Option Reading
reading_in held = option_map reading_of held

-- open operations by the numbers of their calls, with the read of a synchronisation, if there is one
abbrev pub calls_with : Option Reading → (ℕ → Option Coordinator) → ℕ → Option Coordinator
calls_with None calls = calls
calls_with (Some r) calls = put calls r.job.seq (Some r.read)

-- the machine's brick, with this synchronisation under way, or with none
abbrev pub with_reading : Option Reading → Node → Node
with_reading r node = record node { calls = calls_with r node.calls; job = option_map (λ (x : Reading). x.job) r }

-- The members of a view of a group of the layout keep the group so; and they, and those before them, are within the limits of a quorum.
pub record IsKeptBy (layout : Layout) (number : GroupId) (view : View) (group : Group) : Type 0 where
  pub found : group_kept layout view.members number.0 ≡ Some group
  pub limits : IsWithinLimits group.m (length view.members)
  pub prior : PriorIsWithinLimits group.m view.number view.prior

-- A synchronisation of a view of a group, of so many stripes, as the view's members keep it.
pub record IsJobOf (layout : Layout) (job : Synchronising) (view : View) (group : Group) : Type 0 where
  pub keeps : IsKeptBy layout job.group view group
  pub stripes : job.stripes ≡ group.stripes
  pub number : job.view ≡ view.number

-- A synchronisation at a brick of the layout: its read is of the same group.
pub record IsOpenJobOf (layout : Layout) (held : OpenJob) : Type 0 where
  pub job_is : IsJobOf layout held.job held.view (coordinator_of held.read).group
  pub is_operation : IsOperationOf layout held.read

-- ---- what comes after a read

-- a brick of the machine makes its next call from this source
pub record MakesFrom (at : CallSource) (node : Node) : Type 0 where
  pub boot : node.boot ≡ at.stamps.boot
  pub seq : node.seq ≡ at.seq
  pub known : node.known ≡ at.stamps.known

-- What this brick of the machine does for its synchronisation of a group, where this is what comes next: it begins the read; or it sends these messages, and
-- reports the end.
abbrev pub followed_step : BrickId → GroupId → Node → Followed → NodeStep
followed_step me group node (followed.Reads messages held) =
    record {
      node = reading node (job_of held) (coordinator_of held.read);
      packets = packets_from me messages.items;
      told = Began (coordinator_of held.read).call ∷ [];
      answers = [];
      reports = [];
    }
followed_step me group node (followed.Ends messages answer) = reporting (with_job node None) (packets_from me messages.items) (Report.Sync group answer)

-- if another read of this group begins, its call is the source's next one, and it is of the same view
abbrev pub FollowsFrom : Layout → ℕ → GroupId → Followed → Type 0
FollowsFrom layout seq group (followed.Reads messages held) =
    IsOpenJobOf layout held × ((coordinator_of held.read).call.seq ≡ seq + 1) × (held.job.group ≡ group)
FollowsFrom layout seq group (followed.Ends messages answer) = Unit {0}

-- how many messages it sends
abbrev pub sent_in : Followed → ℕ
sent_in (followed.Reads messages held) = length messages.items
sent_in (followed.Ends messages answer) = length messages.items

-- where it ends for want of tries, it does so by this cause
abbrev pub stopped_by : Cause → SyncAnswer → SyncAnswer
stopped_by cause (Synced view) = Synced view
stopped_by cause (Stopped stripe other) = Stopped stripe cause
stopped_by cause (Spent stripe) = Spent stripe

abbrev pub by_cause : Cause → Followed → Followed
by_cause cause (followed.Reads messages held) = followed.Reads messages held
by_cause cause (followed.Ends messages answer) = followed.Ends messages (stopped_by cause answer)

-- what a synchronisation of a view does after a read that was aborted by a cause or answered, at a brick whose next call is from this source
abbrev pub GoesOn : Layout → Synchronising → View → CallSource → Option Cause → Followed → Type 0
GoesOn layout job view at cause next =
    (node : Node) (seq : ℕ) → MakesFrom at node
    → job_goes (coding layout) at.me at.now node (job_at job view seq) (job_after job.stripes job.attempt cause) ≡ followed_step at.me job.group node next

-- what it does first, where all stripes are known to be kept in its view, or not
abbrev pub begins_sync : Layout → BrickId → ℕ → Node → Job → Bool → NodeStep
begins_sync layout me now node job true = reporting node [] (Report.Sync job.group (Synced job.view.number))
begins_sync layout me now node job false = read_begun (coding layout) me now node job

-- what is sent as a synchronisation of a group ends so
abbrev pub end_packets : Layout → BrickId → GroupId → SyncAnswer → List Packet
end_packets layout me group (Synced view) = synced_packets me group view layout.bricks 0
end_packets layout me group (Stopped stripe cause) = []
end_packets layout me group (Spent stripe) = []

-- what comes after a read that was aborted by this cause or answered, of what comes after one that was answered, and after one that was aborted
abbrev pub ended_by : Option Cause → Followed → Followed → Followed
ended_by None answered aborted = answered
ended_by (Some cause) answered aborted = by_cause cause aborted

-- the cause by which a read was aborted, if one ended with these answers and was
abbrev pub cause_in : List Answered → Option Cause
cause_in [] = None
cause_in (answered ∷ answers) = abort_cause answered.answer

-- a step that has sent these packets before
abbrev pub sends_first : List Packet → NodeStep → NodeStep
sends_first packets step = record step { packets = packets ++ step.packets }

-- what is told of a read of this call that has ended: this of its version, if anything, and that it was aborted by a cause or answered
abbrev pub closed : ℕ → Option Told → Option Cause → Tellings
closed seq version cause = record { version = version; ended = Some (Closed seq cause); begun = None }

-- a step that has told this before
abbrev pub then_told : Tellings → NodeStep → NodeStep
then_told told step = record step { told = told_list told ++ step.told }
