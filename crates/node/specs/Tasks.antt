-- All that a brick has under way, as the machine sees it.
use Rattle.std.specs.Prelude.{◌≡◌, ◌≤◌, ◌+◌, ℕ, nat_eq, Bool, true, false, if◌then◌else◌, length, Option, Some, None}
use Rattle.std.specs.Ordering.{nat_cmp}
use Rattle.std.specs.BTreeMap.{get}
use Rattle.fab_base.specs.declared.identities.BrickId.{BrickId}
use Rattle.fab_base.specs.Layouts.{Layout}
use Rattle.messages.specs.declared.calls.Call.{Call}
use Rattle.messages.specs.declared.packets.Message.{Message}
use Rattle.messages.specs.declared.packets.Message.TheVariants as message
use Rattle.messages.specs.declared.replies.Reply.{Reply}
use Rattle.stripe_code.specs.Codes.{coding}
use Rattle.coord_phase.specs.Operations.{counts}
use Rattle.protocol.specs.Nodes.{Node, NodeStep, no_step, replied_at}
use Rattle.node.specs.declared.jobs.OpenJob.{OpenJob}
use Rattle.node.specs.declared.open_calls.OpenCalls.{OpenCalls}
use Rattle.node.specs.declared.scrubs.OpenScrub.{OpenScrub}
use Rattle.node.specs.declared.tasks.Tasks.{Tasks}
use Rattle.node.specs.declared.tasks.TaskTurn.{TaskTurn}
use Rattle.node.specs.declared.tasks.TaskTurn.TheVariants as turn
use Rattle.node.specs.Jobs.{FollowsFrom, IsOpenJobOf, followed_step, reading_in, sent_in, then_told, with_reading}
use Rattle.node.specs.Moves as moves
use Rattle.node.specs.Moves.{IsTurn, OpenIfEnds}
use Rattle.node.specs.Operations.{coordinator_of, shown_of}
use Rattle.node.specs.Reads.{HasCountedRead}
use Rattle.node.specs.Scrubs.{HasCountedScrub, IsScrubAside, IsScrubOf, scrub_seq, scrub_shown, scrubbing_in, with_scrubbing}
use Rattle.node.specs.States.{KeptParts, state_in, IsWorkOf, StepsAs}

-- the state of a brick that keeps this, and has this under way
abbrev pub tasks_in : KeptParts → Tasks → Node
tasks_in kept tasks = with_scrubbing (scrubbing_in tasks.scrub) (with_reading (reading_in tasks.job) (state_in kept tasks.work))

-- the number of the call of a synchronisation's read
abbrev pub read_seq : OpenJob → ℕ
read_seq held = (coordinator_of held.read).call.seq

-- a synchronisation, if there is one, has a read of another call than that of this number
abbrev pub IsAside : Option OpenJob → ℕ → Type 0
IsAside None seq = Unit {0}
IsAside (Some held) seq = nat_eq (read_seq held) seq ≡ false

-- it has a read of the call of this number
abbrev pub ReadsAt : Option OpenJob → ℕ → Type 0
ReadsAt None seq = ⊥
ReadsAt (Some held) seq = nat_eq (read_seq held) seq ≡ true

-- A synchronisation of a brick of this layout: its read has a call of its own, that was made since the brick was started.
pub record IsJobAt (layout : Layout) (calls : OpenCalls) (held : OpenJob) : Type 0 where
  pub open_is : IsOpenJobOf layout held
  pub made : read_seq held ≤ calls.seq
  pub apart : get nat_cmp calls.operations (read_seq held) ≡ None

abbrev pub IsJobIn : Layout → OpenCalls → Option OpenJob → Type 0
IsJobIn layout calls None = Unit {0}
IsJobIn layout calls (Some held) = IsJobAt layout calls held

-- a scrub has another call than this synchronisation's read
abbrev pub ApartFromJob : Option OpenJob → OpenScrub → Type 0
ApartFromJob None held = Unit {0}
ApartFromJob (Some job) held = nat_eq (read_seq job) (scrub_seq held) ≡ false

-- A scrub of a brick of this layout: it has a call of its own, that was made since the brick was started.
pub record IsScrubAt (layout : Layout) (calls : OpenCalls) (job : Option OpenJob) (held : OpenScrub) : Type 0 where
  pub scrub_is : IsScrubOf layout held
  pub made : scrub_seq held ≤ calls.seq
  pub apart : get nat_cmp calls.operations (scrub_seq held) ≡ None
  pub aside : ApartFromJob job held

abbrev pub IsScrubIn : Layout → OpenCalls → Option OpenJob → Option OpenScrub → Type 0
IsScrubIn layout calls job None = Unit {0}
IsScrubIn layout calls job (Some held) = IsScrubAt layout calls job held

-- all that is under way is of a brick of this layout
pub record AreTasksOf (layout : Layout) (tasks : Tasks) : Type 0 where
  pub work_is : IsWorkOf layout tasks.work
  pub job_is : IsJobIn layout tasks.work.calls tasks.job
  pub scrub_is : IsScrubIn layout tasks.work.calls tasks.job tasks.scrub

-- they are of the same opening of the same brick's store; if those before were of this layout, so are those after
pub record AreSameTasks (layout : Layout) (before after : Tasks) : Type 0 where
  pub me : after.work.calls.me ≡ before.work.calls.me
  pub boot : after.work.calls.stamps.boot ≡ before.work.calls.stamps.boot
  pub of : AreTasksOf layout before → AreTasksOf layout after

-- ---- replies

-- a message counts in a scrub, if that has the call of this number, or else in the operation of that or in the proposal
abbrev pub counts_beside : Tasks → Option OpenScrub → ℕ → BrickId → Message → Bool
counts_beside tasks None seq from message = moves.counts_at tasks.work seq from message
counts_beside tasks (Some held) seq from message =
    if nat_eq (scrub_seq held) seq then counts (scrub_shown held) from message else moves.counts_at tasks.work seq from message

-- a message counts in a synchronisation's read, if that has the call of this number, or else in the scrub, in the operation of that or in the proposal
abbrev pub counts_among : Tasks → Option OpenJob → ℕ → BrickId → Message → Bool
counts_among tasks None seq from message = counts_beside tasks tasks.scrub seq from message
counts_among tasks (Some held) seq from message =
    if nat_eq (read_seq held) seq then counts (shown_of held.read) from message else counts_beside tasks tasks.scrub seq from message

abbrev pub counts_at : Tasks → ℕ → BrickId → Message → Bool
counts_at tasks seq from message = counts_among tasks tasks.job seq from message

-- the machine's step on a reply, of a brick that keeps this and has this under way, at a time of its clock
abbrev pub step_on : Layout → ℕ → BrickId → Call → Reply → Tasks → KeptParts → NodeStep
step_on layout now from call reply tasks kept =
    replied_at (coding layout) tasks.work.calls.me now from (tasks_in kept tasks) call reply ((tasks_in kept tasks).calls call.seq)

-- the read of the synchronisation has counted a message, and nothing else has changed
pub record CountsRead (from : BrickId) (message : Message) (before after : Tasks) : Type 0 where
  pub was : OpenJob
  pub now : OpenJob
  pub job_before : before.job ≡ Some was
  pub job_after : after.job ≡ Some now
  pub counted : HasCountedRead from message was now
  pub work_is : after.work ≡ before.work
  pub scrub_is : after.scrub ≡ before.scrub

-- the scrub has counted a message, and nothing else has changed
pub record CountsScrub (from : BrickId) (message : Message) (before after : Tasks) : Type 0 where
  pub was : OpenScrub
  pub now : OpenScrub
  pub scrub_before : before.scrub ≡ Some was
  pub scrub_after : after.scrub ≡ Some now
  pub counted : HasCountedScrub from message was now
  pub work_is : after.work ≡ before.work
  pub job_is : after.job ≡ before.job

-- What a reply comes to, where so much of it is done already, at a time of the brick's clock. It is one to an operation or to the proposal. Or the read of the
-- synchronisation, or the scrub, has counted it, and that was all. Or nothing is done yet: the read ends, and this comes after it; or the scrub ends so.
abbrev pub IsTaskTurn : Layout → ℕ → BrickId → Call → Reply → Tasks → TaskTurn → Tasks → Type 0
IsTaskTurn layout now from call reply before (turn.Work t) after =
    IsTurn layout from call reply before.work t after.work × (after.job ≡ before.job) × (after.scrub ≡ before.scrub)
    × IsAside before.job call.seq × IsScrubAside before.scrub call.seq × IsWorkOf layout before.work
IsTaskTurn layout now from call reply before turn.CountedRead after =
    CountsRead from (message.Reply call reply) before after
    × ((kept : KeptParts) → step_on layout now from call reply before kept ≡ no_step (tasks_in kept after))
IsTaskTurn layout now from call reply before (turn.Follows group told next) after =
    (after ≡ before) × (told.begun ≡ None) × FollowsFrom layout before.work.calls.seq group next
    × ((kept : KeptParts) → step_on layout now from call reply before kept
    ≡ then_told told (followed_step before.work.calls.me group (tasks_in kept (record before { job = None })) next))
IsTaskTurn layout now from call reply before turn.CountedScrub after =
    CountsScrub from (message.Reply call reply) before after
    × ((kept : KeptParts) → step_on layout now from call reply before kept ≡ no_step (tasks_in kept after))
IsTaskTurn layout now from call reply before (turn.EndsScrub outs) after =
    (after ≡ before)
    × ((kept : KeptParts) → StepsAs before.work.calls.me (tasks_in kept (record before { scrub = None })) (step_on layout now from call reply before kept) outs)

-- if an operation is to end, it is open; and if another read begins, its call is the next, and not that of the scrub
abbrev pub MayFinish : TaskTurn → ℕ → Tasks → Type 0
MayFinish (turn.Work t) seq tasks = OpenIfEnds t (get nat_cmp tasks.work.calls.operations seq)
MayFinish turn.CountedRead seq tasks = Unit {0}
MayFinish (turn.Follows group told next) seq tasks =
    (layout : Layout) × FollowsFrom layout tasks.work.calls.seq group next × (told.begun ≡ None) × (sent_in next ≤ 64)
    × IsScrubAside tasks.scrub (tasks.work.calls.seq + 1)
MayFinish turn.CountedScrub seq tasks = Unit {0}
MayFinish (turn.EndsScrub outs) seq tasks = length outs.messages ≤ 64
