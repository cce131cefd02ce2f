-- A run: the steps of a schedule, one after another, over the disk of a layout.
use Rattle.std.specs.Prelude.{ℕ, nat_lt, if◌then◌else◌, List, [], ◌∷◌, ◌++◌, map, Option, Some, None}
use Rattle.fab_base.specs.declared.identities.BrickId.{BrickId}
use Rattle.fab_base.specs.declared.identities.GroupId.{GroupId}
use Rattle.fab_base.specs.declared.identities.StripeNo.{StripeNo}
use Rattle.fab_base.specs.declared.asks.Ask.{Ask}
use Rattle.fab_base.specs.declared.asks.Op.{Op}
use Rattle.fab_base.specs.declared.asks.Op.TheVariants as op
use Rattle.fab_base.specs.declared.answers.Refusal.{Refusal}
use Rattle.fab_base.specs.declared.answers.Refusal.TheVariants.{Down}
use Rattle.fab_disk.specs.declared.mem_disk.MemDisk.{MemDisk}
use Rattle.lines.specs.declared.forms.Access.{Access}
use Rattle.lines.specs.declared.forms.Access.TheVariants.{ReadBlock, WriteBlock, ReadStripe, WriteStripe}
use Rattle.lines.specs.declared.forms.Line.{Line}
use Rattle.lines.specs.declared.forms.Line.TheVariants.{Nothing, Invoke, Deliver, SetClock, Tick, Crash, Start, Propose, Sync, Scrub, Suspect, Trust, Spare, Calm}
use Rattle.fab_base.specs.Layouts.{Layout}
use Rattle.protocol.specs.Settings.{Setting}
use Rattle.protocol.specs.Nodes.{refusal_of, proposal_refusal, sync_refusal, scrub_refusal}
use Rattle.protocol.specs.Worlds.{World, Event, Invokes, Proposes, Syncs, Scrubs, Delivers, Sets, Ticks, Stops, Starts, Before, first_world, is_up, run}
use Rattle.stripe_code.specs.Codes.{coding}

-- a line of a schedule that was run, and the events of the machine that it was
pub record Step : Type 0 where
  pub line : Line
  pub events : List Event

-- the steps that were run over the disk of this layout, and the disk of each brick now, by number
pub record Run : Type 0 where
  pub layout : Layout
  pub steps : List Step
  pub disks : List MemDisk

-- how far a simulation has come: the steps that were run to their end, and the events so far of a line that is being run
pub record Course : Type 0 where
  pub steps : List Step
  pub events : List Event

-- the brick of a number
abbrev pub brick_of : ℕ → BrickId
brick_of b = record { 0 = b }

-- the operation on a stripe of a group
abbrev pub ask_of : ℕ → ℕ → Op → Ask
ask_of g s op = record { group = record { 0 = g }; stripe = record { 0 = s }; op = op }

-- a data block, as a brick is asked for it: every number past 255 is as far past a group's last block as that is
abbrev pub block_no : ℕ → ℕ
block_no j = if nat_lt j 256 then j else 255

-- what an operation is to do, as a brick is asked
abbrev pub op_of : Access → Op
op_of (ReadBlock j) = op.ReadBlock (block_no j)
op_of (WriteBlock j bytes) = op.WriteBlock (block_no j) bytes
op_of ReadStripe = op.ReadStripe
op_of (WriteStripe bytes) = op.WriteStripe bytes

-- the group of a number
abbrev pub group_no : ℕ → GroupId
group_no g = record { 0 = g }

-- the stripe of a number
abbrev pub stripe_no : ℕ → StripeNo
stripe_no s = record { 0 = s }

-- a member that a line names, as a brick is asked for it: every number past 65535 is as far past the last brick of a layout as that is
abbrev pub member_no : ℕ → BrickId
member_no number = brick_of (if nat_lt number 65536 then number else 65535)

-- The events of a line of which no disk decides: a brick stops during no handling, and one that is not down does not start. An operation that is
-- to run alone does not, and where a brick is to replace what it suspects, it proposes nothing. What a brick suspects is no event.
abbrev pub events_of : Line → List Event
events_of Nothing = []
events_of (Invoke b g s access) = Invokes (brick_of b) (ask_of g s (op_of access)) ∷ []
events_of (Deliver k fault) = Delivers k ∷ []
events_of (SetClock b v) = Sets (brick_of b) v ∷ []
events_of (Tick b) = Ticks (brick_of b) ∷ []
events_of (Crash b) = Stops (brick_of b) None ∷ []
events_of (Start b fault) = Starts (brick_of b) 1 Before ∷ []
events_of (Propose b g members) = Proposes (brick_of b) (group_no g) (map member_no members) ∷ []
events_of (Sync b g) = Syncs (brick_of b) (group_no g) ∷ []
events_of (Scrub b g s members) = Scrubs (brick_of b) (group_no g) (stripe_no s) (map member_no members) ∷ []
events_of (Suspect b c) = []
events_of (Trust b c) = []
events_of (Spare b g) = []
events_of (Calm n bricks) = []

-- the events of steps, in order
abbrev pub all_events : List Step → List Event
all_events [] = []
all_events (step ∷ steps) = step.events ++ all_events steps

-- the world of the machine that a simulation has come to
abbrev pub world_at : Layout → Course → World
world_at layout course = run (coding layout) (all_events course.steps ++ course.events) (first_world layout)

-- its course with these events more
abbrev pub with_events : Course → List Event → Course
with_events course more = record course { events = course.events ++ more }

-- the world of the machine that a run leaves
abbrev pub world_of : Run → World
world_of r = run (coding r.layout) (all_events r.steps) (first_world r.layout)

-- why a brick does not begin an operation, where it does not: it is not up, or it refuses
abbrev pub refusal_at : Setting → World → BrickId → Ask → Option Refusal
refusal_at setting w brick ask =
    if is_up setting.layout w brick then refusal_of setting.layout (w.nodes brick.0) ask else Some Down

-- why a brick does not begin a proposal, where it does not: it is not up, or it refuses
abbrev pub proposal_refusal_at : Setting → World → BrickId → GroupId → Option Refusal
proposal_refusal_at setting w brick group =
    if is_up setting.layout w brick then proposal_refusal setting.layout (w.nodes brick.0) group.0 else Some Down

-- why a brick does not begin a synchronisation, where it does not: it is not up, or it refuses
abbrev pub sync_refusal_at : Setting → World → BrickId → GroupId → Option Refusal
sync_refusal_at setting w brick group =
    if is_up setting.layout w brick then sync_refusal setting.layout (w.nodes brick.0) group.0 else Some Down

-- why a brick does not begin a scrub, where it does not: it is not up, or it refuses
abbrev pub scrub_refusal_at : Setting → World → BrickId → GroupId → StripeNo → List BrickId → Option Refusal
scrub_refusal_at setting w brick group stripe members =
    if is_up setting.layout w brick then scrub_refusal setting.layout (w.nodes brick.0) group stripe members else Some Down
