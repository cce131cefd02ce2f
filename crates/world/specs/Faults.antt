-- Which events of the machine a line of a schedule is, where a call of a disk may be cut short or fail in the midst of it.
use Rattle.std.specs.Prelude.{◌≡◌, ◌⊎◌, ℕ, ◌+◌, ◌<◌, ◌≤◌, Bool, true, false, List, [], ◌∷◌, map, Option, Some, None, slice_get}
use Rattle.fab_base.specs.declared.identities.BrickId.{BrickId}
use Rattle.fab_base.specs.Layouts.{Layout}
use Rattle.fab_disk.specs.declared.disk.Disk as on_disk
use Rattle.fab_disk.specs.declared.disk.Plan.{Plan}
use Rattle.fab_disk.specs.declared.disk.Plan.TheVariants.{Never, Stop}
use Rattle.fab_disk.specs.declared.disk.Plan.TheVariants as plan
use Rattle.fab_disk.specs.Disk.{Only}
use Rattle.fab_disk.specs.Plan.{IsWithin, calls_made}
use Rattle.fab_disk.specs.Settled.{settled_at}
use Rattle.fab_disk.specs.MemDisk.{content_of, past_of_disk, may_be_left, certain_of, was_left_since, moment_of, is_unlisted, room_of, IsSound}
use Rattle.fab_disk.specs.MemDisk.{plan_of as plan_in}
use Rattle.fab_disk.specs.declared.mem_disk.MemDisk.{MemDisk}
use Rattle.frame_store.specs.declared.frames.Frame.{Frame}
use Rattle.frame_store.specs.declared.shapes.Form.{Form}
use Rattle.frame_store.specs.Layouts.{formed}
use Rattle.frame_store.specs.Images.{OpensAs}
use Rattle.messages.specs.declared.packets.Packet.{Packet}
use Rattle.brick_store.specs.Images.{IsListed}
use Rattle.brick_store.specs.Openings.{calls_on_opening}
use Rattle.node.specs.Calls.{packet_calls}
use Rattle.node.specs.Running.{shape_at, ImageShows, ShowsEither, reopened}
use Rattle.lines.specs.declared.forms.Fault.{Fault}
use Rattle.lines.specs.declared.forms.Fault.TheVariants.{Cut, Fail}
use Rattle.lines.specs.declared.forms.Line.{Line}
use Rattle.lines.specs.declared.forms.Line.TheVariants.{Deliver, Crash, Start, Calm}
use Rattle.stripe_code.specs.Codes.{coding}
use Rattle.protocol.specs.Nodes.{Node, absorbed, stopped, may_open}
use Rattle.protocol.specs.Worlds.{World, Event, Delivers, Stops, Starts, Found, Before, After, is_up, packet_of}
use Rattle.world.specs.Runs.{brick_of, events_of}
use Rattle.protocol.specs.Calms.{operation_marked}
use Rattle.world.specs.Calms.{IsCalmRun}
use Rattle.world.specs.EventCalls.{is_down}

-- what a disk in memory tells of itself
abbrev pub in_memory : on_disk.Ghosts MemDisk
in_memory = record {
  tells = Unit {0};
  seen = content_of;
  may_leave = may_be_left;
  moment = moment_of;
  certain = certain_of;
  left_since = was_left_since;
  faults = λ disk. disk.faults;
  sound = IsSound;
  plan = plan_in;
  unlisted = is_unlisted;
  has_room = room_of;
}

-- what is to befall a call of the disk
abbrev pub plan_of : Option Fault → Plan
plan_of None = Never
plan_of (Some (Cut call pick)) = Stop call
plan_of (Some (Fail call)) = plan.Fail call

-- the brick, with its store opened so many times more
abbrev pub opened_more : ℕ → Node → Node
opened_more openings node = record node { boot = node.boot + openings }

-- Of a brick that is down: its store keeps what it kept before the handling that its stop cut short, or what that would have kept, and was
-- opened any number of times since.
pub record ShowsOne (layout : Layout) (me : BrickId) (before after : Node) (image : List ℕ) : Type 0 where
  pub openings : ℕ
  pub either : ShowsEither layout me (opened_more openings before) (opened_more openings after) image

-- so says what a read gives, and whatever a crash may leave
pub record HoldsOne (layout : Layout) (me : BrickId) (before after : Node) (disk : MemDisk) : Type 0 where
  pub seen : ShowsOne layout me before after (content_of disk)
  pub durable : (image : List ℕ) → may_be_left disk image → ShowsOne layout me before after image

-- A disk that was cut holds what this pick makes of it as it was, and nothing else may be left. One that failed is as it was.
pub record IsCut (pick : ℕ) (was disk : MemDisk) : Type 0 where
  pub content : content_of disk ≡ settled_at pick (past_of_disk was) (content_of was)
  pub only : Only (content_of disk) (may_be_left disk)

abbrev pub LeftBy : Option Fault → MemDisk → MemDisk → Type 0
LeftBy (Some (Cut call pick)) was disk = IsCut pick was disk
LeftBy (Some (Fail call)) was disk = disk ≡ was
LeftBy None was disk = disk ≡ was

-- What a read gives at the call that this befell, in an event of so many calls: the brick before the event, until its last call but one was made, and
-- from then on the brick after it. A call that stops counts as made, and one that fails does not.
pub record ReadsAs (layout : Layout) (me : BrickId) (before after : Node) (calls : ℕ) (fault : Option Fault) (disk : MemDisk) : Type 0 where
  pub early : calls_made (plan_of fault) + 2 ≤ calls → ImageShows layout me before (content_of disk)
  pub late : calls < calls_made (plan_of fault) + 2 → ImageShows layout me after (content_of disk)

-- What is left of the disk of a brick that this befell in the midst of a delivery of so many calls. As it was at the call, whatever a crash might have
-- left shows the brick before the delivery or after it, its store opened as often as before, and what the last sync left the brick before it.
pub record IsLeft (layout : Layout) (me : BrickId) (before after : Node) (calls : ℕ) (fault : Option Fault) (disk : MemDisk) : Type 0 where
  pub was : MemDisk
  pub holds : (image : List ℕ) → may_be_left was image → ShowsEither layout me before after image
  pub synced : ImageShows layout me before (certain_of was)
  pub reads : ReadsAs layout me before after calls fault was
  pub left : LeftBy fault was disk

-- the handling of a packet by the brick that this disk keeps makes the call that the plan names
pub record IsReached (layout : Layout) (me : BrickId) (node : Node) (packet : Packet) (disk : MemDisk) (plan : Plan) : Type 0 where
  pub listed : ℕ
  pub is_listed : IsListed (shape_at layout me) listed (content_of disk)
  pub within : IsWithin (packet_calls layout me node packet listed) plan

-- so does the opening of this disk
pub record IsReachedOpening (layout : Layout) (me : BrickId) (disk : MemDisk) (plan : Plan) : Type 0 where
  pub form : Form
  pub frames : List Frame
  pub closed : Bool
  pub opens : OpensAs (formed form (shape_at layout me)) frames closed (content_of disk)
  pub within : IsWithin (calls_on_opening (formed form (shape_at layout me)) frames closed) plan

-- the message of a number, where its handling makes the call that the plan names
pub record IsStruck (layout : Layout) (w : World) (disks : List MemDisk) (number : ℕ) (plan : Plan) : Type 0 where
  pub packet : Packet
  pub sent : packet_of w.packets number ≡ Some packet
  pub up : is_up layout w packet.to ≡ true
  pub disk : MemDisk
  pub disk_is : slice_get disks packet.to.0 ≡ Some disk
  pub reached : IsReached layout packet.to (w.nodes packet.to.0) packet disk plan

-- A delivery in whose midst its brick stops.
pub record StopsMidway (layout : Layout) (w : World) (old new : List MemDisk) (number : ℕ) (fault : Option Fault) (events : List Event) : Type 0 where
  pub struck : IsStruck layout w old number (plan_of fault)
  pub events_are : events ≡ Stops struck.packet.to (Some number) ∷ []
  pub left : (disk : MemDisk) → slice_get new struck.packet.to.0 ≡ Some disk
      → IsLeft layout struck.packet.to (stopped (w.nodes struck.packet.to.0))
      (stopped (absorbed (coding layout) struck.packet.to (w.nodes struck.packet.to.0) struck.packet))
      (packet_calls layout struck.packet.to (w.nodes struck.packet.to.0) struck.packet struck.reached.listed) fault disk

-- a delivery that makes no such call
pub record IsDelivered (layout : Layout) (w : World) (old : List MemDisk) (number : ℕ) (fault : Option Fault) (events : List Event) : Type 0 where
  pub spared : IsStruck layout w old number (plan_of fault) → ⊥
  pub events_are : events ≡ Delivers number ∷ []

-- which of the two was found
abbrev pub found_of : Node → Node → Found → Node
found_of before after Before = before
found_of before after After = after

-- what a disk opens as: one of the two, its store opened so many times since
pub record Finds (layout : Layout) (me : BrickId) (before after : Node) (disk : MemDisk) : Type 0 where
  pub openings : ℕ
  pub found : Found
  pub shows : ImageShows layout me (opened_more openings (found_of before after found)) (content_of disk)

-- the brick that was found, its store opened as often as it was
abbrev pub found_in : {layout : Layout} {me : BrickId} {before after : Node} {disk : MemDisk} → Finds layout me before after disk → Node
found_in {before = before} {after = after} finds = opened_more finds.openings (found_of before after finds.found)

-- What is left of the disk of a brick whose start was cut short, where its opening makes so many calls. Whatever a crash might have left then it might
-- have left before the start, or it shows what was found, or that with its store opened once more. What the last sync left is as it was before the
-- start, or shows what was found. A read gives what was found, or that with its store opened once more.
pub record IsLeftOpening (layout : Layout) (me : BrickId) (before after : Node) (old : MemDisk) (finds : Finds layout me before after old) (calls : ℕ)
    (fault : Option Fault) (disk : MemDisk) : Type 0 where
  pub was : MemDisk
  pub holds : (image : List ℕ) → may_be_left was image
      → may_be_left old image ⊎ ShowsEither layout me (found_in finds) (reopened (found_in finds)) image
  pub synced : (certain_of was ≡ certain_of old) ⊎ ImageShows layout me (found_in finds) (certain_of was)
  pub reads : ReadsAs layout me (found_in finds) (reopened (found_in finds)) calls fault was
  pub left : LeftBy fault was disk

-- A start of a brick that is down: its disk opens as what it is found to hold, and this opening is one more. It is cut short where it makes the
-- call that the plan names, and the brick stays down, as does one whose store can't be opened once more.
pub record StartsDown (layout : Layout) (w : World) (old : List MemDisk) (brick : BrickId) : Type 0 where
  pub down : is_down layout w brick ≡ true
  pub disk : MemDisk
  pub disk_is : slice_get old brick.0 ≡ Some disk
  pub finds : Finds layout brick (w.nodes brick.0) (w.after brick.0) disk

pub record StaysDown (layout : Layout) (w : World) (old new : List MemDisk) (brick : BrickId) (fault : Option Fault) (events : List Event) : Type 0 where
  pub start : StartsDown layout w old brick
  pub may : may_open (start.finds.openings + 1) (w.nodes brick.0) ≡ true
  pub reached : IsReachedOpening layout brick start.disk (plan_of fault)
  pub events_are : events ≡ Stops brick None ∷ []
  pub left : (disk : MemDisk) → slice_get new brick.0 ≡ Some disk
      → IsLeftOpening layout brick (w.nodes brick.0) (w.after brick.0) start.disk start.finds
      (calls_on_opening (formed reached.form (shape_at layout brick)) reached.frames reached.closed) fault disk

pub record IsStarted (layout : Layout) (w : World) (old : List MemDisk) (brick : BrickId) (fault : Option Fault) (events : List Event) : Type 0 where
  pub start : StartsDown layout w old brick
  pub spared : (IsReachedOpening layout brick start.disk (plan_of fault) → ⊥)
      ⊎ (may_open (start.finds.openings + 1) (w.nodes brick.0) ≡ false)
  pub events_are : events ≡ Starts brick (start.finds.openings + 1) start.finds.found ∷ []

-- a start of a brick that is up, or that there is not
pub record IsNoStart (layout : Layout) (w : World) (brick : BrickId) (events : List Event) : Type 0 where
  pub not_down : is_down layout w brick ≡ false
  pub events_are : events ≡ Starts brick 1 Before ∷ []

-- the start of a brick is these events
abbrev pub IsStartOf : Layout → World → List MemDisk → List MemDisk → BrickId → Option Fault → List Event → Type 0
IsStartOf layout w old new brick fault events =
    StaysDown layout w old new brick fault events ⊎ IsStarted layout w old brick fault events ⊎ IsNoStart layout w brick events

-- the delivery of a message is these events
abbrev pub IsDeliveryOf : Layout → World → List MemDisk → List MemDisk → ℕ → Option Fault → List Event → Type 0
IsDeliveryOf layout w old new number fault events =
    StopsMidway layout w old new number fault events ⊎ IsDelivered layout w old number fault events

-- A line is these events, in a run over these disks that leaves these. An operation that runs alone is named by the number of its marks.
abbrev pub IsEventsOf : Layout → World → List MemDisk → List MemDisk → Line → List Event → Type 0
IsEventsOf layout w old new (Deliver k fault) events = IsDeliveryOf layout w old new k fault events
IsEventsOf layout w old new (Crash b) events = (events ≡ Stops (brick_of b) None ∷ []) × (new ≡ old)
IsEventsOf layout w old new (Start b fault) events = IsStartOf layout w old new (brick_of b) fault events
IsEventsOf layout w old new (Calm n bricks) events = IsCalmRun (coding layout) w (operation_marked w n) (map brick_of bricks) events
IsEventsOf layout w old new line events = events ≡ events_of line
