-- What the disks of a run hold, and which of them an event may change.
use Rattle.std.specs.Prelude.{◌≡◌, ◌≢◌, ℕ, Bool, true, false, if◌then◌else◌, List, [], ◌∷◌, length, map, slice_get, Option, Some, None}
use Rattle.fab_base.specs.declared.identities.BrickId.{BrickId}
use Rattle.fab_base.specs.Layouts.{Layout}
use Rattle.fab_disk.specs.MemDisk.{content_of, may_be_left}
use Rattle.fab_disk.specs.declared.mem_disk.MemDisk.{MemDisk}
use Rattle.messages.specs.declared.packets.Packet.{Packet}
use Rattle.fab_disk.specs.Changing.{Stands}
use Rattle.frame_store.specs.declared.shapes.Form.TheVariants.{Old}
use Rattle.frame_store.specs.declared.shapes.Shape.{Shape}
use Rattle.frame_store.specs.Images.{OpensAs}
use Rattle.frame_store.specs.Layouts.{formed}
use Rattle.brick_store.specs.Calls.{IsListedAfter}
use Rattle.brick_store.specs.Images.{IsListed}
use Rattle.brick_store.specs.Openings.{IsListedOnOpening}
use Rattle.brick_store.specs.Sizes.{boot_size, framed}
use Rattle.node.specs.Calls.{packet_append}
use Rattle.node.specs.Running.{shape_at, ImageShows}
use Rattle.protocol.specs.Nodes.{Node}
use Rattle.protocol.specs.Settings.{Setting}
use Rattle.protocol.specs.Worlds.{World, Event, Invokes, Proposes, Syncs, Scrubs, Delivers, Sets, Ticks, Stops, Starts, has_old_stores, is_up, may_start, packet_of, happens}
use Rattle.world.specs.Runs.{Run, world_of, brick_of}
use Rattle.world.specs.EventCalls.{MakesNoCall, is_down}
use Rattle.world.specs.Faults.{in_memory, HoldsOne, found_of}

-- a disk keeps just what this brick of the layout keeps: a crash leaves what a read gives, and that shows the brick
abbrev pub ShowsDisk : Layout → BrickId → Node → MemDisk → Type 0
ShowsDisk layout me node disk = Stands in_memory (ImageShows layout me node) disk

-- so it does while the brick is up; while it is down, its disk holds one of the two that its stop left possible
abbrev pub ShowsDiskOf : Bool → Layout → BrickId → Node → Node → MemDisk → Type 0
ShowsDiskOf true layout me node after disk = ShowsDisk layout me node disk
ShowsDiskOf false layout me node after disk = HoldsOne layout me node after disk

-- there is a disk for each brick of the layout, and it keeps what the machine's brick keeps after the steps
pub record ShowsDisks (r : Run) : Type 0 where
  pub count : length r.disks ≡ r.layout.bricks
  pub each : (i : ℕ) (disk : MemDisk) → slice_get r.disks i ≡ Some disk
      → ShowsDiskOf ((world_of r).up i) r.layout (brick_of i) ((world_of r).nodes i) ((world_of r).after i) disk

-- how many bytes the list of frames of a fresh brick is: the one frame that counts its first opening
abbrev pub first_listed : ℕ
first_listed = framed boot_size

-- the list of a fresh disk is that long; that of an old store is empty
abbrev pub IsFreshList : Bool → Shape → List ℕ → Type 0
IsFreshList true shape image = OpensAs (formed Old shape) [] true image
IsFreshList false shape image = IsListed shape first_listed image

-- so it is of each of these disks, by the numbers of their bricks
abbrev pub AreFreshDisks : Layout → List MemDisk → Type 0
AreFreshDisks layout disks = (i : ℕ) (disk : MemDisk) → slice_get disks i ≡ Some disk
    → IsFreshList (has_old_stores layout) (shape_at layout (brick_of i)) (content_of disk)

-- so it is of each disk of a run
abbrev pub HasFreshDisks : Run → Type 0
HasFreshDisks r = AreFreshDisks r.layout r.disks

-- the receiver of a packet that was sent, where it is up
abbrev pub receiver_of : Layout → World → Option Packet → Option BrickId
receiver_of layout w None = None
receiver_of layout w (Some packet) = if is_up layout w packet.to then Some packet.to else None

-- the brick whose disk an event may change: the one that handles a message, or stops in the midst of that, or is down and starts, or was to start
abbrev pub changes_disk_of : Layout → World → Event → Option BrickId
changes_disk_of layout w (Invokes brick ask) = None
changes_disk_of layout w (Proposes brick group members) = None
changes_disk_of layout w (Syncs brick group) = None
changes_disk_of layout w (Scrubs brick group stripe members) = None
changes_disk_of layout w (Delivers number) = receiver_of layout w (packet_of w.packets number)
changes_disk_of layout w (Sets brick time) = None
changes_disk_of layout w (Ticks brick) = None
changes_disk_of layout w (Stops brick None) = if is_down layout w brick then Some brick else None
changes_disk_of layout w (Stops brick (Some number)) = Some brick
changes_disk_of layout w (Starts brick openings found) = if is_down layout w brick then Some brick else None

-- every disk but that of this brick, if there is one, is as it was
abbrev pub KeepsOthers : Option BrickId → List MemDisk → List MemDisk → Type 0
KeepsOthers None old new = new ≡ old
KeepsOthers (Some brick) old new = (i : ℕ) → i ≢ brick.0 → slice_get new i ≡ slice_get old i

-- a read of the disk gives what it gave, and a crash leaves nothing that it would not have left
pub record IsUnwritten (old new : MemDisk) : Type 0 where
  pub content : content_of new ≡ content_of old
  pub crash : (image : List ℕ) → may_be_left new image → may_be_left old image

-- so it is with each of these
abbrev pub AreUnwritten : List MemDisk → List MemDisk → Type 0
AreUnwritten old new = (i : ℕ) (was disk : MemDisk) → slice_get old i ≡ Some was → slice_get new i ≡ Some disk → IsUnwritten was disk

-- The list of frames of a brick's disk, once it handled a packet: it is longer by what keeps that.
pub record ListsPacket (layout : Layout) (me : BrickId) (node : Node) (packet : Packet) (was disk : MemDisk) : Type 0 where
  pub before : ℕ
  pub after : ℕ
  pub was_listed : IsListed (shape_at layout me) before (content_of was)
  pub is_listed : IsListed (shape_at layout me) after (content_of disk)
  pub longer : IsListedAfter (shape_at layout me) node.live before (packet_append layout me node packet) after

-- The list, once the brick started: it is the one that was found, and the count of the opening.
pub record ListsOpening (layout : Layout) (me : BrickId) (node : Node) (was disk : MemDisk) : Type 0 where
  pub after : ℕ
  pub is_listed : IsListed (shape_at layout me) after (content_of disk)
  pub longer : IsListedOnOpening (shape_at layout me) (content_of was) node.live after

-- so it is of the disk of this brick
abbrev pub OfDisk : BrickId → (MemDisk → MemDisk → Type 0) → List MemDisk → List MemDisk → Type 0
OfDisk brick P old new = (was disk : MemDisk) → slice_get old brick.0 ≡ Some was → slice_get new brick.0 ≡ Some disk → P was disk

-- how long the list of the receiver of a packet is then, where it is up
abbrev pub ListsHandled : Layout → World → Option Packet → List MemDisk → List MemDisk → Type 0
ListsHandled layout w None old new = Unit {0}
ListsHandled layout w (Some packet) old new =
    is_up layout w packet.to ≡ true → OfDisk packet.to (ListsPacket layout packet.to (w.nodes packet.to.0) packet) old new

-- How long the list of an event's brick is after it. Of one that stopped in the midst of it nothing is told here.
abbrev pub ListsEvent : Layout → World → Event → List MemDisk → List MemDisk → Type 0
ListsEvent layout w (Invokes brick ask) old new = Unit {0}
ListsEvent layout w (Proposes brick group members) old new = Unit {0}
ListsEvent layout w (Syncs brick group) old new = Unit {0}
ListsEvent layout w (Scrubs brick group stripe members) old new = Unit {0}
ListsEvent layout w (Delivers number) old new = ListsHandled layout w (packet_of w.packets number) old new
ListsEvent layout w (Sets brick time) old new = Unit {0}
ListsEvent layout w (Ticks brick) old new = Unit {0}
ListsEvent layout w (Stops brick during) old new = Unit {0}
ListsEvent layout w (Starts brick openings found) old new =
    may_start layout w brick openings ≡ true
    → OfDisk brick (ListsOpening layout brick (found_of (w.nodes brick.0) (w.after brick.0) found)) old new

-- An event changes no disk but that of its brick, and nothing of that where it makes no call of it. That one's list is longer by what the event appends.
pub record LeavesDisks (layout : Layout) (w : World) (event : Event) (old new : List MemDisk) : Type 0 where
  pub others : KeepsOthers (changes_disk_of layout w event) old new
  pub still : MakesNoCall layout w event → AreUnwritten old new
  pub lists : ListsEvent layout w event old new

-- each of these events, one after another from this world, changes no disk but that of its brick
abbrev pub KeepsDisks : Setting → World → List Event → List MemDisk → List MemDisk → Type 0
KeepsDisks setting w [] old new = new ≡ old
KeepsDisks setting w (event ∷ events) old new =
    (next : List MemDisk) × LeavesDisks setting.layout w event old next × KeepsDisks setting (happens setting w event) events next new

-- so each did, and after them a read of each disk gives what it gave
pub record LeavesContents (setting : Setting) (w : World) (events : List Event) (old new : List MemDisk) : Type 0 where
  pub mid : List MemDisk
  pub kept : KeepsDisks setting w events old mid
  pub contents : map content_of new ≡ map content_of mid
