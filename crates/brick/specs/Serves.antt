-- What `brick serve` does to its host, once the layout was found, and how it ends.
use Rattle.std.specs.Prelude.{◌≡◌, ◌≢◌, ◌⊎◌, ◌-◌, ◌^◌, ◌<◌, ◌≤◌, ℕ, false, List, ⊤, Option, Some, None, Result, Ok, Err}
use Rattle.std.specs.Io.KnownBytes.{Appends, Keeps}
use Rattle.fab_base.specs.declared.identities.BrickId.{BrickId}
use Rattle.fab_base.specs.Layouts.{Layout}
use Rattle.fab_io.specs.Ends.{Rose, AppendsFront}
use Rattle.fab_host.specs.declared.hosts.Asked.TheVariants as calls
use Rattle.fab_host.specs.Held.{here, IsMissing}
use Rattle.fab_host.specs.Holdings.{Holdings, with_disk, with_link, with_clock}
use Rattle.frame_store.specs.Images.{IsNoStore}
use Rattle.version_log.specs.Versions.{Version}
use Rattle.brick_state.specs.States.{StateOf}
use Rattle.brick_store.specs.declared.faults.OpenFault.{OpenFault}
use Rattle.brick_store.specs.declared.faults.OpenFault.TheVariants as stores
use Rattle.brick_store.specs.Images.{IsFound}
use Rattle.replica.specs.Parts.{ListsStand}
use Rattle.protocol.specs.Nodes as machine
use Rattle.protocol.specs.Nodes.{restarted}
use Rattle.stripe_code.specs.Codes.{coding}
use Rattle.node.specs.Running.{Running, state_of, shape_at, ImageShows, LeavesBrick}
use Rattle.serving.specs.declared.faults.ServeFault.{ServeFault}
use Rattle.serving.specs.declared.faults.ServeFault.TheVariants as faults
use Rattle.serving.specs.Ports.{ports_of, port_of}
use Rattle.serving.specs.Serves.{IsServed}
use Rattle.serving.specs.Views.{SendsAll}
use Rattle.brick.specs.declared.endings.Ending.{Ending}
use Rattle.brick.specs.declared.endings.Ending.TheVariants.{Ended, Usage, Sink, Memory, Disk, Host, NotAStore, Worn}
use Rattle.brick.specs.Endings.{serving_text}
use Rattle.brick.specs.Hosts.{HostSeen, IsRefused, Borrows}
use Rattle.brick.specs.Layouts.{HoldsLayout}
use Rattle.brick.specs.Views.{Views, outside_of}

-- ---- turns

-- how the turns of a brick end the program
abbrev pub ending_of : ℕ → Result ℕ ServeFault → Ending
ending_of turns (Ok malformed) = Ended turns malformed
ending_of turns (Err faults.Disk) = Disk
ending_of turns (Err faults.Halted) = Disk
ending_of turns (Err faults.Link) = Host
ending_of turns (Err faults.Clock) = Host
ending_of turns (Err faults.NoMemory) = Memory

-- the thing that failed is one whose count of faults rose
abbrev pub RoseAt : {D L C : Type 0} → Views D L C → D → D → L → L → C → C → Result ℕ ServeFault → Type 0
RoseAt v disk disk_after link link_after clock clock_after (Err faults.Disk) = Rose (v.disk.faults disk) (v.disk.faults disk_after)
RoseAt v disk disk_after link link_after clock clock_after (Err faults.Link) = Rose (v.link.faults link) (v.link.faults link_after)
RoseAt v disk disk_after link link_after clock clock_after (Err faults.Clock) = Rose (v.clock.faults clock) (v.clock.faults clock_after)
RoseAt v disk disk_after link link_after clock clock_after other = ⊤

-- A started brick said that it serves, and served so many turns over a link and a clock. Each message that it sent could be sent, if a disk's image
-- showed the brick, no operation of it was open, and it had no proposal: of one that was just started over a disk that tells and showed a brick, `IsStarted`
-- says all three.
pub record TakesTurns {D L C : Type 0} (v : Views D L C) (turns : ℕ) (node node_after : Running D) (link link_after : L) (clock clock_after : C)
    (out said : Option (List ℕ)) (ending : Ending) : Type 0 where
  pub result : Result ℕ ServeFault
  pub says : Appends out said (serving_text node.me)
  pub served : IsServed (coding node.layout) node.me (state_of node) (state_of node_after) (outside_of v link clock)
      (outside_of v link_after clock_after) turns result
  pub spelled : SendsAll node
  pub rose : RoseAt v node.brick.disk node_after.brick.disk link link_after clock clock_after result
  pub ends : ending ≡ ending_of turns result

-- the sink failed as this was said, or no memory was left for it
abbrev pub IsUnsaid : Option (List ℕ) → Option (List ℕ) → List ℕ → Ending → Type 0
IsUnsaid out said text Sink = AppendsFront out said text
IsUnsaid out said text Memory = Keeps out said
IsUnsaid out said text other = ⊥

-- All was opened: turns were served; or it could not be said that the brick serves, and none was.
abbrev pub ServesTurns : {D L C : Type 0} → Views D L C → ℕ → Running D → Running D → L → L → C → C → Option (List ℕ) → Option (List ℕ) → Ending → Type 0
ServesTurns v turns node node_after link link_after clock clock_after out said ending =
    (IsUnsaid out said (serving_text node.me) ending × (node_after ≡ node) × (link_after ≡ link) × (clock_after ≡ clock))
    ⊎ TakesTurns v turns node node_after link link_after clock clock_after out said ending

-- ---- the clock, the link and the disk

-- The clock was lent, and turns were to be served; or it was refused.
abbrev pub ServesByClock : {S D L N C : Type 0} → Views D L C → ℕ → HostSeen S D L N C → HostSeen S D L N C → Running D → Running D → L → L
    → Option (List ℕ) → Option (List ℕ) → Ending → Type 0
ServesByClock {S} {D} {L} {N} {C} v turns before after node node_after link link_after out said ending =
    (IsRefused before after calls.Clock ending × (node_after ≡ node) × (link_after ≡ link) × (said ≡ out))
    ⊎ ((clock back : C) × Borrows before after calls.Clock (λ h. h.clock) with_clock clock back
    (λ began ended. (ended ≡ began) × ServesTurns v turns node node_after link link_after clock back out said ending))

-- The link of this port was lent, and then the clock was asked for; or the link was refused.
abbrev pub ServesByLink : {S D L N C : Type 0} → Views D L C → ℕ → ℕ → HostSeen S D L N C → HostSeen S D L N C → Running D → Running D
    → Option (List ℕ) → Option (List ℕ) → Ending → Type 0
ServesByLink {S} {D} {L} {N} {C} v turns port before after node node_after out said ending =
    (IsRefused before after (calls.Link port) ending × (node_after ≡ node) × (said ≡ out))
    ⊎ ((link back : L) × Borrows before after (calls.Link port) (λ h. h.links port) (λ h. with_link h port) link back
    (λ began ended. ServesByClock v turns began ended node node_after link back out said ending))

-- The brick that a disk's store is: there was one that was not opened as often as it can be, and the brick is what the disk showed, started
-- once more, and what the disk shows now. It is not halted: only a turn in which the disk's
-- count of faults rises halts it.
pub record IsStarted {D L C : Type 0} (v : Views D L C) (layout : Layout) (me : BrickId) (disk : D) (node : Running D) : Type 0 where
  pub layout_is : node.layout ≡ layout
  pub me_is : node.me ≡ me
  pub runs : node.brick.halted ≡ false
  pub found : v.disk.tells → (st : StateOf Version) × IsFound (shape_at layout me) st (v.disk.seen disk) × (st.boot < 2 ^ 32 - 1)
  pub state : v.disk.tells → (before : machine.Node) → ImageShows layout me before (v.disk.seen disk) → state_of node ≡ restarted 1 before
  pub shows : v.disk.tells → ImageShows layout me (state_of node) (v.disk.seen node.brick.disk)
  pub later : v.disk.faults disk ≤ v.disk.faults node.brick.disk

-- what a disk shows that is given back, where it is whole: the brick as it is then, also after a crash
pub record IsLeft {D L C : Type 0} (v : Views D L C) (layout : Layout) (me : BrickId) (node : Running D) (back : D) (whole : Type 0) : Type 0 where
  pub disk : back ≡ node.brick.disk
  pub shows : v.disk.tells → whole → ImageShows layout me (state_of node) (v.disk.seen back)
  pub durable : v.disk.tells → whole → LeavesBrick layout me (state_of node) (v.disk.may_leave back)

-- The disk's store was opened, and then the link of the brick's port was asked for. The disk is whole unless it failed.
pub record ServesStarted {S D L N C : Type 0} (v : Views D L C) (layout : Layout) (me : BrickId) (turns : ℕ) (disk back : D)
    (before after : HostSeen S D L N C) (out said : Option (List ℕ)) (ending : Ending) : Type 0 where
  pub node : Running D
  pub node_after : Running D
  pub started : IsStarted v layout me disk node
  pub serves : ServesByLink v turns (port_of (ports_of layout) me) before after node node_after out said ending
  pub left : IsLeft v layout me node_after back (ending ≢ Disk)

-- how a store that is not opened ends the program
abbrev pub refusal_of : OpenFault → Ending
refusal_of stores.Disk = Disk
refusal_of stores.NotAStore = NotAStore
refusal_of stores.Worn = Worn
refusal_of other = Memory

-- what a read of the disk gives is as it was, and so is what a crash may leave
pub record IsUnharmed {D L C : Type 0} (v : Views D L C) (disk back : D) : Type 0 where
  pub content : v.disk.seen back ≡ v.disk.seen disk
  pub crash : (image : List ℕ) → v.disk.may_leave back image → v.disk.may_leave disk image

-- Why it is not opened: the disk holds no store, and is unharmed, or one that keeps a list which may not be the members of a group of the layout; or one that
-- was opened as often as it can be, and is unharmed; or the disk failed, or no memory was left.
abbrev pub RefusesStore : {D L C : Type 0} → Views D L C → Layout → BrickId → D → D → Ending → Type 0
RefusesStore v layout me disk back NotAStore = v.disk.tells → (IsNoStore (shape_at layout me) (v.disk.seen disk) × IsUnharmed v disk back)
    ⊎ ((st : StateOf Version) × IsFound (shape_at layout me) st (v.disk.seen disk) × (ListsStand layout st → ⊥))
RefusesStore v layout me disk back Worn =
    IsUnharmed v disk back × (v.disk.tells → (st : StateOf Version) × IsFound (shape_at layout me) st (v.disk.seen disk) × (st.boot ≡ 2 ^ 32 - 1))
RefusesStore v layout me disk back Disk = Rose (v.disk.faults disk) (v.disk.faults back)
RefusesStore v layout me disk back Memory = ⊤
RefusesStore v layout me disk back other = ⊥

-- a disk was lent: its store was opened; or it was not, and nothing else was asked for
abbrev pub ServesOver : {S D L N C : Type 0} → Views D L C → Layout → BrickId → ℕ → D → D → HostSeen S D L N C → HostSeen S D L N C
    → Option (List ℕ) → Option (List ℕ) → Ending → Type 0
ServesOver v layout me turns disk back before after out said ending =
    (RefusesStore v layout me disk back ending × (after ≡ before) × (said ≡ out))
    ⊎ ServesStarted v layout me turns disk back before after out said ending

-- The disk of this name was lent, and its store was to be opened; or the disk was refused.
abbrev pub ServesByDisk : {S D L N C : Type 0} → Views D L C → Layout → BrickId → ℕ → HostSeen S D L N C → HostSeen S D L N C → List ℕ
    → Option (List ℕ) → Option (List ℕ) → Ending → Type 0
ServesByDisk {S} {D} {L} {N} {C} v layout me turns before after name out said ending =
    (IsRefused before after (calls.Disk name false) ending × (said ≡ out))
    ⊎ ((disk back : D) × Borrows before after (calls.Disk name false) (λ h. h.disks name) (λ h. with_disk h name) disk back
    (λ began ended. ServesOver v layout me turns disk back began ended out said ending))

-- A layout was found; a brick that it has not is refused, and else the disk was asked for.
abbrev pub ServesBrick : {S D L N C : Type 0} → Views D L C → Layout → Option BrickId → ℕ → HostSeen S D L N C → HostSeen S D L N C → List ℕ
    → Option (List ℕ) → Option (List ℕ) → Ending → Type 0
ServesBrick v layout None turns before after name out said ending = (ending ≡ Usage) × (after ≡ before) × (said ≡ out)
ServesBrick v layout (Some me) turns before after name out said ending =
    ServesByDisk v layout me turns before after name out said ending

-- ---- what may be served

-- the disk tells the store of this layout and brick, each list of which may be the members of its group, and which can be opened
pub record MayStart {D : Type 0} (tells : Type 0) (seen : D → List ℕ) (layout : Layout) (me : BrickId) (disk : D) : Type 0 where
  pub told : tells
  pub st : StateOf Version
  pub found : IsFound (shape_at layout me) st (seen disk)
  pub lists : ListsStand layout st
  pub openable : st.boot < 2 ^ 32 - 1

-- the host holds the clock, to be lent
abbrev pub HasClock : {S D L N C : Type 0} → Holdings S D L N C → Type 0
HasClock h = IsMissing h.clock → ⊥

-- and the link of this port
pub record HasLink {S D L N C : Type 0} (port : ℕ) (h : Holdings S D L N C) : Type 0 where
  pub link : IsMissing (h.links port) → ⊥
  pub clock : HasClock h

-- and, under this name, a disk that may be started
pub record HasDisk {S D L N C : Type 0} (tells : Type 0) (seen : D → List ℕ) (layout : Layout) (me : BrickId) (name : List ℕ)
    (h : Holdings S D L N C) : Type 0 where
  pub disk : D
  pub held : h.disks name ≡ here disk
  pub starts : MayStart tells seen layout me disk
  pub others : HasLink (port_of (ports_of layout) me) h

-- The host holds a source with the text of a layout, which has the brick, a disk that is its store, the link of its port, and the clock.
pub record MayServe {S D L N C : Type 0} (told : S → Option (List ℕ)) (tells : Type 0) (seen : D → List ℕ) (h : Holdings S D L N C) (source disk : List ℕ)
    (id : ℕ) : Type 0 where
  pub layout : Layout
  pub holds : HoldsLayout told h source layout
  pub has : id < layout.bricks
  pub store : HasDisk tells seen layout (record { 0 = id }) disk h
