-- What `brick local` and `brick nbd` do to their host, once the layout was found, and how they end.
use Rattle.std.specs.Prelude.{◌≡◌, ◌≢◌, ◌⊎◌, ℕ, zero, suc, ◌+◌, ◌-◌, ◌<◌, ◌≤◌, false, List, [], ◌∷◌, ◌++◌, codes, ⊤, Option}
use Rattle.std.specs.Fmt.{decimal}
use Rattle.std.specs.List.{AllByRecursion}
use Rattle.fab_base.specs.declared.identities.BrickId.{BrickId}
use Rattle.fab_base.specs.Layouts.{Layout}
use Rattle.fab_disk.specs.declared.disk.Disk as on_disk
use Rattle.fab_io.specs.Ends.{Rose}
use Rattle.fab_io.specs.declared.clocks.Clock as on_clock
use Rattle.fab_io.specs.declared.links.Link as on_link
use Rattle.fab_host.specs.declared.hosts.Asked.TheVariants as calls
use Rattle.fab_host.specs.Held.{here, IsMissing}
use Rattle.fab_host.specs.Holdings.{Holdings, with_source, with_disk, with_link, with_session, with_clock}
use Rattle.node.specs.Running.{Running, IsSameBrick}
use Rattle.serving.specs.Ports.{ports_of, port_of}
use Rattle.hosting.specs.declared.faults.HostFault.{HostFault}
use Rattle.hosting.specs.declared.faults.HostFault.TheVariants as faults
use Rattle.hosting.specs.declared.hosted_bricks.TimedBricks.{TimedBricks}
use Rattle.hosting.specs.Hosted.{Hosted, Begins, AreSound, TakeTurns, StopTurns}
use Rattle.hosting.specs.Faults.{fault_of}
use Rattle.hosting.specs.Hosting.{Hosts, HostsUntil}
use Rattle.hosting.specs.Rounds as client
use Rattle.nbd_front.specs.declared.steps.End.{End}
use Rattle.nbd_hosting.specs.Serving as nbd
use Rattle.serving.specs.declared.faults.ServeFault.{ServeFault}
use Rattle.brick.specs.declared.endings.Ending.{Ending}
use Rattle.brick.specs.declared.endings.Ending.TheVariants.{Commanded, Served, Source, Sink, Memory, Disk, Host}
use Rattle.brick_words.specs.declared.words.Task.{Task}
use Rattle.brick_words.specs.declared.words.Task.TheVariants.{Commands, Session}
use Rattle.brick.specs.Endings.{status_of}
use Rattle.brick.specs.Hosts.{HostSeen, IsRefused, Borrows}
use Rattle.brick.specs.Layouts.{HoldsLayout}
use Rattle.brick.specs.Serves.{IsStarted, IsLeft, RefusesStore, MayStart, HasClock}
use Rattle.brick.specs.Views.{Views, Streams, SessionView}

-- ---- the commands

-- the name of the source of the commands: standard input
abbrev pub standard_input : List ℕ
standard_input = codes "-"

-- the bricks that a process hosts, with their clock; there is room for all bricks of the layout
abbrev pub timed : {D L C : Type 0} → Layout → List (Hosted D L) → C → TimedBricks D L C
timed layout bricks clock = record { bricks = record { bricks = bricks; room = layout.bricks }; clock = clock }

-- each brick took a turn, in order; or one was stopped in it
abbrev pub Takes : {D L C : Type 0} → Views D L C → TimedBricks D L C → TimedBricks D L C → Type 0
Takes v before after = TakeTurns v.disk v.link v.clock before.bricks.bricks after.bricks.bricks before.clock after.clock

abbrev pub Stops : {D L C : Type 0} → Views D L C → TimedBricks D L C → TimedBricks D L C → HostFault → Type 0
Stops v before after fault = (met : ServeFault) × (fault ≡ fault_of met)
    × StopTurns v.disk v.link v.clock met before.bricks.bricks after.bricks.bricks before.clock after.clock

-- how a fault of a run of commands ends the program
abbrev pub ending_by : HostFault → Ending
ending_by faults.Disk = Disk
ending_by faults.Link = Host
ending_by faults.ClientLink = Host
ending_by faults.Clock = Host
ending_by faults.Source = Source
ending_by faults.Sink = Sink
ending_by faults.NoMemory = Memory

-- no brick is halted
abbrev pub AreRunning : {D L : Type 0} → List (Hosted D L) → Type 0
AreRunning bricks = AllByRecursion (λ brick. brick.node.brick.halted ≡ false) bricks

-- the count of faults of the disk of one of these bricks rose
abbrev pub RoseIn : {D L C : Type 0} → Views D L C → List (Hosted D L) → List (Hosted D L) → Type 0
RoseIn v [] [] = ⊥
RoseIn v (brick ∷ more) (after ∷ more_after) =
    Rose (v.disk.faults brick.node.brick.disk) (v.disk.faults after.node.brick.disk) ⊎ RoseIn v more more_after
RoseIn v bricks bricks_after = ⊥

-- What failed is counted: the disk of a brick, if none was halted before, the client's link, or the source. The turns of the bricks tell it of their links
-- and the clock.
abbrev pub RoseBy : {D L C : Type 0} → Views D L C → HostFault → List (Hosted D L) → List (Hosted D L) → ℕ → ℕ → ℕ → ℕ → Type 0
RoseBy v faults.Disk bricks bricks_after link link_after source source_after = AreRunning bricks → RoseIn v bricks bricks_after
RoseBy v faults.ClientLink bricks bricks_after link link_after source source_after = Rose link link_after
RoseBy v faults.Source bricks bricks_after link link_after source source_after = Rose source source_after
RoseBy v other bricks bricks_after link link_after source source_after = ⊤

-- The commands of a source were run over the bricks, until the turns were used up or the source was at its end; or until a fault.
abbrev pub RunsCommands : {S D L C : Type 0} → (S → Option (List ℕ)) → (S → ℕ) → Views D L C → Layout → ℕ → TimedBricks D L C → TimedBricks D L C
    → L → L → S → S → Option (List ℕ) → Option (List ℕ) → Ending → Type 0
RunsCommands told failed v layout turns bricks bricks_after link link_after source source_after out said ending =
    ((ending ≡ Commanded) × Hosts (Takes v) layout turns (told source) (told source_after) (client.told (v.link.waiting link) (v.link.sent link))
    (client.told (v.link.waiting link_after) (v.link.sent link_after)) bricks bricks_after out said)
    ⊎ ((fault : HostFault) × (ending ≡ ending_by fault) × HostsUntil (Takes v) (Stops v) layout turns (told source) (told source_after)
    (client.told (v.link.waiting link) (v.link.sent link)) (client.told (v.link.waiting link_after) (v.link.sent link_after)) bricks bricks_after out said fault
    × RoseBy v fault bricks.bricks.bricks bricks_after.bricks.bricks (v.link.faults link) (v.link.faults link_after) (failed source) (failed source_after))

-- ---- the source or the session, the client's link and the clock

-- The source was lent, and its commands were run; or it was refused.
abbrev pub HostsBySource : {S D L N C : Type 0} → Streams S N → Views D L C → Layout → ℕ → HostSeen S D L N C → HostSeen S D L N C
    → TimedBricks D L C → TimedBricks D L C → L → L → Option (List ℕ) → Option (List ℕ) → Ending → Type 0
HostsBySource {S} {D} {L} {N} {C} e v layout turns before after bricks bricks_after link link_after out said ending =
    (IsRefused before after (calls.Source standard_input) ending × (bricks_after ≡ bricks) × (link_after ≡ link) × (said ≡ out))
    ⊎ ((source back : S) × Borrows before after (calls.Source standard_input) (λ h. h.sources standard_input) (λ h. with_source h standard_input) source back
    (λ began ended. (ended ≡ began) × RunsCommands e.told e.failed v layout turns bricks bricks_after link link_after source back out said ending))

-- what is outside of the server of a session: its client, the bricks, and the link to them
abbrev pub around : {D L C N : Type 0} → SessionView N → Views D L C → N → L → TimedBricks D L C → nbd.Outside (TimedBricks D L C)
around n v session link bricks = nbd.outside (n.coming session) (client.told (v.link.waiting link) (v.link.sent link)) bricks (n.taken session)

-- The client of a session was served over the bricks, until the session ended; or until a fault. If the session's sink failed, that is counted too.
abbrev pub RunsSession : {D L C N : Type 0} → SessionView N → Views D L C → Layout → ℕ → TimedBricks D L C → TimedBricks D L C → L → L → N → N
    → Ending → Type 0
RunsSession n v layout turns bricks bricks_after link link_after session back ending =
    ((end : End) × (ending ≡ Served end)
    × nbd.ServesSession (Takes v) layout turns (around n v session link bricks) (around n v back link_after bricks_after) end)
    ⊎ ((fault : HostFault) × (ending ≡ ending_by fault)
    × nbd.ServesUntil (Takes v) (Stops v) layout turns (around n v session link bricks) (around n v back link_after bricks_after) fault
    × RoseBy v fault bricks.bricks.bricks bricks_after.bricks.bricks (v.link.faults link) (v.link.faults link_after) (n.source_failed session)
    (n.source_failed back) × (fault ≡ faults.Sink → Rose (n.sink_failed session) (n.sink_failed back)))

-- The session of this port was lent, and its client was served; or it was refused.
abbrev pub HostsBySession : {S D L N C : Type 0} → SessionView N → Views D L C → Layout → ℕ → ℕ → HostSeen S D L N C → HostSeen S D L N C
    → TimedBricks D L C → TimedBricks D L C → L → L → Ending → Type 0
HostsBySession {S} {D} {L} {N} {C} n v layout port turns before after bricks bricks_after link link_after ending =
    (IsRefused before after (calls.Session port) ending × (bricks_after ≡ bricks) × (link_after ≡ link))
    ⊎ ((session back : N) × Borrows before after (calls.Session port) (λ h. h.sessions port) (λ h. with_session h port) session back
    (λ began ended. (ended ≡ began) × RunsSession n v layout turns bricks bricks_after link link_after session back ending))

-- The task was done with the bricks, over the client's link. Nothing is printed while a session is served.
abbrev pub DoesTask : {S D L N C : Type 0} → Streams S N → Views D L C → Layout → Task → HostSeen S D L N C → HostSeen S D L N C
    → TimedBricks D L C → TimedBricks D L C → L → L → Option (List ℕ) → Option (List ℕ) → Ending → Type 0
DoesTask e v layout (Commands turns) before after bricks bricks_after link link_after out said ending =
    HostsBySource e v layout turns before after bricks bricks_after link link_after out said ending
DoesTask e v layout (Session port turns) before after bricks bricks_after link link_after out said ending =
    HostsBySession e.session v layout port turns before after bricks bricks_after link link_after ending × (said ≡ out)

-- The client's link was lent, at any free port, and then the task was done; or the link was refused.
abbrev pub HostsByClient : {S D L N C : Type 0} → Streams S N → Views D L C → Layout → Task → HostSeen S D L N C → HostSeen S D L N C
    → TimedBricks D L C → TimedBricks D L C → Option (List ℕ) → Option (List ℕ) → Ending → Type 0
HostsByClient {S} {D} {L} {N} {C} e v layout task before after bricks bricks_after out said ending =
    (IsRefused before after (calls.Link 0) ending × (bricks_after ≡ bricks) × (said ≡ out))
    ⊎ ((link back : L) × Borrows before after (calls.Link 0) (λ h. h.links 0) (λ h. with_link h 0) link back
    (λ began ended. DoesTask e v layout task began ended bricks bricks_after link back out said ending))

-- The clock was lent to the bricks, and then the client's link was asked for; or the clock was refused.
abbrev pub HostsByClock : {S D L N C : Type 0} → Streams S N → Views D L C → Layout → Task → HostSeen S D L N C → HostSeen S D L N C
    → List (Hosted D L) → List (Hosted D L) → Option (List ℕ) → Option (List ℕ) → Ending → Type 0
HostsByClock {S} {D} {L} {N} {C} e v layout task before after bricks bricks_after out said ending =
    (IsRefused before after calls.Clock ending × (bricks_after ≡ bricks) × (said ≡ out))
    ⊎ ((clock : C) × (timed_after : TimedBricks D L C) × (timed_after.bricks.bricks ≡ bricks_after)
    × Borrows before after calls.Clock (λ h. h.clock) with_clock clock timed_after.clock
    (λ began ended. HostsByClient e v layout task began ended (timed layout bricks clock) timed_after out said ending))

-- The program's own sink failed, if the program ends so: it takes nothing while a session is served.
abbrev pub FailsOut : Task → Ending → Type 0
FailsOut (Commands turns) ending = status_of ending ≡ 6
FailsOut (Session port turns) ending = ⊥

-- ---- the bricks, one after another

-- the same bricks, in order
abbrev pub AreSame : {D L : Type 0} → List (Hosted D L) → List (Hosted D L) → Type 0
AreSame [] [] = Unit {0}
AreSame (brick ∷ more) (after ∷ more_after) = IsSameBrick brick.node after.node × AreSame more more_after
AreSame bricks bricks_after = ⊥

-- What was done with the bricks and the client's link leaves the same bricks, in order. If none was halted none is, unless the disk failed; and where they, their
-- clock and the link were sound they are.
pub record KeepsHosted {D L C : Type 0} (d : on_disk.Ghosts D) (l : on_link.Ghosts L) (c : on_clock.Ghosts C) (before after : TimedBricks D L C)
    (over over_after : L) (ending : Ending) : Type 0 where
  pub same : AreSame before.bricks.bricks after.bricks.bricks
  pub runs_still : AreRunning before.bricks.bricks → ending ≢ Disk → AreRunning after.bricks.bricks
  pub bricks : AreSound d l c before.bricks.bricks before.clock → AreSound d l c after.bricks.bricks after.clock
  pub link : l.sound over → l.sound over_after

-- what is done with the bricks that were started so far, and with the host
abbrev pub Deed : Type 0 → Type 0 → Type 0 → Type 0 → Type 0 → Type 1
Deed S D L N C = List (Hosted D L) → List (Hosted D L) → HostSeen S D L N C → HostSeen S D L N C → Type 0

-- The link of this port was lent to a brick, and the brick stood behind those that were started before it for what was done next; or the link was refused.
abbrev pub HostsByLink : {S D L N C : Type 0} → ℕ → Deed S D L N C → HostSeen S D L N C → HostSeen S D L N C → List (Hosted D L) → List (Hosted D L)
    → Running D → Running D → Option (List ℕ) → Option (List ℕ) → Ending → Type 0
HostsByLink {S} {D} {L} {N} {C} port next before after bricks bricks_after node node_after out said ending =
    (IsRefused before after (calls.Link port) ending × (bricks_after ≡ bricks) × (node_after ≡ node) × (said ≡ out))
    ⊎ ((link back : L) × Borrows before after (calls.Link port) (λ h. h.links port) (λ h. with_link h port) link back
    (λ began ended. (brick brick_after : Hosted D L) × Begins brick node link × (brick_after.node ≡ node_after) × (brick_after.link ≡ back)
    × next (bricks ++ brick ∷ []) (bricks_after ++ brick_after ∷ []) began ended))

-- The disk's store was opened, and then the link of the brick's port was asked for. The disk is whole, but where a disk failed and the brick is halted.
pub record HostsStarted {S D L N C : Type 0} (v : Views D L C) (layout : Layout) (me : BrickId) (next : Deed S D L N C) (disk back : D)
    (before after : HostSeen S D L N C) (bricks bricks_after : List (Hosted D L)) (out said : Option (List ℕ)) (ending : Ending) : Type 0 where
  pub node : Running D
  pub node_after : Running D
  pub started : IsStarted v layout me disk node
  pub hosts : HostsByLink (port_of (ports_of layout) me) next before after bricks bricks_after node node_after out said ending
  pub left : IsLeft v layout me node_after back (ending ≡ Disk → node_after.brick.halted ≡ false)

-- a disk was lent: its store was opened; or it was not, and nothing else was asked for
abbrev pub HostsOver : {S D L N C : Type 0} → Views D L C → Layout → BrickId → Deed S D L N C → D → D → HostSeen S D L N C → HostSeen S D L N C
    → List (Hosted D L) → List (Hosted D L) → Option (List ℕ) → Option (List ℕ) → Ending → Type 0
HostsOver v layout me next disk back before after bricks bricks_after out said ending =
    (RefusesStore v layout me disk back ending × (after ≡ before) × (bricks_after ≡ bricks) × (said ≡ out))
    ⊎ HostsStarted v layout me next disk back before after bricks bricks_after out said ending

-- The disk of this name was lent, and its store was to be opened; or the disk was refused.
abbrev pub HostsByDisk : {S D L N C : Type 0} → Views D L C → Layout → BrickId → List ℕ → Deed S D L N C → HostSeen S D L N C → HostSeen S D L N C
    → List (Hosted D L) → List (Hosted D L) → Option (List ℕ) → Option (List ℕ) → Ending → Type 0
HostsByDisk {S} {D} {L} {N} {C} v layout me name next before after bricks bricks_after out said ending =
    (IsRefused before after (calls.Disk name false) ending × (bricks_after ≡ bricks) × (said ≡ out))
    ⊎ ((disk back : D) × Borrows before after (calls.Disk name false) (λ h. h.disks name) (λ h. with_disk h name) disk back
    (λ began ended. HostsOver v layout me next disk back began ended bricks bricks_after out said ending))

-- the name of the disk of a brick: the prefix, a dot and its number
abbrev pub disk_name : List ℕ → BrickId → List ℕ
disk_name prefix me = prefix ++ (codes "." ++ decimal me.0)

-- The bricks that are left were hosted, from this number on, beside those that were started; past the last one the task was done.
abbrev pub HostsBricks : {S D L N C : Type 0} → Streams S N → Views D L C → Layout → List ℕ → Task → Option (List ℕ) → Option (List ℕ)
    → Ending → ℕ → ℕ → Deed S D L N C
HostsBricks e v layout prefix task out said ending zero id bricks bricks_after before after =
    HostsByClock e v layout task before after bricks bricks_after out said ending
HostsBricks e v layout prefix task out said ending (suc left) id bricks bricks_after before after =
    HostsByDisk v layout (record { 0 = id }) (disk_name prefix (record { 0 = id }))
    (HostsBricks e v layout prefix task out said ending left (id + 1)) before after bricks bricks_after out said ending

-- the bricks of a layout from this number on
abbrev pub HostsFrom : {S D L N C : Type 0} → Streams S N → Views D L C → Layout → List ℕ → Task → Option (List ℕ) → Option (List ℕ)
    → Ending → ℕ → Deed S D L N C
HostsFrom e v layout prefix task out said ending id =
    HostsBricks e v layout prefix task out said ending (layout.bricks - id) id

-- A layout was found: all its bricks were hosted, from the first on; or there was no memory for them, and nothing was asked for.
abbrev pub HostsLayout : {S D L N C : Type 0} → Streams S N → Views D L C → Layout → List ℕ → Task → HostSeen S D L N C → HostSeen S D L N C
    → Option (List ℕ) → Option (List ℕ) → Ending → Type 0
HostsLayout e v layout prefix task before after out said ending =
    ((ending ≡ Memory) × (after ≡ before) × (said ≡ out))
    ⊎ HostsFrom e v layout prefix task out said ending 0 [] [] before after

-- ---- what may be hosted

-- the host holds standard input, to be lent
abbrev pub HasCommands : {S D L N C : Type 0} → Holdings S D L N C → Type 0
HasCommands h = IsMissing (h.sources standard_input) → ⊥

-- or the session of this port
abbrev pub HasSession : {S D L N C : Type 0} → ℕ → Holdings S D L N C → Type 0
HasSession port h = IsMissing (h.sessions port) → ⊥

-- it holds the one that this task is done with
abbrev pub HasTask : {S D L N C : Type 0} → Task → Holdings S D L N C → Type 0
HasTask (Commands turns) h = HasCommands h
HasTask (Session port turns) h = HasSession port h

-- and a link for the client
abbrev pub HasClient : {S D L N C : Type 0} → Task → Holdings S D L N C → Type 0
HasClient task h = (IsMissing (h.links 0) → ⊥) × HasTask task h

-- and the clock
abbrev pub HasEnds : {S D L N C : Type 0} → Task → Holdings S D L N C → Type 0
HasEnds task h = HasClock h × HasClient task h

-- the host holds, under its name, a disk that may be started as this brick, and the link of its port
pub record HasBrick {S D L N C : Type 0} (tells : Type 0) (seen : D → List ℕ) (layout : Layout) (prefix : List ℕ) (me : BrickId)
    (h : Holdings S D L N C) : Type 0 where
  pub disk : D
  pub held : h.disks (disk_name prefix me) ≡ here disk
  pub starts : MayStart tells seen layout me disk
  pub link : IsMissing (h.links (port_of (ports_of layout) me)) → ⊥

-- the same for each brick of the layout from this number on; and the rest
pub record HasBricks {S D L N C : Type 0} (tells : Type 0) (seen : D → List ℕ) (layout : Layout) (prefix : List ℕ) (task : Task) (id : ℕ)
    (h : Holdings S D L N C) : Type 0 where
  pub each : (k : ℕ) → id ≤ k → k < layout.bricks → HasBrick tells seen layout prefix (record { 0 = k }) h
  pub ends : HasEnds task h

-- the same once the disk of this brick was lent: its link, and the bricks behind it
pub record HasRest {S D L N C : Type 0} (tells : Type 0) (seen : D → List ℕ) (layout : Layout) (prefix : List ℕ) (task : Task) (me : BrickId)
    (h : Holdings S D L N C) : Type 0 where
  pub link : IsMissing (h.links (port_of (ports_of layout) me)) → ⊥
  pub bricks : HasBricks tells seen layout prefix task (me.0 + 1) h

-- The host holds a source with the text of a layout, the store of each of its bricks and the links of their ports, the clock, a link for the client,
-- and what the task is done with.
pub record MayHost {S D L N C : Type 0} (told : S → Option (List ℕ)) (tells : Type 0) (seen : D → List ℕ) (h : Holdings S D L N C) (source prefix : List ℕ)
    (task : Task) : Type 0 where
  pub layout : Layout
  pub holds : HoldsLayout told h source layout
  pub bricks : HasBricks tells seen layout prefix task 0 h
